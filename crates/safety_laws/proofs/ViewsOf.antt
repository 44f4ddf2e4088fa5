-- The views of a process and what it delivered in them, by number.
use Rattle.std.proofs.Common.{◌≡◌, inl, ℕ, suc, ◌<◌, [], ◌∷◌, map, length, Some, refl, sym, ap, ◌∙◌, subst, arith, slice_get}
use Rattle.std.specs.Prelude.{slice_index_or}
use Rattle.std.proofs.lemmas.List.{length-map}
use Rattle.group_defs.specs.Views.{View}
use Rattle.group_defs.specs.Process.{Left, Process, views_of, deliveries_of}
use Rattle.group_defs.specs.Laws.{HasGrown}
use Rattle.pool_laws.proofs.Members.{Mem, mem-append, mem-behind}
use Rattle.pool_laws.proofs.Places.{get-some, index-beyond, index-is, length-snoc, map-get, slice_get-front, slice_get-last, slice_get-length}

pub current-view : (p : Process) → Mem p.pool.view (views_of p)
current-view p = mem-behind (map (λ (l : Left). l.view) p.left) (p.pool.view ∷ []) p.pool.view (inl refl)

-- the view of a moment was installed
pub moment-view : (q p : Process) → HasGrown q p → Mem q.pool.view (views_of p)
moment-view q p grown = subst (Mem q.pool.view) grown.views.1 (mem-append (views_of q) grown.views.0 q.pool.view (current-view q))

pub length-views : (p : Process) → length (views_of p) ≡ suc (length p.left)
length-views p = length-snoc (map (λ (l : Left). l.view) p.left) p.pool.view ∙ ap suc (length-map p.left (λ (l : Left). l.view))

-- the current view stands behind those that were left
pub current-at : (p : Process) → slice_get (views_of p) (length p.left) ≡ Some p.pool.view
current-at p = slice_get-last (map (λ (l : Left). l.view) p.left) p.pool.view (length p.left)
    (sym (length-map p.left (λ (l : Left). l.view)))

-- the view before another was left
pub left-before : (p : Process) (x : ℕ) (v : View) → slice_get (views_of p) (suc x) ≡ Some v → (l : Left) × (slice_get p.left x ≡ Some l)
left-before p x v at = get-some p.left x
    (let lt = slice_get-length (views_of p) (suc x) v at in let long = length-views p in omega (arith, lt, long))

pub left-view : (p : Process) (x : ℕ) (l : Left) → slice_get p.left x ≡ Some l → slice_get (views_of p) x ≡ Some l.view
left-view p x l at = slice_get-front (map (λ (l : Left). l.view) p.left)
    (p.pool.view ∷ []) x l.view (map-get (λ (l : Left). l.view) p.left x l at)

pub left-delivered : (p : Process) (y : ℕ) (l : Left) → slice_get p.left y ≡ Some l → slice_index_or (deliveries_of p) y [] ≡ l.delivered
left-delivered p y l at = index-is (deliveries_of p) y [] l.delivered
    (slice_get-front (map (λ (l : Left). l.delivered) p.left)
    (p.delivered ∷ []) y l.delivered (map-get (λ (l : Left). l.delivered) p.left y l at))

pub current-delivered : (p : Process) → slice_index_or (deliveries_of p) (length p.left) [] ≡ p.delivered
current-delivered p = index-is (deliveries_of p)
    (length p.left) [] p.delivered
    (slice_get-last (map (λ (l : Left). l.delivered) p.left) p.delivered (length p.left)
    (sym (length-map p.left (λ (l : Left). l.delivered))))

pub nothing-later : (p : Process) (y : ℕ) → length p.left < y → slice_index_or (deliveries_of p) y [] ≡ []
nothing-later p y lt = index-beyond (deliveries_of p) y []
    (let one = length-snoc (map (λ (l : Left). l.delivered) p.left) p.delivered in let two = length-map p.left
    (λ (l : Left). l.delivered) in omega (arith, one, two, lt))
