-- View by view: how many messages were delivered, whether the process was a member, and the store.
use Rattle.std.proofs.Common.{◌≡◌, ℕ, zero, suc, ◌+◌, ◌<◌, ◌≤◌, List, [], ◌∷◌, map, length, take, drop, get_or, Bool, true, false, refl, sym, ap, ◌∙◌, arith, add-one, drop-cons, Vec, Global}
use Rattle.std.specs.Prelude.{◌&&◌, ◌||◌, slice_index_or, min}
use Rattle.std.specs.List.{list_any}
use Rattle.std.proofs.lemmas.List.{length-map}
use Rattle.accounts.specs.Views.{delivery}
use Rattle.group_defs.specs.Views.{View, is_member}
use Rattle.group_defs.specs.Process as process
use Rattle.group_defs.specs.Accounts.{Account, delivered_in}
use Rattle.member_events.specs.declared.events.Delivered.{Delivered}
use Rattle.store_defs.specs.Stores.{Store, store_after}
use Rattle.store_defs.specs.Holding.{delivered_below, payloads_of, stayed, store_over, was_member}
use Rattle.store_server.specs.Beginning.{lists_of}
use Rattle.store_server.proofs.Begun.{left-once}

-- what is made of the element at a place
index-mapped : {A B : Type 0} (f : A → B) (xs : List A) (i : ℕ) (x : A) (d : B) → i < length xs → x ≡ get_or xs i x
    → slice_index_or (map f xs) i d ≡ f x
index-mapped f [] i x d lt is = absurd (omega (arith, lt))
index-mapped f (y ∷ xs) zero x d lt is = ap f (sym is)
index-mapped f (y ∷ xs) (suc i) x d lt is = index-mapped f xs i x d (omega (arith, lt)) is

-- ---- how many messages

counted : (most so_far more total after : ℕ) → total ≡ min so_far most → after ≡ min (total + min more most) most
    → after ≡ min (so_far + more) most
counted most so_far more total after is next = omega (arith, is, next)

pub count_more : (a : Account) (lists : List (Vec Delivered Global)) (i : ℕ) (ds : Vec Delivered Global) (most total after : ℕ)
    → a.delivered ≡ lists_of lists → i < length lists → ds ≡ get_or lists i ds → total ≡ min (delivered_below a i) most
    → after ≡ min (total + min (length ds.items) most) most → after ≡ min (delivered_below a (i + 1)) most
unfolding delivered_below
count_more a lists i ds most total after reported lt is total_is after_is =
    let here : delivered_in a i ≡ map delivery ds.items =
    ap (λ (ls : List (List process.Delivered)). slice_index_or ls i []) reported
    ∙ index-mapped (λ (es : Vec Delivered Global). map delivery es.items) lists i ds [] lt is in
    let many : length (delivered_in a i) ≡ length ds.items = ap length here ∙ length-map ds.items delivery in
    counted most (delivered_below a i) (length ds.items) total after total_is after_is
    ∙ ap (λ (n : ℕ). min (delivered_below a i + n) most) (sym many)
    ∙ ap (λ (n : ℕ). min (delivered_below a n) most) (sym (add-one i))

-- ---- whether it was a member

member-there : (a : Account) (i : ℕ) (v : View) → i < length a.views → v ≡ get_or a.views i v → was_member a i ≡ is_member v a.me
member-there a i v lt is =
    ap (λ (vs : List View). list_any (λ w. is_member w a.me) (take 1 vs)) (drop-cons a.views i v lt)
    ∙ or-none (is_member (get_or a.views i v) a.me)
    ∙ ap (λ (w : View). is_member w a.me) (sym is)
  where
    or-none : (b : Bool) → (b || false) ≡ b
    or-none true = refl
    or-none false = refl

from-zero : (i : ℕ) → 0 + i ≡ i
from-zero i = omega arith

both-true : (b c : Bool) → b ≡ true → c ≡ true → (b && c) ≡ true
both-true b c e f = (λ i. e i && f i)

second-false : (b c : Bool) → c ≡ false → (b && c) ≡ false
second-false true c e = e
second-false false c e = refl

pub stays_more : (a : Account) (i : ℕ) (v : View) → i < length a.views → v ≡ get_or a.views i v → is_member v a.me ≡ true
    → stayed a 0 i ≡ true → stayed a 0 (i + 1) ≡ true
unfolding stayed
stays_more a i v lt is member so_far =
    let here : was_member a (0 + i) ≡ true = ap (was_member a) (from-zero i) ∙ member-there a i v lt is ∙ member in
    ap (stayed a 0) (add-one i) ∙ both-true (stayed a 0 i) (was_member a (0 + i)) so_far here

pub stays_not : (a : Account) (i : ℕ) (v : View) → i < length a.views → v ≡ get_or a.views i v → is_member v a.me ≡ false
    → stayed a 0 (length a.views) ≡ false
unfolding stayed
stays_not a i v lt is member =
    left-once a (suc i) (length a.views) (omega (arith, lt))
    (second-false (stayed a 0 i) (was_member a (0 + i)) (ap (was_member a) (from-zero i) ∙ member-there a i v lt is ∙ member))

-- ---- the store

pub carried_more : (lists : List (Vec Delivered Global)) (i : ℕ) (ds : Vec Delivered Global) (store after : Store)
    → i < length lists → ds ≡ get_or lists i ds
    → store ≡ store_over (λ z. payloads_of (slice_index_or (lists_of lists) z [])) [] 0 i
    → after ≡ store_after store (payloads_of (map delivery ds.items))
    → after ≡ store_over (λ z. payloads_of (slice_index_or (lists_of lists) z [])) [] 0 (i + 1)
unfolding store_over
carried_more lists i ds store after lt is store_is after_is =
    let here : slice_index_or (lists_of lists) i [] ≡ map delivery ds.items =
    index-mapped (λ (es : Vec Delivered Global). map delivery es.items) lists i ds [] lt is in
    after_is
    ∙ (λ j. store_after (store_is j) (payloads_of (sym here j)))
    ∙ ap (λ (n : ℕ). store_after (store_over (λ z. payloads_of (slice_index_or (lists_of lists) z [])) [] 0 i)
    (payloads_of (slice_index_or (lists_of lists) n []))) (sym (from-zero i))
    ∙ ap (store_over (λ z. payloads_of (slice_index_or (lists_of lists) z [])) [] 0) (sym (add-one i))

-- at the end
pub count_ends : (a : Account) (i n most total : ℕ) → total ≡ min (delivered_below a i) most → n ≤ i → i ≤ n
    → total ≡ min (delivered_below a n) most
count_ends a i n most total is low high =
    let same : i ≡ n = omega (arith, low, high) in is ∙ ap (λ (k : ℕ). min (delivered_below a k) most) same

pub stays_ends : (a : Account) (i n : ℕ) → stayed a 0 i ≡ true → n ≤ i → i ≤ n → true ≡ stayed a 0 n
stays_ends a i n is low high = let same : i ≡ n = omega (arith, low, high) in sym is ∙ ap (stayed a 0) same

pub carried_ends : (lists : List (Vec Delivered Global)) (i n : ℕ) (store : Store)
    → store ≡ store_over (λ z. payloads_of (slice_index_or (lists_of lists) z [])) [] 0 i → n ≤ i → i ≤ n
    → store ≡ store_over (λ z. payloads_of (slice_index_or (lists_of lists) z [])) [] 0 n
carried_ends lists i n store is low high =
    let same : i ≡ n = omega (arith, low, high) in
    is ∙ ap (store_over (λ z. payloads_of (slice_index_or (lists_of lists) z [])) [] 0) same

-- at the beginning
pub count_begins : (a : Account) (most : ℕ) → 0 ≡ min (delivered_below a 0) most
unfolding delivered_below
count_begins a most = omega arith

pub stays_begins : (a : Account) → stayed a 0 0 ≡ true
unfolding stayed
stays_begins a = refl

pub carried_begins : (lists : List (Vec Delivered Global))
    → [] ≡ store_over (λ z. payloads_of (slice_index_or (lists_of lists) z [])) [] 0 0
unfolding store_over
carried_begins lists = refl
