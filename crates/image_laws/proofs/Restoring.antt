-- The image of a process gives it back with its conflicts by rising signer: its views follow from the values that its commit certificates
-- tell.
use Rattle.std.proofs.Common.{◌≡◌, ℕ, List, [], ◌∷◌, ◌++◌, length, map, true, refl, sym, ap, ◌∙◌, subst, Option, Some, None, inl, inr}
use Rattle.std.specs.Prelude.{slice_index_or, is_none}
use Rattle.std.specs.Option.{option_map_or}
use Rattle.message_defs.specs.Updates.{Value}
use Rattle.message_defs.specs.Statements.{Ready, Claim}
use Rattle.group_defs.specs.Views.{View, IsView, has_keys, is_possible, next_fault, next_view}
use Rattle.group_defs.proofs.FollowingViews.{next_is_view}
use Rattle.group_defs.specs.Process.{Setting, Pool, Delivered, Left, Process, keyed, start, deliveries_of}
use Rattle.group_defs.specs.Certified.{is_certified, certificate}
use Rattle.group_defs.specs.Settle.{decided_by, install}
use Rattle.group_defs.specs.Events.{run}
use Rattle.group_defs.specs.Family.{handed_to}
use Rattle.pool_laws.proofs.Growing.{is_certified-stays}
use Rattle.pool_laws.proofs.Tests.{and-first, none-is, none-some, option_or-is}
use Rattle.safety_laws.proofs.Induction.{Keeps, run-keeps}
use Rattle.safety_laws.proofs.Installed.{decided_by-is}
use Rattle.image_defs.specs.Images.{LeftView, left_by, reported_by, image_of, lefts_from, view_behind, previous_from, process_of, in_order, ProcessIsRestored}
use Rattle.image_laws.proofs.Certificates.{certificate-first}

-- the views of these, by what their commit certificates tell
abbrev tellings : List Left → List LeftView
tellings ls = map (λ (l : Left). left_by l.commit) ls

abbrev delivered-in : List Left → List (List Delivered)
delivered-in ls = map (λ (l : Left). l.delivered) ls

-- ---- one view more

-- from v on, these views are what their certificates tell, and w stands behind them
abbrev AreReported : View → List Left → View → Type 0
AreReported v [] w = v ≡ w
AreReported v (l ∷ ls) w = (l.view ≡ v) × AreReported (next_view v (reported_by l.commit).1.update) ls w

reported-more : (v : View) (ls : List Left) (w : View) (l : Left) → AreReported v ls w → l.view ≡ w
    → AreReported v (ls ++ l ∷ []) (next_view w (reported_by l.commit).1.update)
reported-more v [] w l reported is = (is ∙ sym reported, ap (λ x. next_view x (reported_by l.commit).1.update) reported)
reported-more v (x ∷ ls) w l reported is = (reported.0, reported-more (next_view v (reported_by x.commit).1.update) ls w l reported.1 is)

lefts-reported : (v : View) (ls : List Left) (w : View) (tail : List (List Delivered)) → AreReported v ls w
    → lefts_from v (tellings ls) (delivered-in ls ++ tail) ≡ ls
lefts-reported v [] w tail reported = refl
lefts-reported v (l ∷ ls) w tail reported =
    ap (λ x. record { view = x; delivered = l.delivered; commit = l.commit }
    ∷ lefts_from (next_view v (reported_by l.commit).1.update) (tellings ls) (delivered-in ls ++ tail)) (sym reported.0)
    ∙ ap (λ more. l ∷ more) (lefts-reported (next_view v (reported_by l.commit).1.update) ls w tail reported.1)

behind-reported : (v : View) (ls : List Left) (w : View) → AreReported v ls w → view_behind v (tellings ls) ≡ w
behind-reported v [] w reported = reported
behind-reported v (l ∷ ls) w reported = behind-reported (next_view v (reported_by l.commit).1.update) ls w reported.1

-- the pool that is kept of the view that was left last
abbrev IsPrevious : List Left → Option Pool → Type 0
IsPrevious [] o = o ≡ None
IsPrevious (l ∷ []) o = (h : Pool) × (o ≡ Some h) × (h.view ≡ l.view)
IsPrevious (l ∷ m ∷ ls) o = IsPrevious (m ∷ ls) o

previous-more : (ls : List Left) (l : Left) (h : Pool) → h.view ≡ l.view → IsPrevious (ls ++ l ∷ []) (Some h)
previous-more [] l h is = (h, refl, is)
previous-more (x ∷ []) l h is = (h, refl, is)
previous-more (x ∷ y ∷ ls) l h is = previous-more (y ∷ ls) l h is

abbrev heard-before : Option Pool → List Claim
heard-before o = option_map_or (λ (h : Pool). h.heard) o []

previous-reported : (v : View) (ls : List Left) (w : View) (o : Option Pool) → AreReported v ls w → IsPrevious ls o
    → previous_from v (heard-before o) (tellings ls) ≡ o
previous-reported v [] w o reported is = sym is
previous-reported v (l ∷ []) w o reported is =
    let view : is.0.view ≡ v = is.2 ∙ reported.0 in
    ap (λ (p : Option Pool). Some (record { view = v; heard = heard-before p })) is.1
    ∙ ap (λ x. Some (record { view = x; heard = is.0.heard })) (sym view) ∙ sym is.1
previous-reported v (l ∷ m ∷ ls) w o reported is = previous-reported (next_view v (reported_by l.commit).1.update) (m ∷ ls) w o reported.1 is

last-delivered : (ls : List Left) (ds : List Delivered) → slice_index_or (delivered-in ls ++ ds ∷ []) (length (tellings ls)) [] ≡ ds
last-delivered [] ds = refl
last-delivered (l ∷ ls) ds = last-delivered ls ds

-- ---- of a process

record IsReported (s : Setting) (limit : ℕ) (p : Process) : Type 0 where
  limit_is : p.batch_limit ≡ limit
  reported : AreReported s.genesis p.left p.pool.view
  previous : IsPrevious p.left p.previous
  view : IsView p.pool.view
  decided : (d : ℕ × Value) → p.decision ≡ Some d → (is_possible (keyed s) p.pool.view d.1.update ≡ true)
      × (is_certified p.pool (Ready p.pool.view.number d.0 d.1) ≡ true)

same : (s : Setting) (limit : ℕ) (p q : Process) → q.batch_limit ≡ p.batch_limit → q.left ≡ p.left → q.pool.view ≡ p.pool.view → q.previous ≡ p.previous → q.decision ≡ p.decision
    → ((d : ℕ × Value) → is_certified p.pool (Ready p.pool.view.number d.0 d.1) ≡ true
    → is_certified q.pool (Ready q.pool.view.number d.0 d.1) ≡ true) → IsReported s limit p → IsReported s limit q
same s limit p q same-limit left view previous decision stays t = record {
  limit_is = same-limit ∙ t.limit_is;
  reported = subst (λ ls. AreReported s.genesis ls q.pool.view) (sym left) (subst (AreReported s.genesis p.left) (sym view) t.reported);
  previous = subst (λ ls. IsPrevious ls q.previous) (sym left) (subst (IsPrevious p.left) (sym previous) t.previous);
  view = subst IsView (sym view) t.view;
  decided = λ d e. (
      let was = t.decided d (sym decision ∙ e) in
      (subst (λ v. is_possible (keyed s) v d.1.update ≡ true) (sym view) was.0, stays d was.1)
      );
}

installed : (s : Setting) (limit : ℕ) (p : Process) (d : ℕ × Value) → p.decision ≡ Some d → IsReported s limit p → IsReported s limit (install d p)
installed s limit p d decided t =
    let was = t.decided d decided in
    let first = certificate-first p.pool (Ready p.pool.view.number d.0 d.1) t.view.some was.1 in
    let commit : List Claim = certificate p.pool (Ready p.pool.view.number d.0 d.1) in
    let tells : reported_by commit ≡ d = ap reported_by first.is ∙ ap (λ st. reported_by (record { signer = first.claim.signer; statement = st; signature = first.claim.signature } ∷ first.more)) first.says in
    let l : Left = record { view = p.pool.view; delivered = p.delivered; commit = commit } in
    record {
      limit_is = t.limit_is;
      reported = subst (λ (e : ℕ × Value). AreReported s.genesis (p.left ++ l ∷ []) (next_view p.pool.view e.1.update)) tells
          (reported-more s.genesis p.left p.pool.view l t.reported refl);
      previous = previous-more p.left l p.pool refl;
      view = next_is_view p.pool.view d.1.update
          (none-is (next_fault p.pool.view d.1.update)
          (and-first (is_none (next_fault p.pool.view d.1.update)) (has_keys (keyed s) d.1.update) was.0)) t.view;
      decided = λ d e. absurd cc;
    }

keeps : (s : Setting) (limit : ℕ) (from : List Claim) → Keeps s from (IsReported s limit)
keeps s limit from = record {
  accepts = λ p payload t. same s limit p _ refl refl refl refl refl (λ d c. c) t;
  perceives = λ p e t. same s limit p _ refl refl refl refl refl (λ d c. c) t;
  hears = λ p c m e t. same s limit p _ refl refl refl refl refl
      (λ d was. is_certified-stays p.pool (c ∷ []) (Ready p.pool.view.number d.0 d.1) was) t;
  doubts = λ p conflicts t. same s limit p _ refl refl refl refl refl (λ d c. c) t;
  signs = λ p signer st next none t. record {
    limit_is = t.limit_is;
    reported = t.reported;
    previous = t.previous;
    view = t.view;
    decided = λ d e. absurd (none-some none e);
  };
  decides = λ p t. record {
    limit_is = t.limit_is;
    reported = t.reported;
    previous = t.previous;
    view = t.view;
    decided = λ d e. elim (option_or-is p.decision (decided_by s p.pool) d e) [
      | inl before ↦ t.decided d before
      | inr by ↦ decided_by-is s p.pool d by
    ];
  };
  delivers = λ p ds member room e t. same s limit p _ refl refl refl refl refl (λ d c. c) t;
  installs = λ p d decided whole t. installed s limit p d decided t;
  halts = λ p d decided member t. same s limit p _ refl refl refl refl refl (λ d c. c) t;
}

-- what is told gives the process back, with its conflicts in order
gives-back : (s : Setting) (limit : ℕ) (p : Process) → IsReported s limit p → process_of s limit (image_of p) ≡ in_order p
gives-back s limit p t =
    let left = lefts-reported s.genesis p.left p.pool.view (p.delivered ∷ []) t.reported in
    let previous = previous-reported s.genesis p.left p.pool.view p.previous t.reported t.previous in
    let view = behind-reported s.genesis p.left p.pool.view t.reported in
    let delivered = last-delivered p.left p.delivered in
    ap (λ n. record (process_of s p.batch_limit (image_of p)) { batch_limit = n }) (sym t.limit_is)
    ∙ ap (λ ls. with-parts ls (previous_from s.genesis (heard-before p.previous) (tellings p.left)) (view_behind s.genesis (tellings p.left))
    (slice_index_or (deliveries_of p) (length (tellings p.left)) [])) left
    ∙ ap (λ o. with-parts p.left o (view_behind s.genesis (tellings p.left)) (slice_index_or (deliveries_of p) (length (tellings p.left)) []))
    previous
    ∙ ap (λ v. with-parts p.left p.previous v (slice_index_or (deliveries_of p) (length (tellings p.left)) [])) view
    ∙ ap (λ ds. with-parts p.left p.previous p.pool.view ds) delivered
  where
    with-parts : List Left → Option Pool → View → List Delivered → Process
    with-parts left previous view delivered = record (in_order p) {
      left = left;
      previous = previous;
      pool = record { view = view; heard = p.pool.heard };
      delivered = delivered;
    }

pub process_is_restored : ProcessIsRestored
process_is_restored s me limit turns genesis =
    gives-back s limit (run s (start s me limit) turns) (run-keeps s (IsReported s limit) turns (keeps s limit (handed_to turns)) (start s me limit)
    (record { limit_is = refl; reported = refl; previous = refl; view = genesis; decided = λ d e. absurd cc }))
