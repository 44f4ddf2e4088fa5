-- A backed statement was due at a moment of its view.
use Rattle.std.proofs.Common.{◌≡◌, inl, inr, List, true, sym, ◌∙◌}
use Rattle.std.specs.Prelude.{All}
use Rattle.group_defs.specs.Views.{View}
use Rattle.group_defs.specs.Below.{Statement, Claim, view_of}
use Rattle.group_defs.specs.Process.{Process, views_of}
use Rattle.group_defs.specs.Due.{may_sign}
use Rattle.group_defs.specs.Family.{Correct, Family, end_of, ends, handed, handed_to, statements_of}
use Rattle.group_defs.specs.Laws.{IsFrom, StoodSo, IsOneView, IsBacked}
use Rattle.safety_laws.proofs.EachWasDue.{each_was_due}
use Rattle.safety_laws.proofs.MaySign.{signing-view}
use Rattle.pool_laws.proofs.Members.{All-mem, Contains-mem, Mem, mem-Contains, mem-flat_map}
use Rattle.pool_laws.proofs.Places.{mem-slice_get}
use Rattle.safety_laws.proofs.Quorums.{backer, in-ends}
use Rattle.safety_laws.proofs.ViewsOf.{moment-view}

-- each view of the one view's number is that one
pub is-one : (f : Family) (v : View) → IsOneView f v → (p : Process) → Mem p (ends f) → (w : View) → Mem w (views_of p)
    → w.number ≡ v.number → w ≡ v
is-one f v one p m w there = All-mem (λ (w : View). w.number ≡ v.number → w ≡ v)
    (views_of p) w (All-mem (λ (p : Process). All (λ (w : View). w.number ≡ v.number → w ≡ v) (views_of p)) (ends f) p one.of_all m) there

-- what one process was handed, the family was
pub wider : (f : Family) (c : Correct) → Mem c f.correct → (signed : List Claim) (d : Claim) → IsFrom f.setting (handed_to c.turns) signed d
    → IsFrom f.setting (handed f) signed d
wider f c m signed d (inl handed') = inl (
  mem-Contains (handed f) d (mem-flat_map (λ (c : Correct). handed_to c.turns) f.correct c d m
      (Contains-mem (handed_to c.turns) d handed'.0)),
  handed'.1,
)
wider f c m signed d (inr own) = inr own

-- the moment, in view v
abbrev pub DueAt : Family → View → Statement → Type 0
DueAt f v st = (q : Process) × StoodSo f q × (q.pool.view ≡ v) × (may_sign f.setting q st ≡ true)

pub due-at : (f : Family) (v : View) → IsOneView f v → (c : Correct) → Mem c f.correct → (st : Statement)
    → Mem st (statements_of (end_of f.setting c)) → view_of st ≡ v.number → DueAt f v st
due-at f v one c m st signed number =
    let p : Process = end_of f.setting c in
    let at = mem-slice_get (statements_of p) st signed in
    let was = each_was_due f.setting c.me c.batch_limit c.turns at.0 st at.1 in
    let q : Process = was.moment in (
      q,
      record {
        by = p;
        correct = mem-Contains (ends f) p (in-ends f c m);
        grown = was.grown;
        heard = λ k d lt. wider f c m q.signed _ (was.heard k d lt);
      },
      is-one f v one p (in-ends f c m) q.pool.view (moment-view q p was.grown) (sym (signing-view f.setting q st was.due) ∙ number),
      was.due,
    )

pub backed-due : (f : Family) (v : View) (st : Statement) → IsOneView f v → IsBacked f v st → view_of st ≡ v.number → DueAt f v st
backed-due f v st one backed number = let c = backer f v st one backed in due-at f v one c.0 c.1 st c.2 number
