use Rattle.std.proofs.Common.{◌≡◌, ◌∙◌, ℕ, ◌<◌, List, [], ◌++◌, ◌-◌, length, take, refl, sym, ap, subst}
use Rattle.std.specs.List.{AllByRecursion}
use Rattle.indexmap.specs.Layout.{length-set_value_at}
use Rattle.slot_quorums.specs.declared.cell.Cell.{Cell}
use Rattle.slot_quorums.specs.Marks.{restored}
use Rattle.slot_quorums.proofs.Marks.{all-but-last, restored-push}
use Rattle.slot_quorums.proofs.quorums.restore.Goals as goal

pub changed-init : goal.changed-init
changed-init c = record { same = refl; old = c.requires }

pub pair_mut-kept-requires : goal.pair_mut-kept-requires
pair_mut-kept-requires c = (all-but-last (λ x. x.0 < length c.changed.cells.entries) c.pop.new.self.items (c.in-Some.place, c.in-Some.cell)
    (subst (AllByRecursion (λ x. x.0 < length c.changed.cells.entries)) c.in-Some.ensures.items c.changed.invariant.old)).1

pub changed-preserved : goal.changed-preserved
changed-preserved c =
    let kept = length-set_value_at c.changed.cells.entries c.in-Some.place c.in-Some.cell in
    let old = (all-but-last (λ x. x.0 < length c.changed.cells.entries) c.pop.new.self.items (c.in-Some.place, c.in-Some.cell)
    (subst (AllByRecursion (λ x. x.0 < length c.changed.cells.entries)) c.in-Some.ensures.items c.changed.invariant.old)).0 in
    record {
      same = sym (restored-push c.pop.new.self.items c.changed.cells.entries c.in-Some.place c.in-Some.cell)
          ∙ ap (λ (xs : List (ℕ × Cell)). restored xs c.changed.cells.entries) (sym c.in-Some.ensures.items) ∙ c.changed.invariant.same;
      old = rw kept old;
    }

pub returns-clause-cells : goal.returns-clause-cells
returns-clause-cells c =
    let none : c.changed.changed.items ≡ [] = c.in_default.ensures.items
    ∙ ap (λ (xs : List (ℕ × Cell)). xs ++ []) (c.in_default.ensures.rest
    ∙ ap (λ n. take (n - 1) c.changed.changed.items) c.in_default.ensures.cases.0) in
    ap (λ (xs : List (ℕ × Cell)). restored xs c.changed.cells.entries) (sym none) ∙ c.changed.invariant.same
