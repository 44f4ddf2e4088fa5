use Rattle.std.proofs.Common.{ap, ◌∙◌, subst}
use Rattle.std.specs.Prelude.{IsOk}
use Rattle.frame_codec.specs.Views.{group_view}
use Rattle.stmt_codec.specs.Cursor.{groups_of, of_begun, given}
use Rattle.statements.specs.Views.{carried}
use Rattle.stmt_codec.proofs.Lending.{next_begins, nothing_waits, Claims}
use Rattle.stmt_codec.proofs.cursor.ClaimsIterator.next.Goals as goal

pub returns-in_default-next_group-clause-steps : goal.returns-in_default-next_group-clause-steps
returns-in_default-next_group-clause-steps c = (
  ap given (c.groups.invariant ∙ nothing_waits (carried c.groups.self.carrier) (of_begun c.groups.self.carrier c.groups.self.begun)
      (groups_of c.groups.self.groups) c.in_default.ensures.0 c.in_default-next_group.ensures.0),
  ap given (nothing_waits (carried c.groups.self.carrier) (of_begun c.groups.self.carrier c.next_begun.new.begun)
      (groups_of c.next_group.new.groups) c.in_default.ensures.1 c.in_default-next_group.ensures.1),
)

pub invariant_of-self-in-groups : goal.invariant_of-self-in-groups
invariant_of-self-in-groups c =
    let same = next_begins (carried c.groups.self.carrier) (of_begun c.groups.self.carrier c.groups.self.begun)
    (group_view c.in-Some-next_group.group) (groups_of c.groups.self.groups)
    (groups_of c.next_group.new.groups) c.in_default.ensures.0 c.in-Some-next_group.ensures in
    record { readable = subst (λ (r : Claims). IsOk r) same c.groups.self.readable }

pub groups-preserved : goal.groups-preserved
groups-preserved c =
    c.groups.invariant ∙ next_begins (carried c.groups.self.carrier) (of_begun c.groups.self.carrier c.groups.self.begun)
    (group_view c.in-Some-next_group.group) (groups_of c.groups.self.groups)
    (groups_of c.next_group.new.groups) c.in_default.ensures.0 c.in-Some-next_group.ensures
