use Rattle.group_defs.specs.Events.{perceived_numbers}
use Rattle.accounts.specs.Views.{perceived as perceived_of}
use Rattle.member_taking.proofs.Placed.{IsBehind}
use Rattle.member_taking.proofs.taking_in.place_among.Given as goal

abbrev pub invariant-updates : goal.invariant-updates
invariant-updates l = IsBehind perceived_of perceived_numbers (l.view, l.update) l.all l.place
