use Rattle.std.proofs.Common.{ℕ, List, []}
use Rattle.std.proofs.lemmas.Grind.{merely}
use Rattle.replay_run.specs.declared.run.Run.TheVariants.{Waits}
use Rattle.replay_run.specs.Midway.{IsAfter}
use Rattle.replay_run.proofs.Feeding.{nothing_fed}
use Rattle.replay_run.proofs.under_way.Replay.new.Goals as goal

pub invariant_of-result : goal.invariant_of-result
invariant_of-result c =
    let has : (fed : List ℕ) × IsAfter c.in_ok-new.field-0 Waits fed = ([], nothing_fed c.in_ok-new.field-0 c.in_ok-new.ensures) in
    record { real = merely has }

pub returns : goal.returns
returns c = nothing_fed c.in_ok-new.field-0 c.in_ok-new.ensures
