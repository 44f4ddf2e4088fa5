use Rattle.std.proofs.Common.{arith, map}
use Rattle.schedule_file.specs.Views.{event}
use Rattle.schedule_making.proofs.Drawing.{next_round, all_made}
use Rattle.schedule_making.proofs.making.all_rounds.Goals as goal

pub rounds-preserved : goal.rounds-preserved
rounds-preserved c =
    next_round 1000 c.rounds.i c.rounds.making.draws.state c.push_round.new.self.draws.state (map event c.rounds.making.events.items)
    (map event c.push_round.new.self.events.items) _ (omega arith) c.in_ok-push_round.ensures c.rounds.invariant

pub returns : goal.returns
returns c = all_made 1000 c.rounds.i c.rounds.making.draws.state (map event c.rounds.making.events.items) _ (omega arith) c.rounds.invariant
