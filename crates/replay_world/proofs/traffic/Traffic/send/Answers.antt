use Rattle.std.proofs.Common.{length, ap, arith}
use Rattle.replay_defs.specs.Worlds.{most_sent}
use Rattle.replay_world.proofs.Carrying.{send_exceeds}
use Rattle.replay_world.proofs.traffic.Traffic.send.Goals as goal

pub returns-then-total-gt-MOST_SENT-clause-too_much : goal.returns-then-total-gt-MOST_SENT-clause-too_much
unfolding most_sent
returns-then-total-gt-MOST_SENT-clause-too_much c = λ v carried same at.
    send_exceeds c.args.self.now v c.args.sender c.args.event c.saturating_add-total.result c.args.to c.args.bytes carried at
    (omega (arith, carried.within, c.saturating_add-total.ensures, ap length c.bytes-2.ensures)) c.if-total-gt-MOST_SENT.true
