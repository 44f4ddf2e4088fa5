use Rattle.member_events.specs.Below.{stmt}
use Rattle.replay_world.proofs.Places.{lies_at}
use Rattle.replay_world.proofs.lying.lie_at.Goals as goal

pub returns : goal.returns
returns c = lies_at c.args.group.now
    (stmt c.args.statement.now) c.args.liars.now.items c.args.i c.index_mut-liar.result.now c.lie.new.self c.lie.result c.requires.place
    c.index_mut-liar.ensures.value
    c.lie.ensures.reported c.lie.ensures.silent c.lie.ensures.process c.lie.ensures.total c.lie.ensures.secret
