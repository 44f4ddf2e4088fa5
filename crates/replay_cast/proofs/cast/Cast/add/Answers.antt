use Rattle.std.proofs.Common.{refl}
use Rattle.schedule_file.specs.Views as views
use Rattle.replay_cast.proofs.Casting.{adds_liar, adds_player}
use Rattle.replay_cast.proofs.cast.Cast.add.Goals as goal

pub returns-then-one-clause-adds : goal.returns-then-one-clause-adds
returns-then-one-clause-adds c =
    adds_liar (views.header c.args.header.now) c.args.one c.args.self.now
    (record c.args.self.now { liars = c.push.new.self }) c.if-one.true refl c.in_ok-push.ensures.items

pub returns-clause-adds : goal.returns-clause-adds
returns-clause-adds c =
    adds_player (views.header c.args.header.now) c.args.one c.in_ok-player.player c.args.self.now
    (record c.args.self.now { players = c.push-2.new.self })
    c.if-one.false c.in_ok-player.ensures c.in_ok-push-2.ensures.items refl
