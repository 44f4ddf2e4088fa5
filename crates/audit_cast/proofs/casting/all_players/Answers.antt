use Rattle.std.proofs.Common.{[], map}
use Rattle.audit_defs.specs.Players.{setting_of}
use Rattle.journal_steps.specs.Views.{source}
use Rattle.audit_cast.proofs.Starting.{adds-all, adds-first, adds-next}
use Rattle.audit_cast.proofs.casting.all_players.Goals as goal

pub listed-init : goal.listed-init
listed-init c = adds-first (setting_of c.args.kit.now) (map source c.args.sources.now) c.args.listed c.new-walk.result
    (c.new-walk.ensures (setting_of c.args.kit.now))

pub listed-preserved : goal.listed-preserved
listed-preserved c =
    let adds = c.listed.invariant in
    adds-next (setting_of c.args.kit.now) (map source c.args.sources.now) c.listed.left c.pop_first.new.self c.args.listed c.in-Some.me
    c.listed.walk c.add_player.new.walk adds c.in-Some.ensures
    (c.in_ok-add_player.ensures (record { players = adds.players; claims = [] }) [] adds.walk)

pub returns : goal.returns
returns c = adds-all (setting_of c.args.kit.now) (map source c.args.sources.now) c.listed.left c.args.listed c.listed.walk c.listed.invariant
    c.in_default.ensures.0
