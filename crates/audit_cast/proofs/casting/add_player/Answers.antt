use Rattle.std.proofs.Common.{map, sym, subst, Option, None, Some}
use Rattle.std.specs.Prelude.{OnOk}
use Rattle.audit_defs.specs.Players as audit
use Rattle.audit_defs.specs.Players.{setting_of}
use Rattle.journal_steps.specs.Views.{source}
use Rattle.audit_walk.specs.Turns.{IsWalk}
use Rattle.audit_cast.specs.Casts.{with_any}
use Rattle.audit_cast.proofs.Starting.{player-is}
use Rattle.audit_cast.proofs.casting.add_player.Goals as goal

pub returns-in_default : goal.returns-in_default
returns-in_default c = λ k own walk.
    let s = setting_of c.args.kit.now in
    subst (λ (o : Option audit.Player). IsWalk s (with_any k o) own c.args.walk.now)
    (sym (player-is s (map source c.args.sources.now) c.args.me None c.in_default.ensures.first)) walk

pub returns-in-Ok : goal.returns-in-Ok
returns-in-Ok c = λ k own walk.
    let s = setting_of c.args.kit.now in
    subst (λ (o : Option audit.Player). OnOk c.add.result (IsWalk s (with_any k o) own c.add.new.self))
    (sym (player-is s (map source c.args.sources.now) c.args.me (Some c.in-Some.by) c.in-Some.ensures.first))
    (c.add.ensures s k own c.args.me c.in-Some.by.batch_limit c.in-Some.by.journal walk c.in-Ok.ensures)
