use Rattle.std.proofs.Common.{refl, sym}
use Rattle.kit_defs.specs.Kits.{Kit}
use Rattle.claim_firsts.proofs.Results.{if-ok}
use Rattle.group_defs.specs.Process.{Setting}
use Rattle.audit_walk.specs.Turns.{Shares}
use Rattle.audit_defs.specs.Players.{setting_of}
use Rattle.audit_walk.specs.Turns.{IsPlayer, begun}
use Rattle.audit_cast.proofs.casting.player_of.Goals as goal

pub returns : goal.returns
returns c =
    let s : Setting = setting_of c.args.kit.now in
    let shares : Shares s c.group-group.result c.in_ok-roster.roster c.genesis_of-genesis.result = record {
      group = sym c.group-group.ensures;
      roster = sym c.in_ok-roster.ensures;
      genesis = sym c.genesis_of-genesis.ensures;
      kinds = refl;
    } in
    if-ok (λ p. (t : Setting) → Shares t c.group-group.result c.in_ok-roster.roster c.genesis_of-genesis.result
    → IsPlayer t (begun t c.args.me c.args.by.batch_limit c.args.by.journal) p)
    (IsPlayer s (begun s c.args.me c.args.by.batch_limit c.args.by.journal)) c.new.result (λ p is. is s shares) c.new.ensures.starts
