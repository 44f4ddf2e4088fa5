use Rattle.std.proofs.Common.{◌≡◌, ◌++◌, ◌∷◌, [], map, sym, ap, ◌∙◌}
use Rattle.std.proofs.lemmas.List.{map_push}
use Rattle.group_defs.specs.Accounts.{account_of}
use Rattle.accounts.specs.Views.{account}
use Rattle.audit_defs.specs.Players as plain
use Rattle.audit_core.proofs.Players.{all-reported, at-place, next-reported}
use Rattle.audit_core.proofs.listed.accounts_of.Goals as goal

pub loop-player-preserved : goal.loop-player-preserved
loop-player-preserved c = λ s cs are.
    let a = at-place s cs c.args.players.now c.loop-player.player-index c.player-item.result are c.loop-player-test.true c.player-item.is in
    let one : account c.in_ok-account.account ≡ account_of a.process.now = c.in_ok-account.ensures
    ∙ sym (c.account.ensures s a.process a.is) in
    next-reported s (λ (d : plain.Player). account_of d.now) cs c.loop-player.player-index c.player-item.result a
    (map account c.loop-player.all.items) _ _ (c.loop-player.invariant s cs are)
    (ap (map account) c.in_ok-push.ensures.items ∙
    (map_push account c.loop-player.all.items c.in_ok-account.account ∙ ap (λ x. map account c.loop-player.all.items ++ x ∷ []) one))

pub returns : goal.returns
returns c = λ s cs are. all-reported s (λ (d : plain.Player). account_of d.now) cs c.args.players.now c.loop-player.player-index
    (map account c.loop-player.all.items) _ are c.loop-player-test.false (c.loop-player.invariant s cs are)
