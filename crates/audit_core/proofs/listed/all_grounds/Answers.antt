use Rattle.std.proofs.Common.{◌≡◌, ◌++◌, ◌∷◌, [], ℕ, List, sym, ap, ◌∙◌}
use Rattle.rp_base.specs.Signer.{count_used}
use Rattle.audit_cast.proofs.Cores.{me-so}
use Rattle.audit_core.specs.Found.{grounds_of}
use Rattle.audit_core.proofs.Players.{all-reported, at-place, next-reported}
use Rattle.audit_core.proofs.listed.all_grounds.Goals as goal

pub loop-player-preserved : goal.loop-player-preserved
loop-player-preserved c = λ s cs rising are.
    let p = c.player-item.result in
    let a = at-place s cs c.args.players.now c.loop-player.player-index p are c.loop-player-test.true c.player-item.is in
    let me : c.me.result ≡ a.process.me = c.me.ensures ∙ sym (sym a.is.number ∙ me-so count_used s a.process.now p.core a.is.core) in
    let grounds = c.grounds.ensures s a.process rising a.is in
    let pair : (let it : ℕ × List ℕ = (c.me.result, c.grounds.result) in it) ≡ grounds_of s a.process = λ i. (me i, grounds i) in
    next-reported s (grounds_of s) cs c.loop-player.player-index p a c.loop-player.all.items _ _ (c.loop-player.invariant s cs rising are)
    (c.in_ok-push.ensures.items ∙ ap (λ x. c.loop-player.all.items ++ x ∷ []) pair)

pub returns : goal.returns
returns c = λ s cs rising are. all-reported s (grounds_of s) cs c.args.players.now c.loop-player.player-index c.loop-player.all.items _ are
    c.loop-player-test.false (c.loop-player.invariant s cs rising are)
