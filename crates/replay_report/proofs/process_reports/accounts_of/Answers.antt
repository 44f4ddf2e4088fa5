use Rattle.std.proofs.Common.{◌≡◌, ◌++◌, ◌∷◌, [], map, sym, ap, ◌∙◌}
use Rattle.std.proofs.lemmas.List.{map_push}
use Rattle.std.proofs.lemmas.List.Concat.{flat_map_single}
use Rattle.group_defs.specs.Accounts.{account_of}
use Rattle.replay_defs.specs.Worlds as plain
use Rattle.accounts.specs.Views.{account}
use Rattle.replay_report.proofs.Players.{at_same_place, written_next, written_all}
use Rattle.replay_report.proofs.process_reports.accounts_of.Goals as goal

pub loop-player-preserved : goal.loop-player-preserved
loop-player-preserved c = λ s cs are.
    let a = at_same_place s c.args.players.now cs c.loop-player.player-index c.player-item.result are c.loop-player-test.true
    c.player-item.is in
    let one : account c.in_ok-account.account ≡ account_of a.at.now = c.in_ok-account.ensures
    ∙ sym (c.account.ensures s a.at.now a.plays.core.is) in
    written_next (λ (d : plain.Player). account_of d.now ∷ []) s cs c.loop-player.player-index c.player-item.result a
    (map account c.loop-player.all.items) _ _ (c.loop-player.invariant s cs are)
    (ap (map account) c.in_ok-push.ensures.items ∙
    (map_push account c.loop-player.all.items c.in_ok-account.account ∙ ap (λ x. map account c.loop-player.all.items ++ x ∷ []) one))

pub returns : goal.returns
returns c = λ s cs are.
    written_all (λ (d : plain.Player). account_of d.now ∷ []) s c.args.players.now cs c.loop-player.player-index
    (map account c.loop-player.all.items) _ are c.loop-player-test.false (c.loop-player.invariant s cs are)
    ∙ flat_map_single (λ (d : plain.Player). account_of d.now) cs
