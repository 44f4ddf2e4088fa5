use Rattle.std.proofs.Common.{◌++◌, List, map, length, sym, ap, subst, ◌∙◌}
use Rattle.std.specs.List.{flat_map}
use Rattle.std.proofs.lemmas.Result.{on_ok_weaker}
use Rattle.replay_defs.specs.Reports.{refused_line, block}
use Rattle.replay_defs.specs.Worlds.{setting_of}
use Rattle.replay_questions.specs.Cast.{Player, ArePlayers}
use Rattle.replay_questions.specs.Worlds.{refused}
use Rattle.replay_report.proofs.Ending.{short_written, long_written, refused_many}
use Rattle.replay_report.proofs.reporting.push_world.Goals as goal

pub returns-in_ok-push_refused_count : goal.returns-in_ok-push_refused_count
returns-in_ok-push_refused_count c = λ h v shows.
    let P : List Player → Type 0 = λ ps. ArePlayers (setting_of h) ps v.players in
    rw c.if-short.true
    (on_ok_weaker c.push_players_short.result
    (short_written h c.args.world.now v c.args.out.now.items c.push_refused_count.new.out.items c.push_players_short.new.out.items shows
    (c.in_ok-push_refused_count.ensures v (refused_many h c.args.world.now v shows ∙ sym (ap (λ rs. length rs) c.refused.ensures))))
    (c.push_players_short.ensures (setting_of h) v.players (subst P (sym c.players.ensures) shows.players)))

pub returns-in_ok-push_refusals : goal.returns-in_ok-push_refusals
returns-in_ok-push_refusals c = λ h v shows.
    let P : List Player → Type 0 = λ ps. ArePlayers (setting_of h) ps v.players in
    rw c.if-short.false
    (on_ok_weaker c.push_players.result
    (λ more. long_written h c.args.world.now v c.args.out.now.items c.push_refusals.new.out.items c.push_players.new.out.items shows
    (c.in_ok-push_refusals.ensures ∙ ap (λ rs. c.args.out.now.items ++ flat_map refused_line (map refused rs)) c.refused-else-short.ensures)
    (more ∙ ap (λ ps. c.push_refusals.new.out.items ++ flat_map (λ d. block ps d.now) v.players) c.spent.ensures))
    (c.push_players.ensures (setting_of h) v.players (subst P (sym c.players-else-short.ensures) shows.players)))
