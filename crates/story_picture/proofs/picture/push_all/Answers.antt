use Rattle.std.proofs.Common.{ℕ, List, ◌++◌, map, length, take, sym, ap, ◌∙◌}
use Rattle.std.specs.Prelude.{option_map}
use Rattle.std.proofs.lemmas.List.{take-map, length-map}
use Rattle.schedule_file.specs.Views.{listed}
use Rattle.happenings.specs.Reported.{stopped}
use Rattle.picture_defs.specs.Pictures as plain
use Rattle.story_picture.specs.declared.rows.Row.{Row}
use Rattle.story_picture.specs.Views.{row}
use Rattle.story_picture.proofs.picture.push_all.Goals as goal

pub returns : goal.returns
returns c =
    let ls = map listed c.args.processes.now in
    let rows : List Row = c.args.rows.now in
    let text : List plain.Row → ℕ → List ℕ = λ rs all.
    c.args.out.now.items ++ plain.drawing ls c.args.genesis.now rs all (option_map stopped c.args.stop) in
    c.in_ok-push_rows.ensures
    ∙ ap (λ (rs : List Row). text (map row rs) (length rows)) c.drawn.ensures
    ∙ ap (λ (rs : List plain.Row). text rs (length rows)) (sym (take-map row plain.most_drawn rows))
    ∙ ap (λ (n : ℕ). text (take plain.most_drawn (map row rows)) n) (sym (length-map rows row))
