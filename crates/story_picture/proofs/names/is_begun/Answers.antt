use Rattle.std.proofs.Common.{List, ◌==◌, take, sym, ap, ◌∙◌}
use Rattle.std.specs.List.{list_any}
use Rattle.std.proofs.lemmas.List.{take-map}
use Rattle.picture_defs.specs.Pictures as plain
use Rattle.story_picture.specs.declared.rows.Row.{Row}
use Rattle.story_picture.specs.Views.{row}
use Rattle.picture_labels.proofs.Mapped.{any-map}
use Rattle.story_picture.proofs.names.is_begun.Goals as goal

pub returns : goal.returns
returns c =
    let rows : List Row = c.args.rows.now in
    let k = c.args.k in
    let n = c.args.event in
    c.has_event.ensures ∙ ap (λ (rs : List Row). list_any (λ (r : Row). r.event == n) rs) c.rows_before.ensures
    ∙ sym (any-map row (λ (r : plain.Row). r.0 == n) (take k rows))
    ∙ ap (λ (rs : List plain.Row). list_any (λ (r : plain.Row). r.0 == n) rs) (sym (take-map row k rows))
