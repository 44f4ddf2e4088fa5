use Rattle.std.proofs.Common.{ℕ, List, ◌++◌, map, ap, ◌∙◌}
use Rattle.std.specs.Prelude.{option_map}
use Rattle.schedule_file.specs.declared.schedule.Listed.{Listed}
use Rattle.schedule_file.specs.Views.{listed}
use Rattle.happenings.specs.Reported.{stopped}
use Rattle.picture_defs.specs.Pictures as plain
use Rattle.story_picture.specs.declared.rows.Row.{Row}
use Rattle.story_picture.specs.Views.{row}
use Rattle.story_picture.proofs.picture.push_picture.Goals as goal

pub returns : goal.returns
returns c =
    let h = c.args.header.now in
    let text : List Listed → List ℕ → List plain.Row → List ℕ = λ ls members rs.
    c.args.out.now.items ++ plain.picture_of (map listed ls) members rs (option_map stopped c.args.stop) in
    c.in_ok-push_all.ensures
    ∙ ap (λ (ls : List Listed). text ls c.as_slice.result.now (map row c.deref-2.result.now)) c.deref.ensures.value
    ∙ ap (λ (members : List ℕ). text h.processes.items members (map row c.deref-2.result.now)) c.as_slice.ensures.value
    ∙ ap (λ (rs : List Row). text h.processes.items h.genesis.items (map row rs)) c.deref-2.ensures.value
    ∙ ap (λ (rs : List plain.Row). text h.processes.items h.genesis.items rs) c.in_ok-rows.ensures
