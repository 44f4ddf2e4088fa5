use Rattle.std.proofs.Common.{◌≡◌, ℕ, ◌+◌, List, [], ◌∷◌, ◌++◌, map, length-append, sym, ap, ◌∙◌, rules}
use Rattle.happenings.specs.Reported.{happening}
use Rattle.trace_defs.specs.Happenings as trace
use Rattle.picture_defs.specs.Pictures as plain
use Rattle.story_picture.proofs.Numbered.{events_more}
use Rattle.story_picture.proofs.rows.rows_of.Goals as goal

pub events-preserved : goal.events-preserved
events-preserved c =
    let before = c.events.yielded in
    let e = c.in-Some.event in
    let reported : List trace.Happening = map happening e.items in
    let next : c.in_ok-number.number ≡ c.events.number + 1 = search rules in
    let lists : List (List trace.Happening) = map (λ t. map happening t.items) before in
    let rows =
    c.in_ok-add_event.ensures ∙ ap (λ (rs : List plain.Row). rs ++ plain.rows_in c.events.number reported) c.events.invariant.0
    ∙ ap (λ (n : ℕ). plain.rows_of lists ++ plain.rows_in n reported) c.events.invariant.1
    ∙ sym (events_more (λ t. map happening t.items) before e) in
    (rows, next ∙ ap (λ (n : ℕ). n + 1) c.events.invariant.1 ∙ sym (length-append before (e ∷ [])))
