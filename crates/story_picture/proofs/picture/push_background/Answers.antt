use Rattle.std.proofs.Common.{◌≡◌, ℕ, List, ◌++◌, map, length, sym, ap, ◌∙◌}
use Rattle.std.specs.List.{flat_map}
use Rattle.std.proofs.lemmas.List.{length-map}
use Rattle.schedule_file.specs.Views.{listed}
use Rattle.picture_defs.specs.Drawing.{life, bars}
use Rattle.picture_defs.specs.Pictures as plain
use Rattle.story_trace.proofs.Pieces.{behind}
use Rattle.story_picture.specs.Views.{row}
use Rattle.story_picture.proofs.picture.push_background.Goals as goal

pub returns : goal.returns
returns c =
    let ls = map listed c.args.processes.now in
    let rows : List plain.Row = map row c.args.rows.now in
    let n : length c.args.rows.now ≡ length rows = sym (length-map c.args.rows.now row) in
    let events : List ℕ = plain.each_row (λ k e what. plain.event_begin ls rows k e) rows in
    let lives : ℕ → List ℕ = λ m. flat_map (life ls m) ls in
    let views : ℕ → List ℕ = λ m. plain.each_row (λ k e what. bars ls m k what) rows in
    let one = c.push_events.new.out.items in
    let two = c.push_lives.new.out.items in
    let new = c.push_bars.new.out.items in
    behind c.args.out.now.items events (lives (length rows) ++ views (length rows)) one new c.in_ok-push_events.ensures
    (behind one (lives (length rows)) (views (length rows)) two new
    (c.in_ok-push_lives.ensures ∙ ap (λ (m : ℕ). one ++ lives m) n)
    (c.in_ok-push_bars.ensures ∙ ap (λ (m : ℕ). two ++ views m) n))
