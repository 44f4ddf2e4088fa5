use Rattle.std.proofs.Common.{◌≡◌, ℕ, ◌-◌, List, ◌++◌, map, length, sym, ap, ◌∙◌}
use Rattle.std.specs.Prelude.{option_map}
use Rattle.std.proofs.lemmas.List.{length-map}
use Rattle.schedule_file.specs.Views.{listed}
use Rattle.happenings.specs.Reported.{stopped}
use Rattle.picture_defs.specs.Pictures as plain
use Rattle.story_trace.proofs.Pieces.{behind}
use Rattle.story_picture.specs.Views.{row}
use Rattle.story_picture.proofs.picture.push_rows.Goals as goal

pub returns : goal.returns
returns c =
    let ls = map listed c.args.processes.now in
    let members = c.args.genesis.now in
    let rows : List plain.Row = map row c.args.rows.now in
    let all = c.args.all in
    let n : length c.args.rows.now ≡ length rows = sym (length-map c.args.rows.now row) in
    let ends : ℕ → ℕ → List ℕ = λ m more. plain.below m more (option_map stopped c.args.stop) in
    let back : List ℕ = plain.background ls rows in
    let front : List ℕ = plain.foreground ls members rows in
    let end : List ℕ = ends (length rows) (all - length rows) in
    let first = c.args.out.now.items in
    let one = c.push_begin.new.out.items in
    let two = c.push_background.new.out.items in
    let three = c.push_foreground.new.out.items in
    let new = c.push_below.new.out.items in
    behind first (plain.begin_rows ls (length rows)) (back ++ (front ++ end)) one new
    (c.in_ok-push_begin.ensures ∙ ap (λ (m : ℕ). first ++ plain.begin_rows ls m) n)
    (behind one back (front ++ end) two new c.in_ok-push_background.ensures
    (behind two front end three new c.in_ok-push_foreground.ensures
    (c.in_ok-push_below.ensures ∙ ap (λ (m : ℕ). three ++ ends (length c.args.rows.now) m) c.left_out.ensures
    ∙ ap (λ (m : ℕ). three ++ ends m (all - m)) n)))
