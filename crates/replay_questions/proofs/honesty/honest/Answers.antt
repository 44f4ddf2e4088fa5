use Rattle.std.proofs.Common.{◌&&◌, refl, sym, ap, ◌∙◌}
use Rattle.std.specs.List.{list_all}
use Rattle.replay_defs.specs.Worlds.{family_of}
use Rattle.replay_world.specs.Handing.{claims_of}
use Rattle.replay_world.specs.Worlds.{raws_of}
use Rattle.replay_questions.specs.Owned.{is_owned, is_unhanded_or_owned}
use Rattle.replay_questions.proofs.Whole.{all_owned}
use Rattle.replay_questions.proofs.honesty.honest.Goals as goal

pub returns-then-are_honest_frames : goal.returns-then-are_honest_frames
returns-then-are_honest_frames c = λ h v shows.
    sym (ap (λ b. b && c.are_honest.result) c.if-are_honest_frames.true)
    ∙ all_owned h c.args.world.now v c.are_honest_frames.result c.are_honest.result shows
    (c.are_honest_frames.ensures h v shows ∙ ap (list_all (is_unhanded_or_owned (family_of h v))) c.frames.ensures)
    (c.are_honest.ensures h v shows ∙ ap (list_all (λ bytes. list_all (is_owned (family_of h v)) (claims_of bytes))) c.raws.ensures)

pub returns-else-are_honest_frames : goal.returns-else-are_honest_frames
returns-else-are_honest_frames c = λ h v shows.
    let raws = list_all (λ bytes. list_all (is_owned (family_of h v)) (claims_of bytes)) (raws_of c.args.world.now) in
    c.if-are_honest_frames.false
    ∙ (sym (ap (λ b. b && raws) c.if-are_honest_frames.false)
    ∙ all_owned h c.args.world.now v c.are_honest_frames.result raws shows
    (c.are_honest_frames.ensures h v shows ∙ ap (list_all (is_unhanded_or_owned (family_of h v))) c.frames.ensures) refl)
