use Rattle.std.proofs.Common.{sym, ap, ◌∙◌}
use Rattle.std.specs.List.{list_all}
use Rattle.std.proofs.lemmas.List.{take_all}
use Rattle.replay_defs.specs.Worlds.{family_of}
use Rattle.replay_questions.specs.Owned.{is_unhanded_or_owned}
use Rattle.replay_questions.proofs.Tested.{passes_next, one_fails}
use Rattle.replay_questions.proofs.honesty.are_honest_frames.Goals as goal

pub loop-frame-preserved : goal.loop-frame-preserved
loop-frame-preserved c = λ h v shows.
    passes_next (is_unhanded_or_owned
    (family_of h v)) c.args.frames.now c.loop-frame.frame-index c.frame-item.result c.loop-frame-test.true c.frame-item.is
    (c.loop-frame.invariant h v shows)
    (sym (c.is_honest_frame.ensures h v shows) ∙ c.if-not-is_honest_frame.false)

pub returns-then-not-is_honest_frame : goal.returns-then-not-is_honest_frame
returns-then-not-is_honest_frame c = λ h v shows.
    sym (one_fails (is_unhanded_or_owned
    (family_of h v)) c.args.frames.now c.loop-frame.frame-index c.frame-item.result c.loop-frame-test.true c.frame-item.is
    (sym (c.is_honest_frame.ensures h v shows) ∙ c.if-not-is_honest_frame.true))

pub returns : goal.returns
returns c = λ h v shows. sym (c.loop-frame.invariant h v shows) ∙ ap (list_all (is_unhanded_or_owned (family_of h v)))
    (take_all c.loop-frame.frame-index c.args.frames.now c.loop-frame-test.false)
