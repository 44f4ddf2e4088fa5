use Rattle.std.proofs.Common.{sym, ap, ◌∙◌}
use Rattle.std.specs.List.{list_all}
use Rattle.std.proofs.lemmas.List.{take_all}
use Rattle.replay_defs.specs.Worlds.{family_of}
use Rattle.replay_world.specs.Handing.{claims_of}
use Rattle.replay_questions.specs.Owned.{is_owned}
use Rattle.replay_questions.proofs.Tested.{passes_next, one_fails}
use Rattle.replay_questions.proofs.honesty.are_honest.Goals as goal

pub loop-bytes-preserved : goal.loop-bytes-preserved
loop-bytes-preserved c = λ h v shows.
    passes_next (λ bytes. list_all (is_owned (family_of h v))
    (claims_of bytes)) c.args.raws.now c.loop-bytes.bytes-index c.bytes-item.result c.loop-bytes-test.true c.bytes-item.is
    (c.loop-bytes.invariant h v shows)
    (ap (λ bytes. list_all (is_owned (family_of h v)) (claims_of bytes))
    (sym c.bytes.ensures) ∙ (sym (c.is_honest.ensures h v shows) ∙ c.if-not-is_honest.false))

pub returns-then-not-is_honest : goal.returns-then-not-is_honest
returns-then-not-is_honest c = λ h v shows.
    sym (one_fails (λ bytes. list_all (is_owned (family_of h v))
    (claims_of bytes)) c.args.raws.now c.loop-bytes.bytes-index c.bytes-item.result c.loop-bytes-test.true c.bytes-item.is
    (ap (λ bytes. list_all (is_owned (family_of h v)) (claims_of bytes))
    (sym c.bytes.ensures) ∙ (sym (c.is_honest.ensures h v shows) ∙ c.if-not-is_honest.true)))

pub returns : goal.returns
returns c = λ h v shows. sym (c.loop-bytes.invariant h v shows) ∙ ap
    (list_all (λ bytes. list_all (is_owned (family_of h v)) (claims_of bytes)))
    (take_all c.loop-bytes.bytes-index c.args.raws.now c.loop-bytes-test.false)
