use Rattle.std.proofs.Common.{ℕ, ◌+◌, List, [], ◌∷◌, take, drop, subst}
use Rattle.group_defs.specs.Accounts.{IsPrefixOf}
use Rattle.group_questions.specs.Letters.{letters}
use Rattle.sound_question.specs.Parts.{payloads_of}
use Rattle.sound_question.proofs.Behind.{no-further, payloads-split}
use Rattle.sound_question.proofs.acceptance.behind.Goals as goal

pub returns-in-None : goal.returns-in-None
returns-in-None c =
    let me = c.args.me in
    let ds = c.args.sequence.now in
    let i = c.loop-d.d-index in
    let d = c.d-item.result in
    λ p. no-further (payloads_of me (letters (take i ds))) (payloads_of me (letters (d ∷ [])))
    (payloads_of me (letters (drop (i + 1) ds))) c.loop-d.left.now c.args.accepted.now c.loop-d.invariant
    (λ q. c.in-None.ensures q)
    (subst (λ (ps : List (List ℕ)). IsPrefixOf ps c.args.accepted.now) (payloads-split me ds i d c.loop-d-test.true c.d-item.is) p)
