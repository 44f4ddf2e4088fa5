use Rattle.std.proofs.Common.{ℕ, List, ◌∷◌, ◌++◌, codes, ap, ◌∙◌}
use Rattle.text_defs.specs.Words.{line_text}
use Rattle.statements.specs.Batches.{message}
use Rattle.trace_defs.specs.Phrases.{number_and_colon, message_word, payload_words}
use Rattle.trace_defs.specs.Outcomes.{of_process}
use Rattle.story_trace.proofs.claims.push_echo.Goals as goal

pub returns : goal.returns
returns c =
    let text : ℕ → ℕ → ℕ → List ℕ = λ s n x.
    c.args.out.now.items
    ++ line_text (of_process c.args.at
    (codes "signs" ∷ codes "Echo of" ∷ message_word (message s n) ∷ codes "in view" ∷ number_and_colon x
    ∷ payload_words c.args.payload.now)) in
    c.in_ok-said_with_payload.ensures
    ∙ (ap (λ (s : ℕ). text s c.into-2.result c.into-3.result) (c.into.ensures ∙ c.get.ensures.value)
    ∙ (ap (λ (n : ℕ). text c.args.sender n c.into-3.result) c.into-2.ensures ∙ ap
    (λ (x : ℕ). text c.args.sender c.args.number x) c.into-3.ensures))
