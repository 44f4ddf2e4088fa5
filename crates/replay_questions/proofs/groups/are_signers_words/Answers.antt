use Rattle.std.proofs.Common.{sym, ◌∙◌}
use Rattle.replay_questions.specs.Words.{is_word}
use Rattle.replay_questions.proofs.Tested.{first_passes, first_fails, none_left}
use Rattle.replay_questions.proofs.groups.are_signers_words.Goals as goal

pub signatures-preserved : goal.signatures-preserved
signatures-preserved c =
    first_passes (λ s. is_word c.args.players.now s.0 c.args.statement.now) _ _ _ c.in-Some.ensures.steps
    (sym c.is_word_of_all.ensures ∙ c.if-not-is_word_of_all.false) ∙ c.signatures.invariant

pub returns-then-not-is_word_of_all : goal.returns-then-not-is_word_of_all
returns-then-not-is_word_of_all c =
    sym (first_fails (λ s. is_word c.args.players.now s.0 c.args.statement.now) _ _ _ c.in-Some.ensures.steps
    (sym c.is_word_of_all.ensures ∙ c.if-not-is_word_of_all.true)) ∙ c.signatures.invariant

pub returns : goal.returns
returns c =
    sym (none_left (λ s. is_word c.args.players.now s.0 c.args.statement.now) _ c.in_default.ensures.steps.0) ∙ c.signatures.invariant
