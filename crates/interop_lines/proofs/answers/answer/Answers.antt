use Rattle.std.proofs.Common.{map, Err, ap, ◌∙◌}
use Rattle.interop_lines.proofs.KindLaws.{none}
use Rattle.interop_lines.proofs.answers.answer.Goals as goal

pub returns-in-Err-NoQuestion-answer_stores-clause-no_question : goal.returns-in-Err-NoQuestion-answer_stores-clause-no_question
returns-in-Err-NoQuestion-answer_stores-clause-no_question g c = λ is reported.
    none _ c.args.line.now reported _ _ _ _ _ _ _
    (ap (map (λ word. word.now)) c.deref.ensures.value ∙ c.in_ok-words.ensures)
    (ap (map (λ word. word.now)) c.deref-in-Err-NoQuestion.ensures.value ∙ c.in_ok-words.ensures)
    (ap (map (λ word. word.now)) c.deref-in-Err-NoQuestion-answer_frames.ensures.value ∙ c.in_ok-words.ensures)
    (ap (map (λ word. word.now)) c.deref-in-Err-NoQuestion-answer_files.ensures.value ∙ c.in_ok-words.ensures)
    (ap (map (λ word. word.now)) c.deref-in-Err-NoQuestion-answer_nodes.ensures.value ∙ c.in_ok-words.ensures)
    (ap (map (λ word. word.now)) c.deref-in-Err-NoQuestion-answer_pools.ensures.value ∙ c.in_ok-words.ensures)
    (ap (map (λ word. word.now)) c.deref-in-Err-NoQuestion-answer_stores.ensures.value ∙ c.in_ok-words.ensures)
    (c.in-Err-NoQuestion.ensures.no_question (ap (λ e. Err e) c.in-Err-NoQuestion.field-0-is) reported)
    (c.in-Err-NoQuestion-answer_frames.ensures.no_question (ap (λ e. Err e) c.in-Err-NoQuestion-answer_frames.field-0-is) reported)
    (c.in-Err-NoQuestion-answer_files.ensures.no_question (ap (λ e. Err e) c.in-Err-NoQuestion-answer_files.field-0-is) reported)
    (c.in-Err-NoQuestion-answer_nodes.ensures.no_question (ap (λ e. Err e) c.in-Err-NoQuestion-answer_nodes.field-0-is) reported)
    (c.in-Err-NoQuestion-answer_pools.ensures.no_question (ap (λ e. Err e) c.in-Err-NoQuestion-answer_pools.field-0-is) reported)
    (c.in-Err-NoQuestion-answer_stores.ensures.no_question (ap (λ e. Err e) c.in-Err-NoQuestion-answer_stores.field-0-is) reported)
    (c.answer_runs.ensures.no_question is reported)
