use Rattle.interop_words.proofs.FieldLaws.{two_words}
use Rattle.interop_files.proofs.questions.answer_files.Goals as goal

pub returns-in-len2-clause-answers : goal.returns-in-len2-clause-answers
returns-in-len2-clause-answers c = rw
    (two_words c.args.words.now _ _ _ _ c.in-len2.len_at_least c.in-len2.len_below c.eq.ensures c.if-eq.true c.as_slice.ensures)
    c.answer_on_kit.ensures.answers

pub returns-in-len2-clause-no_question : goal.returns-in-len2-clause-no_question
returns-in-len2-clause-no_question c = rw
    (two_words c.args.words.now _ _ _ _ c.in-len2.len_at_least c.in-len2.len_below c.eq.ensures c.if-eq.true c.as_slice.ensures)
    c.answer_on_kit.ensures.no_question

pub returns-in-len2-2-clause-answers : goal.returns-in-len2-2-clause-answers
returns-in-len2-2-clause-answers c =
    rw (two_words c.args.words.now _ _ _ _ c.in-len2.len_at_least c.in-len2.len_below c.eq-then-words-lt3.ensures c.if-eq-2.true
    c.as_slice-then-words-lt3.ensures) c.answer_on_schedule.ensures.answers

pub returns-in-len2-2-clause-no_question : goal.returns-in-len2-2-clause-no_question
returns-in-len2-2-clause-no_question c =
    rw (two_words c.args.words.now _ _ _ _ c.in-len2.len_at_least c.in-len2.len_below c.eq-then-words-lt3.ensures c.if-eq-2.true
    c.as_slice-then-words-lt3.ensures) c.answer_on_schedule.ensures.no_question
