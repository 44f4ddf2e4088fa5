use Rattle.interop_words.proofs.FieldLaws.{two_words}
use Rattle.interop_pool.proofs.QuestionLaws.{five_words}
use Rattle.interop_pool.proofs.questions.answer_pools.Goals as goal

pub returns-in-len5-clause-answers : goal.returns-in-len5-clause-answers
returns-in-len5-clause-answers c = rw
    (five_words c.args.words.now _ _ _ _ c.in-len5.len_at_least c.in-len5.len_below c.eq-then-words-lt6.ensures c.if-eq-2.true c.as_slice-then-words-lt6.ensures)
    c.answer_on_pool.ensures.answers

pub returns-in-len5-clause-no_question : goal.returns-in-len5-clause-no_question
returns-in-len5-clause-no_question c = rw
    (five_words c.args.words.now _ _ _ _ c.in-len5.len_at_least c.in-len5.len_below c.eq-then-words-lt6.ensures c.if-eq-2.true c.as_slice-then-words-lt6.ensures)
    c.answer_on_pool.ensures.no_question

pub returns-in-len2-clause-answers : goal.returns-in-len2-clause-answers
returns-in-len2-clause-answers c = rw
    (two_words c.args.words.now _ _ _ _ c.in-len2.len_at_least c.in-len2.len_below c.eq.ensures c.if-eq.true
    c.as_slice.ensures) c.answer_on_convicted.ensures.answers

pub returns-in-len2-clause-no_question : goal.returns-in-len2-clause-no_question
returns-in-len2-clause-no_question c = rw
    (two_words c.args.words.now _ _ _ _ c.in-len2.len_at_least c.in-len2.len_below c.eq.ensures c.if-eq.true
    c.as_slice.ensures) c.answer_on_convicted.ensures.no_question
