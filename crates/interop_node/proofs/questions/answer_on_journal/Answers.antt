use Rattle.std.proofs.Common.{List, ℕ, subst}
use Rattle.interop_node.specs.Journals.{SaysOfJournal}
use Rattle.interop_node.proofs.QuestionLaws.{journal_answers}
use Rattle.interop_node.proofs.questions.answer_on_journal.Goals as goal

pub returns-clause-answers : goal.returns-clause-answers
returns-clause-answers c =
    journal_answers c.args.word.now c.in_ok-bytes.bytes.items c.in_ok-answer_journal.field-0.items c.in_ok-bytes.ensures.read
    (subst (λ (bytes : List ℕ). SaysOfJournal bytes c.in_ok-answer_journal.field-0.items)
    c.deref.ensures.value c.in_ok-answer_journal.ensures)
