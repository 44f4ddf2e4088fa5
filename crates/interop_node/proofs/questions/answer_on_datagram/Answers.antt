use Rattle.std.proofs.Common.{ap, ◌∙◌}
use Rattle.interop_node.specs.Datagrams.{datagram_answer}
use Rattle.interop_node.proofs.QuestionLaws.{datagram_answers}
use Rattle.interop_node.proofs.questions.answer_on_datagram.Goals as goal

pub returns-clause-answers : goal.returns-clause-answers
returns-clause-answers c =
    datagram_answers c.args.key.now c.args.word.now c.in_ok-key.key c.in_ok-bytes.bytes.items c.in_ok-answer_datagram.field-0.items
    c.in_ok-key.ensures.read.0 c.in_ok-key.ensures.read.1 c.in_ok-bytes.ensures.read
    (c.in_ok-answer_datagram.ensures ∙ ap (datagram_answer c.in_ok-key.key) c.deref.ensures.value)
