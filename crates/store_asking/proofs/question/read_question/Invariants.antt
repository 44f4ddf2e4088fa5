use Rattle.std.proofs.Common.{◌≡◌, []}
use Rattle.line_input.specs.Places.{Leads}
use Rattle.store_asking.specs.Places.{key_place, question_at}
use Rattle.store_asking.proofs.question.read_question.Given as goal

-- the question is the one from the next line on, and no call has failed
abbrev pub invariant-lines : goal.invariant-lines
invariant-lines g l = record {
  leads : Leads (question_at (key_place l.kit l.first [] l.fn.lines.ahead)) (g.S.Source.left l.fn.input) (g.S.Source.left l.input)
      (question_at (key_place l.kit l.number l.keys l.lines.ahead));
  steady : g.S.Source.faults l.input ≡ g.S.Source.faults l.fn.input;
}
