use Rattle.std.proofs.Common.{◌≡◌}
use Rattle.line_input.specs.Places.{Leads}
use Rattle.store_questions.specs.Gathering.{nothing_gathered}
use Rattle.store_questions.specs.Places.{gather_at, place}
use Rattle.store_questions.specs.Views.{gathered}
use Rattle.store_questions.proofs.reading.gather.Given as goal

-- what is gathered is what is gathered from the next line on, and no call has failed
abbrev pub invariant-lines : goal.invariant-lines
invariant-lines g l = record {
  leads : Leads (gather_at (place l.kit l.payload l.first nothing_gathered l.fn.lines.ahead)) (g.S.Source.left l.fn.input) (g.S.Source.left l.input)
      (gather_at (place l.kit l.payload l.number (gathered l.gathered) l.lines.ahead));
  steady : g.S.Source.faults l.input ≡ g.S.Source.faults l.fn.input;
}
