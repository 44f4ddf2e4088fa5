use Rattle.std.proofs.Common.{◌≡◌}
use Rattle.audit_input.specs.Places.{first_place, place}
use Rattle.audit_input.proofs.Runs.{Goes}
use Rattle.audit_input.proofs.journals.read_journals.Given as goal

-- the journals before this line were read, and no read has failed
abbrev pub invariant-journals : goal.invariant-journals
invariant-journals g l = record {
  goes : Goes (g.S.Source.left l.fn.input) (g.S.Source.left l.input) (first_place l.first l.fn.lines.ahead) l.journals.items
      (place l.left l.number l.room l.lines.ahead);
  steady : g.S.Source.faults l.input ≡ g.S.Source.faults l.fn.input;
}
