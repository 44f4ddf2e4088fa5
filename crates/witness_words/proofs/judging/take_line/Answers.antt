use Rattle.std.proofs.Common.{◌≡◌, Option, None, false, arith, rules}
use Rattle.std.proofs.lemmas.Grind.{common_steps}
use Rattle.audit_defs.specs.Players.{setting_of}
use Rattle.witness_defs.specs.Lines as reported
use Rattle.witness_defs.specs.Lines.{evidence_in}
use Rattle.witness_words.specs.Seen.{evidence}
use Rattle.audit_input.specs.declared.stops.Fault.TheVariants.{Line, Evidence}
use Rattle.witness_words.proofs.Steps.{no_line, taken_line, untaken_line}
use Rattle.witness_words.proofs.judging.take_line.Goals as goal

pub returns-in_default-clause-refused : goal.returns-in_default-clause-refused
returns-in_default-clause-refused c = λ fault e.
    let none : (let o : Option reported.Evidence = None in o) ≡ evidence_in c.args.line.now = first_of (cc, search rules, grind (arith, common_steps)) in
    let same : Line c.args.number ≡ fault = cc in
    no_line (setting_of c.args.kit.now) c.args.number c.args.line.now none fault same

pub returns-then-is_taken-clause-taken : goal.returns-then-is_taken-clause-taken
returns-then-is_taken-clause-taken c =
    taken_line (setting_of c.args.kit.now) c.args.number c.args.line.now (evidence c.in-Some.evidence) (rw c.in-Some.is at c.in_ok-evidence.ensures)
    c.is_taken.result (rw c.deref.ensures.value at c.is_taken.ensures) c.if-is_taken.true

pub returns-clause-refused : goal.returns-clause-refused
returns-clause-refused c = λ fault e.
    let fails : c.is_taken.result ≡ false = first_of (cc, search rules, grind (arith, common_steps)) in
    let same : Evidence c.args.number ≡ fault = cc in
    untaken_line (setting_of c.args.kit.now) c.args.number c.args.line.now (evidence c.in-Some.evidence) (rw c.in-Some.is at c.in_ok-evidence.ensures)
    c.is_taken.result (rw c.deref.ensures.value at c.is_taken.ensures) fails fault same
