use Rattle.audit_input.proofs.Steps.{journal_taken}
use Rattle.audit_input.proofs.journals.next_journal.Goals as goal

pub returns-in-Some-2-clause-taken : goal.returns-in-Some-2-clause-taken
returns-in-Some-2-clause-taken g c =
    journal_taken c.args.left c.args.number c.args.room c.in-Some.len c.args.lines.now.ahead c.next_length.new.lines.ahead _ _ _
    (rw c.in-Some.is at c.in_ok-len.ensures.taken) c.in-Some-2.bytes.items c.read_bytes.new.self.ahead
    (rw c.in-Some-2.is at c.in_ok-bytes.ensures.takes) c.from_vec.result c.from_vec.ensures
