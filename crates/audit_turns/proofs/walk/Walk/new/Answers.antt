use Rattle.audit_turns.specs.declared.walk.Walk.{Walk}
use Rattle.audit_turns.proofs.Beginning.{none-walk}
use Rattle.audit_turns.proofs.walk.Walk.new.Goals as goal

pub returns : goal.returns
returns c = λ s.
    let w : Walk = record { players = c.new.result; claims = c.new-2.result } in
    none-walk s w c.new.ensures.items (c.new-2.ensures s)
