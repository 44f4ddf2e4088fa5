use Rattle.std.proofs.Common.{arith}
use Rattle.store_defs.specs.Records.{IsStateRecord, state_bytes, state_record_of}
use Rattle.store_laws.proofs.RecordGrammar.{state_is_read, state_is_spelled}
use Rattle.store_records.specs.Views.{state_record}
use Rattle.store_records.proofs.Readers.{found_is_spelled, spelled_is_found}
use Rattle.store_records.proofs.state.read_state.Goals as goal

pub returns-clause-found : goal.returns-clause-found
returns-clause-found c = found_is_spelled state_record state_record_of state_bytes IsStateRecord state_is_spelled c.state_in.result
    c.args.bytes.now (λ i. omega (arith, c.type_inv.bytes i)) c.state_in.ensures

pub returns-clause-only : goal.returns-clause-only
returns-clause-only c = λ r is spelled. spelled_is_found state_record state_record_of state_bytes IsStateRecord state_is_read
    c.state_in.result c.args.bytes.now r c.state_in.ensures is spelled
