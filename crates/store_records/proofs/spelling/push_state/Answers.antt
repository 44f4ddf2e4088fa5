use Rattle.std.proofs.Common.{arith}
use Rattle.store_records.specs.Views.{state_record}
use Rattle.store_records.proofs.Lengths.{length-state}
use Rattle.store_records.proofs.spelling.push_state.Goals as goal

pub append_state_fields-requires-clause-fits : goal.append_state_fields-requires-clause-fits
append_state_fields-requires-clause-fits c = let le = length-state (state_record c.args.given.now) c.requires in omega (arith, le)
