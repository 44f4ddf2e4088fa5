-- What a frame can carry, as tests: a claim passes exactly where it is one (`IsClaim`).
use Rattle.std.specs.Prelude.{ℕ, Bool, true, ◌&&◌, nat_lt, nat_le, length, Option, Some, None}
use Rattle.std.specs.List.{list_all}
use Rattle.message_defs.specs.Limits.{last_number, last_process, last_rank, most_messages, most_payload_bytes, most_places, most_signature_bytes}
use Rattle.message_defs.specs.Updates.{Update, Remove, Add, Renew, Value}
use Rattle.message_defs.specs.Statements.{Message, Batch, Statement, Init, Echo, Order, Place, Keep, Notify, End, Last, Suggest, Ack, Ready, Claim}

abbrev pub message_fits : Message → Bool
message_fits m = nat_le m.sender last_process && nat_le m.number last_number

abbrev pub batch_fits : Batch → Bool
batch_fits b = nat_le 1 (length b) && nat_le (length b) most_messages && list_all message_fits b

abbrev pub update_fits : Update → Bool
update_fits (Remove p) = nat_le p last_process
update_fits (Add p) = nat_le p last_process
update_fits Renew = true

abbrev pub value_fits : Value → Bool
value_fits v = update_fits v.update && nat_le v.cut most_places

-- what a Last of this rank reports
abbrev pub report_fits : ℕ → Option (ℕ × Value) → Bool
report_fits rank None = true
report_fits rank (Some ready) = nat_lt ready.0 rank && value_fits ready.1

abbrev pub placed_fits : ℕ → ℕ → Batch → Bool
placed_fits x k b = nat_le x last_number && nat_le k last_number && batch_fits b

abbrev pub ranked_fits : ℕ → ℕ → Value → Bool
ranked_fits x r v = nat_le x last_number && nat_le r last_rank && value_fits v

abbrev pub statement_fits : Statement → Bool
statement_fits (Init x l payload) = nat_le x last_number && nat_le l last_number && nat_le (length payload) most_payload_bytes
statement_fits (Echo x m payload) = nat_le x last_number && message_fits m && nat_le (length payload) most_payload_bytes
statement_fits (Order x k b) = placed_fits x k b
statement_fits (Place x k b) = placed_fits x k b
statement_fits (Keep x k b) = placed_fits x k b
statement_fits (Notify x u) = nat_le x last_number && update_fits u
statement_fits (End x k) = nat_le x last_number && nat_le k most_places
statement_fits (Last x r ready) = nat_le x last_number && nat_le r last_rank && report_fits r ready
statement_fits (Suggest x r v) = ranked_fits x r v
statement_fits (Ack x r v) = ranked_fits x r v
statement_fits (Ready x r v) = ranked_fits x r v

abbrev pub claim_fits : Claim → Bool
claim_fits c = nat_le c.signer last_process && statement_fits c.statement && nat_le (length c.signature) most_signature_bytes
