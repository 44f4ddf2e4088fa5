-- Commands and records of the code, as plain data.
use Rattle.store_defs.specs.Stores as stores
use Rattle.store_defs.specs.Records as records
use Rattle.store_records.specs.declared.command.Command.{Command}
use Rattle.store_records.specs.declared.command.Command.TheVariants.{Set, Get, Remove, Exchange}
use Rattle.store_records.specs.declared.reply.Reply.{Reply}
use Rattle.store_records.specs.declared.pairs.Pair.{Pair}
use Rattle.store_records.specs.declared.state.StateRecord.{StateRecord}

abbrev pub command : Command → stores.Command
command (Set key value) = stores.Set key.now value.now
command (Get key) = stores.Get key.now
command (Remove key) = stores.Remove key.now
command (Exchange key expected value) = stores.Exchange key.now expected.now value.now

abbrev pub reply : Reply → records.Reply
reply r = record {
  signer = r.signer;
  view = r.view;
  place = r.place;
  position = r.position;
  payload = r.payload.now;
  answer = r.answer.now;
  signature = r.signature.now;
}

abbrev pub pair : Pair → stores.Pair
pair e = (e.key.now, e.value.now)

abbrev pub state_record : StateRecord → records.StateRecord
state_record r = record { signer = r.signer; view = r.view; state = r.state.now; signature = r.signature.now }
