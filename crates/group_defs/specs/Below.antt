-- Names of the crates below, for those above: they need not name these.
pub use Rattle.message_defs.specs.Below.{bytes_discrete, first_some, first_that_holds, has, is_some_and, is_yes, least, least_from, numbers_below, option_discrete, pair_discrete, put, sorted}
pub use Rattle.message_defs.specs.Claims.{Claims, Faulty, Wants}
pub use Rattle.message_defs.specs.Limits.{last_number, last_rank, most_payload_bytes, most_places}
pub use Rattle.message_defs.specs.Spelling.{IsClaim, IsStatement, IsUpdate, ready_bytes, spelling, value_bytes}
pub use Rattle.message_defs.specs.Statements.{Ack, AckAt, Batch, Batch-discrete, Claim, Conflicts, Echo, EchoAt, End, EndAt, Init, InitAt, Keep, KeepAt, Last, LastAt, Message, Message-discrete, Notify, NotifyAt, Order, OrderAt, Place, PlaceAt, Ready, ReadyAt, Slot, Slot-discrete, Statement, Statement-discrete, Suggest, SuggestAt, batch_of, messages_of, payload_of, same_slot, same_statement, slot_of, value_of, view_of}
pub use Rattle.message_defs.specs.Updates.{Add, Remove, Renew, Update, Update-discrete, Value, Value-discrete, update_numbers, value_numbers}
