-- How many bytes each kind of statement has.
use Rattle.std.proofs.Common.{◌≡◌, ℕ, ◌*◌, ◌≤◌, [], ◌∷◌, length, Option, Some, None, refl, ◌∙◌, arith}
use Rattle.std.specs.List.{flat_map}
use Rattle.std.proofs.lemmas.List.{length-append}
use Rattle.byte_defs.specs.Fields.{two_bytes}
use Rattle.message_defs.specs.Updates.{Update, Remove, Add, Renew, Value, update_numbers}
use Rattle.message_defs.specs.Statements.{Batch, Init, Echo, Order, Place, Keep, Notify, End, Last, Suggest, Ack, Ready}
use Rattle.message_defs.specs.Spelling.{IsBatch, message_bytes, batch_bytes, value_bytes, ready_bytes}
use Rattle.length_laws.specs.Lengths.{StatementsAreShort}

messages-length : (b : Batch) → length (flat_map message_bytes b) ≡ 3 * length b
messages-length [] = refl
messages-length (m ∷ ms) = length-append (message_bytes m) (flat_map message_bytes ms) ∙ omega (arith, messages-length ms)

batch-short : (b : Batch) → IsBatch b → length (batch_bytes b) ≤ 49
batch-short [] is = absurd (omega (arith, is.some))
batch-short (m ∷ []) is = omega arith
batch-short (m ∷ l ∷ ms) is = omega (arith, messages-length (m ∷ l ∷ ms), is.few)

update-length : (u : Update) → length (update_numbers u) ≡ 2
update-length (Remove p) = refl
update-length (Add p) = refl
update-length Renew = refl

value-length : (v : Value) → length (value_bytes v) ≡ 4
value-length v = omega (arith, length-append (update_numbers v.update) (two_bytes v.cut), update-length v.update)

ready-short : (ready : Option (ℕ × Value)) → length (ready_bytes ready) ≤ 6
ready-short None = omega arith
ready-short (Some r) = omega (arith, value-length r.1)

pub statements_are_short : StatementsAreShort
statements_are_short (Init x l payload) is = omega (arith, is.2)
statements_are_short (Echo x m payload) is = omega (arith, is.2)
statements_are_short (Order x k b) is = omega (arith, batch-short b is.2)
statements_are_short (Place x k b) is = omega (arith, batch-short b is.2)
statements_are_short (Keep x k b) is = omega (arith, batch-short b is.2)
statements_are_short (Notify x u) is = omega (arith, update-length u)
statements_are_short (End x k) is = omega arith
statements_are_short (Last x r ready) is = omega (arith, ready-short ready)
statements_are_short (Suggest x r v) is = omega (arith, value-length v)
statements_are_short (Ack x r v) is = omega (arith, value-length v)
statements_are_short (Ready x r v) is = omega (arith, value-length v)
