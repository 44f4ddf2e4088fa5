-- Statements, slots and claims of the code, as plain data.
use Rattle.std.specs.Prelude.{ℕ, Bool, ◌==◌, if◌then◌else◌, [], ◌∷◌, Option, Some, None}
use Rattle.std.specs.Option.{option_map}
use Rattle.byte_defs.specs.Choices.{first_that_holds}
use Rattle.message_defs.specs.Updates as updates
use Rattle.message_defs.specs.Statements as plain
use Rattle.message_defs.specs.Claims.{in_bundle, in_proof}
use Rattle.rp_base.specs.declared.updates.Value.{Value}
use Rattle.rp_base.specs.Views.{update, value}
pub use Rattle.statements.specs.Batches.{message}
use Rattle.statements.specs.declared.statement.Statement.{Statement}
use Rattle.statements.specs.declared.statement.Statement.TheVariants.{Init, Echo, Order, Place, Keep, Notify, End, Last, Suggest, Ack, Ready}
use Rattle.statements.specs.declared.statement.Slot.{Slot}
use Rattle.statements.specs.declared.statement.Slot.TheVariants as slots
use Rattle.statements.specs.declared.statement.Claim.{Claim}
use Rattle.statements.specs.declared.reading.Carrier.{Carrier}
use Rattle.statements.specs.declared.reading.Carrier.TheVariants as carriers

-- a Last's report of a Ready
abbrev pub report : Option (ℕ × Value) → Option (ℕ × updates.Value)
report ready = option_map (λ r. (r.0, value r.1)) ready

abbrev pub stmt : Statement → plain.Statement
stmt (Init x l payload) = plain.Init x l payload.now
stmt (Echo x s l payload) = plain.Echo x (message s l) payload.now
stmt (Order x k b) = plain.Order x k b
stmt (Place x k b) = plain.Place x k b
stmt (Keep x k b) = plain.Keep x k b
stmt (Notify x u) = plain.Notify x (update u)
stmt (End x k) = plain.End x k
stmt (Last x r ready) = plain.Last x r (report ready)
stmt (Suggest x r v) = plain.Suggest x r (value v)
stmt (Ack x r v) = plain.Ack x r (value v)
stmt (Ready x r v) = plain.Ready x r (value v)

-- a slot of this kind, where the kind has such slots
abbrev pub slot : ℕ → Slot → Option plain.Slot
slot kind (slots.Number x l) = if kind == 1 then Some (plain.InitAt x l) else None
slot kind (slots.Message x s l) = if kind == 2 then Some (plain.EchoAt x (message s l)) else None
slot kind (slots.Place x k) = first_that_holds
    ((kind == 3, plain.OrderAt x k) ∷ (kind == 4, plain.PlaceAt x k) ∷ (kind == 5, plain.KeepAt x k) ∷ [])
slot kind (slots.Update x u) = if kind == 6 then Some (plain.NotifyAt x (update u)) else None
slot kind (slots.View x) = if kind == 7 then Some (plain.EndAt x) else None
slot kind (slots.Rank x r) = first_that_holds
    ((kind == 8, plain.LastAt x r) ∷ (kind == 9, plain.SuggestAt x r) ∷ (kind == 10, plain.AckAt x r) ∷ (kind == 11, plain.ReadyAt x r)
    ∷ [])

abbrev pub claim : Claim → plain.Claim
claim c = record { signer = c.signer; statement = stmt c.statement; signature = c.signature.now }

-- the kinds that a frame of this kind carries
abbrev pub carried : Carrier → ℕ → Bool
carried carriers.Bundle = in_bundle
carried carriers.Proof = in_proof
