-- How many bytes a batch has, and how its messages are written one after another.
use Rattle.std.proofs.Common.{◌≡◌, ◌+◌, ◌*◌, [], ◌∷◌, length, refl, ◌∙◌, arith}
use Rattle.std.specs.List.{flat_map}
use Rattle.std.proofs.lemmas.List.{length-append}
use Rattle.message_defs.specs.Statements.{Batch}
use Rattle.message_defs.specs.Spelling.{message_bytes, batch_bytes}

pub messages_length : (b : Batch) → length (flat_map message_bytes b) ≡ 3 * length b
messages_length [] = refl
messages_length (m ∷ ms) = length-append (message_bytes m) (flat_map message_bytes ms) ∙ omega (arith, messages_length ms)

pub one_length : (b : Batch) → length b ≡ 1 → length (batch_bytes b) ≡ 3
one_length [] one = absurd (omega (arith, one))
one_length (m ∷ []) one = refl
one_length (m ∷ l ∷ ms) one = absurd (omega (arith, one))

pub several_length : (b : Batch) → (length b ≡ 1 → ⊥) → length (batch_bytes b) ≡ 1 + 3 * length b
several_length [] several = refl
several_length (m ∷ []) several = absurd (several refl)
several_length (m ∷ l ∷ ms) several = omega (arith, messages_length (m ∷ l ∷ ms))
