-- A batch in an array of 16: its messages, and (0, 0) in the room after them.
use lib.Pointwise.{pointwise}
use Rattle.std.specs.Prelude.{◌≡◌, ℕ, ◌+◌, ◌-◌, ◌≤◌, Bool, ◌&&◌, nat_eq, List, [], ◌∷◌, ◌++◌, length, map, take, replicate, refl}
use Rattle.std.proofs.Common.{ap, sym, ◌∙◌, arith}
use Rattle.std.specs.Cmp.{IsEquivalence}
use Rattle.std.proofs.lemmas.Cmp.{nat_eq_equiv, on_equiv, and_equiv, lists_equiv}
use Rattle.std.proofs.lemmas.List.{length-map, length-append, length-take, length-replicate}
use Rattle.message_defs.specs.Statements.{Message, Batch}

-- the message of this number of this sender
abbrev pub message : ℕ → ℕ → Message
message sender number = record { sender = sender; number = number }

abbrev pub message_of : ℕ × ℕ → Message
message_of m = message m.0 m.1

-- its sender and its number
abbrev pub pair_of : Message → ℕ × ℕ
pair_of m = (m.sender, m.number)

-- these, and (0, 0) up to 16
abbrev pub filled : List (ℕ × ℕ) → List (ℕ × ℕ)
filled ms = ms ++ replicate (16 - length ms) (0, 0)

-- 1 to 16 messages, with nothing but (0, 0) after them
pub record IsKept (len : ℕ) (messages : List (ℕ × ℕ)) : Type 0 where
  pub some : 1 ≤ len
  pub few : len ≤ 16
  pub behind : messages ≡ filled (take len messages)

-- ---- the fields are those of the list

pairs_again : (ms : List (ℕ × ℕ)) → map pair_of (map message_of ms) ≡ ms
pairs_again [] = refl
pairs_again (m ∷ ms) = ap (λ (xs : List (ℕ × ℕ)). m ∷ xs) (pairs_again ms)

pub length-filled : (ms : List (ℕ × ℕ)) → length ms ≤ 16 → length (filled ms) ≡ 16
length-filled ms few = length-append ms (replicate (16 - length ms) (0, 0)) ∙ ap (λ n. length ms + n)
    (length-replicate {A = ℕ × ℕ} (16 - length ms) (0, 0)) ∙ omega arith

-- an array of 16, of which the first `len` are taken
pub taken : (len : ℕ) (ms : List (ℕ × ℕ)) → IsKept len ms → length (take len ms) ≡ len
taken len ms kept =
    let least = length-take len ms in
    let whole = ap length kept.behind ∙ length-filled (take len ms) (omega (arith, kept.few, least)) in
    omega (arith, kept.few, whole, least)

pub filled_again : (len : ℕ) (ms : List (ℕ × ℕ)) → IsKept len ms
    → (filled (map pair_of (map message_of (take len ms))) ≡ ms) × (length (map message_of (take len ms)) ≡ len)
filled_again len ms kept = (
  ap filled (pairs_again (take len ms)) ∙ sym kept.behind,
  length-map (take len ms) message_of ∙ taken len ms kept,
)

-- ---- equality

abbrev pub same_message : Message → Message → Bool
same_message a b = nat_eq a.sender b.sender && nat_eq a.number b.number

-- message by message
unfoldable pub same_batch : Batch → Batch → Bool
same_batch b c = pointwise same_message b c

pub batch_equiv : IsEquivalence same_batch
unfolding same_batch
batch_equiv = lists_equiv (and_equiv (on_equiv (λ (m : Message). m.sender) nat_eq_equiv)
    (on_equiv (λ (m : Message). m.number) nat_eq_equiv))
