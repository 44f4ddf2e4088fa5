-- A batch grows by a message, and two batches are compared by their messages.
use lib.Pointwise.{pointwise}
use Rattle.std.proofs.Common.{◌≡◌, ℕ, suc, ◌+◌, ◌-◌, ◌<◌, true, false, ◌⊎◌, inl, inr, List, [], ◌∷◌, ◌++◌, length, map, take, set, refl, sym, ap, ◌∙◌, append_assoc, arith}
use Rattle.std.specs.Prelude.{replicate, ◌&&◌, ◌==◌}
use Rattle.std.proofs.lemmas.List.{set_at, length-append, take_more_set}
use Rattle.std.specs.Bool.{Decides}
use Rattle.std.proofs.lemmas.Bool.{cases_Bool}
use Rattle.std.proofs.lemmas.Bool.Decides.{Decides-like, Decides-and, Decides-eqb}
use Rattle.std.proofs.lemmas.Slice.Eq.{slice_eq-Decides}
use Rattle.message_defs.specs.Statements.{Message, Batch}
use Rattle.statements.specs.Batches.{IsKept, filled, taken, length-filled, message, message_of, same_message, same_batch}

-- the first of the unused room is written
next_filled : (ms : List (ℕ × ℕ)) (m : ℕ × ℕ) (n : ℕ) → length ms ≡ n → n < 16 → set (filled ms) n m ≡ filled (ms ++ m ∷ [])
next_filled ms m n len few =
    let unused : ℕ × ℕ = (0, 0) in
    let room : 16 - length ms ≡ suc (15 - n) = omega (arith, len) in
    let less : 16 - length (ms ++ m ∷ []) ≡ 15 - n = omega (arith, length-append ms (m ∷ []), len) in
    ap (λ k. set (ms ++ replicate k unused) n m) room
    ∙ set_at ms unused (replicate (15 - n) unused) m n len
    ∙ sym (append_assoc ms (m ∷ []) (replicate (15 - n) unused))
    ∙ ap (λ k. (ms ++ m ∷ []) ++ replicate k unused) (sym less)

pub put_behind : (len : ℕ) (ms : List (ℕ × ℕ)) (m : ℕ × ℕ) → IsKept len ms → len < 16 → IsKept (len + 1) (set ms len m)
put_behind len ms m kept few =
    let whole : length ms ≡ 16 = ap length kept.behind ∙ length-filled (take len ms) (omega (arith, taken len ms kept)) in
    let more = take_more_set ms len m (omega (arith, whole)) in
    record {
      some = omega arith;
      few = omega arith;
      behind = ap (λ (xs : List (ℕ × ℕ)). set xs len m) kept.behind ∙ next_filled (take len ms) m len (taken len ms kept) few ∙ ap filled
          (sym more);
    }

-- pair by pair
pub same_pairs : (xs ys : List (ℕ × ℕ))
    → pointwise (λ (a b : ℕ × ℕ). same_message (message_of a) (message_of b)) xs ys
    ≡ pointwise same_message (map message_of xs) (map message_of ys)
same_pairs [] [] = refl
same_pairs [] (y ∷ ys) = refl
same_pairs (x ∷ xs) [] = refl
same_pairs (x ∷ xs) (y ∷ ys) = ap (λ b. same_message (message_of x) (message_of y) && b) (same_pairs xs ys)

message_decided : (a b : Message) → Decides (same_message a b) (a ≡ b)
message_decided a b =
    Decides-like (same_message a b) (λ parts. λ i. message (parts.0 i) (parts.1 i))
    (λ e. (ap (λ (m : Message). m.sender) e, ap (λ (m : Message). m.number) e))
    (Decides-and (a.sender == b.sender) (a.number == b.number) (Decides-eqb a.sender b.sender) (Decides-eqb a.number b.number))

pub batch_decided : (b c : Batch) → Decides (same_batch b c) (b ≡ c)
unfolding same_batch
batch_decided b c = slice_eq-Decides message_decided b c (same_batch b c) refl

-- batches that `==` tells equal are equal
pub batches_equal : (b c : Batch) → (same_batch b c ≡ false) ⊎ (b ≡ c)
batches_equal b c = elim (cases_Bool (same_batch b c)) [ inl same ↦ inr ((batch_decided b c).0 same) | inr other ↦ inl other ]

pub batch_itself : (b : Batch) → same_batch b b ≡ true
batch_itself b = (batch_decided b b).1 refl
