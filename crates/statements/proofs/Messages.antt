-- So many messages, read and their ranges tested one by one, where the definition reads them all before it tests any.
use Rattle.std.proofs.Common.{◌≡◌, ℕ, zero, suc, ◌+◌, ◌*◌, ◌<◌, ◌≤◌, Bool, true, false, ◌⊎◌, inl, inr, ltb, eqb, List, [], ◌∷◌, ◌++◌, length, take, drop, Result, Ok, Err, refl, sym, ap, ◌∙◌, append_assoc, arith}
use Rattle.std.specs.Int.{Width, w8, w16, byte_len, from_be_bytes}
use Rattle.std.proofs.lemmas.Bool.{le-ltb, lt-ltb, cases_lt}
use Rattle.std.proofs.lemmas.List.{length-drop, nil_from_length}
use Rattle.byte_defs.proofs.Fields.{ok_is, is_some}
use Rattle.byte_defs.specs.Fields.{◌>>=◌, number_at}
use Rattle.message_defs.specs.declared.FrameFault.{FrameFault}
use Rattle.message_defs.specs.declared.FrameFault.TheVariants as faults
use Rattle.message_defs.specs.Statements.{Message, Batch}
use Rattle.message_defs.specs.Reading.{short_at, count_at, placed_at, ended, message_at, messages_at, within, message_within, messages_within}
use Rattle.statements.specs.Batches.{message}
use Rattle.statements.specs.Raw.{in_range, passed}
use Rattle.statements.proofs.Parts.{is_within}

abbrev pub done : {A : Type 0} → A → Result A FrameFault
done x = Ok x

-- message by message
abbrev pub one_by_one : ℕ → List ℕ → Result Batch FrameFault
one_by_one zero bytes = Ok []
one_by_one (suc n) bytes = message_at bytes >>= λ m. message_within m.0 >>= λ _. one_by_one n m.1 >>= λ ms. Ok (m.0 ∷ ms)

-- ---- bytes that hold so many messages

-- there is a number, where there are bytes enough
number_there : (w : Width) (bytes : List ℕ) → byte_len w ≤ length bytes
    → (x : ℕ × List ℕ) × (number_at faults.Statement w bytes ≡ Ok x) × (length x.1 + byte_len w ≡ length bytes)
number_there w bytes long =
    let enough : ltb (length bytes) (byte_len w) ≡ false = le-ltb _ _ long in
    ((from_be_bytes w (take (byte_len w) bytes), drop (byte_len w) bytes), rw enough refl, omega (arith, length-drop (byte_len w) bytes))

pub message_there : (bytes : List ℕ) → 3 ≤ length bytes
    → (x : Message × List ℕ) × (message_at bytes ≡ Ok x) × (length x.1 + 3 ≡ length bytes)
unfolding message_at
message_there bytes long =
    let s = number_there w8 bytes (omega (arith, long)) in
    let n = number_there w16 s.0.1 (omega (arith, s.2)) in
    ((message s.0.0 n.0.0, n.0.1), rw (s.1, n.1) refl, omega (arith, s.2, n.2))

more_there : (n : ℕ) (bytes rest tail : List ℕ) (m : Message) (ms : Batch) → message_at bytes ≡ Ok (m, rest)
    → messages_at n rest ≡ Ok (ms, tail) → messages_at (suc n) bytes ≡ Ok (m ∷ ms, tail)
unfolding messages_at
more_there n bytes rest tail m ms first others = rw (first, others) refl

messages_there : (n : ℕ) (bytes : List ℕ) → length bytes ≡ 3 * n → (ms : Batch) × (messages_at n bytes ≡ Ok (ms, []))
unfolding messages_at
messages_there zero bytes len = ([], ap (λ (rest : List ℕ). Ok ([], rest)) (nil_from_length bytes (omega (arith, len))))
messages_there (suc n) bytes len =
    let m = message_there bytes (omega (arith, len)) in
    let ms = messages_there n m.0.1 (omega (arith, len, m.2)) in
    (m.0.0 ∷ ms.0, more_there n bytes m.0.1 [] m.0.0 ms.0 m.1 ms.1)

-- ---- bytes of another length

number_short : (w : Width) (bytes : List ℕ) → length bytes < byte_len w → number_at faults.Statement w bytes ≡ Err faults.Statement
number_short w bytes short = let few : ltb (length bytes) (byte_len w) ≡ true = lt-ltb _ _ short in rw few refl

message_short : (bytes : List ℕ) → length bytes < 3 → message_at bytes ≡ Err faults.Statement
unfolding message_at
message_short bytes short =
    elim (cases_lt (length bytes) 1) [
      | inl none ↦ rw (number_short w8 bytes none) refl
      | inr some ↦
          let s = number_there w8 bytes some in
          rw (s.1, number_short w16 s.0.1 (omega (arith, s.2))) refl
    ]

-- the messages of other bytes end in a fault, or have bytes behind them
abbrev IsOther : ℕ → List ℕ → Type 0
IsOther n bytes = (messages_at n bytes ≡ Err faults.Statement)
    ⊎ ((x : Batch × List ℕ) × (messages_at n bytes ≡ Ok x) × (ended x.1 ≡ Err faults.Statement))

not_ended : (bytes : List ℕ) → (length bytes ≡ 0 → ⊥) → ended bytes ≡ Err faults.Statement
not_ended [] some = absurd (some refl)
not_ended (b ∷ bs) some = let more : eqb (suc (length bs)) 0 ≡ false = is_some (suc (length bs)) (omega arith) in rw more refl

other_length : (n : ℕ) (bytes : List ℕ) → (length bytes ≡ 3 * n → ⊥) → IsOther n bytes
unfolding messages_at
other_length zero bytes other = inr (([], bytes), refl, not_ended bytes (λ e. other (omega (arith, e))))
other_length (suc n) bytes other =
    elim (cases_lt (length bytes) 3) [
      | inl short ↦ inl (rw (message_short bytes short) refl)
      | inr long ↦
          let m = message_there bytes long in
          elim (other_length n m.0.1 (λ e. other (omega (arith, m.2, e)))) [
            | inl fault ↦ inl (rw (m.1, fault) refl)
            | inr more ↦ inr ((m.0.0 ∷ more.0.0, more.0.1), more_there n bytes m.0.1 more.0.1 m.0.0 more.0.0 m.1 more.1, more.2)
          ]
    ]

-- ---- the ranges

together : (m : Message) (ms : Batch) (first rest : Result (Unit {0}) FrameFault)
    → passed (first >>= λ _. rest) (m ∷ ms) ≡ first >>= λ _. passed rest ms >>= λ xs. Ok (m ∷ xs)
together m ms (Err e) rest = refl
together m ms (Ok u) (Err e) = refl
together m ms (Ok u) (Ok v) = refl

one_more : (n : ℕ) (bytes rest : List ℕ) (m : Message) (ms : Batch) → message_at bytes ≡ Ok (m, rest) → messages_at n rest ≡ Ok (ms, [])
    → in_range n rest ≡ one_by_one n rest → in_range (suc n) bytes ≡ one_by_one (suc n) bytes
unfolding messages_at
one_more n bytes rest m ms first others same =
    let again : passed (messages_within ms) ms
    ≡ one_by_one n rest = ap (λ (read : Result (Batch × List ℕ) FrameFault). read >>= λ x. passed (messages_within x.0) x.0)
    (sym others) ∙ same in
    rw (first, others) (together m ms (message_within m)
    (messages_within ms) ∙ ap (λ (r : Result Batch FrameFault). message_within m >>= λ _. r >>= λ xs. done (m ∷ xs)) again)

as_one_by_one : (n : ℕ) (bytes : List ℕ) → length bytes ≡ 3 * n → in_range n bytes ≡ one_by_one n bytes
unfolding messages_at
as_one_by_one zero bytes len = refl
as_one_by_one (suc n) bytes len =
    let m = message_there bytes (omega (arith, len)) in
    let short : length m.0.1 ≡ 3 * n = omega (arith, len, m.2) in
    let ms = messages_there n m.0.1 short in
    one_more n bytes m.0.1 m.0.0 ms.0 m.1 ms.1 (as_one_by_one n m.0.1 short)

-- ---- the loop

-- the messages read so far, and those that follow
abbrev pub behind : Batch → Result Batch FrameFault → Result Batch FrameFault
behind ms read = read >>= λ more. Ok (ms ++ more)

nothing_behind : (read : Result Batch FrameFault) → read ≡ behind [] read
nothing_behind (Ok ms) = refl
nothing_behind (Err e) = refl

pub starts : (n : ℕ) (bytes : List ℕ) → length bytes ≡ 3 * n → in_range n bytes ≡ behind [] (one_by_one n bytes)
starts n bytes len = as_one_by_one n bytes len ∙ nothing_behind (one_by_one n bytes)

pub behind_at : {n m : ℕ} (ms : Batch) (bytes : List ℕ) → n ≡ m → behind ms (one_by_one n bytes) ≡ behind ms (one_by_one m bytes)
behind_at ms bytes same = ap (λ k. behind ms (one_by_one k bytes)) same

-- a message that is out of range, and one in range
refuse : (s : ℕ) (e : FrameFault) (test : Result (Unit {0}) FrameFault) (ms : Batch) (m : Message) (read : Result Batch FrameFault)
    → passed test s ≡ Err e → behind ms (test >>= λ _. read >>= λ more. Ok (m ∷ more)) ≡ Err e
refuse s e (Ok u) ms m read refused = absurd cc
refuse s e (Err d) ms m read refused = cc

further : (s l p : ℕ) (test : Result (Unit {0}) FrameFault) (ms : Batch) (read : Result Batch FrameFault) → passed test s ≡ Ok p
    → behind ms (test >>= λ _. read >>= λ more. Ok (message s l ∷ more)) ≡ behind (ms ++ message p l ∷ []) read
further s l p (Err d) ms read fits = absurd cc
further s l p (Ok u) ms (Err d) fits = refl
further s l p (Ok u) ms (Ok xs) fits = let same : s
    ≡ p = ok_is s p fits in rw same (ap (λ (ys : Batch). Ok ys) (sym (append_assoc ms (message p l ∷ []) xs)))

module _ (ms : Batch) (n : ℕ) (bytes : List ℕ) where
  -- the next message is not there
  pub none_there : (e : FrameFault) → message_at bytes ≡ Err e → behind ms (one_by_one (suc n) bytes) ≡ Err e
  none_there e none = rw none refl

  -- the next message is out of range
  pub refused_there : (rest : List ℕ) (s l : ℕ) (e : FrameFault) → message_at bytes ≡ Ok (message s l, rest)
      → passed (message_within (message s l)) s ≡ Err e → behind ms (one_by_one (suc n) bytes) ≡ Err e
  refused_there rest s l e read refused = rw read (refuse s e (message_within (message s l)) ms (message s l) (one_by_one n rest) refused)

  -- the next message is in range, and is put behind those before it
  pub one_further : (rest : List ℕ) (s l p : ℕ) → message_at bytes ≡ Ok (message s l, rest) → passed (message_within (message s l)) s ≡ Ok p
      → behind ms (one_by_one (suc n) bytes) ≡ behind (ms ++ message p l ∷ []) (one_by_one n rest)
  one_further rest s l p read fits = rw read (further s l p (message_within (message s l)) ms (one_by_one n rest) fits)

-- ---- the view and the place before them

abbrev Read : Type 0
Read = Result (ℕ × ℕ × Batch) FrameFault

-- the ranges of a batch that was read
abbrev placed : ℕ → ℕ → Result (Unit {0}) FrameFault → Batch → Read
placed x k test ms = within 1023 x >>= λ _. within 1023 k >>= λ _. test >>= λ _. Ok (x, k, ms)

abbrev placed_from : ℕ → ℕ → ℕ → List ℕ → Read
placed_from x k n bytes = messages_at n bytes >>= λ ms. ended ms.1 >>= λ _. placed x k (messages_within ms.0) ms.0

-- the three fields were read
pub placed_after : (several : Bool) (bytes : List ℕ) (x k n : ℕ) (after_view after_place after_count : List ℕ)
    → short_at bytes ≡ Ok (x, after_view) → short_at after_view ≡ Ok (k, after_place) → count_at several after_place ≡ Ok (n, after_count)
    → placed_at several bytes ≡ placed_from x k n after_count
unfolding placed_at
placed_after several bytes x k n after_view after_place after_count view place count = rw (view, place, count) refl

pub wrong_length : (x k n : ℕ) (bytes : List ℕ) → (length bytes ≡ 3 * n → ⊥) → placed_from x k n bytes ≡ Err faults.Statement
wrong_length x k n bytes other =
    elim (other_length n bytes other) [
      | inl fault ↦ rw fault refl
      | inr more ↦ rw (more.1, more.2) refl
    ]

refused : (limit n : ℕ) → limit < n → within limit n ≡ Err faults.Range
refused limit n above = let over : ltb limit n ≡ true = lt-ltb _ _ above in rw over refl

pub wrong_number : (x k n : ℕ) (bytes : List ℕ) → length bytes ≡ 3 * n → (1023 < x) ⊎ ((x ≤ 1023) × (1023 < k))
    → placed_from x k n bytes ≡ Err faults.Range
wrong_number x k n bytes len either =
    let ms = messages_there n bytes len in
    elim either [
      | inl view ↦ rw (ms.1, refused 1023 x view) refl
      | inr place ↦ rw (ms.1, is_within 1023 x place.0, refused 1023 k place.1) refl
    ]

all_pass : (x k : ℕ) (test : Result (Unit {0}) FrameFault) (ms : Batch) → x ≤ 1023 → k ≤ 1023
    → placed x k test ms ≡ passed test ms >>= λ b. done (x, k, b)
all_pass x k (Err e) ms view place = rw (is_within 1023 x view, is_within 1023 k place) refl
all_pass x k (Ok u) ms view place = rw (is_within 1023 x view, is_within 1023 k place) refl

pub right_numbers : (x k n : ℕ) (bytes : List ℕ) → length bytes ≡ 3 * n → x ≤ 1023 → k ≤ 1023
    → placed_from x k n bytes ≡ in_range n bytes >>= λ b. done (x, k, b)
right_numbers x k n bytes len view place = let ms = messages_there n bytes len in rw ms.1
    (all_pass x k (messages_within ms.0) ms.0 view place)
