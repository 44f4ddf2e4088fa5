-- What reading is made of. A step answers what it read and the bytes after it, or the first fault. A fault is at the first byte of
-- the field that has it, and is given by how many bytes are left there.
-- Names here (* for this crate alone):
--   Step
--   steps in a row: ◌&◌, made, tested, else_fault, times_at, counted_at
--   fields: wide_at, number_to, field_at, text_to, list_at
use Rattle.std.specs.Prelude.{ℕ, zero, suc, ◌+◌, Bool, not, nat_lt, List, [], ◌∷◌, length, Result, Ok, Err}
use Rattle.std.specs.Int.{Width, w16, w32}
use Rattle.byte_defs.specs.Fields.{◌>>=◌, refuse_if, number_at, bytes_at}

abbrev pub Step : Type 0 → Type 0
Step A = Result (A × List ℕ) ℕ

-- ---- steps in a row

-- the one field, and then the other
infixr 20 ◌&◌
abbrev pub ◌&◌ : {A B : Type 0} → (List ℕ → Step A) → (List ℕ → Step B) → List ℕ → Step (A × B)
s & t = λ bytes. s bytes >>= λ x. t x.1 >>= λ y. Ok ((x.0, y.0), y.1)

-- what is made of the field
abbrev pub made : {A B : Type 0} → (A → B) → (List ℕ → Step A) → List ℕ → Step B
made f s bytes = s bytes >>= λ x. Ok (f x.0, x.1)

-- the field, where it passes the test; else the fault is where the field begins
abbrev pub tested : {A : Type 0} → (A → Bool) → (List ℕ → Step A) → List ℕ → Step A
tested test s bytes = s bytes >>= λ x. refuse_if (not (test x.0)) (length bytes) >>= λ _. Ok x

-- this fault in place of another
abbrev pub else_fault : {A E F : Type 0} → F → Result A E → Result A F
else_fault fault (Ok a) = Ok a
else_fault fault (Err e) = Err fault

-- n entries, one after another. Each is read by its position; that of the first is k.
unfoldable pub times_at : {A : Type 0} → (ℕ → List ℕ → Step A) → ℕ → ℕ → List ℕ → Step (List A)
times_at entry k zero bytes = Ok ([], bytes)
times_at entry k (suc n) bytes = do
  first ← entry k bytes
  others ← times_at entry (k + 1) n first.1
  Ok (first.0 ∷ others.0, others.1)

-- their number, and that many entries
abbrev pub counted_at : {A : Type 0} → (List ℕ → Step ℕ) → (ℕ → List ℕ → Step A) → List ℕ → Step (List A)
counted_at number entry bytes = number bytes >>= λ n. times_at entry 0 n.0 n.1

-- ---- fields

-- a number of this width
abbrev pub wide_at : Width → List ℕ → Step ℕ
wide_at w bytes = number_at (length bytes) w bytes

-- a number of this width, at most `most`
unfoldable pub number_to : Width → ℕ → List ℕ → Step ℕ
number_to w most bytes = do
  n ← wide_at w bytes
  _ ← refuse_if (nat_lt most n.0) (length bytes)
  Ok n

-- n bytes
abbrev pub field_at : ℕ → List ℕ → Step (List ℕ)
field_at n bytes = bytes_at (length bytes) n bytes

-- a length of two bytes, at most `most`, and that many bytes
unfoldable pub text_to : ℕ → List ℕ → Step (List ℕ)
text_to most bytes = do
  len ← number_to w16 most bytes
  field_at len.0 len.1

-- a list: its length in four bytes, and its entries
abbrev pub list_at : {A : Type 0} → (ℕ → List ℕ → Step A) → List ℕ → Step (List A)
list_at entry bytes = counted_at (wide_at w32) entry bytes
