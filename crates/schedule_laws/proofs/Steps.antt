-- The steps that reading is made of: what a step took is spelled so, what is spelled so it takes, and bytes behind change nothing.
use Rattle.std.proofs.Common.{◌≡◌, ℕ, ◌+◌, ◌<◌, ◌≤◌, Bool, true, false, ltb, leb, List, [], ◌∷◌, ◌++◌, length, Ok, Err, refl, ap, subst, ◌∙◌, append_assoc, arith, inl, inr}
use Rattle.std.specs.Prelude.{if◌then◌else◌, ◌&&◌, ◌⊎◌, Option, Some, None}
use Rattle.std.specs.Option.{ok_or}
use Rattle.std.specs.Int.{Width, w8, w16, w64, byte_len}
use Rattle.std.proofs.lemmas.Bool.{le-ltb, leb-true, le-leb, and_parts, and_from, cases_lt, lt-ltb}
use Rattle.std.proofs.lemmas.List.{length-append, length-drop, take-append-le, drop-append-le}
use Rattle.std.proofs.lemmas.Nat.{be_bytes_8, from_be_bytes-to_be_bytes_8}
use Rattle.byte_defs.specs.Fields.{◌>>=◌, two_bytes, text}
use Rattle.byte_defs.proofs.Fields.{IsBytes, IsWide, bind_ok, ok_is, Takes, Takes-then, number_takes, number_again, byte_takes, byte_again, short_takes, short_again, bytes_takes, bytes_again}
use Rattle.replay_defs.specs.declared.FaultKind.{FaultKind}
use Rattle.replay_defs.specs.declared.FaultKind.TheVariants as faults
use Rattle.replay_defs.specs.declared.Found.{Found}
use Rattle.replay_defs.specs.Schedules.{eight_bytes}
use Rattle.replay_defs.specs.Reading.{Step, fault_at, wide_at, byte_at, field_at, known, passing, tested, byte_that, process_that, text_at}

-- ---- tables and tests

ok_or_is : {A : Type 0} (o : Option A) (f : Found) (a : A) → ok_or o f ≡ Ok a → o ≡ Some a
ok_or_is None f a e = absurd cc
ok_or_is (Some b) f a e = cc

pub known_ok : {A B : Type 0} (table : A → Option B) (kind : FaultKind) (step : List ℕ → Step A) (bytes : List ℕ) (y : B × List ℕ)
    → known table kind step bytes ≡ Ok y
    → (x : A) × (step bytes ≡ Ok (x, y.1)) × (table x ≡ Some y.0)
known_ok {A} {B} table kind step bytes y e =
    let a = bind_ok (step bytes) _ y e in
    let b = bind_ok (ok_or (table a.0.0) (fault_at kind bytes)) _ y a.2 in
    let made : B × List ℕ = (b.0, a.0.1) in
    subst (λ (z : B × List ℕ). (x : A) × (step bytes ≡ Ok (x, z.1)) × (table x ≡ Some z.0)) {x = made} {y = y} (ok_is made y b.2)
    (a.0.0, a.1, ok_or_is (table a.0.0) (fault_at kind bytes) b.0 b.1)

pub known_again : {A B : Type 0} (table : A → Option B) (kind : FaultKind) (step : List ℕ → Step A) (bytes : List ℕ) (x : A) (b : B)
    (rest : List ℕ)
    → step bytes ≡ Ok (x, rest) → table x ≡ Some b → known table kind step bytes ≡ Ok (b, rest)
known_again table kind step bytes x b rest e f = rw (e, f) refl

passing_is : {A : Type 0} (test : A → Bool) (x y : A) → passing test x ≡ Some y → (x ≡ y) × (test y ≡ true)
passing_is {A} test x y e =
    elim (test x) as (λ b. test x ≡ b → (if b then Some x else None) ≡ Some y → (x ≡ y) × (test y ≡ true)) [
      | true ↦ λ t p. let same : x ≡ y = cc in (same, rw (← same) t)
      | false ↦ λ t p. absurd cc
    ] refl e

pub tested_ok : {A : Type 0} (test : A → Bool) (kind : FaultKind) (step : List ℕ → Step A) (bytes : List ℕ) (y : A × List ℕ)
    → tested test kind step bytes ≡ Ok y
    → (step bytes ≡ Ok y) × (test y.0 ≡ true)
tested_ok {A} test kind step bytes y e =
    let k = known_ok (passing test) kind step bytes y e in
    let p = passing_is test k.0 y.0 k.2 in
    (k.1 ∙ ap (λ (x : A). Ok (x, y.1)) p.0, p.1)

pub tested_again : {A : Type 0} (test : A → Bool) (kind : FaultKind) (step : List ℕ → Step A) (bytes : List ℕ) (x : A) (rest : List ℕ)
    → step bytes ≡ Ok (x, rest) → test x ≡ true → tested test kind step bytes ≡ Ok (x, rest)
tested_again test kind step bytes x rest e t =
    let passes : passing test x ≡ Some x = rw t refl in
    known_again (passing test) kind step bytes x x rest e passes

-- ---- numbers of eight bytes

pub wide64 : IsWide w64 18446744073709551616
wide64 = record {
  len = λ n. refl;
  back = λ bytes len fits. be_bytes_8 bytes _ len fits refl;
  again = λ n lt. from_be_bytes-to_be_bytes_8 n lt;
  below = λ bytes fits. omega (arith, fits 0, fits 1, fits 2, fits 3, fits 4, fits 5, fits 6, fits 7);
}

pub mask_takes : (bytes : List ℕ) (x : ℕ × List ℕ) → IsBytes bytes → wide_at w64 bytes ≡ Ok x
    → Takes bytes (eight_bytes x.0) x.1 × (x.0 < 18446744073709551616)
mask_takes bytes x fits e = number_takes (fault_at faults.Short bytes) w64 18446744073709551616 wide64 bytes x.0 x.1 fits e

pub mask_again : (n : ℕ) (rest : List ℕ) → n < 18446744073709551616 → wide_at w64 (eight_bytes n ++ rest) ≡ Ok (n, rest)
mask_again n rest lt = number_again (fault_at faults.Short (eight_bytes n ++ rest)) w64 18446744073709551616 wide64 n rest lt

-- ---- bytes, processes and texts

pub byte_that_takes : (test : ℕ → Bool) (kind : FaultKind) (bytes : List ℕ) (x : ℕ × List ℕ) → IsBytes bytes
    → byte_that test kind bytes ≡ Ok x
    → Takes bytes (x.0 ∷ []) x.1 × (x.0 < 256) × (test x.0 ≡ true)
unfolding byte_that
byte_that_takes test kind bytes x fits e =
    let a = tested_ok test kind byte_at bytes x e in
    let t = byte_takes (fault_at faults.Short bytes) bytes x.0 x.1 fits a.0 in
    (t.0, t.1, a.1)

pub byte_that_again : (test : ℕ → Bool) (kind : FaultKind) (b : ℕ) (rest : List ℕ) → test b ≡ true
    → byte_that test kind (b ∷ rest) ≡ Ok (b, rest)
unfolding byte_that
byte_that_again test kind b rest t = tested_again test kind byte_at (b ∷ rest) b rest
    (byte_again (fault_at faults.Short (b ∷ rest)) b rest) t

pub process_that_takes : (test : ℕ → Bool) (kind : FaultKind) (bytes : List ℕ) (x : ℕ × List ℕ) → IsBytes bytes
    → process_that test kind bytes ≡ Ok x
    → Takes bytes (x.0 ∷ []) x.1 × (x.0 ≤ 63) × (test x.0 ≡ true)
unfolding process_that
process_that_takes test kind bytes x fits e =
    let t = byte_that_takes (λ p. leb p 63 && test p) kind bytes x fits e in
    let parts = and_parts (leb x.0 63) (test x.0) t.2 in
    (t.0, leb-true x.0 63 parts.0, parts.1)

pub process_that_again : (test : ℕ → Bool) (kind : FaultKind) (p : ℕ) (rest : List ℕ) → p ≤ 63 → test p ≡ true
    → process_that test kind (p ∷ rest) ≡ Ok (p, rest)
unfolding process_that
process_that_again test kind p rest le t = byte_that_again (λ q. leb q 63 && test q) kind p rest
    (and_from (leb p 63) (test p) (le-leb p 63 le) t)

pub text_takes : (most : ℕ) (bytes : List ℕ) (x : List ℕ × List ℕ) → IsBytes bytes → text_at most bytes ≡ Ok x
    → Takes bytes (text x.0) x.1 × (length x.0 < 65536) × (length x.0 ≤ most)
unfolding text_at
text_takes most bytes x fits e =
    let a = bind_ok (tested (λ n. leb n most) faults.Field (wide_at w16) bytes) _ x e in
    let g = tested_ok (λ n. leb n most) faults.Field (wide_at w16) bytes a.0 a.1 in
    let t0 = short_takes (fault_at faults.Short bytes) bytes a.0.0 a.0.1 fits g.0 in
    let t1 = bytes_takes (fault_at faults.Short a.0.1) a.0.0 a.0.1 x.0 x.1 t0.0.rest_fits a.2 in
    let whole : Takes bytes (text x.0) x.1 = rw t1.1 (Takes-then bytes (two_bytes a.0.0) a.0.1 x.0 x.1 t0.0 t1.0) in
    (whole, omega (arith, t1.1, t0.1), omega (arith, t1.1, leb-true a.0.0 most g.1))

pub text_again : (most : ℕ) (out rest : List ℕ) → length out < 65536 → length out ≤ most → text_at most (text out ++ rest) ≡ Ok (out, rest)
unfolding text_at
text_again most out rest fits le =
    let bytes : List ℕ = two_bytes (length out) ++ (out ++ rest) in
    let len : tested (λ n. leb n most) faults.Field (wide_at w16) bytes ≡ Ok (length out, out ++ rest) =
    tested_again (λ n. leb n most) faults.Field (wide_at w16) bytes (length out) (out ++ rest)
    (short_again (fault_at faults.Short bytes) (length out) (out ++ rest) fits) (le-leb (length out) most le) in
    ap (text_at most) (append_assoc (two_bytes (length out)) out rest)
    ∙ ap (λ (read : Step ℕ). read >>= λ n. field_at n.0 n.1) len
    ∙ bytes_again (fault_at faults.Short (out ++ rest)) out rest

-- ---- bytes behind

-- the fault stands where it stood, with more bytes left
abbrev pub later : List ℕ → Found → Found
later more found = record { kind = found.kind; left = found.left + length more }

-- with more bytes behind a step reads the same, of which it leaves no more than there were, and finds the same fault, unless the bytes
-- ended in a field
abbrev pub Goes : {A : Type 0} → List ℕ → List ℕ → Step A → Step A → Type 0
Goes bytes more (Ok x) longer = (longer ≡ Ok (x.0, x.1 ++ more)) × (length x.1 ≤ length bytes)
Goes bytes more (Err found) longer = (found.kind ≡ faults.Short) ⊎ (longer ≡ Err (later more found))

abbrev pub IsStable : {A : Type 0} → (List ℕ → Step A) → Type 0
IsStable step = (bytes more : List ℕ) → Goes bytes more (step bytes) (step (bytes ++ more))

pub done_stable : {A : Type 0} (a : A) → IsStable (λ bytes. Ok (a, bytes))
done_stable a bytes more = (refl, omega arith)

-- the same beside more bytes before
goes_behind : {A : Type 0} (all bytes more : List ℕ) (short longer : Step A) → length bytes ≤ length all → Goes bytes more short longer
    → Goes all more short longer
goes_behind all bytes more (Ok x) longer le goes = (goes.0, omega (arith, goes.1))
goes_behind all bytes more (Err found) longer le goes = goes

pub then_goes : {A B : Type 0} (bytes more : List ℕ) (short longer : Step A) (k : A → List ℕ → Step B) → Goes bytes more short longer
    → ((a : A) → IsStable (k a))
    → Goes bytes more (short >>= λ x. k x.0 x.1) (longer >>= λ x. k x.0 x.1)
then_goes bytes more (Ok x) longer k goes stable = rw goes.0
    (goes_behind bytes x.1 more (k x.0 x.1) (k x.0 (x.1 ++ more)) goes.1 (stable x.0 x.1 more))
then_goes bytes more (Err found) longer k (inl short) stable = inl short
then_goes bytes more (Err found) longer k (inr same) stable = inr (rw same refl)

pub then_stable : {A B : Type 0} (step : List ℕ → Step A) (k : A → List ℕ → Step B) → IsStable step → ((a : A) → IsStable (k a))
    → IsStable (λ bytes. step bytes >>= λ x. k x.0 x.1)
then_stable step k first others bytes more = then_goes bytes more (step bytes) (step (bytes ++ more)) k (first bytes more) others

-- the table's answer at a longer input
answer_goes : {B : Type 0} (kind : FaultKind) (bytes rest more : List ℕ) (o : Option B) → length rest ≤ length bytes
    → Goes bytes more (ok_or o (fault_at kind bytes) >>= λ is. Ok (is, rest))
    (ok_or o (fault_at kind (bytes ++ more)) >>= λ is. Ok (is, rest ++ more))
answer_goes kind bytes rest more None le = inr (ap (λ (n : ℕ). Err (record { kind = kind; left = n })) (length-append bytes more))
answer_goes kind bytes rest more (Some b) le = (refl, le)

known_goes : {A B : Type 0} (table : A → Option B) (kind : FaultKind) (bytes more : List ℕ) (short longer : Step A)
    → Goes bytes more short longer
    → Goes bytes more (short >>= λ read. ok_or (table read.0) (fault_at kind bytes) >>= λ is. Ok (is, read.1))
    (longer >>= λ read. ok_or (table read.0) (fault_at kind (bytes ++ more)) >>= λ is. Ok (is, read.1))
known_goes table kind bytes more (Ok x) longer goes = rw goes.0 (answer_goes kind bytes x.1 more (table x.0) goes.1)
known_goes table kind bytes more (Err found) longer (inl short) = inl short
known_goes table kind bytes more (Err found) longer (inr same) = inr (rw same refl)

pub known_stable : {A B : Type 0} (table : A → Option B) (kind : FaultKind) (step : List ℕ → Step A) → IsStable step
    → IsStable (known table kind step)
known_stable table kind step stable bytes more = known_goes table kind bytes more (step bytes) (step (bytes ++ more)) (stable bytes more)

pub wide_stable : (w : Width) → IsStable (wide_at w)
wide_stable w bytes more =
    elim (cases_lt (length bytes) (byte_len w)) [
      | inl lt ↦ let ends : ltb (length bytes) (byte_len w) ≡ true = lt-ltb _ _ lt in rw ends (inl refl)
      | inr le ↦
          let here : ltb (length bytes) (byte_len w) ≡ false = le-ltb _ _ le in
          let there : ltb (length (bytes ++ more)) (byte_len w) ≡ false = le-ltb _ _ (omega (arith, length-append bytes more)) in
          rw (here, there, take-append-le (byte_len w) bytes more le, drop-append-le (byte_len w) bytes more le)
          (refl, omega (arith, length-drop (byte_len w) bytes))
    ]

pub field_stable : (n : ℕ) → IsStable (field_at n)
field_stable n bytes more =
    elim (cases_lt (length bytes) n) [
      | inl lt ↦ let ends : ltb (length bytes) n ≡ true = lt-ltb _ _ lt in rw ends (inl refl)
      | inr le ↦
          let here : ltb (length bytes) n ≡ false = le-ltb _ _ le in
          let there : ltb (length (bytes ++ more)) n ≡ false = le-ltb _ _ (omega (arith, length-append bytes more)) in
          rw (here, there, take-append-le n bytes more le, drop-append-le n bytes more le) (refl, omega (arith, length-drop n bytes))
    ]

pub byte_that_stable : (test : ℕ → Bool) (kind : FaultKind) → IsStable (byte_that test kind)
unfolding byte_that
byte_that_stable test kind = known_stable (passing test) kind byte_at (wide_stable w8)

pub process_that_stable : (test : ℕ → Bool) (kind : FaultKind) → IsStable (process_that test kind)
unfolding process_that
process_that_stable test kind = byte_that_stable (λ p. leb p 63 && test p) kind

pub text_stable : (most : ℕ) → IsStable (text_at most)
unfolding text_at
text_stable most = then_stable (tested (λ n. leb n most) faults.Field (wide_at w16)) (λ n rest. field_at n rest)
    (known_stable (passing (λ n. leb n most)) faults.Field (wide_at w16) (wide_stable w16)) (λ n. field_stable n)
