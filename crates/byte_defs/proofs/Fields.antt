-- Reading fields from the front: what a step took is spelled so, and what is spelled so is read. Every grammar uses these.
use Rattle.std.proofs.Common.{◌≡◌, ℕ, zero, suc, ◌+◌, ◌%◌, ◌<◌, ◌≤◌, Bool, true, false, not, ltb, eqb, List, [], ◌∷◌, ◌++◌, length, get_or, take, drop, Result, Ok, Err, refl, sym, ap, subst, ◌∙◌, append_assoc, arith, inl, inr}
use Rattle.std.specs.Prelude.{if◌then◌else◌}
use Rattle.std.specs.Int.{Width, w8, w16, w32, byte_len, from_be_bytes, to_be_bytes}
use Rattle.std.proofs.lemmas.Bool.{cases_lt, ltb-false, le-ltb, eqb-true}
use Rattle.std.proofs.lemmas.List.{take_at, drop_at, take-append-drop, length-append, length-take, get_or-drop, get_or-take, get_or_past}
use Rattle.std.proofs.lemmas.Nat.{be_bytes_2, from_be_bytes-to_be_bytes_2, be_bytes_4, from_be_bytes-to_be_bytes_4}
use Rattle.byte_defs.specs.Fields.{◌>>=◌, number_at, bytes_at, refuse_if, two_bytes, four_bytes}

abbrev pub IsBytes : List ℕ → Type 0
IsBytes bytes = (i : ℕ) → get_or bytes i 0 < 256

pub IsBytes-drop : (n : ℕ) (bytes : List ℕ) → IsBytes bytes → IsBytes (drop n bytes)
IsBytes-drop n bytes h i = rw get_or-drop (h (n + i))

pub IsBytes-take : (n : ℕ) (bytes : List ℕ) → IsBytes bytes → IsBytes (take n bytes)
IsBytes-take n bytes h i =
    elim (cases_lt i n) [
      | inl lt ↦ rw (get_or-take n bytes i 0 lt) (h i)
      | inr le ↦ rw (get_or_past (take n bytes) i 0 (omega (arith, length-take n bytes))) (omega arith)
    ]

-- ---- steps that did not fail

module _ {E : Type 0} where
  -- the value of the first step, and what the second made of it
  pub bind_ok : {A B : Type 0} (r : Result A E) (f : A → Result B E) (y : B) → (r >>= f) ≡ Ok y → (x : A) × (r ≡ Ok x) × (f x ≡ Ok y)
  bind_ok (Ok x) f y e = (x, refl, e)
  bind_ok (Err d) f y e = absurd cc

  -- a test that did not refuse
  pub refuse_ok : {B : Type 0} (b : Bool) (d : E) (f : Unit {0} → Result B E) (y : B) → (refuse_if b d >>= f) ≡ Ok y
      → (b ≡ false) × (f tt ≡ Ok y)
  refuse_ok true d f y e = absurd cc
  refuse_ok false d f y e = (refl, e)

  pub guard_ok : {A : Type 0} (b : Bool) (d : E) (x y : A) → (if b then Err d else Ok x) ≡ Ok y → (b ≡ false) × (x ≡ y)
  guard_ok true d x y e = absurd cc
  guard_ok false d x y e = (refl, cc)

  abbrev done : {A : Type 0} → A → Result A E
  done x = Ok x

  pub ok_is : {A : Type 0} (x y : A) → done x ≡ done y → x ≡ y
  ok_is x y e = cc

-- ---- what a reader took from the front

pub record Takes (bytes text rest : List ℕ) : Type 0 where
  pub parts : bytes ≡ text ++ rest
  pub rest_fits : IsBytes rest

pub Takes-then : (a x b y c : List ℕ) → Takes a x b → Takes b y c → Takes a (x ++ y) c
Takes-then a x b y c p q = record {
  parts = p.parts ∙ ap (λ (t : List ℕ). x ++ t) q.parts ∙ sym (append_assoc x y c);
  rest_fits = q.rest_fits;
}

-- ---- numbers of a width

pub record IsWide (w : Width) (limit : ℕ) : Type 0 where
  pub len : (n : ℕ) → length (to_be_bytes w n) ≡ byte_len w
  pub back : (bytes : List ℕ) → length bytes ≡ byte_len w → IsBytes bytes → to_be_bytes w (from_be_bytes w bytes) ≡ bytes
  pub again : (n : ℕ) → n < limit → from_be_bytes w (to_be_bytes w n) ≡ n
  pub below : (bytes : List ℕ) → IsBytes bytes → from_be_bytes w bytes < limit

one_back : (bytes : List ℕ) → length bytes ≡ 1 → IsBytes bytes → to_be_bytes w8 (from_be_bytes w8 bytes) ≡ bytes
one_back [] len fits = absurd (omega arith)
one_back (b ∷ []) len fits = let e : b % 256 ≡ b = omega (arith, fits 0) in rw e refl
one_back (b ∷ c ∷ bs) len fits = absurd (omega arith)

pub wide8 : IsWide w8 256
wide8 = record {
  len = λ n. refl;
  back = one_back;
  again = λ n lt. omega arith;
  below = λ bytes fits. omega (arith, fits 0);
}

pub wide16 : IsWide w16 65536
wide16 = record {
  len = λ n. refl;
  back = λ bytes len fits. be_bytes_2 bytes _ len fits refl;
  again = λ n lt. from_be_bytes-to_be_bytes_2 n lt;
  below = λ bytes fits. omega (arith, fits 0, fits 1);
}

pub wide32 : IsWide w32 4294967296
wide32 = record {
  len = λ n. refl;
  back = λ bytes len fits. be_bytes_4 bytes _ len fits refl;
  again = λ n lt. from_be_bytes-to_be_bytes_4 n lt;
  below = λ bytes fits. omega (arith, fits 0, fits 1, fits 2, fits 3);
}

module _ {E : Type 0} (fault : E) where
  pub number_takes : (w : Width) (limit : ℕ) (wide : IsWide w limit) (bytes : List ℕ) (n : ℕ) (rest : List ℕ) → IsBytes bytes
      → number_at fault w bytes ≡ Ok (n, rest) → Takes bytes (to_be_bytes w n) rest × (n < limit)
  number_takes w limit wide bytes n rest fits e =
      let g = guard_ok (ltb (length bytes) (byte_len w)) fault (from_be_bytes w (take (byte_len w) bytes), drop (byte_len w) bytes)
      (n, rest) e in
      let long : byte_len w ≤ length bytes = ltb-false _ _ g.0 in
      let n-is : from_be_bytes w (take (byte_len w) bytes) ≡ n = ap (λ (p : ℕ × List ℕ). p.0) g.1 in
      let rest-is : drop (byte_len w) bytes ≡ rest = ap (λ (p : ℕ × List ℕ). p.1) g.1 in
      let front : to_be_bytes w n ≡ take (byte_len w) bytes = rw (← n-is)
      (wide.back (take (byte_len w) bytes) (omega (arith, length-take (byte_len w) bytes)) (IsBytes-take (byte_len w) bytes fits)) in (
        record {
          parts = rw (front, ← rest-is) (sym (take-append-drop (byte_len w) bytes));
          rest_fits = rw (← rest-is) (IsBytes-drop (byte_len w) bytes fits);
        },
        rw (← n-is) (wide.below (take (byte_len w) bytes) (IsBytes-take (byte_len w) bytes fits)),
      )

  pub number_again : (w : Width) (limit : ℕ) (wide : IsWide w limit) (n : ℕ) (rest : List ℕ) → n < limit
      → number_at fault w (to_be_bytes w n ++ rest) ≡ Ok (n, rest)
  number_again w limit wide n rest lt =
      let len = wide.len n in
      let long : ltb (length (to_be_bytes w n ++ rest)) (byte_len w)
      ≡ false = le-ltb _ _ (omega (arith, length-append (to_be_bytes w n) rest)) in
      rw (long, take_at (to_be_bytes w n) rest (byte_len w) len, drop_at (to_be_bytes w n) rest (byte_len w) len, wide.again n lt) refl

  -- one byte stands for itself
  pub byte_takes : (bytes : List ℕ) (n : ℕ) (rest : List ℕ) → IsBytes bytes → number_at fault w8 bytes ≡ Ok (n, rest)
      → Takes bytes (n ∷ []) rest × (n < 256)
  byte_takes bytes n rest fits e =
      let t = number_takes w8 256 wide8 bytes n rest fits e in
      let same : n % 256 ≡ n = omega (arith, t.1) in
      (subst (λ (k : ℕ). Takes bytes (k ∷ []) rest) same t.0, t.1)

  pub byte_again : (n : ℕ) (rest : List ℕ) → number_at fault w8 (n ∷ rest) ≡ Ok (n, rest)
  byte_again n rest = let long : ltb (suc (length rest)) 1 ≡ false = le-ltb _ _ (omega arith) in rw long refl

  pub short_takes : (bytes : List ℕ) (n : ℕ) (rest : List ℕ) → IsBytes bytes → number_at fault w16 bytes ≡ Ok (n, rest)
      → Takes bytes (two_bytes n) rest × (n < 65536)
  short_takes bytes n rest fits e = number_takes w16 65536 wide16 bytes n rest fits e

  pub short_again : (n : ℕ) (rest : List ℕ) → n < 65536 → number_at fault w16 (two_bytes n ++ rest) ≡ Ok (n, rest)
  short_again n rest lt = number_again w16 65536 wide16 n rest lt

  pub long_takes : (bytes : List ℕ) (n : ℕ) (rest : List ℕ) → IsBytes bytes → number_at fault w32 bytes ≡ Ok (n, rest)
      → Takes bytes (four_bytes n) rest × (n < 4294967296)
  long_takes bytes n rest fits e = number_takes w32 4294967296 wide32 bytes n rest fits e

  pub long_again : (n : ℕ) (rest : List ℕ) → n < 4294967296 → number_at fault w32 (four_bytes n ++ rest) ≡ Ok (n, rest)
  long_again n rest lt = number_again w32 4294967296 wide32 n rest lt

  -- so many bytes
  pub bytes_takes : (n : ℕ) (bytes out rest : List ℕ) → IsBytes bytes → bytes_at fault n bytes ≡ Ok (out, rest)
      → Takes bytes out rest × (length out ≡ n)
  bytes_takes n bytes out rest fits e =
      let g = guard_ok (ltb (length bytes) n) fault (take n bytes, drop n bytes) (out, rest) e in
      let long : n ≤ length bytes = ltb-false _ _ g.0 in
      let len : length (take n bytes) ≡ n = omega (arith, length-take n bytes) in
      subst (λ (p : List ℕ × List ℕ). Takes bytes p.0 p.1 × (length p.0 ≡ n)) g.1
      (record { parts = sym (take-append-drop n bytes); rest_fits = IsBytes-drop n bytes fits }, len)

  pub bytes_again : (out rest : List ℕ) → bytes_at fault (length out) (out ++ rest) ≡ Ok (out, rest)
  bytes_again out rest =
      let long : ltb (length (out ++ rest)) (length out) ≡ false = le-ltb _ _ (omega (arith, length-append out rest)) in
      rw (long, take_at out rest (length out) refl, drop_at out rest (length out) refl) refl

-- ---- tests

pub false_unless : (b : Bool) → (b ≡ true → ⊥) → b ≡ false
false_unless true h = absurd (h refl)
false_unless false h = refl

pub not_zero : (n : ℕ) → eqb n 0 ≡ false → 0 < n
not_zero zero e = absurd cc
not_zero (suc n) e = omega arith

pub is_some : (n : ℕ) → 0 < n → eqb n 0 ≡ false
is_some n lt = false_unless (eqb n 0) (λ e. let z : n ≡ 0 = eqb-true n 0 e in omega arith)

pub not_false : (b : Bool) → not b ≡ false → b ≡ true
not_false true e = refl
not_false false e = absurd cc
