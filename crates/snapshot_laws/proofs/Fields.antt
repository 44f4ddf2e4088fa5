-- What a step takes is spelled so and in its ranges, and what is in its ranges it takes of its spelling: of the steps that reading is made
-- of, from those of their parts.
use Rattle.std.proofs.Common.{◌≡◌, ℕ, ◌<◌, ◌≤◌, Bool, ltb, not, List, [], ◌∷◌, ◌++◌, length, Ok, refl, sym, subst, append_assoc, arith}
use Rattle.std.specs.Prelude.{IsTrue}
use Rattle.std.specs.Int.{w8, w16, w32}
use Rattle.std.proofs.lemmas.Bool.{ltb-false, le-ltb}
use Rattle.byte_defs.specs.Fields.{two_bytes, four_bytes, text}
use Rattle.byte_defs.proofs.Fields.{IsBytes, Takes, Takes-then, bind_ok, refuse_ok, ok_is, byte_takes, byte_again, short_takes, short_again, long_takes, long_again, bytes_takes, bytes_again, not_false}
use Rattle.snapshot_defs.specs.Steps.{Step, ◌&◌, made, tested, wide_at, number_to, text_to}

pub record IsField {A : Type 0} (step : List ℕ → Step A) (spell : A → List ℕ) (Is : A → Type 0) : Type 0 where
  pub takes : (bytes : List ℕ) (x : A × List ℕ) → IsBytes bytes → step bytes ≡ Ok x → Takes bytes (spell x.0) x.1 × Is x.0
  pub again : (a : A) (rest : List ℕ) → Is a → step (spell a ++ rest) ≡ Ok (a, rest)

-- ---- steps in a row

module _ {A B : Type 0} (s : List ℕ → Step A) (t : List ℕ → Step B) {spell : A → List ℕ} {write : B → List ℕ} {Is : A → Type 0} {Has : B → Type 0}
    (f : IsField s spell Is) (g : IsField t write Has) where
  abbrev Both : A × B → Type 0
  Both x = Is x.0 × Has x.1

  abbrev beside : A × B → List ℕ
  beside x = spell x.0 ++ write x.1

  pub and_is : IsField (s & t) beside Both
  and_is = record {
    takes = λ bytes x fits e.
        let a = bind_ok (s bytes) _ x e in
        let b = bind_ok (t a.0.1) _ x a.2 in
        let p = f.takes bytes a.0 fits a.1 in
        let q = g.takes a.0.1 b.0 p.0.rest_fits b.1 in
        let both : (A × B) × List ℕ = ((a.0.0, b.0.0), b.0.1) in
        subst (λ (y : (A × B) × List ℕ). Takes bytes (beside y.0) y.1 × Both y.0) {x = both} {y = x} (ok_is both x b.2)
        (Takes-then bytes (spell a.0.0) a.0.1 (write b.0.0) b.0.1 p.0 q.0, (p.1, q.1));
    again = λ x rest is. rw
        (append_assoc (spell x.0) (write x.1) rest, f.again x.0 (write x.1 ++ rest) is.0, g.again x.1 rest is.1) refl;
  }

module _ {A C : Type 0} (to : A → C) (from : C → A) (back : (c : C) → to (from c) ≡ c) (there : (a : A) → from (to a) ≡ a)
    {s : List ℕ → Step A} {spell : A → List ℕ} {Is : A → Type 0} (f : IsField s spell Is) where
  pub made_is : IsField (made to s) (λ c. spell (from c)) (λ c. Is (from c))
  made_is = record {
    takes = λ bytes x fits e.
        let a = bind_ok (s bytes) _ x e in
        let p = f.takes bytes a.0 fits a.1 in
        let one : C × List ℕ = (to a.0.0, a.0.1) in
        subst (λ (y : C × List ℕ). Takes bytes (spell (from y.0)) y.1 × Is (from y.0)) {x = one} {y = x} (ok_is one x a.2)
        (subst (λ (z : A). Takes bytes (spell z) a.0.1 × Is z) (sym (there a.0.0)) p);
    again = λ c rest is. rw (f.again (from c) rest is, back c) refl;
  }

-- the same ranges in other words
pub ranged_is : {A : Type 0} {s : List ℕ → Step A} {spell : A → List ℕ} {Is Has : A → Type 0} → ((a : A) → Is a → Has a)
    → ((a : A) → Has a → Is a) → IsField s spell Is → IsField s spell Has
ranged_is {spell} to from f = record {
  takes = λ bytes x fits e. let p = f.takes bytes x fits e in (p.0, to x.0 p.1);
  again = λ a rest is. f.again a rest (from a is);
}

module _ {A : Type 0} (test : A → Bool) {s : List ℕ → Step A} {spell : A → List ℕ} {Is : A → Type 0} (f : IsField s spell Is) where
  abbrev Passes : A → Type 0
  Passes a = Is a × IsTrue (test a)

  pub tested_is : IsField (tested test s) spell Passes
  tested_is = record {
    takes = λ bytes x fits e.
        let a = bind_ok (s bytes) _ x e in
        let r = refuse_ok (not (test a.0.0)) (length bytes) _ x a.2 in
        let p = f.takes bytes a.0 fits a.1 in
        subst (λ (y : A × List ℕ). Takes bytes (spell y.0) y.1 × Passes y.0) (ok_is a.0 x r.1)
        (p.0, (p.1, not_false (test a.0.0) r.0));
    again = λ a rest is. rw (f.again a rest is.0, is.1) refl;
  }

-- ---- numbers

abbrev pub one_byte : ℕ → List ℕ
one_byte n = n ∷ []

pub byte_to_is : (most : ℕ) → IsField (number_to w8 most) one_byte (λ n. n ≤ most)
unfolding number_to
byte_to_is most = record {
  takes = λ bytes x fits e.
      let a = bind_ok (wide_at w8 bytes) _ x e in
      let r = refuse_ok (ltb most a.0.0) (length bytes) _ x a.2 in
      let p = byte_takes (length bytes) bytes a.0.0 a.0.1 fits a.1 in
      subst (λ (y : ℕ × List ℕ). Takes bytes (one_byte y.0) y.1 × (y.0 ≤ most)) (ok_is a.0 x r.1) (p.0, ltb-false most a.0.0 r.0);
  again = λ n rest le. rw (byte_again (length (n ∷ rest)) n rest, le-ltb most n le) refl;
}

pub short_to_is : (most : ℕ) → most < 65536 → IsField (number_to w16 most) two_bytes (λ n. n ≤ most)
unfolding number_to
short_to_is most lt = record {
  takes = λ bytes x fits e.
      let a = bind_ok (wide_at w16 bytes) _ x e in
      let r = refuse_ok (ltb most a.0.0) (length bytes) _ x a.2 in
      let p = short_takes (length bytes) bytes a.0.0 a.0.1 fits a.1 in
      subst (λ (y : ℕ × List ℕ). Takes bytes (two_bytes y.0) y.1 × (y.0 ≤ most)) (ok_is a.0 x r.1) (p.0, ltb-false most a.0.0 r.0);
  again = λ n rest le. rw (short_again (length (two_bytes n ++ rest)) n rest (omega (arith, le)), le-ltb most n le) refl;
}

pub long_is : IsField (wide_at w32) four_bytes (λ n. n < 4294967296)
long_is = record {
  takes = λ bytes x fits e. long_takes (length bytes) bytes x.0 x.1 fits e;
  again = λ n rest lt. long_again (length (four_bytes n ++ rest)) n rest lt;
}

pub text_to_is : (most : ℕ) → most < 65536 → IsField (text_to most) text (λ t. length t ≤ most)
unfolding text_to
text_to_is most lt = record {
  takes = λ bytes x fits e.
      let a = bind_ok (number_to w16 most bytes) _ x e in
      let p = (short_to_is most lt).takes bytes a.0 fits a.1 in
      let q = bytes_takes (length a.0.1) a.0.0 a.0.1 x.0 x.1 p.0.rest_fits a.2 in
      subst (λ (k : ℕ). Takes bytes (two_bytes k ++ x.0) x.1 × (k ≤ most)) (sym q.1)
      (Takes-then bytes (two_bytes a.0.0) a.0.1 x.0 x.1 p.0 q.0, p.1);
  again = λ t rest le. rw (
    append_assoc (two_bytes (length t)) t rest,
    (short_to_is most lt).again (length t) (t ++ rest) le,
    bytes_again (length (t ++ rest)) t rest,
  ) refl;
}
