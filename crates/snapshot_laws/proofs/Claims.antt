-- Claims, and lists of them.
use Rattle.std.proofs.Common.{◌≡◌, ℕ, ◌≤◌, true, List, ◌++◌, length, take, Result, Ok, Err, refl, sym, ap, subst, ◌∙◌, append_assoc, arith}
use Rattle.std.specs.Int.{w16}
use Rattle.std.proofs.lemmas.List.{take_at}
use Rattle.byte_defs.specs.Fields.{two_bytes, text}
use Rattle.byte_defs.proofs.Fields.{IsBytes, IsBytes-take, Takes, Takes-then, bind_ok, ok_is, short_takes, short_again, bytes_takes, bytes_again}
use Rattle.message_defs.specs.Statements.{Statement, Claim}
use Rattle.message_defs.specs.Spelling.{IsStatement, IsClaim, spelling}
use Rattle.message_defs.specs.Reading.{statement_of}
use Rattle.statements.proofs.Grammar.{statement_takes, spelling_again}
use Rattle.length_laws.proofs.Spelled.{statements_are_short}
use Rattle.image_defs.specs.Spelling.{list_bytes, claim_bytes}
use Rattle.snapshot_defs.specs.Steps.{◌&◌, else_fault, wide_at, field_at, text_to}
use Rattle.snapshot_defs.specs.Reading.{process_at, statement_at, claim_at, claims_at}
use Rattle.snapshot_defs.specs.Ranges.{AreClaims}
use Rattle.snapshot_laws.proofs.Fields.{IsField, and_is, made_is, ranged_is, one_byte, byte_to_is, text_to_is}
use Rattle.snapshot_laws.proofs.Lists.{list_is}

-- the step did not fail before its fault was replaced
pub else_ok : {A E F : Type 0} (fault : F) (r : Result A E) (a : A) → else_fault fault r ≡ Ok a → r ≡ Ok a
else_ok fault (Ok b) a e = cc
else_ok fault (Err d) a e = absurd cc

front_fits : (bytes front rest : List ℕ) → bytes ≡ front ++ rest → IsBytes bytes → IsBytes front
front_fits bytes front rest parts fits = subst (λ (l : List ℕ). IsBytes l)
    (ap (take (length front)) parts ∙ take_at front rest (length front) refl) (IsBytes-take (length front) bytes fits)

pub process_is : IsField process_at one_byte (λ p. p ≤ 63)
process_is = byte_to_is 63

-- bytes that are read as a statement are its spelling
pub read_statement_is : (bytes : List ℕ) (st : Statement) → IsBytes bytes → statement_of bytes ≡ Ok st
    → (bytes ≡ spelling st) × (length bytes ≤ 1032)
unfolding statement_of
read_statement_is bytes st fits e =
    let s = statement_takes (λ kind. true) bytes st e in
    let same : bytes ≡ spelling st = s.1 fits in
    (same, subst (λ (l : List ℕ). length l ≤ 1032) (sym same) (statements_are_short st s.0))

abbrev statement_text : Statement → List ℕ
statement_text st = text (spelling st)

statement_is : IsField statement_at statement_text IsStatement
unfolding statement_at statement_of
statement_is = record {
  takes = λ bytes x fits e.
      let a = bind_ok (wide_at w16 bytes) _ x e in
      let b = bind_ok (field_at a.0.0 a.0.1) _ x a.2 in
      let d = bind_ok (else_fault (length a.0.1) (statement_of b.0.0)) _ x b.2 in
      let p = short_takes (length bytes) bytes a.0.0 a.0.1 fits a.1 in
      let q = bytes_takes (length a.0.1) a.0.0 a.0.1 b.0.0 b.0.1 p.0.rest_fits b.1 in
      let s = statement_takes (λ kind. true) b.0.0 d.0 (else_ok (length a.0.1) (statement_of b.0.0) d.0 d.1) in
      let same : b.0.0 ≡ spelling d.0 = s.1 (front_fits a.0.1 b.0.0 b.0.1 q.0.parts p.0.rest_fits) in
      let whole : Takes bytes (text b.0.0) b.0.1 = subst (λ (n : ℕ). Takes bytes (two_bytes n ++ b.0.0) b.0.1) (sym q.1)
      (Takes-then bytes (two_bytes a.0.0) a.0.1 b.0.0 b.0.1 p.0 q.0) in
      let made : Statement × List ℕ = (d.0, b.0.1) in
      subst (λ (y : Statement × List ℕ). Takes bytes (statement_text y.0) y.1 × IsStatement y.0) {x = made} {y = x} (ok_is made x d.2)
      (subst (λ (l : List ℕ). Takes bytes (text l) b.0.1) same whole, s.0);
  again = λ st rest is.
      let short : length (spelling st) ≤ 1032 = statements_are_short st is in
      rw (
        append_assoc (two_bytes (length (spelling st))) (spelling st) rest,
        short_again (length (statement_text st ++ rest)) (length (spelling st)) (spelling st ++ rest) (omega (arith, short)),
        bytes_again (length (spelling st ++ rest)) (spelling st) rest,
        spelling_again st is,
      ) refl;
}

abbrev claim_by : ℕ × (Statement × List ℕ) → Claim
claim_by c = record { signer = c.0; statement = c.1.0; signature = c.1.1 }

abbrev parts_of : Claim → ℕ × (Statement × List ℕ)
parts_of c = (c.signer, (c.statement, c.signature))

pub claim_is : IsField claim_at claim_bytes IsClaim
unfolding claim_at
claim_is = ranged_is (λ c is. (is.0, is.1.0, is.1.1)) (λ c is. (is.0, (is.1, is.2)))
    (made_is claim_by parts_of (λ c. refl) (λ c. refl)
    (and_is process_at (statement_at & text_to 16384) process_is
    (and_is statement_at (text_to 16384) statement_is (text_to_is 16384 (omega arith)))))

pub claims_are : IsField claims_at (list_bytes claim_bytes) AreClaims
claims_are = list_is (λ k. claim_at) (λ k. claim_is)
