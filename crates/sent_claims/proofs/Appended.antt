-- A claim more in a list: its bytes stand behind those of the others.
use Rattle.std.proofs.Common.{◌≡◌, ℕ, ◌+◌, ◌-◌, ◌≤◌, List, [], ◌∷◌, ◌++◌, length, take, drop, refl, sym, ap, ◌∙◌, subst, arith, append_assoc, length-append}
use Rattle.std.proofs.Math.Seq.{take-length}
use Rattle.std.specs.Prelude.{slice_range}
use Rattle.std.specs.List.{AllByRecursion}
use Rattle.std.proofs.lemmas.List.{take-append-le, drop-append-le, length-drop, length-take, take_at, drop_at, map-append}
use Rattle.message_defs.specs.Packing.{signed}
use Rattle.sent_claims.specs.declared.list.Listed.{Listed}
use Rattle.sent_claims.specs.Lists.{middle, past, listed_claim, listed_claims, IsListed, AreListed, IsShort}

-- what stands there stays
range_stays : (bytes more : List ℕ) (i j : ℕ) → i ≤ j → j ≤ length bytes → slice_range (bytes ++ more) i j ≡ slice_range bytes i j
range_stays bytes more i j le within =
    let here : i ≤ length bytes = omega arith in
    let fits : j - i ≤ length (drop i bytes) = omega (arith, length-drop i bytes) in
    ap (take (j - i)) (drop-append-le i bytes more here) ∙ take-append-le (j - i) (drop i bytes) more fits

claim_stays : (bytes more : List ℕ) (l : Listed) → IsListed bytes l → listed_claim (bytes ++ more) l ≡ listed_claim bytes l
claim_stays bytes more l is =
    let statement : slice_range (bytes ++ more) l.start (middle l)
    ≡ slice_range bytes l.start (middle l) = range_stays bytes more l.start (l.start + l.said) (omega arith) (omega (arith, is.within)) in
    let signature : slice_range (bytes ++ more) (middle l) (past l)
    ≡ slice_range bytes (middle l) (past l) = range_stays bytes more (l.start + l.said) (l.start + l.said + l.signed)
    (omega arith) is.within in
    λ i. signed (statement i) l.signer (signature i)

claims_stay : (bytes more : List ℕ) (ls : List Listed) → AreListed bytes ls → listed_claims (bytes ++ more) ls ≡ listed_claims bytes ls
claims_stay bytes more [] are = refl
claims_stay bytes more (l ∷ ls) are = λ i. claim_stays bytes more l are.0 i ∷ claims_stay bytes more ls are.1 i

pub are_stay : (bytes more : List ℕ) (ls : List Listed) → AreListed bytes ls → AreListed (bytes ++ more) ls
are_stay bytes more [] are = tt
are_stay bytes more (l ∷ ls) are = (
  record {
    within = omega (arith, are.0.within, length-append bytes more);
    said = are.0.said;
    signed = are.0.signed;
  },
  are_stay bytes more ls are.1,
)

all-snoc : {A : Type 0} (P : A → Type 0) (xs : List A) (x : A) → AllByRecursion P xs → P x → AllByRecursion P (xs ++ x ∷ [])
all-snoc P [] x all p = (p, tt)
all-snoc P (y ∷ xs) x all p = (all.0, all-snoc P xs x all.1 p)

module _ (bytes statement signature : List ℕ) (l : Listed) (start : l.start ≡ length bytes) (said : l.said ≡ length statement)
    (signed' : l.signed ≡ length signature) where
  abbrev now : List ℕ
  now = bytes ++ statement ++ signature

  new_statement : slice_range now l.start (middle l) ≡ statement
  new_statement =
      let count : l.start + l.said - l.start ≡ length statement = omega arith in
      ap (λ b. slice_range b l.start (middle l)) (append_assoc bytes statement signature)
      ∙ ap (take (l.start + l.said - l.start)) (drop_at bytes (statement ++ signature) l.start (sym start))
      ∙ take_at statement signature (l.start + l.said - l.start) (sym count)

  new_signature : slice_range now (middle l) (past l) ≡ signature
  new_signature =
      let at : length (bytes ++ statement) ≡ l.start + l.said = omega (arith, length-append bytes statement) in
      let count : length signature ≡ l.start + l.said + l.signed - (l.start + l.said) = omega arith in
      ap (take (past l - middle l)) (drop_at (bytes ++ statement) signature (l.start + l.said) at)
      ∙ ap (λ n. take n signature) (sym count) ∙ take-length signature

  -- the list ends with the claim
  pub claims-push : (ls : List Listed) → AreListed bytes ls
      → listed_claims now (ls ++ l ∷ []) ≡ listed_claims bytes ls ++ signed statement l.signer signature ∷ []
  claims-push ls are =
      map-append (listed_claim now) ls (l ∷ [])
      ∙ (λ i. (ap (λ b. listed_claims b ls) (append_assoc bytes statement signature) ∙ claims_stay bytes (statement ++ signature) ls are) i
      ++ signed (new_statement i) l.signer (new_signature i) ∷ [])

  now-long : length now ≡ length bytes + (length statement + length signature)
  now-long = omega (arith, length-append (bytes ++ statement) signature, length-append bytes statement)

  -- and it is there
  pub are-push : (ls : List Listed) → AreListed bytes ls → l.said ≤ 1032 → l.signed ≤ 16384 → AreListed now (ls ++ l ∷ [])
  are-push ls are few many = all-snoc (IsListed now) ls l
      (subst (λ b. AreListed b ls) (sym (append_assoc bytes statement signature)) (are_stay bytes (statement ++ signature) ls are))
      (record { within = omega (arith, now-long); said = few; signed = many })

-- ---- each claim is short

length-range : (bytes : List ℕ) (i j : ℕ) → length (slice_range bytes i j) ≤ j - i
length-range bytes i j = let e = length-take (j - i) (drop i bytes) in omega (arith, e)

pub listed-short : (bytes : List ℕ) (ls : List Listed) → AreListed bytes ls → AllByRecursion IsShort (listed_claims bytes ls)
listed-short bytes [] are = tt
listed-short bytes (l ∷ ls) are =
    let a = length-range bytes l.start (middle l) in
    let b = length-range bytes (middle l) (past l) in
    (record { statement = omega (arith, a, are.0.said); signature = omega (arith, b, are.0.signed) }, listed-short bytes ls are.1)
