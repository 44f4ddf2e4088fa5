-- What hearing changes, and what it keeps.
use Rattle.std.proofs.Common.{◌≡◌, ◌≢◌, ◌+◌, ◌≤◌, List, [], ◌∷◌, ◌++◌, Bool, true, false, Option, Some, None, refl, sym, ap, subst, ◌∙◌, arith, length, slice_index_or, length-append}
use Rattle.std.specs.Prelude.{if◌then◌else◌, ◌&&◌, ◌==◌, is_some, option_map, option_and_then, unwrap_or, All, AllPairs}
use Rattle.std.specs.List.{AllByRecursion, list_any}
use Rattle.std.proofs.lemmas.Bool.{eqb-true, eq-eqb}
use Rattle.std.proofs.lemmas.List.{append-nil}
use Rattle.std.proofs.lemmas.List.Elements.{All-push}
use Rattle.std.proofs.lemmas.List.Quantifiers.{all_pairs_push}
use Rattle.byte_defs.specs.Choices.{first_that_holds}
use Rattle.message_defs.specs.Spelling.{IsClaim}
use Rattle.message_defs.specs.Updates.{Value}
use Rattle.message_defs.specs.Statements.{Slot, Claim, slot_of, same_slot, value_of}
use Rattle.group_defs.specs.Process.{Setting, Process}
use Rattle.group_defs.specs.Certified.{claim_on, heard_on, certified_on, value_at, number_of_members}
use Rattle.group_defs.specs.Hearing.{Verdict, Old, Early, Stranger, OutOfWindow, Known, Unsigned, Conflict, Heard, verdict, with_verdict, hear, hear_all}
use Rattle.pool_laws.proofs.Grown.{certified-stays}
use Rattle.pool_laws.proofs.Members.{All-mem, mem-All, each-snoc, find-is, index-mem, mem-list_any}
use Rattle.pool_laws.proofs.Tests.{and-first, then-some}

-- ---- one claim

-- the process with these heard claims and these conflicts, and else the same
abbrev pub with_hearing : Process → List Claim → List (Claim × Claim) → Process
with_hearing p heard pairs = record p { pool = record { view = p.pool.view; heard = heard }; conflicts = pairs }

-- hearing a claim changes nothing else
pub hear-changes : (s : Setting) (p : Process) (c : Claim) → hear s p c ≡ with_hearing p (hear s p c).pool.heard (hear s p c).conflicts
hear-changes s p c = go (verdict s p c)
  where
    go : (v : Verdict) → with_verdict v p c ≡ with_hearing p (with_verdict v p c).pool.heard (with_verdict v p c).conflicts
    go Heard = refl
    go Conflict = refl
    go Old = refl
    go Early = refl
    go Stranger = refl
    go OutOfWindow = refl
    go Known = refl
    go Unsigned = refl

-- what is heard was no conflict
no-conflict : (old early strange beyond known unsigned conflict : Bool)
    → unwrap_or (first_that_holds ((old, Old) ∷ (early, Early) ∷ (strange, Stranger) ∷ (beyond, OutOfWindow) ∷ (known, Known)
    ∷ (unsigned, Unsigned) ∷ (conflict, Conflict) ∷ [])) Heard ≡ Heard → conflict ≡ false
no-conflict true early strange beyond known unsigned conflict e = absurd cc
no-conflict false true strange beyond known unsigned conflict e = absurd cc
no-conflict false false true beyond known unsigned conflict e = absurd cc
no-conflict false false false true known unsigned conflict e = absurd cc
no-conflict false false false false true unsigned conflict e = absurd cc
no-conflict false false false false false true conflict e = absurd cc
no-conflict false false false false false false true e = absurd cc
no-conflict false false false false false false false e = refl

unmapped : {A B : Type 0} (f : A → B) (o : Option A) → is_some (option_map f o) ≡ false → o ≡ None
unmapped f None e = refl
unmapped f (Some a) e = absurd cc

-- a claim that is heard is the first of its signer on its slot
first-on-slot : (s : Setting) (p : Process) (c : Claim) → verdict s p c ≡ Heard
    → claim_on p.pool.heard c.signer (slot_of c.statement) ≡ None
first-on-slot s p c heard = unmapped (λ (d : Claim). d.statement) (claim_on p.pool.heard c.signer (slot_of c.statement))
    (no-conflict _ _ _ _ _ _ (is_some (heard_on p.pool c.signer (slot_of c.statement))) heard)

-- a value that is certified stays so
pub hear-value : (s : Setting) (p : Process) (c : Claim) → 1 ≤ number_of_members p.pool → (slot : Slot) (v : Value)
    → value_at p.pool slot ≡ Some v → value_at (hear s p c).pool slot ≡ Some v
hear-value s p c some slot v is = go (verdict s p c) refl
  where
    go : (verdict' : Verdict) → verdict s p c ≡ verdict' → value_at (with_verdict verdict' p c).pool slot ≡ Some v
    go Heard e = (let by = then-some value_of (certified_on p.pool slot) v is in ap (option_and_then value_of)
        (certified-stays p.pool c (first-on-slot s p c e) some slot by.0 by.1) ∙ by.2)
    go Conflict e = is
    go Old e = is
    go Early e = is
    go Stranger e = is
    go OutOfWindow e = is
    go Known e = is
    go Unsigned e = is

-- ---- conflicts

-- in each pair both claims are of one signer
abbrev pub AreOfOne : List (Claim × Claim) → Type 0
AreOfOne pairs = All (λ pair. pair.0.signer ≡ pair.1.signer) pairs

-- no signer has two pairs
abbrev pub IsOnce : List (Claim × Claim) → Type 0
IsOnce pairs = AllPairs (λ a b. a.1.signer ≢ b.1.signer) pairs

-- a pair is put behind those of other signers
pair-behind : (pairs : List (Claim × Claim)) (pair : Claim × Claim)
    → list_any (λ (a : Claim × Claim). a.1.signer == pair.1.signer) pairs ≡ false → pair.0.signer ≡ pair.1.signer → AreOfOne pairs
    → IsOnce pairs → AreOfOne (pairs ++ pair ∷ []) × IsOnce (pairs ++ pair ∷ [])
pair-behind pairs pair none same ones once = (
  mem-All (λ (a : Claim × Claim). a.0.signer ≡ a.1.signer) (pairs ++ pair ∷ [])
      (each-snoc (λ (a : Claim × Claim). a.0.signer ≡ a.1.signer) pairs pair
      (λ a m. All-mem (λ (a : Claim × Claim). a.0.signer ≡ a.1.signer) pairs a ones m) same),
  all_pairs_push (λ (a b : Claim × Claim). a.1.signer ≢ b.1.signer) pairs pair once (λ k d lt is.
      let clash : true ≡ false = sym
      (mem-list_any (λ (a : Claim × Claim). a.1.signer == pair.1.signer) pairs (slice_index_or pairs k d) (index-mem pairs k d lt)
      (eq-eqb _ _ is)) ∙ none in cc),
)

pub hear-pairs : (s : Setting) (p : Process) (c : Claim) → AreOfOne p.conflicts → IsOnce p.conflicts
    → AreOfOne (hear s p c).conflicts × IsOnce (hear s p c).conflicts
hear-pairs s p c ones once = go (verdict s p c)
  where
    with-first : (o : Option Claim) → claim_on p.pool.heard c.signer (slot_of c.statement) ≡ o
        → list_any (λ (a : Claim × Claim). a.1.signer == c.signer) p.conflicts ≡ false
        → (let pairs : List (Claim × Claim) = p.conflicts ++ elim o [ None ↦ [] | Some first ↦ (first, c) ∷ [] ] in AreOfOne pairs
        × IsOnce pairs)
    with-first None e none = (subst AreOfOne (sym (append-nil p.conflicts)) ones, subst IsOnce (sym (append-nil p.conflicts)) once)
    with-first (Some first) e none =
        let signer = eqb-true first.signer c.signer
        (and-first (first.signer == c.signer) (same_slot (slot_of first.statement) (slot_of c.statement))
        (find-is (λ (d : Claim). (d.signer == c.signer)
        && same_slot (slot_of d.statement) (slot_of c.statement)) p.pool.heard first e).1) in
        pair-behind p.conflicts (first, c) none signer ones once

    kept : (b : Bool) → list_any (λ (a : Claim × Claim). a.1.signer == c.signer) p.conflicts ≡ b
        → (let pairs : List (Claim × Claim) = if b then p.conflicts
        else p.conflicts ++ elim (claim_on p.pool.heard c.signer (slot_of c.statement)) [
          | None ↦ []
          | Some first ↦ (first, c)
              ∷ []
        ] in AreOfOne pairs × IsOnce pairs)
    kept true e = (ones, once)
    kept false e = with-first (claim_on p.pool.heard c.signer (slot_of c.statement)) refl e

    go : (v : Verdict) → AreOfOne (with_verdict v p c).conflicts × IsOnce (with_verdict v p c).conflicts
    go Conflict = kept (list_any (λ (a : Claim × Claim). a.1.signer == c.signer) p.conflicts) refl
    go Heard = (ones, once)
    go Old = (ones, once)
    go Early = (ones, once)
    go Stranger = (ones, once)
    go OutOfWindow = (ones, once)
    go Known = (ones, once)
    go Unsigned = (ones, once)

-- both claims of each pair are in range
abbrev pub AreInRange : List (Claim × Claim) → Type 0
AreInRange pairs = All (λ pair. IsClaim pair.0 × IsClaim pair.1) pairs

pub hear-in-range : (s : Setting) (p : Process) (c : Claim) → IsClaim c → All IsClaim p.pool.heard → AreInRange p.conflicts
    → AreInRange (hear s p c).conflicts
hear-in-range s p c range heard pairs = go (verdict s p c)
  where
    with-first : (o : Option Claim) → claim_on p.pool.heard c.signer (slot_of c.statement) ≡ o
        → (let more : List (Claim × Claim) = p.conflicts ++ elim o [ None ↦ [] | Some first ↦ (first, c) ∷ [] ] in AreInRange more)
    with-first None e = subst AreInRange (sym (append-nil p.conflicts)) pairs
    with-first (Some first) e =
        let there = (find-is (λ (d : Claim). (d.signer == c.signer)
        && same_slot (slot_of d.statement) (slot_of c.statement)) p.pool.heard first e).0 in
        All-push (λ (pair : Claim × Claim). IsClaim pair.0 × IsClaim pair.1) p.conflicts (first, c) pairs
        (All-mem IsClaim p.pool.heard first heard there, range)

    kept : (b : Bool) → (let more : List (Claim × Claim) = if b then p.conflicts
        else p.conflicts ++ elim (claim_on p.pool.heard c.signer (slot_of c.statement)) [
          | None ↦ []
          | Some first ↦ (first, c)
              ∷ []
        ] in AreInRange more)
    kept true = pairs
    kept false = with-first (claim_on p.pool.heard c.signer (slot_of c.statement)) refl

    go : (v : Verdict) → AreInRange (with_verdict v p c).conflicts
    go Conflict = kept (list_any (λ (a : Claim × Claim). a.1.signer == c.signer) p.conflicts)
    go Heard = pairs
    go Old = pairs
    go Early = pairs
    go Stranger = pairs
    go OutOfWindow = pairs
    go Known = pairs
    go Unsigned = pairs

-- ---- several claims

module _ (s : Setting) where
  -- what hearing a claim keeps, hearing several keeps
  pub all-keep : (P : Process → Type 0) → ((p : Process) (c : Claim) → IsClaim c → P p → P (hear s p c)) → (p : Process) (cs : List Claim)
      → AllByRecursion IsClaim cs → P p → P (hear_all s p cs)
  unfolding hear_all
  all-keep P one p [] range ok = ok
  all-keep P one p (c ∷ cs) range ok = all-keep P one (hear s p c) cs range.1 (one p c range.0 ok)

  -- hearing several claims changes nothing else either
  pub all-change : (p : Process) (cs : List Claim)
      → hear_all s p cs ≡ with_hearing p (hear_all s p cs).pool.heard (hear_all s p cs).conflicts
  unfolding hear_all
  all-change p [] = refl
  all-change p (c ∷ cs) = all-change (hear s p c) cs ∙ ap
      (λ q. with_hearing q (hear_all s (hear s p c) cs).pool.heard (hear_all s (hear s p c) cs).conflicts) (hear-changes s p c)

  hear-length : (p : Process) (c : Claim)
      → (length p.pool.heard ≤ length (hear s p c).pool.heard) × (length (hear s p c).pool.heard ≤ length p.pool.heard + 1)
  hear-length p c = go (verdict s p c)
    where
      go : (v : Verdict) → (length p.pool.heard ≤ length (with_verdict v p c).pool.heard)
          × (length (with_verdict v p c).pool.heard ≤ length p.pool.heard + 1)
      go Heard = (let more = length-append p.pool.heard (c ∷ []) in (omega (arith, more), omega (arith, more)))
      go Conflict = (omega arith, omega arith)
      go Old = (omega arith, omega arith)
      go Early = (omega arith, omega arith)
      go Stranger = (omega arith, omega arith)
      go OutOfWindow = (omega arith, omega arith)
      go Known = (omega arith, omega arith)
      go Unsigned = (omega arith, omega arith)

  -- none is forgotten, and no more are newly heard than there are claims
  pub all-length : (p : Process) (cs : List Claim)
      → (length p.pool.heard ≤ length (hear_all s p cs).pool.heard)
      × (length (hear_all s p cs).pool.heard ≤ length p.pool.heard + length cs)
  unfolding hear_all
  all-length p [] = (omega arith, omega arith)
  all-length p (c ∷ cs) = (let one = hear-length p c in let rest = all-length
      (hear s p c) cs in (omega (arith, one.0, one.1, rest.0, rest.1), omega (arith, one.0, one.1, rest.0, rest.1)))
