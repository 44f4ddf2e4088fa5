-- The entry under the key of a signer and a slot is the signer's first claim on the slot.
use Rattle.std.proofs.Common.{◌≡◌, ℕ, zero, suc, slice_get, Bool, true, false, cond, List, [], ◌∷◌, Option, Some, None, ◌≤◌, length, refl, sym, ap, ◌∙◌, subst}
use Rattle.std.specs.Prelude.{◌&&◌, ◌==◌, IsOk, option_and_then}
use Rattle.std.specs.Option.{option_map}
use Rattle.std.specs.Map.{lookup}
use Rattle.message_defs.specs.Statements.{Statement, Slot, Claim, slot_of, same_slot, same_statement}
use Rattle.message_defs.specs.Spelling.{IsStatement, spelling}
use Rattle.message_defs.specs.Reading.{statement_of}
use Rattle.group_defs.specs.Certified.{claim_on, heard_on, says}
use Rattle.std.proofs.lemmas.Slice.Eq.{bytes_eq-Decides}
use Rattle.std.specs.Str.{bytes_eq}
use Rattle.std.proofs.lemmas.Bool.Decides.{same_from_decides}
use Rattle.byte_defs.specs.Choices.{is_some_and}
use Rattle.group_defs.specs.Process.{Pool}
use Rattle.stmt_codec.proofs.Grammar.{spelling_again}
use Rattle.pool_laws.proofs.Slots.{same_statement-is, is-same_statement}
use Rattle.claim_index.specs.declared.key.SlotKey.{SlotKey}
use Rattle.claim_index.specs.declared.key.Key.{Key}
use Rattle.claim_index.specs.declared.index.Kept.{Kept}
use Rattle.claim_index.specs.Keys.{slot_key, key_of, same_key}
use Rattle.claim_index.specs.Kept.{spelled, claim_with, claim_at, heard_in, past, statement_bytes, IsKept, AreKept}
use Rattle.claim_index.proofs.Keyed.{same_key-of, same_key-is}

-- one entry
test_is : (bytes : List ℕ) (e : Key × Kept) → IsKept bytes e → (p : ℕ) (s : Slot)
    → ((claim_at bytes e).signer == p && same_slot (slot_of (claim_at bytes e).statement) s) ≡ same_key (key_of p s) e.0
test_is bytes e kept p s = sym (same_key-of p e.0.signer s (slot_of (claim_at bytes e).statement)) ∙ ap (same_key (key_of p s))
    (sym kept.keyed)

-- all of them
pub lookup_is_claim : (bytes : List ℕ) (es : List (Key × Kept)) → AreKept bytes es → (p : ℕ) (s : Slot)
    → option_map (claim_with bytes p) (lookup (same_key (key_of p s)) es) ≡ claim_on (heard_in bytes es) p s
lookup_is_claim bytes [] kept p s = refl
lookup_is_claim bytes (e ∷ es) kept p s =
    head (same_key (key_of p s) e.0) refl (lookup_is_claim bytes es kept.1 p s)
    ∙ ap (λ (b : Bool). cond b (Some (claim_at bytes e)) (claim_on (heard_in bytes es) p s)) (sym (test_is bytes e kept.0 p s))
  where
    head : (b : Bool) → same_key (key_of p s) e.0 ≡ b
        → option_map (claim_with bytes p) (lookup (same_key (key_of p s)) es) ≡ claim_on (heard_in bytes es) p s
        → option_map (claim_with bytes p) (cond b (Some e.1) (lookup (same_key (key_of p s)) es))
        ≡ cond b (Some (claim_at bytes e)) (claim_on (heard_in bytes es) p s)
    head true is rest = let signer : p
        ≡ e.0.signer = ap (λ (k : Key). k.signer) (same_key-is (key_of p s) e.0 is) in ap (λ q. Some (claim_with bytes q e.1)) signer
    head false is rest = rest

-- what an entry is known for
abbrev pub IsLendable : List ℕ → Kept → Type 0
IsLendable bytes k = (past k ≤ length bytes) × IsOk (statement_of (statement_bytes bytes k))
    × (statement_bytes bytes k ≡ spelling (spelled (statement_bytes bytes k)))

lendable : (bytes : List ℕ) (x : Key × Kept) (k : Kept) (b : Bool) (rest : Option Kept) → IsKept bytes x
    → (rest ≡ Some k → IsLendable bytes k) → cond b (Some x.1) rest ≡ Some k → IsLendable bytes k
lendable bytes x k true rest kept later is = let one : x.1
    ≡ k = cc in subst (IsLendable bytes) one (kept.within, kept.readable, kept.written)
lendable bytes x k false rest kept later is = later is

pub kept_from_lookup : (bytes : List ℕ) (test : Key → Bool) (es : List (Key × Kept)) (k : Kept) → AreKept bytes es → lookup test es ≡ Some k
    → IsLendable bytes k
kept_from_lookup bytes test [] k kept e = absurd cc
kept_from_lookup bytes test (x ∷ es) k kept e = lendable bytes x k (test x.0)
    (lookup test es) kept.0 (kept_from_lookup bytes test es k kept.1) e

-- the signer's key of a slot, where there is one
pub key_about : (p : ℕ) (k : Key) (slot : SlotKey) (o : Option Slot) → k ≡ record { signer = p; slot = slot }
    → Some slot ≡ option_map slot_key o → Some k ≡ option_map (key_of p) o
key_about p k slot None is e = absurd cc
key_about p k slot (Some s) is e = let one : slot ≡ slot_key s = cc in ap Some is ∙ (λ i. Some (record { signer = p; slot = one i }))

-- by the key of a slot, where there is one
pub claim_about : (bytes : List ℕ) (es : List (Key × Kept)) → AreKept bytes es → (p : ℕ) (o : Option Slot) (k : Key)
    → Some k ≡ option_map (key_of p) o
    → option_map (claim_with bytes p) (lookup (same_key k) es) ≡ option_and_then (claim_on (heard_in bytes es) p) o
claim_about bytes es kept p None k e = absurd cc
claim_about bytes es kept p (Some s) k e = let one : k
    ≡ key_of p s = cc in ap (λ k. option_map (claim_with bytes p) (lookup (same_key k) es)) one ∙ lookup_is_claim bytes es kept p s

-- ---- contents are compared by their bytes

spelled_again : (st : Statement) → IsStatement st → spelled (spelling st) ≡ st
spelled_again st fits = rw (spelling_again st fits, spelled) refl

same_said : (sb : List ℕ) (st : Statement) → IsStatement st → sb ≡ spelling (spelled sb)
    → bytes_eq sb (spelling st) ≡ same_statement st (spelled sb)
same_said sb st fits written =
    let read = bytes_eq-Decides sb (spelling st) in
    same_from_decides {P = sb ≡ spelling st} (bytes_eq sb (spelling st)) (same_statement st (spelled sb)) read (
      λ e. written ∙ ap spelling (sym (same_statement-is st (spelled sb) e)),
      λ e. is-same_statement st (spelled sb) (sym (ap spelled e ∙ spelled_again st fits)),
    )

-- the member says it, where its entry has the statement's bytes
pub says_by_bytes : (h : Pool) (bytes : List ℕ) (es : List (Key × Kept)) → h.heard ≡ heard_in bytes es → AreKept bytes es
    → (p : ℕ) (st : Statement) → IsStatement st → (k : Kept)
    → Some k ≡ lookup (same_key (key_of p (slot_of st))) es → bytes_eq (statement_bytes bytes k) (spelling st) ≡ says h st p
says_by_bytes h bytes es is kept p st fits k e =
    let claim : Some (claim_with bytes p k)
    ≡ claim_on h.heard p (slot_of st) = ap (option_map (claim_with bytes p)) e ∙ lookup_is_claim bytes es kept p (slot_of st) ∙ ap
    (λ cs. claim_on cs p (slot_of st)) (sym is) in
    same_said (statement_bytes bytes k) st fits (kept_from_lookup bytes (same_key (key_of p (slot_of st))) es k kept (sym e)).2
    ∙ ap (λ o. is_some_and (option_map (λ (c : Claim). c.statement) o) (same_statement st)) claim

pub silent : (h : Pool) (bytes : List ℕ) (es : List (Key × Kept)) → h.heard ≡ heard_in bytes es → AreKept bytes es
    → (p : ℕ) (st : Statement)
    → None ≡ lookup (same_key (key_of p (slot_of st))) es → false ≡ says h st p
silent h bytes es is kept p st e =
    let none : None ≡ claim_on h.heard p (slot_of st) = ap (option_map (claim_with bytes p)) e ∙ lookup_is_claim bytes es kept p
    (slot_of st) ∙ ap (λ cs. claim_on cs p (slot_of st)) (sym is) in
    ap (λ o. is_some_and (option_map (λ (c : Claim). c.statement) o) (same_statement st)) none

-- whether the signer's claim says the same, where there is one
pub repeated : (h : Pool) (bytes : List ℕ) (es : List (Key × Kept)) → h.heard ≡ heard_in bytes es → AreKept bytes es
    → (p : ℕ) (st : Statement) → IsStatement st → (k : Kept)
    → Some k ≡ lookup (same_key (key_of p (slot_of st))) es
    → Some (bytes_eq (statement_bytes bytes k) (spelling st)) ≡ option_map (same_statement st) (heard_on h p (slot_of st))
repeated h bytes es is kept p st fits k e =
    let claim : Some (claim_with bytes p k)
    ≡ claim_on h.heard p (slot_of st) = ap (option_map (claim_with bytes p)) e ∙ lookup_is_claim bytes es kept p (slot_of st) ∙ ap
    (λ cs. claim_on cs p (slot_of st)) (sym is) in
    ap Some (same_said (statement_bytes bytes k) st fits (kept_from_lookup bytes (same_key (key_of p (slot_of st))) es k kept (sym e)).2)
    ∙ ap (λ o. option_map (same_statement st) (option_map (λ (c : Claim). c.statement) o)) claim

pub unsaid : (h : Pool) (bytes : List ℕ) (es : List (Key × Kept)) → h.heard ≡ heard_in bytes es → AreKept bytes es
    → (p : ℕ) (st : Statement)
    → None ≡ lookup (same_key (key_of p (slot_of st))) es → None ≡ option_map (same_statement st) (heard_on h p (slot_of st))
unsaid h bytes es is kept p st e =
    let none : None ≡ claim_on h.heard p (slot_of st) = ap (option_map (claim_with bytes p)) e ∙ lookup_is_claim bytes es kept p
    (slot_of st) ∙ ap (λ cs. claim_on cs p (slot_of st)) (sym is) in
    ap (λ o. option_map (same_statement st) (option_map (λ (c : Claim). c.statement) o)) none

-- ---- by the place in order of hearing

kept_at : (bytes : List ℕ) (es : List (Key × Kept)) → AreKept bytes es → (k : ℕ) (e : Key × Kept) → slice_get es k ≡ Some e
    → IsKept bytes e × (slice_get (heard_in bytes es) k ≡ Some (claim_at bytes e))
kept_at bytes [] kept k e is = absurd cc
kept_at bytes (x ∷ es) kept zero e is = let one : x ≡ e = cc in (subst (IsKept bytes) one kept.0, ap (λ y. Some (claim_at bytes y)) one)
kept_at bytes (x ∷ es) kept (suc k) e is = kept_at bytes es kept.1 k e is

none_at : (bytes : List ℕ) (es : List (Key × Kept)) (k : ℕ) → slice_get es k ≡ None → slice_get (heard_in bytes es) k ≡ None
none_at bytes [] k is = refl
none_at bytes (x ∷ es) zero is = absurd cc
none_at bytes (x ∷ es) (suc k) is = none_at bytes es k is

module _ (h : Pool) (bytes : List ℕ) (es : List (Key × Kept)) (heard : h.heard ≡ heard_in bytes es) (kept : AreKept bytes es) (k : ℕ) where
  -- the claim there says it, where its entry has the statement's bytes
  pub said_there : (e : Key × Kept) → Some e ≡ slice_get es k → (st : Statement) → IsStatement st
      → bytes_eq (statement_bytes bytes e.1) (spelling st)
      ≡ is_some_and (option_map (λ (c : Claim). c.statement) (slice_get h.heard k)) (same_statement st)
  said_there e is st fits =
      let at = kept_at bytes es kept k e (sym is) in
      same_said (statement_bytes bytes e.1) st fits at.0.written
      ∙ ap (λ o. is_some_and (option_map (λ (c : Claim). c.statement) o) (same_statement st)) (sym (ap (λ cs. slice_get cs k) heard ∙ at.1))

  pub what_there : (e : Key × Kept) → Some e ≡ slice_get es k
      → Some (claim_at bytes e).statement ≡ option_map (λ (c : Claim). c.statement) (slice_get h.heard k)
  what_there e is =
      let at = kept_at bytes es kept k e (sym is) in
      ap (option_map (λ (c : Claim). c.statement)) (sym (ap (λ cs. slice_get cs k) heard ∙ at.1))

  pub nothing_there : None ≡ slice_get es k → None ≡ option_map (λ (c : Claim). c.statement) (slice_get h.heard k)
  nothing_there is = ap (option_map (λ (c : Claim). c.statement)) (sym (ap (λ cs. slice_get cs k) heard ∙ none_at bytes es k (sym is)))
