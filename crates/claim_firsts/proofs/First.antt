-- A claim that is the first one of its signer on its slot.
use Rattle.std.proofs.Common.{◌≡◌, List, [], ◌∷◌, ◌++◌, Some, Bool, true, false, refl, sym, ap, ◌∙◌, subst}
use Rattle.std.specs.Prelude.{◌==◌, ◌&&◌, not, filter, find, option_map}
use Rattle.std.proofs.lemmas.Slice.Eq.{bytes_eq-Decides}
use Rattle.byte_defs.specs.Equality.{same_bytes}
use Rattle.message_defs.specs.Statements.{Claim, same_statement}
use Rattle.group_defs.specs.Process.{Setting}
use Rattle.group_defs.specs.Hearing.{is_valid}
use Rattle.pool_laws.proofs.Members.{Mem, filter-mem, find-is}
use Rattle.pool_laws.proofs.Slots.{same_statement-is}
use Rattle.pool_laws.proofs.Tests.{and-first, and-second, some-and}
use Rattle.conviction_defs.specs.Convictions.{is_conflict, is_on_slot}
use Rattle.claim_firsts.specs.Tables.{Table}
use Rattle.claim_firsts.specs.Seen.{Saw, is_beside}
use Rattle.claim_firsts.specs.Seeing.{seeing, seeing_by}
use Rattle.claim_firsts.specs.First.{is_again, is_first}
use Rattle.claim_firsts.proofs.Finding.{beside-is, first-mem}
use Rattle.claim_firsts.proofs.Seeing.{saw-more}

not-true : (b : Bool) → not b ≡ true → b ≡ false
not-true false e = refl
not-true true e = absurd cc

-- on the slot and without a conflict the two say the same
same-said : (c b : Claim) → is_on_slot c b ≡ true → is_conflict c b ≡ false → b.statement ≡ c.statement
same-said c b on none = go (same_statement b.statement c.statement) refl (sym (ap (λ t. t && not (same_statement b.statement c.statement)) on) ∙ none)
  where
    go : (t : Bool) → same_statement b.statement c.statement ≡ t → (true && not (same_statement b.statement c.statement)) ≡ false
        → b.statement ≡ c.statement
    go true e differ = same_statement-is b.statement c.statement e
    go false e differ = absurd (let clash : true ≡ false = ap not (sym e) ∙ differ in cc)

same-claim : (c b : Claim) → is_beside c b ≡ true → is_again c b ≡ true → b ≡ c
same-claim c b near again =
    let signer = (beside-is c b near).0 in
    let statement = same-said c b (and-second (b.signer == c.signer) (is_on_slot c b) near)
    (not-true (is_conflict c b) (and-first (not (is_conflict c b)) (same_bytes b.signature c.signature) again)) in
    let signature = (bytes_eq-Decides b.signature c.signature).0
    (and-second (not (is_conflict c b)) (same_bytes b.signature c.signature) again) in
    λ i. record { signer = signer i; statement = statement i; signature = signature i }

module _ (t : Table) (c : Claim) (first : is_first t c ≡ true) where
  -- it is among the first claims
  found : (b : Claim) × (find (is_beside c) t.firsts ≡ Some b) × (is_again c b ≡ true)
  found = some-and (find (is_beside c) t.firsts) (is_again c) first

  pub first-kept : Mem c t.firsts
  first-kept =
      let near = find-is (is_beside c) t.firsts found.0 found.1 in
      subst (λ d. Mem d t.firsts) (same-claim c found.0 near.1 found.2) near.0

  unchanged : seeing t c ≡ t
  unchanged =
      ap (λ o. seeing_by t c (option_map (is_conflict c) o)) found.1
      ∙ ap (λ b. seeing_by t c (Some b))
      (not-true (is_conflict c found.0) (and-first (not (is_conflict c found.0)) (same_bytes found.0.signature c.signature) found.2))

  module _ (s : Setting) (claims own : List Claim) (saw : Saw s claims own t) where
    pub first-valid : is_valid s c ≡ true
    first-valid = (filter-mem (is_valid s) claims c
        (first-mem [] (filter (is_valid s) claims) c (subst (Mem c) saw.firsts first-kept))).1

    pub first-again : Saw s (claims ++ c ∷ []) own t
    first-again = subst (Saw s (claims ++ c ∷ []) own) unchanged (saw-more s claims own t saw c first-valid)
