-- What an iterator over the claims of a frame lends next, and what it has left then.
use Rattle.std.proofs.Common.{◌≡◌, ℕ, ◌≤◌, Bool, true, false, ltb, List, [], ◌∷◌, Result, Ok, Err, refl, sym, ap, subst, ◌∙◌}
use Rattle.std.specs.Prelude.{IsOk}
use Rattle.std.proofs.lemmas.Bool.{ltb-false}
use Rattle.frame_codec.specs.Below.{◌>>=◌, refuse_if}
use Rattle.message_defs.specs.declared.FrameFault.{FrameFault}
use Rattle.message_defs.specs.declared.FrameFault.TheVariants.{Range}
use Rattle.message_defs.specs.Frames.{Group}
use Rattle.message_defs.specs.Statements.{Statement, Claim}
use Rattle.message_defs.specs.Reading.{statement_in}
use Rattle.message_defs.specs.Claims.{claims_on, claims_of_group, claims_of_groups}
use Rattle.stmt_codec.specs.Cursor.{both, with_first}

abbrev pub Claims : Type 0
Claims = Result (List Claim) FrameFault

-- ---- a step that did not fail

begun_ok : {A : Type 0} (r : Result A FrameFault) (f : A → Claims) → IsOk (r >>= f) → (a : A) × (r ≡ Ok a) × IsOk (f a)
begun_ok (Ok a) f ok = (a, refl, ok)
begun_ok (Err e) f ok = absurd cc

unrefused : (b : Bool) (d : FrameFault) (f : Unit {0} → Claims) → IsOk (refuse_if b d >>= f) → b ≡ false
unrefused true d f ok = absurd cc
unrefused false d f ok = refl

-- ---- a group

signer_fits : (st : Statement) (s : ℕ × List ℕ) (now more : List (ℕ × List ℕ)) → now ≡ s ∷ more → IsOk (claims_on st now)
    → ltb 63 s.0 ≡ false
unfolding claims_on
signer_fits st s now more e ok = unrefused (ltb 63 s.0) Range _ (subst (λ (l : List (ℕ × List ℕ)). IsOk (claims_on st l)) e ok)

module _ (carries : ℕ → Bool) (text : List ℕ) where
  abbrev group : List (ℕ × List ℕ) → Claims
  group signatures = claims_of_group carries (record { statement = text; signatures = signatures })

  statement_stands : (now : List (ℕ × List ℕ)) → IsOk (group now)
      → (st : Statement) × (statement_in carries text ≡ Ok st) × IsOk (claims_on st now)
  unfolding claims_of_group
  statement_stands now ok = begun_ok (statement_in carries text) (λ st. claims_on st now) ok

  pub no_fault : (now : List (ℕ × List ℕ)) (e : FrameFault) → IsOk (group now) → statement_in carries text ≡ Err e → ⊥
  no_fault now e ok h = let stands = statement_stands now ok in let clash : statement_in carries text ≡ Ok stands.0 = stands.1 in cc

  pub signer_stands : (s : ℕ × List ℕ) (now more : List (ℕ × List ℕ)) → now ≡ s ∷ more → IsOk (group now) → s.0 ≤ 63
  signer_stands s now more e ok = ltb-false _ _ (signer_fits (statement_stands now ok).0 s now more e (statement_stands now ok).2)

  pub no_claim_left : (now : List (ℕ × List ℕ)) → now ≡ [] → IsOk (group now) → group now ≡ Ok []
  unfolding claims_of_group claims_on
  no_claim_left now e ok = rw (e, (statement_stands now ok).1) refl

  -- and then again
  pub same_claims : (now then : List (ℕ × List ℕ)) → then ≡ [] → now ≡ [] → group now ≡ Ok [] → group then ≡ Ok []
  same_claims now then e d h = ap group (e ∙ sym d) ∙ h

  pub group_lends : (st : Statement) (s : ℕ × List ℕ) (signer : ℕ) (now more : List (ℕ × List ℕ)) → statement_in carries text ≡ Ok st
      → now ≡ s ∷ more → signer ≡ s.0 → IsOk (group now)
      → group now ≡ with_first (record { signer = signer; statement = st; signature = s.1 }) (group more)
  unfolding claims_of_group claims_on
  group_lends st s signer now more h e same ok =
      let fine : ltb 63 s.0 ≡ false = signer_fits (statement_stands now ok).0 s now more e (statement_stands now ok).2 in
      let one : group (s ∷ more) ≡ with_first (record { signer = s.0; statement = st; signature = s.1 }) (group more) = rw (h, fine) refl in
      ap group e ∙ rw same one

-- ---- the groups

both-nothing : (read : Claims) → both (Ok []) read ≡ read
both-nothing (Ok cs) = refl
both-nothing (Err e) = refl

module _ (carries : ℕ → Bool) where
  group_begins : (g : Group) (now more : List Group) → now ≡ g ∷ more
      → claims_of_groups carries now ≡ both (claims_of_group carries g) (claims_of_groups carries more)
  unfolding claims_of_groups
  group_begins g now more e = rw e refl

  no_group_waits : (now : List Group) → now ≡ [] → claims_of_groups carries now ≡ Ok []
  unfolding claims_of_groups
  no_group_waits now e = rw e refl

  -- nothing is left of the group that was begun, and one waits
  pub next_begins : (begun : Claims) (g : Group) (now more : List Group) → begun ≡ Ok [] → now ≡ g ∷ more
      → both begun (claims_of_groups carries now) ≡ both (claims_of_group carries g) (claims_of_groups carries more)
  next_begins begun g now more none e = ap (λ (c : Claims). both c (claims_of_groups carries now)) none ∙ both-nothing
      (claims_of_groups carries now) ∙ group_begins g now more e

  pub nothing_waits : (begun : Claims) (now : List Group) → begun ≡ Ok [] → now ≡ [] → both begun (claims_of_groups carries now) ≡ Ok []
  nothing_waits begun now none e = ap (λ (c : Claims). both c (claims_of_groups carries now)) none ∙ both-nothing
      (claims_of_groups carries now) ∙ no_group_waits now e
