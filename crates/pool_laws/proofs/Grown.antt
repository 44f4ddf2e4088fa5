-- One claim more changes one slot.
use Rattle.std.proofs.Common.{◌≡◌, inl, inr, ℕ, suc, ◌+◌, ◌≤◌, Bool, true, false, List, [], ◌∷◌, ◌++◌, map, length, Option, Some, None, refl, sym, ap, ◌∙◌, subst, arith}
use Rattle.std.specs.Prelude.{if◌then◌else◌, ◌&&◌, ◌==◌, filter, option_map, nat_le}
use Rattle.std.specs.Option.{option_or}
use Rattle.std.proofs.lemmas.List.Folds as folds
use Rattle.std.proofs.lemmas.List.{map-append}
use Rattle.std.proofs.lemmas.Bool.{leb-true, eqb-true, eq-eqb}
use Rattle.group_defs.specs.Below.{is_some_and, Statement, Slot, Claim, slot_of, same_slot, same_statement}
use Rattle.group_defs.specs.Views.{quorum}
use Rattle.group_defs.specs.Process.{Pool}
use Rattle.group_defs.specs.Certified.{claim_on, heard_on, says, backers, is_certified, certified_on, number_of_members}
use Rattle.pool_laws.proofs.Members.{Mem, filter-mem, find-is, mem-append, mem-filter, mem-find, mem-behind, snoc-mem}
use Rattle.pool_laws.proofs.Slots.{same_slot-is, is-same_slot, same_statement-is, is-same_statement}
use Rattle.pool_laws.proofs.Tests.{and-first, and-second, both-true, map-some, some-and, some-same}
use Rattle.pool_laws.proofs.Growing.{is_certified-stays, find-append, with_more}

-- ---- one content of a slot is certified

abbrev Apart : (ℕ → Bool) → (ℕ → Bool) → Type 0
Apart p q = (m : ℕ) → p m ≡ true → q m ≡ true → ⊥

few : (p q : ℕ → Bool) → Apart p q → (ms : List ℕ) → length (filter p ms) + length (filter q ms) ≤ length ms
few p q apart [] = omega arith
few p q apart (m ∷ ms) = go (p m) (q m) (apart m) (few p q apart ms)
  where
    go : (a b : Bool) → (a ≡ true → b ≡ true → ⊥) → length (filter p ms) + length (filter q ms) ≤ length ms
        → length (if a then m ∷ filter p ms else filter p ms) + length (if b then m ∷ filter q ms else filter q ms) ≤ suc (length ms)
    go true true not le = absurd (not refl refl)
    go true false not le = omega (arith, le)
    go false true not le = omega (arith, le)
    go false false not le = omega (arith, le)

module _ (h : Pool) where
  one_says : (a b : Statement) → slot_of a ≡ slot_of b → (m : ℕ) → says h a m ≡ true → says h b m ≡ true → a ≡ b
  one_says a b same m e f =
      let one = some-and (heard_on h m (slot_of a)) (same_statement a) e in
      let two = some-and (heard_on h m (slot_of b)) (same_statement b) f in
      let said : one.0 ≡ two.0 = some-same one.0 two.0 (sym one.1 ∙ ap (heard_on h m) same ∙ two.1) in
      same_statement-is a one.0 one.2 ∙ said ∙ sym (same_statement-is b two.0 two.2)

  pub one_certified : (a b : Statement) → 1 ≤ number_of_members h → slot_of a ≡ slot_of b → is_certified h a ≡ true
      → is_certified h b ≡ true → a ≡ b
  one_certified a b some same e f = go (same_statement a b) refl
    where
      go : (t : Bool) → same_statement a b ≡ t → a ≡ b
      go true is = same_statement-is a b is
      go false is =
          let apart : Apart (says h a) (says h b) = λ m e f. let both : true
          ≡ false = sym (is-same_statement a b (one_says a b same m e f)) ∙ is in cc in
          let few_enough : length (backers h a) + length (backers h b)
          ≤ number_of_members h = few (says h a) (says h b) apart h.view.members in
          let qa : quorum (number_of_members h) ≤ length (backers h a) = leb-true (quorum (number_of_members h)) (length (backers h a)) e in
          let qb : quorum (number_of_members h) ≤ length (backers h b) = leb-true (quorum (number_of_members h)) (length (backers h b)) f in
          absurd (omega (arith, some, few_enough, qa, qb))

  abbrev statements : List Statement
  statements = map (λ c. c.statement) h.heard

  abbrev on : Slot → Statement → Bool
  on s st = same_slot (slot_of st) s

  pub certified-is : (s : Slot) (st : Statement) → certified_on h s ≡ Some st
      → Mem st statements × (slot_of st ≡ s) × (is_certified h st ≡ true)
  certified-is s st e =
      let found = find-is (is_certified h) (filter (on s) statements) st e in
      let heard = filter-mem (on s) statements st found.0 in
      (heard.0, same_slot-is (slot_of st) s heard.1, found.1)

  pub is-certified : 1 ≤ number_of_members h → (s : Slot) (st : Statement) → Mem st statements → slot_of st ≡ s → is_certified h st ≡ true
      → certified_on h s ≡ Some st
  is-certified some s st there at e =
      let found = mem-find (is_certified h)
      (filter (on s) statements) st (mem-filter (on s) statements st there (is-same_slot (slot_of st) s at)) e in
      let is = certified-is s found.0 found.1 in
      found.1 ∙ ap Some (one_certified found.0 st some (is.1 ∙ sym at) is.2 e)

-- ---- one claim more, of a signer that had none on the slot

module _ (h : Pool) (c : Claim) (fresh : claim_on h.heard c.signer (slot_of c.statement) ≡ None) where
  abbrev grown : Pool
  grown = with_more h (c ∷ [])

  abbrev is_its : ℕ → Slot → Bool
  is_its p s = (c.signer == p) && same_slot (slot_of c.statement) s

  claim_on-grown : (p : ℕ) (s : Slot) → claim_on grown.heard p s ≡ option_or (claim_on h.heard p s) (if is_its p s then Some c else None)
  claim_on-grown p s = folds.find-append (λ d. (d.signer == p) && same_slot (slot_of d.statement) s) h.heard (c ∷ [])

  is-its : (p : ℕ) (s : Slot) → is_its p s ≡ true → (c.signer ≡ p) × (slot_of c.statement ≡ s)
  is-its p s e = (
    eqb-true c.signer p (and-first (c.signer == p) (same_slot (slot_of c.statement) s) e),
    same_slot-is (slot_of c.statement) s (and-second (c.signer == p) (same_slot (slot_of c.statement) s) e),
  )

  or-none : (o : Option Claim) → option_or o None ≡ o
  or-none None = refl
  or-none (Some d) = refl

  -- who has a claim on the slot has it still
  pub heard_on-stays : (p : ℕ) (s : Slot) (st : Statement) → heard_on h p s ≡ Some st → heard_on grown p s ≡ Some st
  heard_on-stays p s st e =
      let was = map-some (λ (d : Claim). d.statement) (claim_on h.heard p s) st e in
      ap (option_map (λ d. d.statement))
      (find-append (λ d. (d.signer == p) && same_slot (slot_of d.statement) s) h.heard (c ∷ []) was.0 was.1) ∙ ap Some was.2

  -- and the new one is its signer's
  pub heard_on-new : heard_on grown c.signer (slot_of c.statement) ≡ Some c.statement
  heard_on-new =
      let its : is_its c.signer (slot_of c.statement)
      ≡ true = both-true (c.signer == c.signer) (same_slot (slot_of c.statement) (slot_of c.statement)) (eq-eqb c.signer c.signer refl)
      (is-same_slot (slot_of c.statement) (slot_of c.statement) refl) in
      ap (option_map (λ d. d.statement))
      (claim_on-grown c.signer (slot_of c.statement) ∙ (λ i. option_or (fresh i) (if its i then Some c else None)))

  -- of another statement nothing changes
  other_says : (st : Statement) → (st ≡ c.statement → ⊥) → (m : ℕ) → says grown st m ≡ says h st m
  other_says st other m = go (is_its m (slot_of st)) refl
    where
      unlike : (b : Bool) → same_statement st c.statement ≡ b → same_statement st c.statement ≡ false
      unlike true e = absurd (other (same_statement-is st c.statement e))
      unlike false e = e

      go : (b : Bool) → is_its m (slot_of st) ≡ b → says grown st m ≡ says h st m
      go false e = ap (λ o. is_some_and (option_map (λ d. d.statement) o) (same_statement st))
          (claim_on-grown m (slot_of st) ∙ ap (λ b. option_or (claim_on h.heard m (slot_of st)) (if b then Some c else None)) e ∙ or-none
          (claim_on h.heard m (slot_of st)))
      go true e =
          let its = is-its m (slot_of st) e in
          let none : claim_on h.heard m (slot_of st) ≡ None = (λ i. claim_on h.heard (sym its.0 i) (sym its.1 i)) ∙ fresh in
          let now : claim_on grown.heard m (slot_of st)
          ≡ Some c = claim_on-grown m (slot_of st) ∙ (λ i. option_or (none i) (if e i then Some c else None)) in
          ap (λ o. is_some_and (option_map (λ d. d.statement) o) (same_statement st)) now ∙ unlike
          (same_statement st c.statement) refl ∙ sym (ap (λ o. is_some_and (option_map (λ d. d.statement) o) (same_statement st)) none)

  pub other_certified : (st : Statement) → (st ≡ c.statement → ⊥) → is_certified grown st ≡ is_certified h st
  other_certified st other = λ i. nat_le (quorum (number_of_members h)) (length (filter (λ m. other_says st other m i) h.view.members))

  module _ (some : 1 ≤ number_of_members h) where
    -- what is certified stays
    pub certified-stays : (s : Slot) (st : Statement) → certified_on h s ≡ Some st → certified_on grown s ≡ Some st
    certified-stays s st e =
        let is = certified-is h s st e in
        let there : Mem st (statements grown) = subst (Mem st) (sym (map-append (λ (d : Claim). d.statement) h.heard (c ∷ [])))
        (mem-append (statements h) (c.statement ∷ []) st is.0) in
        is-certified grown some s st there is.1 (is_certified-stays h (c ∷ []) st is.2)

    -- where the new claim makes none certified, none becomes so
    pub none-stays : (s : Slot) → certified_on h s ≡ None → (slot_of c.statement ≡ s → is_certified grown c.statement ≡ true → ⊥)
        → certified_on grown s ≡ None
    none-stays s e not = go (certified_on grown s) refl
      where
        unlike : (st : Statement) → certified_on grown s ≡ Some st
            → Mem st (statements grown) × (slot_of st ≡ s) × (is_certified grown st ≡ true) → Mem st (statements h) → ⊥
        unlike st is now old =
            let other : st ≡ c.statement → ⊥ = λ same. not (ap slot_of (sym same) ∙ now.1)
            (subst (λ st. is_certified grown st ≡ true) same now.2) in
            let was : certified_on h s ≡ Some st = is-certified h some s st old now.1 (sym (other_certified st other) ∙ now.2) in
            let none : Some st ≡ None = sym was ∙ e in cc

        go : (o : Option Statement) → certified_on grown s ≡ o → o ≡ None
        go None is = refl
        go (Some st) is =
            let now = certified-is grown s st is in
            let there : Mem st (statements h ++ c.statement ∷ []) = subst (Mem st)
            (map-append (λ (d : Claim). d.statement) h.heard (c ∷ [])) now.0 in
            absurd (elim (snoc-mem (statements h) c.statement st there) [
              | inl old ↦ unlike st is now old
              | inr same ↦ not (ap slot_of same ∙ now.1) (subst (λ st. is_certified grown st ≡ true) (sym same) now.2)
            ])

    -- and where it makes it so, that is certified
    pub new-certified : is_certified grown c.statement ≡ true → certified_on grown (slot_of c.statement) ≡ Some c.statement
    new-certified e =
        let there : Mem c.statement (statements grown) = subst (Mem c.statement)
        (sym (map-append (λ (d : Claim). d.statement) h.heard (c ∷ [])))
        (mem-behind (statements h) (c.statement ∷ []) c.statement (inl refl)) in
        is-certified grown some (slot_of c.statement) c.statement there refl e
