-- The keys that are gathered are those of the slots that the process has signed in its view.
use Rattle.std.proofs.Common.{◌≡◌, ◌⊎◌, inl, inr, ℕ, List, [], ◌∷◌, ◌++◌, Bool, true, false, Option, Some, None, refl, sym, ap, ◌∙◌, subst}
use Rattle.std.specs.Prelude.{◌==◌, ◌&&◌, not, if◌then◌else◌, is_some, option_map}
use Rattle.std.specs.List.{list_any}
use Rattle.std.proofs.lemmas.Bool.{eqb-true, eq-eqb}
use Rattle.message_defs.specs.Statements.{Statement, Init, Echo, Order, Place, Keep, Notify, End, Last, Suggest, Ack, Ready, Claim, Slot, slot_of, slot_numbers, view_of, same_slot}
use Rattle.group_defs.specs.Certified.{claim_on}
use Rattle.claim_index.specs.declared.key.SlotKey.{SlotKey}
use Rattle.claim_index.proofs.Keyed.{same_slot_key-is, is-same_slot_key, one_slot}
use Rattle.own_place.specs.Words.{slot_key, same_slot_key}
use Rattle.pool_laws.proofs.Members.{Mem, mem-list_any, list_any-mem, mem-append, mem-behind, snoc-mem, find-is, mem-find}
use Rattle.pool_laws.proofs.Slots.{same_slot-is, is-same_slot}
use Rattle.pool_laws.proofs.Tests.{and-second, both-true}
use Rattle.restored_place.specs.Walks.{with_slot, with_slots}

abbrev key : Claim → SlotKey
key c = slot_key (slot_of c.statement)

-- the slot's second number is its view's
unfoldable second : List ℕ → ℕ
second [] = 0
second (k ∷ []) = 0
second (k ∷ x ∷ more) = x

slot-view : (st : Statement) → second (slot_numbers (slot_of st)) ≡ view_of st
unfolding second
slot-view (Init x l payload) = refl
slot-view (Echo x m payload) = refl
slot-view (Order x k b) = refl
slot-view (Place x k b) = refl
slot-view (Keep x k b) = refl
slot-view (Notify x u) = refl
slot-view (End x k) = refl
slot-view (Last x r ready) = refl
slot-view (Suggest x r v) = refl
slot-view (Ack x r v) = refl
slot-view (Ready x r v) = refl

same-view : (a b : Statement) → slot_of a ≡ slot_of b → view_of a ≡ view_of b
same-view a b e = sym (slot-view a) ∙ ap (λ sl. second (slot_numbers sl)) e ∙ slot-view b

same-truth : (a b : Bool) → (a ≡ true → b ≡ true) → (b ≡ true → a ≡ true) → a ≡ b
same-truth true b there back = sym (there refl)
same-truth false true there back = back refl
same-truth false false there back = refl

module _ (number : ℕ) where
  abbrev put : Bool → Bool → List SlotKey → SlotKey → List SlotKey
  put here among keys k = if here && not among then keys ++ k ∷ [] else keys

  -- one more leaves those that are there
  stays : (keys : List SlotKey) (st : Statement) (k : SlotKey) → Mem k keys → Mem k (with_slot number keys st)
  stays keys st k m = go (view_of st == number) (list_any (same_slot_key (slot_key (slot_of st))) keys)
    where
      go : (here among : Bool) → Mem k (put here among keys (slot_key (slot_of st)))
      go true true = m
      go true false = mem-append keys (slot_key (slot_of st) ∷ []) k m
      go false among = m

  -- and has the statement's, where that is of the view
  comes : (keys : List SlotKey) (st : Statement) → view_of st ≡ number → Mem (slot_key (slot_of st)) (with_slot number keys st)
  comes keys st at = go (view_of st == number) (list_any (same_slot_key (slot_key (slot_of st))) keys) (eq-eqb (view_of st) number at) refl
    where
      k : SlotKey
      k = slot_key (slot_of st)

      go : (here among : Bool) → here ≡ true → list_any (same_slot_key k) keys ≡ among → Mem k (put here among keys k)
      go true true is found =
          let there = list_any-mem (same_slot_key k) keys found in
          subst (λ (x : SlotKey). Mem x keys) (sym (same_slot_key-is k there.0 there.2)) there.1
      go true false is found = mem-behind keys (k ∷ []) k (inl refl)
      go false among is found = absurd cc

  -- and nothing else
  came : (keys : List SlotKey) (st : Statement) (k : SlotKey) → Mem k (with_slot number keys st)
      → Mem k keys ⊎ ((view_of st ≡ number) × (slot_key (slot_of st) ≡ k))
  came keys st k m = go (view_of st == number) (list_any (same_slot_key (slot_key (slot_of st))) keys) refl m
    where
      go : (here among : Bool) → (view_of st == number) ≡ here → Mem k (put here among keys (slot_key (slot_of st)))
          → Mem k keys ⊎ ((view_of st ≡ number) × (slot_key (slot_of st) ≡ k))
      go true true is m = inl m
      go true false is m = elim (snoc-mem keys (slot_key (slot_of st)) k m) [
        | inl before ↦ inl before
        | inr last ↦ inr (eqb-true (view_of st) number is, last)
      ]
      go false among is m = inl m

  all-stay : (keys : List SlotKey) (cs : List Claim) (k : SlotKey) → Mem k keys → Mem k (with_slots number keys cs)
  all-stay keys [] k m = m
  all-stay keys (c ∷ cs) k m = all-stay (with_slot number keys c.statement) cs k (stays keys c.statement k m)

  all-come : (keys : List SlotKey) (cs : List Claim) (c : Claim) → Mem c cs → view_of c.statement ≡ number → Mem (key c) (with_slots number keys cs)
  all-come keys [] c m at = absurd m
  all-come keys (d ∷ cs) c (inl is) at =
      all-stay (with_slot number keys d.statement) cs (key c)
      (subst (λ (x : Claim). Mem (key x) (with_slot number keys d.statement)) is
      (comes keys d.statement (ap (λ (x : Claim). view_of x.statement) is ∙ at)))
  all-come keys (d ∷ cs) c (inr m) at = all-come (with_slot number keys d.statement) cs c m at

  abbrev From : List Claim → SlotKey → Type 0
  From cs k = (c : Claim) × Mem c cs × (view_of c.statement ≡ number) × (key c ≡ k)

  all-came : (keys : List SlotKey) (cs : List Claim) (k : SlotKey) → Mem k (with_slots number keys cs) → Mem k keys ⊎ From cs k
  all-came keys [] k m = inl m
  all-came keys (c ∷ cs) k m = elim (all-came (with_slot number keys c.statement) cs k m) [
    | inl before ↦ first before
    | inr (d, there, at, is) ↦ inr (d, inr there, at, is)
  ]
    where
      first : Mem k (with_slot number keys c.statement) → Mem k keys ⊎ From (c ∷ cs) k
      first before = elim (came keys c.statement k before) [
        | inl there ↦ inl there
        | inr (at, is) ↦ inr (c, inl refl, at, is)
      ]

  -- of the claims of one signer
  module _ (me : ℕ) (cs : List Claim) (own : (c : Claim) → Mem c cs → c.signer ≡ me) (st : Statement) (here : view_of st ≡ number) where
    abbrev slot : Slot
    slot = slot_of st

    abbrev on : Claim → Bool
    on c = (c.signer == me) && same_slot (slot_of c.statement) slot

    there : is_some (option_map (λ (c : Claim). c.statement) (claim_on cs me slot)) ≡ true
        → list_any (same_slot_key (slot_key slot)) (with_slots number [] cs) ≡ true
    there ok = go (claim_on cs me slot) refl ok
      where
        go : (o : Option Claim) → claim_on cs me slot ≡ o → is_some (option_map (λ (c : Claim). c.statement) o) ≡ true
            → list_any (same_slot_key (slot_key slot)) (with_slots number [] cs) ≡ true
        go None e ok = absurd cc
        go (Some c) e ok =
            let found = find-is on cs c e in
            let same : slot_of c.statement ≡ slot = same_slot-is (slot_of c.statement) slot (and-second (c.signer == me) (same_slot (slot_of c.statement) slot) found.1) in
            mem-list_any (same_slot_key (slot_key slot)) (with_slots number [] cs) (key c)
            (all-come [] cs c found.0 (same-view c.statement st same ∙ here)) (is-same_slot_key (slot_key slot) (key c) (ap slot_key (sym same)))

    back : list_any (same_slot_key (slot_key slot)) (with_slots number [] cs) ≡ true
        → is_some (option_map (λ (c : Claim). c.statement) (claim_on cs me slot)) ≡ true
    back ok =
        let k = list_any-mem (same_slot_key (slot_key slot)) (with_slots number [] cs) ok in
        elim (all-came [] cs k.0 k.1) [
          | inl no_way ↦ absurd no_way
          | inr (c, m, at, is) ↦ some c m (one_slot slot (slot_of c.statement) (same_slot_key-is (slot_key slot) k.0 k.2 ∙ sym is))
        ]
      where
        some : (c : Claim) → Mem c cs → slot ≡ slot_of c.statement
            → is_some (option_map (λ (c : Claim). c.statement) (claim_on cs me slot)) ≡ true
        some c m same =
            let found = mem-find on cs c m (both-true (c.signer == me) (same_slot (slot_of c.statement) slot) (eq-eqb c.signer me (own c m))
            (is-same_slot (slot_of c.statement) slot (sym same))) in
            ap (λ (o : Option Claim). is_some (option_map (λ (c : Claim). c.statement) o)) found.1

    pub slots-are : is_some (option_map (λ (c : Claim). c.statement) (claim_on cs me slot))
        ≡ list_any (same_slot_key (slot_key slot)) (with_slots number [] cs)
    slots-are = same-truth (is_some (option_map (λ (c : Claim). c.statement) (claim_on cs me slot)))
        (list_any (same_slot_key (slot_key slot)) (with_slots number [] cs)) there back
