-- The updates that more than f members notify, with one claim more.
use native.Mathlib.Decide.{ℕ_discrete}
use Rattle.std.proofs.Common.{◌≡◌, ℕ, Bool, true, false, [], ◌∷◌, length, Option, Some, None, refl, sym, ap, ◌∙◌, subst, arith}
use Rattle.std.specs.Prelude.{if◌then◌else◌, ◌&&◌, ◌==◌, filter, nat_lt, option_map, ◌≢◌}
use Rattle.std.specs.Option.{option_or}
use Rattle.std.proofs.lemmas.Bool.{ltb-true, lt-ltb, eqb-true}
use Rattle.std.proofs.lemmas.List.Folds as folds
use Rattle.byte_defs.specs.Choices.{is_some_and}
use Rattle.message_defs.specs.Updates.{Update, Update-discrete}
use Rattle.message_defs.specs.Statements.{Statement, Notify, Slot, Claim, slot_of, same_slot, same_statement}
use Rattle.group_defs.specs.Views.{faulty}
use Rattle.group_defs.specs.Process.{Pool}
use Rattle.group_defs.specs.Certified.{claim_on, heard_on, says, backers, is_notified, update_said, number_of_members}
use Rattle.pool_laws.proofs.Counting.{length-filter-le}
use Rattle.pool_laws.proofs.Grown.{heard_on-stays}
use Rattle.pool_laws.proofs.Slots.{same_slot-is, same_statement-is, is-same_statement}
use Rattle.pool_laws.proofs.Tests.{and-first, and-second, some-and, some-same}
use Rattle.slot_quorums.specs.Claims.{with_heard}
use Rattle.pool_values.specs.declared.updates.UpdateSet.{UpdateSet}
use Rattle.pool_values.specs.Updates.{has_update, AreNotified, notified_said}

module _ (h : Pool) (c : Claim) (fresh : claim_on h.heard c.signer (slot_of c.statement) ≡ None) where
  abbrev is_its : ℕ → Slot → Bool
  is_its p s = (c.signer == p) && same_slot (slot_of c.statement) s

  pub on-grown : (p : ℕ) (s : Slot)
      → claim_on (with_heard h c).heard p s ≡ option_or (claim_on h.heard p s) (if is_its p s then Some c else None)
  on-grown p s = folds.find-append (λ (d : Claim). (d.signer == p) && same_slot (slot_of d.statement) s) h.heard (c ∷ [])

  abbrev answer : Statement → Option Claim → Bool
  answer st o = is_some_and (option_map (λ (d : Claim). d.statement) o) (same_statement st)

  -- of another statement nothing changes
  other-says : (st : Statement) → (st ≡ c.statement → ⊥) → (m : ℕ) → says (with_heard h c) st m ≡ says h st m
  other-says st other m = go (is_its m (slot_of st)) refl
    where
      or-none : (o : Option Claim) → option_or o None ≡ o
      or-none None = refl
      or-none (Some d) = refl

      unlike : (b : Bool) → same_statement st c.statement ≡ b → same_statement st c.statement ≡ false
      unlike true e = absurd (other (same_statement-is st c.statement e))
      unlike false e = e

      go : (b : Bool) → is_its m (slot_of st) ≡ b → says (with_heard h c) st m ≡ says h st m
      go false e = ap (answer st) (on-grown m (slot_of st) ∙ ap
          (λ b. option_or (claim_on h.heard m (slot_of st)) (if b then Some c else None)) e ∙ or-none (claim_on h.heard m (slot_of st)))
      go true e =
          let signer : c.signer ≡ m = eqb-true c.signer m (and-first (c.signer == m) (same_slot (slot_of c.statement) (slot_of st)) e) in
          let slot : slot_of c.statement
          ≡ slot_of st = same_slot-is (slot_of c.statement) (slot_of st)
          (and-second (c.signer == m) (same_slot (slot_of c.statement) (slot_of st)) e) in
          let none : claim_on h.heard m (slot_of st) ≡ None = (λ i. claim_on h.heard (sym signer i) (sym slot i)) ∙ fresh in
          let now : claim_on (with_heard h c).heard m (slot_of st)
          ≡ Some c = on-grown m (slot_of st) ∙ (λ i. option_or (none i) (if e i then Some c else None)) in
          ap (answer st) now ∙ unlike (same_statement st c.statement) refl ∙ sym (ap (answer st) none)

  says-stays : (st : Statement) (m : ℕ) → says h st m ≡ true → says (with_heard h c) st m ≡ true
  says-stays st m e =
      let said = some-and (heard_on h m (slot_of st)) (same_statement st) e in
      ap (λ o. is_some_and o (same_statement st)) (heard_on-stays h c fresh m (slot_of st) said.0 said.1) ∙ said.2

  abbrev notify : Update → Statement
  notify u = Notify h.view.number u

  other-notified : (u : Update) → (notify u ≡ c.statement → ⊥) → is_notified (with_heard h c) u ≡ is_notified h u
  other-notified u other = λ i. nat_lt (faulty (number_of_members h))
      (length (filter (λ m. other-says (notify u) other m i) h.view.members))

  notified-stays : (u : Update) → is_notified h u ≡ true → is_notified (with_heard h c) u ≡ true
  notified-stays u e =
      let enough = ltb-true (faulty (number_of_members h)) (length (backers h (notify u))) e in
      let grown = length-filter-le (says h (notify u)) (says (with_heard h c) (notify u)) h.view.members (says-stays (notify u)) in
      lt-ltb (faulty (number_of_members h)) (length (backers (with_heard h c) (notify u))) (omega (arith, enough, grown))

  -- where the claim's update isn't notified, or it has none, no update becomes so
  pub as-before : (s : UpdateSet) → AreNotified h s → ((u : Update) → notify u ≡ c.statement → is_notified (with_heard h c) u ≡ false)
      → AreNotified (with_heard h c) s
  as-before s are not u = go (same_statement (notify u) c.statement) refl
    where
      was : (b : Bool) → is_notified h u ≡ b → is_notified (with_heard h c) u ≡ false → b ≡ false
      was true e f = let now = notified-stays u e in absurd cc
      was false e f = refl

      go : (b : Bool) → same_statement (notify u) c.statement ≡ b → has_update s u ≡ is_notified (with_heard h c) u
      go true e = let now = not u (same_statement-is (notify u) c.statement e) in are u ∙ was (is_notified h u) refl now ∙ sym now
      go false e = are u ∙ sym (other-notified u
          (λ is. let both : true ≡ false = sym (is-same_statement (notify u) c.statement is) ∙ e in cc))

  -- where it is, that update is one of them
  pub one-more : (s s' : UpdateSet) → AreNotified h s → (x : ℕ) (v : Update) → c.statement ≡ Notify x v
      → is_notified (with_heard h c) v ≡ true → has_update s' v ≡ true → ((u : Update) → u ≢ v → has_update s' u ≡ has_update s u)
      → AreNotified (with_heard h c) s'
  one-more s s' are x v said now there others u = go (Update-discrete ℕ_discrete u v)
    where
      go : Dec (u ≡ v) → has_update s' u ≡ is_notified (with_heard h c) u
      go (yes e) = subst (λ w. has_update s' w ≡ is_notified (with_heard h c) w) (sym e) (there ∙ sym now)
      go (no other) = others u other ∙ are u ∙ sym (other-notified u (λ is. other (let both : notify u ≡ Notify x v = is ∙ said in cc)))

  -- ---- by what the claim's statement tells

  abbrev g : Pool
  g = with_heard h c

  not-reported : (o : Option Update) → update_said c.statement ≡ o → (if is_some_and o (is_notified g) then o else None) ≡ None → (u : Update)
      → notify u ≡ c.statement → is_notified g u ≡ false
  not-reported None said none u e = let both : Some u ≡ None = ap update_said e ∙ said in absurd cc
  not-reported (Some v) said none u e =
      let same : v ≡ u = some-same v u (sym said ∙ sym (ap update_said e)) in
      subst (λ w. is_notified g w ≡ false) same (go (is_notified g v) none)
    where
      go : (b : Bool) → (if b then Some v else None) ≡ None → b ≡ false
      go true e = absurd cc
      go false e = refl

  -- none more is notified
  pub none-more : (s : UpdateSet) → AreNotified h s → notified_said g c.statement ≡ None → AreNotified g s
  none-more s are none = as-before s are (not-reported (update_said c.statement) refl none)

  which : (o : Option Update) (v : Update) → (if is_some_and o (is_notified g) then o else None) ≡ Some v
      → (o ≡ Some v) × (is_notified g v ≡ true)
  which None v e = absurd cc
  which (Some u) v e = go (is_notified g u) refl e
    where
      go : (b : Bool) → is_notified g u ≡ b → (if b then Some u else None) ≡ Some v → (Some u ≡ Some v) × (is_notified g v ≡ true)
      go true is e = (e, subst (λ w. is_notified g w ≡ true) (some-same u v e) is)
      go false is e = absurd cc

  said-is : (st : Statement) (v : Update) → update_said st ≡ Some v → (x : ℕ) × (st ≡ Notify x v)
  said-is (Notify x u) v e = (x, ap (Notify x) (some-same u v e))
  said-is st v e = absurd cc

  -- this one is
  pub this-more : (s s' : UpdateSet) → AreNotified h s → (v : Update) → notified_said g c.statement ≡ Some v → has_update s' v ≡ true
      → ((u : Update) → u ≢ v → has_update s' u ≡ has_update s u) → AreNotified g s'
  this-more s s' are v is there others =
      let one = which (update_said c.statement) v is in
      let said = said-is c.statement v one.0 in
      one-more s s' are said.0 v said.1 one.1 there others
