-- Conflicts among claims of one process, slot by slot.
use Rattle.std.proofs.Common.{◌≡◌, ◌≢◌, ◌⊎◌, inl, inr, List, [], ◌∷◌, ◌++◌, Bool, true, false, refl, sym, ap, ◌∙◌, subst}
use Rattle.std.specs.Prelude.{◌&&◌, ◌||◌, cond, not, filter, map}
use Rattle.std.specs.List.{list_any}
use Rattle.std.proofs.lemmas.List.Elements.{filter-append}
use Rattle.message_defs.specs.Statements.{Claim, slot_of, same_slot, same_statement}
use Rattle.group_defs.specs.Process.{Setting}
use Rattle.group_defs.specs.Hearing.{is_valid}
use Rattle.pool_laws.proofs.Members.{Mem, append-mem, filter-mem, list_any-mem, mem-filter, mem-list_any}
use Rattle.pool_laws.proofs.Slots.{is-same_slot, is-same_statement, same_slot-is, same_statement-is}
use Rattle.pool_laws.proofs.Tests.{and-first, and-second, both-true, not-false}
use Rattle.conviction_defs.specs.Convictions.{has_conflict, is_conflict, is_on_slot}
use Rattle.conviction_laws.proofs.Pairs.{conflict-test, none-passes, test-conflict}
use Rattle.conviction.specs.Slots.{valid_on}

-- ---- tests

pub same-tests : (a b : Bool) → (a ≡ true → b ≡ true) → (b ≡ true → a ≡ true) → a ≡ b
same-tests true b f g = sym (f refl)
same-tests false true f g = g refl
same-tests false false f g = refl

pub not-true : (a : Bool) → (a ≡ true → ⊥) → a ≡ false
not-true true f = absurd (f refl)
not-true false f = refl

pub true-or-false : (a : Bool) → (a ≡ true) ⊎ (a ≡ false)
true-or-false true = inl refl
true-or-false false = inr refl

-- of those that pass one test, those that pass another
pub filter-twice : {A : Type 0} (p r : A → Bool) (xs : List A) → filter p (filter r xs) ≡ filter (λ x. r x && p x) xs
filter-twice p r [] = refl
filter-twice {A} p r (x ∷ xs) = go (r x) (filter-twice p r xs)
  where
    go : (a : Bool) → filter p (filter r xs) ≡ filter (λ x. r x && p x) xs
        → filter p (cond a (x ∷ filter r xs) (filter r xs)) ≡ cond (a && p x) (x ∷ filter (λ x. r x && p x) xs) (filter (λ x. r x && p x) xs)
    go true e = ap (λ ys. cond (p x) (x ∷ ys) ys) e
    go false e = e

-- a test of what a list becomes
pub list_any-map : {A B : Type 0} (g : A → B) (test : B → Bool) (xs : List A) → list_any (λ x. test (g x)) xs ≡ list_any test (map g xs)
list_any-map g test [] = refl
list_any-map g test (x ∷ xs) = ap (λ b. test (g x) || b) (list_any-map g test xs)

-- ---- pairs

-- two of these claims are on one slot and say different things
pub record Pair (cs : List Claim) : Type 0 where
  pub one : Claim
  pub other : Claim
  pub one_in : Mem one cs
  pub other_in : Mem other cs
  pub slots : slot_of one.statement ≡ slot_of other.statement
  pub differ : one.statement ≢ other.statement

pub conflict-pair : (cs : List Claim) → has_conflict cs ≡ true → Pair cs
conflict-pair cs e =
    let c = list_any-mem (λ c. list_any (is_conflict c) cs) cs e in
    let b = list_any-mem (is_conflict c.0) cs c.2 in
    let reported = conflict-test c.0 b.0 b.2 in
    record { one = b.0; other = c.0; one_in = b.1; other_in = c.1; slots = reported.0; differ = reported.1 }

pub pair-conflict : (cs : List Claim) → Pair cs → has_conflict cs ≡ true
pair-conflict cs p =
    mem-list_any (λ c. list_any (is_conflict c) cs) cs p.other p.other_in
    (mem-list_any (is_conflict p.other) cs p.one p.one_in (test-conflict p.other p.one p.slots p.differ))

pub more-conflict : (cs ds : List Claim) → ((c : Claim) → Mem c cs → Mem c ds) → has_conflict cs ≡ true → has_conflict ds ≡ true
more-conflict cs ds more e =
    let p = conflict-pair cs e in
    pair-conflict ds (record {
      one = p.one;
      other = p.other;
      one_in = more p.one p.one_in;
      other_in = more p.other p.other_in;
      slots = p.slots;
      differ = p.differ;
    })

-- a claim on the slot that does not conflict says the same
pub says-same : (c b : Claim) → is_conflict c b ≡ false → slot_of b.statement ≡ slot_of c.statement → b.statement ≡ c.statement
says-same c b e same = go (is_on_slot c b) (is-same_slot (slot_of b.statement) (slot_of c.statement) same) e
  where
    go : (on : Bool) → on ≡ true → (on && not (same_statement b.statement c.statement)) ≡ false → b.statement ≡ c.statement
    go true t e = same_statement-is b.statement c.statement (not-false (same_statement b.statement c.statement) e)
    go false t e = absurd cc

-- ---- one slot

module _ (s : Setting) where
  -- a valid claim on the slot
  pub record On (c : Claim) (cs : List Claim) (b : Claim) : Type 0 where
    pub there : Mem b cs
    pub slot : slot_of b.statement ≡ slot_of c.statement
    pub valid : is_valid s b ≡ true

  pub on-mem : (c : Claim) (cs : List Claim) (b : Claim) → Mem b (valid_on s c cs) → On c cs b
  on-mem c cs b m =
      let found = filter-mem (λ b. is_on_slot c b && is_valid s b) cs b m in
      record {
        there = found.0;
        slot = same_slot-is (slot_of b.statement) (slot_of c.statement) (and-first (is_on_slot c b) (is_valid s b) found.1);
        valid = and-second (is_on_slot c b) (is_valid s b) found.1;
      }

  pub mem-on : (c : Claim) (cs : List Claim) (b : Claim) → On c cs b → Mem b (valid_on s c cs)
  mem-on c cs b on =
      mem-filter (λ b. is_on_slot c b && is_valid s b) cs b on.there
      (both-true (is_on_slot c b) (is_valid s b) (is-same_slot (slot_of b.statement) (slot_of c.statement) on.slot) on.valid)

  -- ---- a slot at its first claim

  -- what convicts on a slot among some claims convicts among more
  pub slot-convicts : (c : Claim) (rest own : List Claim) → ((b : Claim) → Mem b rest → Mem b own) → has_conflict (valid_on s c rest) ≡ true
      → has_conflict (filter (is_valid s) own) ≡ true
  slot-convicts c rest own more e = more-conflict (valid_on s c rest) (filter (is_valid s) own)
      (λ b m. let on = on-mem c rest b m in mem-filter (is_valid s) own b (more b on.there) on.valid) e

  -- what is on the slot of a claim that is the first of it is after it
  first-on : (c : Claim) (before rest : List Claim) → list_any (is_on_slot c) before ≡ false → (b : Claim) → Mem b (before ++ rest)
      → slot_of b.statement ≡ slot_of c.statement → Mem b rest
  first-on c before rest none b m slot = elim (append-mem before rest b m) [
    | inl early ↦ absurd (
        let no = none-passes (is_on_slot c) before none b early in
        let yes' = is-same_slot (slot_of b.statement) (slot_of c.statement) slot in
        cc)
    | inr later ↦ later
  ]

  -- nobody says two things on a slot where the first claim says what all others do
  pub one-content : (c : Claim) (before rest : List Claim) → list_any (is_on_slot c) before ≡ false → list_any (is_conflict c) rest ≡ false
      → has_conflict (valid_on s c (before ++ rest)) ≡ false
  one-content c before rest none same = not-true (has_conflict (valid_on s c (before ++ rest))) (λ e.
      let p = conflict-pair (valid_on s c (before ++ rest)) e in
      let says : (b : Claim) → Mem b (valid_on s c (before ++ rest)) → b.statement ≡ c.statement = λ b m.
      (let on = on-mem c (before ++ rest) b m in
      says-same c b (none-passes (is_conflict c) rest same b (first-on c before rest none b on.there on.slot)) on.slot) in
      p.differ (says p.one p.one_in ∙ sym (says p.other p.other_in)))

  -- nor where no two valid claims from the first one on conflict
  pub no-conflict : (c : Claim) (before rest : List Claim) → list_any (is_on_slot c) before ≡ false
      → has_conflict (valid_on s c rest) ≡ false → has_conflict (valid_on s c (before ++ rest)) ≡ false
  no-conflict c before rest none quiet = not-true (has_conflict (valid_on s c (before ++ rest))) (λ e.
      let yes' = more-conflict (valid_on s c (before ++ rest)) (valid_on s c rest) (λ b m.
      let on = on-mem c (before ++ rest) b m in
      mem-on c rest b (record { there = first-on c before rest none b on.there on.slot; slot = on.slot; valid = on.valid })) e in
      cc)

  -- the slot alone says which claims are on it
  pub same-slot : (b c : Claim) (own : List Claim) → slot_of b.statement ≡ slot_of c.statement
      → has_conflict (valid_on s b own) ≡ false → has_conflict (valid_on s c own) ≡ false
  same-slot b c own slot e = subst (λ sl. has_conflict (filter (λ d. same_slot (slot_of d.statement) sl && is_valid s d) own) ≡ false) slot e

  -- where no slot of a claim convicts, nothing does
  pub all-quiet : (own : List Claim) → ((b : Claim) → Mem b own → has_conflict (valid_on s b own) ≡ false)
      → has_conflict (filter (is_valid s) own) ≡ false
  all-quiet own quiet = not-true (has_conflict (filter (is_valid s) own)) (λ e.
      let p = conflict-pair (filter (is_valid s) own) e in
      let one = filter-mem (is_valid s) own p.one p.one_in in
      let other = filter-mem (is_valid s) own p.other p.other_in in
      let yes' = pair-conflict (valid_on s p.other own) (record {
        one = p.one;
        other = p.other;
        one_in = mem-on p.other own p.one (record { there = one.0; slot = p.slots; valid = one.1 });
        other_in = mem-on p.other own p.other (record { there = other.0; slot = refl; valid = other.1 });
        slots = p.slots;
        differ = p.differ;
      }) in
      let no' = quiet p.other other.0 in
      cc)

  -- ---- the first valid claim of a slot

  pub by-first : (on c : Claim) (before rest : List Claim) → valid_on s on before ≡ [] → Mem c rest
      → slot_of c.statement ≡ slot_of on.statement → is_valid s c ≡ true
      → list_any (λ b. is_conflict c b && is_valid s b) rest ≡ has_conflict (valid_on s on (before ++ rest))
  by-first on c before rest none there slot valid = same-tests
      (list_any (λ b. is_conflict c b && is_valid s b) rest) (has_conflict (valid_on s on (before ++ rest))) forward backward
    where
      after : valid_on s on (before ++ rest) ≡ valid_on s on rest
      after = filter-append (λ b. is_on_slot on b && is_valid s b) before rest
          ∙ ap (λ cs. cs ++ valid_on s on rest) none

      forward : list_any (λ b. is_conflict c b && is_valid s b) rest ≡ true → has_conflict (valid_on s on (before ++ rest)) ≡ true
      forward e =
          let b = list_any-mem (λ b. is_conflict c b && is_valid s b) rest e in
          let reported = conflict-test c b.0 (and-first (is_conflict c b.0) (is_valid s b.0) b.2) in
          ap has_conflict after ∙ pair-conflict (valid_on s on rest) (record {
            one = b.0;
            other = c;
            one_in = mem-on on rest b.0 (record {
              there = b.1;
              slot = reported.0 ∙ slot;
              valid = and-second (is_conflict c b.0) (is_valid s b.0) b.2;
            });
            other_in = mem-on on rest c (record { there = there; slot = slot; valid = valid });
            slots = reported.0;
            differ = reported.1;
          })

      reported-by : (b : Claim) → On on rest b → b.statement ≢ c.statement → list_any (λ b. is_conflict c b && is_valid s b) rest ≡ true
      reported-by b is differ = mem-list_any (λ b. is_conflict c b && is_valid s b) rest b is.there
          (both-true (is_conflict c b) (is_valid s b) (test-conflict c b (is.slot ∙ sym slot) differ) is.valid)

      backward : has_conflict (valid_on s on (before ++ rest)) ≡ true → list_any (λ b. is_conflict c b && is_valid s b) rest ≡ true
      backward e =
          let p = conflict-pair (valid_on s on rest) (sym (ap has_conflict after) ∙ e) in
          let one = on-mem on rest p.one p.one_in in
          let other = on-mem on rest p.other p.other_in in
          elim (true-or-false (same_statement p.one.statement c.statement)) [
            | inl same ↦ reported-by p.other other (λ is. p.differ
                (same_statement-is p.one.statement c.statement same ∙ sym is))
            | inr differ ↦ reported-by p.one one (λ is.
                absurd (let yes' = is-same_statement p.one.statement c.statement is in cc))
          ]
