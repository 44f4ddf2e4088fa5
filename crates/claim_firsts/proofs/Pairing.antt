-- The pair of a conviction, with one claim more.
use Rattle.std.proofs.Common.{◌≡◌, List, [], ◌∷◌, ◌++◌, Option, Some, None, Bool, true, false, refl, sym, ap, ◌∙◌}
use Rattle.std.specs.Prelude.{if◌then◌else◌, not, find, option_map}
use Rattle.std.specs.List.{list_any}
use Rattle.std.proofs.lemmas.List.{append-nil, append_assoc}
use Rattle.message_defs.specs.Statements.{Claim, slot_of, same_statement}
use Rattle.pool_laws.proofs.Members.{find-is, list_any-mem, mem-list_any}
use Rattle.pool_laws.proofs.Slots.{same_slot-is}
use Rattle.pool_laws.proofs.Tests.{and-first}
use Rattle.conviction_defs.specs.Convictions.{is_on_slot, is_conflict, earliest_with, pair_behind}
use Rattle.conviction_laws.proofs.Pairs.{NoneConflict, conflict-test, test-conflict, pair-none}
use Rattle.claim_firsts.proofs.Finding.{none-found}

-- where some claim conflicts, there is an earliest one of the slot
pub conflict-on-slot : (c : Claim) (own : List Claim) → find (is_on_slot c) own ≡ None → list_any (is_conflict c) own ≡ true → ⊥
conflict-on-slot c own none any =
    let bad = list_any-mem (is_conflict c) own any in
    none-found (is_on_slot c) own bad.0 none bad.1
    (and-first (is_on_slot c bad.0) (not (same_statement bad.0.statement c.statement)) bad.2)

-- the pair, where a claim comes after these that have this one or none
abbrev pub pair-then : Option (Claim × Claim) → List Claim → Claim → Option (Claim × Claim)
pair-then (Some pair) own c = Some pair
pair-then None own c = if list_any (is_conflict c) own then earliest_with own c else None

pub pair-more : (before cs : List Claim) (c : Claim) → pair_behind before (cs ++ c ∷ []) ≡ pair-then (pair_behind before cs) (before ++ cs) c
unfolding pair_behind
pair-more before [] c = ap (λ own. if list_any (is_conflict c) own then earliest_with own c else None) (sym (append-nil before))
pair-more before (x ∷ cs) c = go (list_any (is_conflict x) before) refl (pair-more (before ++ x ∷ []) cs c)
  where
    found : (o : Option Claim) → find (is_on_slot x) before ≡ o → list_any (is_conflict x) before ≡ true
        → option_map {U = Claim × Claim} (λ b. (b, x)) o ≡ pair-then (option_map (λ b. (b, x)) o) (before ++ x ∷ cs) c
    found (Some b) f any = refl
    found None f any = absurd (conflict-on-slot x before f any)

    go : (b : Bool) → list_any (is_conflict x) before ≡ b
        → pair_behind (before ++ x ∷ []) (cs ++ c ∷ []) ≡ pair-then (pair_behind (before ++ x ∷ []) cs) (before ++ x ∷ [] ++ cs) c
        → (if b then earliest_with before x else pair_behind (before ++ x ∷ []) (cs ++ c ∷ []))
        ≡ pair-then (if b then earliest_with before x else pair_behind (before ++ x ∷ []) cs) (before ++ x ∷ cs) c
    go true any rest = found (find (is_on_slot x) before) refl any
    go false any rest = rest ∙ ap (λ own. pair-then (pair_behind (before ++ x ∷ []) cs) own c) (append_assoc before (x ∷ []) cs)

-- the second claim of the pair
abbrev pub second-in : Option (Claim × Claim) → Option Claim
second-in = option_map (λ pair. pair.1)

-- what becomes of it, where a claim comes that conflicts with the first one on its slot, or does not
abbrev pub second-then : Option Claim → Option Bool → Claim → Option Claim
second-then (Some d) conflict c = Some d
second-then None (Some true) c = Some c
second-then None (Some false) c = None
second-then None None c = None

module _ (own : List Claim) (c : Claim) (none : NoneConflict own) where
  -- where the earliest claim of the slot says the same, all that are on it do
  quiet : (b : Claim) → find (is_on_slot c) own ≡ Some b → is_conflict c b ≡ false → list_any (is_conflict c) own ≡ true → ⊥
  quiet b f same any =
      let at = find-is (is_on_slot c) own b f in
      let bad = list_any-mem (is_conflict c) own any in
      let reported = conflict-test c bad.0 bad.2 in
      let on = same_slot-is (slot_of b.statement) (slot_of c.statement) at.1 in
      let one : bad.0.statement ≡ b.statement = none bad.0 b bad.1 at.0 (reported.0 ∙ sym on) in
      let hit : is_conflict c b ≡ true = test-conflict c b on (λ is. reported.1 (one ∙ is)) in
      cc

  first-second : (o : Option Claim) → find (is_on_slot c) own ≡ o → (k : Bool) → list_any (is_conflict c) own ≡ k
      → second-in (if k then option_map (λ b. (b, c)) o else None) ≡ second-then None (option_map (is_conflict c) o) c
  first-second None f true any = absurd (conflict-on-slot c own f any)
  first-second None f false any = refl
  first-second (Some b) f k any = go k any (is_conflict c b) refl
    where
      go : (k : Bool) → list_any (is_conflict c) own ≡ k → (t : Bool) → is_conflict c b ≡ t
          → second-in (if k then Some (b, c) else None) ≡ second-then None (Some t) c
      go true any true e = refl
      go true any false e = absurd (quiet b f e any)
      go false any true e = absurd
          (let at = find-is (is_on_slot c) own b f in let some = mem-list_any (is_conflict c) own b at.0 e in cc)
      go false any false e = refl

pub second-more : (own : List Claim) (c : Claim) → second-in (pair_behind [] (own ++ c ∷ []))
    ≡ second-then (second-in (pair_behind [] own)) (option_map (is_conflict c) (find (is_on_slot c) own)) c
second-more own c = ap second-in (pair-more [] own c) ∙ go (pair_behind [] own) refl
  where
    go : (o : Option (Claim × Claim)) → pair_behind [] own ≡ o
        → second-in (pair-then o own c) ≡ second-then (second-in o) (option_map (is_conflict c) (find (is_on_slot c) own)) c
    go (Some pair) e = refl
    go None e = first-second own c (pair-none [] own (λ d f m. absurd m) e) (find (is_on_slot c) own) refl (list_any (is_conflict c) own) refl
