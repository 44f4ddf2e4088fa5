-- Who is convicted, and by which two.
use Rattle.std.proofs.Common.{◌≡◌, ◌≢◌, ◌⊎◌, inl, inr, ℕ, List, [], ◌∷◌, ◌++◌, map, Option, Some, None, Bool, true, false, refl, sym, ap, ◌∙◌, subst}
use Rattle.std.specs.Prelude.{◌==◌, ◌&&◌, cond, filter, find, option_map, filter_map, All, Contains}
use Rattle.std.specs.List.{list_any, cons_option}
use Rattle.std.proofs.lemmas.Bool.{eqb-true, eq-eqb}
use Rattle.byte_defs.specs.Choices.{is_some_and}
use Rattle.message_defs.specs.Statements.{Claim, slot_of}
use Rattle.message_defs.specs.Spelling.{body}
use Rattle.group_defs.specs.Process.{Setting, keyed, key_of}
use Rattle.group_defs.specs.Hearing.{is_valid}
use Rattle.pool_laws.proofs.Members.{Contains-mem, Mem, append-mem, filter-mem, filter_map-mem, find-is, list_any-mem, map-mem, mem-list_any, mem-All, mem-Contains, mem-append, mem-behind, mem-filter, mem-filter_map, mem-map}
use Rattle.pool_laws.proofs.Tests.{and-first, and-second, both-true, map-some, some-and}
use Rattle.conviction_defs.specs.Convictions.{Conviction, Convicts, is_conflict, is_convicted, pair_behind, claims_by, conviction_of, convictions, convicted}
use Rattle.conviction_defs.specs.Laws.{ConvictionIsTested, ConvictedIsConvicts, EachHasConviction, IsFirstPair, PairIsFirst, ConvictionsStand}
use Rattle.conviction_laws.proofs.Pairs.{IsFirst, NoneConflict, conflict-test, test-conflict, pair-none, pair-some}

module _ (s : Setting) where
  -- who has a valid claim has a key
  pub has-key : (c : Claim) → is_valid s c ≡ true → Mem c.signer (keyed s)
  has-key c e =
      let key = some-and (key_of s c.signer) (λ key. s.valid key (body s.group c.signer c.statement) c.signature) e in
      let entry = map-some (λ (k : ℕ × List ℕ). k.1) (find (λ (k : ℕ × List ℕ). k.0 == c.signer) s.roster) key.0 key.1 in
      let there = find-is (λ (k : ℕ × List ℕ). k.0 == c.signer) s.roster entry.0 entry.1 in
      subst (λ p. Mem p (keyed s)) (eqb-true entry.0.0 c.signer there.1) (mem-map (λ (k : ℕ × List ℕ). k.0) s.roster entry.0 there.0)

  by-test : ℕ → Claim → Bool
  by-test q c = (c.signer == q) && is_valid s c

  pub of-signer : (claims : List Claim) (q : ℕ) (c : Claim) → Mem c (claims_by s claims q)
      → Mem c claims × (c.signer ≡ q) × (is_valid s c ≡ true)
  of-signer claims q c m =
      let found = filter-mem (λ c. (c.signer == q) && is_valid s c) claims c m in
      (found.0, eqb-true c.signer q (and-first (c.signer == q) (is_valid s c) found.1), and-second (c.signer == q) (is_valid s c) found.1)

  pub signer-of : (claims : List Claim) (q : ℕ) (c : Claim) → Mem c claims → c.signer ≡ q → is_valid s c ≡ true
      → Mem c (claims_by s claims q)
  signer-of claims q c m is valid = mem-filter (λ c. (c.signer == q) && is_valid s c) claims c m
      (both-true (c.signer == q) (is_valid s c) (eq-eqb c.signer q is) valid)

  -- a conviction, and the pair behind it
  pub convicted-pair : (claims : List Claim) (c : Conviction) → Mem c (convictions s claims)
      → IsFirst (claims_by s claims c.process) (c.first, c.second)
  convicted-pair claims c m =
      let from = filter_map-mem (conviction_of s claims) (keyed s) c m in
      let pair = map-some (λ (p : Claim × Claim). record { process = from.0; first = p.0; second = p.1 })
      (pair_behind [] (claims_by s claims from.0)) c from.2 in
      subst (λ (d : Conviction). IsFirst (claims_by s claims d.process) (d.first, d.second)) pair.2
      (pair-some [] (claims_by s claims from.0) pair.0 (λ d e m. absurd m) pair.1)

  -- ---- the test

  pub convicts-by : (claims : List Claim) (q : ℕ) → is_convicted s claims q ≡ true → Convicts s claims q
  convicts-by claims q e =
      let own : List Claim = claims_by s claims q in
      let c = list_any-mem (λ c. list_any (is_conflict c) own) own e in
      let b = list_any-mem (is_conflict c.0) own c.2 in
      let reported = conflict-test c.0 b.0 b.2 in
      let one = of-signer claims q b.0 b.1 in
      let other = of-signer claims q c.0 c.1 in
      record {
        one = b.0;
        other = c.0;
        one_of = mem-Contains claims b.0 one.0;
        other_of = mem-Contains claims c.0 other.0;
        signer = one.1;
        one_valid = one.2;
        other_valid = other.2;
        conflict = (one.1 ∙ sym other.1, reported.0, reported.1);
      }

  pub by-convicts : (claims : List Claim) (q : ℕ) → Convicts s claims q → is_convicted s claims q ≡ true
  by-convicts claims q c =
      let own : List Claim = claims_by s claims q in
      mem-list_any (λ d. list_any (is_conflict d) own) own c.other
      (signer-of claims q c.other (Contains-mem claims c.other c.other_of) (sym c.conflict.0 ∙ c.signer) c.other_valid)
      (mem-list_any (is_conflict c.other) own c.one
      (signer-of claims q c.one (Contains-mem claims c.one c.one_of) c.signer c.one_valid)
      (test-conflict c.other c.one c.conflict.1 c.conflict.2))

  -- the pair that is told convicts, and where none is told none does
  pair-convicts : (claims : List Claim) (q : ℕ) (pair : Claim × Claim) → pair_behind [] (claims_by s claims q) ≡ Some pair
      → is_convicted s claims q ≡ true
  pair-convicts claims q pair e =
      let own : List Claim = claims_by s claims q in
      let first = pair-some [] own pair (λ d e m. absurd m) e in
      let one_in : Mem pair.0 own = subst (Mem pair.0) (sym first.parts)
      (mem-behind first.front (pair.0 ∷ (first.between ++ pair.1 ∷ first.back)) pair.0 (inl refl)) in
      let two_in : Mem pair.1 own = subst (Mem pair.1) (sym first.parts)
      (mem-behind first.front (pair.0 ∷ (first.between ++ pair.1 ∷ first.back)) pair.1
      (inr (mem-behind first.between (pair.1 ∷ first.back) pair.1 (inl refl)))) in
      mem-list_any (λ d. list_any (is_conflict d) own) own pair.1 two_in
      (mem-list_any (is_conflict pair.1) own pair.0 one_in (test-conflict pair.1 pair.0 first.slots first.differ))

  none-convicts : (claims : List Claim) (q : ℕ) → pair_behind [] (claims_by s claims q) ≡ None → is_convicted s claims q ≡ true → ⊥
  none-convicts claims q e is =
      let own : List Claim = claims_by s claims q in
      let c = list_any-mem (λ c. list_any (is_conflict c) own) own is in
      let b = list_any-mem (is_conflict c.0) own c.2 in
      let reported = conflict-test c.0 b.0 b.2 in
      reported.1 (pair-none [] own (λ d f m. absurd m) e b.0 c.0 b.1 c.1 reported.0)

  -- one conviction of each
  each-one : (claims : List Claim) (ks : List ℕ)
      → map (λ (c : Conviction). c.process) (filter_map (conviction_of s claims) ks) ≡ filter (is_convicted s claims) ks
  each-one claims [] = refl
  each-one claims (k ∷ ks) = go (pair_behind [] (claims_by s claims k)) refl (is_convicted s claims k) refl (each-one claims ks)
    where
      reported : Option (Claim × Claim) → Option Conviction
      reported = option_map (λ pair. record { process = k; first = pair.0; second = pair.1 })

      go : (o : Option (Claim × Claim)) → pair_behind [] (claims_by s claims k) ≡ o → (b : Bool) → is_convicted s claims k ≡ b
          → map (λ (c : Conviction). c.process) (filter_map (conviction_of s claims) ks) ≡ filter (is_convicted s claims) ks
          → map (λ (c : Conviction). c.process) (cons_option (reported o) (filter_map (conviction_of s claims) ks))
          ≡ cond b (k ∷ filter (is_convicted s claims) ks) (filter (is_convicted s claims) ks)
      go (Some pair) e true t rest = ap (λ qs. k ∷ qs) rest
      go (Some pair) e false t rest = absurd (let is = pair-convicts claims k pair e in cc)
      go None e false t rest = rest
      go None e true t rest = absurd (none-convicts claims k e t)

pub conviction_is_tested : ConvictionIsTested
conviction_is_tested s claims q = (convicts-by s claims q, by-convicts s claims q)

pub convicted_is_convicts : ConvictedIsConvicts
convicted_is_convicts s claims q = (
  λ there. convicts-by s claims q (filter-mem (is_convicted s claims) (keyed s) q (Contains-mem (convicted s claims) q there)).1,
  λ c. mem-Contains (convicted s claims) q (mem-filter (is_convicted s claims) (keyed s) q
      (subst (λ p. Mem p (keyed s)) c.signer (has-key s c.one c.one_valid)) (by-convicts s claims q c)),
)

pub each_has_conviction : EachHasConviction
each_has_conviction s claims = each-one s claims (keyed s)

pub pair_is_first : PairIsFirst
pair_is_first s claims = mem-All (IsFirstPair s claims) (convictions s claims) (λ c m.
    let pair = convicted-pair s claims c m in
    let all : List Claim = claims_by s claims c.process in
    let one_in : Mem c.first all = subst (Mem c.first) (sym pair.parts)
    (mem-behind pair.front (c.first ∷ (pair.between ++ c.second ∷ pair.back)) c.first (inl refl)) in
    let two_in : Mem c.second all = subst (Mem c.second) (sym pair.parts)
    (mem-behind pair.front (c.first ∷ (pair.between ++ c.second ∷ pair.back)) c.second
    (inr (mem-behind pair.between (c.second ∷ pair.back) c.second (inl refl)))) in
    record {
      before = pair.front;
      between = pair.between;
      behind = pair.back;
      parts = pair.parts;
      conflict = ((of-signer s claims c.process c.first one_in).1 ∙ sym (of-signer s claims c.process c.second two_in).1, pair.slots, pair.differ);
      earliest = mem-All (λ (d : Claim). slot_of d.statement ≢ slot_of c.second.statement) pair.front pair.earliest;
      none_earlier = λ d e m n bad. bad.2 (pair.none d e (Contains-mem _ d m) (Contains-mem _ e n) bad.1);
    })

pub convictions_stand : ConvictionsStand
convictions_stand s claims more q within c = record {
  one = c.one;
  other = c.other;
  one_of = within c.one c.one_of;
  other_of = within c.other c.other_of;
  signer = c.signer;
  one_valid = c.one_valid;
  other_valid = c.other_valid;
  conflict = c.conflict;
}

-- the same, of what is among them
pub convicts-more : (s : Setting) (claims more : List Claim) (q : ℕ) → ((c : Claim) → Mem c claims → Mem c more)
    → Convicts s claims q → Convicts s more q
convicts-more s claims more q within =
    convictions_stand s claims more q (λ c there. mem-Contains more c (within c (Contains-mem claims c there)))
