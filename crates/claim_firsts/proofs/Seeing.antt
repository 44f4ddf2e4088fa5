-- A table that saw some claims, and then one more.
use Rattle.std.proofs.Common.{◌≡◌, ℕ, List, [], ◌∷◌, ◌++◌, Option, Some, None, Bool, true, false, refl, sym, ap, ◌∙◌, subst}
use Rattle.std.specs.Prelude.{if◌then◌else◌, ◌==◌, ◌&&◌, cond, filter, find, option_map, is_some}
use Rattle.std.specs.List.{list_any}
use Rattle.std.specs.Option.{option_or}
use Rattle.std.proofs.lemmas.Bool.{eqb-true, eq-eqb}
use Rattle.std.proofs.lemmas.List.{append-nil}
use Rattle.std.proofs.lemmas.List.Elements.{filter-append}
use Rattle.std.proofs.lemmas.List.Folds.{find-append}
use Rattle.message_defs.specs.Statements.{Claim}
use Rattle.group_defs.specs.Process.{Setting}
use Rattle.group_defs.specs.Hearing.{is_valid}
use Rattle.conviction_defs.specs.Convictions as defs
use Rattle.conviction_defs.specs.Convictions.{is_conflict, is_on_slot, claims_by, firsts_behind, pair_behind}
use Rattle.claim_index.specs.Keys.{same_key}
use Rattle.claim_firsts.specs.Tables.{Table, key}
use Rattle.claim_firsts.specs.Seen.{Saw, is_beside, second_of}
use Rattle.claim_firsts.specs.Seeing.{contradicted, has_second, seeing, seeing_by, with_second}
use Rattle.claim_firsts.proofs.Finding.{any-found, any-not-found, first-is, firsts-more, with-one}
use Rattle.claim_firsts.proofs.Pairing.{second-in, second-then, second-more}

pub saw-nothing : (s : Setting) → Saw s [] [] (record { firsts = []; seconds = []; answered = [] })
unfolding firsts_behind pair_behind
saw-nothing s = record { firsts = refl; seconds = λ q. refl; answered = λ c. refl }

module _ (s : Setting) (claims own : List Claim) (t : Table) (saw : Saw s claims own t) (c : Claim) (valid : is_valid s c ≡ true) where
  -- beside the claim
  pub found : find (is_beside c) t.firsts ≡ find (is_on_slot c) (claims_by s claims c.signer)
  found = ap (find (is_beside c)) saw.firsts ∙ first-is s claims c

  reported : contradicted t c ≡ option_map (is_conflict c) (find (is_on_slot c) (claims_by s claims c.signer))
  reported = ap (option_map (is_conflict c)) found

  -- ---- the second claims

  by-more : (q : ℕ) (b : Bool) → (c.signer == q) ≡ b → claims_by s (claims ++ c ∷ []) q ≡ claims_by s claims q ++ (cond b (c ∷ []) [])
  by-more q b e =
      filter-append (λ (d : Claim). (d.signer == q) && is_valid s d) claims (c ∷ [])
      ∙ ap (λ v. claims_by s claims q ++ cond ((c.signer == q) && v) (c ∷ []) []) valid
      ∙ ap (λ v. claims_by s claims q ++ cond v (c ∷ []) []) (anded (c.signer == q) ∙ e)
    where
      anded : (b : Bool) → (b && true) ≡ b
      anded true = refl
      anded false = refl

  -- of another signer nothing changes
  other-found : (q : ℕ) → (c.signer == q) ≡ false → (o : Option Bool)
      → find (λ (d : Claim). d.signer == q) (seeing_by t c o).seconds ≡ find (λ (d : Claim). d.signer == q) t.seconds
  other-found q e None = refl
  other-found q e (Some false) = refl
  other-found q e (Some true) = go (has_second t c.signer)
    where
      or-none : (o : Option Claim) → option_or o None ≡ o
      or-none None = refl
      or-none (Some d) = refl

      go : (b : Bool) → find (λ (d : Claim). d.signer == q) (if b then t else with_second t c).seconds
          ≡ find (λ (d : Claim). d.signer == q) t.seconds
      go true = refl
      go false = find-append (λ (d : Claim). d.signer == q) t.seconds (c ∷ [])
          ∙ ap (λ (b : Bool). option_or (find (λ (d : Claim). d.signer == q) t.seconds) (if b then Some c else None)) e
          ∙ or-none (find (λ (d : Claim). d.signer == q) t.seconds)

  -- its own signer may have a second claim now
  own-found : (o : Option Bool) → find (λ (d : Claim). d.signer == c.signer) (seeing_by t c o).seconds
      ≡ second-then (find (λ (d : Claim). d.signer == c.signer) t.seconds) o c
  own-found None = stays (find (λ (d : Claim). d.signer == c.signer) t.seconds)
    where
      stays : (o : Option Claim) → o ≡ second-then o None c
      stays None = refl
      stays (Some d) = refl
  own-found (Some false) = stays (find (λ (d : Claim). d.signer == c.signer) t.seconds)
    where
      stays : (o : Option Claim) → o ≡ second-then o (Some false) c
      stays None = refl
      stays (Some d) = refl
  own-found (Some true) = go (find (λ (d : Claim). d.signer == c.signer) t.seconds) refl
    where
      go : (o : Option Claim) → find (λ (d : Claim). d.signer == c.signer) t.seconds ≡ o
          → find (λ (d : Claim). d.signer == c.signer) (if is_some o then t else with_second t c).seconds ≡ second-then o (Some true) c
      go (Some d) e = e
      go None e = find-append (λ (d : Claim). d.signer == c.signer) t.seconds (c ∷ [])
          ∙ ap (λ o. option_or o (if c.signer == c.signer then Some c else None)) e
          ∙ ap (λ (b : Bool). if b then Some c else None) (eq-eqb c.signer c.signer refl)

  own-second : (q : ℕ) → c.signer ≡ q → find (λ (d : Claim). d.signer == q) (seeing t c).seconds ≡ second_of s (claims ++ c ∷ []) q
  own-second q is = subst (λ (q : ℕ). find (λ (d : Claim). d.signer == q) (seeing t c).seconds ≡ second_of s (claims ++ c ∷ []) q) is
      (own-found (contradicted t c)
      ∙ ap (λ o. second-then o (contradicted t c) c) (saw.seconds c.signer)
      ∙ ap (λ o. second-then (second_of s claims c.signer) o c) reported
      ∙ sym (second-more (claims_by s claims c.signer) c)
      ∙ ap (λ cs. second-in (pair_behind [] cs)) (sym (by-more c.signer true (eq-eqb c.signer c.signer refl))))

  second-after : (q : ℕ) (b : Bool) → (c.signer == q) ≡ b
      → find (λ (d : Claim). d.signer == q) (seeing t c).seconds ≡ second_of s (claims ++ c ∷ []) q
  second-after q true e = own-second q (eqb-true c.signer q e)
  second-after q false e = other-found q e (contradicted t c) ∙ saw.seconds q
      ∙ ap (λ cs. second-in (pair_behind [] cs)) (sym (by-more q false e ∙ append-nil (claims_by s claims q)))

  -- ---- the first claims

  firsts-after : defs.firsts s (claims ++ c ∷ []) ≡ with-one (defs.firsts s claims) c
  firsts-after =
      ap (firsts_behind []) (filter-append (is_valid s) claims (c ∷ [])
      ∙ ap (λ v. filter (is_valid s) claims ++ cond v (c ∷ []) []) valid)
      ∙ firsts-more [] (filter (is_valid s) claims) c

  accused : (b : Bool) → (if b then t else with_second t c).firsts ≡ t.firsts
  accused true = refl
  accused false = refl

  same-firsts : (k : Bool) → (seeing_by t c (Some k)).firsts ≡ t.firsts
  same-firsts true = accused (has_second t c.signer)
  same-firsts false = refl

  firsts-by : (o : Option Claim) → find (is_on_slot c) (claims_by s claims c.signer) ≡ o
      → (seeing_by t c (option_map (is_conflict c) o)).firsts ≡ with-one (defs.firsts s claims) c
  firsts-by None none =
      ap (λ fs. fs ++ c ∷ []) saw.firsts
      ∙ ap (λ b. if b then defs.firsts s claims else defs.firsts s claims ++ c ∷ [])
      (sym (any-not-found (is_beside c) (defs.firsts s claims) (first-is s claims c ∙ none)))
  firsts-by (Some b) some =
      same-firsts (is_conflict c b) ∙ saw.firsts
      ∙ ap (λ b. if b then defs.firsts s claims else defs.firsts s claims ++ c ∷ [])
      (sym (any-found (is_beside c) (defs.firsts s claims) b (first-is s claims c ∙ some)))

  -- ---- the own words

  accused-answers : (b : Bool) → (if b then t else with_second t c).answered ≡ t.answered
  accused-answers true = refl
  accused-answers false = refl

  same-answers : (o : Option Bool) → (seeing_by t c o).answered ≡ t.answered
  same-answers None = refl
  same-answers (Some true) = accused-answers (has_second t c.signer)
  same-answers (Some false) = refl

  pub saw-more : Saw s (claims ++ c ∷ []) own (seeing t c)
  saw-more = record {
    firsts = ap (λ o. (seeing_by t c o).firsts) reported
        ∙ firsts-by (find (is_on_slot c) (claims_by s claims c.signer)) refl
        ∙ sym firsts-after;
    seconds = λ q. second-after q (c.signer == q) refl;
    answered = λ d. ap (list_any (same_key (key d))) (same-answers (contradicted t c)) ∙ saw.answered d;
  }

-- a claim that is not valid is nothing to the table
module _ (s : Setting) (claims own : List Claim) (t : Table) (saw : Saw s claims own t) (c : Claim) (invalid : is_valid s c ≡ false) where
  no-valid : filter (is_valid s) (claims ++ c ∷ []) ≡ filter (is_valid s) claims
  no-valid =
      filter-append (is_valid s) claims (c ∷ [])
      ∙ ap (λ v. filter (is_valid s) claims ++ cond v (c ∷ []) []) invalid
      ∙ append-nil (filter (is_valid s) claims)

  no-claim-by : (q : ℕ) → claims_by s (claims ++ c ∷ []) q ≡ claims_by s claims q
  no-claim-by q =
      filter-append (λ (d : Claim). (d.signer == q) && is_valid s d) claims (c ∷ [])
      ∙ ap (λ v. claims_by s claims q ++ cond ((c.signer == q) && v) (c ∷ []) []) invalid
      ∙ ap (λ v. claims_by s claims q ++ cond v (c ∷ []) []) (anded (c.signer == q))
      ∙ append-nil (claims_by s claims q)
    where
      anded : (b : Bool) → (b && false) ≡ false
      anded true = refl
      anded false = refl

  pub saw-passed : Saw s (claims ++ c ∷ []) own t
  saw-passed = record {
    firsts = saw.firsts ∙ ap (firsts_behind []) (sym no-valid);
    seconds = λ q. saw.seconds q ∙ ap (λ cs. second-in (pair_behind [] cs)) (sym (no-claim-by q));
    answered = saw.answered;
  }
