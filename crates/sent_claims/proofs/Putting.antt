-- An entry put among others that rise: their claims rise still.
use Rattle.std.proofs.Common.{◌≡◌, ℕ, suc, zero, ◌+◌, ◌≤◌, List, [], ◌∷◌, length, drop, Some, None, slice_get, Bool, true, false, refl, sym, ap, ◌∙◌, subst, arith, insert}
use Rattle.std.specs.Prelude.{if◌then◌else◌, filter}
use Rattle.std.specs.List.{AllByRecursion, cons_option}
use Rattle.byte_defs.specs.Orders.{numbers_below, put, sorted}
use Rattle.message_defs.specs.Statements.{Claim}
use Rattle.group_defs.specs.Sending.{claim_numbers, is_beside}
use Rattle.sent_claims.specs.declared.beside.Entry.{Entry}
use Rattle.sent_claims.specs.Beside.{chosen}
use Rattle.sent_claims.specs.Entries.{places_of, first_above, IsEntry, StandFrom}
use Rattle.sent_claims.proofs.Walks.{drop-get, drop-past}

all-insert : {A : Type 0} (P : A → Type 0) (xs : List A) (i : ℕ) (x : A) → AllByRecursion P xs → P x → AllByRecursion P (insert xs i x)
all-insert P [] zero x all p = (p, tt)
all-insert P [] (suc i) x all p = (p, tt)
all-insert P (y ∷ ys) zero x all p = (p, all)
all-insert P (y ∷ ys) (suc i) x all p = (all.0, all-insert P ys i x all.1 p)

-- behind those that are not above it
chosen-insert : (heard : List Claim) (e : Entry) (c : Claim) (es : List Entry) → slice_get heard e.place ≡ Some c
    → e.numbers.items ≡ claim_numbers c → AllByRecursion (IsEntry heard) es
    → chosen heard (places_of (insert es (first_above e.numbers.items es) e)) ≡ put claim_numbers c (chosen heard (places_of es))
chosen-insert heard e c [] at is all = ap (λ o. cons_option o []) at
chosen-insert heard e c (x ∷ xs) at is all = go (numbers_below e.numbers.items x.numbers.items) refl
    (chosen-insert heard e c xs at is all.1)
  where
    rest : List Claim
    rest = chosen heard (places_of xs)

    first : chosen heard (places_of (x ∷ xs)) ≡ all.0.claim ∷ rest
    first = ap (λ o. cons_option o (chosen heard (places_of xs))) all.0.at

    below : numbers_below e.numbers.items x.numbers.items ≡ numbers_below (claim_numbers c) (claim_numbers all.0.claim)
    below = λ i. numbers_below (is i) (all.0.numbers i)

    there : (b : Bool) → numbers_below e.numbers.items x.numbers.items ≡ b
        → (if b then c ∷ all.0.claim ∷ rest else all.0.claim ∷ put claim_numbers c rest)
        ≡ put claim_numbers c (chosen heard (places_of (x ∷ xs)))
    there b t = ap (λ (b : Bool). if b then c ∷ all.0.claim ∷ rest else all.0.claim ∷ put claim_numbers c rest)
        (sym t ∙ below) ∙ sym (ap (put claim_numbers c) first)

    go : (b : Bool) → numbers_below e.numbers.items x.numbers.items ≡ b
        → chosen heard (places_of (insert xs (first_above e.numbers.items xs) e)) ≡ put claim_numbers c (chosen heard (places_of xs))
        → chosen heard (places_of (insert (x ∷ xs) (if b then 0 else suc (first_above e.numbers.items xs)) e))
        ≡ put claim_numbers c (chosen heard (places_of (x ∷ xs)))
    go true t more = ap (λ o. cons_option o (chosen heard (places_of (x ∷ xs)))) at ∙ ap (λ cs. c ∷ cs) first ∙ there true t
    go false t more = ap (λ o. cons_option o (chosen heard (places_of (insert xs (first_above e.numbers.items xs) e)))) all.0.at ∙ ap
        (λ cs. all.0.claim ∷ cs) more ∙ there false t

past-end : (cs : List Claim) (k : ℕ) → slice_get cs k ≡ None → length cs ≤ k
past-end [] k e = omega arith
past-end (c ∷ cs) zero e = absurd cc
past-end (c ∷ cs) (suc k) e = let rest = past-end cs k e in omega (arith, rest)

module _ (cut : ℕ) (heard : List Claim) (k : ℕ) (es : List Entry) (stand : StandFrom cut heard (k + 1) es) where
  abbrev taken : Claim → Bool
  taken c = is_beside cut c.statement

  from : (c : Claim) (b : Bool) → slice_get heard k ≡ Some c → taken c ≡ b
      → sorted claim_numbers (if b then c ∷ filter taken (drop (k + 1) heard) else filter taken (drop (k + 1) heard))
      ≡ sorted claim_numbers (filter taken (drop k heard))
  from c b at t = ap (λ (b : Bool). sorted claim_numbers
      (if b then c ∷ filter taken (drop (k + 1) heard) else filter taken (drop (k + 1) heard)))
      (sym t) ∙ ap (λ cs. sorted claim_numbers (filter taken cs)) (sym (drop-get heard k c at))

  -- the heard claim there is taken along
  pub stand-put : (c : Claim) (e : Entry) (es' : List Entry) → slice_get heard k ≡ Some c → taken c ≡ true → e.place ≡ k
      → e.numbers.items ≡ claim_numbers c → es' ≡ insert es (first_above e.numbers.items es) e → StandFrom cut heard k es'
  stand-put c e es' at t place is put' = subst (StandFrom cut heard k) (sym put') (record {
    each = all-insert (IsEntry heard) es (first_above e.numbers.items es) e stand.each
        (record { claim = c; at = ap (slice_get heard) place ∙ at; numbers = is });
    in_order = chosen-insert heard e c es (ap (slice_get heard) place ∙ at) is stand.each ∙ ap
        (put claim_numbers c) stand.in_order ∙ from c true at t;
  })

  -- it isn't
  pub stand-skip : (c : Claim) → slice_get heard k ≡ Some c → taken c ≡ false → StandFrom cut heard k es
  stand-skip c at t = record { each = stand.each; in_order = stand.in_order ∙ from c false at t }

  -- there is none
  pub stand-none : slice_get heard k ≡ None → StandFrom cut heard k es
  stand-none none =
      let end = past-end heard k none in
      record {
        each = stand.each;
        in_order = stand.in_order ∙ ap (λ cs. sorted claim_numbers (filter taken cs))
            (drop-past heard (k + 1) (omega (arith, end)) ∙ sym (drop-past heard k end));
      }
