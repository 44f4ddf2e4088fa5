-- The claims of a process, as they are kept one after another.
use Rattle.std.proofs.Common.{◌≡◌, ℕ, ◌<◌, ◌≤◌, List, [], ◌∷◌, ◌++◌, length, Bool, true, false, sym, ap, ◌∙◌, arith, append_assoc}
use Rattle.std.specs.Prelude.{◌==◌, cond}
use Rattle.std.proofs.lemmas.List.{length-append, length-map, map-append}
use Rattle.message_defs.specs.Statements.{Claim}
use Rattle.conviction.specs.declared.own.Own.{Own}
use Rattle.conviction.specs.Own.{all_kept, claims_of_signer, kept}

module _ (owns : List Own) (c : Claim) (left rest all : List Claim) (q : ℕ)
    (so : all_kept owns ++ claims_of_signer left q ≡ claims_of_signer all q) (next : left ≡ c ∷ rest) where
  begins : (b : Bool) → (c.signer == q) ≡ b
      → all_kept owns ++ cond b (c ∷ claims_of_signer rest q) (claims_of_signer rest q) ≡ claims_of_signer all q
  begins b is =
      ap (λ t. all_kept owns ++ cond t (c ∷ claims_of_signer rest q) (claims_of_signer rest q)) (sym is)
      ∙ ap (λ cs. all_kept owns ++ claims_of_signer cs q) (sym next)
      ∙ so

  -- there is room for one that is still to come
  pub room : (c.signer == q) ≡ true → length (claims_of_signer all q) ≤ 255 → length owns < 255
  room is few =
      let long = ap length (begins true is) in
      let sum = length-append (all_kept owns) (c ∷ claims_of_signer rest q) in
      let same = length-map owns kept in
      omega (arith, long, sum, same, few)

  pub next-other : (c.signer == q) ≡ false → all_kept owns ++ claims_of_signer rest q ≡ claims_of_signer all q
  next-other is = begins false is

pub next-own : (owns : List Own) (own : Own) (left rest all : List Claim) (q : ℕ)
    → all_kept owns ++ claims_of_signer left q ≡ claims_of_signer all q → left ≡ kept own ∷ rest → ((kept own).signer == q) ≡ true
    → all_kept (owns ++ own ∷ []) ++ claims_of_signer rest q ≡ claims_of_signer all q
next-own owns own left rest all q so next is =
    ap (λ cs. cs ++ claims_of_signer rest q) (map-append kept owns (own ∷ []))
    ∙ append_assoc (all_kept owns) (kept own ∷ []) (claims_of_signer rest q)
    ∙ begins owns (kept own) left rest all q so next true is
