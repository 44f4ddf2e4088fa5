-- What is gathered claim by claim is what the process has signed in its view.
use Rattle.std.proofs.Common.{◌≡◌, ℕ, List, [], ◌∷◌, ◌++◌, map, Bool, true, false, Option, Some, None, refl, sym, ap, ◌∙◌, arith}
use Rattle.std.specs.Prelude.{◌==◌, if◌then◌else◌, max, fold, filter, filter_map, option_to_list}
use Rattle.std.specs.List.{cons_option}
use Rattle.std.proofs.lemmas.List.{append-nil, append_assoc}
use Rattle.message_defs.specs.Updates.{Value}
use Rattle.message_defs.specs.Statements.{Batch, Statement, Claim, view_of}
use Rattle.group_defs.specs.Certified.{ordered, rank_said, readied, higher}
use Rattle.own_place.specs.Noting.{ready_after}
use Rattle.restored_place.specs.Walks.{greatest, readies, with_orders}

module _ (number : ℕ) where
  -- what of these claims is of the view
  abbrev pub said : List Claim → List Statement
  said cs = filter (λ st. view_of st == number) (map (λ (c : Claim). c.statement) cs)

  -- ---- ranks

  abbrev greater : ℕ → Statement → ℕ
  greater most st = max most (rank_said st)

  max-none : (most : ℕ) → max most 0 ≡ most
  max-none most = omega arith

  pub greatest-is : (most : ℕ) (cs : List Claim) → greatest number most cs ≡ fold greater most (said cs)
  greatest-is most [] = refl
  greatest-is most (c ∷ cs) =
      go (view_of c.statement == number) (greatest-is (max most (rank_said c.statement)) cs) (greatest-is (max most 0) cs)
    where
      go : (b : Bool) → greatest number (max most (rank_said c.statement)) cs ≡ fold greater (max most (rank_said c.statement)) (said cs)
          → greatest number (max most 0) cs ≡ fold greater (max most 0) (said cs)
          → greatest number (max most (if b then rank_said c.statement else 0)) cs
          ≡ fold greater most (if b then c.statement ∷ said cs else said cs)
      go true here rest = here
      go false here rest = rest ∙ ap (λ n. fold greater n (said cs)) (max-none most)

  -- ---- Readies

  pub readies-is : (ready : Option (ℕ × Value)) (cs : List Claim) → readies number ready cs ≡ fold higher ready (filter_map readied (said cs))
  readies-is ready [] = refl
  readies-is ready (c ∷ cs) =
      go (view_of c.statement == number) (readies-is (ready_after ready (readied c.statement)) cs) (readies-is ready cs)
    where
      one : (o : Option (ℕ × Value)) → readies number (ready_after ready o) cs ≡ fold higher (ready_after ready o) (filter_map readied (said cs))
          → readies number (ready_after ready o) cs ≡ fold higher ready (cons_option o (filter_map readied (said cs)))
      one None e = e
      one (Some r) e = e

      go : (b : Bool) → readies number (ready_after ready (readied c.statement)) cs
          ≡ fold higher (ready_after ready (readied c.statement)) (filter_map readied (said cs))
          → readies number ready cs ≡ fold higher ready (filter_map readied (said cs))
          → readies number (ready_after ready (if b then readied c.statement else None)) cs
          ≡ fold higher ready (filter_map readied (if b then c.statement ∷ said cs else said cs))
      go true here rest = one (readied c.statement) here
      go false here rest = rest

  -- ---- Orders

  pub orders-are : (bs : List Batch) (cs : List Claim) → with_orders number bs cs ≡ bs ++ filter_map ordered (said cs)
  orders-are bs [] = sym (append-nil bs)
  orders-are bs (c ∷ cs) =
      go (view_of c.statement == number) (orders-are (bs ++ option_to_list (ordered c.statement)) cs) (orders-are (bs ++ []) cs)
    where
      one : (o : Option Batch) → with_orders number (bs ++ option_to_list o) cs ≡ (bs ++ option_to_list o) ++ filter_map ordered (said cs)
          → with_orders number (bs ++ option_to_list o) cs ≡ bs ++ cons_option o (filter_map ordered (said cs))
      one None e = e ∙ append_assoc bs [] (filter_map ordered (said cs))
      one (Some b) e = e ∙ append_assoc bs (b ∷ []) (filter_map ordered (said cs))

      go : (b : Bool) → with_orders number (bs ++ option_to_list (ordered c.statement)) cs
          ≡ (bs ++ option_to_list (ordered c.statement)) ++ filter_map ordered (said cs)
          → with_orders number (bs ++ []) cs ≡ (bs ++ []) ++ filter_map ordered (said cs)
          → with_orders number (bs ++ option_to_list (if b then ordered c.statement else None)) cs
          ≡ bs ++ filter_map ordered (if b then c.statement ∷ said cs else said cs)
      go true here rest = one (ordered c.statement) here
      go false here rest = rest ∙ append_assoc bs [] (filter_map ordered (said cs))
