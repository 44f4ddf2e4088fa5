-- Convictions reported one after another.
use Rattle.std.proofs.Common.{◌≡◌, ℕ, List, [], ◌∷◌, ◌++◌, map, Option, Some, None, sym, ap, ◌∙◌}
use Rattle.std.specs.Prelude.{filter_map}
use Rattle.std.specs.List.{cons_option}
use Rattle.std.proofs.lemmas.List.{append-nil, append_assoc, map-append}
use Rattle.conviction_defs.specs.Convictions as plain
use Rattle.claim_firsts.specs.declared.conviction.Conviction.{Conviction}
use Rattle.claim_firsts.specs.Reported.{conviction}

module _ (f : ℕ → Option plain.Conviction) (all : List Conviction) (left rest : List ℕ) (q : ℕ) (whole : List plain.Conviction)
    (so : map conviction all ++ filter_map f left ≡ whole) (next : left ≡ q ∷ rest) where
  -- where the process has this conviction, or none
  by-next : (o : Option plain.Conviction) → o ≡ f q → map conviction all ++ cons_option o (filter_map f rest) ≡ whole
  by-next o e = ap (λ o. map conviction all ++ cons_option o (filter_map f rest)) e
      ∙ ap (λ ps. map conviction all ++ filter_map f ps) (sym next) ∙ so

  pub next-reported : (c : Conviction) → Some (conviction c) ≡ f q → map conviction (all ++ c ∷ []) ++ filter_map f rest ≡ whole
  next-reported c e = ap (λ cs. cs ++ filter_map f rest) (map-append conviction all (c ∷ []))
      ∙ append_assoc (map conviction all) (conviction c ∷ []) (filter_map f rest)
      ∙ by-next (Some (conviction c)) e

  pub next-none : None ≡ f q → map conviction all ++ filter_map f rest ≡ whole
  next-none e = by-next None e

pub none-left : (f : ℕ → Option plain.Conviction) (all : List Conviction) (left : List ℕ) (whole : List plain.Conviction)
    → map conviction all ++ filter_map f left ≡ whole → left ≡ [] → map conviction all ≡ whole
none-left f all left whole so none = sym (append-nil (map conviction all))
    ∙ ap (λ ps. map conviction all ++ filter_map f ps) (sym none) ∙ so
