-- Payloads that are carried out, one after the other.
use Rattle.std.proofs.Common.{◌≡◌, ℕ, ◌+◌, ◌<◌, List, [], ◌∷◌, ◌++◌, length, get_or, drop, Vec, Global, sym, ap, ◌∙◌, append_assoc}
use Rattle.std.proofs.lemmas.List.{at_drop_more}
use Rattle.store_defs.specs.Stores.{Store, answer_to, applied, store_after}
use Rattle.interop_store.specs.Telling.{answer_words, bytes_next, payloads_in}

-- the first of those that are left
pub first-left : (ps : List (Vec ℕ Global)) (i : ℕ) (p : Vec ℕ Global) (payload : List ℕ) → i < length ps → p ≡ get_or ps i p → payload ≡ p.items
    → payloads_in (drop i ps) ≡ payload ∷ payloads_in (drop (i + 1) ps)
first-left ps i p payload lt is value =
    at_drop_more payloads_in ps i p lt
    ∙ ap (λ (l : List ℕ). l ∷ payloads_in (drop (i + 1) ps)) (ap (λ (v : Vec ℕ Global). v.items) (sym is) ∙ sym value)

-- one payload more is carried out
module _ (s t : Store) (payload : List ℕ) (left rest : List (List ℕ)) (first : left ≡ payload ∷ rest) (comes : t ≡ (applied s payload).1) where
  pub stored-more : store_after t rest ≡ store_after s left
  unfolding store_after
  stored-more = ap (λ (u : Store). store_after u rest) comes ∙ sym (ap (store_after s) first)

  pub reported-more : (out more : List ℕ) → more ≡ out ++ bytes_next (answer_to s payload) → more ++ answer_words t rest ≡ out ++ answer_words s left
  reported-more out more reported =
      (λ i. reported i ++ answer_words (comes i) rest)
      ∙ append_assoc out (bytes_next (answer_to s payload)) (answer_words (applied s payload).1 rest)
      ∙ ap (λ (l : List (List ℕ)). out ++ answer_words s l) (sym first)

pub stored-none : (s : Store) (left : List (List ℕ)) → left ≡ [] → store_after s left ≡ s
unfolding store_after
stored-none s left none = ap (store_after s) none
