-- A claim more, and what was there at the mark is there.
use Rattle.std.proofs.Common.{◌≡◌, ℕ, ◌≤◌, List, [], ◌∷◌, ◌++◌, length, take, sym, subst, arith, length-append}
use Rattle.std.proofs.lemmas.List.{take-append-le}
use Rattle.claim_index.specs.declared.key.Key.{Key}
use Rattle.claim_index.specs.declared.index.Kept.{Kept}
use Rattle.claim_index.specs.Kept.{heard_in, AreKept}
use Rattle.claim_lists.specs.declared.list.Filled.{Filled}
use Rattle.claim_lists.specs.Lists.{AreMarkedKept}

module _ (bytes more : List ℕ) (es : List (Key × Kept)) (e : Key × Kept) (m : Filled) (was : AreMarkedKept bytes es m) where
  same-bytes : take m.bytes (bytes ++ more) ≡ take m.bytes bytes
  same-bytes = take-append-le m.bytes bytes more was.few_bytes

  same-entries : take m.claims (es ++ e ∷ []) ≡ take m.claims es
  same-entries = take-append-le m.claims es (e ∷ []) was.few

  pub marked-push : AreKept (bytes ++ more) (es ++ e ∷ []) → AreMarkedKept (bytes ++ more) (es ++ e ∷ []) m
  marked-push here = record {
    here = here;
    there = subst (λ (b : List ℕ). AreKept b (take m.claims (es ++ e ∷ []))) (sym same-bytes)
        (subst (λ (xs : List (Key × Kept)). AreKept (take m.bytes bytes) xs) (sym same-entries) was.there);
    few_bytes = omega (arith, was.few_bytes, length-append bytes more);
    few = omega (arith, was.few, length-append es (e ∷ []));
  }

  pub marked-same : heard_in (take m.bytes (bytes ++ more)) (take m.claims (es ++ e ∷ [])) ≡ heard_in (take m.bytes bytes)
      (take m.claims es)
  marked-same = λ i. heard_in (same-bytes i) (same-entries i)
