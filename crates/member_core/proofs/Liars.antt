-- What is told of the signers of pairs, one pair after the other.
use Rattle.std.proofs.Common.{◌≡◌, ℕ, zero, suc, ◌+◌, ◌≤◌, List, [], ◌∷◌, ◌++◌, map, length, Some, None, refl, sym, ap, ◌∙◌, append_assoc, add-one, slice_get}
use Rattle.std.specs.Option.{option_map}
use Rattle.std.proofs.lemmas.List.{append-nil}
use Rattle.pool_laws.proofs.Tests.{some-same}
use Rattle.message_defs.specs.Statements.{Claim}
use Rattle.group_defs.specs.Events.{Note, Liar}
use Rattle.member_sending.proofs.Walks.{drop-past}
use Rattle.member_core.specs.Outcomes.{liars_from}

-- the pair at this place comes first
next-liar : (pairs : List (Claim × Claim)) (k : ℕ) (c : Claim) → Some c ≡ option_map (λ (pair : Claim × Claim). pair.1) (slice_get pairs k)
    → liars_from k pairs ≡ Liar c.signer ∷ liars_from (suc k) pairs
next-liar [] k c e = absurd cc
next-liar (pair ∷ pairs) zero c e = ap (λ (d : Claim). Liar d.signer ∷ liars_from 0 pairs) (sym (some-same c pair.1 e))
next-liar (pair ∷ pairs) (suc k) c e = next-liar pairs k c e

-- where no pair stands at the place
no-liar : (pairs : List (Claim × Claim)) (k : ℕ) → None ≡ option_map (λ (pair : Claim × Claim). pair.1) (slice_get pairs k)
    → liars_from k pairs ≡ liars_from (suc k) pairs
no-liar [] zero e = refl
no-liar [] (suc k) e = refl
no-liar (pair ∷ pairs) zero e = absurd cc
no-liar (pair ∷ pairs) (suc k) e = no-liar pairs k e

-- one pair more is told
pub liar-reported : (pairs : List (Claim × Claim)) (k : ℕ) (c : Claim) (was now whole : List Note)
    → Some c ≡ option_map (λ (pair : Claim × Claim). pair.1) (slice_get pairs k) → now ≡ was ++ Liar c.signer ∷ []
    → was ++ liars_from k pairs ≡ whole → now ++ liars_from (k + 1) pairs ≡ whole
liar-reported pairs k c was now whole at more way =
    ap (λ ns. ns ++ liars_from (k + 1) pairs) more ∙ append_assoc was (Liar c.signer ∷ []) (liars_from (k + 1) pairs)
    ∙ ap (λ ns. was ++ ns) (ap (λ (n : ℕ). Liar c.signer ∷ liars_from n pairs) (add-one k) ∙ sym (next-liar pairs k c at)) ∙ way

pub none-reported : (pairs : List (Claim × Claim)) (k : ℕ) (was whole : List Note)
    → None ≡ option_map (λ (pair : Claim × Claim). pair.1) (slice_get pairs k) → was ++ liars_from k pairs ≡ whole
    → was ++ liars_from (k + 1) pairs ≡ whole
none-reported pairs k was whole none way = ap (λ ns. was ++ ns)
    (ap (λ (n : ℕ). liars_from n pairs) (add-one k) ∙ sym (no-liar pairs k none)) ∙ way

-- behind the last pair all are told
pub all-reported : (pairs : List (Claim × Claim)) (k : ℕ) (was whole : List Note) → length pairs ≤ k → was ++ liars_from k pairs ≡ whole
    → was ≡ whole
all-reported pairs k was whole past way =
    sym (append-nil was) ∙ ap (λ (ps : List (Claim × Claim)). was ++ map (λ (pair : Claim × Claim). Liar pair.1.signer) ps)
    (sym (drop-past pairs k past)) ∙ way
