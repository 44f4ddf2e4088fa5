-- The conflicts of an image rise by signer, so they have a spelling where their claims have.
use Rattle.std.proofs.Common.{◌≡◌, ℕ, suc, ◌+◌, ◌<◌, ◌≤◌, List, [], ◌∷◌, length, map, true, refl, subst, inl, inr, arith}
use Rattle.std.proofs.lemmas.List.{length-map}
use Rattle.message_defs.specs.Limits.{last_process}
use Rattle.message_defs.specs.Statements.{Claim}
use Rattle.pool_laws.proofs.Members.{Mem, map-mem}
use Rattle.pool_laws.proofs.Places.{all-pairs}
use Rattle.pool_laws.proofs.Tests.{both-true}
use Rattle.group_defs.specs.Process.{start}
use Rattle.group_defs.specs.Events.{run}
use Rattle.image_defs.specs.Images.{Image, image_of, conflict_key}
use Rattle.image_laws.proofs.BySigner.{Others, signer-of, is-below, signers-up}
use Rattle.image_laws.proofs.Rising.{Up}
use Rattle.image_laws.proofs.Turning.{runs_pair_once}
use Rattle.snapshot_defs.specs.declared.Version.{Version}
use Rattle.snapshot_defs.specs.Reading.{rises}
use Rattle.snapshot_defs.specs.Ranges.{EachFrom, IsConflict, IsImage}
use Rattle.resume_laws.specs.Spelled.{without_conflicts, ImagesAreSpelled}

-- rising numbers from k on, all below n, are no more than there are
up-few : (xs : List ℕ) (k n : ℕ) → Up xs → k ≤ n → ((x : ℕ) → Mem x xs → k ≤ x) → ((x : ℕ) → Mem x xs → x < n) → length xs + k ≤ n
up-few [] k n up le from below = omega (arith, le)
up-few (x ∷ xs) k n up le from below =
    let first : k ≤ x = from x (inl refl) in
    let last : x < n = below x (inl refl) in
    let rest : length xs + suc x ≤ n = up-few xs (suc x) n up.1 (omega (arith, last)) (λ y m. (let lt = up.0 y m in omega (arith, lt)))
    (λ y m. below y (inr m)) in
    omega (arith, first, rest)

up-rises : (es : List (Claim × Claim)) → Up (map signer-of es) → rises conflict_key es ≡ true
up-rises [] up = refl
up-rises (e ∷ []) up = refl
up-rises (e ∷ d ∷ ds) up = both-true _ _ (is-below e d (up.0 (signer-of d) (inl refl))) (up-rises (d ∷ ds) up.1)

each-claim : (k : ℕ) (es : List (Claim × Claim)) → EachFrom (λ k e. IsConflict e) k es → (e : Claim × Claim) → Mem e es → IsConflict e
each-claim k [] each e m = absurd m
each-claim k (d ∷ ds) each e (inl is) = subst IsConflict is each.0
each-claim k (d ∷ ds) each e (inr m) = each-claim (k + 1) ds each.1 e m

spelled-by : (i : Image) (v : Version) → Up (map signer-of i.conflicts) → IsImage v (without_conflicts i)
    → EachFrom (λ k e. IsConflict e) 0 i.conflicts → IsImage v i
spelled-by i v up is each = record {
  me = is.me;
  views = is.views;
  left = is.left;
  perceived = is.perceived;
  perceived_rise = is.perceived_rise;
  accepted = is.accepted;
  signed = is.signed;
  previous = is.previous;
  heard = is.heard;
  few = few;
  conflicts = each;
  conflicts_rise = up-rises i.conflicts up;
  lists = is.lists;
  delivered = is.delivered;
  decision = is.decision;
}
  where
    within : (x : ℕ) → Mem x (map signer-of i.conflicts) → x < last_process + 1
    within x m =
        let there = map-mem signer-of i.conflicts x m in
        let le : there.0.0.signer ≤ last_process = (each-claim 0 i.conflicts each there.0 there.1).0.0 in
        subst (λ y. y < last_process + 1) there.2 (omega (arith, le))

    few : length i.conflicts ≤ last_process + 1
    few =
        let all : length (map signer-of i.conflicts) + 0 ≤ last_process + 1
        = up-few (map signer-of i.conflicts) 0 (last_process + 1) up (omega arith) (λ x m. omega arith) within in
        let same : length (map signer-of i.conflicts) ≡ length i.conflicts = length-map i.conflicts signer-of in
        omega (arith, all, same)

pub images_are_spelled : ImagesAreSpelled
images_are_spelled v s me limit turns is each =
    spelled-by (image_of (run s (start s me limit) turns)) v
    (signers-up (run s (start s me limit) turns).conflicts
    (all-pairs Others (run s (start s me limit) turns).conflicts (runs_pair_once s me limit turns).one_each)) is each
