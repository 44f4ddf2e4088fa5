-- Skipping one item after the other, as a loop does.
use Rattle.std.proofs.Common.{◌≡◌, ℕ, suc, ◌+◌, ◌-◌, ◌≤◌, ◌<◌, List, ◌∷◌, Result, Ok, Err, refl, sym, ◌∙◌, arith}
use Rattle.message_defs.specs.declared.FrameFault.{FrameFault}
use Rattle.byte_defs.specs.Fields.{◌>>=◌}
use Rattle.message_defs.specs.Frames.{Group, signature_at, signatures_at, group_at, groups_at}
use Rattle.byte_defs.specs.Reads.{rest_of}

-- the value that is read first does not change what is left
first_dropped : {A : Type 0} (x : A) (read : Result (List A × List ℕ) FrameFault)
    → rest_of (read >>= λ others. Ok (x ∷ others.0, others.1)) ≡ rest_of read
first_dropped x (Ok others) = refl
first_dropped x (Err e) = refl

pub signature_done : (count i least : ℕ) (bytes : List ℕ) (s : ℕ × List ℕ) (after : List ℕ) (total : Result (List ℕ) FrameFault) → i < count
    → signature_at least bytes ≡ Ok (s, after)
    → rest_of (signatures_at (count - i) least bytes) ≡ total → rest_of (signatures_at (count - (i + 1)) (s.0 + 1) after) ≡ total
unfolding signatures_at
signature_done count i least bytes s after total lt h so_far =
    let k : count - i ≡ suc (count - (i + 1)) = omega arith in
    let one : rest_of (signatures_at (count - i) least bytes)
    ≡ rest_of (signatures_at (count - (i + 1)) (s.0 + 1) after) = rw (k, h)
    (first_dropped s (signatures_at (count - (i + 1)) (s.0 + 1) after)) in
    sym one ∙ so_far

pub signature_fails : (e : FrameFault) (count i least : ℕ) (bytes : List ℕ) (total : Result (List ℕ) FrameFault) → i < count
    → signature_at least bytes ≡ Err e
    → rest_of (signatures_at (count - i) least bytes) ≡ total → total ≡ Err e
unfolding signatures_at
signature_fails e count i least bytes total lt h so_far =
    let k : count - i ≡ suc (count - (i + 1)) = omega arith in
    let one : rest_of (signatures_at (count - i) least bytes) ≡ Err e = rw (k, h) refl in
    sym so_far ∙ one

pub signatures_end : (count i least : ℕ) (bytes : List ℕ) (total : Result (List ℕ) FrameFault) → count ≤ i
    → rest_of (signatures_at (count - i) least bytes) ≡ total → total ≡ Ok bytes
unfolding signatures_at
signatures_end count i least bytes total le so_far =
    let k : count - i ≡ 0 = omega arith in
    let one : rest_of (signatures_at (count - i) least bytes) ≡ Ok bytes = rw k refl in
    sym so_far ∙ one

pub group_done : (count i : ℕ) (bytes : List ℕ) (g : Group) (after : List ℕ) (total : Result (List ℕ) FrameFault) → i < count
    → group_at bytes ≡ Ok (g, after)
    → rest_of (groups_at (count - i) bytes) ≡ total → rest_of (groups_at (count - (i + 1)) after) ≡ total
unfolding groups_at
group_done count i bytes g after total lt h so_far =
    let k : count - i ≡ suc (count - (i + 1)) = omega arith in
    let one : rest_of (groups_at (count - i) bytes)
    ≡ rest_of (groups_at (count - (i + 1)) after) = rw (k, h) (first_dropped g (groups_at (count - (i + 1)) after)) in
    sym one ∙ so_far

pub group_fails : (e : FrameFault) (count i : ℕ) (bytes : List ℕ) (total : Result (List ℕ) FrameFault) → i < count → group_at bytes ≡ Err e
    → rest_of (groups_at (count - i) bytes) ≡ total → total ≡ Err e
unfolding groups_at
group_fails e count i bytes total lt h so_far =
    let k : count - i ≡ suc (count - (i + 1)) = omega arith in
    let one : rest_of (groups_at (count - i) bytes) ≡ Err e = rw (k, h) refl in
    sym so_far ∙ one

pub groups_end : (count i : ℕ) (bytes : List ℕ) (total : Result (List ℕ) FrameFault) → count ≤ i
    → rest_of (groups_at (count - i) bytes) ≡ total → total ≡ Ok bytes
unfolding groups_at
groups_end count i bytes total le so_far =
    let k : count - i ≡ 0 = omega arith in
    let one : rest_of (groups_at (count - i) bytes) ≡ Ok bytes = rw k refl in
    sym so_far ∙ one
