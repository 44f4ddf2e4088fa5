-- The sum of all frames' bytes, and the first frame that passes the limit.
use Rattle.std.proofs.Common.{◌≡◌, ℕ, ◌+◌, ◌<◌, ◌≤◌, nat_lt, true, false, cond, List, [], ◌∷◌, ◌++◌, length, Some, None, refl, ap, ◌∙◌, arith}
use Rattle.std.specs.Prelude.{sum_by}
use Rattle.std.proofs.lemmas.Bool.{le-ltb, lt-ltb}
use Rattle.std.proofs.lemmas.List.Sums.{sum_by-append}
use Rattle.replay_defs.specs.Worlds.{Sent, most_sent, sum_above}

-- how many bytes they have
abbrev pub bytes_of : List Sent → ℕ
bytes_of fs = sum_by (λ f. length f.bytes) fs

bytes_first : (f : Sent) (fs : List Sent) → bytes_of (f ∷ fs) ≡ length f.bytes + bytes_of fs
bytes_first f fs =
    let parts : bytes_of (f ∷ fs) ≡ (0 + length f.bytes) + bytes_of fs = sum_by-append (λ (g : Sent). length g.bytes) (f ∷ []) fs in
    parts ∙ omega arith

-- a frame more
pub bytes_more : (fs : List Sent) (f : Sent) → bytes_of (fs ++ f ∷ []) ≡ bytes_of fs + length f.bytes
bytes_more fs f =
    let parts : bytes_of (fs ++ f ∷ []) ≡ bytes_of fs + (0 + length f.bytes) = sum_by-append (λ (g : Sent). length g.bytes) fs (f ∷ []) in
    parts ∙ omega arith

-- a sum within the limit never passes it
pub sum_within : (before : ℕ) (fs : List Sent) → before + bytes_of fs ≤ most_sent → sum_above before fs ≡ None
sum_within before [] h = refl
sum_within before (f ∷ fs) h =
    let first = bytes_first f fs in
    let low : nat_lt most_sent (before + length f.bytes) ≡ false = le-ltb most_sent (before + length f.bytes) (omega arith) in
    let rest : sum_above (before + length f.bytes) fs ≡ None = sum_within (before + length f.bytes) fs (omega arith) in
    ap (λ b. cond b (Some (before + length f.bytes)) (sum_above (before + length f.bytes) fs)) low ∙ rest

-- the frame after these passes it, whatever comes behind
pub sum_passes : (before : ℕ) (fs : List Sent) (f : Sent) (more : List Sent) → before + bytes_of fs ≤ most_sent
    → most_sent < before + bytes_of fs + length f.bytes
    → sum_above before (fs ++ f ∷ more) ≡ Some (before + bytes_of fs + length f.bytes)
sum_passes before [] f more h over =
    let high : nat_lt most_sent (before + length f.bytes) ≡ true = lt-ltb most_sent (before + length f.bytes) (omega arith) in
    let same : before + length f.bytes ≡ before + bytes_of [] + length f.bytes = omega arith in
    ap (λ b. cond b (Some (before + length f.bytes)) (sum_above (before + length f.bytes) more)) high ∙ ap Some same
sum_passes before (g ∷ fs) f more h over =
    let first = bytes_first g fs in
    let low : nat_lt most_sent (before + length g.bytes) ≡ false = le-ltb most_sent (before + length g.bytes) (omega arith) in
    let rest : sum_above (before + length g.bytes) (fs ++ f ∷ more) ≡ Some (before + length g.bytes + bytes_of fs + length f.bytes) =
    sum_passes (before + length g.bytes) fs f more (omega arith) (omega arith) in
    let same : before + length g.bytes + bytes_of fs + length f.bytes ≡ before + bytes_of (g ∷ fs) + length f.bytes = omega arith in
    ap (λ b. cond b (Some (before + length g.bytes)) (sum_above (before + length g.bytes) (fs ++ f ∷ more))) low ∙ (rest ∙ ap Some same)
