-- Messages that are counted by their senders.
use Rattle.std.proofs.Common.{◌≡◌, ℕ, ◌+◌, ◌*◌, ◌≤◌, List, length, map, take, Bool, sym, arith}
use Rattle.std.specs.Prelude.{◌==◌, cond, count_by, All}
use Rattle.std.specs.List.{sum_by}
use Rattle.std.proofs.lemmas.List.Folds.{fold-map}
use Rattle.std.proofs.lemmas.List.{length-map}
use Rattle.std.proofs.lemmas.List.Sums.{count_by-le-length, sum_by-le, sum_by-take-le}
use Rattle.group_defs.specs.Process.{Delivered, delivered_from}
use Rattle.pool_laws.proofs.Members.{mem-All, All-mem}

pub count-same : {D A : Type 0} (view : D → A) (test : A → Bool) (ds : List D) → count_by (λ d. test (view d)) ds ≡ count_by test (map view ds)
count-same view test ds = sym (fold-map (λ n x. n + cond (test x) 1 0) view 0 ds)

-- the own messages of at most 1,023 views, with at most 16,384 in each
pub sum-few : {D : Type 0} (view : D → Delivered) {X : Type 0} (of : X → List D) (me : ℕ) (xs : List X) (i : ℕ) → length xs ≤ 1023
    → All (λ x. length (of x) ≤ 16384) xs
    → sum_by (λ x. delivered_from me (map view (of x))) (take i xs) ≤ 1023 * 16384
sum-few {D} view {X} of me xs i few each =
    let count : X → ℕ = λ x. delivered_from me (map view (of x)) in
    let one : All (λ x. count x ≤ 16384) xs = mem-All (λ x. count x ≤ 16384) xs (λ x m.
    (let le = All-mem (λ x. length (of x) ≤ 16384) xs x each m in
    let some = count_by-le-length (λ (d : Delivered). d.message.sender == me) (map view (of x)) in
    let long = length-map (of x) view in omega (arith, le, some, long))) in
    let all = sum_by-le count 16384 xs one in
    let front = sum_by-take-le count xs i in
    omega (arith, all, front, few)
