-- Bytes and rounds drawn one after another, as loops do.
use Rattle.std.proofs.Common.{◌≡◌, ℕ, suc, ◌+◌, ◌-◌, ◌<◌, ◌≤◌, List, [], ◌∷◌, ◌++◌, map, refl, sym, ap, ◌∙◌, append_assoc, arith}
use Rattle.std.specs.List.{range_with_len}
use Rattle.std.proofs.lemmas.List.{append-nil}
use Rattle.std.proofs.lemmas.List.FromFn.{map-range_with_len_more}
use Rattle.replay_defs.specs.Schedules.{ScheduleEvent}
use Rattle.replay_defs.specs.Generator.{Drawn, drawn, draw_below, bytes_drawn, round, rounds}
use Rattle.schedule_making.specs.Behind.{Behind}

-- ---- numbers

map_same : (xs : List ℕ) → map (λ x. x) xs ≡ xs
map_same [] = refl
map_same (x ∷ xs) = ap (λ (ys : List ℕ). x ∷ ys) (map_same xs)

pub first_more : (n : ℕ) → range_with_len 0 n ++ n ∷ [] ≡ range_with_len 0 (n + 1)
first_more n =
    ap (λ (xs : List ℕ). xs ++ n ∷ [])
    (sym (map_same (range_with_len 0 n))) ∙ sym (map-range_with_len_more (λ x. x) 0 n n (omega arith)) ∙ map_same
    (range_with_len 0 (n + 1))

-- ---- bytes

-- what is drawn, behind what was there
abbrev pub onto : List ℕ → Drawn (List ℕ) → Drawn (List ℕ)
onto out bytes = (out ++ bytes.0, bytes.1)

none_drawn : (state : ℕ) → bytes_drawn 0 state ≡ ([], state)
unfolding bytes_drawn
none_drawn state = refl

one_drawn : (n state : ℕ) → bytes_drawn (suc n) state
    ≡ (draw_below 256 (drawn state) ∷ (bytes_drawn n (drawn state)).0, (bytes_drawn n (drawn state)).1)
unfolding bytes_drawn
one_drawn n state = refl

pub one_more : (count i state b next : ℕ) (out : List ℕ) (all : Drawn (List ℕ)) → i < count → next ≡ drawn state → b ≡ draw_below 256 next
    → onto out (bytes_drawn (count - i) state) ≡ all → onto (out ++ b ∷ []) (bytes_drawn (count - (i + 1)) next) ≡ all
one_more count i state b next out all lt moved is so_far =
    let k : count - i ≡ suc (count - (i + 1)) = omega arith in
    let opened : onto out (bytes_drawn (count - i) state)
    ≡ onto out (
      draw_below 256 (drawn state) ∷ (bytes_drawn (count - (i + 1)) (drawn state)).0,
      (bytes_drawn (count - (i + 1)) (drawn state)).1,
    ) =
    ap (λ n. onto out (bytes_drawn n state)) k ∙ ap (onto out) (one_drawn (count - (i + 1)) state) in
    let regrouped : onto (out ++ draw_below 256 (drawn state) ∷ []) (bytes_drawn (count - (i + 1)) (drawn state))
    ≡ onto out (
      draw_below 256 (drawn state) ∷ (bytes_drawn (count - (i + 1)) (drawn state)).0,
      (bytes_drawn (count - (i + 1)) (drawn state)).1,
    ) =
    ap (λ (xs : List ℕ). (xs, (bytes_drawn (count - (i + 1)) (drawn state)).1))
    (append_assoc out (draw_below 256 (drawn state) ∷ []) (bytes_drawn (count - (i + 1)) (drawn state)).0) in
    rw (is, moved) (regrouped ∙ sym opened ∙ so_far)

pub all_drawn : (count i state : ℕ) (out : List ℕ) (all : Drawn (List ℕ)) → count ≤ i → onto out (bytes_drawn (count - i) state) ≡ all
    → (out ≡ all.0) × (state ≡ all.1)
all_drawn count i state out all le so_far =
    let k : count - i ≡ 0 = omega arith in
    let none : onto out (bytes_drawn (count - i) state)
    ≡ (out ++ [], state) = ap (λ n. onto out (bytes_drawn n state)) k ∙ ap (onto out) (none_drawn state) in
    let e : (out ++ [], state) ≡ all = sym none ∙ so_far in
    (sym (append-nil out) ∙ ap (λ (d : Drawn (List ℕ)). d.0) e, ap (λ (d : Drawn (List ℕ)). d.1) e)

-- ---- rounds

no_rounds : (i state : ℕ) → rounds 0 i state ≡ []
unfolding rounds
no_rounds i state = refl

one_round : (n i state : ℕ) → rounds (suc n) i state ≡ (round i state).0 ++ rounds n (i + 1) (round i state).1
unfolding rounds
one_round n i state = refl

pub next_round : (count i state next : ℕ) (before after all : List ScheduleEvent) → i < count → Behind before (round i state) after next
    → before ++ rounds (count - i) i state ≡ all → after ++ rounds (count - (i + 1)) (i + 1) next ≡ all
next_round count i state next before after all lt behind so_far =
    let k : count - i ≡ suc (count - (i + 1)) = omega arith in
    let opened : before ++ rounds (count - i) i state ≡ before
    ++ ((round i state).0 ++ rounds (count - (i + 1)) (i + 1) (round i state).1) =
    ap (λ n. before ++ rounds n i state) k ∙ ap (λ es. before ++ es) (one_round (count - (i + 1)) i state) in
    rw (behind.0, behind.1) (append_assoc before (round i state).0
    (rounds (count - (i + 1)) (i + 1) (round i state).1) ∙ sym opened ∙ so_far)

pub all_made : (count i state : ℕ) (before all : List ScheduleEvent) → count ≤ i → before ++ rounds (count - i) i state ≡ all → before ≡ all
all_made count i state before all le so_far =
    let k : count - i ≡ 0 = omega arith in
    let none : before ++ rounds (count - i) i state ≡ before
    ++ [] = ap (λ n. before ++ rounds n i state) k ∙ ap (λ es. before ++ es) (no_rounds i state) in
    sym (append-nil before) ∙ sym none ∙ so_far
