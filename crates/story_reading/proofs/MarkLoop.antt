-- The line of a place, sought mark by mark.
use Rattle.std.proofs.Common.{◌≡◌, ℕ, zero, suc, ◌+◌, ◌-◌, ◌<◌, ◌≤◌, List, [], ◌∷◌, length, drop, get_or, Option, Some, None, refl, sym, ap, ◌∙◌, arith}
use Rattle.std.specs.Prelude.{nat_lt, if◌then◌else◌}
use Rattle.std.proofs.Common.{false, true, Bool}
use Rattle.std.proofs.lemmas.List.{drop_all}
use Rattle.story_defs.specs.declared.Mark.{Mark}
use Rattle.story_defs.specs.Stories.{line_at}

front : (marks : List Mark) (i : ℕ) (d : Mark) → i < length marks → drop i marks ≡ get_or marks i d ∷ drop (suc i) marks
front [] i d h = absurd (omega arith)
front (m ∷ marks) zero d h = refl
front (m ∷ marks) (suc i) d h = front marks i d (omega arith)

abbrev by_test : Mark → ℕ → List Mark → Option Mark
by_test m place more = if nat_lt place m.size then Some m else line_at (place - m.size) more

step : (place : ℕ) (m : Mark) (more : List Mark) → line_at place (m ∷ more) ≡ by_test m place more
unfolding line_at
step place m more = refl

module _ (place i : ℕ) (marks : List Mark) (m : Mark) (all : Option Mark) (within : i < length marks) (is : m ≡ get_or marks i m)
    (so_far : line_at place (drop i marks) ≡ all) where
  from_here : by_test m place (drop (suc i) marks) ≡ all
  from_here = sym (step place m (drop (suc i) marks)) ∙ sym
      (ap (line_at place) (front marks i m within ∙ ap (λ (k : Mark). k ∷ drop (suc i) marks) (sym is))) ∙ so_far

  pub found : place < m.size → Some m ≡ all
  found here = rw (← from_here) (grind (arith, here))

  pub goes_on : m.size ≤ place → line_at (place - m.size) (drop (i + 1) marks) ≡ all
  goes_on past =
      let next : i + 1 ≡ suc i = omega arith in
      let other : nat_lt place m.size ≡ false = grind (arith, past) in
      rw next (sym (ap (λ b. if b then Some m else line_at (place - m.size) (drop (suc i) marks)) other) ∙ from_here)

pub ends : (place i : ℕ) (marks : List Mark) (all : Option Mark) → length marks ≤ i → line_at place (drop i marks) ≡ all → None ≡ all
unfolding line_at
ends place i marks all past so_far = sym (ap (line_at place) (drop_all i marks past)) ∙ so_far
