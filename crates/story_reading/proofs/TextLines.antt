-- The lines of a text, taken one after another.
use Rattle.std.proofs.Common.{◌≡◌, ℕ, ◌+◌, ◌≤◌, ◌==◌, List, [], ◌∷◌, length, Option, Some, None, Result, Ok, Err, refl, sym, ap, subst, ◌∙◌, arith}
use Rattle.std.proofs.lemmas.List.Sums.{count_by-le-length}
use Rattle.std.proofs.lemmas.List.Splits.{length-slice_split}
use Rattle.byte_defs.specs.Reads.{Fails}
use Rattle.text_defs.specs.Words.{parts_of, line_feed}
use Rattle.story_defs.specs.declared.Expected.{Expected}
use Rattle.story_lines.specs.declared.faults.LineFault.{LineFault}
use Rattle.story_lines.specs.declared.faults.LineFault.TheVariants as faults
use Rattle.story_lines.specs.Faults.{expected_of}
use Rattle.story_defs.specs.Stories.{Draft, Addition, Taken, added, said_by, take_lines}

-- there are at most as many parts as bytes, and one more
pub parts_most : (bytes : List ℕ) → length (parts_of bytes) ≤ length bytes + 1
parts_most bytes = omega (arith, length-slice_split (λ c. c == line_feed) bytes, count_by-le-length (λ c. c == line_feed) bytes)

-- what was expected of a line is the fault that it has
pub is_expected : (e : LineFault) (x : Expected) (r : Result Addition Expected) → e ≡ faults.Expected x → Fails expected_of e r → r ≡ Err x
is_expected e x r is bad = subst (λ (f : LineFault). Fails expected_of f r) is bad

-- by what the line says
abbrev by_line : ℕ → Draft → List (List ℕ) → Result Addition Expected → Taken
by_line n d more r = elim r [ Ok a ↦ take_lines (n + 1) (added n d a) more | Err x ↦ record { draft = d; line = n; stop = Some x } ]

step : (n : ℕ) (d : Draft) (line : List ℕ) (more : List (List ℕ)) → take_lines n d (line ∷ more) ≡ by_line n d more (said_by d line)
unfolding take_lines
step n d line more = refl

module _ (n : ℕ) (d : Draft) (line : List ℕ) (left more : List (List ℕ)) (all : Taken) (parts : left ≡ line ∷ more)
    (so_far : take_lines n d left ≡ all) where
  from_here : by_line n d more (said_by d line) ≡ all
  from_here = sym (step n d line more) ∙ sym (ap (take_lines n d) parts) ∙ so_far

  pub goes_on : (a : Addition) (e : Draft) → said_by d line ≡ Ok a → e ≡ added n d a → take_lines (n + 1) e more ≡ all
  goes_on a e says is = ap (λ (x : Draft). take_lines (n + 1) x more) is ∙ sym (ap (by_line n d more) says) ∙ from_here

  pub stops : (x : Expected) → said_by d line ≡ Err x → record { draft = d; line = n; stop = Some x } ≡ all
  stops x says = sym (ap (by_line n d more) says) ∙ from_here

pub ends : (n : ℕ) (d : Draft) (left : List (List ℕ)) (all : Taken) → left ≡ [] → take_lines n d left ≡ all
    → record { draft = d; line = n; stop = None } ≡ all
unfolding take_lines
ends n d left all none so_far = sym (ap (take_lines n d) none) ∙ so_far
