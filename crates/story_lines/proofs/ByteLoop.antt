-- A line that is scanned byte by byte, as a loop does.
use Rattle.std.proofs.Common.{◌≡◌, ℕ, zero, suc, ◌+◌, ◌<◌, ◌≤◌, List, [], ◌∷◌, length, drop, get_or, Result, Ok, Err, refl, sym, ap, ◌∙◌, arith}
use Rattle.std.proofs.lemmas.List.{drop_all}
use Rattle.byte_defs.specs.Fields.{◌>>=◌}
use Rattle.byte_defs.specs.Reads.{Fails, Makes}
use Rattle.story_defs.specs.declared.Expected.{Expected}
use Rattle.story_defs.specs.declared.Place.{Place}
use Rattle.story_defs.specs.PlainLines.{scan, scanned, line_end}
use Rattle.story_lines.specs.declared.faults.LineFault.{LineFault}
use Rattle.story_lines.specs.declared.faults.LineFault.TheVariants as faults
use Rattle.story_lines.specs.Faults.{expected_of}

abbrev Answer : Type 0
Answer = Result (List ℕ) Expected

front : (line : List ℕ) (i : ℕ) → i < length line → drop i line ≡ get_or line i 0 ∷ drop (suc i) line
front [] i h = absurd (omega arith)
front (c ∷ line) zero h = refl
front (c ∷ line) (suc i) h = front line i (omega arith)

scan_front : (out : List ℕ) (place : Place) (line : List ℕ) (i : ℕ) → i < length line
    → scan out place (drop i line) ≡ (scanned out place (get_or line i 0) >>= λ next. scan next.0 next.1 (drop (suc i) line))
unfolding scan
scan_front out place line i h = ap (scan out place) (front line i h)

module _ (out : List ℕ) (place : Place) (line : List ℕ) (i : ℕ) (all : Answer) (within : i < length line)
    (so_far : scan out place (drop i line) ≡ all) where
  pub goes_on : (out' : List ℕ) (place' : Place) → scanned out place (get_or line i 0) ≡ Ok (out', place')
      → scan out' place' (drop (i + 1) line) ≡ all
  goes_on out' place' is =
      let next : i + 1 ≡ suc i = omega arith in
      rw next (sym (scan_front out place line i within ∙ ap (λ r. r >>= λ n. scan n.0 n.1 (drop (suc i) line)) is) ∙ so_far)

  pub fails : (e : LineFault) → Fails expected_of e (scanned out place (get_or line i 0)) → Fails expected_of e all
  fails faults.NoMemory bad = tt
  fails (faults.Expected x) bad = sym so_far ∙ scan_front out place line i within ∙ ap
      (λ r. r >>= λ n. scan n.0 n.1 (drop (suc i) line)) bad

pub ends : (out : List ℕ) (place : Place) (line : List ℕ) (i : ℕ) (all : Answer) → length line ≤ i → scan out place (drop i line) ≡ all
    → line_end out place ≡ all
unfolding scan
ends out place line i all past so_far = sym (ap (scan out place) (drop_all i line past)) ∙ so_far
