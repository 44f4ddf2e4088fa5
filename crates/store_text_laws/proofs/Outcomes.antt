-- An input is filtered in one way.
use Rattle.std.proofs.Common.{◌≡◌, ◌⊎◌, inl, inr, ℕ, ◌+◌, ◌<◌, ◌==◌, Bool, true, false, List, [], ◌∷◌, ◌++◌, length, Option, Some, None, refl, sym, ap, ◌∙◌, append_assoc, arith, length-append}
use Rattle.std.specs.List.{list_any}
use Rattle.text_defs.proofs.Tests.{or_false}
use Rattle.input_defs.specs.Lines.{line_at}
use Rattle.store_text_defs.specs.declared.Filter.{Filter}
use Rattle.store_text_defs.specs.Filters.{AreMade, Filtered, IsFaulty, IsLine, Made, Stopped, becomes, ended, input_of, output_of}
use Rattle.store_text_defs.specs.Laws.{OneOutcome}

abbrev Line : Type 0
Line = List ℕ × List ℕ

abbrev some : {A : Type 0} → A → Option A
some a = Some a

-- ---- the first line

pub line_there : (line more : List ℕ) → list_any (λ b. b == 10) line ≡ false → line_at (ended line ++ more) ≡ Some (line, more)
line_there [] more none = refl
line_there (c ∷ line) more none =
    let both = or_false (c == 10) (list_any (λ b. b == 10) line) none in
    rw (both.0, line_there line more both.1) refl

same_line : (l k : Line) → some l ≡ some k → (l.0 ≡ k.0) × (l.1 ≡ k.1)
same_line l k e = (cc, cc)

-- two ways to begin with a line are one
pub one_line : (a b p q : List ℕ) → IsLine a → IsLine b → ended a ++ p ≡ ended b ++ q → (a ≡ b) × (p ≡ q)
one_line a b p q first second e = same_line (a, p) (b, q) (sym (line_there a p first.no_feed) ∙ ap line_at e ∙ line_there b q second.no_feed)

-- a line is not empty with its line feed
some_line : (line p : List ℕ) → [] ≡ ended line ++ p → ⊥
some_line line p e = omega (arith, ap length e, length-append (ended line) p, length-append line (10 ∷ []))

same_text : (a b : List ℕ) → some a ≡ some b → a ≡ b
same_text a b e = cc

no_text : (a : List ℕ) → some a ≡ None → ⊥
no_text a e = absurd cc

-- ---- all lines

module _ (f : Filter) where
  one_output : (m n : Made) → AreMade f m → AreMade f n → input_of m ≡ input_of n → output_of m ≡ output_of n
  one_output [] [] are be e = refl
  one_output [] (y ∷ n) are be e = absurd (some_line y.0 (input_of n) e)
  one_output (x ∷ m) [] are be e = absurd (some_line x.0 (input_of m) (sym e))
  one_output (x ∷ m) (y ∷ n) are be e =
      let line = one_line x.0 y.0 (input_of m) (input_of n) are.0.0 be.0.0 e in
      let text = same_text x.1 y.1 (sym are.0.1 ∙ ap (becomes f) line.0 ∙ be.0.1) in
      λ i. text i ++ one_output m n are.1 be.1 line.1 i

  -- no faulty line begins what lines make
  none_faulty : (m : Made) (rest : List ℕ) → AreMade f m → input_of m ≡ rest → IsFaulty f rest → ⊥
  none_faulty [] rest are e (inl faulty) = some_line faulty.line faulty.more (e ∙ faulty.is)
  none_faulty [] rest are e (inr none) = omega (arith, none.1, ap length e)
  none_faulty (x ∷ m) rest are e (inl faulty) =
      let line = one_line x.0 faulty.line (input_of m) faulty.more are.0.0 faulty.fits (e ∙ faulty.is) in
      no_text x.1 (sym are.0.1 ∙ ap (becomes f) line.0 ∙ faulty.nothing)
  none_faulty (x ∷ m) rest are e (inr none) = none.0 x.0 (input_of m) (sym e) are.0.0

  pub no_fault_behind : (m n : Made) (rest : List ℕ) → AreMade f m → AreMade f n → input_of m ≡ input_of n ++ rest → IsFaulty f rest → ⊥
  no_fault_behind m [] rest are be e faulty = none_faulty m rest are e faulty
  no_fault_behind [] (y ∷ n) rest are be e faulty = some_line y.0 (input_of n ++ rest) (e ∙ append_assoc (ended y.0) (input_of n) rest)
  no_fault_behind (x ∷ m) (y ∷ n) rest are be e faulty =
      let line = one_line x.0 y.0 (input_of m) (input_of n ++ rest) are.0.0 be.0.0 (e ∙ append_assoc (ended y.0) (input_of n) rest) in
      no_fault_behind m n rest are.1 be.1 line.1 faulty

pub one_outcome : OneOutcome
one_outcome = record {
  output = λ f input a b p q.
      p.output_is ∙ one_output f p.made q.made p.are q.are (sym p.input_is ∙ q.input_is) ∙ sym q.output_is;
  apart = λ f input a b n p s. no_fault_behind f p.made s.made s.rest p.are s.are (sym p.input_is ∙ s.input_is) s.faulty;
}
