-- A line that is taken, as the input is seen.
use Rattle.std.proofs.Common.{◌≡◌, ◌⊎◌, inl, inr, ℕ, ◌<◌, ◌==◌, Bool, true, List, [], ◌∷◌, ◌++◌, length, Option, None, Some, refl, sym, ap, subst, ◌∙◌, arith, append-nil, append_assoc, length-append}
use Rattle.std.specs.Prelude.{if◌then◌else◌, nat_le, option_and_then}
use Rattle.std.proofs.lemmas.Bool.{eqb-true}
use Rattle.std.specs.Io.KnownBytes.{Consumes, IsAtEnd}
use Rattle.std.proofs.KnownBytes.{Consumes-trans}
use Rattle.rp_base.specs.Causes.{Rose}
use Rattle.text_defs.proofs.Choosing.{if_some, some_is, then_some}
use Rattle.input_defs.specs.Lines.{line_at, line_within, if_short}
use Rattle.input_defs.proofs.FirstLines.{line_by_byte, line_stays, none_longer, short_is_first}
use Rattle.line_input.specs.Taking.{Answered, ReadOn, Taken}
use Rattle.line_input.specs.declared.lines.Next.{Next}
use Rattle.line_input.specs.declared.lines.Next.TheVariants.{Line, Broken, End}
use Rattle.node_traces.specs.Outside.{SourceSeen, SourceTook, SourceBroke, SourceEnded, SourceFailed, LineTaken, NoLine, AtEnd}
use Rattle.node_input.specs.Sources.{IsSeen, SeenAs}

-- ---- lines

-- the first line stays, whatever comes after the bytes
within_stays : (most : ℕ) (bytes line rest more : List ℕ) → line_within most bytes ≡ Some (line, rest)
    → line_within most (bytes ++ more) ≡ Some (line, rest ++ more)
within_stays most bytes line rest more is =
    let found = then_some (if_short most) (line_at bytes) (line, rest) is in
    let few = if_some (nat_le (length found.0.0) most) (Some found.0) (line, rest) found.2 in
    let same : found.0 ≡ (line, rest) = some_is found.0 (line, rest) few.1 in
    let here : line_at bytes ≡ Some (line, rest) = found.1 ∙ ap (λ (l : List ℕ × List ℕ). Some l) same in
    let short : nat_le (length line) most ≡ true = sym (ap (λ (l : List ℕ × List ℕ). nat_le (length l.0) most) same) ∙ few.0 in
    ap (option_and_then (if_short most)) (line_stays bytes line rest more here)
    ∙ ap (λ (t : Bool). if t then Some (line, rest ++ more) else None) short

-- it is there with its line feed
line_spelled : (bytes line rest : List ℕ) → line_at bytes ≡ Some (line, rest) → bytes ≡ line ++ 10 ∷ rest
line_spelled [] line rest e = absurd cc
line_spelled (c ∷ bytes) line rest e = elim (line_by_byte c bytes line rest e) [
  | inl here ↦ feed c here.0 ∙ λ i. sym here.1 i ++ 10 ∷ sym here.2 i
  | inr there ↦ ap (λ (bs : List ℕ). c ∷ bs) (line_spelled bytes there.0 rest there.2) ∙ ap (λ (l : List ℕ). l ++ 10 ∷ rest) (sym there.3)
]
  where
    feed : (b : ℕ) → (b == 10) ≡ true → b ∷ bytes ≡ 10 ∷ bytes
    feed b is = ap (λ (d : ℕ). d ∷ bytes) (eqb-true b 10 is)

-- ---- by what the input has left

took-left : (most : ℕ) (left now : Option (List ℕ)) (bytes line rest : List ℕ) → Consumes left now bytes
    → line_within most bytes ≡ Some (line, rest) → (new : Option (List ℕ)) × Consumes new now rest × LineTaken most left new line
took-left most None now bytes line rest there is = (None, tt, tt)
took-left most (Some b) None bytes line rest there is = absurd there
took-left most (Some b) (Some n) bytes line rest there is =
    (Some (rest ++ n), refl, ap (line_within most) there ∙ within_stays most bytes line rest n is)

no-line : (most : ℕ) (left now : Option (List ℕ)) (bytes : List ℕ) → Consumes left now bytes → line_within most bytes ≡ None
    → 0 < length bytes → (most < length bytes) ⊎ IsAtEnd now → NoLine most left
no-line most None now bytes there none some last = tt
no-line most (Some b) None bytes there none some last = absurd there
no-line most (Some b) (Some n) bytes there none some (inl long) =
    (ap (line_within most) there ∙ none_longer most bytes n none long, omega (arith, ap length there, length-append bytes n, some))
no-line most (Some b) (Some n) bytes there none some (inr end) =
    let whole : b ≡ bytes = there ∙ ap (λ (m : List ℕ). bytes ++ m) end ∙ append-nil bytes in
    (ap (line_within most) whole ∙ none, omega (arith, ap length whole, some))

at-end : (left now : Option (List ℕ)) (bytes : List ℕ) → Consumes left now bytes → bytes ≡ [] → IsAtEnd now → AtEnd left
at-end None now bytes there none end = tt
at-end (Some b) None bytes there none end = absurd there
at-end (Some b) (Some n) bytes there none end = there ∙ (λ i. none i ++ end i)

-- ---- what a read of a line answers

module _ (most : ℕ) (k : SourceSeen) (before now : Option (List ℕ)) (ahead : List ℕ) (f g : ℕ) (seen : IsSeen k ahead before f) where
  all-there : (bytes : List ℕ) → ReadOn before now ahead bytes → Consumes k.left now bytes
  all-there bytes read = subst (λ (bs : List ℕ). Consumes k.left now bs) (sym read.2)
      (Consumes-trans k.left before now ahead read.0 seen.bytes read.1)

  pub took-line : (l : Taken) → g ≡ f → Answered most before now ahead l Line → SeenAs (λ m. SourceTook most k m l.line) l.ahead now g
  took-line l steady a =
      let new = took-left most k.left now a.bytes l.line l.ahead (all-there a.bytes a.read) a.takes in record {
        source = record { left = new.0; faults = g };
        seen = record { bytes = new.1; count = refl };
        holds = record { taken = new.2; steady = steady ∙ sym seen.count };
      }

  same-source : (l : Taken) (bytes : List ℕ) → g ≡ f → ReadOn before now ahead bytes → l.ahead ≡ bytes → IsSeen k l.ahead now g
  same-source l bytes steady read is = record {
    bytes = subst (λ (bs : List ℕ). Consumes k.left now bs) (sym is) (all-there bytes read);
    count = seen.count ∙ sym steady;
  }

  pub broke : (l : Taken) → g ≡ f → Answered most before now ahead l Broken → SeenAs (λ m. SourceBroke most k m) l.ahead now g
  broke l steady a = record {
    source = k;
    seen = same-source l a.bytes steady a.read a.takes.2;
    holds = record { broken = no-line most k.left now a.bytes (all-there a.bytes a.read) a.takes.0 a.takes.1 a.last; left = refl; steady = refl };
  }

  pub ended : (l : Taken) → g ≡ f → Answered most before now ahead l End → SeenAs (λ m. SourceEnded k m) l.ahead now g
  ended l steady a = record {
    source = k;
    seen = same-source l a.bytes steady a.read (a.takes.1 ∙ sym a.takes.0);
    holds = record { ended = at-end k.left now a.bytes (all-there a.bytes a.read) a.takes.0 a.last; left = refl; steady = refl };
  }

  pub failed : (l : Taken) → Rose f g → ReadOn before now ahead l.ahead → SeenAs (λ m. SourceFailed k m) l.ahead now g
  failed l rose read = record {
    source = record { left = k.left; faults = g };
    seen = record { bytes = all-there l.ahead read; count = refl };
    holds = record { left = refl; rose = subst (λ (c : ℕ). Rose c g) (sym seen.count) rose };
  }

  pub unremembered : (l : Taken) → g ≡ f → ReadOn before now ahead l.ahead → SeenAs (λ m. k ≡ m) l.ahead now g
  unremembered l steady read = record { source = k; seen = same-source l l.ahead steady read refl; holds = refl }

-- ---- a line that is handed back

untaken-left : (most : ℕ) (left mid now : Option (List ℕ)) (line ahead : List ℕ) → LineTaken most left mid line → Consumes mid now ahead
    → Consumes left now (line ++ 10 ∷ ahead)
untaken-left most None mid now line ahead took there = tt
untaken-left most (Some b) None now line ahead took there = absurd took
untaken-left most (Some b) (Some c) None line ahead took there = absurd there
untaken-left most (Some b) (Some c) (Some n) line ahead took there =
    line_spelled b line c (short_is_first most b line c took) ∙ ap (λ (r : List ℕ). line ++ 10 ∷ r) there
    ∙ sym (append_assoc line (10 ∷ ahead) n)

-- as if it had not been taken
pub untaken : (most : ℕ) (k : SourceSeen) (line ahead : List ℕ) (now : Option (List ℕ)) (g : ℕ)
    → SeenAs (λ m. SourceTook most k m line) ahead now g → SeenAs (λ m. k ≡ m) (line ++ 10 ∷ ahead) now g
untaken most k line ahead now g took = record {
  source = k;
  seen = record {
    bytes = untaken-left most k.left took.source.left now line ahead took.holds.taken took.seen.bytes;
    count = sym took.holds.steady ∙ took.seen.count;
  };
  holds = refl;
}
