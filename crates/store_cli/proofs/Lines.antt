-- The first line of bytes, and where there is none.
use Rattle.std.proofs.Common.{◌≡◌, ◌⊎◌, inl, inr, ℕ, ◌<◌, ◌≤◌, ◌==◌, Bool, true, false, List, [], ◌∷◌, ◌++◌, length, Option, Some, None, Result, Ok, Err, refl, sym, ap, subst, ◌∙◌, append_assoc, arith}
use Rattle.std.specs.Prelude.{◌||◌, if◌then◌else◌, nat_le}
use Rattle.std.specs.List.{list_any}
use Rattle.std.specs.Io.KnownBytes.{IsAtEnd}
use Rattle.std.proofs.lemmas.Bool.{le-leb, leb-true}
use Rattle.input_defs.specs.Lines.{if_short, line_at, line_within}
use Rattle.input_defs.proofs.FirstLines.{line_by_byte, none_longer, short_is_first}
use Rattle.line_input.specs.Taking.{Answered, ReadOn, Taken}
use Rattle.line_input.specs.declared.lines.Next.{Next}
use Rattle.line_input.specs.declared.lines.Next.TheVariants as nexts
use Rattle.store_defs.specs.Words.{most_state_line_bytes}
use Rattle.store_text_defs.specs.declared.Filter.{Filter}
use Rattle.store_text_defs.specs.Filters.{HasNoLine, IsLine, becomes, ended, most_line_bytes}
use Rattle.store_text_laws.proofs.Outcomes.{line_there}
use Rattle.line_input.specs.declared.faults.InputFault.{InputFault}
use Rattle.line_input.specs.declared.faults.InputFault.TheVariants as inputs
use Rattle.store_cli.specs.declared.stops.Stop.{Stop}
use Rattle.store_cli.specs.declared.stops.Stop.TheVariants.{NoMemory, Faulty}
use Rattle.store_cli.specs.Messages.{of_input}
use Rattle.store_cli.specs.Running.{Breaks, Stepped, Takes}

abbrev some : List ℕ × List ℕ → Option (List ℕ × List ℕ)
some l = Some l

-- how many bytes the code allows a line
limit : 8388608 ≡ most_line_bytes
unfolding most_state_line_bytes
limit = refl

pub answered : (before now : Option (List ℕ)) (ahead : List ℕ) (l : Taken) (next : Next) → Answered 8388608 before now ahead l next
    → Answered most_line_bytes before now ahead l next
answered before now ahead l next a = subst (λ (most : ℕ). Answered most before now ahead l next) limit a

-- what is found as the first line has no line feed, and the bytes are that line, its line feed and the rest
found : (bytes line rest : List ℕ) → line_at bytes ≡ some (line, rest)
    → (list_any (λ b. b == 10) line ≡ false) × (bytes ≡ ended line ++ rest)
found [] line rest e = absurd cc
found (c ∷ bytes) line rest e = elim (line_by_byte c bytes line rest e) [
  | inl here ↦ first c bytes line rest here.0 here.1 here.2
  | inr there ↦ later c bytes line rest there.0 there.1 (found bytes there.0 rest there.2) there.3
]
  where
    is_feed : (c : ℕ) → (c == 10) ≡ true → c ≡ 10
    is_feed c e = grind arith

    first : (c : ℕ) (bytes line rest : List ℕ) → (c == 10) ≡ true → line ≡ [] → rest ≡ bytes
        → (list_any (λ b. b == 10) line ≡ false) × (c ∷ bytes ≡ ended line ++ rest)
    first c bytes line rest feed none same = (
      ap (λ (l : List ℕ). list_any (λ b. b == 10) l) none,
      ap (λ (b : ℕ). b ∷ bytes) (is_feed c feed) ∙ ap (λ (l : List ℕ). 10 ∷ l) (sym same) ∙ ap (λ (l : List ℕ). ended l ++ rest) (sym none),
    )

    later : (c : ℕ) (bytes line rest l : List ℕ) → (c == 10) ≡ false → (list_any (λ b. b == 10) l ≡ false) × (bytes ≡ ended l ++ rest)
        → line ≡ c ∷ l → (list_any (λ b. b == 10) line ≡ false) × (c ∷ bytes ≡ ended line ++ rest)
    later c bytes line rest l other is e = (
      ap (λ (k : List ℕ). list_any (λ b. b == 10) k) e ∙ ap (λ (t : Bool). t || list_any (λ b. b == 10) l) other ∙ is.0,
      ap (λ (k : List ℕ). c ∷ k) is.1 ∙ ap (λ (k : List ℕ). ended k ++ rest) (sym e),
    )

-- a line of at most so many bytes
short_by : (t : Bool) (most : ℕ) (l : List ℕ × List ℕ) (line rest : List ℕ) → nat_le (length l.0) most ≡ t
    → (if t then some l else None) ≡ some (line, rest) → length line ≤ most
short_by true most l line rest is e =
    let same : l ≡ (line, rest) = same_of l (line, rest) e in
    let low = leb-true (length l.0) most is in
    omega (arith, low, ap (λ (k : List ℕ × List ℕ). length k.0) same)
  where
    same_of : (a b : List ℕ × List ℕ) → some a ≡ some b → a ≡ b
    same_of a b e = cc
short_by false most l line rest is e = absurd cc

short_of : (most : ℕ) (o : Option (List ℕ × List ℕ)) (line rest : List ℕ) → o ≡ some (line, rest)
    → (elim o [ None ↦ None | Some l ↦ if_short most l ]) ≡ some (line, rest) → length line ≤ most
short_of most None line rest is e = absurd cc
short_of most (Some l) line rest is e = short_by (nat_le (length l.0) most) most l line rest refl e

pub line_found : (bytes line rest : List ℕ) → line_within most_line_bytes bytes ≡ some (line, rest)
    → IsLine line × (bytes ≡ ended line ++ rest)
line_found bytes line rest e =
    let at = short_is_first most_line_bytes bytes line rest e in
    let is = found bytes line rest at in
    let short : if_short most_line_bytes (line, rest) ≡ some (line, rest) = rw at at e in
    (record { no_feed = is.0; short = short_by (nat_le (length line) most_line_bytes) most_line_bytes (line, rest) line rest refl short }, is.1)

-- bytes that begin with no line of so many bytes begin with no line
pub no_line : (bytes : List ℕ) → line_within most_line_bytes bytes ≡ None → HasNoLine bytes
no_line bytes none line more is fits =
    let at : line_at bytes ≡ some (line, more) = ap line_at is ∙ line_there line more fits.no_feed in
    let short : if_short most_line_bytes (line, more) ≡ some (line, more) =
    (let low = le-leb (length line) most_line_bytes fits.short in rw low refl) in
    let both : line_within most_line_bytes bytes ≡ some (line, more) = (rw at short) in
    apart (line, more) (sym none ∙ both)
  where
    apart : (l : List ℕ × List ℕ) → None ≡ some l → ⊥
    apart l e = absurd cc

-- ---- what was taken

module _ (f : Filter) (before now : Option (List ℕ)) (ahead : List ℕ) (l : Taken) (next : Next)
    (a : Answered most_line_bytes before now ahead l next) where
  answered_line : next ≡ nexts.Line → Answered most_line_bytes before now ahead l nexts.Line
  answered_line is = subst (Answered most_line_bytes before now ahead l) is a

  answered_broken : next ≡ nexts.Broken → Answered most_line_bytes before now ahead l nexts.Broken
  answered_broken is = subst (Answered most_line_bytes before now ahead l) is a

  answered_end : next ≡ nexts.End → Answered most_line_bytes before now ahead l nexts.End
  answered_end is = subst (Answered most_line_bytes before now ahead l) is a

  pub read_on : (bytes : List ℕ) × ReadOn before now ahead bytes
  read_on = (a.bytes, a.read)

  pub nothing_left : next ≡ nexts.End → ReadOn before now ahead [] × IsAtEnd now
  nothing_left is =
      let e = answered_end is in
      (subst (ReadOn before now ahead) e.takes.0 e.read, e.last)

  pub line_taken : next ≡ nexts.Line → (line made : List ℕ) → line ≡ l.line → becomes f line ≡ Some made
      → Takes f before now ahead l.ahead (line, made)
  line_taken is line made this makes =
      let e = answered_line is in
      let there = line_found e.bytes l.line l.ahead e.takes in
      subst (λ (k : List ℕ). becomes f k ≡ Some made → Takes f before now ahead l.ahead (k, made)) (sym this)
      (λ m. record {
        read = subst (ReadOn before now ahead) there.1 e.read;
        fits = there.0;
        is = m;
      })
      makes

  pub line_faulty : next ≡ nexts.Line → (line : List ℕ) → line ≡ l.line → becomes f line ≡ None → Breaks f before now ahead
  line_faulty is line this nothing =
      let e = answered_line is in
      let there = line_found e.bytes l.line l.ahead e.takes in
      let none : becomes f l.line ≡ None = ap (becomes f) (sym this) ∙ nothing in
      record {
        bytes = e.bytes;
        read = e.read;
        is = inl (λ rest. inl (record {
          line = l.line;
          more = l.ahead ++ rest;
          is = ap (λ (b : List ℕ). b ++ rest) there.1 ∙ append_assoc (ended l.line) l.ahead rest;
          fits = there.0;
          nothing = none;
        }));
      }

  pub line_broken : next ≡ nexts.Broken → Breaks f before now ahead
  line_broken is =
      let e = answered_broken is in
      record {
        bytes = e.bytes;
        read = e.read;
        is = elim e.last [
          | inl long ↦ inl (λ rest. inr (
            no_line (e.bytes ++ rest) (none_longer most_line_bytes e.bytes rest e.takes.0 long),
            more_left e.bytes rest e.takes.1,
          ))
          | inr over ↦ inr (over, inr (no_line e.bytes e.takes.0, e.takes.1))
        ];
      }
    where
      more_left : (bytes rest : List ℕ) → 0 < length bytes → 0 < length (bytes ++ rest)
      more_left [] rest some = absurd (omega (arith, some))
      more_left (b ∷ bytes) rest some = omega arith

-- ---- by the answer of a step

module _ (f : Filter) (number : ℕ) (before now : Option (List ℕ)) (ahead left : List ℕ) (old new : Option (List ℕ)) where
  abbrev steps : Result Bool Stop → Type 0
  steps r = Stepped f number before now ahead left old new r

  pub not_read : (fault : InputFault) (stop : Stop) (bytes : List ℕ) → stop ≡ of_input fault → ReadOn before now ahead bytes → new ≡ old
      → steps (Err stop)
  not_read fault stop bytes is read same = subst (λ (s : Stop). steps (Err s)) (sym is) (of fault)
    where
      of : (fault : InputFault) → steps (Err (of_input fault))
      of inputs.Read = (bytes, read, same)
      of inputs.NoMemory = (bytes, read, same)

  module _ (l : Taken) (next : Next) (a : Answered most_line_bytes before now ahead l next) where
    pub not_made : next ≡ nexts.Line → (line : List ℕ) (stop : Stop) → line ≡ l.line
        → (stop ≡ NoMemory) ⊎ ((stop ≡ Faulty number) × (becomes f line ≡ None)) → new ≡ old → steps (Err stop)
    not_made is line stop this (inl none) same = subst (λ (s : Stop). steps (Err s)) (sym none) (a.bytes, a.read, same)
    not_made is line stop this (inr fault) same =
        subst (λ (s : Stop). steps (Err s)) (sym fault.0) (refl, line_faulty f before now ahead l next a is line this fault.1, same)

    pub broken : next ≡ nexts.Broken → new ≡ old → steps (Err (Faulty number))
    broken is same = (refl, line_broken f before now ahead l next a is, same)

    pub over : next ≡ nexts.End → new ≡ old → steps (Ok false)
    over is same = let end = nothing_left f before now ahead l next a is in (end.0, end.1, same)
