-- A line that is read, to any answer that goes by the parts of the bytes.
use Rattle.std.proofs.Common.{◌≡◌, inl, inr, ℕ, ◌<◌, ◌≤◌, Bool, true, false, List, [], ◌∷◌, ◌++◌, length, Option, None, Some, refl, sym, ap, ◌∙◌, append_assoc, arith, length-append}
use Rattle.std.specs.Prelude.{if◌then◌else◌, nat_le, option_and_then}
use Rattle.std.proofs.lemmas.Bool.{leb-true}
use Rattle.text_defs.specs.Words.{parts_of}
use Rattle.input_defs.specs.Lines.{if_short, line_at, line_within}
use Rattle.input_defs.proofs.FirstLines.{line_stays, no_short_line, none_longer, short_is_first}
use Rattle.line_input.specs.Places.{Ends, Leads, Settles}
use Rattle.line_input.specs.Taking.{Answered, Taken}
use Rattle.line_input.specs.declared.lines.Next.TheVariants as nexts
use Rattle.line_input.proofs.Places.{ends_more, leads_more, settles_more}
use Rattle.std.proofs.KnownBytes.{Consumes-nil}
use Rattle.line_laws.proofs.Parts.{one_part, parts_by_line, parts_some}

-- a line that is within a limit has no more bytes
pub is_short : (most : ℕ) (bytes line rest : List ℕ) → line_within most bytes ≡ Some (line, rest) → length line ≤ most
is_short most bytes line rest e = of (line_at bytes) e
  where
    pick : (l : List ℕ × List ℕ) (t : Bool) → nat_le (length l.0) most ≡ t → (if t then Some l else None) ≡ Some (line, rest) → length line ≤ most
    pick l true t e =
        let same : l ≡ (line, rest) = cc in
        omega (arith, leb-true (length l.0) most t, ap (λ (x : List ℕ × List ℕ). length x.0) same)
    pick l false t e = absurd cc

    of : (o : Option (List ℕ × List ℕ)) → option_and_then (if_short most) o ≡ Some (line, rest) → length line ≤ most
    of None e = absurd cc
    of (Some l) e = pick l (nat_le (length l.0) most) refl e

module _ {A : Type 0} (F : List (List ℕ) → A) (most : ℕ) (ahead : List ℕ) (before now : Option (List ℕ)) (l : Taken) where
  at_first : (bytes read rest : List ℕ) → bytes ≡ ahead ++ read → F (parts_of (ahead ++ (read ++ rest))) ≡ F (parts_of (bytes ++ rest))
  at_first bytes read rest is =
      ap (λ (t : List ℕ). F (parts_of t)) (sym (append_assoc ahead read rest) ∙ ap (λ (t : List ℕ). t ++ rest) (sym is))

  at_end : (bytes read : List ℕ) → bytes ≡ ahead ++ read → F (parts_of (ahead ++ read)) ≡ F (parts_of bytes)
  at_end bytes read is = ap (λ (t : List ℕ). F (parts_of t)) (sym is)

  -- a line was taken: it is the first part, and others come behind it
  pub line_leads : (a : Answered most before now ahead l nexts.Line)
      → Leads (λ more. F (parts_of (ahead ++ more))) before now (λ rest. F (l.line ∷ parts_of (l.ahead ++ rest)))
  line_leads a = record {
    read = a.read.0;
    taken = a.read.1;
    is = λ rest. at_first a.bytes a.read.0 rest a.read.2
        ∙ ap F (parts_by_line (a.bytes ++ rest) l.line (l.ahead ++ rest)
        (line_stays a.bytes l.line l.ahead rest (short_is_first most a.bytes l.line l.ahead a.takes)));
  }

  -- the input has ended
  pub input_ends : (a : Answered most before now ahead l nexts.End) → Ends (λ more. F (parts_of (ahead ++ more))) before now (F ([] ∷ []))
  input_ends a = record {
    read = a.read.0;
    taken = a.read.1;
    ended = a.last;
    is = at_end a.bytes a.read.0 a.read.2 ∙ ap (λ (t : List ℕ). F (parts_of t)) a.takes.0;
  }

  -- no line comes, where this is the answer to a line that is too long and to bytes in which the input ends
  module _ (x : A) (long : (line next : List ℕ) (others : List (List ℕ)) → most < length line → F (line ∷ next ∷ others) ≡ x)
      (last : (rest : List ℕ) → 0 < length rest → F (rest ∷ []) ≡ x) where
    bad_line : (bytes : List ℕ) → 0 < length bytes → line_within most bytes ≡ None → F (parts_of bytes) ≡ x
    bad_line bytes some none = elim (no_short_line most bytes none) [
      | inl nowhere ↦ ap F (one_part bytes nowhere) ∙ last bytes some
      | inr found ↦
          let others = parts_some found.0.1 in
          ap F (parts_by_line bytes found.0.0 found.0.1 found.1 ∙ ap (λ (ps : List (List ℕ)). found.0.0 ∷ ps) others.2)
          ∙ long found.0.0 others.0 others.1 found.2
    ]

    pub no_line_settles : (a : Answered most before now ahead l nexts.Broken) → Settles (λ more. F (parts_of (ahead ++ more))) before now x
    no_line_settles a = record {
      read = a.read.0;
      taken = a.read.1;
      is = elim a.last [
        | inl far ↦ inl (λ rest. at_first a.bytes a.read.0 rest a.read.2
            ∙ bad_line (a.bytes ++ rest) (omega (arith, a.takes.1, length-append a.bytes rest)) (none_longer most a.bytes rest a.takes.0 far))
        | inr over ↦ inr (over, at_end a.bytes a.read.0 a.read.2 ∙ bad_line a.bytes a.takes.1 a.takes.0)
      ];
    }

-- ---- from one read to the next

-- nothing was read yet
pub nothing_read : {A : Type 0} (answer : List ℕ → A) (before : Option (List ℕ)) → Leads answer before before answer
nothing_read answer before = record { read = []; taken = Consumes-nil before; is = λ rest. refl }

-- and then more
pub read_more : {A : Type 0} (first later last : List ℕ → A) (before mid now : Option (List ℕ)) → Leads first before mid later
    → Leads later mid now last → Leads first before now last
read_more first later last before mid now a b = leads_more first later (λ x. x) before mid now a last b

pub settles_then : {A : Type 0} (first later : List ℕ → A) (x : A) (before mid now : Option (List ℕ)) → Leads first before mid later
    → Settles later mid now x → Settles first before now x
settles_then first later x before mid now a b = settles_more first later (λ y. y) before mid now a x b

pub ends_then : {A : Type 0} (first later : List ℕ → A) (x : A) (before mid now : Option (List ℕ)) → Leads first before mid later
    → Ends later mid now x → Ends first before now x
ends_then first later x before mid now a b = ends_more first later (λ y. y) before mid now a x b
