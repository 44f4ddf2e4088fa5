-- One line of proofs, and the answer from there on.
use Rattle.std.proofs.Common.{◌≡◌, inl, inr, ℕ, ◌+◌, ◌<◌, ◌==◌, Bool, true, false, List, [], ◌∷◌, ◌++◌, length, Option, None, Some, Result, Ok, Err, refl, sym, ap, ◌∙◌, append_assoc, arith, length-append}
use Rattle.std.specs.Prelude.{if◌then◌else◌}
use Rattle.std.proofs.lemmas.Bool.{eqb-true, le-leb}
use Rattle.text_defs.specs.Words.{parts_of}
use Rattle.kit_defs.specs.Kits.{Kit}
use Rattle.input_defs.specs.Lines.{line_at, line_within}
use Rattle.input_defs.proofs.FirstLines.{line_stays, no_short_line, none_longer, short_is_first}
use Rattle.group_defs.specs.Views.{View}
use Rattle.group_defs.specs.Process.{Setting}
use Rattle.chain_defs.specs.declared.ChainFault.{ChainFault}
use Rattle.chain_defs.specs.Advance.{advance}
use Rattle.chain_text_defs.specs.Chains.{Answer, behind, chain_at, done, most_proof_line, proof_in, proof_words, setting_of, stopped, view_line}
use Rattle.line_input.specs.Taking.{Answered, ReadOn, Taken}
use Rattle.line_input.specs.declared.lines.Next.{Next}
use Rattle.line_input.specs.declared.lines.Next.TheVariants as nexts
use Rattle.chain_words.specs.Lines.{frame_shows, line_shows, no_line, view_or_words}
use Rattle.chain_words.specs.Places.{Ends, ReadsMore, Settles, Shows, answer_at, place}
use Rattle.line_laws.proofs.Parts.{one_part, parts_by_line, parts_some}

-- the answer goes on behind what a line shows
abbrev pub goes_on : Setting → ℕ → List (List ℕ) → Result View (List (List ℕ)) → Answer
goes_on s n parts (Err words) = stopped words
goes_on s n parts (Ok w) = behind (view_line w) (chain_at s (n + 1) w parts)

-- a line that is too long
no_proof : (line : List ℕ) → most_proof_line < length line → proof_in line ≡ None
unfolding proof_in
no_proof line long = rw (le-leb (most_proof_line + 1) (length line) (omega arith)) refl

-- ---- a line, and a further part

module _ (s : Setting) (n : ℕ) (v : View) where
  pub part_answered : (line next : List ℕ) (more : List (List ℕ))
      → chain_at s n v (line ∷ next ∷ more) ≡ goes_on s n (next ∷ more) (line_shows s n v line)
  unfolding chain_at
  part_answered line next more = of (proof_in line)
    where
      by_view : (r : Result View ChainFault)
          → (elim r [
            | Err fault ↦ stopped (proof_words n fault)
            | Ok w ↦ behind (view_line w) (chain_at s (n + 1) w (next ∷ more))
          ]) ≡ goes_on s n (next ∷ more) (view_or_words n r)
      by_view (Err fault) = refl
      by_view (Ok w) = refl

      of : (o : Option (List ℕ))
          → (elim o [
            | None ↦ stopped (no_line n)
            | Some bytes ↦ elim (advance s v bytes) [
              | Err fault ↦ stopped (proof_words n fault)
              | Ok w ↦ behind (view_line w) (chain_at s (n + 1) w (next ∷ more))
            ]
          ]) ≡ goes_on s n (next ∷ more) (frame_shows s n v o)
      of None = refl
      of (Some bytes) = by_view (advance s v bytes)

  -- the first line of bytes is answered
  line_answered : (bytes line rest : List ℕ) → line_at bytes ≡ Some (line, rest)
      → chain_at s n v (parts_of bytes) ≡ goes_on s n (parts_of rest) (line_shows s n v line)
  line_answered bytes line rest e =
      let some = parts_some rest in
      ap (chain_at s n v) (parts_by_line bytes line rest e ∙ ap (λ (ps : List (List ℕ)). line ∷ ps) some.2)
      ∙ part_answered line some.0 some.1
      ∙ ap (λ (ps : List (List ℕ)). goes_on s n ps (line_shows s n v line)) (sym some.2)

  pub too_long : (line : List ℕ) → most_proof_line < length line → line_shows s n v line ≡ Err (no_line n)
  too_long line long = ap (frame_shows s n v) (no_proof line long)

  pub some_left : (bytes : List ℕ) → 0 < length bytes → chain_at s n v (bytes ∷ []) ≡ stopped (no_line n)
  unfolding chain_at
  some_left bytes some = of (length bytes == 0) refl
    where
      of : (t : Bool) → (length bytes == 0) ≡ t → (if t then done else stopped (no_line n)) ≡ stopped (no_line n)
      of true e = absurd (omega (arith, eqb-true (length bytes) 0 e))
      of false e = refl

  -- bytes that begin with no line of so many bytes at most
  bad_line : (bytes : List ℕ) → 0 < length bytes → line_within most_proof_line bytes ≡ None
      → chain_at s n v (parts_of bytes) ≡ stopped (no_line n)
  bad_line bytes some none = elim (no_short_line most_proof_line bytes none) [
    | inl nowhere ↦ ap (chain_at s n v) (one_part bytes nowhere) ∙ some_left bytes some
    | inr found ↦ line_answered bytes found.0.0 found.0.1 found.1
        ∙ ap (goes_on s n (parts_of found.0.1)) (too_long found.0.0 found.2)
  ]

  pub nothing_left : chain_at s n v (parts_of []) ≡ done
  unfolding chain_at
  nothing_left = refl

-- ---- what a read gives

module _ (kit : Kit) (n : ℕ) (v : View) (ahead : List ℕ) (before now : Option (List ℕ)) where
  at_first : (bytes read rest : List ℕ) → bytes ≡ ahead ++ read
      → answer_at (place kit n v ahead) (read ++ rest) ≡ chain_at (setting_of kit) n v (parts_of (bytes ++ rest))
  at_first bytes read rest is =
      ap (λ (t : List ℕ). chain_at (setting_of kit) n v (parts_of t))
      (sym (append_assoc ahead read rest) ∙ ap (λ (t : List ℕ). t ++ rest) (sym is))

  at_end : (bytes read : List ℕ) → bytes ≡ ahead ++ read
      → answer_at (place kit n v ahead) read ≡ chain_at (setting_of kit) n v (parts_of bytes)
  at_end bytes read is = ap (λ (t : List ℕ). chain_at (setting_of kit) n v (parts_of t)) (sym is)

  pub step_reads : (l : Taken) (next : Next) → Answered most_proof_line before now ahead l next → ReadsMore before now
  step_reads l next a = (a.read.0, a.read.1)

  pub step_reads_on : (bytes : List ℕ) → ReadOn before now ahead bytes → ReadsMore before now
  step_reads_on bytes read = (read.0, read.1)

  -- the input has ended
  pub step_ends : (l : Taken) → Answered most_proof_line before now ahead l nexts.End → Ends (answer_at (place kit n v ahead)) before now done
  step_ends l a = record {
    read = a.read.0;
    taken = a.read.1;
    ended = a.last;
    is = at_end a.bytes a.read.0 a.read.2 ∙ ap (λ (t : List ℕ). chain_at (setting_of kit) n v (parts_of t)) a.takes.0
        ∙ nothing_left (setting_of kit) n v;
  }

  -- no line comes
  pub step_breaks : (l : Taken) → Answered most_proof_line before now ahead l nexts.Broken
      → Settles (answer_at (place kit n v ahead)) before now (stopped (no_line n))
  step_breaks l a = record {
    read = a.read.0;
    taken = a.read.1;
    is = elim a.last [
      | inl long ↦ inl (λ rest. at_first a.bytes a.read.0 rest a.read.2
          ∙ bad_line (setting_of kit) n v (a.bytes ++ rest) (omega (arith, a.takes.1, length-append a.bytes rest))
          (none_longer most_proof_line a.bytes rest a.takes.0 long))
      | inr over ↦ inr (over, at_end a.bytes a.read.0 a.read.2 ∙ bad_line (setting_of kit) n v a.bytes a.takes.1 a.takes.0)
    ];
  }

  -- a line was taken
  module _ (l : Taken) (a : Answered most_proof_line before now ahead l nexts.Line) where
    goes_behind : (rest : List ℕ) → answer_at (place kit n v ahead) (a.read.0 ++ rest)
        ≡ goes_on (setting_of kit) n (parts_of (l.ahead ++ rest)) (line_shows (setting_of kit) n v l.line)
    goes_behind rest =
        at_first a.bytes a.read.0 rest a.read.2
        ∙ line_answered (setting_of kit) n v (a.bytes ++ rest) l.line (l.ahead ++ rest)
        (line_stays a.bytes l.line l.ahead rest (short_is_first most_proof_line a.bytes l.line l.ahead a.takes))

    pub step_shows : (w : View) → line_shows (setting_of kit) n v l.line ≡ Ok w
        → Shows before now (place kit n v ahead) (place kit (n + 1) w l.ahead)
    step_shows w e = record {
      read = a.read.0;
      taken = a.read.1;
      is = λ rest. goes_behind rest ∙ ap (goes_on (setting_of kit) n (parts_of (l.ahead ++ rest))) e;
    }

    pub step_refuses : (words : List (List ℕ)) → line_shows (setting_of kit) n v l.line ≡ Err words
        → Settles (answer_at (place kit n v ahead)) before now (stopped words)
    step_refuses words e = record {
      read = a.read.0;
      taken = a.read.1;
      is = inl (λ rest. goes_behind rest ∙ ap (goes_on (setting_of kit) n (parts_of (l.ahead ++ rest))) e);
    }
