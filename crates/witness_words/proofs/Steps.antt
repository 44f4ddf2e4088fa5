-- One line of evidence, and what is judged from there on.
use Rattle.std.proofs.Common.{◌≡◌, inl, inr, ℕ, ◌+◌, ◌<◌, ◌==◌, Bool, true, false, not, List, [], ◌∷◌, ◌++◌, length, Option, None, Some, Result, Ok, Err, refl, sym, ap, subst, ◌∙◌, append_assoc, arith, length-append}
use Rattle.std.specs.Prelude.{if◌then◌else◌}
use Rattle.std.specs.Option.{ok_or}
use Rattle.std.proofs.lemmas.Bool.{eqb-true, le-leb}
use Rattle.byte_defs.specs.Fields.{◌>>=◌, refuse_if}
use Rattle.text_defs.specs.Words.{parts_of}
use Rattle.kit_defs.specs.Kits.{Kit}
use Rattle.kit_defs.specs.KitReading.{Line}
use Rattle.input_defs.specs.Lines.{line_at, line_within}
use Rattle.input_defs.proofs.FirstLines.{line_stays, no_short_line, none_longer, short_is_first}
use Rattle.group_defs.specs.Process.{Setting}
use Rattle.line_input.specs.Places.{Ends, Leads, Settles}
use Rattle.line_input.specs.Taking.{Answered, Taken}
use Rattle.line_input.specs.declared.lines.Next.{Next}
use Rattle.line_input.specs.declared.lines.Next.TheVariants as nexts
use Rattle.line_laws.proofs.Parts.{one_part, parts_by_line, parts_some}
use Rattle.audit_defs.specs.Players.{setting_of}
use Rattle.witness_defs.specs.Lines.{Evidence, evidence_in, most_evidence_line}
use Rattle.witness_defs.specs.Judging.{NoInput, NotTaken, Refusal, is_taken, judged_at}
use Rattle.audit_input.specs.declared.stops.Fault.{Fault}
use Rattle.audit_input.specs.declared.stops.Fault.TheVariants as faults
use Rattle.witness_words.specs.Places.{Refuses, ReportsAs, Verdict, and_then, behind, if_taken, judged_from, line_gives, place}

-- judging goes on behind what a line gives
abbrev goes_on : Setting → ℕ → List (List ℕ) → Result Evidence Refusal → Verdict
goes_on s n parts (Err why) = Err why
goes_on s n parts (Ok e) = and_then (e ∷ []) (judged_at s (n + 1) parts)

-- a line that is too long
no_evidence : (line : List ℕ) → most_evidence_line < length line → evidence_in line ≡ None
unfolding evidence_in
no_evidence line long = rw (le-leb (most_evidence_line + 1) (length line) (omega arith)) refl

-- ---- a line, and a further part

module _ (s : Setting) (n : ℕ) where
  part_judged : (line next : List ℕ) (more : List (List ℕ)) → judged_at s n (line ∷ next ∷ more) ≡ goes_on s n (next ∷ more) (line_gives s n line)
  unfolding judged_at
  part_judged line next more = of (evidence_in line)
    where
      by_test : (e : Evidence) (taken : Bool)
          → (refuse_if (not taken) (NotTaken n) >>= λ u. judged_at s (n + 1) (next ∷ more) >>= λ others. Ok (e ∷ others))
          ≡ goes_on s n (next ∷ more) (if taken then Ok e else Err (NotTaken n))
      by_test e true = refl
      by_test e false = refl

      of : (o : Option Evidence)
          → (ok_or o (NoInput (Line n)) >>= λ e. refuse_if (not (is_taken s e)) (NotTaken n)
          >>= λ u. judged_at s (n + 1) (next ∷ more) >>= λ others. Ok (e ∷ others))
          ≡ goes_on s n (next ∷ more) (if_taken s n o)
      of None = refl
      of (Some e) = by_test e (is_taken s e)

  -- the first line of bytes is judged
  line_judged : (bytes line rest : List ℕ) → line_at bytes ≡ Some (line, rest)
      → judged_at s n (parts_of bytes) ≡ goes_on s n (parts_of rest) (line_gives s n line)
  line_judged bytes line rest e =
      let some = parts_some rest in
      ap (judged_at s n) (parts_by_line bytes line rest e ∙ ap (λ (ps : List (List ℕ)). line ∷ ps) some.2)
      ∙ part_judged line some.0 some.1
      ∙ ap (λ (ps : List (List ℕ)). goes_on s n ps (line_gives s n line)) (sym some.2)

  too_long : (line : List ℕ) → most_evidence_line < length line → line_gives s n line ≡ Err (NoInput (Line n))
  too_long line long = ap (if_taken s n) (no_evidence line long)

  some_left : (bytes : List ℕ) → 0 < length bytes → judged_at s n (bytes ∷ []) ≡ Err (NoInput (Line n))
  unfolding judged_at
  some_left bytes some = of (length bytes == 0) refl
    where
      of : (t : Bool) → (length bytes == 0) ≡ t → (let v : Verdict = if t then Ok [] else Err (NoInput (Line n)) in v) ≡ Err (NoInput (Line n))
      of true e = absurd (omega (arith, eqb-true (length bytes) 0 e))
      of false e = refl

  -- bytes that begin with no line of so many bytes at most
  bad_line : (bytes : List ℕ) → 0 < length bytes → line_within most_evidence_line bytes ≡ None
      → judged_at s n (parts_of bytes) ≡ Err (NoInput (Line n))
  bad_line bytes some none = elim (no_short_line most_evidence_line bytes none) [
    | inl nowhere ↦ ap (judged_at s n) (one_part bytes nowhere) ∙ some_left bytes some
    | inr found ↦ line_judged bytes found.0.0 found.0.1 found.1
        ∙ ap (goes_on s n (parts_of found.0.1)) (too_long found.0.0 found.2)
  ]

  nothing_left : judged_at s n (parts_of []) ≡ Ok []
  unfolding judged_at
  nothing_left = refl

-- ---- what a read gives

module _ (kit : Kit) (n : ℕ) (ahead : List ℕ) (before now : Option (List ℕ)) where
  at_first : (bytes read rest : List ℕ) → bytes ≡ ahead ++ read
      → judged_from (place kit n ahead) (read ++ rest) ≡ judged_at (setting_of kit) n (parts_of (bytes ++ rest))
  at_first bytes read rest is =
      ap (λ (t : List ℕ). judged_at (setting_of kit) n (parts_of t))
      (sym (append_assoc ahead read rest) ∙ ap (λ (t : List ℕ). t ++ rest) (sym is))

  at_end : (bytes read : List ℕ) → bytes ≡ ahead ++ read
      → judged_from (place kit n ahead) read ≡ judged_at (setting_of kit) n (parts_of bytes)
  at_end bytes read is = ap (λ (t : List ℕ). judged_at (setting_of kit) n (parts_of t)) (sym is)

  module _ (l : Taken) (next : Next) (a : Answered most_evidence_line before now ahead l next) where
    -- the input has ended
    pub input_ended : next ≡ nexts.End → Ends (judged_from (place kit n ahead)) before now (Ok [])
    input_ended is =
        let e = subst (Answered most_evidence_line before now ahead l) is a in
        record {
          read = e.read.0;
          taken = e.read.1;
          ended = e.last;
          is = at_end e.bytes e.read.0 e.read.2 ∙ ap (λ (t : List ℕ). judged_at (setting_of kit) n (parts_of t)) e.takes.0
              ∙ nothing_left (setting_of kit) n;
        }

    -- no line comes
    broken : next ≡ nexts.Broken → Settles (judged_from (place kit n ahead)) before now (Err (NoInput (Line n)))
    broken is =
        let b = subst (Answered most_evidence_line before now ahead l) is a in
        record {
          read = b.read.0;
          taken = b.read.1;
          is = elim b.last [
            | inl long ↦ inl (λ rest. at_first b.bytes b.read.0 rest b.read.2
                ∙ bad_line (setting_of kit) n (b.bytes ++ rest) (omega (arith, b.takes.1, length-append b.bytes rest))
                (none_longer most_evidence_line b.bytes rest b.takes.0 long))
            | inr over ↦ inr (over, at_end b.bytes b.read.0 b.read.2 ∙ bad_line (setting_of kit) n b.bytes b.takes.1 b.takes.0)
          ];
        }

    pub line_broken : next ≡ nexts.Broken → (fault : Fault) → faults.Line n ≡ fault
        → Refuses (judged_from (place kit n ahead)) before now fault
    line_broken is fault same =
        subst (Refuses (judged_from (place kit n ahead)) before now) same
        (record { why = NoInput (Line n); is = broken is; reported = (refl, refl) })

    -- a line was taken
    module _ (is : next ≡ nexts.Line) (line : List ℕ) (this : line ≡ l.line) where
      t : Answered most_evidence_line before now ahead l nexts.Line
      t = subst (Answered most_evidence_line before now ahead l) is a

      goes_behind : (rest : List ℕ) → judged_from (place kit n ahead) (t.read.0 ++ rest)
          ≡ goes_on (setting_of kit) n (parts_of (l.ahead ++ rest)) (line_gives (setting_of kit) n line)
      goes_behind rest = at_first t.bytes t.read.0 rest t.read.2
          ∙ line_judged (setting_of kit) n (t.bytes ++ rest) l.line (l.ahead ++ rest)
          (line_stays t.bytes l.line l.ahead rest (short_is_first most_evidence_line t.bytes l.line l.ahead t.takes))
          ∙ ap (λ (w : List ℕ). goes_on (setting_of kit) n (parts_of (l.ahead ++ rest)) (line_gives (setting_of kit) n w)) (sym this)

      pub line_taken : (e : Evidence) × (line_gives (setting_of kit) n line ≡ Ok e)
          → (e : Evidence) × Leads (judged_from (place kit n ahead)) before now (behind e (place kit (n + 1) l.ahead))
      line_taken gives = (
        gives.0,
        record {
          read = t.read.0;
          taken = t.read.1;
          is = λ rest. goes_behind rest ∙ ap (goes_on (setting_of kit) n (parts_of (l.ahead ++ rest))) gives.1;
        },
      )

      pub line_refused : (fault : Fault) → (r : Refusal) × (line_gives (setting_of kit) n line ≡ Err r) × ReportsAs fault r
          → Refuses (judged_from (place kit n ahead)) before now fault
      line_refused fault gives = record {
        why = gives.0;
        is = record {
          read = t.read.0;
          taken = t.read.1;
          is = inl (λ rest. goes_behind rest ∙ ap (goes_on (setting_of kit) n (parts_of (l.ahead ++ rest))) gives.1);
        };
        reported = gives.2;
      }

-- ---- one line

module _ (s : Setting) (n : ℕ) (line : List ℕ) where
  -- what a fault of it tells
  abbrev pub Wrong : Fault → Type 0
  Wrong fault = (r : Refusal) × (line_gives s n line ≡ Err r) × ReportsAs fault r

  -- it is none of evidence
  pub no_line : (let none : Option Evidence = None in none) ≡ evidence_in line → (fault : Fault) → faults.Line n ≡ fault → Wrong fault
  no_line none fault same = (
    NoInput (Line n),
    ap (if_taken s n) (sym none),
    subst (λ (f : Fault). ReportsAs f (NoInput (Line n))) same (refl, refl),
  )

  -- its evidence is taken, or it is not
  module _ (e : Evidence) (is : Some e ≡ evidence_in line) (b : Bool) (test : b ≡ is_taken s e) where
    by-test : line_gives s n line ≡ (if b then Ok e else Err (NotTaken n))
    by-test = ap (if_taken s n) (sym is) ∙ ap (λ (t : Bool). let r : Result Evidence Refusal = if t then Ok e else Err (NotTaken n) in r) (sym test)

    pub taken_line : b ≡ true → (x : Evidence) × (line_gives s n line ≡ Ok x)
    taken_line holds = (e, by-test ∙ ap (λ (t : Bool). let r : Result Evidence Refusal = if t then Ok e else Err (NotTaken n) in r) holds)

    pub untaken_line : b ≡ false → (fault : Fault) → faults.Evidence n ≡ fault → Wrong fault
    untaken_line fails fault same = (
      NotTaken n,
      by-test ∙ ap (λ (t : Bool). let r : Result Evidence Refusal = if t then Ok e else Err (NotTaken n) in r) fails,
      subst (λ (f : Fault). ReportsAs f (NotTaken n)) same (refl, refl),
    )
