-- What is read at a place, and what was read is then.
use Rattle.std.proofs.Common.{◌≡◌, inl, inr, ℕ, ◌+◌, ◌-◌, ◌<◌, false, List, [], ◌∷◌, ◌++◌, length, take, drop, Option, None, Some, Ok, Err, sym, ap, subst, ◌∙◌, append_assoc, arith, length-append}
use Rattle.std.specs.Prelude.{nat_lt, if◌then◌else◌}
use Rattle.std.proofs.lemmas.Bool.{lt-ltb, le-ltb}
use lib.Seq.{drop-append_seam, take-append_seam}
use Rattle.kit_defs.specs.KitReading.{Line}
use Rattle.input_defs.proofs.FirstLines.{line_stays, none_longer, short_is_first}
use Rattle.line_input.specs.Places.{Ends, Leads, Settles}
use Rattle.line_input.specs.Taking.{Answered, ReadOn, Taken, TakesBytes}
use Rattle.line_input.specs.declared.lines.Next.{Next}
use Rattle.line_input.specs.declared.lines.Next.TheVariants as nexts
use Rattle.line_input.proofs.Places.{leads_more, settles_more}
use Rattle.audit_defs.specs.Inputs.{journals_at}
use Rattle.audit_input.specs.Places.{and_then, behind_journal, behind_line, journals_behind, journals_from, length_within, place}
use Rattle.audit_input.proofs.Lines.{bad_line, goes_on, line_read, nothing_left}

-- ---- the line

module _ (left n room : ℕ) (ahead : List ℕ) (before now : Option (List ℕ)) where
  at_first : (bytes read rest : List ℕ) → bytes ≡ ahead ++ read
      → journals_from (place left n room ahead) (read ++ rest) ≡ journals_at left n room (bytes ++ rest)
  at_first bytes read rest is =
      ap (journals_at left n room) (sym (append_assoc ahead read rest) ∙ ap (λ (t : List ℕ). t ++ rest) (sym is))

  at_end : (bytes read : List ℕ) → bytes ≡ ahead ++ read → journals_from (place left n room ahead) read ≡ journals_at left n room bytes
  at_end bytes read is = ap (journals_at left n room) (sym is)

  module _ (l : Taken) (next : Next) (a : Answered 18 before now ahead l next) where
    -- the input has ended
    pub input_ended : next ≡ nexts.End → Ends (journals_from (place left n room ahead)) before now (Ok [])
    input_ended is =
        let e = subst (Answered 18 before now ahead l) is a in
        record {
          read = e.read.0;
          taken = e.read.1;
          ended = e.last;
          is = at_end e.bytes e.read.0 e.read.2 ∙ ap (journals_at left n room) e.takes.0 ∙ nothing_left left n room;
        }

    -- no line comes
    pub line_broken : next ≡ nexts.Broken → Settles (journals_from (place left n room ahead)) before now (Err (Line n))
    line_broken is =
        let b = subst (Answered 18 before now ahead l) is a in
        record {
          read = b.read.0;
          taken = b.read.1;
          is = elim b.last [
            | inl long ↦ inl (λ rest. at_first b.bytes b.read.0 rest b.read.2
                ∙ bad_line left n room (b.bytes ++ rest) (omega (arith, b.takes.1, length-append b.bytes rest))
                (none_longer 18 b.bytes rest b.takes.0 long))
            | inr over ↦ inr (over, at_end b.bytes b.read.0 b.read.2 ∙ bad_line left n room b.bytes b.takes.1 b.takes.0)
          ];
        }

    -- a line was taken
    module _ (is : next ≡ nexts.Line) (line : List ℕ) (this : line ≡ l.line) where
      t : Answered 18 before now ahead l nexts.Line
      t = subst (Answered 18 before now ahead l) is a

      goes_behind : (rest : List ℕ) → journals_from (place left n room ahead) (t.read.0 ++ rest)
          ≡ goes_on left n room (length_within left room line) (l.ahead ++ rest)
      goes_behind rest = at_first t.bytes t.read.0 rest t.read.2
          ∙ line_read left n room (t.bytes ++ rest) l.line (l.ahead ++ rest)
          (line_stays t.bytes l.line l.ahead rest (short_is_first 18 t.bytes l.line l.ahead t.takes))
          ∙ ap (λ (w : List ℕ). goes_on left n room (length_within left room w) (l.ahead ++ rest)) (sym this)

      pub line_taken : (len : ℕ) → Some len ≡ length_within left room line
          → Leads (journals_from (place left n room ahead)) before now (behind_line len (place left n room l.ahead))
      line_taken len fits = record {
        read = t.read.0;
        taken = t.read.1;
        is = λ rest. goes_behind rest ∙ ap (λ (o : Option ℕ). goes_on left n room o (l.ahead ++ rest)) (sym fits);
      }

      pub line_refused : (let none : Option ℕ = None in none) ≡ length_within left room line
          → Settles (journals_from (place left n room ahead)) before now (Err (Line n))
      line_refused none = record {
        read = t.read.0;
        taken = t.read.1;
        is = inl (λ rest. goes_behind rest ∙ ap (λ (o : Option ℕ). goes_on left n room o (l.ahead ++ rest)) (sym none));
      }

-- ---- the journal

first_bytes : (left n room : ℕ) (at journal more : List ℕ) → journals_behind (length journal) (place left n room at) (journal ++ more)
    ≡ and_then (journal ∷ []) (journals_at (left - 1) (n + 1) (room - length journal) more)
first_bytes left n room at journal more = λ i.
    if whole i then Err (Line n)
    else and_then (take-append_seam journal more i ∷ [])
    (journals_at (left - 1) (n + 1) (room - length journal) (drop-append_seam journal more i))
  where
    whole : nat_lt (length (journal ++ more)) (length journal) ≡ false
    whole = le-ltb (length (journal ++ more)) (length journal) (omega (arith, length-append journal more))

too_few : (left n room len : ℕ) (at bytes : List ℕ) → length bytes < len → journals_behind len (place left n room at) bytes ≡ Err (Line n)
too_few left n room len at bytes few = λ i.
    if lt-ltb (length bytes) len few i then Err (Line n)
    else and_then (take len bytes ∷ []) (journals_at (left - 1) (n + 1) (room - len) (drop len bytes))

module _ (left n room len : ℕ) (ahead mid_ahead : List ℕ) (before mid now : Option (List ℕ))
    (line : Leads (journals_from (place left n room ahead)) before mid (behind_line len (place left n room mid_ahead))) where
  behind : (journal left_ahead rest : List ℕ) → length journal ≡ len → (read : ReadOn mid now mid_ahead (journal ++ left_ahead))
      → behind_line len (place left n room mid_ahead) (read.0 ++ rest)
      ≡ behind_journal journal (place (left - 1) (n + 1) (room - length journal) left_ahead) rest
  behind journal left_ahead rest long read =
      ap (journals_behind len (place left n room mid_ahead))
      (sym (append_assoc mid_ahead read.0 rest) ∙ ap (λ (t : List ℕ). t ++ rest) (sym read.2) ∙ append_assoc journal left_ahead rest)
      ∙ ap (λ (k : ℕ). journals_behind k (place left n room mid_ahead) (journal ++ (left_ahead ++ rest))) (sym long)
      ∙ first_bytes left n room mid_ahead journal (left_ahead ++ rest)

  all_taken : (journal left_ahead : List ℕ) → TakesBytes len mid now mid_ahead left_ahead (Some journal)
      → Leads (journals_from (place left n room ahead)) before now
      (behind_journal journal (place (left - 1) (n + 1) (room - length journal) left_ahead))
  all_taken journal left_ahead takes =
      leads_more (journals_from (place left n room ahead)) (behind_line len (place left n room mid_ahead)) (λ js. js) before mid now line
      (behind_journal journal (place (left - 1) (n + 1) (room - length journal) left_ahead))
      (record { read = takes.1.0; taken = takes.1.1; is = λ rest. behind journal left_ahead rest takes.0 takes.1 })

  pub journal_taken : (bytes left_ahead : List ℕ) → TakesBytes len mid now mid_ahead left_ahead (Some bytes) → (journal : List ℕ) → journal ≡ bytes
      → Leads (journals_from (place left n room ahead)) before now
      (behind_journal journal (place (left - 1) (n + 1) (room - length journal) left_ahead))
  journal_taken bytes left_ahead takes journal is =
      subst (λ (j : List ℕ). Leads (journals_from (place left n room ahead)) before now
      (behind_journal j (place (left - 1) (n + 1) (room - length j) left_ahead))) (sym is)
      (all_taken bytes left_ahead takes)

  pub journal_cut : (left_ahead : List ℕ) → TakesBytes len mid now mid_ahead left_ahead None
      → Settles (journals_from (place left n room ahead)) before now (Err (Line n))
  journal_cut left_ahead cut =
      settles_more (journals_from (place left n room ahead)) (behind_line len (place left n room mid_ahead)) (λ js. js) before mid now line
      (Err (Line n))
      (record {
        read = cut.2.0;
        taken = cut.2.1;
        is = inr (
          cut.4,
          ap (journals_behind len (place left n room mid_ahead)) (sym cut.2.2) ∙ too_few left n room len mid_ahead cut.0 cut.1,
        );
      })
