-- One line, and what is gathered from there on.
use Rattle.std.proofs.Common.{◌≡◌, inl, ℕ, ◌+◌, ◌<◌, ◌≤◌, ◌==◌, Bool, true, false, List, [], ◌∷◌, ◌++◌, length, Option, None, Some, Result, Ok, Err, refl, sym, ap, subst, ◌∙◌, arith}
use Rattle.std.specs.Prelude.{IfSome, if◌then◌else◌}
use Rattle.std.proofs.lemmas.Bool.{eqb-true, le-ltb, lt-ltb}
use Rattle.byte_defs.specs.Fields.{◌>>=◌}
use Rattle.text_defs.specs.Words.{parts_of}
use Rattle.kit_defs.specs.Kits.{Kit}
use Rattle.kit_defs.specs.KitReading.{KitFault, Line}
use Rattle.kit_reading.specs.Fronts.{front_fault}
use Rattle.kit_reading.specs.declared.fronts.FrontFault.{FrontFault}
use Rattle.kit_reading.specs.declared.fronts.FrontFault.TheVariants as fronts
use Rattle.kit_reading.specs.declared.faults.KitFault.TheVariants as faults
use Rattle.line_input.specs.Places.{Ends, Leads, Settles}
use Rattle.line_input.specs.Taking.{Answered, Taken}
use Rattle.line_input.specs.declared.lines.Next.{Next}
use Rattle.line_input.specs.declared.lines.Next.TheVariants as nexts
use Rattle.line_laws.proofs.Parts.{parts_some}
use Rattle.line_laws.proofs.Read.{input_ends, is_short, line_leads, no_line_settles, settles_then}
use Rattle.store_defs.specs.Words.{most_state_line_bytes}
use Rattle.store_question_defs.specs.Lines.{Lines}
use Rattle.store_question_defs.specs.Inputs.{lines_from}
use Rattle.store_questions.specs.Gathering.{PlainGathered, after_lines, is_too_many, with_line}
use Rattle.store_questions.specs.Places.{gather_at, place, with_lines}

module _ (kit : Kit) (payload : List ℕ) (n : ℕ) (g : PlainGathered) where
  abbrev F : Lines → Result PlainGathered KitFault
  F parts = with_lines kit payload g (lines_from payload n g.left parts)

  by_others : (line : List ℕ) (others : Result Lines KitFault)
      → with_lines kit payload g (others >>= λ ls. Ok (line ∷ ls)) ≡ with_lines kit payload (with_line kit payload g line) others
  unfolding after_lines
  by_others line (Ok ls) = refl
  by_others line (Err fault) = refl

  taken : (line next : List ℕ) (others : Lines) → length line ≤ most_state_line_bytes → is_too_many payload line g ≡ false
      → F (line ∷ next ∷ others)
      ≡ with_lines kit payload (with_line kit payload g line) (lines_from payload (n + 1) (with_line kit payload g line).left (next ∷ others))
  unfolding lines_from
  taken line next others few may =
      rw (le-ltb most_state_line_bytes (length line) few, may)
      (by_others line (lines_from payload (n + 1) (with_line kit payload g line).left (next ∷ others)))

  one_too_many : (line next : List ℕ) (others : Lines) → length line ≤ most_state_line_bytes → is_too_many payload line g ≡ true
      → F (line ∷ next ∷ others) ≡ Err (Line n)
  unfolding lines_from
  one_too_many line next others few many = rw (le-ltb most_state_line_bytes (length line) few, many) refl

  too_long : (line next : List ℕ) (others : Lines) → most_state_line_bytes < length line → F (line ∷ next ∷ others) ≡ Err (Line n)
  unfolding lines_from
  too_long line next others many = rw (lt-ltb most_state_line_bytes (length line) many) refl

  some_left : (rest : List ℕ) → 0 < length rest → F (rest ∷ []) ≡ Err (Line n)
  unfolding lines_from
  some_left rest some = of (length rest == 0) refl
    where
      of : (t : Bool) → (length rest == 0) ≡ t → with_lines kit payload g (if t then Ok [] else Err (Line n)) ≡ Err (Line n)
      of true e = absurd (omega (arith, eqb-true (length rest) 0 e, some))
      of false e = refl

  all_taken : F ([] ∷ []) ≡ Ok g
  unfolding lines_from after_lines
  all_taken = refl

-- ---- what a read tells

-- how many bytes the code allows a line
limit : 8388608 ≡ most_state_line_bytes
unfolding most_state_line_bytes
limit = refl

module _ (kit : Kit) (payload : List ℕ) (n : ℕ) (g : PlainGathered) (ahead : List ℕ) (before now : Option (List ℕ)) (l : Taken)
    (next : Next) (answers : Answered 8388608 before now ahead l next) where
  a : Answered most_state_line_bytes before now ahead l next
  a = subst (λ (most : ℕ). Answered most before now ahead l next) limit answers

  -- the input has ended
  pub ended : next ≡ nexts.End → Ends (gather_at (place kit payload n g ahead)) before now (Ok g)
  ended is =
      let e = input_ends (F kit payload n g) most_state_line_bytes ahead before now l
      (subst (Answered most_state_line_bytes before now ahead l) is a) in
      record { read = e.read; taken = e.taken; ended = e.ended; is = e.is ∙ all_taken kit payload n g }

  -- no line comes
  pub broken : next ≡ nexts.Broken → Settles (gather_at (place kit payload n g ahead)) before now (Err (Line n))
  broken is = no_line_settles (F kit payload n g) most_state_line_bytes ahead before now l (Err (Line n))
      (λ line first others many. too_long kit payload n g line first others many)
      (λ rest some. some_left kit payload n g rest some)
      (subst (Answered most_state_line_bytes before now ahead l) is a)

  module _ (is : next ≡ nexts.Line) (line : List ℕ) (this : line ≡ l.line) where
    taken_line : Answered most_state_line_bytes before now ahead l nexts.Line
    taken_line = subst (Answered most_state_line_bytes before now ahead l) is a

    few : length line ≤ most_state_line_bytes
    few = subst (λ (t : List ℕ). length t ≤ most_state_line_bytes) (sym this)
        (is_short most_state_line_bytes taken_line.bytes l.line l.ahead taken_line.takes)

    leads : Leads (gather_at (place kit payload n g ahead)) before now (λ rest. F kit payload n g (line ∷ parts_of (l.ahead ++ rest)))
    leads = subst (λ (t : List ℕ). Leads (gather_at (place kit payload n g ahead)) before now (λ rest. F kit payload n g (t ∷ parts_of (l.ahead ++ rest))))
        (sym this) (line_leads (F kit payload n g) most_state_line_bytes ahead before now l taken_line)

    -- one reply too many
    pub refused : is_too_many payload line g ≡ true → Settles (gather_at (place kit payload n g ahead)) before now (Err (Line n))
    refused many = record {
      read = leads.read;
      taken = leads.taken;
      is = inl (λ rest.
          let some = parts_some (l.ahead ++ rest) in
          leads.is rest ∙ ap (λ (ps : Lines). F kit payload n g (line ∷ ps)) some.2
          ∙ one_too_many kit payload n g line some.0 some.1 few many);
    }

    -- or a line that may come
    pub goes_on : (h : PlainGathered) → h ≡ with_line kit payload g line → is_too_many payload line g ≡ false
        → Leads (gather_at (place kit payload n g ahead)) before now (gather_at (place kit payload (n + 1) h l.ahead))
    goes_on h with may = record {
      read = leads.read;
      taken = leads.taken;
      is = λ rest.
          let some = parts_some (l.ahead ++ rest) in
          leads.is rest ∙ ap (λ (ps : Lines). F kit payload n g (line ∷ ps)) some.2
          ∙ taken kit payload n g line some.0 some.1 few may
          ∙ ap (λ (ps : Lines). with_lines kit payload (with_line kit payload g line) (lines_from payload (n + 1) (with_line kit payload g line).left ps))
          (sym some.2)
          ∙ ap (λ (k : PlainGathered). with_lines kit payload k (lines_from payload (n + 1) k.left (parts_of (l.ahead ++ rest)))) (sym with);
    }

-- ---- faults

pub settles_if : {X : Type 0} (first : List ℕ → Result X KitFault) (later : List ℕ → Result X KitFault) (before mid now : Option (List ℕ))
    (o : Option KitFault) → Leads first before mid later → IfSome o (λ f. Settles later mid now (Err f))
    → IfSome o (λ f. Settles first before now (Err f))
settles_if first later before mid now None a h = tt
settles_if first later before mid now (Some f) a h = settles_then first later (Err f) before mid now a h

-- the fault of a line that is none
pub line_fault_is : {X : Type 0} (answer : List ℕ → Result X KitFault) (before now : Option (List ℕ)) (n : ℕ) (e : FrontFault)
    → e ≡ fronts.Kit (faults.Line n) → Settles answer before now (Err (Line n)) → IfSome (front_fault e) (λ f. Settles answer before now (Err f))
line_fault_is answer before now n e is h =
    subst (λ (x : FrontFault). IfSome (front_fault x) (λ f. Settles answer before now (Err f))) (sym is) h
