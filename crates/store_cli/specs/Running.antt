-- What a run of a filter has read and written: by what a source had left before and has left now, and what a sink held before and holds now.
--
-- A stream tells what it holds where its `left` or `written` is `Some bytes`, as streams in memory do. Standard input, output and error do
-- not tell: theirs is `None`. Of a stream that does not tell, `Consumes`, `IsAtEnd`, `Appends` and `AppendsPrefix` hold whatever the bytes.
-- Names here (* for this crate alone):
--   a whole run: Done*, SomeMade*, MadeInPart*, Refused*, RefusedAndSays*
--   inputs that tell what they hold: HasOutput*, HasFault*
--   by the answer of a run: Ran*
--   one line: Takes*, Breaks*, Stepped*
use Rattle.std.specs.Prelude.{◌≡◌, ◌⊎◌, ℕ, Bool, true, false, List, [], ◌∷◌, ◌++◌, Option, Some, Result, Ok, Err, IsSomeAnd}
use Rattle.std.specs.Io.KnownBytes.{Appends, Consumes, IsAtEnd}
use Rattle.rp_base.specs.Streams.{AppendsPrefix, WritesLine}
use Rattle.line_input.specs.Taking.{ReadOn}
use Rattle.store_text_defs.specs.declared.Filter.{Filter}
use Rattle.store_text_defs.specs.Filters.{AreMade, Filtered, IsFaulty, IsLine, Made, Stopped, becomes, ended, input_of, output_of}
use Rattle.store_cli.specs.declared.stops.Stop.{Stop}
use Rattle.store_cli.specs.declared.stops.Stop.TheVariants.{NoMemory, Read, Write, Faulty}
use Rattle.store_cli.specs.Messages.{fault_line}

-- ---- a whole run

-- The input was read to its end and has no faulty line, and what becomes of it was written, and nothing else.
pub record Done (f : Filter) (before now old new : Option (List ℕ)) : Type 0 where
  pub input : List ℕ
  pub taken : Consumes before now input
  pub over : IsAtEnd now
  pub output : List ℕ
  pub is : Filtered f input output
  pub wrote : Appends old new output

-- What some lines from the front become was written, and nothing else; more may have been read.
pub record SomeMade (f : Filter) (before now old new : Option (List ℕ)) : Type 0 where
  pub made : Made
  pub are : AreMade f made
  pub more : List ℕ
  pub taken : Consumes before now (input_of made ++ more)
  pub wrote : Appends old new (output_of made)

-- and of what the next line becomes, a prefix
pub record MadeInPart (f : Filter) (before now old new : Option (List ℕ)) : Type 0 where
  pub made : Made
  pub next : List ℕ × List ℕ
  pub are : AreMade f (made ++ next ∷ [])
  pub more : List ℕ
  pub taken : Consumes before now (input_of (made ++ next ∷ []) ++ more)
  pub mid : Option (List ℕ)
  pub wrote : Appends old mid (output_of made)
  pub part : AppendsPrefix mid new next.1

-- What was read has a first faulty line, of this number, whatever comes after it, or as the input ends with it; and what becomes of those
-- before it was written, and nothing else.
pub record Refused (f : Filter) (number : ℕ) (before now old new : Option (List ℕ)) : Type 0 where
  pub read : List ℕ
  pub taken : Consumes before now read
  pub output : List ℕ
  pub is : ((rest : List ℕ) → Stopped f (read ++ rest) output number) ⊎ (IsAtEnd now × Stopped f read output number)
  pub wrote : Appends old new output

-- and the line that says so was written to standard error, or this failed in the midst of it: by the count of its faults before and now
pub record RefusedAndSays (f : Filter) (before now old new errors errors_now : Option (List ℕ)) (faults faults_now : ℕ) : Type 0 where
  pub number : ℕ
  pub refused : Refused f number before now old new
  pub said : WritesLine (fault_line number) errors errors_now faults faults_now

-- ---- inputs that tell what they hold

-- the input has no faulty line
abbrev pub HasOutput : Filter → Option (List ℕ) → Type 0
HasOutput f left = IsSomeAnd left (λ input. (output : List ℕ) × Filtered f input output)

-- the input has a first faulty line
abbrev pub HasFault : Filter → Option (List ℕ) → Type 0
HasFault f left = IsSomeAnd left (λ input. (output : List ℕ) × (number : ℕ) × Stopped f input output number)

-- ---- by the answer of a run

abbrev pub Ran : Filter → Option (List ℕ) → Option (List ℕ) → Option (List ℕ) → Option (List ℕ) → Result (Unit {0}) Stop → Type 0
Ran f before now old new (Ok u) = Done f before now old new
Ran f before now old new (Err NoMemory) = SomeMade f before now old new
Ran f before now old new (Err Read) = SomeMade f before now old new
Ran f before now old new (Err Write) = MadeInPart f before now old new
Ran f before now old new (Err (Faulty number)) = Refused f number before now old new

-- ---- one line

-- A line was taken of those that were ahead or are read on, and becomes this.
pub record Takes (f : Filter) (before now : Option (List ℕ)) (ahead left : List ℕ) (m : List ℕ × List ℕ) : Type 0 where
  pub read : ReadOn before now ahead (ended m.0 ++ left)
  pub fits : IsLine m.0
  pub is : becomes f m.0 ≡ Some m.1

-- Bytes are ahead now, or were taken last, that begin with a faulty line, whatever comes after them, or as the input ends with them.
pub record Breaks (f : Filter) (before now : Option (List ℕ)) (ahead : List ℕ) : Type 0 where
  pub bytes : List ℕ
  pub read : ReadOn before now ahead bytes
  pub is : ((rest : List ℕ) → IsFaulty f (bytes ++ rest)) ⊎ (IsAtEnd now × IsFaulty f bytes)

-- by the answer of a step: whether there was a line
abbrev pub Stepped : Filter → ℕ → Option (List ℕ) → Option (List ℕ) → List ℕ → List ℕ → Option (List ℕ) → Option (List ℕ)
    → Result Bool Stop → Type 0
Stepped f number before now ahead left old new (Ok true) = (m : List ℕ × List ℕ) × Takes f before now ahead left m × Appends old new m.1
Stepped f number before now ahead left old new (Ok false) = ReadOn before now ahead [] × IsAtEnd now × (new ≡ old)
Stepped f number before now ahead left old new (Err NoMemory) = (bytes : List ℕ) × ReadOn before now ahead bytes × (new ≡ old)
Stepped f number before now ahead left old new (Err Read) = (bytes : List ℕ) × ReadOn before now ahead bytes × (new ≡ old)
Stepped f number before now ahead left old new (Err Write) =
    (m : List ℕ × List ℕ) × Takes f before now ahead left m × AppendsPrefix old new m.1
Stepped f number before now ahead left old new (Err (Faulty n)) = (n ≡ number) × Breaks f before now ahead × (new ≡ old)
