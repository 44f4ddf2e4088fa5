-- What a run has read and written that answers an input view by view: by what a source had left before and has left now, what a sink held
-- before and holds now, and the counts of the sink's faults before and now. Of a stream that does not tell what it holds, nothing is said by
-- it. The answer is any function of all bytes of the input that goes on from a place of a chain: `chain_of`, or another one that a chain is in.
-- Names here (* for this crate alone):
--   ReachesBy, AnsweredBy, ShownBy*, SomeShownBy, ShownAndSaysBy, ShownInPartBy, FaultyBy, RefusedBy, HasStatusBy
--   of a chain from a kit's first view on: Reaches*, Answered*, SomeShown*, ShownAndSays*, ShownInPart*, Faulty*, Refused*, HasStatus*
use Rattle.std.specs.Prelude.{◌≡◌, ◌⊎◌, ℕ, List, [], ◌++◌, Option, IsSomeAnd}
use Rattle.std.specs.Io.KnownBytes.{Appends}
use Rattle.rp_base.specs.Streams.{AppendsPrefix, WritesLine}
use Rattle.chain_text_defs.specs.Chains.{Answer, behind, chain_of, stopped, view_line}
use Rattle.chain_words.specs.Places.{Ends, Leads, Place, Settles, answer_at}

-- Views were read, which have these lines, and the answer goes on behind these lines at this place.
abbrev pub ReachesBy : (List ℕ → Answer) → Option (List ℕ) → Option (List ℕ) → List ℕ → Place → Type 0
ReachesBy answer before now lines p = Leads answer before now (λ rest. behind lines (answer_at p rest))

-- The input was read to its end, its status is 0, and its answer was written and nothing else.
pub record AnsweredBy (answer : List ℕ → Answer) (before now old new : Option (List ℕ)) : Type 0 where
  pub lines : List ℕ
  pub all : Ends answer before now (record { written = lines; status = 0 })
  pub wrote : Appends old new lines

-- Whole lines of views were written and nothing else: those of what was read up to a place.
pub record ShownBy (answer : List ℕ → Answer) (before now old new : Option (List ℕ)) : Type 0 where
  pub lines : List ℕ
  pub place : Place
  pub stands : ReachesBy answer before now lines place
  pub wrote : Appends old new lines

-- Whole lines of views were written and nothing else: none, or those of what was read up to a place.
pub record SomeShownBy (answer : List ℕ → Answer) (before now old new : Option (List ℕ)) : Type 0 where
  pub lines : List ℕ
  pub are : (lines ≡ []) ⊎ ((p : Place) × ReachesBy answer before now lines p)
  pub wrote : Appends old new lines

-- and then this line, or a prefix of it where the sink failed
pub record ShownAndSaysBy (answer : List ℕ → Answer) (line : List ℕ) (before now old new : Option (List ℕ)) (faults faults_now : ℕ) : Type 0 where
  pub mid : Option (List ℕ)
  pub shown : SomeShownBy answer before now old mid
  pub said : WritesLine line mid new faults faults_now

-- Whole lines of views were written, and of the next one a prefix.
pub record ShownInPartBy (answer : List ℕ → Answer) (before now old new : Option (List ℕ)) : Type 0 where
  pub mid : Option (List ℕ)
  pub lines : List ℕ
  pub place : Place
  pub stands : ReachesBy answer before now (lines ++ view_line place.view) place
  pub wrote : Appends old mid lines
  pub part : AppendsPrefix mid new (view_line place.view)

-- What was read has a fault, which these words say, and the lines of the views before it were written and nothing else.
pub record FaultyBy (answer : List ℕ → Answer) (words : List (List ℕ)) (before now old new : Option (List ℕ)) : Type 0 where
  pub lines : List ℕ
  pub is : Settles answer before now (behind lines (stopped words))
  pub wrote : Appends old new lines

-- and then the line that says so, or a prefix of it where the sink failed
pub record RefusedBy (answer : List ℕ → Answer) (before now old new : Option (List ℕ)) (faults faults_now : ℕ) : Type 0 where
  pub mid : Option (List ℕ)
  pub words : List (List ℕ)
  pub faulty : FaultyBy answer words before now old mid
  pub said : WritesLine (stopped words).written mid new faults faults_now

-- the source says what it has left, and the answer to it has this status
abbrev pub HasStatusBy : (List ℕ → Answer) → ℕ → Option (List ℕ) → Type 0
HasStatusBy answer status left = IsSomeAnd left (λ bytes. (answer bytes).status ≡ status)

-- ---- of a chain from a kit's first view on

abbrev pub Reaches : Option (List ℕ) → Option (List ℕ) → List ℕ → Place → Type 0
Reaches before now lines p = ReachesBy chain_of before now lines p

abbrev pub Answered : Option (List ℕ) → Option (List ℕ) → Option (List ℕ) → Option (List ℕ) → Type 0
Answered before now old new = AnsweredBy chain_of before now old new

abbrev pub SomeShown : Option (List ℕ) → Option (List ℕ) → Option (List ℕ) → Option (List ℕ) → Type 0
SomeShown before now old new = SomeShownBy chain_of before now old new

abbrev pub ShownAndSays : List ℕ → Option (List ℕ) → Option (List ℕ) → Option (List ℕ) → Option (List ℕ) → ℕ → ℕ → Type 0
ShownAndSays line before now old new faults faults_now = ShownAndSaysBy chain_of line before now old new faults faults_now

abbrev pub ShownInPart : Option (List ℕ) → Option (List ℕ) → Option (List ℕ) → Option (List ℕ) → Type 0
ShownInPart before now old new = ShownInPartBy chain_of before now old new

abbrev pub Faulty : List (List ℕ) → Option (List ℕ) → Option (List ℕ) → Option (List ℕ) → Option (List ℕ) → Type 0
Faulty words before now old new = FaultyBy chain_of words before now old new

abbrev pub Refused : Option (List ℕ) → Option (List ℕ) → Option (List ℕ) → Option (List ℕ) → ℕ → ℕ → Type 0
Refused before now old new faults faults_now = RefusedBy chain_of before now old new faults faults_now

abbrev pub HasStatus : ℕ → Option (List ℕ) → Type 0
HasStatus status left = HasStatusBy chain_of status left
