-- A chain that may begin at the line of a view: the answer from its first line on, and what a run has written of it.
use Rattle.std.specs.Prelude.{◌≡◌, ◌⊎◌, ℕ, List, ◌++◌, Option, Some, None, Ok}
use Rattle.std.specs.Io.KnownBytes.{Appends}
use Rattle.rp_base.specs.Streams.{AppendsPrefix}
use Rattle.text_defs.specs.Words.{parts_of}
use Rattle.kit_defs.specs.Kits.{Kit}
use Rattle.group_defs.specs.Views.{View}
use Rattle.group_defs.specs.Process.{Setting}
use Rattle.line_input.specs.declared.lines.Next.{Next}
use Rattle.line_input.specs.declared.lines.Next.TheVariants as nexts
use Rattle.chain_text_defs.specs.Chains.{Answer, setting_of, view_line}
use Rattle.chain_words.specs.Lines.{taken}
use Rattle.chain_words.specs.Places.{Place, Settles}
use Rattle.chain_words.specs.Running.{FaultyBy, ShownInPartBy, SomeShownBy, ReachesBy}
use Rattle.proof_defs.specs.Starts.{start_in, started_at}

-- the answer to the lines after a kit, from this number on, where these bytes of them are read already
abbrev pub starts_at : Kit → ℕ → List ℕ → List ℕ → Answer
starts_at kit n ahead more = started_at (setting_of kit) n (parts_of (ahead ++ more))

-- the view at which a chain begins, by what comes next: none where that is no line of a view
abbrev pub start_next : Setting → Next → List ℕ → Option View
start_next s nexts.Line line = start_in s line
start_next s nexts.Broken line = None
start_next s nexts.End line = None

-- the lines of a first view, and of the one after it where one is shown
abbrev pub first_lines : View → Option View → List ℕ
first_lines v None = view_line v
first_lines v (Some w) = view_line v ++ view_line w

-- What comes next, where the next line has this number, shows a view after the first one, and behind the first one's line a prefix of its line
-- was written.
pub record PartShown (s : Setting) (n : ℕ) (next : Next) (line : List ℕ) (old new : Option (List ℕ)) : Type 0 where
  pub view : View
  pub shown : taken s n s.genesis next line ≡ Ok (Some view)
  pub mid : Option (List ℕ)
  pub wrote : Appends old mid (view_line s.genesis)
  pub part : AppendsPrefix mid new (view_line view)

-- Whole lines of views were written and nothing else: those of what was read up to this place.
pub record BegunBy (answer : List ℕ → Answer) (before now old new : Option (List ℕ)) (p : Place) : Type 0 where
  pub lines : List ℕ
  pub stands : ReachesBy answer before now lines p
  pub wrote : Appends old new lines

-- What was read has this answer, whatever comes after it, or as the input ends with it, and a prefix of it was written and nothing else.
pub record SettledInPart (answer : List ℕ → Answer) (before now old new : Option (List ℕ)) : Type 0 where
  pub all : Answer
  pub is : Settles answer before now all
  pub wrote : AppendsPrefix old new all.written

-- a prefix of the answer was written and nothing else: whole lines of views and a prefix of the next one, or a prefix of all of it
abbrev pub InPartBy : (List ℕ → Answer) → Option (List ℕ) → Option (List ℕ) → Option (List ℕ) → Option (List ℕ) → Type 0
InPartBy answer before now old new = ShownInPartBy answer before now old new ⊎ SettledInPart answer before now old new

-- Whole lines of views were written and nothing else: none, those of what was read up to a place, or those before a fault that it has.
abbrev pub LinesBy : (List ℕ → Answer) → Option (List ℕ) → Option (List ℕ) → Option (List ℕ) → Option (List ℕ) → Type 0
LinesBy answer before now old new = SomeShownBy answer before now old new
    ⊎ ((words : List (List ℕ)) × FaultyBy answer words before now old new)
