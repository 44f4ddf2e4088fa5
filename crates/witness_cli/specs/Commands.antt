-- The words that ask for something.
--   convict P P ..     the kit and the journals that are read give evidence against whom they convict; these processes are taken as correct:
--                      one at least, by rising numbers up to 63
--   proofs P           the kit and the journals that are read give proofs of the views that this process left: a number up to 63
--   judge              the kit and the evidence that are read are judged
--   chain              the kit, the line of a view and the proofs that are read give the views after it
use Rattle.std.specs.Prelude.{◌≡◌, ℕ, ◌≤◌, ◌==◌, if◌then◌else◌, List, [], ◌∷◌, length, map, codes, Option, Some, None, option_map, String, string_bytes}
use Rattle.std.specs.declared.alloc.Global.{Global}
use Rattle.std.specs.Fmt.{decimal}
use Rattle.byte_defs.specs.Equality.{same_bytes}
use Rattle.text_defs.specs.Words.{process_of}
use Rattle.message_defs.specs.Limits.{last_process}
use Rattle.command_line.specs.Commands.{AreListed}
use Rattle.command_line.specs.Reading.{listed_of}
use Rattle.witness_cli.specs.declared.commands.Command as code
use Rattle.witness_cli.specs.declared.commands.Command.TheVariants as asked

-- what is asked
pub data Command : Type 0 where
  -- evidence, with these processes taken as correct
  Convict : (listed : List ℕ) → Command
  -- proofs of the views that this process left
  Proofs : (process : ℕ) → Command
  -- a verdict on evidence
  Judge : Command
  -- the views that proofs show, from any view on
  Chain : Command

-- as the code has it
abbrev pub command : code.Command → Command
command (asked.Convict listed) = Convict listed
command (asked.Proofs p) = Proofs p
command asked.Judge = Judge
command asked.Chain = Chain

abbrev pub command_words : Command → List (List ℕ)
command_words (Convict listed) = codes "convict" ∷ map decimal listed
command_words (Proofs p) = codes "proofs" ∷ decimal p ∷ []
command_words Judge = codes "judge" ∷ []
command_words Chain = codes "chain" ∷ []

-- the processes of a `convict` are some that an audit can take as correct, and that of a `proofs` is one
abbrev pub IsCommand : Command → Type 0
IsCommand (Convict listed) = AreListed listed
IsCommand (Proofs p) = p ≤ last_process
IsCommand Judge = Unit {0}
IsCommand Chain = Unit {0}

-- the words are those of the command
pub record AsksBy (words : List (List ℕ)) (command : Command) : Type 0 where
  pub fits : IsCommand command
  pub spelled : words ≡ command_words command

abbrev pub Asks : List (String Global) → Command → Type 0
Asks words command = AsksBy (map string_bytes words) command

-- the words are those of some command
abbrev pub AskAny : List (String Global) → Type 0
AskAny words = (command : Command) × Asks words command

-- ---- word by word

-- the process of a word, where it is the only one
abbrev pub one_process : List (List ℕ) → Option ℕ
one_process (word ∷ []) = process_of word
one_process _ = None

-- the command of a word that has none behind it
abbrev pub alone_of : List ℕ → Option Command
alone_of word =
    if same_bytes word (codes "judge") then Some Judge else
    (if same_bytes word (codes "chain") then Some Chain else None)

-- the command that the words ask for
abbrev pub command_of : List (List ℕ) → Option Command
command_of [] = None
command_of (word ∷ further) =
    if same_bytes word (codes "convict") then option_map Convict (listed_of further) else
    (if same_bytes word (codes "proofs") then option_map Proofs (one_process further) else
    (if length further == 0 then alone_of word else None))
