-- Which command the words of the program are.
--
-- What each command answers is said by relations between what a stream held before and what it holds now: of `replay`, `gen` and `keygen` in
-- `replay_words`, of `chain` in `chain_words`, of `ask` in `store_asking`, of `node`, `resume`, `guard` and `serve` in `node_loop`, of `audit`
-- in `audit_words`. Of a stream that does not say what it holds, like standard input and output, these say nothing of its bytes (`Answers`
-- in `replay_words`). What is said by words, statuses and counts of faults holds of every stream.
use Rattle.std.specs.Prelude.{◌⊎◌, ℕ, List, map, String, string_bytes}
use Rattle.std.specs.declared.alloc.Global.{Global}
use Rattle.command_line.specs.Commands as commands
use Rattle.command_line.specs.Commands.{Audit, Command, Guard, Node, Resume, Serve}

-- the words are those of this command
abbrev pub Asks : List (String Global) → Command → Type 0
Asks words command = commands.Asks (map string_bytes words) command

-- the words are those of some command
abbrev pub AskAny : List (String Global) → Type 0
AskAny words = (command : Command) × Asks words command

-- the words host processes: they ask for a node, alone, as a guard, with a store or from a snapshot, whose journal is in the file of this name
abbrev pub HostIn : List (String Global) → List ℕ → Type 0
HostIn words file = Asks words (Node file) ⊎ Asks words (Guard file) ⊎ Asks words (Serve file) ⊎ Asks words (Resume file)

-- and in a file of some name
abbrev pub AskHost : List (String Global) → Type 0
AskHost words = (file : List ℕ) × HostIn words file

-- the words ask for an audit, in which some processes are taken as correct
abbrev pub AskAudit : List (String Global) → Type 0
AskAudit words = (listed : List ℕ) × Asks words (Audit listed)
