-- The words that ask for something.
--   assemble   requests in words become the lines that submit them
--   tell       lines about a store are followed by what they say
--   ask HEX    a kit and lines that nodes wrote become what `rampart ask HEX` is to read: these words are the same
use Rattle.std.specs.Prelude.{◌≡◌, ◌⊎◌, ℕ, Bool, true, false, List, [], ◌∷◌, map, codes, String, string_bytes}
use Rattle.std.specs.declared.alloc.Global.{Global}
use Rattle.command_line.specs.Commands.{Ask}
use Rattle.command_line.specs.Commands as rampart
use Rattle.store_text_defs.specs.declared.Filter.{Filter}
use Rattle.store_text_defs.specs.declared.Filter.TheVariants.{Assemble, Tell}

abbrev pub filter_word : Filter → List ℕ
filter_word Assemble = codes "assemble"
filter_word Tell = codes "tell"

-- the words are those of this filter
abbrev pub Asks : List (String Global) → Filter → Type 0
Asks words filter = map string_bytes words ≡ filter_word filter ∷ []

-- the command of `rampart` is `ask`
abbrev pub is_question : rampart.Command → Bool
is_question (Ask payload) = true
is_question _ = false

-- the words ask for what `rampart ask` is to read for this payload
abbrev pub AsksFor : List (String Global) → List ℕ → Type 0
AsksFor words payload = rampart.Asks (map string_bytes words) (Ask payload)

abbrev pub AskSome : List (String Global) → Type 0
AskSome words = (payload : List ℕ) × AsksFor words payload

-- the words are those of some filter, or these
abbrev pub AskAny : List (String Global) → Type 0
AskAny words = ((filter : Filter) × Asks words filter) ⊎ AskSome words
