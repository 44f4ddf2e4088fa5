-- What became of a state that was offered.
use Rattle.std.specs.Prelude.{ℕ, List, Option, Some, None}
use Rattle.store_defs.specs.declared.Taken.TheVariants as taken
use Rattle.store_defs.specs.Stores.{Store}
use Rattle.store_defs.specs.Serving as serving
use Rattle.store_defs.specs.Serving.{OfferWord, store_from, word_of_taken}
use Rattle.store_defs.specs.Transfers.{Transfer}
use Rattle.store_giving.specs.declared.offered.Offered.{Offered}
use Rattle.store_giving.specs.declared.offered.Offered.TheVariants.{Grammar, Held, Offered as Made}

-- the word of its line
abbrev pub word : Offered → OfferWord
word Grammar = serving.Grammar
word Held = serving.Held
word (Made t) = word_of_taken t

-- the store of the state that is ready, followed by what the process itself delivered in the view
abbrev pub ready_store : List (List ℕ) → Transfer → Option Store
ready_store here t = elim t.state [ None ↦ None | Some state ↦ store_from state here ]

-- the store that the process holds after an offer
abbrev pub store_by : List (List ℕ) → Option Store → Offered → Transfer → Option Store
store_by here store (Made taken.Ready) t = ready_store here t
store_by here store o t = store
