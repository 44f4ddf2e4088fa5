-- What one claim more makes of a table.
use Rattle.std.specs.Prelude.{ℕ, ◌==◌, Bool, true, false, if◌then◌else◌, [], ◌∷◌, ◌++◌, find, take, Option, Some, None, option_map, is_some}
use Rattle.message_defs.specs.Statements.{Claim}
use Rattle.conviction_defs.specs.Convictions.{is_conflict}
use Rattle.indexmap.specs.IndexSet.{insert_key}
use Rattle.claim_index.specs.declared.key.Key.{Key}
use Rattle.claim_index.specs.Keys.{same_key}
use Rattle.claim_firsts.specs.Tables.{Table}
use Rattle.claim_firsts.specs.Seen.{is_beside}

-- whether the first claim beside this one conflicts with it; None where there is none beside it
abbrev pub contradicted : Table → Claim → Option Bool
contradicted t c = option_map (is_conflict c) (find (is_beside c) t.firsts)

-- two claims of the process conflict
abbrev pub has_second : Table → ℕ → Bool
has_second t q = is_some (find (λ c. c.signer == q) t.seconds)

-- with the claim as a first one
abbrev pub with_first : Table → Claim → Table
with_first t c = record { firsts = t.firsts ++ c ∷ []; seconds = t.seconds; answered = t.answered }

-- with the claim as a second one
abbrev pub with_second : Table → Claim → Table
with_second t c = record { firsts = t.firsts; seconds = t.seconds ++ c ∷ []; answered = t.answered }

-- with the claim as its signer's second one, where it has none
abbrev pub accusing : Table → Claim → Table
accusing t c = if has_second t c.signer then t else with_second t c

-- by what the first claim beside it says
abbrev pub seeing_by : Table → Claim → Option Bool → Table
seeing_by t c None = with_first t c
seeing_by t c (Some true) = accusing t c
seeing_by t c (Some false) = t

-- after the claim was seen
abbrev pub seeing : Table → Claim → Table
seeing t c = seeing_by t c (contradicted t c)

-- with the slot under this key as answered
abbrev pub answering : Table → Key → Table
answering t k = record { firsts = t.firsts; seconds = t.seconds; answered = insert_key same_key t.answered k }

-- with the first n answered slots
abbrev pub forgetting : Table → ℕ → Table
forgetting t n = record { firsts = t.firsts; seconds = t.seconds; answered = take n t.answered }
