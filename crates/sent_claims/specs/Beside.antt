-- The elements of a list at places.
use Rattle.std.specs.Prelude.{ℕ, List, map, filter_map, slice_get}
use Rattle.message_defs.specs.Statements.{Statement, Claim}

-- the elements at these places, in their order
abbrev pub chosen : {A : Type 0} → List A → List ℕ → List A
chosen xs places = filter_map (slice_get xs) places

-- what the claims at these places say
abbrev pub statements_at : List Claim → List ℕ → List Statement
statements_at cs places = map (λ c. c.statement) (chosen cs places)
