-- The tests of what a process signed itself.
use Rattle.std.specs.Prelude.{ℕ, Bool, true, not, ◌&&◌, ◌||◌, ◌==◌, List, [], ◌∷◌, ◌++◌, is_some}
use Rattle.std.specs.List.{list_any}
use Rattle.message_defs.specs.Statements.{Claim, slot_of, view_of}
use Rattle.group_defs.specs.Process.{Pool}
use Rattle.group_defs.specs.Certified.{heard_on}
use Rattle.claim_index.specs.declared.key.SlotKey.{SlotKey}
use Rattle.own_place.specs.Words.{slot_key, same_slot_key}

-- the claim is of another view, or a claim of this process is heard on its slot
abbrev pub is_heard : Pool → ℕ → Claim → Bool
is_heard h me c = not (view_of c.statement == h.view.number) || is_some (heard_on h me (slot_of c.statement))

-- each claim's slot is none of those before it, nor of these
abbrev pub are_others : List SlotKey → List Claim → Bool
are_others seen [] = true
are_others seen (c ∷ cs) =
    not (list_any (same_slot_key (slot_key (slot_of c.statement))) seen) && are_others (seen ++ slot_key (slot_of c.statement) ∷ []) cs
