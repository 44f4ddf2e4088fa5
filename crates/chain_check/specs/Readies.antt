-- What a table of a view's Readies holds.
use Rattle.std.specs.Prelude.{◌≡◌, ℕ, ◌+◌, ◌*◌, ◌<◌, ◌≤◌, ◌==◌, if◌then◌else◌, nat_lt, List, length, slice_index, slice_index_or, Option, Some, None, option_and_then}
use Rattle.std.specs.Option.{option_map}
use Rattle.message_defs.specs.Updates as updates
use Rattle.message_defs.specs.Statements.{Statement, Ready, ReadyAt, value_of}
use Rattle.group_defs.specs.Views.{View, quorum, is_possible, next_view}
use Rattle.group_defs.specs.Process.{Pool}
use Rattle.group_defs.specs.Certified.{heard_on, backers, number_of_members}
use Rattle.rp_base.specs.declared.updates.Value.{Value}
use Rattle.rp_base.specs.Views.{update, value}
use Rattle.chain_check.specs.declared.readies.Leading.{Leading}

-- the rank and the value of a Ready of the view of this number
abbrev pub ready_at : ℕ → Statement → Option (ℕ × updates.Value)
ready_at x (Ready y r v) = if y == x then Some (r, v) else None
ready_at x _ = None

-- what the member's first Ready of the rank says
abbrev pub said : Pool → ℕ → ℕ → Option updates.Value
said h r m = option_and_then value_of (heard_on h m (ReadyAt h.view.number r))

-- each cell holds what the first Ready of its rank and its member says
abbrev pub IsTable : Pool → List (Option Value) → Type 0
IsTable h cells = (r i : ℕ) → r < 16 → i < number_of_members h
    → option_map value (slice_index_or cells (r * 16 + i) None) ≡ said h r (slice_index h.view.members i)

-- how many members say this at the rank
abbrev pub sayers : Pool → ℕ → updates.Value → ℕ
sayers h r v = length (backers h (Ready h.view.number r v))

-- none is said by more members at the rank than this one; where there is none, nobody says one
abbrev pub IsLeading : Pool → ℕ → Option Leading → Type 0
IsLeading h r None = (w : updates.Value) → sayers h r w ≡ 0
IsLeading h r (Some l) = (l.count ≡ sayers h r (value l.value)) × (0 < l.count) × (l.count ≤ 16)
    × ((w : updates.Value) → sayers h r w ≤ l.count)

-- the value that was found is said by `most`; where none was found, by nobody
abbrev pub IsBest : Pool → ℕ → Option Leading → ℕ → Type 0
IsBest h r None most = most ≡ 0
IsBest h r (Some l) most = (l.count ≡ most) × (most ≡ sayers h r (value l.value)) × (0 < most)

-- the view that follows by it, where a quorum says it and its update is possible
abbrev pub shown_by : List ℕ → View → Leading → Option View
shown_by keyed v l =
    if nat_lt l.count (quorum (length v.members)) then None
    else if is_possible keyed v (update l.value.update) then Some (next_view v (update l.value.update)) else None
