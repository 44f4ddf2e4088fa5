-- What is heard on each slot.
use Rattle.std.specs.Prelude.{◌≡◌, ℕ, Bool, ◌&&◌, not, List, filter, if◌then◌else◌, slice_get, Option, Some, None, is_some, MatchOption, option_and_then}
use Rattle.std.specs.Option.{option_map}
use Rattle.std.specs.Map.{lookup}
use Rattle.byte_defs.specs.Members.{has}
use Rattle.byte_defs.specs.Orders.{sorted}
use Rattle.message_defs.specs.Statements.{Statement, Slot, Claim}
use Rattle.group_defs.specs.Process.{Pool}
use Rattle.message_defs.specs.Statements.{slot_of}
use Rattle.group_defs.specs.Certified.{heard_on, says, backers, is_certified, certified_on}
use Rattle.rp_base.specs.Pids.{put_once}
use Rattle.claim_index.specs.declared.key.SlotKey.{SlotKey}
use Rattle.claim_index.specs.Keys.{slot_key, same_slot_key}
use Rattle.claim_index.specs.Kept.{by_number}
use Rattle.slot_quorums.specs.declared.cell.Cell.{Cell}

-- what the heard claim at the place says
abbrev pub said_at : Pool → ℕ → Option Statement
said_at h place = option_map (λ (c : Claim). c.statement) (slice_get h.heard place)

-- with one more who speaks, and who backs the content where that is said
abbrev pub joining : Cell → ℕ → Bool → Cell
joining c p backs = record {
  place = c.place;
  backers = if backs then put_once p c.backers
      else c.backers;
  speakers = put_once p c.speakers;
}

-- the process has a claim on the slot, and not with the content
abbrev pub speaks_otherwise : Cell → ℕ → Bool
speaks_otherwise c m = has c.speakers m && not (has c.backers m)

-- the members who say this, and not the content
abbrev pub others : Cell → Pool → Statement → List ℕ
others c h st = sorted by_number (filter (λ m. speaks_otherwise c m && says h st m) h.view.members)

-- ---- what holds of a cell

-- nobody has a claim on the slot
pub record IsSilent (h : Pool) (s : Slot) : Type 0 where
  pub speakers : (m : ℕ) → heard_on h m s ≡ None
  pub certified : certified_on h s ≡ None

-- a claim at its place has its content; these members say so, and these processes have a claim on the slot; and nothing else is certified
pub record IsCell (h : Pool) (s : Slot) (c : Cell) : Type 0 where
  pub said : Statement
  pub there : said_at h c.place ≡ Some said
  pub slot : slot_of said ≡ s
  pub backers : c.backers ≡ sorted by_number (backers h said)
  pub speakers : (m : ℕ) → has c.speakers m ≡ is_some (heard_on h m s)
  pub certified : certified_on h s ≡ (if is_certified h said then Some said else None)

-- where no cell is noted, the slot is silent
abbrev pub IsOf : Pool → Slot → Option Cell → Type 0
IsOf h s c = MatchOption c (IsSilent h s) (IsCell h s)

-- of each slot
abbrev pub AreCells : Pool → List (SlotKey × Cell) → Type 0
AreCells h cs = (s : Slot) → IsOf h s (lookup (same_slot_key (slot_key s)) cs)

-- the entry of this key is at this place, or there is none
abbrev pub IsFoundAt : List (SlotKey × Cell) → SlotKey → Option ℕ → Type 0
IsFoundAt cs key at = MatchOption at (lookup (same_slot_key key) cs ≡ None)
    (λ i. (c : Cell) × (slice_get cs i ≡ Some (key, c)) × (lookup (same_slot_key key) cs ≡ Some c))

-- what is certified on the slot, if there is such a slot: where a cell is found it has that content, and else nothing is
abbrev pub IsCertifiedBy : Pool → Option Slot → Option Cell → Type 0
IsCertifiedBy h s c = MatchOption c (option_and_then (certified_on h) s ≡ None)
    (λ c. (st : Statement) × (option_and_then (certified_on h) s ≡ Some st) × (said_at h c.place ≡ Some st)
    × (c.backers ≡ sorted by_number (backers h st)))
