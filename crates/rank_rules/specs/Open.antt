-- At which ranks a statement may be due to the process whose place this is.
use Rattle.std.specs.Prelude.{ℕ, ◌&&◌, not, nat_lt, nat_le, Bool, is_some}
use Rattle.message_defs.specs.Statements.{LastAt, SuggestAt, AckAt, ReadyAt}
use Rattle.group_defs.specs.Process.{Pool}
use Rattle.group_defs.specs.Certified.{removed_rank}
use Rattle.rule_laws.specs.Ranks.{acked, suggested}
use Rattle.own_place.specs.declared.own.Own.{Own}
use Rattle.own_place.specs.Signed.{has_slot}

-- an Ack of this rank is certified, the own rank is not above it, and its Ready is not signed
abbrev pub is_ready_open : Pool → Own → ℕ → Bool
is_ready_open h own r = is_some (acked h r) && nat_le own.rank r && not (has_slot own.signed (ReadyAt h.view.number r))

-- a member's own rank is below the removed one, at which its Last is not signed
abbrev pub is_last_open : Pool → Own → Bool
is_last_open h own = is_some own.position && nat_lt own.rank (removed_rank h)
    && not (has_slot own.signed (LastAt h.view.number (removed_rank h)))

-- the rank is not below the own one, and its Suggest is not signed
abbrev pub is_suggest_open : Pool → Own → ℕ → Bool
is_suggest_open h own r = nat_le own.rank r && not (has_slot own.signed (SuggestAt h.view.number r))

-- to a member: the Suggest of this rank's member is heard, the own rank is not above it, and its Ack is not signed
abbrev pub is_ack_open : Pool → Own → ℕ → Bool
is_ack_open h own r = is_some own.position && is_some (suggested h r) && nat_le own.rank r
    && not (has_slot own.signed (AckAt h.view.number r))
