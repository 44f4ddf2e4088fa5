-- Ranks: the least Ready, Last, Suggest and Ack that are due, and the decision.
-- Names here (* for this crate alone):
--   Ready: acked, may_ready, ReadyIsLeast*
--   Last: may_last, LastIsLeast*, is_left*, RemovedRankIs*
--   Suggest: may_suggest, SuggestIsLeast*
--   Ack: suggested, may_ack*, is_ack_due, AckIsLeast*
use Rattle.std.specs.Prelude.{◌≡◌, ℕ, suc, ◌-◌, Bool, IsTrue, ◌&&◌, not, nat_lt, nat_le, min, if◌then◌else◌, Option, Some, None, is_some, option_map, option_and_then, slice_get, slice_index_or, unwrap_or}
use Rattle.group_defs.specs.Below.{is_some_and, last_rank, Remove, Value, Last, Suggest, Ack, Ready, LastAt, SuggestAt, AckAt, ReadyAt, value_of}
use Rattle.group_defs.specs.Views.{is_member, rank_of}
use Rattle.group_defs.specs.Process.{Readies, Lasts, Suggests, Acks, Setting, Pool, Process}
use Rattle.group_defs.specs.Certified.{heard_on, value_at, is_signed, own_rank, own_ready, removed_rank, number_of_members, is_notified}
use Rattle.group_defs.specs.Values.{choose, is_justified}
use Rattle.group_defs.specs.Due.{least_due}
use Rattle.rule_laws.specs.Heard.{IsPool}
use Rattle.pool_laws.specs.Least.{IsLeastFrom, IsLeastBelow}

-- ---- Ready

-- the value of the certified Ack of this rank
abbrev pub acked : Pool → ℕ → Option Value
acked h r = value_at h (AckAt h.view.number r)

-- an Ack of this rank is certified, the own rank is not above it, and its Ready is not signed
abbrev pub may_ready : Process → ℕ → Bool
may_ready p r = is_some (acked p.pool r) && nat_le (own_rank p) r && not (is_signed p (ReadyAt p.pool.view.number r))

-- a member's least Ready is that of the least such rank
abbrev pub ReadyIsLeast : Type 0
ReadyIsLeast = (s : Setting) (p : Process) (o : Option ℕ) → IsPool p.pool → IsTrue (is_member p.pool.view p.me)
    → IsLeastFrom 0 (suc last_rank) (may_ready p) o
    → least_due s p Readies ≡ option_and_then (λ r. option_map (Ready p.pool.view.number r) (acked p.pool r)) o

-- ---- Last

-- a member may say its Last: the rank after those that are removed is above its own, and not signed
abbrev pub may_last : Process → Bool
may_last p = is_member p.pool.view p.me && nat_lt (own_rank p) (removed_rank p.pool)
    && not (is_signed p (LastAt p.pool.view.number (removed_rank p.pool)))

-- then that Last is due
abbrev pub LastIsLeast : Type 0
LastIsLeast = (s : Setting) (p : Process)
    → least_due s p Lasts ≡ (if may_last p then Some (Last p.pool.view.number (removed_rank p.pool) (own_ready p)) else None)

-- the member of this rank is not to be removed
abbrev pub is_left : Pool → ℕ → Bool
is_left h r = not (is_notified h (Remove (slice_index_or h.view.members r 0)))

-- the removed rank is the least whose member is not to be removed, and at most the last one
abbrev pub RemovedRankIs : Type 0
RemovedRankIs = (h : Pool) (o : Option ℕ) → IsLeastBelow (number_of_members h) (is_left h) o
    → removed_rank h ≡ min (number_of_members h - 1) (unwrap_or o (number_of_members h))

-- ---- Suggest

-- a member may suggest at its own rank: its rank is not above it, and the Suggest is not signed
abbrev pub may_suggest : Process → ℕ → Bool
may_suggest p r = nat_le (own_rank p) r && not (is_signed p (SuggestAt p.pool.view.number r))

-- then it suggests what is chosen there
abbrev pub SuggestIsLeast : Type 0
SuggestIsLeast = (s : Setting) (p : Process) → least_due s p Suggests
    ≡ option_and_then (λ r. if may_suggest p r then option_map (Suggest p.pool.view.number r) (choose s p.pool r) else None)
    (rank_of p.pool.view p.me)

-- ---- Ack

-- what the member of this rank suggests
abbrev pub suggested : Pool → ℕ → Option Value
suggested h r = option_and_then (λ m. option_and_then value_of (heard_on h m (SuggestAt h.view.number r))) (slice_get h.view.members r)

-- all of Ack's rule but that the value is justified
abbrev pub may_ack : Process → ℕ → Bool
may_ack p r = is_some (suggested p.pool r) && nat_le (own_rank p) r && not (is_signed p (AckAt p.pool.view.number r))

-- and that too
abbrev pub is_ack_due : Setting → Process → ℕ → Bool
is_ack_due s p r = may_ack p r && is_some_and (suggested p.pool r) (is_justified s p.pool r)

-- a member's least Ack is that of the least rank whose Ack is due
abbrev pub AckIsLeast : Type 0
AckIsLeast = (s : Setting) (p : Process) (o : Option ℕ) → IsPool p.pool → IsTrue (is_member p.pool.view p.me)
    → IsLeastBelow (number_of_members p.pool) (is_ack_due s p) o
    → least_due s p Acks ≡ option_and_then (λ r. option_map (Ack p.pool.view.number r) (suggested p.pool r)) o
