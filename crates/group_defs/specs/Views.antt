-- Views, and the view that follows one.
-- Names here (* for this crate alone):
--   View, View-discrete, IsView, faulty, quorum, is_member, rank_of
--   the next view: UpdateFault, update_faults, next_fault, members_after, next_view, next, has_keys, is_possible
use Rattle.std.specs.Prelude.{◌≢◌, ℕ, ◌+◌, ◌-◌, ◌/◌, ◌≤◌, Bool, true, ◌&&◌, not, ◌==◌, List, [], ◌∷◌, ◌++◌, length, filter, AllPairs, position, Option, Some, None, is_none, Result, Ok, Err}
use native.Mathlib.Decide.{ℕ_discrete}
use Rattle.message_defs.specs.Below.{first_that_holds, both, bytes_discrete, has}
use Rattle.message_defs.specs.Limits.{last_number, most_members}
use Rattle.message_defs.specs.Updates.{Update, Remove, Add, Renew}

-- one composition of the group
pub record View : Type 0 where
  pub number : ℕ
  -- in rank order: the manager first, then its deputies
  pub members : List ℕ

-- views are equal where number and members are
unfoldable pub View-discrete : Discrete View
View-discrete v w = both (λ x m. λ i. record { number = x i; members = m i }) (λ e. λ i. (e i).number) (λ e. λ i. (e i).members)
    (ℕ_discrete v.number w.number) (bytes_discrete v.members w.members)

-- a view has 1 to 16 members, each once
pub record IsView (v : View) : Type 0 where
  pub some : 1 ≤ length v.members
  pub few : length v.members ≤ most_members
  pub distinct : AllPairs (λ m n. m ≢ n) v.members

-- f: how many of n members may be corrupt
abbrev pub faulty : ℕ → ℕ
faulty n = (n - 1) / 3

-- Q: how many of n members make a quorum. It is all but f, so two quorums share more than f members
abbrev pub quorum : ℕ → ℕ
quorum n = n - faulty n

-- the process is a member of the view
abbrev pub is_member : View → ℕ → Bool
is_member v p = has v.members p

-- the rank of a member, which is its place in the list: 0 for the manager, r for the deputy of rank r. Others have none
abbrev pub rank_of : View → ℕ → Option ℕ
rank_of v p = position (λ q. q == p) v.members

-- ---- the next view

-- why no view follows by an update
pub data UpdateFault : Type 0 where
  ViewsSpent : UpdateFault
  AlreadyMember : UpdateFault
  GroupFull : UpdateFault
  NotMember : UpdateFault
  LastMember : UpdateFault

-- the faults that the members give: to remove a process that is no member, or the only one; to add one that is a member, or a seventeenth
abbrev pub update_faults : View → Update → List (Bool × UpdateFault)
update_faults v (Remove p) = (not (is_member v p), NotMember) ∷ (length v.members == 1, LastMember) ∷ []
update_faults v (Add p) = (is_member v p, AlreadyMember) ∷ (length v.members == most_members, GroupFull) ∷ []
update_faults v Renew = []

-- the first fault: the view's number is the last one, 1,023; then those that the members give
abbrev pub next_fault : View → Update → Option UpdateFault
next_fault v u = first_that_holds ((v.number == last_number, ViewsSpent) ∷ update_faults v u)

-- Remove closes the list up, Add appends the process last, Renew keeps the list
abbrev pub members_after : List ℕ → Update → List ℕ
members_after ms (Remove p) = filter (λ m. not (m == p)) ms
members_after ms (Add p) = ms ++ p ∷ []
members_after ms Renew = ms

-- the view with the next number and the members after the update
abbrev pub next_view : View → Update → View
next_view v u = record { number = v.number + 1; members = members_after v.members u }

-- the view that follows by this update, or why there is none
abbrev pub next : View → Update → Result View UpdateFault
next v u = elim (next_fault v u) [ None ↦ Ok (next_view v u) | Some fault ↦ Err fault ]

-- these have a key: a process that is added is one of them
abbrev pub has_keys : List ℕ → Update → Bool
has_keys keyed (Add p) = has keyed p
has_keys keyed _ = true

-- a view follows by this update, and a process that it adds has a key
abbrev pub is_possible : List ℕ → View → Update → Bool
is_possible keyed v u = is_none (next_fault v u) && has_keys keyed u
