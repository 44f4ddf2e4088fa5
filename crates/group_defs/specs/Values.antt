-- Which values may end a view: free ones, and those that an earlier rank may have decided.
-- Names here (* for this crate alone):
--   is_quorum
--   free values: length_said, ends, is_free, free_value
--   values that an earlier rank may have decided: ready_said, lasts, same_ready, is_at_most, is_first_way, is_second_way, is_justified,
--     reported, adopted, choose
use Rattle.std.specs.Prelude.{ℕ, ◌-◌, Bool, true, ◌&&◌, ◌||◌, nat_lt, nat_le, ◌==◌, if◌then◌else◌, List, map, reverse, filter, filter_map, flat_map, count_by, Option, Some, None, is_none, is_some, option_map, option_and_then}
use Rattle.std.specs.List.{list_any, range_with_len}
use Rattle.std.specs.Option.{option_or}
use native.Mathlib.Decide.{ℕ_discrete}
use Rattle.message_defs.specs.Below.{first_some, least, is_yes, option_discrete, pair_discrete}
use Rattle.message_defs.specs.Updates.{Value, Value-discrete, value_numbers}
use Rattle.group_defs.specs.Views.{quorum, is_possible}
use Rattle.message_defs.specs.Statements.{Statement, End, Last, Ack, EndAt, LastAt}
use Rattle.group_defs.specs.Process.{Setting, Pool, keyed}
use Rattle.group_defs.specs.Certified.{heard_on, number_of_members, is_notified, is_certified, place_at, notified_updates}

-- n claims are of a quorum
abbrev pub is_quorum : Pool → ℕ → Bool
is_quorum h n = nat_le (quorum (number_of_members h)) n

-- ---- free values

-- the length that an End says
abbrev pub length_said : Statement → Option ℕ
length_said (End x k) = Some k
length_said _ = None

-- what the members' Ends say
abbrev pub ends : Pool → List ℕ
ends h = filter_map (λ m. option_and_then length_said (heard_on h m (EndAt h.view.number))) h.view.members

-- the update is possible, and more than f members notify it; a quorum say Ends of at most the cut, and one of them the cut itself; and the
-- last place below the cut is certified, unless the cut is 0
abbrev pub is_free : Setting → Pool → Value → Bool
is_free s h v =
    is_notified h v.update
    && is_possible (keyed s) h.view v.update
    && is_quorum h (count_by (λ k. nat_le k v.cut) (ends h))
    && list_any (λ k. k == v.cut) (ends h)
    && ((v.cut == 0) || is_some (place_at h (v.cut - 1)))

-- the free value of the least update, and then of the least cut
abbrev pub free_value : Setting → Pool → Option Value
free_value s h = least value_numbers
    (filter (is_free s h) (flat_map (λ u. map (λ k. record { update = u; cut = k }) (ends h)) (notified_updates h)))

-- ---- values that an earlier rank may have decided

-- the Ready that a Last reports, or that it reports none
abbrev pub ready_said : Statement → Option (Option (ℕ × Value))
ready_said (Last x r ready) = Some ready
ready_said _ = None

-- what the members' Lasts at r say
abbrev pub lasts : Pool → ℕ → List (Option (ℕ × Value))
lasts h r = filter_map (λ m. option_and_then ready_said (heard_on h m (LastAt h.view.number r))) h.view.members

-- both report none, or the same rank and value
abbrev pub same_ready : Option (ℕ × Value) → Option (ℕ × Value) → Bool
same_ready a b = is_yes (option_discrete (pair_discrete ℕ_discrete Value-discrete) a b)

-- a Last that reports none, or a Ready of rank r or below
abbrev pub is_at_most : ℕ → Option (ℕ × Value) → Bool
is_at_most r None = true
is_at_most r (Some ready) = nat_le ready.0 r

-- no earlier rank may have decided
abbrev pub is_first_way : Pool → ℕ → Bool
is_first_way h r = (r == 0) || is_quorum h (count_by is_none (lasts h r))

-- rank r0 may have decided v, and none between r0 and r decided
abbrev pub is_second_way : Pool → ℕ → ℕ → Value → Bool
is_second_way h r r0 v =
    nat_lt r0 r
    && is_quorum h (count_by (is_at_most r0) (lasts h r))
    && list_any (same_ready (Some (r0, v))) (lasts h r)
    && is_certified h (Ack h.view.number r0 v)

-- one of the two ways leads to the value: it is free and no earlier rank may have decided, or some earlier rank may have decided it
abbrev pub is_justified : Setting → Pool → ℕ → Value → Bool
is_justified s h r v = (is_free s h v && is_first_way h r) || list_any (λ r0. is_second_way h r r0 v) (range_with_len 0 r)

-- the values that the Lasts at r report
abbrev pub reported : Pool → ℕ → List Value
reported h r = filter_map (option_map (λ ready. ready.1)) (lasts h r)

-- of the second way at r0, the least value
abbrev pub adopted : Pool → ℕ → ℕ → Option Value
adopted h r r0 = least value_numbers (filter (is_second_way h r r0) (reported h r))

-- the second way of the greatest r0, else a free value
abbrev pub choose : Setting → Pool → ℕ → Option Value
choose s h r = option_or (first_some (adopted h r) (reverse (range_with_len 0 r))) (if is_first_way h r then free_value s h else None)
