-- The tests of single entries, and walks over lists.
-- Names here (* for this crate alone):
--   is_perceived*, is_short*, is_placed*, is_own*, conflicting*, is_conflict*, are_others*, ends*, is_passed*, commits*, rise_from*,
--     is_left*, leaves*, are_conflicts*
use Rattle.std.specs.Prelude.{ℕ, ◌+◌, Bool, true, false, not, ◌&&◌, ◌||◌, nat_lt, nat_le, ◌==◌, if◌then◌else◌, List, [], ◌∷◌, length, map, Option, Some, None}
use Rattle.std.specs.List.{list_all}
use Rattle.byte_defs.specs.Members.{has}
use Rattle.message_defs.specs.Limits.{most_places, most_payload_bytes}
use Rattle.message_defs.specs.Updates.{Update, Value}
use Rattle.message_defs.specs.Statements.{Statement, Ready, Claim, slot_of, view_of, same_slot, same_statement}
use Rattle.group_defs.specs.Views.{View, is_member, quorum, is_possible, next_view}
use Rattle.group_defs.specs.Process.{Setting, Delivered, keyed, places_in}
use Rattle.group_defs.specs.Hearing.{is_valid}
use Rattle.image_defs.specs.Images.{LeftView}
use Rattle.rp_base.specs.Pids.{put_once}
use Rattle.group_defs.specs.Accounts.{is_by_place}

-- as an entry of `ArePerceived`
abbrev pub is_perceived : List ℕ → View → ℕ × Update → Bool
is_perceived keyed v e = nat_lt e.0 v.number || (e.0 == v.number && is_possible keyed v e.1)

-- as an entry of `AreAccepted`
abbrev pub is_short : List ℕ → Bool
is_short payload = nat_le (length payload) most_payload_bytes

-- as an entry of `AreByPlace`
abbrev pub is_placed : List Delivered → Bool
is_placed ds = nat_le (places_in ds) most_places && is_by_place ds

-- as an entry of `AreOwn`
abbrev pub is_own : Setting → ℕ → View → Claim → Bool
is_own s me v c = c.signer == me && (nat_le (view_of c.statement) v.number && is_valid s c)

-- the statements are of one slot, and differ
abbrev pub conflicting : Statement → Statement → Bool
conflicting a b = same_slot (slot_of a) (slot_of b) && not (same_statement a b)

-- as an entry of `AreConflicts`
abbrev pub is_conflict : Setting → Claim × Claim → Bool
is_conflict s e = e.0.signer == e.1.signer && (conflicting e.0.statement e.1.statement && (is_valid s e.0 && is_valid s e.1))

-- each of them is none of those before it, nor of these
abbrev pub are_others : List ℕ → List ℕ → Bool
are_others seen [] = true
are_others seen (x ∷ xs) = not (has seen x) && are_others (put_once x seen) xs

-- as `Decides`
abbrev pub ends : List ℕ → View → ℕ → ℕ → Option (ℕ × Value) → Bool
ends keyed v me places None = true
ends keyed v me places (Some d) = is_possible keyed v d.1.update && (is_member v me && not (places == d.1.cut))

-- something is decided, and `places` is beyond the cut
abbrev pub is_passed : ℕ → Option (ℕ × Value) → Bool
is_passed places None = false
is_passed places (Some d) = nat_lt d.1.cut places

-- as a claim of a commit certificate
abbrev pub commits : Setting → View → ℕ → Value → Claim → Bool
commits s v rank value c = is_member v c.signer && (same_statement c.statement (Ready v.number rank value) && is_valid s c)

-- each is above the one before it, and the first is `least` or more
abbrev pub rise_from : ℕ → List ℕ → Bool
rise_from least [] = true
rise_from least (x ∷ xs) = nat_le least x && rise_from (x + 1) xs

-- as `IsLeft`
unfoldable pub is_left : Setting → View → LeftView → Bool
is_left s v l =
    nat_lt l.rank (length v.members)
    && ((length l.commit == quorum (length v.members))
    && (is_possible (keyed s) v l.value.update
    && (rise_from 0 (map (λ c. c.signer) l.commit) && list_all (commits s v l.rank l.value) l.commit)))

-- the view after these, where each was left so
abbrev pub leaves : Setting → View → List LeftView → Option View
leaves s v [] = Some v
leaves s v (l ∷ ls) = if is_left s v l then leaves s (next_view v l.value.update) ls else None

-- as `AreConflicts`
abbrev pub are_conflicts : Setting → List (Claim × Claim) → Bool
are_conflicts s pairs = are_others [] (map (λ e. e.0.signer) pairs) && list_all (is_conflict s) pairs
