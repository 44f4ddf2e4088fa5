-- Which values are free, by the members' Ends and the places that are certified; and what a deputy takes before a free value.
use Rattle.std.specs.Prelude.{◌≡◌, ℕ, List, [], ◌∷◌, ◌++◌, true, false, Some, None}
use Rattle.message_defs.specs.Updates.{Remove, Renew}
use Rattle.message_defs.specs.Statements.{Place, Notify, End, Last, Ack, Claim}
use Rattle.group_defs.specs.Process.{Setting, Pool}
use Rattle.group_defs.specs.Values.{is_free, free_value, choose}
use Rattle.group_rows.specs.Scripts.{setting, by, msg, value}

abbrev pub s : Setting
s = setting (0 ∷ 1 ∷ 2 ∷ 3 ∷ []) (0 ∷ 1 ∷ 2 ∷ 3 ∷ [])

abbrev pub pool : List Claim → Pool
pool claims = record { view = s.genesis; heard = claims }

-- of each member its End
abbrev pub ends_at : ℕ → ℕ → ℕ → ℕ → List Claim
ends_at a b c d = by 0 (End 0 a) ∷ by 1 (End 0 b) ∷ by 2 (End 0 c) ∷ by 3 (End 0 d) ∷ []

abbrev pub notified : List Claim
notified = by 0 (Notify 0 Renew) ∷ by 1 (Notify 0 Renew) ∷ []

abbrev pub placed_0 : List Claim
placed_0 = by 0 (Place 0 0 (msg 0 0 ∷ [])) ∷ by 1 (Place 0 0 (msg 0 0 ∷ [])) ∷ by 2 (Place 0 0 (msg 0 0 ∷ [])) ∷ []

-- ---- place 0 is certified, and two members have ended at 0 and two at 1

abbrev pub with_place : Pool
with_place = pool (notified ++ placed_0 ++ ends_at 0 1 0 1)

-- ---- no place is certified, and a liar has ended at 1024

abbrev pub without_place : Pool
without_place = pool (notified ++ ends_at 1024 0 0 0)

-- ---- a quorum of Lasts at rank 1 says none, so a free value would do, but one Last reports what rank 0 may have decided

abbrev pub reported : Pool
reported = pool (
    notified ++ by 2 (Notify 0 (Remove 0)) ∷ by 3 (Notify 0 (Remove 0)) ∷ []
    ++ ends_at 0 0 0 0
    ++ by 0 (Ack 0 0 (value Renew 0)) ∷ by 1 (Ack 0 0 (value Renew 0)) ∷ by 2 (Ack 0 0 (value Renew 0)) ∷ []
    ++ by 0 (Last 0 1 None) ∷ by 1 (Last 0 1 None) ∷ by 2 (Last 0 1 None) ∷ by 3 (Last 0 1 (Some (0, value Renew 0))) ∷ []
    )

-- the row: what the definitions give
pub record Cuts : Type 0 where
  pub cut_1 : is_free s with_place (value Renew 1) ≡ true
  -- only two Ends are at most 0
  pub cut_0 : is_free s with_place (value Renew 0) ≡ false
  -- no End is 2
  pub cut_2 : is_free s with_place (value Renew 2) ≡ false
  pub free_1 : free_value s with_place ≡ Some (value Renew 1)
  pub cut_1024 : is_free s without_place (value Renew 1024) ≡ false
  pub free_0 : free_value s without_place ≡ Some (value Renew 0)
  pub free_first : free_value s reported ≡ Some (value (Remove 0) 0)
  pub adopted : choose s reported 1 ≡ Some (value Renew 0)
