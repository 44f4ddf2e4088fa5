-- Whom claims convict, and whom they do not. Each answer is the reference's.
-- Names here (* for this crate alone):
--   two_echoes*, one_claim*, same_twice*, two_signers*, two_slots*, two_views*, two_kinds*, one_forged*, other_forged*, forged_between*,
--     forged_first*, later_pair*, other_view*, stranger*, keyless*, two_liars*, Convicted*
use Rattle.std.specs.Prelude.{◌≡◌, List, [], ◌∷◌}
use Rattle.message_defs.specs.Statements.{Echo, Place, Keep, End, Claim}
use Rattle.conviction_defs.specs.Convictions.{convicted}
use Rattle.guard_rows.specs.Scripts.{s, by, forged, msg}

unfoldable pub two_echoes : List Claim
two_echoes = by 3 (Echo 0 (msg 3 0) (97 ∷ [])) ∷ by 3 (Echo 0 (msg 3 0) (98 ∷ [])) ∷ []

unfoldable pub one_claim : List Claim
one_claim = by 3 (Echo 0 (msg 3 0) (97 ∷ [])) ∷ []

unfoldable pub same_twice : List Claim
same_twice = by 3 (Echo 0 (msg 3 0) (97 ∷ [])) ∷ by 3 (Echo 0 (msg 3 0) (97 ∷ [])) ∷ []

unfoldable pub two_signers : List Claim
two_signers = by 3 (Echo 0 (msg 3 0) (97 ∷ [])) ∷ by 2 (Echo 0 (msg 3 0) (98 ∷ [])) ∷ []

unfoldable pub two_slots : List Claim
two_slots = by 3 (Echo 0 (msg 3 0) (97 ∷ [])) ∷ by 3 (Echo 0 (msg 3 1) (98 ∷ [])) ∷ []

unfoldable pub two_views : List Claim
two_views = by 3 (Echo 0 (msg 3 0) (97 ∷ [])) ∷ by 3 (Echo 1 (msg 3 0) (98 ∷ [])) ∷ []

unfoldable pub two_kinds : List Claim
two_kinds = by 3 (Place 0 0 (msg 1 0 ∷ [])) ∷ by 3 (Keep 0 0 (msg 2 0 ∷ [])) ∷ []

unfoldable pub one_forged : List Claim
one_forged = forged 3 (Echo 0 (msg 3 0) (97 ∷ [])) (1 ∷ []) ∷ by 3 (Echo 0 (msg 3 0) (98 ∷ [])) ∷ []

unfoldable pub other_forged : List Claim
other_forged = by 3 (Echo 0 (msg 3 0) (97 ∷ [])) ∷ forged 3 (Echo 0 (msg 3 0) (98 ∷ [])) (1 ∷ []) ∷ []

unfoldable pub forged_between : List Claim
forged_between = by 3 (Echo 0 (msg 3 0) (97 ∷ [])) ∷ forged 3 (Echo 0 (msg 3 0) (99 ∷ [])) (1 ∷ []) ∷ by 3 (Echo 0 (msg 3 0) (98 ∷ [])) ∷ []

unfoldable pub forged_first : List Claim
forged_first = forged 3 (Echo 0 (msg 3 0) (97 ∷ [])) (1 ∷ []) ∷ by 3 (Echo 0 (msg 3 0) (97 ∷ [])) ∷ by 3 (Echo 0 (msg 3 0) (98 ∷ [])) ∷ []

unfoldable pub later_pair : List Claim
later_pair = forged 3 (Echo 0 (msg 3 0) (97 ∷ [])) (1 ∷ []) ∷ by 3 (Echo 0 (msg 3 0) (98 ∷ [])) ∷ by 3 (Echo 0 (msg 3 0) (99 ∷ [])) ∷ []

unfoldable pub other_view : List Claim
other_view = by 3 (End 9 1) ∷ by 3 (End 9 2) ∷ []

unfoldable pub stranger : List Claim
stranger = by 4 (End 0 1) ∷ by 4 (End 0 2) ∷ []

unfoldable pub keyless : List Claim
keyless = by 9 (End 0 1) ∷ by 9 (End 0 2) ∷ []

unfoldable pub two_liars : List Claim
two_liars = by 3 (End 0 1) ∷ by 1 (End 0 3) ∷ by 1 (End 0 4) ∷ by 3 (End 0 2) ∷ []

-- the row: what the definitions give
pub record Convicted : Type 0 where
  -- two Echoes of one slot
  pub is_two_echoes : convicted s two_echoes ≡ 3 ∷ []
  -- one claim convicts nobody
  pub is_one_claim : convicted s one_claim ≡ []
  -- nor does the same one twice
  pub is_same_twice : convicted s same_twice ≡ []
  -- two signers do not convict each other
  pub is_two_signers : convicted s two_signers ≡ []
  -- two slots do not conflict
  pub is_two_slots : convicted s two_slots ≡ []
  -- nor do two views
  pub is_two_views : convicted s two_views ≡ []
  -- nor two kinds at one place
  pub is_two_kinds : convicted s two_kinds ≡ []
  -- the first signature is not valid
  pub is_one_forged : convicted s one_forged ≡ []
  -- nor the second
  pub is_other_forged : convicted s other_forged ≡ []
  -- a valid pair around one that is not
  pub is_forged_between : convicted s forged_between ≡ 3 ∷ []
  -- the same claim forged, and then valid
  pub is_forged_first : convicted s forged_first ≡ 3 ∷ []
  -- the first of a slot conflicts with nothing that is valid, later ones conflict
  pub is_later_pair : convicted s later_pair ≡ 3 ∷ []
  -- claims of any view convict
  pub is_other_view : convicted s other_view ≡ 3 ∷ []
  -- a process of the roster that is no member too
  pub is_stranger : convicted s stranger ≡ 4 ∷ []
  -- but none without a key
  pub is_keyless : convicted s keyless ≡ []
  -- two signers, rising
  pub is_two_liars : convicted s two_liars ≡ 1 ∷ 3 ∷ []
