-- What bytes show after view 0 of the members 0 1 2 3, each of their faults, and what comes first. Each answer is the reference's.
-- Names here (* for this crate alone):
--   packed*, a_bundle*, a_want*, want_beyond*, nothing_at_all*, version_two*, fourth_kind*, no_groups*, cut_off*, one_more*,
--     notify_in_proof*, bad_group_behind*, signer_beyond*, Frames*
use Rattle.std.specs.Prelude.{◌≡◌, ℕ, List, [], ◌∷◌, Ok, Err}
use Rattle.message_defs.specs.declared.FrameFault.TheVariants as frames
use Rattle.chain_defs.specs.declared.ChainFault.TheVariants as chains
use Rattle.chain_defs.specs.Advance.{advance}
use Rattle.chain_rows.specs.Scripts.{s}
use Rattle.chain_rows.specs.Shown.{four}

unfoldable pub packed : List ℕ
packed = 1 ∷ 2 ∷ 1 ∷ 0 ∷ 8 ∷ 11 ∷ 0 ∷ 0 ∷ 0 ∷ 3 ∷ 0 ∷ 0 ∷ 0 ∷ 3 ∷ 0 ∷ 0 ∷ 0 ∷ 1 ∷ 0 ∷ 0 ∷ 2 ∷ 0 ∷ 0 ∷ []

unfoldable pub a_bundle : List ℕ
a_bundle = 1 ∷ 1 ∷ 1 ∷ 0 ∷ 8 ∷ 11 ∷ 0 ∷ 0 ∷ 0 ∷ 3 ∷ 0 ∷ 0 ∷ 0 ∷ 3 ∷ 0 ∷ 0 ∷ 0 ∷ 1 ∷ 0 ∷ 0 ∷ 2 ∷ 0 ∷ 0 ∷ []

unfoldable pub a_want : List ℕ
a_want = 1 ∷ 3 ∷ 0 ∷ 0 ∷ 0 ∷ 0 ∷ []

unfoldable pub want_beyond : List ℕ
want_beyond = 1 ∷ 3 ∷ 4 ∷ 0 ∷ 0 ∷ 0 ∷ []

unfoldable pub nothing_at_all : List ℕ
nothing_at_all = []

unfoldable pub version_two : List ℕ
version_two = 2 ∷ 2 ∷ 1 ∷ 0 ∷ 8 ∷ 11 ∷ 0 ∷ 0 ∷ 0 ∷ 3 ∷ 0 ∷ 0 ∷ 0 ∷ 3 ∷ 0 ∷ 0 ∷ 0 ∷ 1 ∷ 0 ∷ 0 ∷ 2 ∷ 0 ∷ 0 ∷ []

unfoldable pub fourth_kind : List ℕ
fourth_kind = 1 ∷ 4 ∷ 1 ∷ 0 ∷ 8 ∷ 11 ∷ 0 ∷ 0 ∷ 0 ∷ 3 ∷ 0 ∷ 0 ∷ 0 ∷ 3 ∷ 0 ∷ 0 ∷ 0 ∷ 1 ∷ 0 ∷ 0 ∷ 2 ∷ 0 ∷ 0 ∷ []

unfoldable pub no_groups : List ℕ
no_groups = 1 ∷ 2 ∷ 0 ∷ []

unfoldable pub cut_off : List ℕ
cut_off = 1 ∷ 2 ∷ 1 ∷ 0 ∷ 8 ∷ 11 ∷ 0 ∷ 0 ∷ 0 ∷ 3 ∷ 0 ∷ 0 ∷ 0 ∷ 3 ∷ 0 ∷ 0 ∷ 0 ∷ 1 ∷ 0 ∷ 0 ∷ 2 ∷ 0 ∷ []

unfoldable pub one_more : List ℕ
one_more = 1 ∷ 2 ∷ 1 ∷ 0 ∷ 8 ∷ 11 ∷ 0 ∷ 0 ∷ 0 ∷ 3 ∷ 0 ∷ 0 ∷ 0 ∷ 3 ∷ 0 ∷ 0 ∷ 0 ∷ 1 ∷ 0 ∷ 0 ∷ 2 ∷ 0 ∷ 0 ∷ 0 ∷ []

unfoldable pub notify_in_proof : List ℕ
notify_in_proof = 1 ∷ 2 ∷ 1 ∷ 0 ∷ 5 ∷ 6 ∷ 0 ∷ 0 ∷ 3 ∷ 0 ∷ 1 ∷ 0 ∷ 0 ∷ 0 ∷ []

unfoldable pub bad_group_behind : List ℕ
bad_group_behind = 1 ∷ 2 ∷ 2 ∷ 0 ∷ 8 ∷ 11 ∷ 0 ∷ 0 ∷ 0 ∷ 3 ∷ 0 ∷ 0 ∷ 0 ∷ 3 ∷ 0 ∷ 0 ∷ 0 ∷ 1 ∷ 0 ∷ 0 ∷ 2 ∷ 0 ∷ 0 ∷ 0 ∷ 1 ∷ 255 ∷ 1 ∷ 0 ∷ 0 ∷ 0 ∷ []

unfoldable pub signer_beyond : List ℕ
signer_beyond = 1 ∷ 2 ∷ 1 ∷ 0 ∷ 8 ∷ 11 ∷ 0 ∷ 0 ∷ 0 ∷ 3 ∷ 0 ∷ 0 ∷ 0 ∷ 1 ∷ 64 ∷ 0 ∷ 0 ∷ []

-- the row: what the definitions give
pub record Frames : Type 0 where
  -- a Proof of one group with three signers
  pub is_packed : advance s four packed ≡ Ok (record { number = 1; members = 0 ∷ 1 ∷ 2 ∷ 3 ∷ [] })
  -- the same claims in a Bundle
  pub is_a_bundle : advance s four a_bundle ≡ Err chains.NotProof
  -- a Want
  pub is_a_want : advance s four a_want ≡ Err chains.NotProof
  -- the faults of a frame come first: a Want out of range
  pub is_want_beyond : advance s four want_beyond ≡ Err (chains.Frame frames.Range)
  -- no bytes
  pub is_nothing_at_all : advance s four nothing_at_all ≡ Err (chains.Frame frames.Short)
  -- another version
  pub is_version_two : advance s four version_two ≡ Err (chains.Frame frames.Version)
  -- another kind
  pub is_fourth_kind : advance s four fourth_kind ≡ Err (chains.Frame frames.Kind)
  -- no groups
  pub is_no_groups : advance s four no_groups ≡ Err (chains.Frame frames.Count)
  -- the last byte is missing
  pub is_cut_off : advance s four cut_off ≡ Err (chains.Frame frames.Short)
  -- a byte too many
  pub is_one_more : advance s four one_more ≡ Err (chains.Frame frames.Trailing)
  -- a kind that a Proof does not carry
  pub is_notify_in_proof : advance s four notify_in_proof ≡ Err (chains.Frame frames.Misplaced)
  -- a group after the quorum's refuses the frame
  pub is_bad_group_behind : advance s four bad_group_behind ≡ Err (chains.Frame frames.Statement)
  -- a signer above 63
  pub is_signer_beyond : advance s four signer_beyond ≡ Err (chains.Frame frames.Range)
