-- What claims show after a view. Each answer is the reference's; those that show a view come with the wrong readings of the rule.
-- Names here (* for this crate alone):
--   four*, two*, one*, quorum*, added*, removed*, one_less*, no_claims*, stranger*, keyless*, twice*, forged_one*, two_ranks*,
--     two_cuts*, places*, least_rank*, impossible*, above_impossible*, first_counts*, first_valid_counts*, each_rank_its_first*,
--     high_rank*, highest_rank*, others_passed_over*, two_members*, last_of_two*, last_member*, Shown*
use Rattle.std.specs.Prelude.{◌≡◌, List, [], ◌∷◌, Ok, Err}
use Rattle.message_defs.specs.Updates.{Remove, Add, Renew}
use Rattle.message_defs.specs.Statements.{Echo, Place, Ready, Claim}
use Rattle.group_defs.specs.Views.{View}
use Rattle.chain_defs.specs.declared.ChainFault.TheVariants as chains
use Rattle.chain_defs.specs.Advance.{shows}
use Rattle.chain_rows.specs.Scripts.{s, by, forged, msg, value}

-- four members, so a quorum is three
abbrev pub four : View
four = record { number = 0; members = 0 ∷ 1 ∷ 2 ∷ 3 ∷ [] }

abbrev pub two : View
two = record { number = 5; members = 2 ∷ 0 ∷ [] }

abbrev pub one : View
one = record { number = 0; members = 0 ∷ [] }

unfoldable pub quorum : List Claim
quorum = by 0 (Ready 0 0 (value Renew 0)) ∷ by 1 (Ready 0 0 (value Renew 0)) ∷ by 2 (Ready 0 0 (value Renew 0)) ∷ []

unfoldable pub added : List Claim
added = by 1 (Ready 0 0 (value (Add 4) 3)) ∷ by 2 (Ready 0 0 (value (Add 4) 3)) ∷ by 3 (Ready 0 0 (value (Add 4) 3)) ∷ []

unfoldable pub removed : List Claim
removed = by 1 (Ready 0 0 (value (Remove 1) 0)) ∷ by 2 (Ready 0 0 (value (Remove 1) 0)) ∷ by 3 (Ready 0 0 (value (Remove 1) 0)) ∷ []

unfoldable pub one_less : List Claim
one_less = by 0 (Ready 0 0 (value Renew 0)) ∷ by 1 (Ready 0 0 (value Renew 0)) ∷ []

unfoldable pub no_claims : List Claim
no_claims = by 0 (Ready 1 0 (value Renew 0)) ∷ by 1 (Ready 1 0 (value Renew 0)) ∷ by 2 (Ready 1 0 (value Renew 0)) ∷ []

unfoldable pub stranger : List Claim
stranger = by 0 (Ready 0 0 (value Renew 0)) ∷ by 1 (Ready 0 0 (value Renew 0)) ∷ by 4 (Ready 0 0 (value Renew 0)) ∷ []

unfoldable pub keyless : List Claim
keyless = by 0 (Ready 0 0 (value Renew 0)) ∷ by 1 (Ready 0 0 (value Renew 0)) ∷ by 9 (Ready 0 0 (value Renew 0)) ∷ []

unfoldable pub twice : List Claim
twice = by 0 (Ready 0 0 (value Renew 0)) ∷ by 1 (Ready 0 0 (value Renew 0)) ∷ by 1 (Ready 0 0 (value Renew 0)) ∷ by 1 (Ready 0 0 (value Renew 0)) ∷ []

unfoldable pub forged_one : List Claim
forged_one = by 0 (Ready 0 0 (value Renew 0)) ∷ by 1 (Ready 0 0 (value Renew 0)) ∷ forged 2 (Ready 0 0 (value Renew 0)) (1 ∷ []) ∷ []

unfoldable pub two_ranks : List Claim
two_ranks = by 0 (Ready 0 0 (value Renew 0)) ∷ by 1 (Ready 0 1 (value Renew 0)) ∷ by 2 (Ready 0 1 (value Renew 0)) ∷ []

unfoldable pub two_cuts : List Claim
two_cuts = by 0 (Ready 0 0 (value Renew 0)) ∷ by 1 (Ready 0 0 (value Renew 0)) ∷ by 2 (Ready 0 0 (value Renew 1)) ∷ []

unfoldable pub places : List Claim
places = by 0 (Place 0 0 (msg 1 0 ∷ [])) ∷ by 1 (Place 0 0 (msg 1 0 ∷ [])) ∷ by 2 (Place 0 0 (msg 1 0 ∷ [])) ∷ []

unfoldable pub least_rank : List Claim
least_rank = by 0 (Ready 0 1 (value (Remove 3) 0)) ∷ by 1 (Ready 0 1 (value (Remove 3) 0)) ∷ by 2 (Ready 0 1 (value (Remove 3) 0)) ∷ by 0 (Ready 0 0 (value Renew 0)) ∷ by 1 (Ready 0 0 (value Renew 0)) ∷ by 2 (Ready 0 0 (value Renew 0)) ∷ []

unfoldable pub impossible : List Claim
impossible = by 0 (Ready 0 0 (value (Add 9) 0)) ∷ by 1 (Ready 0 0 (value (Add 9) 0)) ∷ by 2 (Ready 0 0 (value (Add 9) 0)) ∷ by 3 (Ready 0 0 (value (Add 9) 0)) ∷ []

unfoldable pub above_impossible : List Claim
above_impossible = by 0 (Ready 0 0 (value (Add 2) 0)) ∷ by 1 (Ready 0 0 (value (Add 2) 0)) ∷ by 2 (Ready 0 0 (value (Add 2) 0)) ∷ by 1 (Ready 0 2 (value Renew 0)) ∷ by 2 (Ready 0 2 (value Renew 0)) ∷ by 3 (Ready 0 2 (value Renew 0)) ∷ []

unfoldable pub first_counts : List Claim
first_counts = by 0 (Ready 0 0 (value Renew 1)) ∷ by 0 (Ready 0 0 (value Renew 0)) ∷ by 1 (Ready 0 0 (value Renew 0)) ∷ by 2 (Ready 0 0 (value Renew 0)) ∷ []

unfoldable pub first_valid_counts : List Claim
first_valid_counts = forged 0 (Ready 0 0 (value Renew 1)) (1 ∷ []) ∷ by 0 (Ready 0 0 (value Renew 0)) ∷ by 1 (Ready 0 0 (value Renew 0)) ∷ by 2 (Ready 0 0 (value Renew 0)) ∷ []

unfoldable pub each_rank_its_first : List Claim
each_rank_its_first = by 0 (Ready 0 1 (value Renew 1)) ∷ by 0 (Ready 0 0 (value Renew 0)) ∷ by 1 (Ready 0 0 (value Renew 0)) ∷ by 2 (Ready 0 0 (value Renew 0)) ∷ []

unfoldable pub high_rank : List Claim
high_rank = by 0 (Ready 0 7 (value Renew 0)) ∷ by 1 (Ready 0 7 (value Renew 0)) ∷ by 2 (Ready 0 7 (value Renew 0)) ∷ []

unfoldable pub highest_rank : List Claim
highest_rank = by 0 (Ready 0 15 (value Renew 0)) ∷ by 1 (Ready 0 15 (value Renew 0)) ∷ by 2 (Ready 0 15 (value Renew 0)) ∷ []

unfoldable pub others_passed_over : List Claim
others_passed_over = by 0 (Place 0 0 (msg 1 0 ∷ [])) ∷ by 1 (Place 0 0 (msg 1 0 ∷ [])) ∷ by 2 (Place 0 0 (msg 1 0 ∷ [])) ∷ by 0 (Ready 0 0 (value Renew 0)) ∷ forged 3 (Echo 0 (msg 1 0) (97 ∷ [])) (1 ∷ []) ∷ by 2 (Ready 0 0 (value Renew 0)) ∷ by 3 (Ready 0 0 (value Renew 0)) ∷ []

unfoldable pub two_members : List Claim
two_members = by 2 (Ready 5 0 (value (Remove 2) 4)) ∷ []

unfoldable pub last_of_two : List Claim
last_of_two = by 0 (Ready 5 0 (value (Remove 2) 4)) ∷ by 2 (Ready 5 0 (value (Remove 2) 4)) ∷ []

unfoldable pub last_member : List Claim
last_member = by 0 (Ready 0 0 (value (Remove 0) 0)) ∷ []

-- the row: what the definitions give
pub record Shown : Type 0 where
  -- three of four members say one Ready
  pub is_quorum : shows s four quorum ≡ Ok (record { number = 1; members = 0 ∷ 1 ∷ 2 ∷ 3 ∷ [] })
  -- the update adds a process that has a key
  pub is_added : shows s four added ≡ Ok (record { number = 1; members = 0 ∷ 1 ∷ 2 ∷ 3 ∷ 4 ∷ [] })
  -- the update removes a member, who may say so too
  pub is_removed : shows s four removed ≡ Ok (record { number = 1; members = 0 ∷ 2 ∷ 3 ∷ [] })
  -- one less than Q
  pub is_one_less : shows s four one_less ≡ Err (chains.Few 2)
  -- no claim of the view: another view's Readies
  pub is_no_claims : shows s four no_claims ≡ Err (chains.Few 0)
  -- a process of the roster that is no member does not count
  pub is_stranger : shows s four stranger ≡ Err (chains.Few 2)
  -- nor one without a key
  pub is_keyless : shows s four keyless ≡ Err (chains.Few 2)
  -- a member that says it twice counts once
  pub is_twice : shows s four twice ≡ Err (chains.Few 2)
  -- a signature that is not valid does not count
  pub is_forged_one : shows s four forged_one ≡ Err (chains.Few 2)
  -- two ranks are not added up
  pub is_two_ranks : shows s four two_ranks ≡ Err (chains.Few 2)
  -- nor two cuts
  pub is_two_cuts : shows s four two_cuts ≡ Err (chains.Few 2)
  -- a Place is no Ready
  pub is_places : shows s four places ≡ Err (chains.Few 0)
  -- of two ranks the least, wherever its claims are
  pub is_least_rank : shows s four least_rank ≡ Ok (record { number = 1; members = 0 ∷ 1 ∷ 2 ∷ 3 ∷ [] })
  -- an impossible update: Few gives the quorum that said it
  pub is_impossible : shows s four impossible ≡ Err (chains.Few 4)
  -- and a later rank decides
  pub is_above_impossible : shows s four above_impossible ≡ Ok (record { number = 1; members = 0 ∷ 1 ∷ 2 ∷ 3 ∷ [] })
  -- of a member's Readies of one rank the first counts
  pub is_first_counts : shows s four first_counts ≡ Err (chains.Few 2)
  -- the first valid one
  pub is_first_valid_counts : shows s four first_valid_counts ≡ Ok (record { number = 1; members = 0 ∷ 1 ∷ 2 ∷ 3 ∷ [] })
  -- each rank has its own first
  pub is_each_rank_its_first : shows s four each_rank_its_first ≡ Ok (record { number = 1; members = 0 ∷ 1 ∷ 2 ∷ 3 ∷ [] })
  -- a rank of n or more is not passed over
  pub is_high_rank : shows s four high_rank ≡ Ok (record { number = 1; members = 0 ∷ 1 ∷ 2 ∷ 3 ∷ [] })
  -- nor the last one, 15
  pub is_highest_rank : shows s four highest_rank ≡ Ok (record { number = 1; members = 0 ∷ 1 ∷ 2 ∷ 3 ∷ [] })
  -- what else an answer carries is passed over
  pub is_others_passed_over : shows s four others_passed_over ≡ Ok (record { number = 1; members = 0 ∷ 1 ∷ 2 ∷ 3 ∷ [] })
  -- of two members both must say it
  pub is_two_members : shows s two two_members ≡ Err (chains.Few 1)
  -- one of two members removed
  pub is_last_of_two : shows s two last_of_two ≡ Ok (record { number = 6; members = 0 ∷ [] })
  -- the only member is not removed
  pub is_last_member : shows s one last_member ≡ Err (chains.Few 1)
