-- What `chain` says after a kit of the members 0 and the processes 0 and 1, whose line `go` is number 13. Each answer is the reference's.
-- Names here (* for this crate alone):
--   s*, says*, two_views*, again*, no_proof*, want_line*, short_line*, no_bytes*, odd_digits*, upper_case*, two_words*, other_word*,
--     empty_line*, no_line_feed*, behind_a_view*, Reported*
use Rattle.std.specs.Prelude.{◌≡◌, ℕ, ◌==◌, List, [], ◌∷◌, ◌++◌, length, codes}
use Rattle.group_defs.specs.Process.{Setting, all_kinds}
use Rattle.chain_text_defs.specs.Chains.{Answer, chain_at}

abbrev pub s : Setting
s = record {
  group = [];
  roster = (0, []) ∷ (1, []) ∷ [];
  genesis = record { number = 0; members = 0 ∷ [] };
  valid = λ key body signature. length signature == 0;
  signs = all_kinds;
}

abbrev pub says : List ℕ → ℕ → Answer
says bytes status = record { written = bytes; status = status }

unfoldable pub two_views : List (List ℕ)
two_views = ((112 ∷ 114 ∷ 111 ∷ 111 ∷ 102 ∷ 32 ∷ 48 ∷ 49 ∷ 48 ∷ 50 ∷ 48 ∷ 52 ∷ 48 ∷ 48 ∷ 48 ∷ 56 ∷ 48 ∷ 98 ∷ 48 ∷ 48 ∷ 48 ∷ 48 ∷ 48 ∷ 48 ∷ 48 ∷ 50 ∷ 48 ∷ 49 ∷ 48 ∷ 48 ∷ 48 ∷ 49 ∷ 48 ∷ 49 ∷ 48 ∷ 48 ∷ 48 ∷ 48 ∷ 48 ∷ 48 ∷ 48 ∷ 48 ∷ 48 ∷ 56 ∷ 48 ∷ 52 ∷ 48 ∷ 48 ∷ 48 ∷ 48 ∷ 48 ∷ 48 ∷ 48 ∷ 48 ∷ 48 ∷ 48 ∷ 48 ∷ 48 ∷ 48 ∷ 48 ∷ 48 ∷ 49 ∷ 48 ∷ 48 ∷ 48 ∷ 48 ∷ 48 ∷ 48 ∷ 48 ∷ 48 ∷ 49 ∷ 54 ∷ 48 ∷ 50 ∷ 48 ∷ 48 ∷ 48 ∷ 48 ∷ 48 ∷ 48 ∷ 48 ∷ 48 ∷ 48 ∷ 48 ∷ 48 ∷ 48 ∷ 48 ∷ 101 ∷ 48 ∷ 48 ∷ 48 ∷ 48 ∷ 48 ∷ 48 ∷ 48 ∷ 48 ∷ 48 ∷ 48 ∷ 48 ∷ 48 ∷ 48 ∷ 48 ∷ 48 ∷ 48 ∷ 48 ∷ 49 ∷ 48 ∷ 49 ∷ 54 ∷ 49 ∷ 48 ∷ 48 ∷ 48 ∷ 49 ∷ 54 ∷ 50 ∷ 48 ∷ 49 ∷ 48 ∷ 48 ∷ 48 ∷ 48 ∷ 48 ∷ 48 ∷ 48 ∷ 48 ∷ 48 ∷ 56 ∷ 48 ∷ 53 ∷ 48 ∷ 48 ∷ 48 ∷ 48 ∷ 48 ∷ 48 ∷ 48 ∷ 48 ∷ 48 ∷ 48 ∷ 48 ∷ 48 ∷ 48 ∷ 48 ∷ 48 ∷ 49 ∷ 48 ∷ 48 ∷ 48 ∷ 48 ∷ 48 ∷ 48 ∷ []) ∷ ([]) ∷ [])

unfoldable pub again : List (List ℕ)
again = ((112 ∷ 114 ∷ 111 ∷ 111 ∷ 102 ∷ 32 ∷ 48 ∷ 49 ∷ 48 ∷ 50 ∷ 48 ∷ 52 ∷ 48 ∷ 48 ∷ 48 ∷ 56 ∷ 48 ∷ 98 ∷ 48 ∷ 48 ∷ 48 ∷ 48 ∷ 48 ∷ 48 ∷ 48 ∷ 50 ∷ 48 ∷ 49 ∷ 48 ∷ 48 ∷ 48 ∷ 49 ∷ 48 ∷ 49 ∷ 48 ∷ 48 ∷ 48 ∷ 48 ∷ 48 ∷ 48 ∷ 48 ∷ 48 ∷ 48 ∷ 56 ∷ 48 ∷ 52 ∷ 48 ∷ 48 ∷ 48 ∷ 48 ∷ 48 ∷ 48 ∷ 48 ∷ 48 ∷ 48 ∷ 48 ∷ 48 ∷ 48 ∷ 48 ∷ 48 ∷ 48 ∷ 49 ∷ 48 ∷ 48 ∷ 48 ∷ 48 ∷ 48 ∷ 48 ∷ 48 ∷ 48 ∷ 49 ∷ 54 ∷ 48 ∷ 50 ∷ 48 ∷ 48 ∷ 48 ∷ 48 ∷ 48 ∷ 48 ∷ 48 ∷ 48 ∷ 48 ∷ 48 ∷ 48 ∷ 48 ∷ 48 ∷ 101 ∷ 48 ∷ 48 ∷ 48 ∷ 48 ∷ 48 ∷ 48 ∷ 48 ∷ 48 ∷ 48 ∷ 48 ∷ 48 ∷ 48 ∷ 48 ∷ 48 ∷ 48 ∷ 48 ∷ 48 ∷ 49 ∷ 48 ∷ 49 ∷ 54 ∷ 49 ∷ 48 ∷ 48 ∷ 48 ∷ 49 ∷ 54 ∷ 50 ∷ 48 ∷ 49 ∷ 48 ∷ 48 ∷ 48 ∷ 48 ∷ 48 ∷ 48 ∷ 48 ∷ 48 ∷ 48 ∷ 56 ∷ 48 ∷ 53 ∷ 48 ∷ 48 ∷ 48 ∷ 48 ∷ 48 ∷ 48 ∷ 48 ∷ 48 ∷ 48 ∷ 48 ∷ 48 ∷ 48 ∷ 48 ∷ 48 ∷ 48 ∷ 49 ∷ 48 ∷ 48 ∷ 48 ∷ 48 ∷ 48 ∷ 48 ∷ []) ∷ (112 ∷ 114 ∷ 111 ∷ 111 ∷ 102 ∷ 32 ∷ 48 ∷ 49 ∷ 48 ∷ 50 ∷ 48 ∷ 52 ∷ 48 ∷ 48 ∷ 48 ∷ 56 ∷ 48 ∷ 98 ∷ 48 ∷ 48 ∷ 48 ∷ 48 ∷ 48 ∷ 48 ∷ 48 ∷ 50 ∷ 48 ∷ 49 ∷ 48 ∷ 48 ∷ 48 ∷ 49 ∷ 48 ∷ 49 ∷ 48 ∷ 48 ∷ 48 ∷ 48 ∷ 48 ∷ 48 ∷ 48 ∷ 48 ∷ 48 ∷ 56 ∷ 48 ∷ 52 ∷ 48 ∷ 48 ∷ 48 ∷ 48 ∷ 48 ∷ 48 ∷ 48 ∷ 48 ∷ 48 ∷ 48 ∷ 48 ∷ 48 ∷ 48 ∷ 48 ∷ 48 ∷ 49 ∷ 48 ∷ 48 ∷ 48 ∷ 48 ∷ 48 ∷ 48 ∷ 48 ∷ 48 ∷ 49 ∷ 54 ∷ 48 ∷ 50 ∷ 48 ∷ 48 ∷ 48 ∷ 48 ∷ 48 ∷ 48 ∷ 48 ∷ 48 ∷ 48 ∷ 48 ∷ 48 ∷ 48 ∷ 48 ∷ 101 ∷ 48 ∷ 48 ∷ 48 ∷ 48 ∷ 48 ∷ 48 ∷ 48 ∷ 48 ∷ 48 ∷ 48 ∷ 48 ∷ 48 ∷ 48 ∷ 48 ∷ 48 ∷ 48 ∷ 48 ∷ 49 ∷ 48 ∷ 49 ∷ 54 ∷ 49 ∷ 48 ∷ 48 ∷ 48 ∷ 49 ∷ 54 ∷ 50 ∷ 48 ∷ 49 ∷ 48 ∷ 48 ∷ 48 ∷ 48 ∷ 48 ∷ 48 ∷ 48 ∷ 48 ∷ 48 ∷ 56 ∷ 48 ∷ 53 ∷ 48 ∷ 48 ∷ 48 ∷ 48 ∷ 48 ∷ 48 ∷ 48 ∷ 48 ∷ 48 ∷ 48 ∷ 48 ∷ 48 ∷ 48 ∷ 48 ∷ 48 ∷ 49 ∷ 48 ∷ 48 ∷ 48 ∷ 48 ∷ 48 ∷ 48 ∷ []) ∷ ([]) ∷ [])

unfoldable pub no_proof : List (List ℕ)
no_proof = (([]) ∷ [])

unfoldable pub want_line : List (List ℕ)
want_line = ((112 ∷ 114 ∷ 111 ∷ 111 ∷ 102 ∷ 32 ∷ 48 ∷ 49 ∷ 48 ∷ 51 ∷ 48 ∷ 48 ∷ 48 ∷ 48 ∷ 48 ∷ 48 ∷ 48 ∷ 48 ∷ []) ∷ ([]) ∷ [])

unfoldable pub short_line : List (List ℕ)
short_line = ((112 ∷ 114 ∷ 111 ∷ 111 ∷ 102 ∷ 32 ∷ 48 ∷ 49 ∷ []) ∷ ([]) ∷ [])

unfoldable pub no_bytes : List (List ℕ)
no_bytes = ((112 ∷ 114 ∷ 111 ∷ 111 ∷ 102 ∷ 32 ∷ []) ∷ ([]) ∷ [])

unfoldable pub odd_digits : List (List ℕ)
odd_digits = ((112 ∷ 114 ∷ 111 ∷ 111 ∷ 102 ∷ 32 ∷ 48 ∷ 49 ∷ 48 ∷ []) ∷ ([]) ∷ [])

unfoldable pub upper_case : List (List ℕ)
upper_case = ((112 ∷ 114 ∷ 111 ∷ 111 ∷ 102 ∷ 32 ∷ 48 ∷ 65 ∷ []) ∷ ([]) ∷ [])

unfoldable pub two_words : List (List ℕ)
two_words = ((112 ∷ 114 ∷ 111 ∷ 111 ∷ 102 ∷ 32 ∷ 48 ∷ 49 ∷ 32 ∷ 48 ∷ 50 ∷ []) ∷ ([]) ∷ [])

unfoldable pub other_word : List (List ℕ)
other_word = ((112 ∷ 114 ∷ 111 ∷ 118 ∷ 101 ∷ 32 ∷ 48 ∷ 49 ∷ []) ∷ ([]) ∷ [])

unfoldable pub empty_line : List (List ℕ)
empty_line = (([]) ∷ ([]) ∷ [])

unfoldable pub no_line_feed : List (List ℕ)
no_line_feed = ((112 ∷ 114 ∷ 111 ∷ 111 ∷ 102 ∷ 32 ∷ 48 ∷ 49 ∷ 48 ∷ 50 ∷ 48 ∷ 49 ∷ 48 ∷ 48 ∷ 48 ∷ 56 ∷ 48 ∷ 98 ∷ 48 ∷ 48 ∷ 48 ∷ 48 ∷ 48 ∷ 48 ∷ 48 ∷ 51 ∷ 48 ∷ 48 ∷ 48 ∷ 48 ∷ 48 ∷ 48 ∷ 48 ∷ 49 ∷ 48 ∷ 48 ∷ 48 ∷ 48 ∷ 48 ∷ 48 ∷ []) ∷ [])

unfoldable pub behind_a_view : List (List ℕ)
behind_a_view = ((112 ∷ 114 ∷ 111 ∷ 111 ∷ 102 ∷ 32 ∷ 48 ∷ 49 ∷ 48 ∷ 50 ∷ 48 ∷ 52 ∷ 48 ∷ 48 ∷ 48 ∷ 56 ∷ 48 ∷ 98 ∷ 48 ∷ 48 ∷ 48 ∷ 48 ∷ 48 ∷ 48 ∷ 48 ∷ 50 ∷ 48 ∷ 49 ∷ 48 ∷ 48 ∷ 48 ∷ 49 ∷ 48 ∷ 49 ∷ 48 ∷ 48 ∷ 48 ∷ 48 ∷ 48 ∷ 48 ∷ 48 ∷ 48 ∷ 48 ∷ 56 ∷ 48 ∷ 52 ∷ 48 ∷ 48 ∷ 48 ∷ 48 ∷ 48 ∷ 48 ∷ 48 ∷ 48 ∷ 48 ∷ 48 ∷ 48 ∷ 48 ∷ 48 ∷ 48 ∷ 48 ∷ 49 ∷ 48 ∷ 48 ∷ 48 ∷ 48 ∷ 48 ∷ 48 ∷ 48 ∷ 48 ∷ 49 ∷ 54 ∷ 48 ∷ 50 ∷ 48 ∷ 48 ∷ 48 ∷ 48 ∷ 48 ∷ 48 ∷ 48 ∷ 48 ∷ 48 ∷ 48 ∷ 48 ∷ 48 ∷ 48 ∷ 101 ∷ 48 ∷ 48 ∷ 48 ∷ 48 ∷ 48 ∷ 48 ∷ 48 ∷ 48 ∷ 48 ∷ 48 ∷ 48 ∷ 48 ∷ 48 ∷ 48 ∷ 48 ∷ 48 ∷ 48 ∷ 49 ∷ 48 ∷ 49 ∷ 54 ∷ 49 ∷ 48 ∷ 48 ∷ 48 ∷ 49 ∷ 54 ∷ 50 ∷ 48 ∷ 49 ∷ 48 ∷ 48 ∷ 48 ∷ 48 ∷ 48 ∷ 48 ∷ 48 ∷ 48 ∷ 48 ∷ 56 ∷ 48 ∷ 53 ∷ 48 ∷ 48 ∷ 48 ∷ 48 ∷ 48 ∷ 48 ∷ 48 ∷ 48 ∷ 48 ∷ 48 ∷ 48 ∷ 48 ∷ 48 ∷ 48 ∷ 48 ∷ 49 ∷ 48 ∷ 48 ∷ 48 ∷ 48 ∷ 48 ∷ 48 ∷ []) ∷ (118 ∷ 105 ∷ 101 ∷ 119 ∷ 32 ∷ 49 ∷ 32 ∷ 58 ∷ 32 ∷ 48 ∷ 32 ∷ 49 ∷ []) ∷ ([]) ∷ [])

-- the row: what the definitions give
pub record Reported : Type 0 where
  -- row «chain_of_two_views»
  pub is_two_views : chain_at s 14 s.genesis two_views ≡ says (codes "view 1 : 0 1\n") 0
  -- the same line a second time
  pub is_again : chain_at s 14 s.genesis again ≡ says (codes "view 1 : 0 1\n" ++ codes "stop 7 few 15 0\n") 7
  -- no proofs
  pub is_no_proof : chain_at s 14 s.genesis no_proof ≡ says ([]) 0
  -- a Want
  pub is_want_line : chain_at s 14 s.genesis want_line ≡ says (codes "stop 7 notproof 14\n") 7
  -- a fault of the frame
  pub is_short_line : chain_at s 14 s.genesis short_line ≡ says (codes "stop 7 frame 14 short\n") 7
  -- a proof without bytes is another line
  pub is_no_bytes : chain_at s 14 s.genesis no_bytes ≡ says (codes "stop 7 line 14\n") 7
  -- so is one of an odd number of digits
  pub is_odd_digits : chain_at s 14 s.genesis odd_digits ≡ says (codes "stop 7 line 14\n") 7
  -- or in upper case
  pub is_upper_case : chain_at s 14 s.genesis upper_case ≡ says (codes "stop 7 line 14\n") 7
  -- or with a word more
  pub is_two_words : chain_at s 14 s.genesis two_words ≡ says (codes "stop 7 line 14\n") 7
  -- or another word
  pub is_other_word : chain_at s 14 s.genesis other_word ≡ says (codes "stop 7 line 14\n") 7
  -- or an empty line
  pub is_empty_line : chain_at s 14 s.genesis empty_line ≡ says (codes "stop 7 line 14\n") 7
  -- or one that the input ends in
  pub is_no_line_feed : chain_at s 14 s.genesis no_line_feed ≡ says (codes "stop 7 line 14\n") 7
  -- a fault after a view that was written
  pub is_behind_a_view : chain_at s 14 s.genesis behind_a_view ≡ says (codes "view 1 : 0 1\n" ++ codes "stop 7 line 15\n") 7
