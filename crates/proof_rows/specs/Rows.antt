-- Rows of proofs from a journal. A signature is valid where it has no byte.
-- Names here (* for this crate alone):
--   alone*, turn*, says*, renewed*, turns*, after_all*, first_line*, second_line*, TwoViewsTravel*
--   starts: no_starts*, many*, StartsAreRead*
use Rattle.std.specs.Prelude.{◌≡◌, ℕ, ◌==◌, List, [], ◌∷◌, ◌++◌, length, map, codes, Some, None}
use Rattle.std.specs.List.{range_with_len}
use Rattle.text_defs.specs.Words.{parts_of}
use Rattle.message_defs.specs.Updates.{Renew, Value}
use Rattle.message_defs.specs.Statements.{Ack, End, Ready, Statement}
use Rattle.message_defs.specs.Claims.{Claims}
use Rattle.group_defs.specs.Process.{Process, Setting, all_kinds, start}
use Rattle.group_defs.specs.Events.{Event, Hand, Join, RenewView, Tick, Turn, run}
use Rattle.chain_text_defs.specs.Chains.{chain_at}
use Rattle.proof_defs.specs.Lines.{lines_of, proof_line}
use Rattle.proof_defs.specs.Starts.{start_in, started_at}

-- two processes with keys, of which 0 is alone in the first view
abbrev pub alone : Setting
alone = record {
  group = [];
  roster = (0, []) ∷ (1, []) ∷ [];
  genesis = record { number = 0; members = 0 ∷ [] };
  valid = λ key body signature. length signature == 0;
  signs = all_kinds;
}

-- a turn with room for a hundred signatures, which have no byte
abbrev pub turn : Event → Turn
turn e = record { event = e; allowance = 100; signer = λ n body. [] }

-- process 1 says this
abbrev pub says : Statement → Turn
says st = turn (Hand 1 (Claims (record { signer = 1; statement = st; signature = [] } ∷ [])))

-- the view is renewed, with no place in it
abbrev pub renewed : Value
renewed = record { update = Renew; cut = 0 }

-- 0 lets 1 in, being ready only with the next event, as a Ready is signed before an Ack; and then both renew the view
unfoldable pub turns : List Turn
turns = turn (Join 1) ∷ turn Tick ∷ turn RenewView ∷ says (End 1 0) ∷ says (Ack 1 0 renewed) ∷ says (Ready 1 0 renewed) ∷ []

-- process 0 after these turns
abbrev pub after_all : Process
after_all = run alone (start alone 0 16) turns

abbrev pub first_line : List ℕ
first_line = codes "proof 01020100080b0000000201000001000000\n"

abbrev pub second_line : List ℕ
second_line = codes "proof 01020100080b0001000300000002000000010000\n"

-- The lines of process 0, and what they show from the first view on. A certificate that is not one frame has a line that is large.
pub record TwoViewsTravel : Type 0 where
  pub written : lines_of after_all ≡ first_line ++ second_line
  pub shown : chain_at alone 9 alone.genesis (parts_of (first_line ++ second_line))
      ≡ record { written = codes "view 1 : 0 1\nview 2 : 0 1\n"; status = 0 }
  pub large : proof_line 3 (record { view = alone.genesis; delivered = []; commit = [] }) ≡ codes "proof 3 large\n"

-- ---- starts

-- lines that are none of a view of these keys
abbrev pub no_starts : List (List ℕ)
no_starts =
    -- a member without a key, one that is named twice, none, and a number beyond the last
    codes "view 1 : 0 2" ∷ codes "view 1 : 0 0" ∷ codes "view 1 :" ∷ codes "view 1024 : 0"
    -- no number of a view, another word, a further blank
    ∷ codes "view 01 : 0" ∷ codes "views 1 : 0" ∷ codes "view 1 : 0 "
    -- 2^64 + 1, and a process with a number of two bytes
    ∷ codes "view 18446744073709551617 : 0" ∷ codes "view 1 : 256" ∷ []

-- seventeen processes with keys
abbrev pub many : Setting
many = record alone { roster = map (λ p. (p, [])) (range_with_len 0 17) }

pub record StartsAreRead : Type 0 where
  -- without such a line a chain begins with the first view
  pub whole : started_at alone 9 (parts_of (first_line ++ second_line))
      ≡ record { written = codes "view 0 : 0\nview 1 : 0 1\nview 2 : 0 1\n"; status = 0 }
  -- the second line shows the view after the one that is given first
  pub begun : started_at alone 9 (parts_of (codes "view 1 : 0 1\n" ++ second_line))
      ≡ record { written = codes "view 1 : 0 1\nview 2 : 0 1\n"; status = 0 }
  pub refused : started_at alone 9 (parts_of (codes "view 1 : 0 2\n" ++ second_line))
      ≡ record { written = codes "view 0 : 0\nstop 7 line 9\n"; status = 7 }
  pub none : map (start_in alone) no_starts ≡ map (λ line. None) no_starts
  -- the line of a view after a proof
  pub late : started_at alone 9 (parts_of (first_line ++ codes "view 1 : 0 1\n"))
      ≡ record { written = codes "view 0 : 0\nview 1 : 0 1\nstop 7 line 10\n"; status = 7 }
  -- members in another order, as many as there may be, and one more
  pub turned : start_in alone (codes "view 1023 : 1 0") ≡ Some (record { number = 1023; members = 1 ∷ 0 ∷ [] })
  pub sixteen : start_in many (codes "view 2 : 0 1 2 3 4 5 6 7 8 9 10 11 12 13 14 16")
      ≡ Some (record { number = 2; members = range_with_len 0 15 ++ 16 ∷ [] })
  pub seventeen : start_in many (codes "view 2 : 0 1 2 3 4 5 6 7 8 9 10 11 12 13 14 15 16") ≡ None
