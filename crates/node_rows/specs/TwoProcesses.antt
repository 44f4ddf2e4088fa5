-- Two processes of one node: what process 0 submits is delivered at both, line by line; and the same where the last send fails.
use Rattle.std.specs.Prelude.{◌≡◌, ℕ, List, [], ◌∷◌, length, Some, codes}
use Rattle.node_defs.specs.Casts.{Cast, from_start}
use Rattle.node_defs.specs.Nodes.{Node, opens}
use Rattle.node_rows.specs.Outsides.{Outside, Seen, outside, drive, seen_of, toy}

unfoldable pub c : Cast
c = toy 100

unfoldable pub script : List (List ℕ)
script =
    codes "0 submit 6869" ∷ codes "1 recv 8" ∷ codes "0 recv 8" ∷ codes "1 recv 8" ∷ codes "0 recv 8" ∷ codes "1 recv 8" ∷ []

abbrev pub text : List ℕ
text = codes "host 0 view 0 delivered 0 entries 0\nhost 1 view 0 delivered 0 entries 0\nrecv 1 1\nrecv 0 1\nrecv 1 1\ndeliver 0 0 0 0 0 6869\nrecv 0 1\ndeliver 1 0 0 0 0 6869\nrecv 1 1\n"

abbrev pub run : List (List ℕ) → ℕ → Node × Outside
run script calls = drive c calls (opens c (from_start c) 0 [], outside script)

-- The last send is the link's call of this number, counted from 0: what process 0 sends in the turn that delivers. It fails.
abbrev pub losing : Seen
losing = seen_of (drive c 100 (opens c (from_start c) 0 [], record (outside script) { bad_link = 13 ∷ [] }))

-- the turn's note comes before the line of its failed send, and process 1 is never handed what it lacks
abbrev pub losing_text : List ℕ
losing_text = codes "host 0 view 0 delivered 0 entries 0\nhost 1 view 0 delivered 0 entries 0\nrecv 1 1\nrecv 0 1\nrecv 1 1\ndeliver 0 0 0 0 0 6869\nfault 0\nrecv 0 1\nrecv 1 0\n"

-- the row: what the definitions give
pub record TwoProcesses : Type 0 where
  pub status : (seen_of (run script 100)).0 ≡ Some 0
  pub lines : (seen_of (run script 100)).1 ≡ text
  pub note_before_fault : losing.1 ≡ losing_text
