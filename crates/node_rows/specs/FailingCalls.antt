-- A call of the outside that fails: a send is a loss and a line, a receive too; a call of the journal or a bind ends the node.
use Rattle.std.specs.Prelude.{◌≡◌, ℕ, List, [], ◌∷◌, length, Some, codes}
use Rattle.node_defs.specs.Casts.{Cast, from_start}
use Rattle.node_defs.specs.Nodes.{Node, opens}
use Rattle.node_rows.specs.Outsides.{Outside, Seen, outside, drive, seen_of, toy}

unfoldable pub c : Cast
c = toy 100

-- these calls of the link fail, and these of the journal
abbrev pub failing : List (List ℕ) → List ℕ → List ℕ → Outside
failing script link journal = record (outside script) { bad_link = link; bad_journal = journal }

abbrev pub run : Outside → Seen
run o = seen_of (drive c 40 (opens c (from_start c) 0 [], o))

abbrev pub script : List (List ℕ)
script = codes "1 submit 61" ∷ []

abbrev pub hosts : List ℕ
hosts = codes "host 0 view 0 delivered 0 entries 0\nhost 1 view 0 delivered 0 entries 0\n"

-- the row: what the definitions give. The first two calls of the link are binds, the third is the send; the first of the journal is that
-- which ends the opening
pub record FailingCalls : Type 0 where
  pub send : ((run (failing script (2 ∷ []) [])).0 ≡ Some 0)
      × ((run (failing script (2 ∷ []) [])).1 ≡ codes "host 0 view 0 delivered 0 entries 0\nhost 1 view 0 delivered 0 entries 0\nfault 1\n")
      × ((run (failing script (2 ∷ []) [])).3 ≡ [])
  pub finish : ((run (failing script [] (0 ∷ []))).0 ≡ Some 5)
      × ((run (failing script [] (0 ∷ []))).1 ≡ codes "host 0 view 0 delivered 0 entries 0\nhost 1 view 0 delivered 0 entries 0\nstop 5 disk\n")
      × ((run (failing script [] (0 ∷ []))).3 ≡ [])
  pub append : ((run (failing script [] (1 ∷ []))).0 ≡ Some 5) × ((run (failing script [] (1 ∷ []))).3 ≡ [])
  pub bind : ((run (failing script (1 ∷ []) [])).0 ≡ Some 6) × ((run (failing script (1 ∷ []) [])).1 ≡ codes "stop 6 link\n")
  pub receive : ((run (failing (codes "0 recv 1" ∷ []) (2 ∷ []) [])).0 ≡ Some 0)
      × ((run (failing (codes "0 recv 1" ∷ []) (2 ∷ []) [])).1 ≡ codes "host 0 view 0 delivered 0 entries 0\nhost 1 view 0 delivered 0 entries 0\nfault 0\nrecv 0 0\n")
  -- of lines that are none, the first ends the node: the lines before it were carried out
  pub no_line : (run (outside (codes "0 tick" ∷ codes "2 tick" ∷ codes "0 tick" ∷ []))).1
      ≡ codes "host 0 view 0 delivered 0 entries 0\nhost 1 view 0 delivered 0 entries 0\nstop 7 line 2\n"
  pub upper_case : (run (outside (codes "0 submit 6A" ∷ []))).0 ≡ Some 7
  pub refused : (run (outside (codes "0 suspect 9" ∷ []))).1
      ≡ codes "host 0 view 0 delivered 0 entries 0\nhost 1 view 0 delivered 0 entries 0\nrefused 0 notmember\n"
