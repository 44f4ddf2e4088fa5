-- A node that is asked for a snapshot, answer by answer.
use Rattle.std.proofs.Common.{◌≡◌, ℕ, List, ◌∷◌, Some, refl, sym}
use Rattle.std.proofs.lemmas.List.{append-nil}
use Rattle.node_defs.specs.Casts.{Cast}
use Rattle.node_defs.specs.Lines.{DiskFailed}
use Rattle.node_defs.specs.Nodes.{Node, Task, Say, Mark, Marks, Digest, Failed, Snapper, after_task, answered, call_of}
use Rattle.node_traces.specs.Goes.{Outside, Does, Goes}
use Rattle.node_traces.proofs.Service.{asks-none}
use Rattle.node_serving.specs.Taking.{at}
use Rattle.node_serving.proofs.Handed.{Ends, answers, as-it-was}

module _ (c : Cast) (snap : Snapper) (most : ℕ) (n : Node) (ts : List Task) (x : Outside) where
  -- the node, asked for a snapshot
  abbrev pub marking : Node
  marking = at n (Mark ∷ ts)

  digest-does : (digest : List ℕ) → Does c most marking (Digest digest) x x
  unfolding call_of
  digest-does digest = record { link = refl; sink = refl; source = refl; service = asks-none c n.now Marks (Digest digest) x.service refl }

  fails-does : Does c most marking Failed x x
  unfolding call_of
  fails-does = record { link = refl; sink = refl; source = refl; service = asks-none c n.now Marks Failed x.service refl }

  marked-so : (digest : List ℕ) → at n (Say (snap marking digest) ∷ ts) ≡ answered c snap marking (Digest digest)
  unfolding answered after_task
  marked-so digest = sym (as-it-was n (Say (snap marking digest) ∷ ts))

  failed-so : ((answered c snap marking Failed).stopped ≡ Some DiskFailed) × ((answered c snap marking Failed).kept ≡ n.kept)
  unfolding answered after_task
  failed-so = (refl, append-nil n.kept)

  -- the disk gave a digest: the line is to be written
  pub marks-on : (digest : List ℕ) → Goes c snap most marking x (at n (Say (snap marking digest) ∷ ts)) x
  marks-on digest =
      answers c snap most marking (at n (Say (snap marking digest) ∷ ts)) (Digest digest) x x (marked-so digest) (digest-does digest)

  -- or it failed
  pub marks-stops : Ends c snap most marking x DiskFailed x n.kept
  marks-stops = record {
    last = answered c snap marking Failed;
    stops = failed-so.0;
    keeps = failed-so.1;
    goes = answers c snap most marking (answered c snap marking Failed) Failed x x refl fails-does;
  }
