use Rattle.std.proofs.Common.{◌≡◌, length}
use Rattle.std.specs.Vec.Iter.{into_iter_items}
use Rattle.journal_defs.specs.declared.Version.{Version}
use Rattle.journal_defs.specs.Journals.{batch_limit}
use Rattle.node_defs.specs.Casts.{hosted_by}
use Rattle.node_images.specs.Judging.{AreJudged}
use Rattle.node_images.specs.Said.{ArePartsOf, SnapSaid}
use Rattle.restored_hosts.proofs.Walked.{AreLeft, Underway}
use Rattle.restored_hosts.proofs.hosts.hosts_of.Given as goal

abbrev pub invariant-processes : goal.invariant-processes
invariant-processes l = record {
  known : AreLeft l.kit (into_iter_items l.left);
  begun : (version : Version) (t : SnapSaid) → batch_limit version ≡ l.batch_limit → ArePartsOf (hosted_by l.kit) t.parts
      → AreJudged l.kit t.parts l.fn.processes.items → Underway l.kit version t (into_iter_items l.left) l.hosts l.counts;
}

abbrev pub decreases-processes : goal.decreases-processes
decreases-processes l = length (into_iter_items l.left)
