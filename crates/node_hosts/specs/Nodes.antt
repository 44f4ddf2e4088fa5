-- Which node of the definitions a running one is.
use Rattle.std.specs.Prelude.{◌≡◌, ℕ, List, [], Option, None, IfSome}
use Rattle.kit_defs.specs.Kits.{Kit}
use Rattle.journal_disk.specs.Disks.{HasLength, HasRest}
use Rattle.journal_rp.specs.declared.journal.Journal.{Journal}
use Rattle.journal_rp.specs.declared.journal.Writing.{Writing}
use Rattle.journal_rp.specs.Stages.{gate_of, len_of, version_of}
use Rattle.node_defs.specs.Casts.{Cast, cast_of}
use Rattle.node_defs.specs.Nodes.{Node, Task}
use Rattle.node_defs.specs.Lives.{IsSound}
use Rattle.letter_laws.specs.Letters.{IsKeyed}
use Rattle.node_traces.specs.Stops.{Outset}
use Rattle.node_hosts.specs.declared.running.Running.{Running}
use Rattle.node_hosts.specs.Hosts.{AreHosts}
use Rattle.node_hosts.specs.Counts.{AreCountsOf}

-- who takes part in it: by its kit, and by the kind of its journal
abbrev pub cast_in : Running → Cast
cast_in r = cast_of r.kit.now (version_of r.journal)

-- The node runs, its opening is over, nothing waits to go out or to be written, and these tasks are left.
pub record IsAt (n : Node) (ts : List Task) : Type 0 where
  pub runs : n.stopped ≡ None
  pub opened : n.opening ≡ []
  pub leaving : n.leaving ≡ []
  pub tasks : n.tasks ≡ ts
  pub text : n.text ≡ []
  pub late : n.late ≡ []

-- The journal is as long as its disk, and its closed gate is the node's. Where the disk says what it holds, it holds these bytes and then the
-- entries that the node keeps, and every crash leaves them.
pub record IsJournalOf (head : List ℕ) (n : Node) (journal : Journal Writing) (seen : Option (List ℕ)) (may_leave : List ℕ → Type 0)
    : Type 0 where
  pub gate : n.gate ≡ gate_of journal
  pub length : HasLength seen (len_of journal)
  pub rest : IfSome seen (λ file. HasRest seen may_leave head n.kept n.gate)

-- each process with which a run begins there is the one of its number, and the roster has keys of the members of its view
abbrev pub AreKeyed : Cast → Outset → Type 0
AreKeyed c f = (p : ℕ) → IsKeyed c.setting p (f.begins.from p)

-- This is node n, at these tasks, which began at f: each hosted process is what its entries from there on make of it, and its entries are
-- counted.
pub record IsNode (f : Outset) (seen : Option (List ℕ)) (may_leave : List ℕ → Type 0) (r : Running) (n : Node) (tasks : List Task) : Type 0 where
  pub at : IsAt n tasks
  pub hosts : AreHosts (cast_in r) r.kit.now n.now None r.hosts
  pub journal : IsJournalOf f.head n r.journal seen may_leave
  pub keyed : AreKeyed (cast_in r) f
  pub sound : IsSound (cast_in r) f.begins.from n
  pub counts : AreCountsOf f.begins n r.counts
