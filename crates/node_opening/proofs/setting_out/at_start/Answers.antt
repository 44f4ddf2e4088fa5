use Rattle.std.proofs.Common.{sym}
use Rattle.journal_rp.specs.Stages.{gate_of, version_of}
use Rattle.node_opening.proofs.Begun.{start-set-out}
use Rattle.node_opening.proofs.setting_out.at_start.Goals as goal

pub returns-clause-sets : goal.returns-clause-sets
returns-clause-sets c = λ held seen begun.
    let v = version_of c.args.journal.now in
    start-set-out c.args.kit.now v held seen (gate_of c.args.journal.now) c.in_ok-hosts.hosts c.new-counts.result c.requires begun
    (c.in_ok-hosts.ensures v (sym c.batch.ensures)) c.new-counts.ensures
