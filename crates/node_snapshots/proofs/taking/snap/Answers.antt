use Rattle.std.proofs.Common.{◌≡◌, ℕ, take, sym, subst, ◌∙◌}
use Rattle.std.specs.Prelude.{IfSome}
use Rattle.sha2.specs.Sha256.{sha256}
use Rattle.journal_rp.specs.Stages.{version_of}
use Rattle.node_snapshots.proofs.taking.snap.Goals as goal

pub returns-clause-line : goal.returns-clause-line
returns-clause-line g c = λ b n at are. (
  c.in_ok-mark.mark.1,
  subst (λ (k : ℕ). IfSome (g.D.Disk.seen c.args.disk.now) (λ file. c.in_ok-mark.mark.1 ≡ sha256 (take k file)))
      (c.in_ok-mark.ensures.place ∙ sym at) c.in_ok-mark.ensures.digest,
  c.in_ok-line.ensures (version_of c.args.journal.now) b n (at ∙ sym c.in_ok-mark.ensures.place) are,
)
