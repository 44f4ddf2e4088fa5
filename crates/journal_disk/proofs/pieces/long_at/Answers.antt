use Rattle.std.proofs.Common.{List, ℕ, subst, sym}
use Rattle.std.specs.Option.{IfSome}
use Rattle.journal_disk.specs.Disks.{BeginsAt}
use Rattle.journal_disk.proofs.pieces.long_at.Goals as goal

pub returns-clause-value : goal.returns-clause-value
returns-clause-value g c = subst (λ (l : List ℕ). IfSome (g.D.Disk.seen c.args.disk.now) (λ file. BeginsAt file c.args.at l))
    (sym c.long_of.ensures) c.in_ok-fill_from.ensures.bytes
