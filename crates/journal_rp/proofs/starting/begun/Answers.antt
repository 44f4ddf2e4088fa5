use Rattle.std.proofs.Common.{◌≡◌, ℕ, [], ◌∷◌, length, ap, subst, arith, length-append}
use Rattle.journal_defs.specs.declared.Version.TheVariants.{Two}
use Rattle.journal_defs.specs.Journals.{header_bytes}
use Rattle.journal_disk.specs.Disks.{HasRest}
use Rattle.journal_rp.specs.Headers.{header as header_of}
use Rattle.journal_rp.proofs.OnReported.{is_empty}
use Rattle.journal_rp.proofs.starting.begun.Goals as goal

pub returns-clause-ok : goal.returns-clause-ok
returns-clause-ok g c = λ empty.
    let head = header_bytes Two (header_of c.args.header.now) in
    let size : length head ≡ 60 = omega
    (arith, c.fresh_with-bytes.ensures.length, ap length c.fresh_with-bytes.ensures.value, length-append head (0 ∷ [])) in
    subst (λ (n : ℕ). HasRest (g.D.Disk.seen c.begin.new.disk) (g.D.Disk.may_leave c.begin.new.disk) head [] n) size
    (c.in_ok-begin.ensures.ok head c.fresh_with-bytes.ensures.value (is_empty _ empty))
