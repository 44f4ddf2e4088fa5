use Rattle.std.proofs.Common.{ℕ, List, [], ◌∷◌, ◌+◌, Option, subst, refl, sym, arith}
use Rattle.std.specs.Option.{IfSome}
use Rattle.byte_defs.specs.Fields.{four_bytes}
use Rattle.journal_disk.specs.Disks.{BeginsAt}
use Rattle.journal_rp.proofs.AtDisk.{short_at, length_at, long_at}
use Rattle.journal_disk.proofs.Reported.{reported_both, reported_all}
use Rattle.journal_rp.proofs.reading.Journal+Reading.entry_len.Goals as goal

pub returns-then-room-le-RECORD_HEAD-clause-broken : goal.returns-then-room-le-RECORD_HEAD-clause-broken
returns-then-room-le-RECORD_HEAD-clause-broken g c =
    let opened = subst (λ (b : ℕ). IfSome (g.D.Disk.seen c.args.disk.now)
    (λ file. BeginsAt file c.args.self.now.gate (b ∷ []))) c.if-branch-ne-OPEN.false c.in_ok-byte_at.ensures.value in (
      refl,
      reported_both (g.D.Disk.seen c.args.disk.now)
          (λ file there len. short_at file c.args.self.now.gate there
          (omega (arith, len, c.if-room-le-RECORD_HEAD.true))) opened c.requires,
    )

pub returns-then-room-len-clause-broken : goal.returns-then-room-len-clause-broken
returns-then-room-len-clause-broken g c =
    let gate = c.args.self.now.gate in
    let n = c.from-len.result in
    let opened = subst (λ (b : ℕ). IfSome (g.D.Disk.seen c.args.disk.now)
    (λ file. BeginsAt file gate (b ∷ []))) c.if-branch-ne-OPEN.false c.in_ok-byte_at.ensures.value in
    let here = subst (λ (o : Option (List ℕ)). IfSome o
    (λ file. BeginsAt file (gate + 1) (four_bytes c.in_ok-long_at.field-0))) c.byte_at.ensures.disk.reads c.in_ok-long_at.ensures.value in
    let length = subst (λ (k : ℕ). IfSome (g.D.Disk.seen c.args.disk.now) (λ file. BeginsAt file (gate + 1) (four_bytes k)))
    (sym c.from-len.ensures) here in (
      refl,
      reported_all (g.D.Disk.seen c.args.disk.now)
          (λ file there l len. long_at file gate n there l (omega (arith, c.from-len.ensures, c.in_ok-long_at.ensures.below))
          (omega (arith, len, c.if-room-len.true, c.if-room-le-RECORD_HEAD.false))) opened length c.requires,
    )

pub returns-clause-open : goal.returns-clause-open
returns-clause-open g c =
    let gate = c.args.self.now.gate in
    let n = c.from-len.result in
    let opened = subst (λ (b : ℕ). IfSome (g.D.Disk.seen c.args.disk.now)
    (λ file. BeginsAt file gate (b ∷ []))) c.if-branch-ne-OPEN.false c.in_ok-byte_at.ensures.value in
    let here = subst (λ (o : Option (List ℕ)). IfSome o
    (λ file. BeginsAt file (gate + 1) (four_bytes c.in_ok-long_at.field-0))) c.byte_at.ensures.disk.reads c.in_ok-long_at.ensures.value in
    let length = subst (λ (k : ℕ). IfSome (g.D.Disk.seen c.args.disk.now) (λ file. BeginsAt file (gate + 1) (four_bytes k)))
    (sym c.from-len.ensures) here in
    reported_all (g.D.Disk.seen c.args.disk.now)
    (λ file there l len. length_at file gate n there l (omega (arith, c.from-len.ensures, c.in_ok-long_at.ensures.below))
    (omega (arith, len, c.if-room-len.false, c.if-room-le-RECORD_HEAD.false))) opened length c.requires
