use Rattle.std.proofs.Common.{refl}
use Rattle.journal_rp.proofs.AtDisk.{record_long, room_at, entry_at, unread_at}
use Rattle.journal_disk.proofs.Reported.{reported, reported_both}
use Rattle.journal_rp.proofs.reading.entry_behind.Goals as goal

pub returns-in-Some-clause-found : goal.returns-in-Some-clause-found
returns-in-Some-clause-found g c = reported_both (g.D.Disk.seen c.args.disk.now)
    (λ file length there. entry_at file c.args.gate c.args.len c.in_ok-bytes.bytes.items length there c.in_ok-bytes.ensures.length _
    c.in-Some.ensures.spelled.0 c.in-Some.ensures.spelled.1) c.requires.length c.in_ok-bytes.ensures.bytes

pub returns-in-Some-clause-long : goal.returns-in-Some-clause-long
returns-in-Some-clause-long g c = record_long _ c.in_ok-bytes.bytes.items c.args.len c.in-Some.ensures.spelled.0 c.in_ok-bytes.ensures.length

pub returns-in-None-clause-broken : goal.returns-in-None-clause-broken
returns-in-None-clause-broken g c = (
  refl,
  reported_both (g.D.Disk.seen c.args.disk.now)
      (λ file length there. unread_at file c.args.gate c.args.len c.in_ok-bytes.bytes.items length there c.in_ok-bytes.ensures.length
      c.in-None.ensures.reads) c.requires.length c.in_ok-bytes.ensures.bytes,
)

pub bytes_from-requires : goal.bytes_from-requires
bytes_from-requires g c = reported (g.D.Disk.seen c.args.disk.now) (λ file length. room_at file c.args.gate c.args.len length) c.requires.length
