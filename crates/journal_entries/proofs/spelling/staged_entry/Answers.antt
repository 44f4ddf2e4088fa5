use Rattle.std.proofs.Common.{arith, ap, length, length-append}
use Rattle.journal_defs.specs.Entries.{entry_bytes}
use Rattle.journal_defs.proofs.Entering.{entry_len}
use Rattle.journal_entries.specs.Views.{event as event_of, turn_entry}
use Rattle.journal_entries.proofs.spelling.staged_entry.Goals as goal

pub put_length-requires-clause-fits : goal.put_length-requires-clause-fits
put_length-requires-clause-fits c =
    let e = turn_entry c.args.me (event_of c.args.event.now) c.args.outcome.now in
    omega (
      arith,
      entry_len e c.requires,
      ap length c.in_ok-push_entry.ensures,
      length-append c.in_ok-out.out.items (entry_bytes e),
      c.in_ok-out.ensures.len,
    )
