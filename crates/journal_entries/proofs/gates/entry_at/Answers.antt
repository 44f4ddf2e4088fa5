use Rattle.std.proofs.Common.{refl}
use Rattle.journal_entries.specs.Views.{entry}
use Rattle.journal_entries.proofs.AtGates.{broken_there, entry_there}
use Rattle.journal_entries.proofs.gates.entry_at.Goals as goal

pub returns-in-Some-clause-found : goal.returns-in-Some-clause-found
returns-in-Some-clause-found c =
    let spelled = c.in-Some.ensures.spelled in
    entry_there c.args.bytes.now c.args.place c.requires c.split_at.result.1.now c.in-Some.rest.now
    (entry c.in-Some.entry) c.if-bytes-at-ne-OPEN.false c.split_at.ensures.back spelled.0 spelled.1 spelled.2

pub returns-in-None-clause-broken : goal.returns-in-None-clause-broken
returns-in-None-clause-broken c = (
  refl,
  broken_there c.args.bytes.now c.args.place c.requires c.split_at.result.1.now c.if-bytes-at-ne-OPEN.false c.split_at.ensures.back
      c.in-None.ensures.reads,
)
