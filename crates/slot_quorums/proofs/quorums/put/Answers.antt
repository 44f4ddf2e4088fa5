use Rattle.std.proofs.Common.{subst}
use Rattle.indexmap.proofs.CallerLemmas.{updates-with_value_at, insert_entry-new}
use Rattle.claim_index.specs.Keys.{same_slot_key}
use Rattle.slot_quorums.specs.Cells.{IsFoundAt}
use Rattle.slot_quorums.proofs.Keyed.{key_laws}
use Rattle.slot_quorums.proofs.quorums.put.Goals as goal

pub returns-in-Some-clause-looks : goal.returns-in-Some-clause-looks
returns-in-Some-clause-looks c =
    let there = subst (IsFoundAt c.args.cells.now.entries c.args.key) c.in-Some.is c.requires.at in
    (updates-with_value_at c.args.cells.now c.in-Some.place c.args.cell key_laws c.pair_mut-kept.ensures.unique
    c.args.key there.0 there.1).0

pub returns-in-Ok-clause-entries : goal.returns-in-Ok-clause-entries
returns-in-Ok-clause-entries c =
    let absent = subst (IsFoundAt c.args.cells.now.entries c.args.key) c.in-None.is c.requires.at in
    rw (c.in-None.is, c.in-Ok.ensures.entries) (insert_entry-new same_slot_key c.args.cells.now c.args.key c.args.cell absent)
