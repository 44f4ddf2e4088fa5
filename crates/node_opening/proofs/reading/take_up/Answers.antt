use Rattle.std.proofs.Common.{◌≡◌, None, sym, ap, subst}
use Rattle.std.specs.Prelude.{IsTrue}
use Rattle.signature_defs.specs.Schemes.{is_valid}
use Rattle.sig_scheme.specs.Views.{scheme}
use Rattle.journal_defs.specs.Entries.{Entry}
use Rattle.journal_entries.specs.Views.{entry as entry_of}
use Rattle.node_defs.specs.Lines.{BadJournal}
use Rattle.node_defs.specs.Casts.{Cast, cast_of}
use Rattle.node_defs.specs.Nodes.{reads_one, takes_up}
use Rattle.restored_hosts.specs.Below.{AreHosts}
use Rattle.node_opening.specs.Reading.{RefusesEntry, forgets}
use Rattle.node_opening.proofs.TakenUp.{not-taken}
use Rattle.node_opening.proofs.reading.take_up.Goals as goal

pub returns-in-Ok-clause-takes : goal.returns-in-Ok-clause-takes
returns-in-Ok-clause-takes c = λ version n are.
    let cast : Cast = cast_of c.args.kit.now version in
    let rule : cast.setting.valid ≡ is_valid (scheme c.scheme.result) = ap is_valid (sym c.scheme.ensures) in
    subst (λ (e : Entry). IsTrue (takes_up cast n e) × AreHosts cast c.args.kit.now (reads_one cast n e).now None c.absorb.new.self)
    c.entry-process.ensures (c.in-Ok.ensures.absorbs cast c.args.kit.now n are rule)

pub returns-in-Err-Differs-clause-refuses : goal.returns-in-Err-Differs-clause-refuses
returns-in-Err-Differs-clause-refuses c = λ version n are.
    let cast : Cast = cast_of c.args.kit.now version in
    let rule : cast.setting.valid ≡ is_valid (scheme c.scheme.result) = ap is_valid (sym c.scheme.ensures) in
    subst (λ (e : Entry). RefusesEntry cast n e c.args.place (BadJournal c.args.place)) c.entry-process.ensures
    (not-taken cast n (entry_of c.entry-process.result) c.args.place
    (λ takes. let so = c.in-Err-Differs.ensures.only cast c.args.kit.now n are rule takes in
    let is = c.in-Err-Differs.field-0-is in cc))

pub returns-in-Err-NoMemory-clause-refuses : goal.returns-in-Err-NoMemory-clause-refuses
returns-in-Err-NoMemory-clause-refuses c = λ version n are. forgets
