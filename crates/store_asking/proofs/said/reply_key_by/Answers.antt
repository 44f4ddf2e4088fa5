use Rattle.kit_defs.specs.Kits.{roster_of}
use Rattle.sig_scheme.specs.Views.{scheme as scheme_in}
use Rattle.text_codec.specs.Views.{parts_left}
use Rattle.store_asking.specs.Lines.{said}
use Rattle.store_asking.proofs.Keys.{key_so, next_if}
use Rattle.store_asking.proofs.said.reply_key_by.Goals as goal

pub returns-clause-said : goal.returns-clause-said
returns-clause-said c =
    key_so (scheme_in c.args.scheme) (roster_of c.args.roster.now) c.processes.result c.args.keys.now (parts_left c.args.words) _
    c.processes.ensures.value c.processes.ensures.rising c.key_behind.ensures.said

pub returns-clause-next : goal.returns-clause-next
returns-clause-next c = next_if said c.args.keys.now c.processes.result c.key_behind.result c.processes.ensures.value c.key_behind.ensures.above
