use Rattle.std.proofs.Common.{ℕ, List, ap, sym}
use Rattle.std.specs.Prelude.{option_map}
use Rattle.journal_defs.specs.Entries.{Submit}
use Rattle.node_defs.specs.Scripts.{Said, Hand}
use Rattle.node_text.proofs.Scripts.{payload-none, payload-read}
use Rattle.node_text.proofs.script.said_submit.Goals as goal

abbrev handed_in : List ℕ → Said
handed_in payload = Hand (Submit payload)

pub returns-in-Ok : goal.returns-in-Ok
returns-in-Ok c = sym (ap (option_map handed_in) (payload-read c.args.word.now c.in-Ok.payload.items c.in-Ok.ensures.read))

pub returns-in-Err-NoBytes : goal.returns-in-Err-NoBytes
returns-in-Err-NoBytes c = sym (ap (option_map handed_in)
    (payload-none c.args.word.now c.byte_list.result _ c.byte_list.ensures.none c.in-Err-NoBytes.is c.in-Err-NoBytes.field-0-is))
