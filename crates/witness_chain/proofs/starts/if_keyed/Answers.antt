use Rattle.std.proofs.Common.{sym, ◌∙◌, true, false}
use Rattle.chain_text_defs.specs.Chains.{setting_of}
use Rattle.witness_chain.proofs.Keyed.{kept}
use Rattle.witness_chain.proofs.starts.if_keyed.Goals as goal

pub returns-then-are_keyed : goal.returns-then-are_keyed
returns-then-are_keyed c =
    kept (setting_of c.args.kit.now) c.args.view _ _ _ true c.roster.ensures c.processes.ensures.value c.members.ensures.value
    (sym c.if-are_keyed.true ∙ c.are_keyed.ensures)

pub returns-else-are_keyed : goal.returns-else-are_keyed
returns-else-are_keyed c =
    kept (setting_of c.args.kit.now) c.args.view _ _ _ false c.roster.ensures c.processes.ensures.value c.members.ensures.value
    (sym c.if-are_keyed.false ∙ c.are_keyed.ensures)
