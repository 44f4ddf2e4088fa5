use Rattle.std.proofs.Common.{true≢false, sym, ◌∙◌}
use Rattle.std.specs.Prelude.{is_some}
use Rattle.std.proofs.Common.{ap}
use Rattle.node_keys.proofs.InKits.{in_roster}
use Rattle.node_keys.proofs.port.port_of.Goals as goal

pub unreachable-requires : goal.unreachable-requires
unreachable-requires c = true≢false
    (sym (c.port.ensures.listed.1 (in_roster c.args.kit.now c.args.me c.requires.kit c.requires.hosted)) ∙ ap is_some c.in_default.is)
