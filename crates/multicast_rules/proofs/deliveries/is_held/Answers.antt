use Rattle.std.proofs.Common.{◌∙◌, sym, ap}
use Rattle.std.specs.Prelude.{is_some}
use Rattle.std.specs.List.{list_all}
use Rattle.std.proofs.lemmas.List.Folds.{list_all-map}
use Rattle.message_defs.specs.Statements.{Message}
use Rattle.group_defs.specs.Certified.{payload_at}
use Rattle.stmt_codec.specs.Batches.{message_of}
use Rattle.multicast_rules.proofs.deliveries.is_held.Goals as goal

pub returns : goal.returns
returns c =
    c.each_held.ensures
    ∙ sym (list_all-map (λ (m : Message). is_some (payload_at c.args.pool.now.pool m)) message_of c.messages.result.now)
    ∙ ap (list_all (λ (m : Message). is_some (payload_at c.args.pool.now.pool m))) c.messages.ensures.list
