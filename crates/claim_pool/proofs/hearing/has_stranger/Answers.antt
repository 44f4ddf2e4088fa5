use Rattle.std.proofs.Common.{◌∙◌, ap, sym}
use Rattle.std.specs.Prelude.{not}
use Rattle.std.specs.List.{list_any}
use Rattle.message_defs.specs.Statements.{Message}
use Rattle.group_defs.specs.Views.{is_member}
use Rattle.stmt_codec.specs.Batches.{message_of}
use Rattle.claim_pool.proofs.Judged.{list_any-map}
use Rattle.claim_pool.proofs.hearing.has_stranger.Goals as goal

pub returns : goal.returns
returns c =
    c.any_stranger.ensures
    ∙ sym (list_any-map message_of (λ (m : Message). not (is_member c.args.view.now m.sender)) c.messages.result.now)
    ∙ ap (list_any (λ (m : Message). not (is_member c.args.view.now m.sender))) c.messages.ensures.list
