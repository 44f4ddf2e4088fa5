use Rattle.std.proofs.Common.{◌++◌, ap, ◌∙◌}
use Rattle.std.proofs.lemmas.Result.{on_ok_weaker}
use Rattle.group_defs.specs.Sending.{with_what_goes_beside}
use Rattle.reliable_mcast.specs.declared.sheet.FrameKind.TheVariants as kinds
use Rattle.sent_claims.specs.Beside.{chosen}
use Rattle.reliable_mcast.specs.Packed.{Packing, frames_as}
use Rattle.reliable_mcast.proofs.Answering.{bundles-are}
use Rattle.message_defs.specs.Spelling.{IsClaim}
use Rattle.sent_claims.proofs.Listed.{all-chosen}
use Rattle.sent_claims.proofs.Joining.{bundle-is}
use Rattle.reliable_mcast.proofs.frames.Frames.resend.Goals as goal

pub returns-clause-bundle : goal.returns-clause-bundle
returns-clause-bundle c =
    on_ok_weaker c.close.result (λ made began places.
    let claims = bundle-is began c.args.pool.now.pool
    (chosen c.args.said.now.claims c.args.base.now) c.self.inside.list c.put_base.new.list c.put_orders.new.list c.put_suggests.new.list
    c.requires.range (all-chosen IsClaim c.args.said.now.claims c.args.base.now c.requires.said)
    (ap (λ (f : Packing). f.claims) c.self.view_is ∙ c.requires.empty) c.in_ok-put_base.ensures
    (c.in_ok-put_orders.ensures began places) c.in_ok-put_suggests.ensures in
    let packed = ap (frames_as kinds.Bundle) claims ∙ bundles-are
    (with_what_goes_beside began c.args.pool.now.pool (chosen c.args.said.now.claims c.args.base.now)) in
    made ∙ (λ i. (c.self.view_is i).frames ++ packed i)) c.close.ensures.frames
