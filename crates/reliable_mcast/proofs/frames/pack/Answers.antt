use Rattle.std.proofs.Common.{◌+◌, ◌++◌, map, drop, ap, sym, ◌∙◌}
use Rattle.message_defs.specs.Packing.{pack_from}
use Rattle.sent_claims.specs.Lists.{lent_claim}
use Rattle.reliable_mcast.specs.Packed.{frame_as}
use Rattle.sent_claims.proofs.Walks.{drop-get}
use Rattle.reliable_mcast.proofs.frames.pack.Goals as goal

pub claims-preserved : goal.claims-preserved
claims-preserved c =
    let next = drop-get c.args.list.now c.claims.place (lent_claim c.at-in-claims.result) c.at-in-claims.ensures.claim in
    record {
      packed = c.in_ok-pack_claim.ensures.packs (drop (c.claims.place + 1) c.args.list.now)
          ∙ ap (λ cs. c.claims.done.items ++ map (frame_as c.args.kind) (pack_from c.claims.sheet.writer.groups cs)) (sym next)
          ∙ c.claims.invariant.packed;
      begun = c.in_ok-pack_claim.ensures.begun;
    }
