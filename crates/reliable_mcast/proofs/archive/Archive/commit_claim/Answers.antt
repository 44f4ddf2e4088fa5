use Rattle.std.proofs.Common.{List, sym, ap, ◌∙◌}
use Rattle.std.specs.Prelude.{slice_get, option_and_then}
use Rattle.message_defs.specs.Packing.{Signed}
use Rattle.reliable_mcast.specs.Archives.{Archived, AreReadable}
use Rattle.sent_claims.proofs.Walks.{all-get}
use Rattle.reliable_mcast.proofs.archive.Archive.commit_claim.Goals as goal

pub claim_at-requires : goal.claim_at-requires
claim_at-requires c = all-get AreReadable c.self.inside.commits.items c.args.view c.in-Some.kept.now
    (sym (c.in-Some.ensures ∙ ap (λ (ls : List (List Signed)). slice_get ls c.args.view) c.deref.ensures.value)) c.self.invariant.readable

pub returns-in-Some-clause-claim : goal.returns-in-Some-clause-claim
returns-in-Some-clause-claim c =
    let at = c.in-Some.ensures ∙ ap (λ (ls : List (List Signed)). slice_get ls c.args.view)
    (c.deref.ensures.value ∙ ap (λ (a : Archived). a.commits) c.self.view_is) in
    c.claim_at.ensures.claim ∙ ap (option_and_then (λ (cs : List Signed). slice_get cs c.args.i)) at

pub returns-in-None-clause-claim : goal.returns-in-None-clause-claim
returns-in-None-clause-claim c =
    let at = c.in-None.ensures ∙ ap (λ (ls : List (List Signed)). slice_get ls c.args.view)
    (c.deref.ensures.value ∙ ap (λ (a : Archived). a.commits) c.self.view_is) in
    ap (option_and_then (λ (cs : List Signed). slice_get cs c.args.i)) at
