use Rattle.std.proofs.Common.{Ok, sym, ap, subst, ◌∙◌}
use Rattle.std.specs.List.{AllByRecursion}
use Rattle.message_defs.specs.Claims.{in_bundle, in_proof}
use Rattle.frame_codec.specs.Views.{frame_view, groups_left}
use Rattle.frame_codec.proofs.Said.{said-fault}
use Rattle.replay_questions.specs.Words.{IsWord}
use Rattle.replay_questions.proofs.Wants.{claims_said, want_none}
use Rattle.replay_questions.proofs.ReportedWords.{bundle_claims, proof_claims}
use Rattle.replay_questions.proofs.groups.is_frame_of_words.Goals as goal

pub returns-in-Err : goal.returns-in-Err
returns-in-Err c = λ is.
    subst (AllByRecursion (IsWord c.args.players.now)) (sym (ap claims_said (said-fault c.args.bytes.now _ c.in-Err.ensures.exact))) tt

pub returns-in-Bundle : goal.returns-in-Bundle
returns-in-Bundle c = λ is.
    subst (AllByRecursion (IsWord c.args.players.now)) (sym (bundle_claims c.args.bytes.now (groups_left c.in-Bundle.groups)
    (c.in-Ok.ensures.exact ∙ ap (λ f. Ok (frame_view f)) c.in-Bundle.is))) (c.are_groups_of_words.ensures is in_bundle)

pub returns-in-Proof : goal.returns-in-Proof
returns-in-Proof c = λ is.
    subst (AllByRecursion (IsWord c.args.players.now)) (sym (proof_claims c.args.bytes.now (groups_left c.in-Proof.groups)
    (c.in-Ok.ensures.exact ∙ ap (λ f. Ok (frame_view f)) c.in-Proof.is))) (c.are_groups_of_words-in-Proof.ensures is in_proof)

pub returns-in-Want : goal.returns-in-Want
returns-in-Want c = λ is.
    subst (AllByRecursion (IsWord c.args.players.now)) (sym (want_none c.args.bytes.now c.in-Want.view c.in-Want.place
    (c.in-Ok.ensures.exact ∙ ap (λ f. Ok (frame_view f)) c.in-Want.is))) tt
