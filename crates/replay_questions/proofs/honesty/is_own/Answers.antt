use Rattle.std.proofs.Common.{Bool, not, ◌||◌, refl, sym, ap, ◌∙◌}
use Rattle.std.specs.List.{list_all}
use Rattle.signature_defs.specs.Schemes as schemes
use Rattle.sig_scheme.specs.Views.{scheme as scheme_in}
use Rattle.group_defs.specs.Hearing.{is_valid}
use Rattle.claim_pool.specs.Settings.{as_setting}
use Rattle.stmt_codec.specs.Views.{claim as claim_of}
use Rattle.replay_questions.proofs.OwnWords.{says_own}
use Rattle.replay_questions.proofs.Whole.{owned_same}
use Rattle.replay_questions.proofs.honesty.is_own.Goals as goal

pub returns-then-is_word : goal.returns-then-is_word
returns-then-is_word c = λ h v shows.
    let w = c.args.world.now in
    let x = claim_of c.args.claim.now in
    let valid : Bool = is_valid (as_setting (schemes.is_valid (scheme_in w.scheme)) w.group w.roster) x in
    c.if-is_word.true
    ∙ (sym (ap (λ b. b || not valid) c.if-is_word.true)
    ∙ owned_same h w v x c.is_word.result valid c.requires shows (c.is_word.ensures ∙ ap (list_all (says_own x)) c.players.ensures) refl)

pub returns-else-is_word : goal.returns-else-is_word
returns-else-is_word c = λ h v shows.
    let w = c.args.world.now in
    let x = claim_of c.args.claim.now in
    sym (ap (λ b. b || not c.is_signed.result) c.if-is_word.false)
    ∙ owned_same h w v x c.is_word.result c.is_signed.result c.requires shows
    (c.is_word.ensures ∙ ap (list_all (says_own x)) c.players.ensures)
    (c.is_signed.ensures ∙ (λ i. is_valid
    (as_setting (schemes.is_valid (scheme_in (c.scheme.ensures i))) (c.group.ensures i) (c.roster.ensures i)) x))
