use Rattle.std.proofs.Common.{◌≡◌, List, [], ◌∷◌, ◌++◌, sym, ◌∙◌}
use Rattle.std.specs.Prelude.{IsTrue}
use Rattle.message_defs.specs.Statements.{Claim}
use Rattle.group_defs.specs.Process.{Setting}
use Rattle.group_defs.specs.Hearing.{is_valid}
use Rattle.stmt_codec.specs.Views.{claim as claim_of}
use Rattle.claim_firsts.specs.Seen.{Saw}
use Rattle.claim_firsts.proofs.Results.{on-ok}
use Rattle.claim_firsts.proofs.Seeing.{saw-passed}
use Rattle.audit_claims.proofs.Frames.{same-valid}
use Rattle.audit_claims.proofs.handing.verify_and_see.Goals as goal

pub returns-then-not-is_signed : goal.returns-then-not-is_signed
returns-then-not-is_signed g c = record {
  seen = λ s claims own before shares saw mine.
      let d = claim_of c.args.claim.now in
      let invalid = sym (same-valid s (g.V.Scheme.valid c.args.judge.now.scheme.now) c.args.judge.now.group.now c.args.judge.now.roster.now shares d)
      ∙ sym c.is_signed.ensures ∙ c.if-not-is_signed.true in
      (saw-passed s claims own c.args.all.now saw d invalid, saw-passed s before [] c.args.handed.now mine d invalid);
}

pub returns : goal.returns
returns g c = record {
  seen = λ s claims own before shares saw mine.
      let d = claim_of c.args.claim.now in
      let valid = sym (same-valid s (g.V.Scheme.valid c.args.judge.now.scheme.now) c.args.judge.now.group.now c.args.judge.now.roster.now shares d)
      ∙ sym c.is_signed.ensures ∙ c.if-not-is_signed.false in
      on-ok ((s : Setting) (claims own : List Claim) → Saw s claims own c.args.handed.now → IsTrue (is_valid s d)
      → Saw s (claims ++ d ∷ []) own c.see-2.new.self)
      (Saw s (claims ++ d ∷ []) own c.see.new.self × Saw s (before ++ d ∷ []) [] c.see-2.new.self) c.see-2.result
      (λ sees. (c.in_ok-see.ensures.seen s claims own saw valid, sees s before [] mine valid)) c.see-2.ensures.seen;
}
