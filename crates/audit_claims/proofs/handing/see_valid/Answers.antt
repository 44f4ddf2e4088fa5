use Rattle.std.proofs.Common.{◌≡◌, List, [], ◌∷◌, ◌++◌}
use Rattle.std.specs.Prelude.{IsTrue}
use Rattle.message_defs.specs.Statements.{Claim}
use Rattle.group_defs.specs.Process.{Setting}
use Rattle.group_defs.specs.Hearing.{is_valid}
use Rattle.stmt_codec.specs.Views.{claim as claim_of}
use Rattle.claim_firsts.specs.Seen.{Saw}
use Rattle.claim_firsts.proofs.Results.{on-ok}
use Rattle.audit_claims.proofs.handing.see_valid.Goals as goal

pub returns-then-knows : goal.returns-then-knows
returns-then-knows g c = record {
  seen = λ s claims own before shares saw mine.
      let d = claim_of c.args.claim.now in
      let valid = c.knows.ensures.valid s claims own saw c.if-knows.true in
      on-ok ((s : Setting) (claims own : List Claim) → Saw s claims own c.args.handed.now → IsTrue (is_valid s d)
      → Saw s (claims ++ d ∷ []) own c.see.new.self)
      (Saw s (claims ++ d ∷ []) own c.args.all.now × Saw s (before ++ d ∷ []) [] c.see.new.self) c.see.result
      (λ sees. (c.knows.ensures.again s claims own saw c.if-knows.true, sees s before [] mine valid)) c.see.ensures.seen;
}
