use Rattle.std.proofs.Common.{◌≡◌, List, [], ◌∷◌, ◌++◌, sym, ap, ◌∙◌, subst}
use Rattle.std.specs.Prelude.{IsTrue}
use Rattle.message_defs.specs.Statements as plain
use Rattle.message_defs.specs.Spelling.{IsStatement}
use Rattle.message_defs.specs.Packing.{signed_of}
use Rattle.group_defs.specs.Process.{Setting}
use Rattle.group_defs.specs.Hearing.{is_valid}
use Rattle.stmt_codec.specs.Views.{signed}
use Rattle.stmt_codec.specs.declared.own.OwnClaim.{OwnClaim}
use Rattle.claim_firsts.specs.Own.{claim_in}
use Rattle.claim_firsts.specs.Tables.{Table, key}
use Rattle.claim_firsts.specs.Seen.{Saw}
use Rattle.claim_firsts.specs.Seeing.{answering, seeing}
use Rattle.claim_firsts.proofs.Results.{on-ok}
use Rattle.claim_firsts.proofs.Answering.{saw-own}
use Rattle.claim_firsts.proofs.Own.{claim-is, readable}
use Rattle.claim_firsts.proofs.firsts.Firsts.see_own.Goals as goal

-- the table that has seen the claim of these bytes
saw : (o p : OwnClaim) → p ≡ o → (old new : Table) → new ≡ seeing (answering old (key (claim_in p))) (claim_in p)
    → (s : Setting) (claims own : List plain.Claim) (c : plain.Claim) → Saw s claims own old → IsStatement c.statement → signed o ≡ signed_of c
    → IsTrue (is_valid s c) → Saw s (claims ++ c ∷ []) (own ++ c ∷ []) new
saw o p same old new e s claims own c seen range is valid =
    let one : claim_in p ≡ c = ap claim_in same ∙ claim-is o c range is in
    subst (Saw s (claims ++ c ∷ []) (own ++ c ∷ [])) (sym (e ∙ ap (λ d. seeing (answering old (key d)) d) one))
    (saw-own s claims own old seen c valid)

pub returns-in-Some : goal.returns-in-Some
returns-in-Some c = record {
  seen = on-ok (c.take_own.new.self ≡ seeing (answering c.args.self.now (key (claim_in c.in-Some.word.own))) (claim_in c.in-Some.word.own))
      ((s : Setting) (claims own : List plain.Claim) (d : plain.Claim) → Saw s claims own c.args.self.now → IsStatement d.statement
      → signed c.args.claim ≡ signed_of d → IsTrue (is_valid s d) → Saw s (claims ++ d ∷ []) (own ++ d ∷ []) c.take_own.new.self)
      c.take_own.result
      (λ e. saw c.args.claim c.in-Some.word.own c.in-Some.ensures.same c.args.self.now c.take_own.new.self e) c.take_own.ensures.seen;
  same = c.take_own.ensures.same;
}

pub returns-in-None : goal.returns-in-None
returns-in-None c = record {
  seen = λ s claims own d seen range is valid. absurd (c.in-None.ensures.none (readable c.args.claim d range is));
  same = tt;
}
