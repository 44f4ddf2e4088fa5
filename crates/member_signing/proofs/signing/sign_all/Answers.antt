use Rattle.std.proofs.Common.{◌-◌, List, Bool, false, sym, ◌∙◌, ap, subst, map}
use Rattle.std.specs.Prelude.{IfOk}
use Rattle.std.specs.Bool.{OnFalse}
use Rattle.group_defs.specs.Process.{Kind}
use Rattle.group_defs.specs.Signing.{Signing, sign_kinds}
use Rattle.stmt_codec.specs.Views.{signed}
use Rattle.member_signing.specs.Signed.{IsSigned, IsUndecided}
use Rattle.member_signing.proofs.ByKind.{decided_signs, undecided_signs}
use Rattle.member_signing.proofs.Going.{begins}
use Rattle.member_signing.proofs.Open.{none-decided}
use Rattle.member_signing.proofs.signing.sign_all.Goals as goal

pub returns-then-is_decided-clause-signs : goal.returns-then-is_decided-clause-signs
returns-then-is_decided-clause-signs g c s p group kinds used is =
    subst (λ (one : Signing). IsSigned s p one c.args.state.now (g.G.Tally.total c.args.signer.now) (g.G.Tally.used c.args.signer.now)
    (map signed c.args.signed.now.items) (map signed c.args.signed.now.items) false)
    (sym (decided_signs s (g.G.Signer.signature c.args.signer.now)
    (g.G.Tally.total c.args.signer.now - g.G.Tally.used c.args.signer.now) p
    (sym (c.is_decided.ensures.decided p is.phase) ∙ c.if-is_decided.true)))
    (begins s p c.args.state.now (g.G.Tally.total c.args.signer.now) (g.G.Tally.used c.args.signer.now)
    (map signed c.args.signed.now.items) is used)

pub returns-clause-signs : goal.returns-clause-signs
returns-clause-signs g c s p group kinds used is =
    let none = none-decided c.args.state.now.phase p
    (subst (λ (b : Bool). OnFalse b
    (IsUndecided c.args.state.now.phase)) c.if-is_decided.false c.is_decided.ensures.undecided) is.phase in
    subst (λ (one : Signing). IfOk c.sign_kinds.result
    (IsSigned s p one c.sign_kinds.new.state (g.G.Tally.total c.args.signer.now) (g.G.Tally.used c.sign_kinds.new.signer)
    (map signed c.args.signed.now.items) (map signed c.sign_kinds.new.signed.items)))
    (sym (undecided_signs s (g.G.Signer.signature c.args.signer.now)
    (g.G.Tally.total c.args.signer.now - g.G.Tally.used c.args.signer.now) p none ∙ ap
    (λ (ks : List Kind). sign_kinds s (g.G.Signer.signature c.args.signer.now) ks
    (g.G.Tally.total c.args.signer.now - g.G.Tally.used c.args.signer.now) p) kinds))
    (c.sign_kinds.ensures.signs s p group used is)

pub sign_kinds-requires-clause-undecided : goal.sign_kinds-requires-clause-undecided
sign_kinds-requires-clause-undecided g c = subst
    (λ (b : Bool). OnFalse b (IsUndecided c.args.state.now.phase)) c.if-is_decided.false c.is_decided.ensures.undecided
