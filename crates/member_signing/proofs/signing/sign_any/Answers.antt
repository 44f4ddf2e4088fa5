use Rattle.std.proofs.Common.{◌≡◌, ◌-◌, false, Option, None, Some, refl, sym, ◌∙◌, map}
use Rattle.std.specs.Prelude.{is_some}
use Rattle.message_defs.specs.Statements.{Statement}
use Rattle.group_defs.specs.Due.{least_due}
use Rattle.stmt_codec.specs.Views.{signed}
use Rattle.due_statements.specs.AskedOf.{kind_of}
use Rattle.member_signing.proofs.Going.{begins, ends-none}
use Rattle.member_signing.proofs.signing.sign_any.Goals as goal

no-other : (o : Option Statement) → is_some o ≡ false → o ≡ None
no-other None e = refl
no-other (Some st) e = absurd cc

pub returns-clause-signs : goal.returns-clause-signs
returns-clause-signs g c s p group used is =
    let none = no-other (least_due s p (kind_of c.args.kind)) (sym (c.is_due.ensures s p is) ∙ c.if-is_due.false) in
    ends-none s (g.G.Signer.signature c.args.signer.now) (kind_of c.args.kind) p p c.args.state.now (g.G.Tally.total c.args.signer.now)
    (g.G.Tally.total c.args.signer.now - g.G.Tally.used c.args.signer.now) (g.G.Tally.used c.args.signer.now)
    (map signed c.args.signed.now.items) (map signed c.args.signed.now.items) none
    (begins s p c.args.state.now (g.G.Tally.total c.args.signer.now) (g.G.Tally.used c.args.signer.now)
    (map signed c.args.signed.now.items) is used)
