use Rattle.std.proofs.Common.{sym, ap, ◌∙◌, refl, subst}
use Rattle.std.specs.Prelude.{is_some}
use Rattle.rp_base.specs.Views.{value as value_of}
use Rattle.stmt_codec.specs.Views.{claim as claim_of}
use Rattle.claim_pool.specs.Settings.{as_setting}
use Rattle.chain_check.proofs.Tables.{Noted, of-stranger, not-signed, said-before, said-now}
use Rattle.chain_check.proofs.readies.Readies.note.Goals as goal

pub returns-in_default-rank_of : goal.returns-in_default-rank_of
returns-in_default-rank_of g c = of-stranger (as_setting (g.V.Scheme.valid c.args.scheme.now) c.args.group.now c.args.roster.now) c.args.view.now (claim_of c.args.claim.now)
    c.in-Some.rank (value_of c.in-Some.value) (sym c.in-Some.ensures.value) c.args.self.now.cells (sym c.in_default-rank_of.ensures.value)

pub returns-then-is_some : goal.returns-then-is_some
returns-then-is_some g c = said-before (as_setting (g.V.Scheme.valid c.args.scheme.now) c.args.group.now c.args.roster.now) c.args.view.now (claim_of c.args.claim.now)
    c.in-Some.rank (value_of c.in-Some.value) (sym c.in-Some.ensures.value) c.in-Some-rank_of.place (sym c.in-Some-rank_of.ensures.value)
    c.in-Some.ensures.below c.members-members.ensures.within.1 c.args.self.now.cells
    (ap is_some (sym c.at.ensures) ∙ sym c.is_some.ensures ∙ c.if-is_some.true)

pub returns-then-is_signed : goal.returns-then-is_signed
returns-then-is_signed g c = subst (Noted (as_setting (g.V.Scheme.valid c.args.scheme.now) c.args.group.now c.args.roster.now) c.args.view.now (claim_of c.args.claim.now) c.args.self.now.cells)
    (sym c.put.ensures.value)
    (said-now (as_setting (g.V.Scheme.valid c.args.scheme.now) c.args.group.now c.args.roster.now) c.args.view.now (claim_of c.args.claim.now)
    c.in-Some.rank (value_of c.in-Some.value) (sym c.in-Some.ensures.value) c.in-Some-rank_of.place (sym c.in-Some-rank_of.ensures.value)
    c.in-Some.ensures.below c.members-members.ensures.within.1 c.args.self.now.cells c.in-Some.value c.put.ensures.room refl
    (sym c.is_signed.ensures ∙ c.if-is_signed.true) (ap is_some (sym c.at.ensures) ∙ sym c.is_some.ensures ∙ c.if-is_some.false))

pub returns-else-is_signed : goal.returns-else-is_signed
returns-else-is_signed g c = not-signed (as_setting (g.V.Scheme.valid c.args.scheme.now) c.args.group.now c.args.roster.now) c.args.view.now (claim_of c.args.claim.now)
    c.in-Some.rank (value_of c.in-Some.value) (sym c.in-Some.ensures.value) c.args.self.now.cells
    (sym c.is_signed.ensures ∙ c.if-is_signed.false)
