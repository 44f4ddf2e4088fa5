use Rattle.std.proofs.Common.{◌++◌, [], ◌∷◌, refl, sym, ap, ◌∙◌, subst, append_assoc}
use Rattle.std.specs.List.{AllByRecursion}
use Rattle.std.proofs.lemmas.List.{append-nil}
use Rattle.message_defs.specs.Spelling.{IsClaim}
use Rattle.stmt_codec.specs.Left.{claims_left}
use Rattle.stmt_codec.specs.Views.{claim as claim_of}
use Rattle.claim_pool.specs.Settings.{as_setting}
use Rattle.chain_defs.specs.Advance.{counted}
use Rattle.chain_check.specs.Readies.{IsTable}
use Rattle.chain_check.proofs.readies.Readies.of.Goals as goal

pub claims-init : goal.claims-init
claims-init g c = (c.requires, ([], refl, c.new-readies.ensures (record { view = c.args.view.now; heard = [] }) refl))

pub note-requires : goal.note-requires
note-requires g c = (subst (AllByRecursion IsClaim) c.in-Some.ensures.steps c.claims.invariant.0).0.1

pub claims-preserved : goal.claims-preserved
claims-preserved g c =
    let range = subst (AllByRecursion IsClaim) c.in-Some.ensures.steps c.claims.invariant.0 in
    let t = c.claims.invariant.1 in (
      range.1,
      (
        t.0 ++ claim_of c.in-Some.claim ∷ [],
        append_assoc t.0 (claim_of c.in-Some.claim ∷ []) (claims_left c.next.new.self) ∙ ap (λ cs. t.0 ++ cs) (sym c.in-Some.ensures.steps) ∙ t.1,
        c.note.ensures t.0 t.2,
      ),
    )

pub returns : goal.returns
returns g c =
    let t = c.claims.invariant.1 in
    subst (λ cs. IsTable (counted (as_setting (g.V.Scheme.valid c.args.scheme.now) c.args.group.now c.args.roster.now) c.args.view.now cs)
    c.claims.readies.cells) (sym (append-nil t.0) ∙ ap (λ cs. t.0 ++ cs) (sym c.in_default.ensures.steps.0) ∙ t.1) t.2
