use Rattle.std.proofs.Common.{◌≡◌, ◌∷◌, [], ℕ, List, Ok, sym, ap, subst, ◌∙◌}
use Rattle.std.specs.List.{AllZip}
use Rattle.audit_defs.specs.Audits.{audited}
use Rattle.audit_core.specs.Walks.{IsPlayer, Player, IsFaultOf}
use Rattle.proof_lines.proofs.Taken.{chain-takes, text-is}
use Rattle.proof_lines.proofs.journals.lines_in.Goals as goal

pub returns-in-Err-clause-refused : goal.returns-in-Err-clause-refused
returns-in-Err-clause-refused c = subst (λ (listed : List ℕ). IsFaultOf c.in-Err.fault (audited c.args.kit.now listed c.args.journals.now))
    c.alone.ensures c.in-Err.ensures.refused

pub returns-in-Ok-lines_of_all-clause-found : goal.returns-in-Ok-lines_of_all-clause-found
returns-in-Ok-lines_of_all-clause-found c =
    let kit = c.args.kit.now in
    let journals = c.args.journals.now in
    let end = c.in-Ok.ensures.come in
    let a = end.0 in
    let come = end.2 in
    let is : audited kit (c.args.p ∷ []) journals ≡ Ok a =
    ap (λ (listed : List ℕ). audited kit listed journals) (sym c.alone.ensures) ∙ end.1 in
    let reported = c.in-Ok-lines_of_all.ensures a.family.setting come.players
    (subst (λ (ps : List Player). AllZip (IsPlayer a.family.setting) come.players ps) (sym c.players.ensures) come.each) in (
      a,
      is,
      text-is a c.in-Ok.walk come c.in-Ok-lines_of_all.text.items reported.0,
      chain-takes kit (c.args.p ∷ []) journals a c.requires.kit is c.in-Ok.walk come reported.1,
    )
