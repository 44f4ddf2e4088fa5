use Rattle.std.proofs.Common.{◌∙◌, ap, sym, subst}
use Rattle.std.specs.Prelude.{◌==◌, filter}
use Rattle.std.specs.List.{AllByRecursion}
use Rattle.message_defs.specs.Spelling.{IsClaim}
use Rattle.message_defs.specs.Statements.{Claim}
use Rattle.group_defs.specs.Hearing.{is_valid}
use Rattle.stmt_codec.specs.Left.{claims_left}
use Rattle.claim_pool.specs.Settings.{as_setting}
use Rattle.conviction_defs.specs.Convictions.{has_conflict}
use Rattle.conviction.specs.Own.{all_kept}
use Rattle.conviction.proofs.Conflicts.{filter-twice}
use Rattle.conviction.proofs.Walking.{each-filter}
use Rattle.conviction.proofs.convicting.is_convicted_by.Goals as goal

pub any_conflict-requires : goal.any_conflict-requires
any_conflict-requires g c = subst (AllByRecursion IsClaim) (sym (ap all_kept c.as_slice.ensures.value ∙ c.own_claims-own.ensures))
    (each-filter IsClaim (λ (d : Claim). d.signer == c.args.q) (claims_left c.args.claims) c.requires.range)

pub returns : goal.returns
returns g c =
    let s = as_setting (g.V.Scheme.valid c.args.scheme.now) c.args.group.now c.args.roster.now in
    c.any_conflict.ensures
    ∙ ap (λ cs. has_conflict (filter (is_valid s) cs)) (ap all_kept c.as_slice.ensures.value ∙ c.own_claims-own.ensures)
    ∙ ap has_conflict (filter-twice (is_valid s) (λ (d : Claim). d.signer == c.args.q) (claims_left c.args.claims))
