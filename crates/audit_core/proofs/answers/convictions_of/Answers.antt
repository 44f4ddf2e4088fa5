use Rattle.std.proofs.Common.{◌≡◌, List, map, ap, subst, sym, ◌∙◌}
use Rattle.std.specs.List.{AllByRecursion}
use Rattle.message_defs.specs.Statements.{Claim}
use Rattle.group_defs.specs.Process.{Setting}
use Rattle.rp_base.specs.Rosters.{IsRising}
use Rattle.conviction_defs.specs.Convictions.{convictions}
use Rattle.claim_firsts.specs.declared.conviction.Conviction as lent
use Rattle.claim_firsts.specs.Seen.{Saw}
use Rattle.claim_firsts.specs.Reported.{AreSpelled, conviction}
use Rattle.claim_firsts.proofs.Results.{if-ok}
use Rattle.audit_core.specs.Found.{shown, shown_of}
use Rattle.audit_core.proofs.Reported.{all-shown}
use Rattle.audit_core.proofs.answers.convictions_of.Goals as goal

pub own_convictions-requires : goal.own_convictions-requires
own_convictions-requires c = subst (AllByRecursion AreSpelled) (sym c.deref.ensures.value) c.in-Ok.ensures.range

pub returns-in-Ok : goal.returns-in-Ok
returns-in-Ok c =
    if-ok (λ all. map shown all.items ≡ map (λ (x : lent.Conviction). shown_of (conviction x)) c.deref.result.now)
    (λ all. (s : Setting) (seen own : List Claim) → IsRising s.roster → Saw s seen own c.args.claims.now
    → map shown all.items ≡ map shown_of (convictions s seen)) c.own_convictions.result
    (λ all so s seen own rising saw. all-shown all.items c.in-Ok.lent.items (convictions s seen)
    (so ∙ ap (map (λ (x : lent.Conviction). shown_of (conviction x))) c.deref.ensures.value) (c.in-Ok.ensures.reported s seen own rising saw))
    c.own_convictions.ensures
