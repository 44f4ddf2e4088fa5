use Rattle.std.proofs.Common.{◌+◌, ◌++◌, drop, sym, ap, ◌∙◌, arith, List, ℕ}
use Rattle.std.proofs.lemmas.List.{append-nil}
use Rattle.sent_claims.specs.Beside.{chosen}
use Rattle.sent_claims.proofs.Walks.{drop-past}
use Rattle.member_sending.proofs.Places.{last-more}
use Rattle.member_sending.proofs.base.last_places.Goals as goal

pub claims-preserved : goal.claims-preserved
claims-preserved c =
    let said = c.args.state.now.said.claims in
    ap (λ (ps : List ℕ). chosen said ps
    ++ drop (c.claims.place + 1) said) c.in_ok-push.ensures.items ∙ last-more said c.claims.places.items _ c.claims.place
    c.claims.invariant

pub returns : goal.returns
returns c =
    let said = c.args.state.now.said.claims in
    let none = drop-past said c.claims.place (omega arith) in
    sym (append-nil (chosen said c.claims.places.items)) ∙ ap (λ ds. chosen said c.claims.places.items ++ ds)
    (sym none) ∙ c.claims.invariant
