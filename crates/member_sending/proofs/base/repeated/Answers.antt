use Rattle.std.proofs.Common.{◌++◌, sym, ap, ◌∙◌, arith}
use Rattle.std.specs.Prelude.{filter, not}
use Rattle.std.proofs.lemmas.List.{append-nil}
use Rattle.message_defs.specs.Statements.{Claim}
use Rattle.group_defs.specs.Sending.{was_delivered}
use Rattle.sent_claims.specs.Beside.{chosen}
use Rattle.sent_claims.proofs.Walks.{drop-past}
use Rattle.member_sending.proofs.Places.{kept-more}
use Rattle.member_sending.proofs.base.repeated.Goals as goal

pub claims-preserved : goal.claims-preserved
claims-preserved c = λ began done.
    kept-more (λ (d : Claim). not (was_delivered began d.statement)) c.args.state.now.said.claims
    (chosen c.args.state.now.said.claims c.claims.places.items)
    (chosen c.args.state.now.said.claims c.put_repeated.new.places.items) _ c.claims.place
    (c.claims.invariant began done) (c.in_ok-put_repeated.ensures began done)

pub returns : goal.returns
returns c = λ began done.
    let keep = λ (d : Claim). not (was_delivered began d.statement) in
    let none = drop-past c.args.state.now.said.claims c.claims.place (omega arith) in
    sym (append-nil (chosen c.args.state.now.said.claims c.claims.places.items)) ∙ ap
    (λ ds. chosen c.args.state.now.said.claims c.claims.places.items ++ filter keep ds) (sym none) ∙ c.claims.invariant began done
