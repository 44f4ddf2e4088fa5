use Rattle.std.proofs.Common.{sym, ap, ◌∙◌, List, ℕ}
use Rattle.std.specs.Prelude.{not}
use Rattle.message_defs.specs.Statements.{Claim}
use Rattle.group_defs.specs.Sending.{was_delivered}
use Rattle.member_events.specs.Below.{claim}
use Rattle.sent_claims.specs.Beside.{chosen}
use Rattle.member_sending.proofs.Places.{put-none, put-skip, put-keep}
use Rattle.member_sending.proofs.base.put_repeated.Goals as goal

pub returns-in_default : goal.returns-in_default
returns-in_default c = λ began done. put-none
    (λ (d : Claim). not (was_delivered began d.statement)) c.args.state.now.said.claims c.args.places.now.items c.args.place
    (sym c.in_default.ensures)

pub returns-then-was_delivered : goal.returns-then-was_delivered
returns-then-was_delivered c = λ began done.
    put-skip (λ (d : Claim). not (was_delivered began d.statement)) c.args.state.now.said.claims c.args.places.now.items c.args.place
    (claim c.in-Some.claim) (sym c.in-Some.ensures) (ap not (sym (c.was_delivered.ensures began done) ∙ c.if-was_delivered.true))

pub returns : goal.returns
returns c = λ began done.
    ap (λ (ps : List ℕ). chosen c.args.state.now.said.claims ps) c.in_ok-push.ensures.items
    ∙ put-keep (λ (d : Claim). not (was_delivered began d.statement)) c.args.state.now.said.claims c.args.places.now.items c.args.place
    (claim c.in-Some.claim) (sym c.in-Some.ensures) (ap not (sym (c.was_delivered.ensures began done) ∙ c.if-was_delivered.false))
