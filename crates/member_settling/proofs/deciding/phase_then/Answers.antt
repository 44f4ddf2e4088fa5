use Rattle.std.proofs.Common.{◌≡◌, ◌∙◌, ℕ, Some, sym, ap}
use Rattle.message_defs.specs.Updates.{Value}
use Rattle.group_defs.specs.Views.{View}
use Rattle.group_defs.specs.Settle.{decided_by}
use Rattle.rp_base.specs.Views.{value}
use Rattle.member_events.specs.Below.{report}
use Rattle.member_state.specs.Below.{content_of, decides}
use Rattle.member_settling.proofs.Decisions.{ready-certified, ready-decides}
use Rattle.member_settling.proofs.deciding.phase_then.Goals as goal

pub returns-in-Some-commit : goal.returns-in-Some-commit
returns-in-Some-commit c = λ s p keys same is.
    let d : ℕ × Value = (c.in-Some.rank, value c.in-Some.field-0-1) in
    let e : decided_by s c.args.pool.now.pool ≡ Some d = sym (c.decided.ensures s keys) ∙ ap report c.in-Some.is in
    let by = ready-decides s c.args.pool.now.pool c.args.own.now.keyed d (content_of c.in-Some-commit.ready) keys e
    (sym c.in-Some-commit.ensures.content) in
    c.phase_behind.ensures s p (ap (decided_by s) same ∙ sym by ∙ ap
    (λ (v : View). decides c.args.own.now.keyed v (content_of c.in-Some-commit.ready)) (sym c.view.ensures)) is

pub returns-in-None : goal.returns-in-None
returns-in-None c = λ s p keys same is.
    let d : ℕ × Value = (c.in-Some.rank, value c.in-Some.field-0-1) in
    let e : decided_by s c.args.pool.now.pool ≡ Some d = sym (c.decided.ensures s keys) ∙ ap report c.in-Some.is in
    absurd (ready-certified s c.args.pool.now.pool d e (sym c.in-None.ensures.content))
