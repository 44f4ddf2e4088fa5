use Rattle.std.proofs.Common.{◌≡◌, Bool, None, sym, ap, ◌∙◌, subst}
use Rattle.std.specs.Prelude.{if◌then◌else◌}
use Rattle.group_defs.specs.Views.{View, is_member}
use Rattle.store_defs.specs.Serving.{after_note, after_view}
use Rattle.view_table.specs.Views.{as_view}
use Rattle.store_giving.specs.Given.{IsGiving}
use Rattle.store_server.proofs.Settled.{any-err}
use Rattle.store_server.proofs.server.Server.install.Goals as goal

pub returns-in_err-begin_view-clause-unchanged : goal.returns-in_err-begin_view-clause-unchanged
returns-in_err-begin_view-clause-unchanged c = λ q s is.
    any-err c.from_residual.result (record { replies = is.replies; gives = c.in_err-begin_view.ensures.unchanged q s is.gives })

pub returns-clause-after : goal.returns-clause-after
unfolding after_note
returns-clause-after c = λ q s is.
    let me = is.replies.me ∙ sym c.me.ensures in
    let stays = ap (is_member c.in-Some.view) me ∙ sym c.is_member-is_member.ensures in
    let kept = c.kept-store.ensures q s is.replies ∙ ap (λ (b : Bool). if b then s.store else None) (sym stays) in
    record {
      replies = c.begin_view-2.ensures q s (as_view c.args.number c.args.members.now) is.replies
          (ap (λ (v : View). is_member v q.me) (sym c.in-Some.ensures.value) ∙ stays);
      gives = subst (λ (v : View). IsGiving q (after_view q s v) c.begin_view.new.self) c.in-Some.ensures.value
          (c.in_ok-begin_view.ensures.begun q s is.gives kept);
    }
