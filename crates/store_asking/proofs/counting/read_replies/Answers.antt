use Rattle.std.proofs.Common.{◌≡◌, inl, inr, true, false, Ok, refl, ap, ◌∙◌}
use Rattle.std.proofs.lemmas.Result.{err_from_is_err_and}
use Rattle.store_defs.specs.Asking.{most_replies}
use Rattle.kit_reading.specs.Fronts.{front_fault}
use Rattle.store_asking.specs.Counts.{place_of}
use Rattle.store_asking.specs.Places.{vote_at, vote_place}
use Rattle.store_asking.proofs.LineFaults.{settles_if}
use Rattle.line_laws.proofs.Read.{ends_then, nothing_read, read_more}
use Rattle.store_asking.proofs.counting.read_replies.Goals as goal

pub replies-init : goal.replies-init
unfolding most_replies
replies-init g c = record { leads = nothing_read _ _; steady = refl }

pub returns-in_err-next_reply-clause-refused : goal.returns-in_err-next_reply-clause-refused
returns-in_err-next_reply-clause-refused g c =
    let p = err_from_is_err_and c.from_residual.result c.from_residual.ensures.1 in
    rw (p.1, p.2) (settles_if _ _ _ _ _ (front_fault c.in_err-next_reply.field-0.0) c.replies.invariant.leads c.in_err-next_reply.ensures.refused)

pub returns-then-not-branch-clause-counted : goal.returns-then-not-branch-clause-counted
returns-then-not-branch-clause-counted g c =
    ends_then (vote_at (vote_place c.args.kit.now c.args.keys.now c.args.first most_replies c.args.vote c.args.lines.now.ahead))
    (vote_at (place_of c.args.kit.now c.args.keys.now c.replies.count c.replies.lines.ahead)) (Ok c.next_reply.new.count.vote)
    (g.S.Source.left c.args.input.now) (g.S.Source.left c.replies.input) (g.S.Source.left c.next_reply.new.input) c.replies.invariant.leads
    (c.in_ok-next_reply.ensures.ended (ap (λ b. Ok b) c.if-not-branch.true))

pub replies-preserved : goal.replies-preserved
replies-preserved g c = record {
  leads = read_more (vote_at (vote_place c.args.kit.now c.args.keys.now c.args.first most_replies c.args.vote c.args.lines.now.ahead))
      (vote_at (place_of c.args.kit.now c.args.keys.now c.replies.count c.replies.lines.ahead))
      (vote_at (place_of c.args.kit.now c.args.keys.now c.next_reply.new.count c.next_reply.new.lines.ahead))
      (g.S.Source.left c.args.input.now) (g.S.Source.left c.replies.input) (g.S.Source.left c.next_reply.new.input) c.replies.invariant.leads
      (c.in_ok-next_reply.ensures.counted (ap (λ b. Ok b) c.if-not-branch.false));
  steady = elim c.in_ok-next_reply.ensures.steady [ inl bad ↦ absurd cc | inr same ↦ same ∙ c.replies.invariant.steady ];
}
