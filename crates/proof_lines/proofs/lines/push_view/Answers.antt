use Rattle.std.proofs.Common.{◌≡◌, ℕ, ◌++◌, [], sym, ap, subst, ◌∙◌, arith}
use Rattle.std.specs.Prelude.{All, OnOk}
use Rattle.std.proofs.Math.Logic.{∥∥₁_elim}
use Rattle.std.proofs.lemmas.List.Elements.{recursion_from_All}
use Rattle.std.proofs.lemmas.Result.{on_ok_weaker}
use Rattle.group_defs.specs.Process.{Left}
use Rattle.group_defs.specs.Sending.{Proof, answer, frames_of}
use Rattle.message_defs.specs.Spelling.{IsClaim}
use Rattle.member_state.proofs.Ranges.{claims-once}
use Rattle.pool_laws.proofs.Members.{All-mem}
use Rattle.pool_laws.proofs.Places.{slice_get-mem}
use Rattle.proof_defs.specs.Lines.{proof_line}
use Rattle.proof_lines.specs.Seen.{CanTravel}
use Rattle.proof_lines.proofs.Lefts.{view-line}
use Rattle.proof_lines.proofs.Wanted.{commit-frames, ranged}
use Rattle.proof_lines.proofs.lines.push_view.Goals as goal

pub answer_want-requires-clause-range : goal.answer_want-requires-clause-range
answer_want-requires-clause-range c = ∥∥₁_elim c.requires (claims-once c.args.state.now.pool.pool.heard)
    (λ real. ranged real.setting real.process c.args.state.now real.state)

pub returns : goal.returns
returns c = λ s p l is at.
    let st = c.args.state.now in
    let made = c.in_ok-answer_want.ensures.answer p is.kept is.place.pool ∙ ap (λ fs. fs ++ frames_of (Proof (answer p c.args.view 1024))) c.clear.ensures.frames in
    let frames = made ∙ commit-frames st.archive st.pool.pool p c.args.view 1024 l is.kept is.place.pool (ranged s p st is)
    (λ h e. recursion_from_All IsClaim h.heard (is.ranged.previous_ranged h (is.kept.previous ∙ e)))
    (omega arith) at in
    let claims = All-mem (λ (l : Left). All IsClaim l.commit) p.left l is.ranged.commits_ranged (slice_get-mem p.left c.args.view l at) in
    subst (λ (me : ℕ). OnOk c.push_frames.result ((c.push_frames.new.out.items ≡ c.args.out.now.items ++ proof_line me l) × CanTravel l))
    (sym is.place.number)
    (on_ok_weaker c.push_frames.result
    (λ pushed. view-line st.own.me l _ c.args.out.now.items c.push_frames.new.out.items claims frames pushed)
    c.push_frames.ensures)
