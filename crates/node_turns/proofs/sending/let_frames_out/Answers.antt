use Rattle.std.proofs.Common.{arith}
use Rattle.node_defs.specs.Casts.{cast_of}
use Rattle.letting_laws.proofs.Joined.{let-nothing}
use Rattle.node_turns.proofs.Sent.{frames-ended, frames-step, frames-stop, item-sealable, on-err}
use Rattle.node_turns.proofs.sending.let_frames_out.Goals as goal

pub frames-init : goal.frames-init
frames-init g c = λ version at h. let-nothing (cast_of c.args.speaker.now.kit.now version) at _

pub let_frame_out-requires-clause-sealable : goal.let_frame_out-requires-clause-sealable
let_frame_out-requires-clause-sealable g c =
    item-sealable c.args.speaker.now.kit.now c.args.speaker.now.me c.args.sends.now c.frames.out-index c.out-item.result c.frames-test.true
    c.out-item.is c.requires.sealable

pub frames-preserved : goal.frames-preserved
frames-preserved g c = λ version at h.
    frames-step (cast_of c.args.speaker.now.kit.now version) at c.args.speaker.now.me c.args.sends.now c.frames.out-index c.out-item.result _ _ _
    c.frames-test.true c.out-item.is (c.frames.invariant version at h) (c.in_ok-let_frame_out.ensures.out version at h)

pub returns-in_err-let_frame_out-clause-begun : goal.returns-in_err-let_frame_out-clause-begun
returns-in_err-let_frame_out-clause-begun g c = λ version at h. on-err _
    (frames-stop (cast_of c.args.speaker.now.kit.now version) at c.args.speaker.now.me c.args.sends.now c.frames.out-index c.out-item.result _ _ _ _
    c.frames-test.true c.out-item.is (c.frames.invariant version at h) (c.in_err-let_frame_out.ensures.begun version at h))

pub returns-clause-out : goal.returns-clause-out
returns-clause-out g c = λ version at h.
    frames-ended (cast_of c.args.speaker.now.kit.now version) at c.args.speaker.now.me c.args.sends.now c.frames.out-index _ _ (omega arith)
    (c.frames.invariant version at h)
