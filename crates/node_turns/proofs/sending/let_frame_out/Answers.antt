use Rattle.std.proofs.Common.{◌≡◌, []}
use Rattle.journal_defs.specs.declared.Version.TheVariants.{One}
use Rattle.rp_base.specs.PidsLeft.{pids_left}
use Rattle.node_defs.specs.Casts.{cast_of, from_start}
use Rattle.node_turns.proofs.Sent.{along-begins, along-ended, along-sealable, along-step, along-stop, on-err}
use Rattle.node_turns.proofs.sending.let_frame_out.Goals as goal

pub letters-init : goal.letters-init
letters-init g c = λ version at h.
    let left : pids_left c.into_iter-to-iterator.result ≡ c.args.out.now.to = cc
    (c.into_iter-to-iterator.ensures.into_iter_gives, c.iter-to-items.ensures) in
    along-begins (cast_of c.args.speaker.now.kit.now version) at c.args.speaker.now.me c.args.out.now.frame c.args.out.now.to
    (pids_left c.into_iter-to-iterator.result) _ left

pub let_letter_out-requires-clause-sealable : goal.let_letter_out-requires-clause-sealable
let_letter_out-requires-clause-sealable g c =
    let start = from_start (cast_of c.args.speaker.now.kit.now One) in
    along-sealable (cast_of c.args.speaker.now.kit.now One) start.from c.args.speaker.now.kit.now c.args.speaker.now.me c.args.out.now.frame
    c.args.out.now.to c.in-Some.to (pids_left c.next.new.self) (pids_left c.letters.to-iterator) c.bytes.result.now _ _
    c.in-Some.ensures.steps c.bytes.ensures (c.letters.invariant One start.from []) c.requires.sealable

pub letters-preserved : goal.letters-preserved
letters-preserved g c = λ version at h.
    along-step (cast_of c.args.speaker.now.kit.now version) at c.args.speaker.now.me c.args.out.now.frame c.args.out.now.to c.in-Some.to
    (pids_left c.next.new.self) (pids_left c.letters.to-iterator) c.bytes.result.now _ _ _ c.in-Some.ensures.steps c.bytes.ensures
    (c.letters.invariant version at h) (c.in_ok-let_letter_out.ensures.out version at h)

pub returns-in_err-let_letter_out-clause-begun : goal.returns-in_err-let_letter_out-clause-begun
returns-in_err-let_letter_out-clause-begun g c = λ version at h. on-err _
    (along-stop (cast_of c.args.speaker.now.kit.now version) at c.args.speaker.now.me c.args.out.now.frame c.args.out.now.to c.in-Some.to
    (pids_left c.next.new.self) (pids_left c.letters.to-iterator) c.bytes.result.now _ _ _ _ c.in-Some.ensures.steps c.bytes.ensures
    (c.letters.invariant version at h) (c.in_err-let_letter_out.ensures.begun version at h))

pub returns-clause-out : goal.returns-clause-out
returns-clause-out g c = λ version at h.
    along-ended (cast_of c.args.speaker.now.kit.now version) at c.args.speaker.now.me c.args.out.now.frame c.args.out.now.to
    (pids_left c.letters.to-iterator) _ _ c.in-None.ensures.steps.0 (c.letters.invariant version at h)
