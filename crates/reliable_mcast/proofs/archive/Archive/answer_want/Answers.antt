use Rattle.std.proofs.Common.{◌++◌, List, [], sym, ap, ◌∙◌, slice_get}
use Rattle.std.specs.Prelude.{unwrap_or}
use Rattle.std.proofs.lemmas.Result.{on_ok_weaker}
use Rattle.message_defs.specs.Packing.{Signed}
use Rattle.group_defs.specs.Sending.{answer}
use Rattle.reliable_mcast.specs.declared.sheet.FrameKind.TheVariants as kinds
use Rattle.reliable_mcast.specs.Packed.{frames_as}
use Rattle.reliable_mcast.specs.Archives.{Archived}
use Rattle.reliable_mcast.proofs.Answering.{answer-is, proofs-are, parts-are, frames-same, has-none}
use Rattle.reliable_mcast.proofs.archive.Archive.answer_want.Goals as goal

pub returns-clause-answer : goal.returns-clause-answer
returns-clause-answer c =
    let same = c.deref.ensures.value ∙ ap (λ (a : Archived). a.commits) c.self.view_is in
    let claims = parts-are c.args.self.now c.args.pool.now.pool c.args.view c.args.place c.deref.result.now c.args.frames.now
    c.put_commit.new.frames c.put_pool.new.frames c.put_previous.new.frames same c.requires.empty c.in_ok-put_commit.ensures.list
    c.in_ok-put_pool.ensures.list c.in_ok-put_previous.ensures.list in
    let frames = frames-same c.args.frames.now c.put_commit.new.frames c.put_pool.new.frames c.put_previous.new.frames _ _ _
    c.in_ok-put_commit.ensures.list c.in_ok-put_pool.ensures.list c.in_ok-put_previous.ensures.list in
    on_ok_weaker c.close.result (λ made p keeps is.
    let packed = ap (frames_as kinds.Proof)
    (claims ∙ sym (answer-is c.args.self.now c.args.pool.now.pool p c.args.view c.args.place keeps is)) ∙ proofs-are
    (answer p c.args.view c.args.place) in
    made ∙ (λ i. frames i ++ packed i)) c.close.ensures.frames

pub returns-in_err-put_commit-clause-none : goal.returns-in_err-put_commit-clause-none
returns-in_err-put_commit-clause-none c = λ p keeps is e.
    let same = c.deref.ensures.value ∙ ap (λ (a : Archived). a.commits) c.self.view_is in
    let none = has-none c.args.self.now c.args.pool.now.pool p c.args.view c.args.place keeps is e in
    absurd (cc (c.in_err-put_commit.ensures.none (ap (λ (cs : List (List Signed)). unwrap_or (slice_get cs c.args.view) []) same ∙ none.commit)))

pub returns-in_err-put_pool-clause-none : goal.returns-in_err-put_pool-clause-none
returns-in_err-put_pool-clause-none c = λ p keeps is e.
    absurd (cc (c.in_err-put_pool.ensures.none (has-none c.args.self.now c.args.pool.now.pool p c.args.view c.args.place keeps is e).current))

pub returns-in_err-put_previous-clause-none : goal.returns-in_err-put_previous-clause-none
returns-in_err-put_previous-clause-none c = λ p keeps is e.
    absurd (cc (c.in_err-put_previous.ensures.none (has-none c.args.self.now c.args.pool.now.pool p c.args.view c.args.place keeps is e).before))

pub returns-clause-none : goal.returns-clause-none
returns-clause-none c = λ p keeps is e.
    let same = c.deref.ensures.value ∙ ap (λ (a : Archived). a.commits) c.self.view_is in
    let claims = parts-are c.args.self.now c.args.pool.now.pool c.args.view c.args.place c.deref.result.now c.args.frames.now
    c.put_commit.new.frames c.put_pool.new.frames c.put_previous.new.frames same c.requires.empty c.in_ok-put_commit.ensures.list
    c.in_ok-put_pool.ensures.list c.in_ok-put_previous.ensures.list in
    c.close.ensures.none (claims ∙ (has-none c.args.self.now c.args.pool.now.pool p c.args.view c.args.place keeps is e).all)
