use Rattle.std.proofs.Common.{rules, length, sym, ap, ◌∙◌, refl, arith}
use Rattle.std.proofs.lemmas.Bool.{eqb-true}
use Rattle.std.proofs.lemmas.Result.{err_from_is_err_and}
use Rattle.message_defs.specs.Statements.{Batch}
use Rattle.statements.specs.Batches.{message}
use Rattle.story_defs.specs.Statements.{batch_at}
use Rattle.story_defs.specs.declared.Expected.TheVariants.{Lie}
use Rattle.story_lines.specs.Cursors.{left}
use Rattle.story_statements.proofs.Batches.{begins, fails, goes_on, is_done, is_full, one_more, only_one, shrinks, under}
use Rattle.story_statements.proofs.parts.batch.Goals as goal

pub messages-init : goal.messages-init
messages-init c = record {
  so_far = begins c.of-batch.result (message c.in_ok-sender.sender c.in_ok-sender.number) (left c.args.words.now)
      (left c.message.new.words) c.of-batch.ensures c.in_ok-sender.ensures.exact;
  range = rw c.of-batch.ensures (only_one (message c.in_ok-sender.sender c.in_ok-sender.number)
      (search rules, c.in_ok-sender.ensures.range));
}

pub returns-then-is_full-clause-exact : goal.returns-then-is_full-clause-exact
returns-then-is_full-clause-exact c = is_full c.messages.batch (left c.messages.words) _ c.messages.invariant.so_far
    (sym c.messages-test.ensures) (eqb-true _ _ (sym c.is_full.ensures ∙ c.if-is_full.true))

pub returns-in_err-sender-2-clause-exact : goal.returns-in_err-sender-2-clause-exact
returns-in_err-sender-2-clause-exact c =
    let p = err_from_is_err_and c.from_residual-in_err-sender-2.result c.from_residual-in_err-sender-2.ensures.1 in
    rw (p.1, p.2) (fails c.messages.batch (left c.messages.words) _ c.messages.invariant.so_far (sym c.messages-test.ensures)
    (under c.messages.batch c.messages.invariant.range
    (sym c.is_full.ensures ∙ c.if-is_full.false)) c.in_err-sender-2.field-0.0 c.in_err-sender-2.ensures.exact)

pub messages-smaller : goal.messages-smaller
messages-smaller c = shrinks (left c.messages.words) _ (left c.message-in-messages.new.words) c.in_ok-sender-2.ensures.exact

pub messages-preserved : goal.messages-preserved
messages-preserved c =
    let m = message c.in_ok-sender-2.sender c.in_ok-sender-2.number in
    let few = under c.messages.batch c.messages.invariant.range (sym c.is_full.ensures ∙ c.if-is_full.false) in
    record {
      so_far = rw c.push.ensures (goes_on c.messages.batch (left c.messages.words) _ c.messages.invariant.so_far
          (sym c.messages-test.ensures) few m (left c.message-in-messages.new.words) c.in_ok-sender-2.ensures.exact);
      range = rw c.push.ensures (one_more c.messages.batch m c.messages.invariant.range few (search rules, c.in_ok-sender-2.ensures.range));
    }

pub returns-clause-exact : goal.returns-clause-exact
returns-clause-exact c = is_done c.messages.batch (left c.messages.words) _ c.messages.invariant.so_far (sym c.messages-test.ensures)
