use Rattle.std.proofs.Common.{length, sym, ap, ◌∙◌, arith}
use Rattle.std.proofs.lemmas.Bool.{eqb-true}
use Rattle.std.proofs.lemmas.Result.{err_from_is_err_and}
use Rattle.text_codec.specs.Views.{parts_left}
use Rattle.kit_defs.specs.KitReading.{kit_of}
use Rattle.kit_reading.proofs.TextLines.{begun, no_part, is_whole, has_more, goes_on, fails, made_of_all, parts_most}
use Rattle.kit_reading.proofs.reading.read_parts.Goals as goal

pub lines-init : goal.lines-init
lines-init c = record {
  so_far = begun c.args.text.now c.in_ok-draft.draft (parts_left c.lines-lines.result) c.in_ok-draft.ensures c.lines-lines.ensures;
  count = omega (arith, ap length c.lines-lines.ensures);
}

pub returns-then-is_empty : goal.returns-then-is_empty
returns-then-is_empty c = made_of_all (λ kit. kit) c.finish.result _ _
    (is_whole c.lines.number c.lines.draft c.in-Some.line.now (parts_left c.lines.lines) (parts_left c.next.new.self)
    (kit_of c.args.text.now) c.in-Some.ensures.steps c.lines.invariant.so_far
    (sym c.is_done.ensures ∙ c.if-is_done.true) (eqb-true _ _ (sym c.is_empty.ensures ∙ c.if-is_empty.true)))
    c.finish.ensures

pub returns-else-is_empty : goal.returns-else-is_empty
returns-else-is_empty c = has_more c.lines.number c.lines.draft c.in-Some.line.now (parts_left c.lines.lines) (parts_left c.next.new.self)
    (kit_of c.args.text.now) c.in-Some.ensures.steps c.lines.invariant.so_far
    (sym c.is_done.ensures ∙ c.if-is_done.true) (sym c.is_empty.ensures ∙ c.if-is_empty.false)

pub returns-in_err-take_line : goal.returns-in_err-take_line
returns-in_err-take_line c =
    let p = err_from_is_err_and c.from_residual-in_err-take_line.result c.from_residual-in_err-take_line.ensures.1 in
    rw (p.1, p.2) (fails c.lines.number c.lines.draft c.in-Some.line.now (parts_left c.lines.lines) (parts_left c.next.new.self)
    (kit_of c.args.text.now) c.in-Some.ensures.steps c.lines.invariant.so_far
    (sym c.is_done.ensures ∙ c.if-is_done.false) c.in_err-take_line.field-0.0 c.in_err-take_line.ensures.taken)

pub overflow_add-number : goal.overflow_add-number
overflow_add-number c = omega (arith, parts_most c.args.text.now, c.lines.invariant.count, ap length c.in-Some.ensures.steps)

pub lines-preserved : goal.lines-preserved
lines-preserved c = record {
  so_far = goes_on c.lines.number c.lines.draft c.in-Some.line.now (parts_left c.lines.lines) (parts_left c.next.new.self)
      (kit_of c.args.text.now) c.in-Some.ensures.steps c.lines.invariant.so_far
      (sym c.is_done.ensures ∙ c.if-is_done.false) c.take_line.new.draft c.in_ok-take_line.ensures.taken;
  count = omega (arith, ap length c.in-Some.ensures.steps, c.lines.invariant.count);
}

pub returns : goal.returns
returns c = no_part c.lines.number c.lines.draft (parts_left c.lines.lines)
    (kit_of c.args.text.now) c.in_default.ensures.steps.0 c.lines.invariant.so_far
