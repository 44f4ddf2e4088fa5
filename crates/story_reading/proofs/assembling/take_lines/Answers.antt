use Rattle.std.proofs.Common.{length, ap, arith}
use Rattle.text_codec.specs.Views.{parts_left}
use Rattle.story_reading.specs.Views.{addition, draft}
use Rattle.story_reading.proofs.Additions.{can_add}
use Rattle.story_reading.proofs.TextLines.{ends, goes_on, is_expected, parts_most, stops}
use Rattle.story_reading.proofs.assembling.take_lines.Goals as goal

pub returns-in-Err-Expected : goal.returns-in-Err-Expected
returns-in-Err-Expected c = rw c.in-Err-Expected.field-0-is
    (stops c.lines.number (draft c.lines.draft) c.in-Some.line.now (parts_left c.lines.lines) (parts_left c.next.new.self) _
    c.in-Some.ensures.steps c.lines.invariant.so_far c.in-Err-Expected.x
    (is_expected c.in-Err-Expected.field-0 c.in-Err-Expected.x _ c.in-Err-Expected.field-0-is c.in-Err-Expected.ensures))

pub add-requires : goal.add-requires
add-requires c = can_add (draft c.lines.draft) (addition c.in-Ok.added) c.in-Some.line.now c.in-Ok.ensures

pub overflow_add-number : goal.overflow_add-number
overflow_add-number c = omega (arith, parts_most c.args.text.now, c.lines.invariant.count, ap length c.in-Some.ensures.steps)

pub lines-preserved : goal.lines-preserved
lines-preserved c = record {
  so_far = goes_on c.lines.number (draft c.lines.draft) c.in-Some.line.now (parts_left c.lines.lines) (parts_left c.next.new.self) _
      c.in-Some.ensures.steps c.lines.invariant.so_far (addition c.in-Ok.added) (draft c.add.new.self) c.in-Ok.ensures c.in_ok-add.ensures;
  count = omega (arith, ap length c.in-Some.ensures.steps, c.lines.invariant.count);
}

pub returns : goal.returns
returns c =
    ends c.lines.number (draft c.lines.draft) (parts_left c.lines.lines) _ c.in_default.ensures.steps.0 c.lines.invariant.so_far
