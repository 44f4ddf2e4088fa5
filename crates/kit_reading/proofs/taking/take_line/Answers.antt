use Rattle.std.proofs.Common.{option_map, sym, ap, ◌∙◌}
use Rattle.text_defs.specs.Words.{words_of}
use Rattle.kit_defs.specs.KitReading.{is_repeated, line_by, may_of}
use Rattle.kit_lines.specs.LineViews.{line}
use Rattle.kit_reading.proofs.Additions.{can_add}
use Rattle.kit_reading.proofs.taking.take_line.Goals as goal

pub add_line-requires : goal.add_line-requires
add_line-requires c =
    can_add c.args.number c.args.draft.now c.said_by.ensures.holds (words_of c.args.text.now) (line c.in-Some.said)
    (sym (ap (is_repeated c.args.draft.now) c.words-words.ensures) ∙ sym c.is_repeated.ensures ∙ c.if-is_repeated.false)
    (ap (line_by (may_of c.args.draft.now)) (sym c.words-words.ensures) ∙ sym c.said_by.ensures.said ∙ ap (option_map line) c.in-Some.is)
    (sym c.is_outside.ensures ∙ c.if-is_outside.false)
    (sym c.is_late.ensures ∙ c.if-is_late.false)
    (sym c.is_early.ensures ∙ c.if-is_early.false)
