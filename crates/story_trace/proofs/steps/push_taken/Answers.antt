use Rattle.std.proofs.Common.{◌++◌, List, ℕ, map, ap, sym, ◌∙◌}
use Rattle.std.specs.List.{flat_map, enumerate_from}
use Rattle.std.proofs.lemmas.List.Folds.{flat_map-map}
use Rattle.text_defs.specs.Words.{line_text}
use Rattle.member_events.specs.Below.{OwnClaim, signed}
use Rattle.member_events.specs.declared.events.Note.{Note}
use Rattle.happenings.specs.Events.{note}
use Rattle.trace_defs.specs.Outcomes.{signed_line, note_line, sent_line}
use Rattle.story_trace.proofs.Behind.{three_of}
use Rattle.story_trace.proofs.steps.push_taken.Goals as goal

pub returns : goal.returns
returns c =
    let p = c.args.at in
    let o = c.args.seen.now in
    let sent = enumerate_from c.args.first o.to.items in
    three_of line_text (map (signed_line p) (map signed o.signed.items)) (map (note_line p) (map note o.notes.items))
    (map (sent_line p) sent)
    c.args.out.now.items c.push_all_signed.new.out.items c.push_notes.new.out.items c.push_sends.new.out.items
    (c.in_ok-push_all_signed.ensures ∙ ap
    (λ (xs : List OwnClaim). c.args.out.now.items ++ flat_map line_text (map (signed_line p) (map signed xs))) c.deref.ensures.value)
    (c.in_ok-push_notes.ensures ∙ ap
    (λ (xs : List Note). c.push_all_signed.new.out.items ++ flat_map line_text (map (note_line p) (map note xs))) c.deref-2.ensures.value)
    (c.in_ok-push_sends.ensures
    ∙ ap (λ (xs : List (List ℕ)). c.push_notes.new.out.items
    ++ flat_map (λ e. line_text (sent_line p e)) (enumerate_from c.args.first xs)) c.deref-3.ensures.value
    ∙ ap (λ (t : List ℕ). c.push_notes.new.out.items ++ t) (sym (flat_map-map line_text (sent_line p) sent)))
