use Rattle.std.proofs.Common.{List, ◌++◌, map, ap, ◌∙◌}
use Rattle.std.specs.List.{flat_map}
use Rattle.happenings.specs.Events.{note}
use Rattle.member_events.specs.Below.{OwnClaim, signed}
use Rattle.member_events.specs.declared.events.Note.{Note}
use Rattle.picture_defs.specs.Labels.{note_span, short_of}
use Rattle.story_words.proofs.Pieces.{behind}
use Rattle.picture_labels.proofs.labels.push_outcome_words.Goals as goal

pub returns : goal.returns
returns c =
    let o = c.args.seen.now in
    behind c.args.out.now.items (flat_map note_span (map note o.notes.items))
    (flat_map (λ s. short_of s.statement) (map signed o.signed.items)) c.push_notes.new.out.items c.push_all_short.new.out.items
    (c.in_ok-push_notes.ensures
    ∙ ap (λ (xs : List Note). c.args.out.now.items ++ flat_map note_span (map note xs)) c.deref.ensures.value)
    (c.in_ok-push_all_short.ensures
    ∙ ap (λ (xs : List OwnClaim). c.push_notes.new.out.items ++ flat_map (λ s. short_of s.statement) (map signed xs))
    c.deref-2.ensures.value)
