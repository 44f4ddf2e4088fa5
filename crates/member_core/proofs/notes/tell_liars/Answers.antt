use Rattle.std.proofs.Common.{◌++◌, ◌+◌, ◌∙◌, [], ◌∷◌, map, ap, Vec, Global}
use Rattle.std.proofs.lemmas.List.{map-append}
use Rattle.member_events.specs.Below.{claim}
use Rattle.member_events.specs.declared.events.Note.{Note}
use Rattle.member_events.specs.declared.events.Note.TheVariants.{Liar}
use Rattle.member_signing.specs.States.{note}
use Rattle.member_core.specs.Outcomes.{liars_from}
use Rattle.member_core.proofs.Liars.{liar-reported, none-reported}
use Rattle.member_core.proofs.notes.tell_liars.Goals as goal
use Rattle.member_core.proofs.notes.tell_liars.Goals.{in-Some+in_ok-push, in_default}

pub pairs-preserved : goal.pairs-preserved
pairs-preserved c =
    elim c.match-other_at.branch [
      | in-Some+in_ok-push w ↦
          ap (λ (v : Vec Note Global). map note v.items ++ liars_from (c.pairs.place + 1) c.args.conflicts.now.pairs) w.notes-is
          ∙ liar-reported c.args.conflicts.now.pairs c.pairs.place (claim w.in-Some.other) (map note c.pairs.notes.items)
          (map note w.push.new.self.items) _ w.in-Some.ensures
          (ap (map note) w.in_ok-push.ensures.items ∙ map-append note c.pairs.notes.items
          (Liar w.in-Some.other.signer ∷ [])) c.pairs.invariant
      | in_default w ↦
          ap (λ (v : Vec Note Global). map note v.items ++ liars_from (c.pairs.place + 1) c.args.conflicts.now.pairs) w.notes-is
          ∙ none-reported c.args.conflicts.now.pairs c.pairs.place (map note c.pairs.notes.items) _ w.in_default.ensures c.pairs.invariant
    ]
