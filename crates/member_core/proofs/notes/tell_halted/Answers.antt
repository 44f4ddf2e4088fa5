use Rattle.std.proofs.Common.{◌++◌, ◌∷◌, [], List, map, sym, ap, ◌∙◌}
use Rattle.std.proofs.lemmas.List.{map-append}
use Rattle.group_defs.specs.Process.{places_in}
use Rattle.group_defs.specs.Events as defs
use Rattle.member_signing.specs.States.{note}
use Rattle.member_core.proofs.Halting.{halting-reported}
use Rattle.member_core.proofs.notes.tell_halted.Goals as goal

pub returns-in_ok-push : goal.returns-in_ok-push
returns-in_ok-push c = λ s p is.
    ap (map note) c.in_ok-push.ensures.items
    ∙ map-append note c.args.notes.now.items (_ ∷ [])
    ∙ ap (λ (ns : List defs.Note). map note c.args.notes.now.items ++ ns)
    (sym (halting-reported p.halted p.decision (places_in p.delivered) c.in-Some.delivered c.in-Some.cut (c.in-Some.ensures s p is)))
