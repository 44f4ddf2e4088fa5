use Rattle.std.proofs.Common.{◌≡◌, ◌∙◌, List, ◌++◌, ◌∷◌, [], map, take, ap, refl, sym, arith, Vec, Global}
use Rattle.std.proofs.lemmas.List.{take-map}
use Rattle.group_defs.specs.Process as defs
use Rattle.member_events.specs.declared.events.Delivered.{Delivered}
use Rattle.accounts.specs.Views.{delivery}
use Rattle.accounts.proofs.Lists.{last-changed}
use Rattle.accounts.proofs.mark.cut_last.Goals as goal

pub returns-in-Some : goal.returns-in-Some
returns-in-Some c before last is =
    let changed = last-changed (λ (ds : Vec Delivered Global). map delivery ds.items) c.args.lists.now.items _ c.in-Some.delivered.now
    c.truncate.new.self before last (omega (arith, c.args.lists.now.ok.0, c.in-Some.ensures.variant.0 refl)) c.in-Some.ensures.value is in
    let cut = ap (λ (ds : List Delivered). map delivery ds) c.truncate.ensures.items
    ∙ sym (take-map delivery c.args.count c.in-Some.delivered.now.items) ∙ ap (take c.args.count) changed.0 in
    changed.1 ∙ ap (λ (ds : List defs.Delivered). before ++ ds ∷ []) cut
