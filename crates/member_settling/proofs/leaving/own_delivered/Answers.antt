use Rattle.std.proofs.Common.{◌≡◌, ◌∙◌, ◌-◌, List, length, map, Some, sym, ap, subst, arith, slice_get, Vec, Global}
use Rattle.std.proofs.Math.Logic.{∥∥₁_elim}
use Rattle.std.proofs.Props.{props}
use Rattle.std.specs.Prelude.{◌==◌, count_by}
use Rattle.std.proofs.lemmas.List.{length-map}
use Rattle.group_defs.specs.Process.{delivered_from}
use Rattle.member_events.specs.declared.events.Delivered.{Delivered}
use Rattle.accounts.specs.Views.{delivery}
use Rattle.member_settling.proofs.Lists.{last-is}
use Rattle.member_settling.proofs.Own.{count-own}
use Rattle.member_settling.proofs.leaving.own_delivered.Goals as goal

pub count_own-requires : goal.count_own-requires
count_own-requires c = ∥∥₁_elim c.requires (hlevel props) (λ short.
    let at = subst (λ (xs : List (Vec Delivered Global)). slice_get xs (length xs - 1) ≡ Some c.in-Some.delivered.now) c.deref.ensures.value
    (sym c.in-Some.ensures.value) in
    let is = last-is (λ (ds : Vec Delivered Global). map delivery ds.items) c.args.account.now.delivered.items short.is.before short.last
    c.in-Some.delivered.now short.is.is at in
    let long = sym (length-map c.in-Some.delivered.now.items delivery) ∙ ap length is in
    let same = ap length c.deref-in-Some.ensures.value in
    let few = short.short in
    omega (arith, few, long, same))

pub returns-in-Some : goal.returns-in-Some
returns-in-Some c = λ ds last.
    let at = subst (λ (xs : List (Vec Delivered Global)). slice_get xs (length xs - 1) ≡ Some c.in-Some.delivered.now) c.deref.ensures.value
    (sym c.in-Some.ensures.value) in
    c.count_own.ensures
    ∙ ap (count_by (λ (d : Delivered). d.sender == c.args.account.now.me)) c.deref-in-Some.ensures.value
    ∙ count-own c.args.account.now.me c.in-Some.delivered.now.items
    ∙ ap (delivered_from c.args.account.now.me)
    (last-is (λ (ds : Vec Delivered Global). map delivery ds.items) c.args.account.now.delivered.items last.before ds
    c.in-Some.delivered.now last.is at)
