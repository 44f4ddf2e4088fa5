use Rattle.std.proofs.Common.{◌≡◌, List, [], arith, refl, sym, subst, ◌∙◌}
use Rattle.std.specs.Vec.Iter.{into_iter_items}
use Rattle.std.proofs.lemmas.List.{nil_from_length}
use Rattle.schedule_file.specs.Views as views
use Rattle.replay_cast.specs.declared.keyed.Keyed.{Keyed}
use Rattle.replay_cast.proofs.Casting.{Underway, cast_begins, next_of, cast_on, cast_ends}
use Rattle.replay_cast.proofs.cast.Cast.add_all.Goals as goal

pub processes-init : goal.processes-init
processes-init c =
    let h = views.header c.args.header.now in
    let P : List Keyed → Type 0 = λ ks. Underway h c.args.self.now ks in
    record {
      on = subst P (sym c.into_iter-left.ensures.rest) (cast_begins h c.args.self.now c.args.all.items c.requires.empty c.requires.keyed);
      group = refl;
      scheme = refl;
      roster = refl;
    }

pub add-requires-clause-unused : goal.add-requires-clause-unused
add-requires-clause-unused c =
    let h = views.header c.args.header.now in
    let P : List Keyed → Type 0 = λ ks. Underway h c.processes.self ks in
    let next = next_of h c.processes.self c.in-Some.one (into_iter_items c.next.new.self)
    (subst P c.in-Some.ensures.items c.processes.invariant.on) in
    next.is.signer.unused

pub processes-preserved : goal.processes-preserved
processes-preserved c =
    let h = views.header c.args.header.now in
    let P : List Keyed → Type 0 = λ ks. Underway h c.processes.self ks in
    let next = next_of h c.processes.self c.in-Some.one (into_iter_items c.next.new.self)
    (subst P c.in-Some.ensures.items c.processes.invariant.on) in
    record {
      on = cast_on h c.processes.self c.add.new.self c.in-Some.one (into_iter_items c.next.new.self) next c.in_ok-add.ensures.adds;
      group = c.add.ensures.group ∙ c.processes.invariant.group;
      scheme = c.add.ensures.scheme ∙ c.processes.invariant.scheme;
      roster = c.add.ensures.roster ∙ c.processes.invariant.roster;
    }

pub returns-clause-adds : goal.returns-clause-adds
returns-clause-adds c =
    let h = views.header c.args.header.now in
    let none : into_iter_items c.processes.left
    ≡ [] = nil_from_length (into_iter_items c.processes.left) (omega (arith, c.in_default.ensures.cases.0, c.processes.left.rest.ok.0)) in
    let P : List Keyed → Type 0 = λ ks. Underway h c.processes.self ks in
    cast_ends h c.processes.self (subst P none c.processes.invariant.on)
