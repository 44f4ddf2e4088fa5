use Rattle.std.proofs.Common.{◌≡◌, ◌+◌, ◌*◌, ◌<◌, ◌≤◌, ℕ, length, refl, sym, ap, ◌∙◌, subst, arith, take}
use Rattle.std.specs.Prelude.{filter, None, slice_index_or}
use Rattle.std.proofs.lemmas.List.{take_all}
use Rattle.message_defs.specs.Statements as plain
use Rattle.group_defs.specs.Views.{View}
use Rattle.group_defs.specs.Certified.{says}
use Rattle.rp_base.specs.Views.{value as value_of}
use Rattle.chain_check.proofs.Counts.{counts-none, counts-one}
use Rattle.chain_check.proofs.readies.Readies.count.Goals as goal
use Rattle.chain_check.proofs.readies.Readies.count.Goals.{then-says, else-says}

pub loop-place-init : goal.loop-place-init
loop-place-init c = (λ h e table. refl, omega arith)

pub loop-place-preserved : goal.loop-place-preserved
loop-place-preserved c = elim c.if-says.branch [
  | then-says w ↦ (
    λ h e table.
        let m = ap length c.members-members.ensures.value in
        let n = ap (λ (v : View). length v.members) e in
        let lt : c.loop-place.place < length h.view.members = omega (arith, c.loop-place-test.true, m, n) in
        w.count-is ∙ counts-one h c.args.rank c.loop-place.place c.loop-place.count
        (slice_index_or c.args.self.now.cells (c.args.rank * 16 + c.loop-place.place) None) c.args.value.now lt
        (table c.args.rank c.loop-place.place c.requires lt) (c.loop-place.invariant.0 h e table) (c.says.ensures.0 w.if-says.true),
    omega (arith, w.count-is, c.loop-place.invariant.1),
  )
  | else-says w ↦ (
    λ h e table.
        let m = ap length c.members-members.ensures.value in
        let n = ap (λ (v : View). length v.members) e in
        let lt : c.loop-place.place < length h.view.members = omega (arith, c.loop-place-test.true, m, n) in
        w.count-is ∙ counts-none h c.args.rank c.loop-place.place c.loop-place.count
        (slice_index_or c.args.self.now.cells (c.args.rank * 16 + c.loop-place.place) None) c.args.value.now lt
        (table c.args.rank c.loop-place.place c.requires lt) (c.loop-place.invariant.0 h e table)
        (λ is. let yes' = c.says.ensures.1 is in let no' = w.if-says.false in cc),
    omega (arith, w.count-is, c.loop-place.invariant.1),
  )
]

pub returns : goal.returns
returns c = record {
  value = λ h e table.
      let m = ap length c.members-members.ensures.value in
      let n = ap (λ (v : View). length v.members) e in
      let le : length h.view.members ≤ c.loop-place.place = omega (arith, c.loop-place-test.false, m, n) in
      c.loop-place.invariant.0 h e table
      ∙ ap (λ ms. length (filter (says h (plain.Ready h.view.number c.args.rank (value_of c.args.value.now))) ms))
      (take_all c.loop-place.place h.view.members le);
  few =
      let m = ap length c.members-members.ensures.value in
      let few = c.members-members.ensures.within.1.few in
      omega (arith, c.loop-place.invariant.1, c.loop-place.auto.place-end, m, few);
}
