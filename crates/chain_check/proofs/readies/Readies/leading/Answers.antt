use Rattle.std.proofs.Common.{◌≡◌, ◌+◌, ◌*◌, ◌<◌, ◌≤◌, ℕ, length, refl, sym, ap, ◌∙◌, subst, arith}
use Rattle.std.specs.Prelude.{None, Some, Option, IfSome, slice_index_or}
use Rattle.group_defs.specs.Views.{View}
use Rattle.group_defs.specs.Certified.{number_of_members}
use Rattle.rp_base.specs.Views.{value as value_of}
use Rattle.chain_check.specs.declared.readies.Leading.{Leading}
use Rattle.chain_check.specs.Readies.{IsBest}
use Rattle.chain_check.proofs.Counts.{NoneMore, leading-is, said-next, silent-next}
use Rattle.chain_check.proofs.readies.Readies.leading.Goals as goal
use Rattle.chain_check.proofs.readies.Readies.leading.Goals.{then-count-most, else-count-most}

pub loop-place-preserved-in_default : goal.loop-place-preserved-in_default
loop-place-preserved-in_default c = (
  λ h e table.
      let m = ap length c.members-members.ensures.value in
      let n = ap (λ (v : View). length v.members) e in
      let lt : c.loop-place.place < length h.view.members = omega (arith, c.loop-place-test.true, m, n) in
      let inv = c.loop-place.invariant.0 h e table in (
        inv.0,
        silent-next h c.args.rank c.loop-place.place c.loop-place.most
            (slice_index_or c.args.self.now.cells (c.args.rank * 16 + c.loop-place.place) None)
            (table c.args.rank c.loop-place.place c.requires lt) (sym c.at.ensures ∙ c.in_default.is) inv.1,
      ),
  c.loop-place.invariant.1,
  c.loop-place.invariant.2,
)

pub loop-place-preserved : goal.loop-place-preserved
loop-place-preserved c = elim c.if-count-most.branch [
  | then-count-most w ↦ (
    λ h e table.
        let m = ap length c.members-members.ensures.value in
        let n = ap (λ (v : View). length v.members) e in
        let lt : c.loop-place.place < length h.view.members = omega (arith, c.loop-place-test.true, m, n) in
        let inv = c.loop-place.invariant.0 h e table in
        let many = c.count-count.ensures.value h e table in
        let found : Leading = record { value = c.in-Some.value; count = c.count-count.result } in
        let some : 0 < c.count-count.result = omega (arith, w.if-count-most.true) in
        let best : IsBest h c.args.rank (Some found) c.count-count.result = (refl, many, some) in (
          subst (λ b. IsBest h c.args.rank b c.if-count-most.most) (sym w.best-is)
              (subst (λ k. IsBest h c.args.rank (Some found) k) (sym w.most-is) best),
          subst (λ k. NoneMore h c.args.rank (c.loop-place.place + 1) k) (sym w.most-is)
              (said-next h c.args.rank c.loop-place.place c.loop-place.most c.count-count.result
              (slice_index_or c.args.self.now.cells (c.args.rank * 16 + c.loop-place.place) None) c.in-Some.value
              (table c.args.rank c.loop-place.place c.requires lt) (sym c.at.ensures ∙ c.in-Some.is)
              (omega (arith, w.if-count-most.true)) (omega (arith, many)) inv.1),
        ),
    omega (arith, w.most-is, c.count-count.ensures.few),
    subst (λ (b : Option Leading). IfSome b (λ l. l.count ≤ 16)) (sym w.best-is) c.count-count.ensures.few,
  )
  | else-count-most w ↦ (
    λ h e table.
        let m = ap length c.members-members.ensures.value in
        let n = ap (λ (v : View). length v.members) e in
        let lt : c.loop-place.place < length h.view.members = omega (arith, c.loop-place-test.true, m, n) in
        let inv = c.loop-place.invariant.0 h e table in
        let many = c.count-count.ensures.value h e table in (
          subst (λ b. IsBest h c.args.rank b c.if-count-most.most) (sym w.best-is)
              (subst (λ k. IsBest h c.args.rank c.loop-place.best k) (sym w.most-is) inv.0),
          subst (λ k. NoneMore h c.args.rank (c.loop-place.place + 1) k) (sym w.most-is)
              (said-next h c.args.rank c.loop-place.place c.loop-place.most c.loop-place.most
              (slice_index_or c.args.self.now.cells (c.args.rank * 16 + c.loop-place.place) None) c.in-Some.value
              (table c.args.rank c.loop-place.place c.requires lt) (sym c.at.ensures ∙ c.in-Some.is)
              (omega arith) (omega (arith, many, w.if-count-most.false)) inv.1),
        ),
    omega (arith, w.most-is, c.loop-place.invariant.1),
    subst (λ (b : Option Leading). IfSome b (λ l. l.count ≤ 16)) (sym w.best-is) c.loop-place.invariant.2,
  )
]

pub returns-clause-few : goal.returns-clause-few
returns-clause-few c = c.loop-place.invariant.2

pub returns-clause-leads : goal.returns-clause-leads
returns-clause-leads c = λ h e table.
    let m = ap length c.members-members.ensures.value in
    let n = ap (λ (v : View). length v.members) e in
    let all : c.loop-place.place ≡ number_of_members h = omega (arith, c.loop-place-test.false, c.loop-place.auto.place-end, m, n) in
    let inv = c.loop-place.invariant.0 h e table in
    leading-is h c.args.rank c.loop-place.best c.loop-place.most c.loop-place.invariant.1 inv.0
    (subst (λ i. NoneMore h c.args.rank i c.loop-place.most) all inv.1)
