-- What follows a numbered view is a numbered view.
use Rattle.std.proofs.Common.{◌≡◌, ◌≢◌, ℕ, ◌+◌, List, None, Bool, true, false, refl, sym, subst, arith}
use Rattle.std.specs.Prelude.{◌==◌, if◌then◌else◌, Some}
use Rattle.std.proofs.lemmas.Bool.{eqb-true}
use Rattle.byte_defs.specs.Choices.{first_that_holds}
use Rattle.message_defs.specs.Limits.{last_number}
use Rattle.message_defs.specs.Updates.{Update}
use Rattle.group_defs.specs.Views.{View, IsView, ViewsSpent, update_faults, members_after, next_fault}
use Rattle.group_defs.proofs.FollowingViews.{next_is_view}
use Rattle.view_table.specs.Views.{as_view, IsNumberedView}

-- a view that is not the last one has the faults that its members give
not-last : (v : View) (u : Update) → v.number ≢ last_number → first_that_holds (update_faults v u) ≡ None → next_fault v u ≡ None
not-last v u less e = go (v.number == last_number) refl
  where
    go : (b : Bool) → (v.number == last_number) ≡ b → (if b then Some ViewsSpent else first_that_holds (update_faults v u)) ≡ None
    go true is = absurd (less (eqb-true v.number last_number is))
    go false is = e

pub follows : (v now : View) (ms : List ℕ) (u : Update) → v ≡ now → IsNumberedView v → v.number ≢ last_number
    → (first_that_holds (update_faults now u) ≡ None) × (ms ≡ members_after now.members u) → IsNumberedView (as_view (v.number + 1) ms)
follows v now ms u is view less after =
    let after' : (first_that_holds (update_faults v u) ≡ None)
    × (ms ≡ members_after v.members u) = subst
    (λ (w : View). (first_that_holds (update_faults w u) ≡ None) × (ms ≡ members_after w.members u)) (sym is) after in
    let next = next_is_view v u (not-last v u less after'.0) view.1 in
    let few = view.0 in
    (omega (arith, few, less), subst (λ ms. IsView (as_view (v.number + 1) ms)) (sym after'.1) next)
