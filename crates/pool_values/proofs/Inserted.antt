-- An update more in a set.
use Rattle.std.proofs.Common.{◌≡◌, ℕ, true, refl, sym, ap, ◌∙◌}
use Rattle.std.specs.Prelude.{◌≢◌, ◌==◌, ◌||◌}
use Rattle.std.specs.List.{list_any}
use Rattle.std.proofs.lemmas.Bool.{eq-eqb, ne_eqb}
use Rattle.message_defs.specs.Updates.{Update, Remove, Add, Renew}
use Rattle.rp_base.specs.Pids.{put_once}
use Rattle.slot_quorums.proofs.Claims.{has-put_once}
use Rattle.pool_values.specs.declared.updates.UpdateSet.{UpdateSet}
use Rattle.pool_values.specs.Updates.{has_update}

-- the set with the process among those that are removed, or added
abbrev pub with_removed : UpdateSet → ℕ → UpdateSet
with_removed s p = record { removed = put_once p s.removed; added = s.added; renewed = s.renewed }

abbrev pub with_added : UpdateSet → ℕ → UpdateSet
with_added s p = record { removed = s.removed; added = put_once p s.added; renewed = s.renewed }

pub removed-there : (s : UpdateSet) (p : ℕ) → has_update (with_removed s p) (Remove p) ≡ true
removed-there s p = has-put_once p p s.removed ∙ ap (λ b. b || list_any (λ q. q == p) s.removed) (eq-eqb p p refl)

pub added-there : (s : UpdateSet) (p : ℕ) → has_update (with_added s p) (Add p) ≡ true
added-there s p = has-put_once p p s.added ∙ ap (λ b. b || list_any (λ q. q == p) s.added) (eq-eqb p p refl)

pub removed-others : (s : UpdateSet) (p : ℕ) (u : Update) → u ≢ Remove p → has_update (with_removed s p) u ≡ has_update s u
removed-others s p (Remove q) other = has-put_once p q s.removed ∙ ap (λ b. b || list_any (λ r. r == q) s.removed)
    (ne_eqb p q (λ e. other (ap Remove (sym e))))
removed-others s p (Add q) other = refl
removed-others s p Renew other = refl

pub added-others : (s : UpdateSet) (p : ℕ) (u : Update) → u ≢ Add p → has_update (with_added s p) u ≡ has_update s u
added-others s p (Remove q) other = refl
added-others s p (Add q) other = has-put_once p q s.added ∙ ap (λ b. b || list_any (λ r. r == q) s.added)
    (ne_eqb p q (λ e. other (ap Add (sym e))))
added-others s p Renew other = refl
