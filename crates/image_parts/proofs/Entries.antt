-- Updates that are gathered from the entries of all views.
use Rattle.std.proofs.Common.{◌≡◌, ℕ, List, [], ◌∷◌, Bool, true, false, refl, sym, ap, subst, ◌∙◌}
use Rattle.std.specs.Prelude.{if◌then◌else◌, ◌==◌, ◌||◌}
use Rattle.std.specs.List.{list_any}
use Rattle.std.proofs.lemmas.Bool.{eqb-true, eq-eqb}
use native.Mathlib.Decide.{ℕ_discrete}
use Rattle.byte_defs.specs.Equality.{is_yes, pair_discrete}
use Rattle.message_defs.specs.Updates.{Update, Update-discrete}
use Rattle.group_defs.specs.Process.{Process}
use Rattle.pool_laws.proofs.Tests.{yes-is, is-yes}
use Rattle.rule_laws.proofs.Numbers.{same-test}
use Rattle.ending_rules.specs.declared.notifies.Perceived.{Perceived}
use Rattle.ending_rules.specs.Perceiving.{has_update, with_update, IsPerceivedOf}
use Rattle.ending_rules.proofs.Asking.{has-with}
use Rattle.image_parts.specs.Walks.{with_entry, with_entries}

module _ (number : ℕ) (u : Update) where
  abbrev is_asked : ℕ × Update → Bool
  is_asked d = is_yes (pair_discrete ℕ_discrete (Update-discrete ℕ_discrete) d (number, u))

  abbrev same : Update → Bool
  same v = is_yes (Update-discrete ℕ_discrete v u)

  asked-same : (e : ℕ × Update) → e.0 ≡ number → same e.1 ≡ is_asked e
  asked-same e at = same-test (same e.1) (is_asked e)
      (λ ok. is-yes (pair_discrete ℕ_discrete (Update-discrete ℕ_discrete) e (number, u))
      (λ i. (at i, yes-is (Update-discrete ℕ_discrete e.1 u) ok i)))
      (λ ok. is-yes (Update-discrete ℕ_discrete e.1 u)
      (let is = yes-is (pair_discrete ℕ_discrete (Update-discrete ℕ_discrete) e (number, u)) ok in λ i. (is i).1))

  not-asked : (e : ℕ × Update) → (e.0 == number) ≡ false → false ≡ is_asked e
  not-asked e other = same-test false (is_asked e) (λ no_way. absurd cc)
      (λ ok. sym other ∙ eq-eqb e.0 number
      (let is = yes-is (pair_discrete ℕ_discrete (Update-discrete ℕ_discrete) e (number, u)) ok in λ i. (is i).0))

  or-swap : (a b c : Bool) → ((a || b) || c) ≡ (b || (a || c))
  or-swap true true c = refl
  or-swap true false c = refl
  or-swap false b c = refl

  entries-tell : (set : Perceived) (es : List (ℕ × Update))
      → has_update (with_entries number set es) u ≡ (has_update set u || list_any is_asked es)
  entries-tell set [] = or-none (has_update set u)
    where
      or-none : (b : Bool) → b ≡ (b || false)
      or-none true = refl
      or-none false = refl
  entries-tell set (e ∷ es) = go (e.0 == number) refl (entries-tell (with_update set e.1) es) (entries-tell set es)
    where
      go : (b : Bool) → (e.0 == number) ≡ b
          → has_update (with_entries number (with_update set e.1) es) u ≡ (has_update (with_update set e.1) u || list_any is_asked es)
          → has_update (with_entries number set es) u ≡ (has_update set u || list_any is_asked es)
          → has_update (with_entries number (if b then with_update set e.1 else set) es) u
          ≡ (has_update set u || (is_asked e || list_any is_asked es))
      go true is put left =
          put ∙ ap (λ b. b || list_any is_asked es) (has-with set e.1 u)
          ∙ or-swap (same e.1) (has_update set u) (list_any is_asked es)
          ∙ ap (λ b. has_update set u || (b || list_any is_asked es)) (asked-same e (eqb-true e.0 number is))
      go false is put left = left ∙ ap (λ b. has_update set u || (b || list_any is_asked es)) (not-asked e is)

-- of a set that was empty
pub all-reported : (number : ℕ) (set : Perceived) (es : List (ℕ × Update)) → ((u : Update) → has_update set u ≡ false)
    → (p : Process) → p.pool.view.number ≡ number → p.perceived ≡ es → IsPerceivedOf (with_entries number set es) p
all-reported number set es none p at is u =
    ap (λ n. list_any (is_asked n u) p.perceived) at ∙ ap (list_any (is_asked number u)) is
    ∙ ap (λ b. b || list_any (is_asked number u) es) (sym (none u)) ∙ sym (entries-tell number u set es)
