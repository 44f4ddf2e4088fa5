-- The Place that is due: the least place whose Order fits there.
use Rattle.std.proofs.Common.{◌≡◌, ℕ, ◌<◌, Option, Some, None, false, refl, sym, ap, ◌∙◌, subst, []}
use Rattle.std.specs.Prelude.{◌&&◌, not, option_and_then, option_map, IfSome}
use Rattle.byte_defs.specs.Choices.{is_some_and}
use Rattle.message_defs.specs.Limits.{most_places}
use Rattle.message_defs.specs.Statements.{Batch, Place}
use Rattle.group_defs.specs.Process.{Places, Setting, Pool, Process}
use Rattle.group_defs.specs.Due.{least_due}
use Rattle.own_place.specs.declared.own.Own.{Own}
use Rattle.own_place.specs.Owns.{IsOwnOf}
use Rattle.own_place.specs.Signed.{Signed}
use Rattle.pool_laws.specs.Least.{IsLeastBelow}
use Rattle.rule_laws.specs.Heard.{IsPool}
use Rattle.rule_laws.specs.Placing.{fits, is_place_open}
use Rattle.rule_laws.proofs.Numbers.{least-same}
use Rattle.rule_laws.proofs.Placing.{place_is_least}
use Rattle.multicast_rules.specs.Waiting.{ordered_at, is_order_open}
use Rattle.multicast_rules.proofs.Telling.{is-member, is-open}

-- no place below this one is open
abbrev pub AreClosed : Pool → Signed → ℕ → Type 0
AreClosed h signed a = (j : ℕ) → j < a → is_order_open h signed j ≡ false

-- the Place that is due is that of the least place that is open
pub place-due : (s : Setting) (p : Process) (h : Pool) (own : Own) (r : ℕ) (o : Option (ℕ × Batch)) → IsPool h → IsOwnOf s p h own
    → own.position ≡ Some r → own.ended ≡ false
    → IsLeastBelow most_places (is_order_open h own.signed) (option_map (λ e. e.0) o) → IfSome o (λ e. ordered_at h e.0 ≡ Some e.1)
    → least_due s p Places ≡ option_map (λ e. Place h.view.number e.0 e.1) o
place-due s p h own r o pool tells at not_ended least batch =
    place_is_least s p (option_map (λ e. e.0) o) (subst IsPool (sym tells.pool) pool) (is-member s p h own tells r at)
    (is-open s p h own tells not_ended)
    (least-same 0 most_places (is_order_open h own.signed) (is_place_open p) (option_map (λ e. e.0) o) (λ k le lt. same k) least)
    ∙ ap (λ (h : Pool). option_and_then (λ k. option_map (Place h.view.number k) (ordered_at h k))
    (option_map (λ e. e.0) o)) tells.pool ∙ go o batch
  where
    same : (k : ℕ) → is_order_open h own.signed k ≡ is_place_open p k
    same k = ap (λ (h : Pool). is_order_open h own.signed k)
        (sym tells.pool) ∙ ap (λ t. not t && is_some_and (ordered_at p.pool k) (fits p.pool k))
        (sym (tells.signed.slots (Place p.pool.view.number k []) refl))

    go : (o : Option (ℕ × Batch)) → IfSome o (λ e. ordered_at h e.0 ≡ Some e.1)
        → option_and_then (λ k. option_map (Place h.view.number k) (ordered_at h k)) (option_map (λ e. e.0) o)
        ≡ option_map (λ e. Place h.view.number e.0 e.1) o
    go None batch = refl
    go (Some e) batch = ap (option_map (Place h.view.number e.0)) batch
