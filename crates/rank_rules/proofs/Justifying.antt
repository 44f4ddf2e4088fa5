-- Ways, choices and values, by the members that say so.
use Rattle.std.proofs.Common.{◌≡◌, ℕ, Option, Some, None, Bool, true, false, refl, sym, ◌∙◌, count_by}
use Rattle.std.specs.Prelude.{◌&&◌, ◌||◌, ◌==◌, nat_lt, is_some, is_none, if◌then◌else◌}
use Rattle.std.specs.List.{list_any}
use Rattle.std.proofs.lemmas.Bool.{eq-eqb, eqb-true}
use native.Mathlib.Decide.{ℕ_discrete}
use Rattle.byte_defs.specs.Choices.{is_some_and}
use Rattle.byte_defs.specs.Equality.{option_discrete, pair_discrete}
use Rattle.message_defs.specs.Updates.{Value, Value-discrete}
use Rattle.message_defs.specs.Statements.{Ack}
use Rattle.group_defs.specs.Process.{Setting, Pool}
use Rattle.group_defs.specs.Certified.{is_certified}
use Rattle.group_defs.specs.Due.{same_value}
use Rattle.group_defs.specs.Values.{is_quorum, is_free, free_value, is_at_most, is_first_way, is_second_way, is_justified, same_ready, choose}
use Rattle.pool_laws.specs.Least.{IsLeastBelow, IsGreatestBelow}
use Rattle.pool_laws.proofs.Tests.{and-first, and-second, both-true, yes-is, is-yes, some-same}
use Rattle.rule_laws.specs.Ending.{last_of}
use Rattle.rule_laws.specs.Heard.{IsPool}
use Rattle.rule_laws.specs.Ranks.{acked}
use Rattle.rule_laws.proofs.Chosen.{choose_is}
use Rattle.rule_laws.proofs.Ends.{lasts_by_member}
use Rattle.rule_laws.proofs.Numbers.{same-test}
use Rattle.rule_laws.proofs.Settled.{any_is_found}

-- a Last reports this Ready where its rank and value are the ones
pub same-report : (lower q : ℕ) (v w : Value) → ((q == lower) && same_value w v) ≡ same_ready (Some (lower, v)) (Some (q, w))
same-report lower q v w = same-test _ _ forth back
  where
    forth : ((q == lower) && same_value w v) ≡ true → same_ready (Some (lower, v)) (Some (q, w)) ≡ true
    forth e =
        let q_is : q ≡ lower = eqb-true q lower (and-first (q == lower) (same_value w v) e) in
        let w_is : w ≡ v = yes-is (Value-discrete w v) (and-second (q == lower) (same_value w v) e) in
        let one : Option (ℕ × Value) = Some (lower, v) in
        let other : Option (ℕ × Value) = Some (q, w) in
        let same : one ≡ other = λ i. Some (sym q_is i, sym w_is i) in
        is-yes (option_discrete (pair_discrete ℕ_discrete Value-discrete) one other) same

    back : same_ready (Some (lower, v)) (Some (q, w)) ≡ true → ((q == lower) && same_value w v) ≡ true
    back e =
        let one : ℕ × Value = (lower, v) in
        let other : ℕ × Value = (q, w) in
        let same : one ≡ other = some-same one other
        (yes-is (option_discrete (pair_discrete ℕ_discrete Value-discrete) (Some one) (Some other)) e) in
        both-true _ _ (eq-eqb q lower (λ i. (sym same i).0)) (is-yes (Value-discrete w v) (λ i. (sym same i).1))

-- of two tests the first passes, so the second decides; or it fails
pub with-true : (q t b : Bool) → q ≡ true → b ≡ t → b ≡ (q && t)
with-true true t b e is = is
with-true false t b e is = absurd cc

pub with-false : (q t b : Bool) → q ≡ false → b ≡ false → b ≡ (q && t)
with-false true t b e is = absurd cc
with-false false t b e is = is

-- a quorum's Lasts report no Ready, or one of at most the lower rank
abbrev pub is_bounded : Pool → ℕ → ℕ → Bool
is_bounded h r r0 = is_quorum h (count_by (λ m. is_some_and (last_of h r m) (is_at_most r0)) h.view.members)

-- some member's Last reports the value's Ready of the lower rank
abbrev pub some_reports : Pool → ℕ → ℕ → Value → Bool
some_reports h r r0 v = list_any (λ m. is_some_and (last_of h r m) (same_ready (Some (r0, v)))) h.view.members

module _ (h : Pool) where
  -- the Lasts counted by members
  first-way-by : (r : ℕ) → ((r == 0) || is_quorum h (count_by (λ m. is_some_and (last_of h r m) is_none) h.view.members)) ≡ is_first_way h r
  first-way-by r = sym (λ i. (r == 0) || is_quorum h ((lasts_by_member h r is_none).0 i))

  pub first-way-above : (r : ℕ) → (r ≡ 0 → ⊥) → (b : Bool)
      → b ≡ is_quorum h (count_by (λ m. is_some_and (last_of h r m) is_none) h.view.members) → b ≡ is_first_way h r
  first-way-above r above b is = go (r == 0) refl ∙ first-way-by r
    where
      go : (e : Bool) → (r == 0) ≡ e → b ≡ (e || is_quorum h (count_by (λ m. is_some_and (last_of h r m) is_none) h.view.members))
      go true e = absurd (above (eqb-true r 0 e))
      go false e = is

  -- the four parts of the second way
  pub second-way-is : (r r0 : ℕ) (v : Value)
      → (nat_lt r0 r && is_bounded h r r0 && some_reports h r r0 v && is_certified h (Ack h.view.number r0 v)) ≡ is_second_way h r r0 v
  second-way-is r r0 v = sym (λ i. nat_lt r0 r && is_quorum h ((lasts_by_member h r (is_at_most r0)).0 i)
      && (lasts_by_member h r (same_ready (Some (r0, v)))).1 i && is_certified h (Ack h.view.number r0 v))

  -- the greatest rank that may have decided is chosen
  pub choose-by : IsPool h → (s : Setting) (r : ℕ) (o : Option ℕ)
      → IsGreatestBelow r (λ r0. is_some_and (acked h r0) (is_second_way h r r0)) o
      → (elim o [ None ↦ (if is_first_way h r then free_value s h else None) | Some r0 ↦ acked h r0 ]) ≡ choose s h r
  choose-by pool s r o greatest = sym (choose_is s h r o pool greatest)

  -- a value is justified where it is free and none was decided, or a rank is found that may have decided it
  pub justified-by : (s : Setting) (r : ℕ) (v : Value) (free : Bool) → free ≡ is_free s h v → (o : Option ℕ)
      → IsLeastBelow r (λ r0. is_second_way h r r0 v) o
      → ((free && is_first_way h r) || is_some o) ≡ is_justified s h r v
  justified-by s r v free is o least = λ i. (is i && is_first_way h r) || sym (any_is_found r (λ r0. is_second_way h r r0 v) o least) i
