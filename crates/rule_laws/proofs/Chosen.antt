-- Which value is chosen, by the certified Acks.
use Rattle.std.proofs.Common.{◌≡◌, ℕ, ◌<◌, Option, Some, None, Bool, true, false, refl, sym, ap, ◌∙◌}
use Rattle.std.specs.Prelude.{if◌then◌else◌, option_and_then}
use Rattle.std.specs.Option.{option_or}
use Rattle.std.proofs.lemmas.Bool.{both_ways}
use Rattle.group_defs.specs.Below.{is_some_and, Value, Value-discrete}
use Rattle.group_defs.specs.Process.{Setting, Pool}
use Rattle.group_defs.specs.Values.{is_first_way, is_second_way, adopted, free_value}
use Rattle.group_defs.specs.Due.{same_value}
use Rattle.rule_laws.specs.Heard.{IsPool}
use Rattle.rule_laws.specs.Ranks.{acked}
use Rattle.rule_laws.specs.Ending.{AckedIs, AdoptedIs, ChooseIs}
use Rattle.rule_laws.proofs.Choosing.{LastOf, last-of, none-of, first_falling, adopted-is, is-adopted, second-parts}
use Rattle.rule_laws.proofs.Deputies.{acked-certified, certified-acked}
use Rattle.rule_laws.proofs.Numbers.{same-test}
use Rattle.pool_laws.proofs.Places.{Compared, ahead, behind, level, compared}
use Rattle.pool_laws.proofs.Tests.{is-yes, some-and, yes-is}

pub acked_is : AckedIs
acked_is h r v pool = same-test _ _
    (λ e. ap (λ o. is_some_and o (same_value v)) (certified-acked h pool r v e) ∙ is-yes (Value-discrete v v) refl)
    (λ e. let w = some-and (acked h r) (same_value v) e in acked-certified h r v (w.1 ∙ ap Some (sym (yes-is (Value-discrete v w.0) w.2))))

-- what the second way leads to is the certified Ack's value
second-acked : (h : Pool) → IsPool h → (r r0 : ℕ) (v : Value) → is_second_way h r r0 v ≡ true → acked h r0 ≡ Some v
second-acked h pool r r0 v e = certified-acked h pool r0 v (second-parts h r r0 v e).3

pub adopted_is : AdoptedIs
adopted_is h r r0 pool = go (adopted h r r0) refl
  where
    it : Option Value → Option Value
    it o = option_and_then (λ v. if is_second_way h r r0 v then Some v else None) o

    none : adopted h r r0 ≡ None → (o : Option Value) → acked h r0 ≡ o
        → None ≡ option_and_then (λ v. if is_second_way h r r0 v then Some v else None) o
    none e None f = refl
    none e (Some w) f = pick (is_second_way h r r0 w) refl
      where
        pick : (b : Bool) → is_second_way h r r0 w ≡ b → (let it : Option Value = if b then Some w else None in None ≡ it)
        pick true way = absurd (let v = is-adopted h r r0 w way in let clash : None ≡ Some v.0 = sym e ∙ v.1 in cc)
        pick false way = refl

    go : (o : Option Value) → adopted h r r0 ≡ o → o ≡ option_and_then (λ v. if is_second_way h r r0 v then Some v else None) (acked h r0)
    go None e = none e (acked h r0) refl
    go (Some v) e =
        let way = adopted-is h r r0 v e in
        sym (ap (option_and_then (λ v. if is_second_way h r r0 v then Some v else None))
        (second-acked h pool r r0 v way) ∙ ap (λ b. if b then Some v else None) way)

module _ (s : Setting) (h : Pool) (r : ℕ) (pool : IsPool h) where
  abbrev way : ℕ → Bool
  way r0 = is_some_and (acked h r0) (is_second_way h r r0)

  adopted-way : (r0 : ℕ) (v : Value) → adopted h r r0 ≡ Some v → (way r0 ≡ true) × (acked h r0 ≡ Some v)
  adopted-way r0 v e =
      let second = adopted-is h r r0 v e in
      let at = second-acked h pool r r0 v second in
      (ap (λ o. is_some_and o (is_second_way h r r0)) at ∙ second, at)

  way-adopted : (r0 : ℕ) → way r0 ≡ true → (v : Value) × (adopted h r r0 ≡ Some v)
  way-adopted r0 e = let v = some-and (acked h r0) (is_second_way h r r0) e in is-adopted h r r0 v.0 v.2

  abbrev rest : Option Value
  rest = if is_first_way h r then free_value s h else None

  none-chosen : ((k : ℕ) → k < r → way k ≡ false) → (o : Option Value) → first_falling (adopted h r) r ≡ o → option_or o rest ≡ rest
  none-chosen none None e = refl
  none-chosen none (Some v) e = let last = last-of (adopted h r) r v e in absurd
      (both_ways _ (none last.at last.below) (adopted-way last.at v last.answers).0)

  one-chosen : (k : ℕ) → k < r → way k ≡ true → ((j : ℕ) → k < j → j < r → way j ≡ false) → (o : Option Value)
      → first_falling (adopted h r) r ≡ o → option_or o rest ≡ acked h k
  one-chosen k lt here later None e = absurd
      (let v = way-adopted k here in let clash : None ≡ Some v.0 = sym (none-of (adopted h r) r e k lt) ∙ v.1 in cc)
  one-chosen k lt here later (Some v) e = let last = last-of (adopted h r) r v e in go last (compared last.at k)
    where
      go : (last : LastOf (adopted h r) r v) → Compared last.at k → Some v ≡ acked h k
      go last (ahead before) = absurd (let w = way-adopted k here in let clash : None ≡ Some w.0 = sym (last.later k before lt) ∙ w.1 in cc)
      go last (behind beyond) = absurd (both_ways _ (later last.at beyond last.below) (adopted-way last.at v last.answers).0)
      go last (level same) = sym (ap (acked h) (sym same) ∙ (adopted-way last.at v last.answers).1)

pub choose_is : ChooseIs
choose_is s h r None pool none = none-chosen s h r pool none (first_falling (adopted h r) r) refl
choose_is s h r (Some k) pool greatest = one-chosen s h r pool k greatest.0 greatest.1 greatest.2 (first_falling (adopted h r) r) refl
