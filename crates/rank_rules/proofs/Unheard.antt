-- What is not said at a rank where no claim of the kind is heard, and what is not chosen then.
use Rattle.std.proofs.Common.{◌≡◌, ℕ, List, [], ◌∷◌, length, Option, Some, None, Bool, true, false, refl, sym, ap, ◌∙◌, arith, slice_get}
use Rattle.std.specs.Prelude.{◌&&◌, nat_lt, filter, flat_map, map, if◌then◌else◌, option_and_then}
use Rattle.std.specs.Bool.{OnFalse}
use Rattle.std.proofs.lemmas.Bool.{ltb-false}
use Rattle.byte_defs.specs.Choices.{is_some_and}
use Rattle.byte_defs.specs.Orders.{least}
use Rattle.message_defs.specs.Updates.{Update, value_numbers}
use Rattle.message_defs.specs.Statements.{SuggestAt, AckAt, ReadyAt, value_of}
use Rattle.group_defs.specs.Views.{is_possible}
use Rattle.group_defs.specs.Process.{Setting, Pool, keyed}
use Rattle.group_defs.specs.Certified.{heard_on, notified_updates}
use Rattle.group_defs.specs.Settle.{decided_at}
use Rattle.group_defs.specs.Values.{choose, ends, free_value, is_free, is_first_way, is_second_way}
use Rattle.rule_laws.specs.Heard.{IsPool}
use Rattle.rule_laws.specs.Ranks.{acked, suggested}
use Rattle.own_place.specs.Below.{is_kind_heard}
use Rattle.own_place.proofs.Below.{unheard, uncertified}
use Rattle.rank_rules.proofs.Justifying.{choose-by}

pub nor : (b : Bool) → (b && false) ≡ false
nor true = refl
nor false = refl

pub in-no-case : {A : Type 0} (b : Bool) (o : Option A) → o ≡ None → (if b then o else None) ≡ None
in-no-case true o e = e
in-no-case false o e = refl

pub where-false : (b : Bool) (P : Type 0) → (b ≡ false → P) → OnFalse b P
where-false true P so = tt
where-false false P so = so refl

module _ (h : Pool) where
  pub unacked : is_kind_heard h.heard 10 ≡ false → (r : ℕ) → acked h r ≡ None
  unacked none r = ap (option_and_then value_of) (uncertified h (AckAt h.view.number r) none)

  pub unsuggested : is_kind_heard h.heard 9 ≡ false → (r : ℕ) → suggested h r ≡ None
  unsuggested none r = go (slice_get h.view.members r)
    where
      go : (o : Option ℕ) → option_and_then (λ m. option_and_then value_of (heard_on h m (SuggestAt h.view.number r))) o ≡ None
      go None = refl
      go (Some m) = ap (option_and_then value_of) (unheard h (SuggestAt h.view.number r) none m)

  pub undecided : is_kind_heard h.heard 11 ≡ false → (s : Setting) (r : ℕ) → decided_at s h r ≡ None
  undecided none s r = ap (λ o. option_and_then (λ v. if is_possible (keyed s) h.view v.update then Some (r, v) else None)
      (option_and_then value_of o)) (uncertified h (ReadyAt h.view.number r) none)

  -- without an update that is notified no value is free
  unfree : nat_lt 0 (length (notified_updates h)) ≡ false → (s : Setting) → free_value s h ≡ None
  unfree none s = ap (λ (us : List Update). least value_numbers
      (filter (is_free s h) (flat_map (λ u. map (λ k. record { update = u; cut = k }) (ends h)) us))) (empty (notified_updates h) none)
    where
      empty : (us : List Update) → nat_lt 0 (length us) ≡ false → us ≡ []
      empty [] e = refl
      empty (u ∷ us) e = absurd (let le = ltb-false 0 (length (u ∷ us)) e in omega (arith, le))

  pub unchosen : is_kind_heard h.heard 10 ≡ false → nat_lt 0 (length (notified_updates h)) ≡ false → IsPool h → (s : Setting) (r : ℕ)
      → choose s h r ≡ None
  unchosen acks updates pool s r =
      sym (choose-by h pool s r None (λ k lt. ap (λ o. is_some_and o (is_second_way h r k)) (unacked acks k)))
      ∙ in-no-case (is_first_way h r) (free_value s h) (unfree updates s)
