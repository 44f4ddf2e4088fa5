-- The rules at ranks are those that a process's place is asked.
use Rattle.std.proofs.Common.{◌≡◌, ℕ, Option, Some, None, Bool, false, sym, ap, ◌∙◌, subst, refl}
use Rattle.std.specs.Prelude.{◌&&◌, not, nat_lt, nat_le, is_some, option_map, option_and_then, if◌then◌else◌}
use Rattle.std.proofs.lemmas.Bool.{both_ways}
use Rattle.byte_defs.specs.Choices.{is_some_and}
use Rattle.message_defs.specs.Statements.{Last, Suggest, Ack, Ready, LastAt, SuggestAt, AckAt, ReadyAt}
use Rattle.group_defs.specs.Process.{Lasts, Suggests, Acks, Readies, Setting, Pool, Process}
use Rattle.group_defs.specs.Certified.{is_signed, removed_rank, number_of_members}
use Rattle.group_defs.specs.Values.{choose, is_justified}
use Rattle.group_defs.specs.Due.{least_due}
use Rattle.pool_laws.specs.Least.{IsLeastBelow}
use Rattle.stmt_codec.specs.Views.{report}
use Rattle.own_place.specs.declared.own.Own.{Own}
use Rattle.own_place.specs.Owns.{IsOwnOf}
use Rattle.own_place.specs.Signed.{has_slot}
use Rattle.rule_laws.specs.Heard.{IsPool}
use Rattle.rule_laws.specs.Ranks.{acked, may_ready, may_last, may_suggest, suggested, is_ack_due}
use Rattle.rule_laws.proofs.Deputies.{last_is_least, ready_is_least, suggest_is_least, ack_is_least}
use Rattle.rule_laws.proofs.Numbers.{least-same}
use Rattle.ending_rules.proofs.Telling.{some-value, same-pool, member-is, outside, inside}
use Rattle.rank_rules.specs.Open.{is_ready_open, is_last_open, is_suggest_open, is_ack_open}

module _ (s : Setting) (p : Process) (h : Pool) (own : Own) (tells : IsOwnOf s p h own) where
  -- ---- Lasts

  last-signed : is_signed p (LastAt p.pool.view.number (removed_rank p.pool)) ≡ has_slot own.signed (LastAt h.view.number (removed_rank h))
  last-signed =
      tells.signed.slots (Last p.pool.view.number (removed_rank p.pool) None) refl
      ∙ ap (λ (k : Pool). has_slot own.signed (LastAt k.view.number (removed_rank k))) tells.pool

  may-last : may_last p ≡ is_last_open h own
  may-last = λ i. member-is s p h own tells i && nat_lt (tells.signed.greatest i) (removed_rank (tells.pool i)) && not (last-signed i)

  pub last-is : (b : Bool) → b ≡ is_last_open h own
      → least_due s p Lasts ≡ (if b then Some (Last h.view.number (removed_rank h) (report own.ready)) else None)
  last-is b e =
      last_is_least s p
      ∙ (λ i. if may-last i then Some (Last (tells.pool i).view.number (removed_rank (tells.pool i)) (tells.signed.last_ready i)) else None)
      ∙ ap (λ b. if b then Some (Last h.view.number (removed_rank h) (report own.ready)) else None) (sym e)

  -- ---- Readies

  ready-signed : (r : ℕ) → is_signed p (ReadyAt p.pool.view.number r) ≡ has_slot own.signed (ReadyAt h.view.number r)
  ready-signed r =
      tells.signed.slots (Ready p.pool.view.number r some-value) refl
      ∙ ap (λ (k : Pool). has_slot own.signed (ReadyAt k.view.number r)) tells.pool

  may-ready : (r : ℕ) → may_ready p r ≡ is_ready_open h own r
  may-ready r = λ i. is_some (acked (tells.pool i) r) && nat_le (tells.signed.greatest i) r && not (ready-signed r i)

  pub ready-is : IsPool h → (q : ℕ) → own.position ≡ Some q → (o : Option ℕ) → IsLeastBelow 16 (is_ready_open h own) o
      → least_due s p Readies ≡ option_and_then (λ r. option_map (Ready h.view.number r) (acked h r)) o
  ready-is pool q position o least =
      ready_is_least s p o (same-pool s p h own tells pool) (inside s p h own tells q position)
      (least-same 0 16 (is_ready_open h own) (may_ready p) o (λ k _ _. sym (may-ready k)) least)
      ∙ ap (λ (k : Pool). option_and_then (λ r. option_map (Ready k.view.number r) (acked k r)) o) tells.pool

  -- ---- Suggests

  suggest-signed : (r : ℕ) → is_signed p (SuggestAt p.pool.view.number r) ≡ has_slot own.signed (SuggestAt h.view.number r)
  suggest-signed r =
      tells.signed.slots (Suggest p.pool.view.number r some-value) refl
      ∙ ap (λ (k : Pool). has_slot own.signed (SuggestAt k.view.number r)) tells.pool

  may-suggest : (r : ℕ) → may_suggest p r ≡ is_suggest_open h own r
  may-suggest r = λ i. nat_le (tells.signed.greatest i) r && not (suggest-signed r i)

  pub suggest-is : (r : ℕ) → own.position ≡ Some r → (b : Bool) → b ≡ is_suggest_open h own r
      → least_due s p Suggests ≡ (if b then option_map (Suggest h.view.number r) (choose s h r) else None)
  suggest-is r position b e =
      suggest_is_least s p
      ∙ ap (option_and_then (λ r. if may_suggest p r then option_map (Suggest p.pool.view.number r) (choose s p.pool r) else None))
      (tells.position ∙ position)
      ∙ (λ i. if may-suggest r i then option_map (Suggest (tells.pool i).view.number r) (choose s (tells.pool i) r) else None)
      ∙ ap (λ b. if b then option_map (Suggest h.view.number r) (choose s h r) else None) (sym e)

  -- ---- Acks

  ack-signed : (r : ℕ) → is_signed p (AckAt p.pool.view.number r) ≡ has_slot own.signed (AckAt h.view.number r)
  ack-signed r =
      tells.signed.slots (Ack p.pool.view.number r some-value) refl
      ∙ ap (λ (k : Pool). has_slot own.signed (AckAt k.view.number r)) tells.pool

  ack-due : (q : ℕ) → own.position ≡ Some q → (r : ℕ)
      → is_ack_due s p r ≡ (is_ack_open h own r && is_some_and (suggested h r) (is_justified s h r))
  ack-due q position r =
      (λ i. (is_some (suggested (tells.pool i) r) && nat_le (tells.signed.greatest i) r && not (ack-signed r i))
      && is_some_and (suggested (tells.pool i) r) (is_justified s (tells.pool i) r))
      ∙ ap (λ b. (b && is_some (suggested h r) && nat_le own.rank r && not (has_slot own.signed (AckAt h.view.number r)))
      && is_some_and (suggested h r) (is_justified s h r)) (sym (ap is_some position))

  pub ack-is : IsPool h → (o : Option ℕ)
      → IsLeastBelow (number_of_members h) (λ r. is_ack_open h own r && is_some_and (suggested h r) (is_justified s h r)) o
      → least_due s p Acks ≡ option_and_then (λ r. option_map (Ack h.view.number r) (suggested h r)) o
  ack-is pool o least = go own.position refl o least
    where
      go : (q : Option ℕ) → own.position ≡ q → (o : Option ℕ)
          → IsLeastBelow (number_of_members h) (λ r. is_ack_open h own r && is_some_and (suggested h r) (is_justified s h r)) o
          → least_due s p Acks ≡ option_and_then (λ r. option_map (Ack h.view.number r) (suggested h r)) o
      go None e None least = outside s p h own tells Acks e
      go None e (Some r) least = absurd
          (let shut : (is_ack_open h own r && is_some_and (suggested h r) (is_justified s h r))
          ≡ false = ap (λ b. (b && is_some (suggested h r) && nat_le own.rank r && not (has_slot own.signed (AckAt h.view.number r)))
          && is_some_and (suggested h r) (is_justified s h r)) (ap is_some e) in both_ways _ shut least.2)
      go (Some q) e o least =
          ack_is_least s p o (same-pool s p h own tells pool) (inside s p h own tells q e)
          (subst (λ (k : Pool). IsLeastBelow (number_of_members k) (is_ack_due s p) o) (sym tells.pool)
          (least-same 0 (number_of_members h) (λ r. is_ack_open h own r && is_some_and (suggested h r) (is_justified s h r))
          (is_ack_due s p) o (λ k _ _. sym (ack-due q e k)) least))
          ∙ ap (λ (k : Pool). option_and_then (λ r. option_map (Ack k.view.number r) (suggested k r)) o) tells.pool
