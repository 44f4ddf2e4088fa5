-- The rules of a process are those that its place is asked.
use Rattle.std.proofs.Common.{◌≡◌, ℕ, length, List, Option, Some, None, Bool, true, false, refl, sym, ap, ◌∙◌, subst}
use Rattle.std.specs.Prelude.{◌&&◌, not, nat_lt, is_some, is_none, option_map, if◌then◌else◌}
use Rattle.byte_defs.specs.Members.{has}
use Rattle.message_defs.specs.Updates.{Update, Remove, Add, Renew, Value}
use Rattle.message_defs.specs.Spelling.{IsUpdate}
use Rattle.message_defs.specs.Statements.{Notify, End, NotifyAt}
use Rattle.group_defs.specs.Views.{View, is_member, rank_of, next_fault, is_possible}
use Rattle.group_defs.specs.Process.{Kind, Notifies, Ends, Setting, Pool, Process, keyed}
use Rattle.group_defs.specs.Certified.{is_signed, notified_updates, placed}
use Rattle.group_defs.specs.Due.{least_due}
use Rattle.pool_laws.specs.Least.{IsLeastBelow}
use Rattle.pool_laws.proofs.Ranks.{rank-of-member}
use Rattle.own_place.specs.declared.own.Own.{Own}
use Rattle.own_place.specs.Owns.{IsOwnOf}
use Rattle.own_place.specs.Signed.{has_slot}
use Rattle.rule_laws.specs.Heard.{IsPool}
use Rattle.rule_laws.specs.Perceived.{may_end, may_notify, update_at}
use Rattle.rule_laws.proofs.Notifying.{end_is_least, notify_is_least}
use Rattle.rule_laws.proofs.Numbers.{least-same}
use Rattle.rule_laws.proofs.Outside.{outsider_signs_none}
use Rattle.rule_laws.proofs.Ranks.{rank-at, at-member}
use Rattle.ending_rules.specs.declared.notifies.Perceived.{Perceived}
use Rattle.ending_rules.specs.Perceiving.{has_update, is_notify_open, IsPerceivedOf}

-- with the same keys the same updates are possible
pub possible-by : (keys others : List ℕ) → ((q : ℕ) → has keys q ≡ has others q) → (v : View) (u : Update)
    → is_possible keys v u ≡ is_possible others v u
possible-by keys others same v (Remove q) = refl
possible-by keys others same v (Add q) = ap (λ b. is_none (next_fault v (Add q)) && b) (same q)
possible-by keys others same v Renew = refl

-- a member is one who has a rank
pub member-some : (v : View) (m : ℕ) → is_member v m ≡ is_some (rank_of v m)
member-some v m = go (is_member v m) refl (rank_of v m) refl
  where
    go : (b : Bool) → is_member v m ≡ b → (o : Option ℕ) → rank_of v m ≡ o → b ≡ is_some o
    go true e None f = absurd (let r = rank-of-member v m e in let clash : Some r.0 ≡ None = sym r.1 ∙ f in cc)
    go true e (Some r) f = refl
    go false e None f = refl
    go false e (Some r) f = sym e ∙ at-member v m r (rank-at v m r f)

pub some-value : Value
some-value = record { update = Renew; cut = 0 }

module _ (s : Setting) (p : Process) (h : Pool) (own : Own) (tells : IsOwnOf s p h own) where
  pub same-pool : IsPool h → IsPool p.pool
  same-pool pool = subst IsPool (sym tells.pool) pool

  pub member-is : is_member p.pool.view p.me ≡ is_some own.position
  member-is = member-some p.pool.view p.me ∙ ap is_some tells.position

  -- one without a rank signs nothing
  pub outside : (kind : Kind) → own.position ≡ None → least_due s p kind ≡ None
  outside kind e = outsider_signs_none s p kind (member-is ∙ ap is_some e)

  pub inside : (r : ℕ) → own.position ≡ Some r → is_member p.pool.view p.me ≡ true
  inside r e = member-is ∙ ap is_some e

  -- ---- Ends

  may-end : may_end p ≡ (is_some own.position && nat_lt 0 (length (notified_updates h)) && not own.ended)
  may-end = λ i. member-is i && nat_lt 0 (length (notified_updates (tells.pool i))) && not (tells.signed.end i)

  pub end-is : (b : Bool) → b ≡ (is_some own.position && nat_lt 0 (length (notified_updates h)) && not own.ended)
      → least_due s p Ends ≡ (if b then Some (End h.view.number (length (placed h))) else None)
  end-is b e =
      end_is_least s p
      ∙ (λ i. if may-end i then Some (End (tells.pool i).view.number (length (placed (tells.pool i)))) else None)
      ∙ ap (λ b. if b then Some (End h.view.number (length (placed h))) else None) (sym e)

  -- ---- Notifies

  notify-signed : (u : Update) → is_signed p (NotifyAt p.pool.view.number u) ≡ has_slot own.signed (NotifyAt h.view.number u)
  notify-signed u =
      tells.signed.slots (Notify p.pool.view.number u) refl
      ∙ ap (λ (k : Pool). has_slot own.signed (NotifyAt k.view.number u)) tells.pool

  may-notify : (set : Perceived) → IsPerceivedOf set p → (i : ℕ) → may_notify s p i ≡ is_notify_open h own set i
  may-notify set perceived i =
      λ j. perceived (update_at i) j && possible j && not (notify-signed (update_at i) j)
    where
      possible : is_possible (keyed s) p.pool.view (update_at i) ≡ is_possible own.keyed h.view (update_at i)
      possible = possible-by (keyed s) own.keyed tells.keys p.pool.view (update_at i) ∙ ap
          (λ (k : Pool). is_possible own.keyed k.view (update_at i)) tells.pool

  pub notify-is : (set : Perceived) → IsPerceivedOf set p → ((u : Update) → has_update set u ≡ true → IsUpdate u) → (q : ℕ)
      → own.position ≡ Some q
      → (o : Option ℕ) → IsLeastBelow 129 (is_notify_open h own set) o
      → least_due s p Notifies ≡ option_map (λ i. Notify h.view.number (update_at i)) o
  notify-is set perceived range q position o least =
      notify_is_least s p o (inside q position) (λ u e. range u (sym (perceived u) ∙ e))
      (least-same 0 129 (is_notify_open h own set) (may_notify s p) o (λ k _ _. sym (may-notify set perceived k)) least)
      ∙ ap (λ (k : Pool). option_map (λ i. Notify k.view.number (update_at i)) o) tells.pool

  -- nothing is perceived
  pub notify-none : (set : Perceived) → IsPerceivedOf set p → ((u : Update) → has_update set u ≡ false) → least_due s p Notifies ≡ None
  notify-none set perceived none = go own.position refl
    where
      go : (o : Option ℕ) → own.position ≡ o → least_due s p Notifies ≡ None
      go None e = outside Notifies e
      go (Some q) e = notify-is set perceived (λ u f. absurd (let clash : true ≡ false = sym f ∙ none u in cc)) q e None
          (λ k _ _. ap (λ b. b && is_possible own.keyed h.view (update_at k)
          && not (has_slot own.signed (NotifyAt h.view.number (update_at k)))) (none (update_at k)))
