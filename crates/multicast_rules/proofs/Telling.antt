-- What the own place tells of its process.
use Rattle.std.proofs.Common.{◌≡◌, ℕ, Option, Some, None, Bool, true, false, refl, sym, ◌∙◌}
use Rattle.group_defs.specs.Views.{View, is_member, rank_of}
use Rattle.group_defs.specs.Process.{Kind, Setting, Pool, Process}
use Rattle.group_defs.specs.Certified.{is_ended}
use Rattle.group_defs.specs.Due.{least_due}
use Rattle.pool_laws.proofs.Ranks.{rank-of-member}
use Rattle.rule_laws.proofs.Outside.{outsider_signs_none, ended_signs_none}
use Rattle.rule_laws.proofs.Ranks.{rank-at, at-member}
use Rattle.rule_laws.specs.Least.{is_of_open_view}
use Rattle.own_place.specs.declared.own.Own.{Own}
use Rattle.own_place.specs.Owns.{IsOwnOf}

-- one that has a rank is a member
pub ranked-member : (v : View) (m r : ℕ) → rank_of v m ≡ Some r → is_member v m ≡ true
ranked-member v m r e = at-member v m r (rank-at v m r e)

-- and one that has none is not
pub unranked : (v : View) (m : ℕ) → rank_of v m ≡ None → is_member v m ≡ false
unranked v m e = go (is_member v m) refl
  where
    go : (b : Bool) → is_member v m ≡ b → b ≡ false
    go true is = absurd (let r = rank-of-member v m is in let clash : None ≡ Some r.0 = sym e ∙ r.1 in cc)
    go false is = refl

-- so has a member
pub stranger-unranked : (v : View) (m : ℕ) → is_member v m ≡ false → rank_of v m ≡ None
stranger-unranked v m e = go (rank_of v m) refl
  where
    go : (o : Option ℕ) → rank_of v m ≡ o → o ≡ None
    go None is = refl
    go (Some r) is = absurd (let clash = sym e ∙ ranked-member v m r is in cc)

module _ (s : Setting) (p : Process) (h : Pool) (own : Own) (tells : IsOwnOf s p h own) where
  pub is-member : (r : ℕ) → own.position ≡ Some r → is_member p.pool.view p.me ≡ true
  is-member r e = ranked-member p.pool.view p.me r (tells.position ∙ e)

  -- without a position nothing is due
  pub outside : (kind : Kind) → own.position ≡ None → least_due s p kind ≡ None
  outside kind e = outsider_signs_none s p kind (unranked p.pool.view p.me (tells.position ∙ e))

  -- and behind the own End no Echo, Order, Place or Keep
  pub ended : (kind : Kind) → is_of_open_view kind ≡ true → own.ended ≡ true → least_due s p kind ≡ None
  ended kind is e = ended_signs_none s p kind (tells.signed.end ∙ e) is

  pub is-open : own.ended ≡ false → is_ended p ≡ false
  is-open e = tells.signed.end ∙ e
