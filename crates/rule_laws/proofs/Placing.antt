-- The least Place that is due.
use Rattle.std.proofs.Common.{◌≡◌, ℕ, ◌<◌, ◌≤◌, length, take, Option, Some, None, Bool, true, false, refl, sym, ap, ◌∙◌, subst, arith, slice_get}
use Rattle.std.specs.Prelude.{option_and_then, not, ◌&&◌, nat_le}
use Rattle.std.proofs.lemmas.Bool.{not-true}
use Rattle.group_defs.specs.Below.{is_some_and, Statement, Batch, Order, Place, PlaceAt, OrderAt, slot_of}
use Rattle.group_defs.specs.Views.{is_member}
use Rattle.group_defs.specs.Process.{Places, Setting, Process}
use Rattle.group_defs.specs.Certified.{heard_on, placed, messages, ordered, is_signed, is_ended}
use Rattle.group_defs.specs.Due.{may_sign, kind_of, rank_says, is_batch, follows, are_certified}
use Rattle.rule_laws.specs.Heard.{IsPool}
use Rattle.rule_laws.specs.Least.{may_at, IsNumbered}
use Rattle.rule_laws.specs.Placing.{managers_order, fits, is_place_open, PlaceIsLeast}
use Rattle.rule_laws.proofs.Hearing.{heard-is, rank-heard, heard-rank}
use Rattle.rule_laws.proofs.Numbers.{same-test, least-same, least_number}
use Rattle.rule_laws.proofs.Signable.{may-parts, may-now, made, may-made, numbered-made}
use Rattle.pool_laws.proofs.Tests.{and-first, and-second, both-true, some-and, then-some}

order-is : (st : Statement) (x k : ℕ) (b : Batch) → ordered st ≡ Some b → slot_of st ≡ OrderAt x k → st ≡ Order x k b
order-is (Order y j c) x k b e at = let y_is : y ≡ x = cc in let j_is : j ≡ k = cc in let c_is : c
    ≡ b = cc in λ i. Order (y_is i) (j_is i) (c_is i)
order-is _ x k b e at = absurd cc

module _ (s : Setting) (p : Process) (pool : IsPool p.pool) where
  abbrev x : ℕ
  x = p.pool.view.number

  abbrev pub place : ℕ → Batch → Statement
  place k b = Place x k b

  -- the manager's Order is the one that a Place answers
  order-heard : (k : ℕ) (b : Batch) → rank_says p 0 (Order x k b) ≡ true → managers_order p k ≡ Some b
  order-heard k b e = let at = rank-heard p.pool.view.members p.pool 0 (Order x k b) e in ap
      (option_and_then (λ manager. option_and_then ordered (heard_on p.pool manager (OrderAt x k)))) at.1 ∙ ap
      (option_and_then ordered) at.2

  heard-order : (k : ℕ) (b : Batch) → managers_order p k ≡ Some b
      → (m : ℕ) × (slice_get p.pool.view.members 0 ≡ Some m) × (heard_on p.pool m (OrderAt x k) ≡ Some (Order x k b))
  heard-order k b e =
      let m = then-some (λ manager. option_and_then ordered (heard_on p.pool manager (OrderAt x k)))
      (slice_get p.pool.view.members 0) b e in
      let st = then-some ordered (heard_on p.pool m.0 (OrderAt x k)) b m.2 in
      let at = heard-is p.pool pool m.0 (OrderAt x k) st.0 st.1 in
      (m.0, m.1, st.1 ∙ ap Some (order-is st.0 x k b st.2 at.at))

  fits-parts : (k : ℕ) (b : Batch) (said open_ : Bool)
      → (said && open_ && nat_le k (length (placed p.pool)) && is_batch b && follows (messages (take k (placed p.pool))) b
      && are_certified p.pool b) ≡ true → (said ≡ true) × (open_ ≡ true) × (fits p.pool k b ≡ true)
  fits-parts k b said open_ e = go said open_ (nat_le k (length (placed p.pool))) (is_batch b)
      (follows (messages (take k (placed p.pool))) b) (are_certified p.pool b) e
    where
      go : (a b c d e f : Bool) → (a && b && c && d && e && f) ≡ true → (a ≡ true) × (b ≡ true) × ((c && d && e && f) ≡ true)
      go a b c d e f all =
          let five = and-first (a && b && c && d && e) f all in
          let four = and-first (a && b && c && d) e five in
          let three = and-first (a && b && c) d four in
          let two = and-first (a && b) c three in (
            and-first a b two,
            and-second a b two,
            both-true _ _ (both-true _ _ (both-true _ _ (and-second (a && b) c three) (and-second (a && b && c) d four))
                (and-second (a && b && c && d) e five)) (and-second (a && b && c && d && e) f all),
          )

  fits-due : (k : ℕ) (b : Batch) (said open_ : Bool) → said ≡ true → open_ ≡ true → fits p.pool k b ≡ true
      → (said && open_ && nat_le k (length (placed p.pool)) && is_batch b && follows (messages (take k (placed p.pool))) b
      && are_certified p.pool b) ≡ true
  fits-due k b said open_ e f g = go said open_ (nat_le k (length (placed p.pool))) (is_batch b)
      (follows (messages (take k (placed p.pool))) b) (are_certified p.pool b) e f g
    where
      go : (a b c d e f : Bool) → a ≡ true → b ≡ true → (c && d && e && f) ≡ true → (a && b && c && d && e && f) ≡ true
      go a b c d e f said open_ all =
          let three = and-first (c && d && e) f all in
          let two = and-first (c && d) e three in
          both-true _ _ (both-true _ _ (both-true _ _ (both-true _ _ (both-true _ _ said open_) (and-first c d two)) (and-second c d two))
          (and-second (c && d) e three)) (and-second (c && d && e) f all)

  place-parts : (st : Statement) → may_sign s p st ≡ true → kind_of st ≡ Places
      → (k : ℕ) × (b : Batch) × (k < 1024) × (managers_order p k ≡ Some b) × (place k b ≡ st)
  place-parts (Place y k b) may is =
      let it = may-parts s p (Place y k b) may in
      let due = fits-parts k b (rank_says p 0 (Order y k b)) (not (is_ended p)) it.due in
      let here : rank_says p 0 (Order x k b) ≡ true = subst (λ y. rank_says p 0 (Order y k b) ≡ true) it.current due.0 in
      let at = rank-heard p.pool.view.members p.pool 0 (Order x k b) here in
      let far : k ≤ 1023 = (heard-is p.pool pool at.0 (OrderAt x k) (Order x k b) at.2).ranges.1 in
      (k, b, omega (arith, far), order-heard k b here, λ i. Place (sym it.current i) k b)
  place-parts _ may is = absurd cc

  pub places-numbered : IsNumbered s p Places (made place (managers_order p)) 1024
  places-numbered = numbered-made place (managers_order p) s p Places 4 1024 (λ k b. refl) (λ k b. refl) place-parts

  module _ (member : is_member p.pool.view p.me ≡ true) (open_ : is_ended p ≡ false) where
    place-now : (k : ℕ) (b : Batch) → managers_order p k ≡ Some b → is_signed p (PlaceAt x k) ≡ false → fits p.pool k b ≡ true
        → may_sign s p (place k b) ≡ true
    place-now k b at unsigned good = let said = heard-order k b at in may-now s p (place k b) (record {
      member = member;
      current = refl;
      unsigned = unsigned;
      due = fits-due k b (rank_says p 0 (Order x k b)) (not (is_ended p))
          (heard-rank p.pool.view.members p.pool 0 said.0 (Order x k b) said.1 said.2) (ap not open_) good;
    })

    may-place : (k : ℕ) → may_at s p (made place (managers_order p)) k ≡ is_place_open p k
    may-place k = may-made place (managers_order p) s p k ∙ same-test _ _ forth (back (managers_order p k) refl)
      where
        forth : is_some_and (managers_order p k) (λ b. may_sign s p (place k b)) ≡ true → is_place_open p k ≡ true
        forth may =
            let b = some-and (managers_order p k) (λ b. may_sign s p (place k b)) may in
            let it = may-parts s p (place k b.0) b.2 in
            both-true _ _ (ap not it.unsigned)
            (ap (λ o. is_some_and o (fits p.pool k)) b.1 ∙ (fits-parts k b.0 (rank_says p 0 (Order x k b.0)) (not (is_ended p)) it.due).2)

        back : (o : Option Batch) → managers_order p k ≡ o → (not (is_signed p (PlaceAt x k)) && is_some_and o (fits p.pool k)) ≡ true
            → is_some_and o (λ b. may_sign s p (place k b)) ≡ true
        back None e f = absurd (let no' = and-second (not (is_signed p (PlaceAt x k))) false f in cc)
        back (Some b) e f = place-now k b e (not-true _ (and-first (not (is_signed p (PlaceAt x k))) (fits p.pool k b) f))
            (and-second (not (is_signed p (PlaceAt x k))) (fits p.pool k b) f)

pub place_is_least : PlaceIsLeast
place_is_least s p o pool member open_ least = least_number s p Places _ 1024 o (places-numbered s p pool)
    (least-same 0 1024 (is_place_open p) _ o (λ k le lt. sym (may-place s p pool member open_ k)) least)
