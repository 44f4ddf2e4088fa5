-- The least Ready, Last, Suggest and Ack that are due.
use Rattle.std.proofs.Common.{◌≡◌, inl, ℕ, zero, suc, ◌+◌, ◌-◌, ◌<◌, ◌≤◌, min, List, [], ◌∷◌, length, take, Option, Some, None, Bool, true, false, cond, refl, sym, ap, ◌∙◌, subst, arith, slice_get}
use Rattle.std.specs.Prelude.{option_and_then, option_map, if◌then◌else◌, not, ◌&&◌, ◌==◌, is_some, nat_lt, nat_le, take_while, slice_index_or, unwrap_or}
use Rattle.std.specs.List.{prefix_len}
use Rattle.std.proofs.lemmas.Bool.{both_ways, not-true, eq-eqb, eqb-true}
use native.Mathlib.Decide.{ℕ_discrete}
use Rattle.group_defs.specs.Below.{is_some_and, option_discrete, pair_discrete, Remove, Value, Value-discrete, Statement, Last, Suggest, Ack, Ready, LastAt, SuggestAt, AckAt, ReadyAt, slot_of, value_of}
use Rattle.group_defs.specs.Views.{is_member, rank_of}
use Rattle.group_defs.specs.Process.{Readies, Lasts, Suggests, Acks, Setting, Pool, Process}
use Rattle.group_defs.specs.Certified.{heard_on, number_of_members, is_certified, certified_on, is_notified, is_signed, own_rank, own_ready, removed_rank}
use Rattle.group_defs.specs.Values.{same_ready, choose, is_justified}
use Rattle.group_defs.specs.Due.{may_sign, kind_of, rank_says, same_value, is_of_rank, least_due}
use Rattle.rule_laws.specs.Heard.{IsPool}
use Rattle.pool_laws.specs.Least.{IsLeastBelow}
use Rattle.rule_laws.specs.Least.{may_at, IsNumbered}
use Rattle.rule_laws.specs.Ranks.{acked, may_ready, ReadyIsLeast, may_last, LastIsLeast, RemovedRankIs, may_suggest, SuggestIsLeast, suggested, is_ack_due, AckIsLeast}
use Rattle.rule_laws.proofs.Certified.{certified-on, certified-ranges}
use Rattle.rule_laws.proofs.Hearing.{heard-is, rank-heard, heard-rank}
use Rattle.rule_laws.proofs.Least.{none_of_all, least_of_all}
use Rattle.rule_laws.proofs.Numbers.{same-test, least-same, least_number}
use Rattle.rule_laws.proofs.Ranks.{rank-at, at-member}
use Rattle.rule_laws.proofs.Signable.{may-parts, may-now, made, may-made, numbered-made}
use Rattle.pool_laws.proofs.Heard.{certified_on-is}
use Rattle.pool_laws.proofs.Places.{slice_get-length}
use Rattle.pool_laws.proofs.Tests.{and-first, and-second, both-true, is-yes, some-and, some-is, then-some, yes-is}

-- ---- Last

module _ (s : Setting) (p : Process) where
  abbrev x : ℕ
  x = p.pool.view.number

  abbrev pub last : Statement
  last = Last x (removed_rank p.pool) (own_ready p)

  pub only-last : (st : Statement) → may_sign s p st ≡ true → kind_of st ≡ Lasts → (st ≡ last) × (may_last p ≡ true)
  only-last (Last y r ready) may is =
      let it = may-parts s p (Last y r ready) may in
      let both = and-first ((r == removed_rank p.pool) && nat_lt (own_rank p) r) (same_ready ready (own_ready p)) it.due in
      let r_is : r ≡ removed_rank p.pool = eqb-true r (removed_rank p.pool)
      (and-first (r == removed_rank p.pool) (nat_lt (own_rank p) r) both) in
      let ready_is : ready ≡ own_ready p = yes-is (option_discrete (pair_discrete ℕ_discrete Value-discrete) ready (own_ready p))
      (and-second ((r == removed_rank p.pool) && nat_lt (own_rank p) r) (same_ready ready (own_ready p)) it.due) in
      let y_is : y ≡ x = it.current in (
        (λ i. Last (y_is i) (r_is i) (ready_is i)),
        both-true _ _ (both-true _ _ it.member
            (subst (λ r. nat_lt (own_rank p) r ≡ true) r_is (and-second (r == removed_rank p.pool) (nat_lt (own_rank p) r) both)))
            (ap not (subst (λ e. is_signed p (LastAt e.0 e.1) ≡ false) (λ i. let at : ℕ × ℕ = (y_is i, r_is i) in at) it.unsigned)),
      )
  only-last _ may is = absurd cc

  last-now : may_last p ≡ true → may_sign s p last ≡ true
  last-now e =
      let first = and-first (is_member p.pool.view p.me && nat_lt (own_rank p) (removed_rank p.pool))
      (not (is_signed p (LastAt x (removed_rank p.pool)))) e in
      may-now s p last (record {
        member = and-first (is_member p.pool.view p.me) (nat_lt (own_rank p) (removed_rank p.pool)) first;
        current = refl;
        unsigned = not-true _ (and-second (is_member p.pool.view p.me && nat_lt (own_rank p) (removed_rank p.pool))
            (not (is_signed p (LastAt x (removed_rank p.pool)))) e);
        due = both-true _ _ (both-true _ _ (eq-eqb (removed_rank p.pool) (removed_rank p.pool) refl)
            (and-second (is_member p.pool.view p.me) (nat_lt (own_rank p) (removed_rank p.pool)) first))
            (is-yes (option_discrete (pair_discrete ℕ_discrete Value-discrete) (own_ready p) (own_ready p)) refl);
      })

pub last_is_least : LastIsLeast
last_is_least s p = go (may_last p) refl
  where
    go : (b : Bool) → may_last p ≡ b → least_due s p Lasts ≡ (if b then Some (last s p) else None)
    go true e = least_of_all s p (last s p) (last-now s p e) (λ other m is. inl ((only-last s p other m is).0))
    go false e = none_of_all s p Lasts (λ st is. never st is (may_sign s p st) refl)
      where
        never : (st : Statement) → kind_of st ≡ Lasts → (b : Bool) → may_sign s p st ≡ b → b ≡ false
        never st is true m = absurd (both_ways _ e ((only-last s p st m is).1))
        never st is false m = refl

-- how many members in front are to be removed
front : (test : ℕ → Bool) (ms : List ℕ) (o : Option ℕ) → IsLeastBelow (length ms) (λ r. not (test (slice_index_or ms r 0))) o
    → length (take_while test ms) ≡ unwrap_or o (length ms)
front test [] None least = refl
front test [] (Some k) least = absurd (let lt = least.1 in omega (arith, lt))
front test (m ∷ ms) o least = go (test m) refl o least (front test ms)
  where
    one-more : length (take (1 + prefix_len test ms) (m ∷ ms)) ≡ suc (length (take (prefix_len test ms) ms))
    one-more = let is : 1 + prefix_len test ms ≡ suc (prefix_len test ms) = omega arith in ap (λ n. length (take n (m ∷ ms))) is

    go : (b : Bool) → test m ≡ b → (o : Option ℕ) → IsLeastBelow (suc (length ms)) (λ r. not (test (slice_index_or (m ∷ ms) r 0))) o
        → ((o : Option ℕ) → IsLeastBelow (length ms) (λ r. not (test (slice_index_or ms r 0))) o
        → length (take_while test ms) ≡ unwrap_or o (length ms))
        → length (take (cond b (1 + prefix_len test ms) 0) (m ∷ ms)) ≡ unwrap_or o (suc (length ms))
    go true e None least rest = one-more ∙ ap suc (rest None (λ r le lt. least (suc r) (omega arith) (omega (arith, lt))))
    go true e (Some zero) least rest = absurd (let no' = least.2 in let is : not (test m) ≡ false = ap not e in both_ways _ is no')
    go true e (Some (suc k)) least rest = let far = least.1 in one-more ∙ ap suc
        (rest (Some k) (omega arith, omega (arith, far), least.2, λ j le lt. least.3 (suc j) (omega arith) (omega (arith, lt))))
    go false e None least rest = absurd (both_ways _ (least zero (omega arith) (omega arith)) (ap not e))
    go false e (Some zero) least rest = refl
    go false e (Some (suc k)) least rest = absurd (both_ways _ (least.3 zero (omega arith) (omega arith)) (ap not e))

pub removed_rank_is : RemovedRankIs
removed_rank_is h o least = ap (min (number_of_members h - 1)) (front (λ m. is_notified h (Remove m)) h.view.members o least)

-- ---- Suggest

module _ (s : Setting) (p : Process) where
  abbrev pub suggest : ℕ → Value → Statement
  suggest r v = Suggest p.pool.view.number r v

  abbrev pub suggestion : ℕ → Option Statement
  suggestion r = if may_suggest p r then option_map (suggest r) (choose s p.pool r) else None

  pub only-suggest : (st : Statement) → may_sign s p st ≡ true → kind_of st ≡ Suggests
      → (r : ℕ) × (rank_of p.pool.view p.me ≡ Some r) × (suggestion r ≡ Some st)
  only-suggest (Suggest y r v) may is =
      let it = may-parts s p (Suggest y r v) may in
      let both = and-first (is_of_rank p p.me r && nat_le (own_rank p) r) (is_some_and (choose s p.pool r) (same_value v)) it.due in
      let rank = some-and (rank_of p.pool.view p.me) (λ rank. rank == r) (and-first (is_of_rank p p.me r) (nat_le (own_rank p) r) both) in
      let chosen = some-and (choose s p.pool r) (same_value v)
      (and-second (is_of_rank p p.me r && nat_le (own_rank p) r) (is_some_and (choose s p.pool r) (same_value v)) it.due) in
      let v_is : chosen.0 ≡ v = sym (yes-is (Value-discrete v chosen.0) chosen.2) in
      let open_ : may_suggest p r ≡ true = both-true _ _ (and-second (is_of_rank p p.me r) (nat_le (own_rank p) r) both)
      (ap not (subst (λ y. is_signed p (SuggestAt y r) ≡ false) it.current it.unsigned)) in (
        r,
        rank.1 ∙ ap Some (eqb-true rank.0 r rank.2),
        ap (λ b. if b then option_map (suggest r) (choose s p.pool r) else None) open_ ∙ ap (option_map (suggest r)) chosen.1 ∙
            (λ i. Some (Suggest (sym it.current i) r (v_is i))),
      )
  only-suggest _ may is = absurd cc

  suggest-now : (r : ℕ) (st : Statement) → rank_of p.pool.view p.me ≡ Some r → suggestion r ≡ Some st
      → (may_sign s p st ≡ true) × (kind_of st ≡ Suggests)
  suggest-now r st rank e = go (may_suggest p r) refl (choose s p.pool r) refl e
    where
      go : (b : Bool) → may_suggest p r ≡ b → (o : Option Value) → choose s p.pool r ≡ o
          → (if b then option_map (suggest r) o else None) ≡ Some st → (may_sign s p st ≡ true) × (kind_of st ≡ Suggests)
      go false f o c e = absurd cc
      go true f None c e = absurd cc
      go true f (Some v) c e = subst (λ st. (may_sign s p st ≡ true) × (kind_of st ≡ Suggests)) (let is : suggest r v ≡ st = cc in is) (
        may-now s p (suggest r v) (record {
          member = at-member p.pool.view p.me r (rank-at p.pool.view p.me r rank);
          current = refl;
          unsigned = not-true _ (and-second (nat_le (own_rank p) r) (not (is_signed p (SuggestAt p.pool.view.number r))) f);
          due = both-true _ _ (both-true _ _ (ap (λ o. is_some_and o (λ rank. rank == r)) rank ∙ eq-eqb r r refl)
              (and-first (nat_le (own_rank p) r) (not (is_signed p (SuggestAt p.pool.view.number r))) f))
              (ap (λ o. is_some_and o (same_value v)) c ∙ is-yes (Value-discrete v v) refl);
        }),
        refl,
      )

pub suggest_is_least : SuggestIsLeast
suggest_is_least s p = go (rank_of p.pool.view p.me) refl
  where
    none : ((r : ℕ) → rank_of p.pool.view p.me ≡ Some r → suggestion s p r ≡ None) → least_due s p Suggests ≡ None
    none not = none_of_all s p Suggests (λ st is. never st is (may_sign s p st) refl)
      where
        never : (st : Statement) → kind_of st ≡ Suggests → (b : Bool) → may_sign s p st ≡ b → b ≡ false
        never st is true m = absurd (let it = only-suggest s p st m is in let clash : None ≡ Some st = sym (not it.0 it.1) ∙ it.2 in cc)
        never st is false m = refl

    at : (r : ℕ) → rank_of p.pool.view p.me ≡ Some r → (o : Option Statement) → suggestion s p r ≡ o → least_due s p Suggests ≡ o
    at r rank None e = none (λ r' rank'. let same : r
        ≡ r' = some-is r r' (rank_of p.pool.view p.me) rank rank' in ap (suggestion s p) (sym same) ∙ e)
    at r rank (Some st) e =
        let now = suggest-now s p r st rank e in
        ap (least_due s p) (sym now.1) ∙ least_of_all s p st now.0 (λ other m is. inl (
        let it = only-suggest s p other m (is ∙ now.1) in
        let same : r ≡ it.0 = some-is r it.0 (rank_of p.pool.view p.me) rank it.1 in
        let both : Some st ≡ Some other = sym e ∙ ap (suggestion s p) same ∙ it.2 in
        cc))

    go : (o : Option ℕ) → rank_of p.pool.view p.me ≡ o → least_due s p Suggests ≡ option_and_then (suggestion s p) o
    go None e = none (λ r rank. absurd (let clash : None ≡ Some r = sym e ∙ rank in cc))
    go (Some r) e = at r e (suggestion s p r) refl

-- ---- Ready

ack-is : (st : Statement) (x r : ℕ) (v : Value) → value_of st ≡ Some v → slot_of st ≡ AckAt x r → st ≡ Ack x r v
ack-is (Ack y q u) x r v e at = let y_is : y ≡ x = cc in let q_is : q ≡ r = cc in let u_is : u
    ≡ v = cc in λ i. Ack (y_is i) (q_is i) (u_is i)
ack-is _ x r v e at = absurd cc

suggest-is : (st : Statement) (x r : ℕ) (v : Value) → value_of st ≡ Some v → slot_of st ≡ SuggestAt x r → st ≡ Suggest x r v
suggest-is (Suggest y q u) x r v e at = let y_is : y ≡ x = cc in let q_is : q ≡ r = cc in let u_is : u
    ≡ v = cc in λ i. Suggest (y_is i) (q_is i) (u_is i)
suggest-is _ x r v e at = absurd cc

-- the certified Ack of a rank is the one of its value
pub acked-certified : (h : Pool) (r : ℕ) (v : Value) → acked h r ≡ Some v → is_certified h (Ack h.view.number r v) ≡ true
acked-certified h r v e =
    let st = then-some value_of (certified_on h (AckAt h.view.number r)) v e in
    let is = certified_on-is h (AckAt h.view.number r) st.0 st.1 in
    subst (λ st. is_certified h st ≡ true) (ack-is st.0 h.view.number r v st.2 is.1) is.0

pub certified-acked : (h : Pool) → IsPool h → (r : ℕ) (v : Value) → is_certified h (Ack h.view.number r v) ≡ true → acked h r ≡ Some v
certified-acked h pool r v e = ap (option_and_then value_of) (certified-on h pool (Ack h.view.number r v) e)

module _ (s : Setting) (p : Process) (pool : IsPool p.pool) (member : is_member p.pool.view p.me ≡ true) where
  abbrev pub ready : ℕ → Value → Statement
  ready r v = Ready p.pool.view.number r v

  ready-parts : (st : Statement) → may_sign s p st ≡ true → kind_of st ≡ Readies
      → (r : ℕ) × (v : Value) × (r < 16) × (acked p.pool r ≡ Some v) × (ready r v ≡ st)
  ready-parts (Ready y r v) may is =
      let it = may-parts s p (Ready y r v) may in
      let certified : is_certified p.pool (Ack p.pool.view.number r v)
      ≡ true = subst (λ y. is_certified p.pool (Ack y r v) ≡ true) it.current
      (and-first (is_certified p.pool (Ack y r v)) (nat_le (own_rank p) r) it.due) in
      let far : r ≤ 15 = (certified-ranges p.pool pool (Ack p.pool.view.number r v) certified).1 in
      (r, v, omega (arith, far), certified-acked p.pool pool r v certified, λ i. Ready (sym it.current i) r v)
  ready-parts _ may is = absurd cc

  ready-now : (r : ℕ) (v : Value) → acked p.pool r ≡ Some v → nat_le (own_rank p) r ≡ true
      → is_signed p (ReadyAt p.pool.view.number r) ≡ false → may_sign s p (ready r v) ≡ true
  ready-now r v at rank unsigned = may-now s p (ready r v)
      (record { member = member; current = refl; unsigned = unsigned; due = both-true _ _ (acked-certified p.pool r v at) rank })

  may-ready-at : (r : ℕ) → may_at s p (made ready (acked p.pool)) r ≡ may_ready p r
  may-ready-at r = may-made ready (acked p.pool) s p r ∙ same-test _ _ forth (back (acked p.pool r) refl)
    where
      forth : is_some_and (acked p.pool r) (λ v. may_sign s p (ready r v)) ≡ true → may_ready p r ≡ true
      forth may =
          let v = some-and (acked p.pool r) (λ v. may_sign s p (ready r v)) may in
          let it = may-parts s p (ready r v.0) v.2 in
          both-true _ _ (both-true _ _ (ap is_some v.1)
          (and-second (is_certified p.pool (Ack p.pool.view.number r v.0)) (nat_le (own_rank p) r) it.due)) (ap not it.unsigned)

      back : (o : Option Value) → acked p.pool r ≡ o
          → (is_some o && nat_le (own_rank p) r && not (is_signed p (ReadyAt p.pool.view.number r))) ≡ true
          → is_some_and o (λ v. may_sign s p (ready r v)) ≡ true
      back None e f = absurd cc
      back (Some v) e f = ready-now r v e (and-first (nat_le (own_rank p) r) (not (is_signed p (ReadyAt p.pool.view.number r))) f)
          (not-true _ (and-second (nat_le (own_rank p) r) (not (is_signed p (ReadyAt p.pool.view.number r))) f))

  pub ready-numbered : IsNumbered s p Readies (made ready (acked p.pool)) 16
  ready-numbered = numbered-made ready (acked p.pool) s p Readies 11 16 (λ r v. refl) (λ r v. refl) ready-parts

pub ready_is_least : ReadyIsLeast
ready_is_least s p o pool member least = least_number s p Readies (made (ready s p pool member) (acked p.pool)) 16 o
    (ready-numbered s p pool member) (least-same 0 16 (may_ready p) _ o (λ r le lt. sym (may-ready-at s p pool member r)) least)

-- ---- Ack

module _ (s : Setting) (p : Process) (pool : IsPool p.pool) (member : is_member p.pool.view p.me ≡ true) where
  abbrev pub ack : ℕ → Value → Statement
  ack r v = Ack p.pool.view.number r v

  suggested-heard : (r : ℕ) (v : Value) → suggested p.pool r ≡ Some v → rank_says p r (Suggest p.pool.view.number r v) ≡ true
  suggested-heard r v e =
      let m = then-some (λ m. option_and_then value_of (heard_on p.pool m (SuggestAt p.pool.view.number r)))
      (slice_get p.pool.view.members r) v e in
      let st = then-some value_of (heard_on p.pool m.0 (SuggestAt p.pool.view.number r)) v m.2 in
      let at = heard-is p.pool pool m.0 (SuggestAt p.pool.view.number r) st.0 st.1 in
      heard-rank p.pool.view.members p.pool r m.0 (Suggest p.pool.view.number r v) m.1
      (st.1 ∙ ap Some (suggest-is st.0 p.pool.view.number r v st.2 at.at))

  ack-tests : (y r : ℕ) (v : Value) → (rank_says p r (Suggest y r v) && nat_le (own_rank p) r && is_justified s p.pool r v) ≡ true
      → (rank_says p r (Suggest y r v) ≡ true) × (nat_le (own_rank p) r ≡ true) × (is_justified s p.pool r v ≡ true)
  ack-tests y r v e =
      let both = and-first (rank_says p r (Suggest y r v) && nat_le (own_rank p) r) (is_justified s p.pool r v) e in (
        and-first (rank_says p r (Suggest y r v)) (nat_le (own_rank p) r) both,
        and-second (rank_says p r (Suggest y r v)) (nat_le (own_rank p) r) both,
        and-second (rank_says p r (Suggest y r v) && nat_le (own_rank p) r) (is_justified s p.pool r v) e,
      )

  ack-parts : (st : Statement) → may_sign s p st ≡ true → kind_of st ≡ Acks
      → (r : ℕ) × (v : Value) × (r < number_of_members p.pool) × (suggested p.pool r ≡ Some v) × (ack r v ≡ st)
  ack-parts (Ack y r v) may is =
      let it = may-parts s p (Ack y r v) may in
      let said : rank_says p r (Suggest p.pool.view.number r v)
      ≡ true = subst (λ y. rank_says p r (Suggest y r v) ≡ true) it.current (ack-tests y r v it.due).0 in
      let at = rank-heard p.pool.view.members p.pool r (Suggest p.pool.view.number r v) said in (
        r,
        v,
        slice_get-length p.pool.view.members r at.0 at.1,
        ap (option_and_then (λ m. option_and_then value_of (heard_on p.pool m (SuggestAt p.pool.view.number r)))) at.1 ∙ ap
            (option_and_then value_of) at.2,
        λ i. Ack (sym it.current i) r v,
      )
  ack-parts _ may is = absurd cc

  ack-now : (r : ℕ) (v : Value) → suggested p.pool r ≡ Some v → nat_le (own_rank p) r ≡ true
      → is_signed p (AckAt p.pool.view.number r) ≡ false → is_justified s p.pool r v ≡ true → may_sign s p (ack r v) ≡ true
  ack-now r v at rank unsigned good = may-now s p (ack r v)
      (record {
        member = member;
        current = refl;
        unsigned = unsigned;
        due = both-true _ _ (both-true _ _ (suggested-heard r v at) rank) good;
      })

  may-ack-at : (r : ℕ) → may_at s p (made ack (suggested p.pool)) r ≡ is_ack_due s p r
  may-ack-at r = may-made ack (suggested p.pool) s p r ∙ same-test _ _ forth (back (suggested p.pool r) refl)
    where
      forth : is_some_and (suggested p.pool r) (λ v. may_sign s p (ack r v)) ≡ true → is_ack_due s p r ≡ true
      forth may =
          let v = some-and (suggested p.pool r) (λ v. may_sign s p (ack r v)) may in
          let it = may-parts s p (ack r v.0) v.2 in
          let tests = ack-tests p.pool.view.number r v.0 it.due in
          both-true _ _ (both-true _ _ (both-true _ _ (ap is_some v.1) tests.1) (ap not it.unsigned))
          (ap (λ o. is_some_and o (is_justified s p.pool r)) v.1 ∙ tests.2)

      back : (o : Option Value) → suggested p.pool r ≡ o
          → (is_some o && nat_le (own_rank p) r && not (is_signed p (AckAt p.pool.view.number r))
          && is_some_and o (is_justified s p.pool r))
          ≡ true → is_some_and o (λ v. may_sign s p (ack r v)) ≡ true
      back None e f = absurd cc
      back (Some v) e f =
          let first = and-first (nat_le (own_rank p) r && not (is_signed p (AckAt p.pool.view.number r))) (is_justified s p.pool r v) f in
          ack-now r v e (and-first (nat_le (own_rank p) r) (not (is_signed p (AckAt p.pool.view.number r))) first)
          (not-true _ (and-second (nat_le (own_rank p) r) (not (is_signed p (AckAt p.pool.view.number r))) first))
          (and-second (nat_le (own_rank p) r && not (is_signed p (AckAt p.pool.view.number r))) (is_justified s p.pool r v) f)

  pub ack-numbered : IsNumbered s p Acks (made ack (suggested p.pool)) (number_of_members p.pool)
  ack-numbered = numbered-made ack (suggested p.pool) s p Acks 10 (number_of_members p.pool) (λ r v. refl) (λ r v. refl) ack-parts

pub ack_is_least : AckIsLeast
ack_is_least s p o pool member least = least_number s p Acks (made (ack s p pool member) (suggested p.pool))
    (number_of_members p.pool) o (ack-numbered s p pool member)
    (least-same 0 (number_of_members p.pool) (is_ack_due s p) _ o (λ r le lt. sym (may-ack-at s p pool member r)) least)
