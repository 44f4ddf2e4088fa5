-- The least Notify and the End that are due.
use Rattle.std.proofs.Common.{◌≡◌, inl, inr, ℕ, ◌+◌, ◌-◌, ◌<◌, ◌≤◌, List, [], ◌∷◌, length, Option, Some, None, Bool, true, false, refl, sym, ap, ◌∙◌, subst, arith}
use Rattle.std.specs.Prelude.{option_and_then, option_map, if◌then◌else◌, not, ◌&&◌, ◌||◌, ◌==◌, nat_lt, filter_map}
use Rattle.std.proofs.lemmas.Bool.{both_ways, not-true, cases_lt, ltb-true, lt-ltb, le-ltb, eq-eqb, eqb-true}
use Rattle.group_defs.specs.Below.{is_some_and, numbers_below, IsUpdate, IsClaim, IsStatement, Update, Remove, Add, Renew, update_numbers, Statement, Claim, Notify, End, NotifyAt, EndAt}
use Rattle.group_defs.specs.Views.{is_member, faulty}
use Rattle.group_defs.specs.Process.{Notifies, Ends, Setting, Pool, Process}
use Rattle.group_defs.specs.Certified.{backers, says, number_of_members, is_notified, notified_updates, update_said, placed, is_signed}
use Rattle.group_defs.specs.Due.{is_perceived, may_sign, due_numbers, kind_of, least_due}
use Rattle.rule_laws.specs.Heard.{IsPool}
use Rattle.pool_laws.specs.Least.{IsLeastBelow}
use Rattle.rule_laws.specs.Least.{may_at, IsNumbered}
use Rattle.rule_laws.specs.Perceived.{update_at, may_notify, PerceivesInRange, NotifyIsLeast, may_end, EndIsLeast, NotifiedIsFound}
use Rattle.rule_laws.proofs.Least.{none_of_all, least_of_all}
use Rattle.rule_laws.proofs.Numbers.{same-test, least-same, least_number}
use Rattle.rule_laws.proofs.Signable.{may-parts, may-now}
use Rattle.pool_laws.proofs.Heard.{heard-says}
use Rattle.pool_laws.proofs.Members.{Mem, All-mem, filter-mem, filter_map-mem, mem-filter, mem-filter_map, some-mem, mem-some}
use Rattle.pool_laws.proofs.Tests.{and-first, and-second, both-true}

-- ---- updates by number

removes : (p : ℕ) → p < 64 → update_at p ≡ Remove p
removes p lt = ap (λ b. if b then Remove p else (if nat_lt p 128 then Add (p - 64) else Renew)) (lt-ltb p 64 lt)

adds : (p : ℕ) → p < 64 → update_at (p + 64) ≡ Add p
adds p lt =
    let back : (p + 64) - 64 ≡ p = omega arith in
    ap (λ b. if b then Remove (p + 64) else (if nat_lt (p + 64) 128 then Add ((p + 64) - 64) else Renew)) (le-ltb (p + 64) 64 (omega arith))
    ∙ ap (λ b. if b then Add ((p + 64) - 64) else Renew) (lt-ltb (p + 64) 128 (omega (arith, lt))) ∙ ap Add back

-- the number of an update
pub numbered-update : (u : Update) → IsUpdate u → (i : ℕ) × (i < 129) × (update_at i ≡ u)
numbered-update (Remove p) le = (p, omega (arith, le), removes p (omega (arith, le)))
numbered-update (Add p) le = (p + 64, omega (arith, le), adds p (omega (arith, le)))
numbered-update Renew le = (128, omega arith, refl)

-- what kind of an update has this number
data Third (i : ℕ) : Type 0 where
  removal : i < 64 → update_at i ≡ Remove i → Third i
  addition : 64 ≤ i → i < 128 → update_at i ≡ Add (i - 64) → Third i
  renewal : 128 ≤ i → update_at i ≡ Renew → Third i

third : (i : ℕ) → Third i
third i = elim (cases_lt i 64) [
  | inl lt ↦ removal lt (removes i lt)
  | inr ge ↦ elim (cases_lt i 128) [
    | inl lt ↦ addition ge lt (ap (λ b. if b then Remove i else (if nat_lt i 128 then Add (i - 64) else Renew))
        (le-ltb i 64 ge) ∙ ap (λ b. if b then Add (i - 64) else Renew) (lt-ltb i 128 lt))
    | inr far ↦ renewal far (ap (λ b. if b then Remove i else (if nat_lt i 128 then Add (i - 64) else Renew))
        (le-ltb i 64 ge) ∙ ap (λ b. if b then Add (i - 64) else Renew) (le-ltb i 128 far))
  ]
]

-- of two updates the one of lower number stands before the other
notify-below : (x : ℕ) (u w : Update) → numbers_below (update_numbers u) (update_numbers w) ≡ true
    → numbers_below (6 ∷ x ∷ update_numbers u) (6 ∷ x ∷ update_numbers w) ≡ true
notify-below x u w below = go (x == x) (eq-eqb x x refl) (nat_lt x x)
  where
    go : (b : Bool) → b ≡ true → (c : Bool) → (c || (b && numbers_below (update_numbers u) (update_numbers w))) ≡ true
    go true e true = refl
    go true e false = below
    go false e c = absurd cc

second-below : (a i j : ℕ) → i < j → numbers_below (a ∷ i ∷ []) (a ∷ j ∷ []) ≡ true
second-below a i j lt = go (nat_lt a a) (a == a) (eq-eqb a a refl) (nat_lt i j) (lt-ltb i j lt)
  where
    go : (e f : Bool) → f ≡ true → (g : Bool) → g ≡ true → (e || (f && (g || ((i == j) && false)))) ≡ true
    go true f is g is' = refl
    go false f is g is' = cc

pub updates-rise : (i j : ℕ) → i < j → j < 129 → numbers_below (update_numbers (update_at i)) (update_numbers (update_at j)) ≡ true
updates-rise i j lt few = go (third i) (third j)
  where
    Below : Update → Update → Type 0
    Below u w = numbers_below (update_numbers u) (update_numbers w) ≡ true

    put : (u w : Update) → update_at i ≡ u → update_at j ≡ w → numbers_below (update_numbers u) (update_numbers w) ≡ true
        → numbers_below (update_numbers (update_at i)) (update_numbers (update_at j)) ≡ true
    put u w e f below = subst (λ u. numbers_below (update_numbers u) (update_numbers (update_at j)) ≡ true) (sym e)
        (subst (λ w. numbers_below (update_numbers u) (update_numbers w) ≡ true) (sym f) below)

    go : Third i → Third j → numbers_below (update_numbers (update_at i)) (update_numbers (update_at j)) ≡ true
    go (removal a e) (removal b f) = put (Remove i) (Remove j) e f (second-below 1 i j lt)
    go (removal a e) (addition b c f) = put (Remove i) (Add (j - 64)) e f refl
    go (removal a e) (renewal b f) = put (Remove i) Renew e f refl
    go (addition a b e) (removal c f) = absurd (omega (arith, a, c, lt))
    go (addition a b e) (addition c d f) = put (Add (i - 64))
        (Add (j - 64)) e f (second-below 2 (i - 64) (j - 64) (omega (arith, a, b, c, d, lt)))
    go (addition a b e) (renewal c f) = put (Add (i - 64)) Renew e f refl
    go (renewal a e) (removal c f) = absurd (omega (arith, a, c, lt))
    go (renewal a e) (addition c d f) = absurd (omega (arith, a, d, lt))
    go (renewal a e) (renewal c f) = absurd (omega (arith, a, c, lt, few))

-- ---- Notify

module _ (s : Setting) (p : Process) (member : is_member p.pool.view p.me ≡ true) (in_range : PerceivesInRange p) where
  abbrev x : ℕ
  x = p.pool.view.number

  -- beyond the last update there is none
  abbrev notify : ℕ → Option Statement
  notify i = if nat_lt i 129 then Some (Notify x (update_at i)) else None

  notify-is : (i : ℕ) (st : Statement) → notify i ≡ Some st → (i < 129) × (Notify x (update_at i) ≡ st)
  notify-is i st e = go (nat_lt i 129) refl e
    where
      go : (b : Bool) → nat_lt i 129 ≡ b → (let it : Option Statement = if b then Some (Notify x (update_at i)) else None in it ≡ Some st)
          → (i < 129) × (Notify x (update_at i) ≡ st)
      go true f e = (ltb-true i 129 f, cc)
      go false f e = absurd cc

  notify-at : (i : ℕ) → i < 129 → notify i ≡ Some (Notify x (update_at i))
  notify-at i lt = ap (λ b. if b then Some (Notify x (update_at i)) else None) (lt-ltb i 129 lt)

  notify-parts : (st : Statement) → may_sign s p st ≡ true → kind_of st ≡ Notifies → (i : ℕ) × (i < 129) × (notify i ≡ Some st)
  notify-parts (Notify y u) may is =
      let it = may-parts s p (Notify y u) may in
      let perceived : is_perceived p (x, u) ≡ true = subst (λ y. is_perceived p (y, u) ≡ true) it.current (and-first _ _ it.due) in
      let at = numbered-update u (in_range u perceived) in
      (at.0, at.1, notify-at at.0 at.1 ∙ (λ i. Some (Notify (sym it.current i) (at.2 i))))
  notify-parts _ may is = absurd cc

  notify-numbered : IsNumbered s p Notifies notify 129
  notify-numbered = record {
    kinds = λ i st e. ap kind_of (sym (notify-is i st e).1);
    rising = λ i j lt a b at at'.
        let one = notify-is i a at in
        let two = notify-is j b at' in
        subst (λ a. numbers_below (due_numbers p.pool.view a) (due_numbers p.pool.view b) ≡ true) one.1
        (subst (λ b. numbers_below (due_numbers p.pool.view (Notify x (update_at i))) (due_numbers p.pool.view b) ≡ true) two.1
        (notify-below x (update_at i) (update_at j) (updates-rise i j lt two.0)));
    whole = notify-parts;
  }

  may-notify-at : (i : ℕ) → i < 129 → may_at s p notify i ≡ may_notify s p i
  may-notify-at i lt = ap (λ o. is_some_and o (may_sign s p)) (notify-at i lt) ∙ same-test _ _ forth back
    where
      forth : may_sign s p (Notify x (update_at i)) ≡ true → may_notify s p i ≡ true
      forth may = let it = may-parts s p (Notify x (update_at i)) may in both-true _ _ it.due (ap not it.unsigned)

      back : may_notify s p i ≡ true → may_sign s p (Notify x (update_at i)) ≡ true
      back e = may-now s p (Notify x (update_at i))
          (record {
            member = member;
            current = refl;
            unsigned = not-true _ (and-second _ (not (is_signed p (NotifyAt x (update_at i)))) e);
            due = and-first _ (not (is_signed p (NotifyAt x (update_at i)))) e;
          })

pub notify_is_least : NotifyIsLeast
notify_is_least s p o member in_range least = least_number s p Notifies (notify s p member in_range) 129 o
    (notify-numbered s p member in_range)
    (least-same 0 129 (may_notify s p) _ o (λ i le lt. sym (may-notify-at s p member in_range i lt)) least) ∙ go o least
  where
    go : (o : Option ℕ) → IsLeastBelow 129 (may_notify s p) o
        → option_and_then (notify s p member in_range) o ≡ option_map (λ i. Notify p.pool.view.number (update_at i)) o
    go None least = refl
    go (Some i) least = notify-at s p member in_range i least.1

-- ---- End

module _ (s : Setting) (p : Process) where
  abbrev pub end : Statement
  end = End p.pool.view.number (length (placed p.pool))

  pub only-end : (st : Statement) → may_sign s p st ≡ true → kind_of st ≡ Ends → (st ≡ end) × (may_end p ≡ true)
  only-end (End y k) may is =
      let it = may-parts s p (End y k) may in
      let k_is : k ≡ length (placed p.pool) = eqb-true k (length (placed p.pool))
      (and-second (nat_lt 0 (length (notified_updates p.pool))) (k == length (placed p.pool)) it.due) in (
        (λ i. End (it.current i) (k_is i)),
        both-true _ _ (both-true _ _ it.member
            (and-first (nat_lt 0 (length (notified_updates p.pool))) (k == length (placed p.pool)) it.due))
            (ap not (subst (λ y. is_signed p (EndAt y) ≡ false) it.current it.unsigned)),
      )
  only-end _ may is = absurd cc

  end-now : may_end p ≡ true → may_sign s p end ≡ true
  end-now e =
      let first = and-first (is_member p.pool.view p.me && nat_lt 0 (length (notified_updates p.pool)))
      (not (is_signed p (EndAt p.pool.view.number))) e in
      may-now s p end (record {
        member = and-first (is_member p.pool.view p.me) (nat_lt 0 (length (notified_updates p.pool))) first;
        current = refl;
        unsigned = not-true _ (and-second (is_member p.pool.view p.me && nat_lt 0 (length (notified_updates p.pool)))
            (not (is_signed p (EndAt p.pool.view.number))) e);
        due = both-true _ _ (and-second (is_member p.pool.view p.me) (nat_lt 0 (length (notified_updates p.pool))) first)
            (eq-eqb (length (placed p.pool)) (length (placed p.pool)) refl);
      })

pub end_is_least : EndIsLeast
end_is_least s p = go (may_end p) refl
  where
    go : (b : Bool) → may_end p ≡ b → least_due s p Ends ≡ (if b then Some (end s p) else None)
    go true e = least_of_all s p (end s p) (end-now s p e) (λ other m is. inl ((only-end s p other m is).0))
    go false e = none_of_all s p Ends (λ st is. never st is (may_sign s p st) refl)
      where
        never : (st : Statement) → kind_of st ≡ Ends → (b : Bool) → may_sign s p st ≡ b → b ≡ false
        never st is true m = absurd (both_ways _ e ((only-end s p st m is).1))
        never st is false m = refl

-- ---- notified updates

update-is : (st : Statement) (u : Update) → update_said st ≡ Some u → (y : ℕ) × (st ≡ Notify y u)
update-is (Notify y w) u e = (y, let same : w ≡ u = cc in λ i. Notify y (same i))
update-is _ u e = absurd cc

pub notified-heard : (h : Pool) (u : Update) → is_notified h u ≡ true → Mem u (notified_updates h)
notified-heard h u e =
    let st : Statement = Notify h.view.number u in
    let many : faulty (number_of_members h) < length (backers h st) = ltb-true (faulty (number_of_members h)) (length (backers h st)) e in
    let backer = some-mem (backers h st) (omega (arith, many)) in
    let said = heard-says h st backer.0 (filter-mem (says h st) h.view.members backer.0 backer.1).1 in
    mem-filter (is_notified h) (filter_map (λ (c : Claim). update_said c.statement) h.heard) u
    (mem-filter_map (λ (c : Claim). update_said c.statement) h.heard said.0 u said.1 (ap update_said said.3)) e

pub heard-notified : (h : Pool) → IsPool h → (u : Update) → Mem u (notified_updates h) → (is_notified h u ≡ true) × IsUpdate u
heard-notified h pool u m =
    let at = filter-mem (is_notified h) (filter_map (λ (c : Claim). update_said c.statement) h.heard) u m in
    let c = filter_map-mem (λ (c : Claim). update_said c.statement) h.heard u at.0 in
    let is = update-is c.0.statement u c.2 in
    (at.1, (subst IsStatement is.1 (All-mem IsClaim h.heard c.0 pool.in_range c.1).1).1)

pub notified_is_found : NotifiedIsFound
notified_is_found h None pool none = le-ltb 0 (length (notified_updates h))
    (empty (notified_updates h) (λ u m. let at = heard-notified h pool u m in let i = numbered-update u at.1 in both_ways _
    (none i.0 (omega arith) i.1) (ap (is_notified h) i.2 ∙ at.0)))
  where
    empty : (us : List Update) → ((u : Update) → Mem u us → ⊥) → length us ≤ 0
    empty [] never = omega arith
    empty (u ∷ us) never = absurd (never u (inl refl))
notified_is_found h (Some i) pool least = lt-ltb 0 (length (notified_updates h))
    (mem-some (notified_updates h) (update_at i) (notified-heard h (update_at i) least.2))
