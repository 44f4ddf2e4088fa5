-- Of a kind, the statements that may be signed have each a place of their own in the order of what is due.
use Rattle.std.proofs.Common.{◌≡◌, ℕ, List, [], ◌∷◌, Option, Some, None, Bool, true, false, refl, sym, ap, ◌∙◌, subst, arith, slice_get}
use Rattle.std.specs.Prelude.{Contains, ◌&&◌, ◌==◌, nat_lt, unwrap_or}
use Rattle.std.proofs.lemmas.Bool.{both_ways, ltb-false, eq-eqb}
use Rattle.group_defs.specs.Below.{numbers_below, Update, Remove, Add, Renew, update_numbers, Statement, Init, Notify, InitAt}
use Rattle.group_defs.specs.Views.{rank_of}
use Rattle.group_defs.specs.Process.{Kind, Inits, Echoes, Orders, Places, Keeps, Notifies, Ends, Readies, Lasts, Suggests, Acks, Setting, Process}
use Rattle.group_defs.specs.Certified.{heard_on}
use Rattle.group_defs.specs.Due.{may_sign, due_numbers, kind_of, least_due, offers}
use Rattle.rule_laws.specs.Heard.{IsPool}
use Rattle.rule_laws.specs.Least.{IsNumbered, EachHasItsPlace, LeastIsFirst}
use Rattle.rule_laws.proofs.Deputies.{only-last, only-suggest, suggestion, ready-numbered, ack-numbered}
use Rattle.rule_laws.proofs.Echoing.{echo, echo-parts, init-numbered}
use Rattle.rule_laws.proofs.Hearing.{heard-is}
use Rattle.rule_laws.proofs.Keeping.{keeps-numbered}
use Rattle.rule_laws.proofs.Least.{given, nothing}
use Rattle.rule_laws.proofs.LeastIsDue.{below-asym, least_is_due}
use Rattle.rule_laws.proofs.Notifying.{only-end}
use Rattle.rule_laws.proofs.Offered.{each_due_is_offered}
use Rattle.rule_laws.proofs.Ordering.{only-order}
use Rattle.rule_laws.proofs.Placing.{places-numbered}
use Rattle.rule_laws.proofs.Signable.{may-parts}
use Rattle.pool_laws.proofs.Places.{Compared, ahead, behind, level, compared}
use Rattle.pool_laws.proofs.Ranks.{rank-of-member}
use Rattle.pool_laws.proofs.Tests.{neither, some-is}

not-below-itself : (ns : List ℕ) → numbers_below ns ns ≡ true → ⊥
not-below-itself ns e = both_ways _ (below-asym ns ns e) e

numbered-once : (s : Setting) (p : Process) (kind : Kind) (at : ℕ → Option Statement) (n : ℕ) → IsNumbered s p kind at n → (a b : Statement)
    → may_sign s p a ≡ true → may_sign s p b ≡ true → kind_of a ≡ kind → kind_of b ≡ kind
    → due_numbers p.pool.view a ≡ due_numbers p.pool.view b → a ≡ b
numbered-once s p kind at n numbered a b may may' k k' same = let i = numbered.whole a may k in let j = numbered.whole b may' k' in go i.0
    j.0 i.2 j.2 (compared i.0 j.0)
  where
    go : (i j : ℕ) → at i ≡ Some a → at j ≡ Some b → Compared i j → a ≡ b
    go i j at_i at_j (ahead lt) = absurd
        (not-below-itself (due_numbers p.pool.view b)
        (subst (λ ns. numbers_below ns (due_numbers p.pool.view b) ≡ true) same (numbered.rising i j lt a b at_i at_j)))
    go i j at_i at_j (behind lt) = absurd
        (not-below-itself (due_numbers p.pool.view b)
        (subst (λ ns. numbers_below (due_numbers p.pool.view b) ns ≡ true) same (numbered.rising j i lt b a at_j at_i)))
    go i j at_i at_j (level is) = some-is a b (at j) (ap at (sym is) ∙ at_i) at_j

update-once : (u w : Update) → update_numbers u ≡ update_numbers w → u ≡ w
update-once (Remove p) (Remove q) e = let is : p ≡ q = cc in ap Remove is
update-once (Remove p) (Add q) e = absurd cc
update-once (Remove p) Renew e = absurd cc
update-once (Add p) (Remove q) e = absurd cc
update-once (Add p) (Add q) e = let is : p ≡ q = cc in ap Add is
update-once (Add p) Renew e = absurd cc
update-once Renew (Remove q) e = absurd cc
update-once Renew (Add q) e = absurd cc
update-once Renew Renew e = refl

notify-once : (s : Setting) (p : Process) (a b : Statement) → may_sign s p a ≡ true → may_sign s p b ≡ true → kind_of a ≡ Notifies
    → kind_of b ≡ Notifies → due_numbers p.pool.view a ≡ due_numbers p.pool.view b → a ≡ b
notify-once s p (Notify x u) (Notify y w) may may' k k' same =
    let x_is : x ≡ y = cc in
    let numbers : update_numbers u ≡ update_numbers w = cc in
    let u_is = update-once u w numbers in
    λ i. Notify (x_is i) (u_is i)
notify-once s p (Notify x u) _ may may' k k' same = absurd cc
notify-once s p _ b may may' k k' same = absurd cc

module _ (s : Setting) (p : Process) (pool : IsPool p.pool) where
  echo-once : (a b : Statement) → may_sign s p a ≡ true → may_sign s p b ≡ true → kind_of a ≡ Echoes → kind_of b ≡ Echoes
      → due_numbers p.pool.view a ≡ due_numbers p.pool.view b → a ≡ b
  echo-once a b may may' k k' same =
      let one = echo-parts s p pool a may k in
      let two = echo-parts s p pool b may' k' in
      let ia = rank-of-member p.pool.view one.0
      ((heard-is p.pool pool one.0 (InitAt p.pool.view.number one.1) (Init p.pool.view.number one.1 one.2) one.4).signer) in
      let ib = rank-of-member p.pool.view two.0
      ((heard-is p.pool pool two.0 (InitAt p.pool.view.number two.1) (Init p.pool.view.number two.1 two.2) two.4).signer) in
      let numbers : unwrap_or (rank_of p.pool.view one.0) 0 ∷ one.1 ∷ []
      ≡ unwrap_or (rank_of p.pool.view two.0) 0 ∷ two.1
      ∷ [] = sym (ap (due_numbers p.pool.view) one.3) ∙ same ∙ ap (due_numbers p.pool.view) two.3 in
      let ranks : ia.0 ≡ ib.0 = sym (ap (λ o. unwrap_or o 0) ia.1) ∙
      (let r : unwrap_or (rank_of p.pool.view one.0) 0 ≡ unwrap_or (rank_of p.pool.view two.0) 0 = cc in r) ∙ ap
      (λ o. unwrap_or o 0) ib.1 in
      let l_is : one.1 ≡ two.1 = cc in
      let m_is : one.0 ≡ two.0 = some-is one.0 two.0 (slice_get p.pool.view.members ib.0)
      (ap (slice_get p.pool.view.members) (sym ranks) ∙ ia.3) ib.3 in
      let heard : heard_on p.pool two.0 (InitAt p.pool.view.number two.1)
      ≡ Some (Init p.pool.view.number one.1 one.2) = (λ i. heard_on p.pool (sym m_is i)
      (InitAt p.pool.view.number (sym l_is i))) ∙ one.4 in
      let said : Init p.pool.view.number one.1 one.2 ≡ Init p.pool.view.number two.1 two.2 = some-is _ _ _ heard two.4 in
      let b_is : one.2 ≡ two.2 = cc in
      one.3 ∙ (λ i. echo s p pool (m_is i) (l_is i) (b_is i)) ∙ sym two.3

  suggest-once : (a b : Statement) → may_sign s p a ≡ true → may_sign s p b ≡ true → kind_of a ≡ Suggests → kind_of b ≡ Suggests → a ≡ b
  suggest-once a b may may' k k' =
      let one = only-suggest s p a may k in
      let two = only-suggest s p b may' k' in
      let r_is : one.0 ≡ two.0 = some-is one.0 two.0 (rank_of p.pool.view p.me) one.1 two.1 in
      some-is a b (suggestion s p two.0) (ap (suggestion s p) (sym r_is) ∙ one.2) two.2

  once : (kind : Kind) (a b : Statement) → may_sign s p a ≡ true → may_sign s p b ≡ true → kind_of a ≡ kind → kind_of b ≡ kind
      → due_numbers p.pool.view a ≡ due_numbers p.pool.view b → a ≡ b
  once Inits a b may may' k k' same = numbered-once s p Inits _ 1024 (init-numbered s p (may-parts s p a may).member) a b may may' k k' same
  once Echoes a b may may' k k' same = echo-once a b may may' k k' same
  once Orders a b may may' k k' same = (only-order s p a may k).0 ∙ sym (only-order s p b may' k').0
  once Places a b may may' k k' same = numbered-once s p Places _ 1024 (places-numbered s p pool) a b may may' k k' same
  once Keeps a b may may' k k' same = numbered-once s p Keeps _ 1024 (keeps-numbered s p) a b may may' k k' same
  once Notifies a b may may' k k' same = notify-once s p a b may may' k k' same
  once Ends a b may may' k k' same = (only-end s p a may k).0 ∙ sym (only-end s p b may' k').0
  once Readies a b may may' k k' same = numbered-once s p Readies _ 16
      (ready-numbered s p pool (may-parts s p a may).member) a b may may' k k' same
  once Lasts a b may may' k k' same = (only-last s p a may k).0 ∙ sym (only-last s p b may' k').0
  once Suggests a b may may' k k' same = suggest-once a b may may' k k'
  once Acks a b may may' k k' same = numbered-once s p Acks _ _ (ack-numbered s p pool (may-parts s p a may).member) a b may may' k k' same

pub each_has_its_place : EachHasItsPlace
each_has_its_place s p st other pool may may' kinds same = once s p pool (kind_of other) st other may may' kinds refl same

-- two lists of which none stands before the other are one
neither-below : (a b : List ℕ) → numbers_below a b ≡ false → numbers_below b a ≡ false → a ≡ b
neither-below [] [] e f = refl
neither-below [] (n ∷ ns) e f = absurd cc
neither-below (m ∷ ms) [] e f = absurd cc
neither-below (m ∷ ms) (n ∷ ns) e f =
    let one = neither (nat_lt m n) ((m == n) && numbers_below ms ns) e in
    let two = neither (nat_lt n m) ((n == m) && numbers_below ns ms) f in
    let le = ltb-false m n one.0 in
    let ge = ltb-false n m two.0 in
    let is : m ≡ n = omega (arith, le, ge) in
    let rest = neither-below ms ns (second (m == n) (numbers_below ms ns) (eq-eqb m n is) one.1)
    (second (n == m) (numbers_below ns ms) (eq-eqb n m (sym is)) two.1) in
    λ i. is i ∷ rest i
  where
    second : (a b : Bool) → a ≡ true → (a && b) ≡ false → b ≡ false
    second true b e f = f
    second false b e f = absurd cc

pub least_is_first : LeastIsFirst
least_is_first s p st pool may first = go (least_due s p (kind_of st)) refl
  where
    go : (o : Option Statement) → least_due s p (kind_of st) ≡ o → o ≡ Some st
    go None e = absurd (nothing s p st may e)
    go (Some y) e =
        let g = given s p (kind_of st) y e in
        let least = least_is_due s p y (ap (least_due s p) g.1 ∙ e) in
        let not = least.1 st (subst (λ k. Contains (offers k s p) st) (sym g.1) (each_due_is_offered s p st may)) may in
        ap Some (each_has_its_place s p y st pool g.0 may g.1
        (neither-below (due_numbers p.pool.view y) (due_numbers p.pool.view st) (first y g.0 g.1) not))
