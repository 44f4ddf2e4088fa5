-- The group after the first events of a schedule is a front of the group at its end.
use Rattle.std.proofs.Common.{◌≡◌, inl, inr, ℕ, zero, suc, ◌+◌, ◌<◌, ◌≤◌, List, [], ◌∷◌, ◌++◌, map, length, Some, true, refl, sym, ap, ◌∙◌, subst, arith, slice_get}
use Rattle.std.specs.Prelude.{slice_index_or}
use Rattle.std.specs.List.{AllZip}
use Rattle.group_defs.specs.Views.{View, is_member}
use Rattle.group_defs.specs.Below.{Claim}
use Rattle.group_defs.specs.Process.{Setting, Delivered, Left, Process, start, views_of, deliveries_of, letter_of, without_places}
use Rattle.group_defs.specs.Events.{Turn, after, run}
use Rattle.group_defs.specs.Accounts.{Account, account_of, IsPrefixOf, HasLeft, messages_in, longest, group_of, AgreesWith}
use Rattle.group_defs.specs.Family.{Correct, Family, end_of, ends, accounts, handed_to}
use Rattle.group_defs.specs.Laws.{Premises, HasGrown, IsEarlier, IsFrontOf, Growth}
use Rattle.std.proofs.lemmas.List.{length-append, map-append}
use Rattle.safety_laws.proofs.AllAgree.{agreement}
use Rattle.safety_laws.proofs.EachWasDue.{grown-self}
use Rattle.safety_laws.proofs.History.{grows}
use Rattle.safety_laws.proofs.Induction.{Keeps, run-keeps}
use Rattle.pool_laws.proofs.Members.{All-mem, Mem, index-mem, map-mem, mem-map}
use Rattle.pool_laws.proofs.Places.{get-some, longest-mem, longest-most, prefix-equal, prefix-map, prefix-self, prefix-trans, slice_get-front}
use Rattle.safety_laws.proofs.Quorums.{in-ends}
use Rattle.safety_laws.proofs.ViewsOf.{left-delivered, length-views}

-- ---- prefixes

last-longer : (xs : List (List Delivered)) (ds es : List Delivered) → IsPrefixOf ds es → (i : ℕ)
    → IsPrefixOf (slice_index_or (xs ++ ds ∷ []) i []) (slice_index_or (xs ++ es ∷ []) i [])
last-longer [] ds es p zero = p
last-longer [] ds es p (suc i) = ([], refl)
last-longer (x ∷ xs) ds es p zero = prefix-self x
last-longer (x ∷ xs) ds es p (suc i) = last-longer xs ds es p i

one-behind : (xs : List (List Delivered)) (i : ℕ) → IsPrefixOf (slice_index_or xs i []) (slice_index_or (xs ++ [] ∷ []) i [])
one-behind [] zero = ([], refl)
one-behind [] (suc i) = ([], refl)
one-behind (x ∷ xs) zero = prefix-self x
one-behind (x ∷ xs) (suc i) = one-behind xs i

-- ---- what was delivered grows

Extends : Process → Process → Type 0
Extends old p = (i : ℕ) → IsPrefixOf (slice_index_or (deliveries_of old) i []) (slice_index_or (deliveries_of p) i [])

extends : (s : Setting) (from : List Claim) (old : Process) → Keeps s from (Extends old)
unfolding Extends
extends s from old = record {
  accepts = λ p payload g. g;
  perceives = λ p e g. g;
  hears = λ p c m e g. g;
  doubts = λ p conflicts g. g;
  signs = λ p signer st next none g. g;
  decides = λ p g. g;
  delivers = λ p ds member room e g i. prefix-trans _ (slice_index_or (deliveries_of p) i []) _ (g i)
      (last-longer (map (λ (l : Left). l.delivered) p.left) p.delivered (p.delivered ++ ds) (ds, refl) i);
  installs = λ p d decided whole g i. prefix-trans _ (slice_index_or (deliveries_of p) i []) _ (g i)
      (subst (λ ds. IsPrefixOf (slice_index_or (deliveries_of p) i []) (slice_index_or (ds ++ [] ∷ []) i []))
      (sym (map-append (λ (l : Left). l.delivered) p.left _)) (one-behind (deliveries_of p) i));
  halts = λ p d decided member g. g;
}

extends-self : (p : Process) → Extends p p
unfolding Extends
extends-self p i = prefix-self (slice_index_or (deliveries_of p) i [])

extends-at : (old p : Process) → Extends old p → (i : ℕ)
    → IsPrefixOf (slice_index_or (deliveries_of old) i []) (slice_index_or (deliveries_of p) i [])
unfolding Extends
extends-at old p e i = e i

pub run-append : (s : Setting) (p : Process) (ts us : List Turn) → run s p (ts ++ us) ≡ run s (run s p ts) us
unfolding run
run-append s p [] us = refl
run-append s p (t ∷ ts) us = run-append s (after s p t) ts us

-- ---- fronts

module _ (s : Setting) (c c' : Correct) (before : IsEarlier c c') where
  pub later-is : run s (end_of s c) before.2.0 ≡ end_of s c'
  later-is = sym (run-append s (start s c.me c.batch_limit) c.turns before.2.0) ∙
      (λ i. run s (start s (before.0 i) (before.1 i)) (before.2.1 i))

  pub grows-on : (old : Process) → HasGrown old (end_of s c) → HasGrown old (end_of s c')
  grows-on old grown = subst (HasGrown old) later-is
      (run-keeps s (HasGrown old) before.2.0 (grows s (handed_to before.2.0) old) (end_of s c) grown)

  pub grown-later : HasGrown (end_of s c) (end_of s c')
  grown-later = grows-on (end_of s c) (grown-self (end_of s c))

  extends-later : Extends (end_of s c) (end_of s c')
  extends-later = subst (Extends (end_of s c)) later-is
      (run-keeps s (Extends (end_of s c)) before.2.0 (extends s (handed_to before.2.0) (end_of s c)) (end_of s c)
      (extends-self (end_of s c)))

pub later-of : (cs cs' : List Correct) → AllZip IsEarlier cs cs' → (c : Correct) → Mem c cs
    → (c' : Correct) × Mem c' cs' × IsEarlier c c'
later-of [] cs' all c m = absurd m
later-of (d ∷ cs) [] all c m = absurd all
later-of (d ∷ cs) (d' ∷ cs') all c (inl e) = (d', inl refl, subst (λ c. IsEarlier c d') e all.0)
later-of (d ∷ cs) (d' ∷ cs') all c (inr m) = let rest = later-of cs cs' all.1 c m in (rest.0, inr rest.1, rest.2)

pub longest-front : {A : Type 0} (g : Account → List A) (bs : List Account) (ys : List A) → ((a : Account) → Mem a bs → IsPrefixOf (g a) ys)
    → IsPrefixOf (longest (map g bs)) ys
longest-front g [] ys each = (ys, refl)
longest-front g (a ∷ bs) ys each =
    let there = map-mem g (a ∷ bs) (longest (map g (a ∷ bs))) (longest-mem (map g (a ∷ bs)) (g a) (inl refl)) in
    subst (λ xs. IsPrefixOf xs ys) there.2 (each there.0 there.1)

-- an early account and its late one
module _ (early late : Family) (front : IsFrontOf early late) where
  Later : Account → Type 0
  Later a = (c : Correct) × (c' : Correct) × Mem c' late.correct × IsEarlier c c' × (account_of (end_of late.setting c) ≡ a)

  later : (a : Account) → Mem a (accounts early) → Later a
  unfolding Later
  later a there =
      let p = map-mem account_of (ends early) a there in
      let c = map-mem (end_of early.setting) early.correct p.0 p.1 in
      let c' = later-of early.correct late.correct front.fronts c.0 c.1 in
      (c.0, c'.0, c'.1, c'.2, ap (λ s. account_of (end_of s c.0)) (sym front.setting) ∙ ap account_of c.2 ∙ p.2)

  module _ (premises : Premises late) where
    agrees : (c' : Correct) → Mem c' late.correct → AgreesWith (group_of (accounts late)) (account_of (end_of late.setting c'))
    agrees c' m' = All-mem (AgreesWith (group_of (accounts late))) (accounts late) (account_of (end_of late.setting c'))
        (agreement late premises) (mem-map account_of (ends late) (end_of late.setting c') (in-ends late c' m'))

    pub views-front : (a : Account) → Mem a (accounts early) → IsPrefixOf a.views (group_of (accounts late)).views
    unfolding Later
    views-front a m =
        let it = later a m in
        let c = it.0 in
        let c' = it.1 in
        subst (λ (a : Account). IsPrefixOf a.views (group_of (accounts late)).views) it.4
        (prefix-trans (views_of (end_of late.setting c)) (views_of (end_of late.setting c'))
        (group_of (accounts late)).views (grown-later late.setting c c' it.3).views (agrees c' it.2).views)

    pub sequence-front : (x : ℕ) (a : Account) → Mem a (accounts early)
        → IsPrefixOf (messages_in a x) ((group_of (accounts late)).sequence x)
    unfolding Later
    sequence-front x a m =
        let it = later a m in
        let c = it.0 in
        let c' = it.1 in
        subst (λ (a : Account). IsPrefixOf (messages_in a x) ((group_of (accounts late)).sequence x)) it.4
        (prefix-trans (messages_in (account_of (end_of late.setting c)) x) (messages_in (account_of (end_of late.setting c')) x)
        ((group_of (accounts late)).sequence x)
        (prefix-map letter_of _ _ (extends-at (end_of late.setting c) (end_of late.setting c') (extends-later late.setting c c' it.3) x))
        ((agrees c' it.2).prefixes x))

    -- who left it early as a member left it so
    pub whole-later : (c c' : Correct) → Mem c' late.correct → IsEarlier c c' → (x : ℕ) (v : View)
        → slice_get (views_of (end_of late.setting c)) x ≡ Some v → is_member v (end_of late.setting c).me ≡ true
        → x + 1 < length (views_of (end_of late.setting c))
        → messages_in (account_of (end_of late.setting c)) x ≡ (group_of (accounts late)).sequence x
    whole-later c c' m' before x v at member left =
        let p : Process = end_of late.setting c in
        let p' : Process = end_of late.setting c' in
        let grown = grown-later late.setting c c' before in
        let long = length-views p in
        let l = get-some p.left x (omega (arith, long, left)) in
        let in_late : slice_get p'.left x
        ≡ Some l.0 = subst (λ ls. slice_get ls x ≡ Some l.0) grown.left.1 (slice_get-front p.left grown.left.0 x l.0 l.1) in
        let at' : slice_get (views_of p') x
        ≡ Some v = subst (λ vs. slice_get vs x ≡ Some v) grown.views.1 (slice_get-front (views_of p) grown.views.0 x v at) in
        let longer : length (views_of p')
        ≡ length (views_of p) + length grown.views.0 = ap length (sym grown.views.1) ∙ length-append (views_of p) grown.views.0 in
        let member' : is_member v p'.me ≡ true = subst (λ me. is_member v me ≡ true) (sym grown.me) member in
        let whole = (agrees c' m').whole x v at' member' (omega (arith, longer, left)) in
        ap without_places (left-delivered p x l.0 l.1 ∙ sym (left-delivered p' x l.0 in_late)) ∙ whole

    pub sequences : (x : ℕ) → IsPrefixOf ((group_of (accounts early)).sequence x) ((group_of (accounts late)).sequence x)
    sequences x = longest-front (λ a. messages_in a x) (accounts early) ((group_of (accounts late)).sequence x) (sequence-front x)

    pub whole-is : (a : Account) → Mem a (accounts early) → (x : ℕ) (v : View) → slice_get a.views x ≡ Some v → is_member v a.me ≡ true
        → HasLeft a x → messages_in a x ≡ (group_of (accounts late)).sequence x
    unfolding Later
    whole-is a m x v at member left =
        let it = later a m in
        subst (λ (a : Account). (v : View) → slice_get a.views x ≡ Some v → is_member v a.me ≡ true → HasLeft a x
        → messages_in a x ≡ (group_of (accounts late)).sequence x) it.4
        (whole-later it.0 it.1 it.2 it.3 x) v at member left

    pub whole-early : (a : Account) → Mem a (accounts early) → (x : ℕ) (v : View) → slice_get a.views x ≡ Some v → is_member v a.me ≡ true
        → HasLeft a x → (group_of (accounts early)).sequence x ≡ (group_of (accounts late)).sequence x
    whole-early a m x v at member left =
        let is = whole-is a m x v at member left in
        let same : length (messages_in a x) ≡ length ((group_of (accounts late)).sequence x) = ap length is in
        let most : length (messages_in a x)
        ≤ length ((group_of (accounts early)).sequence x) = longest-most (map (λ a. messages_in a x) (accounts early)) (messages_in a x)
        (mem-map (λ a. messages_in a x) (accounts early) a m) in
        prefix-equal ((group_of (accounts early)).sequence x) ((group_of (accounts late)).sequence x) (sequences x)
        (omega (arith, same, most))

pub growth : Growth
growth early late front premises = record {
  views = longest-front (λ a. a.views) (accounts early) (group_of (accounts late)).views (views-front early late front premises);
  sequences = sequences early late front premises;
  whole = λ k d lt. whole-early early late front premises (slice_index_or (accounts early) k d) (index-mem (accounts early) k d lt);
}
