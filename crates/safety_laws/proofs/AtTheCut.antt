-- What holds of a family at the end holds after any part of its turns.
use Rattle.std.proofs.Common.{◌≡◌, ◌≢◌, inl, inr, ℕ, ◌+◌, ◌<◌, ◌≤◌, List, [], ◌∷◌, ◌++◌, map, length, Option, Some, None, Bool, true, false, refl, sym, ap, ◌∙◌, subst, slice_get}
use Rattle.std.specs.Prelude.{All, ◌==◌}
use Rattle.std.specs.List.{range_with_len}
use Rattle.std.specs.Option.{option_map_or}
use Rattle.std.proofs.lemmas.List.{length-append, length-map, map-append}
use Rattle.std.proofs.lemmas.List.Elements.{filter-append}
use Rattle.std.proofs.lemmas.List.FromFn.{length-range_with_len}
use Rattle.group_defs.specs.Below.{first_that_holds, Value}
use Rattle.std.proofs.lemmas.Grind.{flat_map-append}
use Rattle.group_defs.specs.Views.{View}
use Rattle.group_defs.specs.Process.{Setting, Letter, Delivered, Process, start, views_of, places_in}
use Rattle.group_defs.specs.Settle.{decide, deliver, settle}
use Rattle.group_defs.specs.Events.{Turn, EventFault, HaltedNow, refusal, refusals, signing, after, run}
use Rattle.group_defs.specs.Accounts.{Account, account_of, IsPrefixOf, delivered_in, messages_in, of_sender, group_of, AgreesWith, IsByPlace, HaveSameBatches, ArePlaced, IsOnce, IsInOrder}
use Rattle.group_defs.specs.Family.{Correct, Family, end_of, ends, accounts, claims_in, handed_to}
use Rattle.group_defs.specs.Laws.{Premises, IsOneView, StoodSo, SettledSo, Decides, LawsOfViewThen, IsEarlier, IsFrontOf, AtTheCut, settlings, settlings_from}
use Rattle.safety_laws.proofs.Agreeing.{one_batch, one_payload}
use Rattle.safety_laws.proofs.AllAgree.{Part, nothing, part, something}
use Rattle.safety_laws.proofs.ByPlace.{none-there, nothing-stands, view-stands, views-same}
use Rattle.safety_laws.proofs.CertifiedIsBacked.{certified_is_backed}
use Rattle.safety_laws.proofs.Decisions.{delivers_within_cut, nobody_halts, one_decision, settled_stood, stands-so}
use Rattle.safety_laws.proofs.EachWasDue as was
use Rattle.safety_laws.proofs.EachWasDue.{EachDue}
use Rattle.safety_laws.proofs.GroupGrows.{grown-later, grows-on, later-is, later-of, longest-front, sequence-front, sequences, views-front, whole-early, whole-is}
use Rattle.safety_laws.proofs.History.{History, ViewSo, history-keeps, history-start, view-on}
use Rattle.safety_laws.proofs.Induction.{AreFrom, Keeps, turns-keep}
use Rattle.pool_laws.proofs.Members.{All-mem, Contains-mem, Mem, map-mem, mem-All, mem-Contains, mem-append, mem-map}
use Rattle.safety_laws.proofs.OwnPayloads.{cause_and_order}
use Rattle.pool_laws.proofs.Places.{all-pairs, equal-by, longest-most, pairs-all, prefix-by, range-get, slice_get-front, slice_get-mem}
use Rattle.safety_laws.proofs.Quorums.{in-ends}
use Rattle.safety_laws.proofs.Settlings.{settles-none, settles-some}
use Rattle.pool_laws.proofs.Tests.{some-is}
use Rattle.safety_laws.proofs.ViewsAgree.{installed-one, one-view, views-agree}

-- ---- more turns

-- what settled in the first turns is among what settled
settled-front : (s : Setting) (p : Process) (ts us : List Turn) (q : Process) → Mem q (settlings_from s p ts)
    → Mem q (settlings_from s p (ts ++ us))
settled-front s p [] us q m = absurd m
settled-front s p (t ∷ ts) us q m = go (refusal s p t.event) refl (settled-front s (after s p t) ts us q)
  where
    go : (o : Option EventFault) → refusal s p t.event ≡ o
        → (Mem q (settlings_from s (after s p t) ts) → Mem q (settlings_from s (after s p t) (ts ++ us)))
        → Mem q (settlings_from s p (t ∷ (ts ++ us)))
    go None e later = subst (Mem q) (sym (settles-none s p t (ts ++ us) e))
        (elim (subst (Mem q) (settles-none s p t ts e) m) [ inl is ↦ inl is | inr there ↦ inr (later there) ])
    go (Some fault) e later = subst (Mem q) (sym (settles-some s p t (ts ++ us) fault e))
        (later (subst (Mem q) (settles-some s p t ts fault e) m))

-- who has halted takes in nothing more
halted-stays : (s : Setting) (p : Process) (ts : List Turn) → p.halted ≡ true → run s p ts ≡ p
unfolding run after
halted-stays s p [] e = refl
halted-stays s p (t ∷ ts) e = ap (λ q. run s q ts) (stays (refusal s p t.event) (refused p.halted e)) ∙ halted-stays s p ts e
  where
    refused : (b : Bool) → b ≡ true → (fault : EventFault) × (refusal s p t.event ≡ Some fault)
    refused true is = (
      HaltedNow (places_in p.delivered) (option_map_or (λ (d : ℕ × Value). d.1.cut) p.decision 0),
      ap (λ b. first_that_holds ((b, HaltedNow (places_in p.delivered) (option_map_or (λ (d : ℕ × Value). d.1.cut) p.decision 0))
          ∷ refusals s p t.event)) e,
    )
    refused false is = absurd cc

    stays : (o : Option EventFault) → (fault : EventFault) × (o ≡ Some fault)
        → (elim o [ None ↦ settle s (signing s p t).now | Some fault ↦ p ]) ≡ p
    stays None some = absurd (let e = some.1 in cc)
    stays (Some fault) some = refl

-- of two prefixes of a list the shorter one is a prefix of the other
prefix-of-both : {A : Type 0} (xs ys zs : List A) → IsPrefixOf xs zs → IsPrefixOf ys zs → length xs ≤ length ys → IsPrefixOf xs ys
prefix-of-both xs ys zs p q le = prefix-by xs ys le (λ k x y at at'. some-is x y (slice_get zs k)
    (ap (λ zs. slice_get zs k) (sym p.1) ∙ slice_get-front xs p.0 k x at)
    (ap (λ zs. slice_get zs k) (sym q.1) ∙ slice_get-front ys q.0 k y at'))

-- the numbers of a front are in order where those of the whole are
front-in-order : (sender : ℕ) (ds es : List Letter) → IsInOrder sender (ds ++ es) → IsInOrder sender ds
front-in-order sender ds es whole =
    let mine : List Letter = of_sender sender ds in
    let more : List Letter = of_sender sender es in
    let split : of_sender sender (ds ++ es) ≡ mine ++ more = filter-append (λ (d : Letter). d.message.sender == sender) ds es in
    let all : map number (mine ++ more)
    ≡ range_with_len 0 (length (mine ++ more)) = subst (λ ls. map number ls ≡ range_with_len 0 (length ls)) split whole in
    let long : length (mine ++ more) ≡ length mine + length more = length-append mine more in
    equal-by (map number mine) (range_with_len 0 (length mine)) (length-map mine number ∙ sym (length-range_with_len 0 (length mine)))
    (λ k m n at at'.
    let there : slice_get (map number (mine ++ more)) k
    ≡ Some m = subst (λ ns. slice_get ns k ≡ Some m) (sym (map-append number mine more))
    (slice_get-front (map number mine) (map number more) k m at) in
    range-get 0 (length (mine ++ more)) k m (subst (λ ns. slice_get ns k ≡ Some m) all there) ∙ sym (range-get 0 (length mine) k n at'))
  where
    number : Letter → ℕ
    number d = d.message.number

-- ---- at the cut

module _ (early late : Family) (front : IsFrontOf early late) (premises : Premises late) where
  -- a process then, and what it became
  record Then (p : Process) : Type 0 where
    pub before : Correct
    pub behind : Correct
    pub there : Mem behind late.correct
    pub stands : IsEarlier before behind
    pub is : end_of late.setting before ≡ p

  then-of : (p : Process) → Mem p (ends early) → Then p
  then-of p m =
      let c = map-mem (end_of early.setting) early.correct p m in
      let c' = later-of early.correct late.correct front.fronts c.0 c.1 in
      record { before = c.0; behind = c'.0; there = c'.1; stands = c'.2; is = ap (λ s. end_of s c.0) (sym front.setting) ∙ c.2 }

  settled : (q : Process) → SettledSo early q → SettledSo late q
  settled q so =
      let c' = later-of early.correct late.correct front.fronts so.0 (Contains-mem early.correct so.0 so.1) in
      let b = c'.2 in
      let mine : Mem q (settlings_from late.setting (start late.setting so.0.me so.0.batch_limit) so.0.turns) = subst
      (λ s. Mem q (settlings_from s (start s so.0.me so.0.batch_limit) so.0.turns)) front.setting
      (Contains-mem (settlings early so.0) q so.2) in
      let more = settled-front late.setting (start late.setting so.0.me so.0.batch_limit) so.0.turns b.2.0 q mine in
      let same : settlings_from late.setting (start late.setting so.0.me so.0.batch_limit) (so.0.turns ++ b.2.0)
      ≡ settlings late c'.0 = λ i. settlings_from late.setting (start late.setting (b.0 i) (b.1 i)) (b.2.1 i) in
      (c'.0, mem-Contains late.correct c'.0 c'.1, mem-Contains (settlings late c'.0) q (subst (Mem q) same more))

  -- what each step keeps was so at the cut
  kept-then : (c c' : Correct) → IsEarlier c c' → (P : Process → Type 0) → Keeps late.setting (handed_to c'.turns) P
      → P (start late.setting c.me c.batch_limit) → P (end_of late.setting c)
  kept-then c c' b P k so = turns-keep late.setting (handed_to c'.turns) P k c.turns
      (unfold AreFrom in λ d m. subst (Mem d) (sym (flat_map-append (λ (t : Turn). claims_in t.event) c.turns b.2.0) ∙ ap handed_to b.2.1)
      (mem-append (handed_to c.turns) (handed_to b.2.0) d m))
      (start late.setting c.me c.batch_limit) so

  due-then : (c c' : Correct) → IsEarlier c c' → EachDue late.setting c'.turns (end_of late.setting c)
  due-then c c' b = kept-then c c' b (EachDue late.setting c'.turns) (was.keeps late.setting c'.turns)
      (record { heard = λ c m. absurd m; dues = λ i st at. absurd cc })

  stood : (p : Process) → Mem p (ends early) → StoodSo late p
  stood p m = let t = then-of p m in subst (StoodSo late) t.is
      (stands-so late t.behind (end_of late.setting t.before) t.there (grown-later late.setting t.before t.behind t.stands)
      (due-then t.before t.behind t.stands))

  one-then : (p : Process) → Mem p (ends early) → All (IsOneView late) (views_of p)
  one-then p m =
      let t = then-of p m in
      let grown = grown-later late.setting t.before t.behind t.stands in
      subst (λ (p : Process). All (IsOneView late) (views_of p)) t.is
      (mem-All (IsOneView late) (views_of (end_of late.setting t.before)) (λ v there.
      installed-one late premises (end_of late.setting t.behind)
      (in-ends late t.behind t.there) v
      (subst (Mem v) grown.views.1 (mem-append (views_of (end_of late.setting t.before)) grown.views.0 v there))))

  runs : (p : Process) → Mem p (ends early) → p.halted ≡ false
  runs p m = go p.halted refl
    where
      clash : {b : Bool} → b ≡ true → b ≡ false → ⊥
      clash e e' = cc

      go : (b : Bool) → p.halted ≡ b → p.halted ≡ false
      go false e = e
      go true e =
          let t = then-of p m in
          let same : end_of late.setting t.behind
          ≡ p = sym (later-is late.setting t.before t.behind t.stands) ∙ ap
          (λ q. run late.setting q t.stands.2.0) t.is ∙ halted-stays late.setting p t.stands.2.0 e in
          absurd (clash (ap (λ (p : Process). p.halted) same ∙ e)
          (All-mem (λ (p : Process). p.halted ≡ false) (ends late) (end_of late.setting t.behind) (nobody_halts late premises)
          (in-ends late t.behind t.there)))

  agrees : (a : Account) → Mem a (accounts early) → AgreesWith (group_of (accounts early)) a
  agrees a m = record {
    views = prefix-of-both a.views (group_of (accounts early)).views (group_of (accounts late)).views
        (views-front early late front premises a m)
        (longest-front (λ a. a.views) (accounts early) (group_of (accounts late)).views (views-front early late front premises))
        (longest-most (map (λ (a : Account). a.views) (accounts early)) a.views (mem-map (λ (a : Account). a.views) (accounts early) a m));
    prefixes = λ x. prefix-of-both (messages_in a x) ((group_of (accounts early)).sequence x) ((group_of (accounts late)).sequence x)
        (sequence-front early late front premises x a m)
        (longest-front (λ a. messages_in a x) (accounts early) ((group_of (accounts late)).sequence x)
        (sequence-front early late front premises x))
        (longest-most (map (λ a. messages_in a x) (accounts early)) (messages_in a x)
        (mem-map (λ a. messages_in a x) (accounts early) a m));
    whole = λ x v at member left. whole-is early late front premises a m x v at member left ∙ sym
        (whole-early early late front premises a m x v at member left);
  }

  -- ---- what was delivered

  -- what an early process had delivered in the view of a number, as a process of the whole family
  data Delivery (x : ℕ) (ds : List Delivered) : Type 0 where
    nothing-there : ds ≡ [] → Delivery x ds
    in-view : (c : Correct) → Mem c late.correct → (v : View) → slice_get (views_of (end_of late.setting c)) x ≡ Some v
        → ViewSo late.setting c.turns (end_of late.setting c) v ds → Delivery x ds

  delivery-of : (p : Process) → Then p → (x : ℕ) → Delivery x (delivered_in (account_of p) x)
  delivery-of p t x = subst (λ (p : Process). Delivery x (delivered_in (account_of p) x)) t.is
      (go (part late.setting t.behind.turns then' history x))
    where
      then' : Process
      then' = end_of late.setting t.before

      history : History late.setting t.behind.turns then'
      history = kept-then t.before t.behind t.stands (History late.setting t.behind.turns) (history-keeps late.setting t.behind.turns)
          (history-start late.setting t.behind.turns t.before.me t.before.batch_limit premises.first)

      go : Part late.setting t.behind.turns then' x → Delivery x (delivered_in (account_of then') x)
      go (nothing none) = nothing-there none
      go (something v at so) =
          let grown = grown-later late.setting t.before t.behind t.stands in
          in-view t.behind t.there v (subst (λ vs. slice_get vs x ≡ Some v) grown.views.1
          (slice_get-front (views_of then') grown.views.0 x v at))
          (view-on late.setting t.behind.turns then' (end_of late.setting t.behind)
          (grows-on late.setting t.before t.behind t.stands) v (delivered_in (account_of then') x) so)

  one-there : (c : Correct) → Mem c late.correct → (x : ℕ) (v : View) → slice_get (views_of (end_of late.setting c)) x ≡ Some v
      → IsOneView late v
  one-there c m x v at = one-view late premises c m v (slice_get-mem (views_of (end_of late.setting c)) x v at)

  stands-then : (x : ℕ) (ds : List Delivered) → Delivery x ds → IsByPlace ds
  stands-then x ds (nothing-there none) = nothing-stands late premises ds none
  stands-then x ds (in-view c m v at so) = view-stands late premises v (one-there c m x v at) c m ds so

  same-then : (x : ℕ) (ds es : List Delivered) → Delivery x ds → Delivery x es → HaveSameBatches ds es
  same-then x ds es (nothing-there none) there k lt lt' = absurd (none-there late premises ds k none lt)
  same-then x ds es here (nothing-there none) k lt lt' = absurd (none-there late premises es k none lt')
  same-then x ds es (in-view c m v at so) (in-view c' m' w at' so') k lt lt' =
      let is : v ≡ w = views-agree late premises x c c' m m' v w at at' in
      views-same late premises v (one-there c m x v at) c c' m m' ds es so
      (subst (λ v. ViewSo late.setting c'.turns (end_of late.setting c') v es) (sym is) so') k lt lt'

  of-account : (a : Account) → Mem a (accounts early) → (x : ℕ) → Delivery x (delivered_in a x)
  of-account a m x = let p = map-mem account_of (ends early) a m in subst (λ a. Delivery x (delivered_in a x)) p.2
      (delivery-of p.0 (then-of p.0 p.1) x)

  placed : ArePlaced (accounts early)
  placed = record {
    by_place = mem-All (λ a. (x : ℕ) → IsByPlace (delivered_in a x)) (accounts early)
        (λ a m x. stands-then x (delivered_in a x) (of-account a m x));
    same = mem-All (λ a. All (λ b. (x : ℕ) → HaveSameBatches (delivered_in a x) (delivered_in b x)) (accounts early)) (accounts early)
        (λ a m. mem-All (λ b. (x : ℕ) → HaveSameBatches (delivered_in a x) (delivered_in b x)) (accounts early)
        (λ b m' x. same-then x (delivered_in a x) (delivered_in b x) (of-account a m x) (of-account b m' x)));
  }

  -- ---- the sequences

  front-of : (x : ℕ) → IsPrefixOf ((group_of (accounts early)).sequence x) ((group_of (accounts late)).sequence x)
  front-of = sequences early late front premises

  once : (x : ℕ) → IsOnce ((group_of (accounts early)).sequence x)
  once x =
      let whole = (cause_and_order late premises).once x in
      let p = front-of x in
      pairs-all (λ d e. d.message ≢ e.message) ((group_of (accounts early)).sequence x) (λ i j d e lt at at'.
      all-pairs (λ d e. d.message ≢ e.message) ((group_of (accounts late)).sequence x) whole i j d e lt
      (subst (λ ds. slice_get ds i ≡ Some d) p.1 (slice_get-front ((group_of (accounts early)).sequence x) p.0 i d at))
      (subst (λ ds. slice_get ds j ≡ Some e) p.1 (slice_get-front ((group_of (accounts early)).sequence x) p.0 j e at')))

  in-order : (x sender : ℕ) → IsInOrder sender ((group_of (accounts early)).sequence x)
  in-order x sender =
      let p = front-of x in
      front-in-order sender ((group_of (accounts early)).sequence x) p.0
      (subst (IsInOrder sender) (sym p.1) ((cause_and_order late premises).in_order x sender))

  -- ---- the laws of a view

  decided-then : (v : View) (q : Process) (w : Value) → Decides early v q w → Decides late v q w
  decided-then v q w d = (settled q d.0, d.1, (d.2.0, ap (λ s. (decide s q).decision) (sym front.setting) ∙ d.2.1))

  numbered : (q q' : Process) (v : View) → q.pool.view ≡ v → q'.pool.view ≡ v → q.pool.view.number ≡ q'.pool.view.number
  numbered q q' v e e' = ap (λ (v : View). v.number) (e ∙ sym e')

  laws-then : (v : View) → IsOneView late v → LawsOfViewThen early late v
  laws-then v one = record {
    one_view = one;
    backed = λ q st so at e. certified_is_backed late v q st one (settled_stood late q (settled q so)) at e;
    one_payload = λ q q' m b b' so so' at at' e e'. one_payload late q q' m b b' premises (settled q so) (settled q' so')
        (numbered q q' v at at') e e';
    one_batch = λ q q' k b b' so so' at at' e e'. one_batch late q q' k b b' premises (settled q so) (settled q' so')
        (numbered q q' v at at') e e';
    one_decision = λ q q' w w' d d'. one_decision late v q q' w w' one (decided-then v q w d) (decided-then v q' w' d');
    within_cut = λ q q' w d so at. subst (λ s. places_in (deliver (decide s q')).delivered ≤ w.cut) (sym front.setting)
        (delivers_within_cut late v q q' w one (decided-then v q w d) (settled q' so) at);
  }

pub at_the_cut : AtTheCut
at_the_cut early late front premises = record {
  settled = settled early late front premises;
  stood = mem-All (StoodSo late) (ends early) (stood early late front premises);
  laws = mem-All (λ p. All (LawsOfViewThen early late) (views_of p)) (ends early)
      (λ p m. mem-All (LawsOfViewThen early late) (views_of p)
      (λ v there. laws-then early late front premises v
      (All-mem (IsOneView late) (views_of p) v (one-then early late front premises p m) there)));
  nobody_halts = mem-All (λ p. p.halted ≡ false) (ends early) (runs early late front premises);
  agree = mem-All (AgreesWith (group_of (accounts early))) (accounts early) (agrees early late front premises);
  once = once early late front premises;
  in_order = in-order early late front premises;
  placed = placed early late front premises;
}
