-- What a process has seen certified: of what it delivered, of what it decided, of the views that it left.
use Rattle.std.proofs.Common.{◌≡◌, ◌⊎◌, inl, inr, ℕ, suc, ◌+◌, ◌<◌, ◌≤◌, List, [], ◌∷◌, ◌++◌, map, length, Option, Some, None, Bool, true, false, refl, sym, ap, ◌∙◌, subst, arith, slice_get}
use Rattle.std.specs.Prelude.{if◌then◌else◌, nat_lt, filter_map, All, is_some}
use Rattle.std.specs.Option.{option_map_or}
use Rattle.std.proofs.lemmas.Bool.{ltb-true}
use Rattle.group_defs.specs.Below.{put, Value, Batch, Statement, Echo, Place, Keep, Ready, Claim, slot_of, view_of}
use Rattle.group_defs.specs.Hearing.{with_heard}
use Rattle.group_defs.specs.Views.{View, is_member, next_view, is_possible}
use Rattle.group_defs.specs.Process.{Setting, Delivered, Left, Process, start, keyed, views_of, places_in}
use Rattle.group_defs.specs.Certified.{heard_on, is_certified, place_kept, fixed_length, certificate}
use Rattle.group_defs.specs.Due.{may_sign}
use Rattle.group_defs.specs.Signing.{Signer, own_claim, signs}
use Rattle.group_defs.specs.Settle.{decide, decided_by, limit, delivery, deliverable, install}
use Rattle.group_defs.specs.Events.{Turn, perceived_numbers}
use Rattle.group_defs.specs.Family.{handed_to}
use Rattle.group_defs.specs.Laws.{HasGrown, IsFrom}
use Rattle.safety_laws.proofs.EachWasDue as was
use Rattle.std.proofs.lemmas.List.{append-nil, length-map, map-append}
use Rattle.safety_laws.proofs.EachWasDue.{EachDue, From, accepting, grown-self, installing, otherwise, perceiving, signing}
use Rattle.pool_laws.proofs.Heard.{fold-attained, kept-is, payload-certified, place-certified, verdict-view}
use Rattle.safety_laws.proofs.Batches.{AreAt, delivery-at, delivery-names, delivery-paid, named_at, next-place, places-one-more, spread, spread-snoc, with_place}
use Rattle.safety_laws.proofs.Induction.{Keeps}
use Rattle.safety_laws.proofs.Installed.{decided_by-is}
use Rattle.safety_laws.proofs.MaySign.{signing-view}
use Rattle.pool_laws.proofs.Members.{Mem, filter_map-mem, mem-Contains, snoc-mem}
use Rattle.pool_laws.proofs.Places.{get-append, length-snoc, slice_get-front, slice_get-index, slice_get-last, slice_get-mem, slice_get-snoc}
use Rattle.pool_laws.proofs.Tests.{option_or-is}

-- ---- growing

pub grows : (s : Setting) (from : List Claim) (old : Process) → Keeps s from (HasGrown old)
grows s from old = record {
  accepts = λ p payload g. accepting old p g payload;
  perceives = λ p e g. perceiving old p g e;
  hears = λ p c m e g. otherwise old p g _ refl refl refl refl refl refl;
  doubts = λ p conflicts g. otherwise old p g _ refl refl refl refl refl refl;
  signs = λ p signer st next none g. signing old p g s signer st;
  decides = λ p g. otherwise old p g _ refl refl refl refl refl refl;
  delivers = λ p ds member room e g. otherwise old p g _ refl refl refl refl refl refl;
  installs = λ p d decided whole g. installing old p g d;
  halts = λ p d decided member g. otherwise old p g _ refl refl refl refl refl refl;
}

-- the entry that leaving makes
abbrev last : Process → ℕ × Value → Left
last p d = record { view = p.pool.view; delivered = p.delivered; commit = certificate p.pool (Ready p.pool.view.number d.0 d.1) }

-- ---- history

-- at a moment of the view the process saw it certified
pub record Certifies (s : Setting) (turns : List Turn) (p : Process) (v : View) (st : Statement) : Type 0 where
  pub moment : Process
  pub grown : HasGrown moment p
  pub at : moment.pool.view ≡ v
  pub certified : is_certified moment.pool st ≡ true
  pub heard : All (IsFrom s (handed_to turns) moment.signed) moment.pool.heard

-- so many may be delivered: a place was kept, or it was decided
pub data Reach (s : Setting) (turns : List Turn) (p : Process) (v : View) (n : ℕ) : Type 0 where
  none : n ≡ 0 → Reach s turns p v n
  kept : (k : ℕ) (b : Batch) → Certifies s turns p v (Keep v.number k b) → n ≤ k + 1 → Reach s turns p v n
  closed : (r : ℕ) (w : Value) → Certifies s turns p v (Ready v.number r w) → n ≤ w.cut → Reach s turns p v n

-- what was delivered in a view: the messages of these batches, which its places hold
pub record ViewSo (s : Setting) (turns : List Turn) (p : Process) (v : View) (ds : List Delivered) : Type 0 where
  pub batches : List Batch
  pub as_placed : map named_at ds ≡ spread 0 batches
  pub count : places_in ds ≡ length batches
  pub places : (k : ℕ) (b : Batch) → slice_get batches k ≡ Some b → Certifies s turns p v (Place v.number k b)
  pub payloads : (k : ℕ) (d : Delivered) → slice_get ds k ≡ Some d → Certifies s turns p v (Echo v.number d.message d.payload)
  pub reach : Reach s turns p v (places_in ds)

-- a view that was left
pub record LeftSo (s : Setting) (turns : List Turn) (p : Process) (i : ℕ) (l : Left) : Type 0 where
  pub number : l.view.number ≡ i
  pub rank : ℕ
  pub value : Value
  pub possible : is_possible (keyed s) l.view value.update ≡ true
  pub decided : Certifies s turns p l.view (Ready l.view.number rank value)
  pub next : slice_get (views_of p) (suc i) ≡ Some (next_view l.view value.update)
  pub whole : is_member l.view p.me ≡ true → places_in l.delivered ≡ value.cut
  pub so : ViewSo s turns p l.view l.delivered

pub record Halting (s : Setting) (turns : List Turn) (p : Process) : Type 0 where
  pub view : View
  pub rank : ℕ
  pub value : Value
  pub decided : Certifies s turns p view (Ready view.number rank value)
  pub length : ℕ
  pub reach : Reach s turns p view length
  pub beyond : value.cut < length

pub record History (s : Setting) (turns : List Turn) (p : Process) : Type 0 where
  pub due : EachDue s turns p
  pub current : (c : Claim) → Mem c p.pool.heard → view_of c.statement ≡ p.pool.view.number
  pub number : p.pool.view.number ≡ length p.left
  pub possible : (d : ℕ × Value) → p.decision ≡ Some d → is_possible (keyed s) p.pool.view d.1.update ≡ true
  pub decided : (d : ℕ × Value) → p.decision ≡ Some d → Certifies s turns p p.pool.view (Ready p.pool.view.number d.0 d.1)
  pub so : ViewSo s turns p p.pool.view p.delivered
  pub lefts : (i : ℕ) (l : Left) → slice_get p.left i ≡ Some l → LeftSo s turns p i l
  pub halts : p.halted ≡ true → Halting s turns p

heard-now : (s : Setting) (handed signed : List Claim) (c : Claim) → From s handed signed c → IsFrom s handed signed c
heard-now s handed signed c (inl m) = inl (mem-Contains handed c m.0, m.1)
heard-now s handed signed c (inr m) = inr (mem-Contains signed c m)

module _ (s : Setting) (turns : List Turn) where
  module _ (p q : Process) (grow : (old : Process) → HasGrown old p → HasGrown old q) where
    pub certifies-on : (v : View) (st : Statement) → Certifies s turns p v st → Certifies s turns q v st
    certifies-on v st c = record { moment = c.moment; grown = grow c.moment c.grown; at = c.at; certified = c.certified; heard = c.heard }

    pub reach-on : (v : View) (n : ℕ) → Reach s turns p v n → Reach s turns q v n
    reach-on v n (none e) = none e
    reach-on v n (kept k b c le) = kept k b (certifies-on v (Keep v.number k b) c) le
    reach-on v n (closed r w c le) = closed r w (certifies-on v (Ready v.number r w) c) le

    pub view-on : (v : View) (ds : List Delivered) → ViewSo s turns p v ds → ViewSo s turns q v ds
    view-on v ds so = record {
      batches = so.batches;
      as_placed = so.as_placed;
      count = so.count;
      places = λ k b at. certifies-on v _ (so.places k b at);
      payloads = λ k d at. certifies-on v _ (so.payloads k d at);
      reach = reach-on v (places_in ds) so.reach;
    }

    left-on : (i : ℕ) (l : Left) → LeftSo s turns p i l → LeftSo s turns q i l
    left-on i l so =
        let more = grow p (grown-self p) in
        record {
          number = so.number;
          rank = so.rank;
          value = so.value;
          possible = so.possible;
          decided = certifies-on l.view _ so.decided;
          next = subst (λ vs. slice_get vs (suc i) ≡ Some (next_view l.view so.value.update)) more.views.1
              (slice_get-front (views_of p) more.views.0 (suc i) (next_view l.view so.value.update) so.next);
          whole = λ member. so.whole (subst (λ me. is_member l.view me ≡ true) more.me member);
          so = view-on l.view l.delivered so.so;
        }

    halting-on : Halting s turns p → Halting s turns q
    halting-on h = record {
      view = h.view;
      rank = h.rank;
      value = h.value;
      decided = certifies-on h.view _ h.decided;
      length = h.length;
      reach = reach-on h.view h.length h.reach;
      beyond = h.beyond;
    }

  -- nothing is delivered yet
  nothing-yet : (p : Process) (v : View) → ViewSo s turns p v []
  nothing-yet p v = record {
    batches = [];
    as_placed = refl;
    count = refl;
    places = λ k b at. absurd cc;
    payloads = λ k d at. absurd cc;
    reach = none refl;
  }

  -- what is certified now
  now : (p : Process) → EachDue s turns p → (st : Statement) → is_certified p.pool st ≡ true → Certifies s turns p p.pool.view st
  now p due st e = record {
    moment = p;
    grown = grown-self p;
    at = refl;
    certified = e;
    heard = λ k d lt. heard-now s (handed_to turns) p.signed _
        (due.heard _ (slice_get-mem p.pool.heard k _ (slice_get-index p.pool.heard k d lt)));
  }

  -- the next place may be delivered
  further : (p : Process) → History s turns p → places_in p.delivered < limit p → Reach s turns p p.pool.view (suc (places_in p.delivered))
  further p ok room = go p.decision refl room
    where
      go : (o : Option (ℕ × Value)) → p.decision ≡ o
          → places_in p.delivered < option_map_or (λ (d : ℕ × Value). d.1.cut) o (fixed_length p.pool)
          → Reach s turns p p.pool.view (suc (places_in p.delivered))
      go (Some d) e lt = closed d.0 d.1 (ok.decided d e) (omega (arith, lt))
      go None e lt = by-keep (fold-attained (filter_map (λ (c : Claim). place_kept p.pool c.statement) p.pool.heard) 0)
        where
          by-keep : (fixed_length p.pool ≡ 0)
              ⊎ ((k : ℕ) × Mem k (filter_map (λ (c : Claim). place_kept p.pool c.statement) p.pool.heard) × (fixed_length p.pool ≡ k + 1))
              → Reach s turns p p.pool.view (suc (places_in p.delivered))
          by-keep (inl zero') = absurd (omega (arith, lt, zero'))
          by-keep (inr found) =
              let c = filter_map-mem (λ (c : Claim). place_kept p.pool c.statement) p.pool.heard found.0 found.1 in
              let m = kept-is p.pool c.0.statement found.0 c.2 in
              let top = found.2 in
              kept found.0 m.0 (now p ok.due (Keep p.pool.view.number found.0 m.0)
              (subst (λ x. is_certified p.pool (Keep x found.0 m.0) ≡ true) (ok.current c.0 c.1) m.1)) (omega (arith, lt, top))

  -- ---- what each change keeps

  same : (p q : Process) → ((old : Process) → HasGrown old p → HasGrown old q) → EachDue s turns q
      → ((c : Claim) → Mem c q.pool.heard → view_of c.statement ≡ q.pool.view.number)
      → p.left ≡ q.left → p.pool.view ≡ q.pool.view → p.delivered ≡ q.delivered → p.decision ≡ q.decision → p.halted ≡ q.halted
      → History s turns p → History s turns q
  same p q grow due current left view delivered decision halted ok = record {
    due = due;
    current = current;
    number = sym (ap (λ (v : View). v.number) view) ∙ ok.number ∙ ap length left;
    possible = λ d e. subst (λ (v : View). is_possible (keyed s) v d.1.update ≡ true) view (ok.possible d (decision ∙ e));
    decided = λ d e. subst (λ (v : View). Certifies s turns q v (Ready v.number d.0 d.1)) view
        (certifies-on p q grow p.pool.view (Ready p.pool.view.number d.0 d.1) (ok.decided d (decision ∙ e)));
    so = subst (λ (v : View). ViewSo s turns q v q.delivered) view
        (subst (ViewSo s turns q p.pool.view) delivered (view-on p q grow p.pool.view p.delivered ok.so));
    lefts = λ i l at. left-on p q grow i l (ok.lefts i l (ap (λ ls. slice_get ls i) left ∙ at));
    halts = λ e. halting-on p q grow (ok.halts (halted ∙ e));
  }

  one-more : (p : Process) {c : Claim} → view_of c.statement ≡ p.pool.view.number → History s turns p → (d : Claim)
      → Mem d p.pool.heard ⊎ (c ≡ d) → view_of d.statement ≡ p.pool.view.number
  one-more p e ok d (inl before) = ok.current d before
  one-more p e ok d (inr is) = sym (ap (λ (c : Claim). view_of c.statement) is) ∙ e

  own : (p : Process) (signer : Signer) (st : Statement) → may_sign s p st ≡ true → History s turns p → (d : Claim) (b : Bool)
      → Mem d (if b then p.pool.heard else p.pool.heard ++ own_claim s signer p st ∷ []) → view_of d.statement ≡ p.pool.view.number
  own p signer st may ok d true m = ok.current d m
  own p signer st may ok d false m = one-more p {c = own_claim s signer p st} (signing-view s p st may) ok d
      (snoc-mem p.pool.heard (own_claim s signer p st) d m)

  module _ (p : Process) (k : ℕ) (level : places_in p.delivered ≡ k) (b : Batch) (ds : List Delivered) (e : delivery p.pool k b ≡ Some ds)
      (placed : Certifies s turns p p.pool.view (Place p.pool.view.number k b)) where
    -- what is certified as it is delivered
    payloads-too : History s turns p → (i : ℕ) (d : Delivered) → slice_get (p.delivered ++ ds) i ≡ Some d
        → Certifies s turns p p.pool.view (Echo p.pool.view.number d.message d.payload)
    payloads-too ok i d at = elim (get-append p.delivered ds i d at) [
      | inl before ↦ ok.so.payloads i d before
      | inr end ↦ now p ok.due (Echo p.pool.view.number d.message d.payload)
          (payload-certified p.pool d.message d.payload (delivery-paid p.pool k b ds e d (slice_get-mem ds end.0 d end.2)))
    ]

    -- a place that holds none changes nothing, others come behind
    with-place : (ok : History s turns p) → Reach s turns p p.pool.view (suc k) → ViewSo s turns p p.pool.view (p.delivered ++ ds)
    with-place ok reach = go ds refl
      where
        go : (es : List Delivered) → ds ≡ es → ViewSo s turns p p.pool.view (p.delivered ++ ds)
        go [] none' = subst (ViewSo s turns p p.pool.view) (sym (ap (λ es. p.delivered ++ es) none' ∙ append-nil p.delivered)) ok.so
        go (d ∷ more) some =
            let one' : places_in (p.delivered ++ ds)
            ≡ suc k = ap (λ es. places_in (p.delivered ++ es)) some ∙ places-one-more p.delivered more d
            (subst (λ n. AreAt n (d ∷ more)) (sym level) (subst (AreAt k) some (delivery-at p.pool k b ds e))) ∙ ap suc level in
            let long : length ok.so.batches ≡ k = sym ok.so.count ∙ level in
            record {
              batches = ok.so.batches ++ b ∷ [];
              as_placed = map-append named_at p.delivered ds ∙
                  (λ i. ok.so.as_placed i ++ (delivery-names p.pool k b ds e ∙ ap (λ n. map (with_place n) b) (sym long)) i) ∙ sym
                  (spread-snoc ok.so.batches b);
              count = one' ∙ ap suc (sym long) ∙ sym (length-snoc ok.so.batches b);
              places = λ j c at. elim (slice_get-snoc ok.so.batches b j c at) [
                | inl before ↦ ok.so.places j c before
                | inr end ↦ subst (λ j. Certifies s turns p p.pool.view (Place p.pool.view.number j c)) (sym (end.0 ∙ long))
                    (subst (λ c. Certifies s turns p p.pool.view (Place p.pool.view.number k c)) end.1 placed)
              ];
              payloads = payloads-too ok;
              reach = subst (Reach s turns p p.pool.view) (sym one') reach;
            }

  delivering : (p : Process) (ds : List Delivered) → deliverable p ≡ Some ds → places_in p.delivered < limit p → History s turns p
      → let q : Process = record p { delivered = p.delivered ++ ds } in ((old : Process) → HasGrown old p → HasGrown old q)
      → EachDue s turns q → History s turns q
  delivering p ds e room ok grow due =
      let q : Process = record p { delivered = p.delivered ++ ds } in
      let b = next-place p ds e in
      let placed = now p ok.due (Place p.pool.view.number (places_in p.delivered) b.0)
      (place-certified p.pool (places_in p.delivered) b.0 b.1) in
      record {
        due = due;
        current = ok.current;
        number = ok.number;
        possible = ok.possible;
        decided = λ d e. certifies-on p q grow p.pool.view _ (ok.decided d e);
        so = view-on p q grow p.pool.view (p.delivered ++ ds)
            (with-place p (places_in p.delivered) refl b.0 ds b.2 placed ok (further p ok room));
        lefts = λ i l at. left-on p q grow i l (ok.lefts i l at);
        halts = λ e. halting-on p q grow (ok.halts e);
      }

  leaving : (p : Process) (d : ℕ × Value) → p.decision ≡ Some d → (is_member p.pool.view p.me ≡ true → places_in p.delivered ≡ d.1.cut)
      → History s turns p → ((old : Process) → HasGrown old p → HasGrown old (install d p)) → EachDue s turns (install d p)
      → History s turns (install d p)
  leaving p d decided whole ok grow due =
      let q : Process = install d p in
      record {
        due = due;
        current = λ c m. absurd m;
        number = (let longer = length-snoc p.left (last p d) in let before = ok.number in omega (arith, longer, before));
        possible = λ d e. absurd cc;
        decided = λ d e. absurd cc;
        so = nothing-yet _ _;
        lefts = λ i l at. elim (slice_get-snoc p.left (last p d) i l at) [
          | inl before ↦ left-on p q grow i l (ok.lefts i l before)
          | inr end ↦ subst (λ i. LeftSo s turns q i l) (sym end.0) (subst (LeftSo s turns q (length p.left)) end.1 (record {
            number = ok.number;
            rank = d.0;
            value = d.1;
            possible = ok.possible d decided;
            decided = certifies-on p q grow p.pool.view _ (ok.decided d decided);
            next = slice_get-last (map (λ (l : Left). l.view) q.left) q.pool.view (suc (length p.left))
                (sym (length-map q.left (λ (l : Left). l.view) ∙ length-snoc p.left (last p d)));
            whole = whole;
            so = view-on p q grow p.pool.view p.delivered ok.so;
          }))
        ];
        halts = λ e. halting-on p q grow (ok.halts e);
      }

  stopping : (p : Process) (d : ℕ × Value) → p.decision ≡ Some d → History s turns p
      → let q : Process = record p { halted = nat_lt d.1.cut (places_in p.delivered) } in ((old : Process) → HasGrown old p
      → HasGrown old q)
      → EachDue s turns q → History s turns q
  stopping p d decided ok grow due =
      let q : Process = record p { halted = nat_lt d.1.cut (places_in p.delivered) } in
      record {
        due = due;
        current = ok.current;
        number = ok.number;
        possible = ok.possible;
        decided = λ d e. certifies-on p q grow p.pool.view _ (ok.decided d e);
        so = view-on p q grow p.pool.view p.delivered ok.so;
        lefts = λ i l at. left-on p q grow i l (ok.lefts i l at);
        halts = λ e. record {
          view = p.pool.view;
          rank = d.0;
          value = d.1;
          decided = certifies-on p q grow p.pool.view _ (ok.decided d decided);
          length = places_in p.delivered;
          reach = reach-on p q grow p.pool.view (places_in p.delivered) ok.so.reach;
          beyond = ltb-true d.1.cut (places_in p.delivered) e;
        };
      }

  pub history-keeps : Keeps s (handed_to turns) (History s turns)
  history-keeps = record {
    accepts = λ p payload ok. same p (record p { accepted = p.accepted ++ payload ∷ [] })
        (λ old g. (grows s (handed_to turns) old).accepts p payload g)
        ((was.keeps s turns).accepts p payload ok.due) ok.current refl refl refl refl refl ok;
    perceives = λ p e ok. same p (record p { perceived = put perceived_numbers e p.perceived })
        (λ old g. (grows s (handed_to turns) old).perceives p e g)
        ((was.keeps s turns).perceives p e ok.due) ok.current refl refl refl refl refl ok;
    hears = λ p c m e ok. same p (with_heard p c) (λ old g. (grows s (handed_to turns) old).hears p c m e g)
        ((was.keeps s turns).hears p c m e ok.due)
        (λ d there. one-more p (verdict-view s p c e) ok d (snoc-mem p.pool.heard c d there)) refl refl refl refl refl ok;
    doubts = λ p conflicts ok. same p (record p { conflicts = conflicts }) (λ old g. (grows s (handed_to turns) old).doubts p conflicts g)
        ((was.keeps s turns).doubts p conflicts ok.due) ok.current refl refl refl refl refl ok;
    signs = λ p signer st next none' ok. same p (signs s signer p st)
        (λ old g. (grows s (handed_to turns) old).signs p signer st next none' g) ((was.keeps s turns).signs p signer st next none' ok.due)
        (λ d there. own p signer st next.may ok d (is_some (heard_on p.pool p.me (slot_of st))) there) refl refl refl refl refl ok;
    decides = λ p ok.
        let grow : (old : Process) → HasGrown old p → HasGrown old (decide s p) = λ old g. (grows s (handed_to turns) old).decides p g in
        record {
          due = (was.keeps s turns).decides p ok.due;
          current = ok.current;
          number = ok.number;
          possible = λ d e. elim (option_or-is p.decision (decided_by s p.pool) d e) [
            | inl before ↦ ok.possible d before
            | inr by ↦
                (decided_by-is s p.pool d by).0
          ];
          decided = λ d e. certifies-on p (decide s p) grow p.pool.view (Ready p.pool.view.number d.0 d.1)
              (elim (option_or-is p.decision (decided_by s p.pool) d e) [
                | inl before ↦ ok.decided d before
                | inr by ↦ now p ok.due
                    (Ready p.pool.view.number d.0 d.1) (decided_by-is s p.pool d by).1
              ]);
          so = view-on p (decide s p) grow p.pool.view p.delivered ok.so;
          lefts = λ i l at. left-on p (decide s p) grow i l (ok.lefts i l at);
          halts = λ e. halting-on p (decide s p) grow (ok.halts e);
        };
    delivers = λ p ds member room e ok. delivering p ds e room ok (λ old g. (grows s (handed_to turns) old).delivers p ds member room e g)
        ((was.keeps s turns).delivers p ds member room e ok.due);
    installs = λ p d decided whole ok. leaving p d decided whole ok (λ old g. (grows s (handed_to turns) old).installs p d decided whole g)
        ((was.keeps s turns).installs p d decided whole ok.due);
    halts = λ p d decided member ok. stopping p d decided ok (λ old g. (grows s (handed_to turns) old).halts p d decided member g)
        ((was.keeps s turns).halts p d decided member ok.due);
  }

  pub history-start : (me limit : ℕ) → s.genesis.number ≡ 0 → History s turns (start s me limit)
  history-start me limit first = record {
    due = record { heard = λ c m. absurd m; dues = λ i st at. absurd cc };
    current = λ c m. absurd m;
    number = first;
    possible = λ d e. absurd cc;
    decided = λ d e. absurd cc;
    so = nothing-yet _ _;
    lefts = λ i l at. absurd cc;
    halts = λ e. absurd cc;
  }
