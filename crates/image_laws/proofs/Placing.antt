-- What is delivered stays fit to be kept.
use Rattle.std.proofs.Common.{◌≡◌, ◌⊎◌, ℕ, zero, suc, ◌+◌, ◌<◌, ◌≤◌, max, List, [], ◌∷◌, ◌++◌, length, map, Bool, true, false, Option, Some, None, refl, sym, ap, ◌∙◌, subst, arith, inl, inr}
use Rattle.std.specs.Prelude.{if◌then◌else◌, ◌==◌, fold, is_some, flat_map, option_map, option_and_then, All, nat_lt}
use Rattle.std.specs.List.{range_with_len}
use Rattle.std.proofs.lemmas.Bool.{eq-eqb, eqb-true, leb-true, ltb-true, ltb-false}
use Rattle.std.proofs.lemmas.List.{append-nil, append_assoc, length-map}
use Rattle.std.proofs.lemmas.List.Elements.{filter-append}
use Rattle.message_defs.specs.Limits.{last_number, most_messages, most_places}
use Rattle.message_defs.specs.Statements.{Message, Batch, Statement, Init, Echo, Order, Place, Keep, Notify, End, Last, Suggest, Ack, Ready, Claim, PlaceAt, EchoAt, slot_of, batch_of, payload_of}
use Rattle.group_defs.specs.Views.{is_member}
use Rattle.group_defs.specs.Process.{Setting, Pool, Delivered, Left, Process, deliveries_of, places_in}
use Rattle.group_defs.specs.Certified.{claim_on, heard_on, certified_on, place_at, payload_at, number_of_members}
use Rattle.group_defs.specs.Due.{may_sign, is_batch}
use Rattle.group_defs.specs.Settle.{deliverable, delivery}
use Rattle.group_defs.specs.Signing.{Signer, signs, own_claim}
use Rattle.group_defs.specs.Accounts.{IsByPlace, at_place, batch_at}
use Rattle.group_defs.specs.Family.{claims_in}
use Rattle.group_defs.specs.Events.{after}
use Rattle.pool_laws.proofs.Grown.{certified-stays}
use Rattle.pool_laws.proofs.Heard.{certified-heard, place-certified, rank-says}
use Rattle.pool_laws.proofs.Members.{Mem, All-mem, mem-All, append-mem, each-snoc, list_any-mem, map-mem, mem-map, mem-append, mem-behind, mem-some, snoc-mem}
use Rattle.pool_laws.proofs.Tests.{and-first, and-second, then-some}
use Rattle.safety_laws.proofs.Batches.{AreAt, delivery-at, delivery-names, delivery-paid, named_at, next-place, places-one-more, with_place}
use Rattle.safety_laws.proofs.Induction.{Keeps, AreFrom, after-keeps}
use Rattle.safety_laws.proofs.MaySign.{signing-due}
use Rattle.image_laws.specs.Keeping.{InRange, PlacedIsKept}
use Rattle.image_laws.proofs.Hearing.{passed-more}

-- ---- of a process

abbrev pub FitsPlaces : List Delivered → Type 0
FitsPlaces ds = IsByPlace ds × (places_in ds ≤ most_places)

record Placed (p : Process) : Type 0 where
  pub lefts : (l : Left) → Mem l p.left → FitsPlaces l.delivered
  pub here : FitsPlaces p.delivered
  pub outside : is_member p.pool.view p.me ≡ false → p.delivered ≡ []
  pub placed : (k : ℕ) → k < places_in p.delivered → place_at p.pool k ≡ Some (batch_at k p.delivered)
  pub paid : (d : Delivered) → Mem d p.delivered → payload_at p.pool d.message ≡ Some d.payload
  pub in_range : (c : Claim) → Mem c p.pool.heard → InRange c.statement

-- who has delivered is a member
member-is : (p : Process) → Placed p → (p.delivered ≡ [] → ⊥) → is_member p.pool.view p.me ≡ true
member-is p ok some = go (is_member p.pool.view p.me) refl
  where
    go : (b : Bool) → is_member p.pool.view p.me ≡ b → is_member p.pool.view p.me ≡ true
    go true e = e
    go false e = absurd (some (ok.outside e))

members-some : (p : Process) → is_member p.pool.view p.me ≡ true → 1 ≤ number_of_members p.pool
members-some p member = let me = list_any-mem (λ q. q == p.me) p.pool.view.members member in mem-some p.pool.view.members me.0 me.1

-- ---- one claim more

none-is : (o : Option Claim) → is_some (option_map (λ (c : Claim). c.statement) o) ≡ false → o ≡ None
none-is None e = refl
none-is (Some c) e = absurd cc

abbrev with-claim : Process → Claim → Process
with-claim p c = record p { pool = record { view = p.pool.view; heard = p.pool.heard ++ c ∷ [] } }

none-delivered : (p : Process) → p.delivered ≡ [] → places_in p.delivered ≡ 0
none-delivered p e = ap places_in e

hears-one : (p : Process) (c : Claim) → is_some (heard_on p.pool c.signer (slot_of c.statement)) ≡ false → InRange c.statement → Placed p
    → Placed (with-claim p c)
hears-one p c fresh within ok = record {
  lefts = ok.lefts;
  here = ok.here;
  outside = ok.outside;
  placed = λ k lt.
      (let some = members-some p (member-is p ok (λ none. (let zero' = none-delivered p none in omega (arith, lt, zero')))) in
      let was = then-some batch_of (certified_on p.pool (PlaceAt p.pool.view.number k)) (batch_at k p.delivered) (ok.placed k lt) in
      ap (option_and_then batch_of) (certified-stays p.pool c none some (PlaceAt p.pool.view.number k) was.0 was.1) ∙ was.2);
  paid = λ d m.
      (let some = members-some p (member-is p ok (λ none. absurd (subst (Mem d) none m))) in
      let was = then-some payload_of (certified_on p.pool (EchoAt p.pool.view.number d.message)) d.payload (ok.paid d m) in
      ap (option_and_then payload_of) (certified-stays p.pool c none some (EchoAt p.pool.view.number d.message) was.0 was.1) ∙ was.2);
  in_range = each-snoc (λ (d : Claim). InRange d.statement) p.pool.heard c ok.in_range within;
}
  where
    none : claim_on p.pool.heard c.signer (slot_of c.statement) ≡ None
    none = none-is (claim_on p.pool.heard c.signer (slot_of c.statement)) fresh

-- what may be signed is in range
signs-in-range : (s : Setting) (p : Process) (st : Statement) → may_sign s p st ≡ true → Placed p → InRange st
signs-in-range s p (Order x k b) may ok =
    leb-true k last_number (and-second _ _ (and-first _ _ (and-first _ _ (signing-due s p (Order x k b) may))))
signs-in-range s p (Place x k b) may ok =
    let due = signing-due s p (Place x k b) may in
    let said = rank-says p 0 (Order x k b) (and-first _ _ (and-first _ _ (and-first _ _ (and-first _ _ (and-first _ _ due))))) in
    let batch : is_batch b ≡ true = and-second _ _ (and-first _ _ (and-first _ _ due)) in (
      subst InRange said.1.3 (ok.in_range said.1.0 said.1.1),
      ltb-true 0 (length b) (and-first _ _ batch),
      leb-true (length b) most_messages (and-second _ _ batch),
    )
signs-in-range s p (Init x l payload) may ok = tt
signs-in-range s p (Echo x m payload) may ok = tt
signs-in-range s p (Keep x k b) may ok = tt
signs-in-range s p (Notify x u) may ok = tt
signs-in-range s p (End x k) may ok = tt
signs-in-range s p (Last x r ready) may ok = tt
signs-in-range s p (Suggest x r v) may ok = tt
signs-in-range s p (Ack x r v) may ok = tt
signs-in-range s p (Ready x r v) may ok = tt

same : (p q : Process) → q.left ≡ p.left → q.delivered ≡ p.delivered → q.pool ≡ p.pool → q.me ≡ p.me → Placed p → Placed q
same p q left del pool me ok = record {
  lefts = λ l m. ok.lefts l (subst (Mem l) left m);
  here = subst FitsPlaces (sym del) ok.here;
  outside = λ e. del ∙ ok.outside ((λ i. is_member (sym pool i).view (sym me i)) ∙ e);
  placed = λ k lt. (λ i. place_at (pool i) k) ∙ ok.placed k (subst (λ ds. k < places_in ds) del lt) ∙ (λ i. Some (batch_at k (sym del i)));
  paid = λ d m. (λ i. payload_at (pool i) d.message) ∙ ok.paid d (subst (Mem d) del m);
  in_range = λ c m. ok.in_range c (subst (λ (h : Pool). Mem c h.heard) pool m);
}

signs-one : (s : Setting) (p : Process) (signer : Signer) (st : Statement) → may_sign s p st ≡ true → Placed p → Placed (signs s signer p st)
signs-one s p signer st may ok = go (is_some (heard_on p.pool p.me (slot_of st))) refl
  where
    go : (b : Bool) → is_some (heard_on p.pool p.me (slot_of st)) ≡ b
        → Placed (record p { signed = p.signed ++ own_claim s signer p st ∷ []; pool = record { view = p.pool.view; heard = if b then p.pool.heard else p.pool.heard ++ own_claim s signer p st ∷ [] } })
    go true e = same p _ refl refl refl refl ok
    go false e = same (with-claim p (own_claim s signer p st)) _ refl refl refl refl
        (hears-one p (own_claim s signer p st) e (signs-in-range s p st may ok) ok)

-- ---- one place more

all-at : (k : ℕ) (es : List Delivered) → AreAt k es → at_place k es ≡ es
all-at k [] are = refl
all-at k (e ∷ es) are = go (e.place == k) (eq-eqb e.place k (are e (inl refl))) (all-at k es (λ d m. are d (inr m)))
  where
    go : (b : Bool) → b ≡ true → at_place k es ≡ es → (if b then e ∷ at_place k es else at_place k es) ≡ e ∷ es
    go true is rest = ap (λ xs. e ∷ xs) rest
    go false is rest = absurd cc

none-at : (k : ℕ) (es : List Delivered) → ((e : Delivered) → Mem e es → e.place ≡ k → ⊥) → at_place k es ≡ []
none-at k [] other = refl
none-at k (e ∷ es) other = go (e.place == k) refl (none-at k es (λ d m. other d (inr m)))
  where
    go : (b : Bool) → (e.place == k) ≡ b → at_place k es ≡ [] → (if b then e ∷ at_place k es else at_place k es) ≡ []
    go true is rest = absurd (other e (inl refl) (eqb-true e.place k is))
    go false is rest = rest

-- each place is below how many there are
below-from : (n : ℕ) (ds : List Delivered) → (n ≤ fold (λ most d. max most (d.place + 1)) n ds)
    × ((d : Delivered) → Mem d ds → d.place < fold (λ most d. max most (d.place + 1)) n ds)
below-from n [] = ((omega arith), λ d m. absurd m)
below-from n (e ∷ ds) =
    let rest = below-from (max n (e.place + 1)) ds in (
      (let le = rest.0 in omega (arith, le)),
      λ d m. elim m [
        | inl is ↦ subst (λ (x : Delivered). x.place < fold (λ most d. max most (d.place + 1)) (max n (e.place + 1)) ds) is (let le = rest.0 in omega (arith, le))
        | inr there ↦ rest.1 d there
      ],
    )

below : (ds : List Delivered) (d : Delivered) → Mem d ds → d.place < places_in ds
below ds d m = (below-from 0 ds).1 d m

flat_map-same : (g h : ℕ → List Delivered) (a n : ℕ) → ((k : ℕ) → a ≤ k → k < a + n → g k ≡ h k)
    → flat_map g (range_with_len a n) ≡ flat_map h (range_with_len a n)
flat_map-same g h a zero same' = refl
flat_map-same g h a (suc n) same' = λ i. same' a (omega arith) (omega arith) i ++ flat_map-same g h (a + 1) n (λ k le lt. same' k (omega (arith, le)) (omega (arith, lt))) i

flat_map-last : (g : ℕ → List Delivered) (a n : ℕ) → flat_map g (range_with_len a (suc n)) ≡ flat_map g (range_with_len a n) ++ g (a + n)
flat_map-last g a zero = append-nil (g a) ∙ (let here : a ≡ a + 0 = omega arith in ap g here)
flat_map-last g a (suc n) =
    ap (λ xs. g a ++ xs) (flat_map-last g (a + 1) n) ∙ sym (append_assoc (g a) (flat_map g (range_with_len (a + 1) n)) (g (a + 1 + n)))
    ∙ (let further : a + 1 + n ≡ a + suc n = omega arith in ap (λ k. (g a ++ flat_map g (range_with_len (a + 1) n)) ++ g k) further)

module _ (p : Process) (ds : List Delivered) (ok : Placed p) (member : is_member p.pool.view p.me ≡ true) (e : deliverable p ≡ Some ds) where
  abbrev k : ℕ
  k = places_in p.delivered

  next : (b : Batch) × (place_at p.pool k ≡ Some b) × (delivery p.pool k b ≡ Some ds)
  next = next-place p ds e

  at : AreAt k ds
  at = delivery-at p.pool k next.0 ds next.2

  range : (k ≤ last_number) × (1 ≤ length next.0) × (length next.0 ≤ most_messages)
  range =
      let said = certified-heard p.pool (Place p.pool.view.number k next.0) p.me member (place-certified p.pool k next.0 next.1) in
      subst InRange said.1.3 (ok.in_range said.1.0 said.1.1)

  names : map (λ (d : Delivered). d.message) ds ≡ next.0
  names = sym (map-map' ds) ∙ ap (map (λ (x : ℕ × Message). x.1)) (delivery-names p.pool k next.0 ds next.2) ∙ seconds next.0
    where
      map-map' : (xs : List Delivered) → map (λ (x : ℕ × Message). x.1) (map named_at xs) ≡ map (λ (d : Delivered). d.message) xs
      map-map' [] = refl
      map-map' (x ∷ xs) = ap (λ ys. x.message ∷ ys) (map-map' xs)

      seconds : (ms : Batch) → map (λ (x : ℕ × Message). x.1) (map (with_place k) ms) ≡ ms
      seconds [] = refl
      seconds (m ∷ ms) = ap (λ ns. m ∷ ns) (seconds ms)

  long : length ds ≡ length next.0
  long = sym (length-map ds (λ (d : Delivered). d.message)) ∙ ap (λ (ms : List Message). length ms) names

  more : places_in (p.delivered ++ ds) ≡ suc k
  more = go ds refl
    where
      go : (es : List Delivered) → ds ≡ es → places_in (p.delivered ++ ds) ≡ suc k
      go [] is = absurd (let none = ap (λ (xs : List Delivered). length xs) is in let some = range.1 in omega (arith, none, long, some))
      go (d ∷ es) is = ap (λ xs. places_in (p.delivered ++ xs)) is ∙ places-one-more p.delivered es d (subst (AreAt k) is at)

  earlier-at : (j : ℕ) → j < k → at_place j (p.delivered ++ ds) ≡ at_place j p.delivered
  earlier-at j lt =
      filter-append (λ (d : Delivered). d.place == j) p.delivered ds
      ∙ ap (λ xs. at_place j p.delivered ++ xs) (none-at j ds (λ d m is. (let there = at d m in omega (arith, there, is, lt))))
      ∙ append-nil (at_place j p.delivered)

  last-at : at_place k (p.delivered ++ ds) ≡ ds
  last-at =
      filter-append (λ (d : Delivered). d.place == k) p.delivered ds
      ∙ (λ i. none-at k p.delivered (λ d m is. (let lt = below p.delivered d m in omega (arith, lt, is))) i ++ all-at k ds at i)

  stands : FitsPlaces (p.delivered ++ ds)
  stands = (
    record {
      together = ap (λ n. flat_map (λ j. at_place j (p.delivered ++ ds)) (range_with_len 0 n)) more
          ∙ flat_map-last (λ j. at_place j (p.delivered ++ ds)) 0 k
          ∙ (λ i. flat_map-same (λ j. at_place j (p.delivered ++ ds)) (λ j. at_place j p.delivered) 0 k (λ j le lt. earlier-at j (omega (arith, lt))) i
          ++ at_place (zero-plus i) (p.delivered ++ ds))
          ∙ (λ i. ok.here.0.together i ++ last-at i);
      batches = λ j lt. each j (cases j (subst (λ n. j < n) more lt));
    },
    (let within = range.0 in omega (arith, more, within)),
  )
    where
      zero-plus : 0 + k ≡ k
      zero-plus = omega arith

      cases : (j : ℕ) → j < suc k → (j < k) ⊎ (j ≡ k)
      cases j lt = go (nat_lt j k) refl
        where
          go : (b : Bool) → nat_lt j k ≡ b → (j < k) ⊎ (j ≡ k)
          go true e' = inl (ltb-true j k e')
          go false e' = inr (let ge = ltb-false j k e' in omega (arith, ge, lt))

      each : (j : ℕ) → (j < k) ⊎ (j ≡ k) → (1 ≤ length (at_place j (p.delivered ++ ds))) × (length (at_place j (p.delivered ++ ds)) ≤ most_messages)
      each j (inl before) = subst (λ xs. (1 ≤ length xs) × (length xs ≤ most_messages)) (sym (earlier-at j before)) (ok.here.0.batches j before)
      each j (inr here) = subst (λ (j : ℕ). (1 ≤ length (at_place j (p.delivered ++ ds))) × (length (at_place j (p.delivered ++ ds)) ≤ most_messages)) (sym here)
          (subst (λ xs. (1 ≤ length xs) × (length xs ≤ most_messages)) (sym last-at)
          ((let some = range.1 in omega (arith, some, long)), (let few = range.2 in omega (arith, few, long))))

  placed-more : (j : ℕ) → j < places_in (p.delivered ++ ds) → place_at p.pool j ≡ Some (batch_at j (p.delivered ++ ds))
  placed-more j lt = go (nat_lt j k) refl
    where
      go : (b : Bool) → nat_lt j k ≡ b → place_at p.pool j ≡ Some (batch_at j (p.delivered ++ ds))
      go true e' = let before = ltb-true j k e' in ok.placed j before ∙ ap (λ xs. Some (map (λ (d : Delivered). d.message) xs)) (sym (earlier-at j before))
      go false e' =
          let here : k ≡ j = (let ge = ltb-false j k e' in omega (arith, ge, lt, more)) in
          subst (λ (j : ℕ). place_at p.pool j ≡ Some (batch_at j (p.delivered ++ ds))) here
          (next.1 ∙ ap Some (sym (ap (map (λ (d : Delivered). d.message)) last-at ∙ names)))

  paid-more : (d : Delivered) → Mem d (p.delivered ++ ds) → payload_at p.pool d.message ≡ Some d.payload
  paid-more d m = elim (append-mem p.delivered ds d m) [ inl before ↦ ok.paid d before | inr new ↦ delivery-paid p.pool k next.0 ds next.2 d new ]

  delivers-one : Placed (record p { delivered = p.delivered ++ ds })
  delivers-one = record {
    lefts = ok.lefts;
    here = stands;
    outside = λ out. absurd (not-both (sym member ∙ out));
    placed = placed-more;
    paid = paid-more;
    in_range = ok.in_range;
  }
    where
      not-both : true ≡ false → ⊥
      not-both e' = absurd cc

-- ---- each change

pub nothing-stands : FitsPlaces []
nothing-stands = (record { together = refl; batches = λ k lt. absurd (omega (arith, lt)) }, omega arith)

keeps-placed : (s : Setting) (from : List Claim) → ((c : Claim) → Mem c from → InRange c.statement) → Keeps s from Placed
keeps-placed s from all = record {
  accepts = λ p payload ok. same p _ refl refl refl refl ok;
  perceives = λ p e ok. same p _ refl refl refl refl ok;
  hears = λ p c m e ok. hears-one p c (passed-more s p c e).1 (all c m) ok;
  doubts = λ p conflicts ok. same p _ refl refl refl refl ok;
  signs = λ p signer st next none ok. signs-one s p signer st next.may ok;
  decides = λ p ok. same p _ refl refl refl refl ok;
  delivers = λ p ds member room e ok. delivers-one p ds ok member e;
  installs = λ p d decided whole ok. record {
    lefts = each-snoc (λ (l : Left). FitsPlaces l.delivered) p.left _ ok.lefts ok.here;
    here = nothing-stands;
    outside = λ out. refl;
    placed = λ k lt. absurd (omega (arith, lt));
    paid = λ d m. absurd m;
    in_range = λ c m. absurd m;
  };
  halts = λ p d decided member ok. same p _ refl refl refl refl ok;
}

-- ---- the law

pub all-deliveries : (P : List Delivered → Type 0) (p : Process) → ((l : Left) → Mem l p.left → P l.delivered) → P p.delivered → All P (deliveries_of p)
all-deliveries P p lefts here = mem-All P (deliveries_of p)
    (λ ds m. elim (snoc-mem (map (λ (l : Left). l.delivered) p.left) p.delivered ds m) [
      | inl before ↦ (let l = map-mem (λ (l : Left). l.delivered) p.left ds before in subst P l.2 (lefts l.0 l.1))
      | inr now ↦ subst P now here
    ])

pub placed_is_kept : PlacedIsKept
placed_is_kept s p t handed fits =
    let of : (P : List Delivered → Type 0) → All P (deliveries_of p) → ((ds : List Delivered) → Mem ds (deliveries_of p) → P ds) = (λ P all ds m. All-mem P (deliveries_of p) ds all m) in
    let lefts : (l : Left) → Mem l p.left → Mem l.delivered (deliveries_of p)
    = (λ l m. mem-append (map (λ (l : Left). l.delivered) p.left) (p.delivered ∷ []) l.delivered (mem-map (λ (l : Left). l.delivered) p.left l m)) in
    let here : Mem p.delivered (deliveries_of p) = mem-behind (map (λ (l : Left). l.delivered) p.left) (p.delivered ∷ []) p.delivered (inl refl) in
    let was : Placed p = record {
      lefts = λ l m. (of IsByPlace fits.by_place l.delivered (lefts l m), of (λ ds. places_in ds ≤ most_places) fits.few_places l.delivered (lefts l m));
      here = (of IsByPlace fits.by_place p.delivered here, of (λ ds. places_in ds ≤ most_places) fits.few_places p.delivered here);
      outside = fits.outside;
      placed = fits.placed;
      paid = λ d m. All-mem (λ (d : Delivered). payload_at p.pool d.message ≡ Some d.payload) p.delivered d fits.paid m;
      in_range = λ c m. All-mem (λ (c : Claim). InRange c.statement) p.pool.heard c fits.in_range m;
    } in
    let now = after-keeps s (claims_in t.event) Placed
    (keeps-placed s (claims_in t.event) (λ c m. All-mem (λ (c : Claim). InRange c.statement) (claims_in t.event) c handed m)) t
    (unfold AreFrom in λ c m. m) p was in
    record {
      by_place = all-deliveries IsByPlace (after s p t) (λ l m. (now.lefts l m).0) now.here.0;
      few_places = all-deliveries (λ ds. places_in ds ≤ most_places) (after s p t) (λ l m. (now.lefts l m).1) now.here.1;
      outside = now.outside;
      placed = now.placed;
      paid = mem-All (λ (d : Delivered). payload_at (after s p t).pool d.message ≡ Some d.payload) (after s p t).delivered now.paid;
      in_range = mem-All (λ (c : Claim). InRange c.statement) (after s p t).pool.heard now.in_range;
    }
