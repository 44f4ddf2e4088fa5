-- Each change keeps whose place the own place is.
use Rattle.std.proofs.Common.{◌≡◌, inl, inr, ℕ, suc, ◌+◌, ◌≤◌, max, List, [], ◌∷◌, ◌++◌, Bool, true, false, Option, None, Some, refl, sym, subst, ap, ◌∙◌, map, arith, length}
use Rattle.std.specs.Prelude.{if◌then◌else◌, ◌==◌, ◌&&◌, sum, is_some, option_map, filter, filter_map, fold}
use Rattle.std.specs.List.{list_any}
use Rattle.std.proofs.lemmas.List.{map-append}
use Rattle.std.proofs.lemmas.List.Sums.{fold-append}
use Rattle.std.proofs.lemmas.Bool.{eqb-true}
use native.Mathlib.Decide.{ℕ_discrete}
use Rattle.byte_defs.specs.Members.{has}
use Rattle.message_defs.specs.Updates.{Update-discrete}
use Rattle.message_defs.specs.Statements.{Message, Message-discrete, Batch, Claim, Statement, Init, Echo, Order, Place, Keep, Notify, End, Last, Suggest, Ack, Ready, Slot-discrete, slot_of, slot_numbers, view_of, same_slot}
use Rattle.group_defs.specs.Views.{View, next_view, rank_of}
use Rattle.group_defs.specs.Process.{Delivered, Left, delivered_from, places_in}
use Rattle.group_defs.specs.Certified.{claim_on, named, messages, ordered, rank_said, readied, higher, certificate}
use Rattle.group_defs.specs.Hearing.{Verdict, Old, Early, Stranger, OutOfWindow, Known, Unsigned, Conflict, Heard, verdict, with_verdict}
use Rattle.rule_laws.specs.Placing.{counts_in}
use Rattle.own_place.specs.Words.{report, slot_key, same_slot_key}
use Rattle.own_place.specs.declared.own.Own.{Own}
use Rattle.own_place.specs.Owns.{IsOwnOf}
use Rattle.own_place.specs.Signed.{has_slot}
use Rattle.pool_laws.proofs.Members.{All-mem, Mem}
use Rattle.pool_laws.proofs.Tests.{yes-is}
use Rattle.safety_laws.proofs.Batches.{AreAt, named_at, with_place, delivery-at, delivery-names, places-one-more, of-one}
use Rattle.member_laws.specs.Telling.{messages_of, HearingKeepsOwn, DeliveredIsCounted, DeliveringCountsOwn, InstallingBeginsOwn}

pub hearing_keeps_own : HearingKeepsOwn
hearing_keeps_own s p h own c is = go (verdict s p c)
  where
    go : (v : Verdict) → IsOwnOf s (with_verdict v p c) (with_verdict v p c).pool own
    go Heard = record {
      pool = refl;
      number = is.number;
      position = is.position;
      keys = is.keys;
      signed = record {
        slots = is.signed.slots;
        end = is.signed.end;
        greatest = is.signed.greatest;
        last_ready = is.signed.last_ready;
        how_many = is.signed.how_many;
        names = is.signed.names;
      };
      delivered = record { places = is.delivered.places; counts = is.delivered.counts };
      before = is.before;
    }
    go Conflict = record {
      pool = refl;
      number = is.number;
      position = is.position;
      keys = is.keys;
      signed = record {
        slots = is.signed.slots;
        end = is.signed.end;
        greatest = is.signed.greatest;
        last_ready = is.signed.last_ready;
        how_many = is.signed.how_many;
        names = is.signed.names;
      };
      delivered = record { places = is.delivered.places; counts = is.delivered.counts };
      before = is.before;
    }
    go Old = record {
      pool = refl;
      number = is.number;
      position = is.position;
      keys = is.keys;
      signed = is.signed;
      delivered = is.delivered;
      before = is.before;
    }
    go Early = record {
      pool = refl;
      number = is.number;
      position = is.position;
      keys = is.keys;
      signed = is.signed;
      delivered = is.delivered;
      before = is.before;
    }
    go Stranger = record {
      pool = refl;
      number = is.number;
      position = is.position;
      keys = is.keys;
      signed = is.signed;
      delivered = is.delivered;
      before = is.before;
    }
    go OutOfWindow = record {
      pool = refl;
      number = is.number;
      position = is.position;
      keys = is.keys;
      signed = is.signed;
      delivered = is.delivered;
      before = is.before;
    }
    go Known = record {
      pool = refl;
      number = is.number;
      position = is.position;
      keys = is.keys;
      signed = is.signed;
      delivered = is.delivered;
      before = is.before;
    }
    go Unsigned = record {
      pool = refl;
      number = is.number;
      position = is.position;
      keys = is.keys;
      signed = is.signed;
      delivered = is.delivered;
      before = is.before;
    }

-- ---- delivering

counts-alike : (m n : ℕ) (ds : List Delivered)
    → fold (λ a (d : Delivered). a + (if d.message.sender == m then 1 else 0)) n ds
    ≡ fold (λ a (x : Message). a + (if x.sender == m then 1 else 0)) n (messages_of ds)
counts-alike m n [] = refl
counts-alike m n (d ∷ ds) = counts-alike m (n + (if d.message.sender == m then 1 else 0)) ds

named-delivered : (m : ℕ) (ds : List Delivered) → delivered_from m ds ≡ named m (messages_of ds)
named-delivered m ds = counts-alike m 0 ds

same-map : {A B : Type 0} (f g : A → B) (xs : List A) → ((x : A) → f x ≡ g x) → map f xs ≡ map g xs
same-map f g [] e = refl
same-map f g (x ∷ xs) e = λ i. e x i ∷ same-map f g xs e i

pub delivered_is_counted : DeliveredIsCounted
delivered_is_counted v ds = same-map (λ m. delivered_from m ds) (λ m. named m (messages_of ds)) v.members (λ m. named-delivered m ds)

seconds : (ds : List Delivered) → map (λ (e : ℕ × Message). e.1) (map named_at ds) ≡ messages_of ds
seconds [] = refl
seconds (d ∷ ds) = ap (λ ms. d.message ∷ ms) (seconds ds)

messages-named : (k : ℕ) (b : Batch) (ds : List Delivered) → map named_at ds ≡ map (with_place k) b → messages_of ds ≡ b
messages-named k b ds e = sym (seconds ds) ∙ ap (map (λ (e : ℕ × Message). e.1)) e ∙ of-one k b

some-more : (ds es : List Delivered) → 1 ≤ length (messages_of es) → AreAt (places_in ds) es → places_in (ds ++ es) ≡ places_in ds + 1
some-more ds [] le at = absurd (omega (arith, le))
some-more ds (e ∷ es) le at = (let more = places-one-more ds es e at in omega (arith, more))

pub delivering_counts_own : DeliveringCountsOwn
delivering_counts_own s p h own own' b ds some e more is = record {
  pool = is.pool;
  number = is.number ∙ part (λ o. o.me);
  position = is.position ∙ part (λ o. o.position);
  keys = λ q. is.keys q ∙ part (λ o. has o.keyed q);
  signed = record {
    slots = λ st x. is.signed.slots st x ∙ part (λ o. has_slot o.signed (slot_of st));
    end = is.signed.end ∙ part (λ o. o.ended);
    greatest = is.signed.greatest ∙ part (λ o. o.rank);
    last_ready = is.signed.last_ready ∙ part (λ o. report o.ready);
    how_many = is.signed.how_many ∙ part (λ o. o.ordered);
    names = is.signed.names ∙ part (λ o. o.orders.items);
  };
  delivered = record {
    places = some-more p.delivered ds (subst (λ ms. 1 ≤ length ms) (sym names) some)
        (delivery-at p.pool (places_in p.delivered) b ds e) ∙ ap (λ n. n + 1) is.delivered.places ∙ sym
        (ap (λ (o : Own). o.delivered) more.rest);
    counts = counts;
  };
  before = is.before ∙ part (λ o. o.earlier);
}
  where
    now : Own
    now = record own { delivered = own.delivered + 1; counts = own'.counts }

    part : {A : Type 0} (f : Own → A) → f now ≡ f own'
    part f = ap f (sym more.rest)

    names : messages_of ds ≡ b
    names = messages-named (places_in p.delivered) b ds (delivery-names p.pool (places_in p.delivered) b ds e)

    counts : map (λ m. delivered_from m (p.delivered ++ ds)) p.pool.view.members ≡ own'.counts.items
    counts =
        delivered_is_counted p.pool.view (p.delivered ++ ds)
        ∙ ap (counts_in p.pool.view) (map-append (λ (d : Delivered). d.message) p.delivered ds ∙ ap
        (λ ms. messages_of p.delivered ++ ms) names)
        ∙ sym (more.counts (sym is.delivered.counts ∙ delivered_is_counted p.pool.view p.delivered))

-- ---- installing

-- the number of the view that the slot belongs to
second : List ℕ → ℕ
second [] = 0
second (k ∷ []) = 0
second (k ∷ x ∷ more) = x

slot-view : (st : Statement) → second (slot_numbers (slot_of st)) ≡ view_of st
unfolding second
slot-view (Init x l payload) = refl
slot-view (Echo x m payload) = refl
slot-view (Order x k b) = refl
slot-view (Place x k b) = refl
slot-view (Keep x k b) = refl
slot-view (Notify x u) = refl
slot-view (End x k) = refl
slot-view (Last x r ready) = refl
slot-view (Suggest x r v) = refl
slot-view (Ack x r v) = refl
slot-view (Ready x r v) = refl

same-view : (a b : Statement) → same_slot (slot_of a) (slot_of b) ≡ true → view_of a ≡ view_of b
same-view a b e = sym (slot-view a) ∙ ap (λ sl. second (slot_numbers sl))
    (yes-is (Slot-discrete ℕ_discrete Message-discrete (Update-discrete ℕ_discrete) (slot_of a) (slot_of b)) e) ∙ slot-view b

-- where all that is signed is of earlier views, nothing is of a later one
none-later : (x me : ℕ) (st : Statement) (cs : List Claim) → ((c : Claim) → Mem c cs → view_of c.statement ≤ x) → view_of st ≡ x + 1
    → claim_on cs me (slot_of st) ≡ None
none-later x me st [] past later = refl
none-later x me st (c ∷ cs) past later = go (c.signer == me)
    (same_slot (slot_of c.statement) (slot_of st)) refl (none-later x me st cs (λ d m. past d (inr m)) later)
  where
    go : (a b : Bool) → same_slot (slot_of c.statement) (slot_of st) ≡ b → claim_on cs me (slot_of st) ≡ None
        → (if a && b then Some c else claim_on cs me (slot_of st)) ≡ None
    go false b e rest = rest
    go true false e rest = rest
    go true true e rest = (let same = same-view c.statement st e in let le = past c (inl refl) in absurd (omega (arith, same, le, later)))

none-own : (x : ℕ) (cs : List Claim) → ((c : Claim) → Mem c cs → view_of c.statement ≤ x)
    → filter (λ st. view_of st == x + 1) (map (λ (c : Claim). c.statement) cs) ≡ []
none-own x [] past = refl
none-own x (c ∷ cs) past = go (view_of c.statement == x + 1) refl (none-own x cs (λ d m. past d (inr m)))
  where
    go : (b : Bool) → (view_of c.statement == x + 1) ≡ b → filter (λ st. view_of st == x + 1) (map (λ (c : Claim). c.statement) cs) ≡ []
        → (if b then c.statement ∷ filter (λ st. view_of st == x + 1) (map (λ (c : Claim). c.statement) cs)
        else filter (λ st. view_of st == x + 1) (map (λ (c : Claim). c.statement) cs)) ≡ []
    go false e rest = rest
    go true e rest = (let same = eqb-true (view_of c.statement) (x + 1) e in let le = past c (inl refl) in absurd (omega (arith, same, le)))

sum-more : (me : ℕ) (ls : List Left) (l : Left)
    → sum (map (λ (v : Left). delivered_from me v.delivered) (ls ++ l ∷ []))
    ≡ sum (map (λ (v : Left). delivered_from me v.delivered) ls) + delivered_from me l.delivered
sum-more me ls l = ap sum (map-append (λ (v : Left). delivered_from me v.delivered) ls (l ∷ [])) ∙ fold-append (λ (a b : ℕ). a + b) 0
    (map (λ (v : Left). delivered_from me v.delivered) ls) (delivered_from me l.delivered ∷ [])

pub installing_begins_own : InstallingBeginsOwn
installing_begins_own s p h own own' d ok begins is = record {
  pool = refl;
  number = is.number ∙ sym begins.number;
  position = ap (rank_of next) is.number ∙ sym begins.position;
  keys = λ q. is.keys q ∙ ap (λ ks. has ks q) (sym begins.keys);
  signed = record {
    slots = λ st x. unsigned st x ∙ sym (ap (λ keys. list_any (same_slot_key (slot_key (slot_of st))) keys) begins.slots);
    end = unsigned (End (p.pool.view.number + 1) 0) refl ∙ sym begins.end;
    greatest = ap (λ sts. fold (λ most st. max most (rank_said st)) 0 sts) none ∙ sym begins.greatest;
    last_ready = ap (λ sts. fold higher None (filter_map readied sts)) none ∙ sym (ap report begins.last_ready);
    how_many = ap (λ sts. length (filter_map ordered sts)) none ∙ sym begins.how_many;
    names = ap (λ sts. counts_in next (messages (filter_map ordered sts))) none ∙ sym begins.names;
  };
  delivered = record { places = sym begins.places; counts = sym begins.counts };
  before = sum-more p.me p.left (record {
    view = p.pool.view;
    delivered = p.delivered;
    commit = certificate p.pool (Ready p.pool.view.number d.0 d.1);
  }) ∙ ap
      (λ n. n + delivered_from p.me p.delivered) is.before ∙ sym begins.before;
}
  where
    next : View
    next = next_view p.pool.view d.1.update

    past : (c : Claim) → Mem c p.signed → view_of c.statement ≤ p.pool.view.number
    past c m = All-mem (λ (c : Claim). view_of c.statement ≤ p.pool.view.number) p.signed c ok.past m

    unsigned : (st : Statement) → view_of st ≡ p.pool.view.number + 1
        → is_some (option_map (λ (c : Claim). c.statement) (claim_on p.signed p.me (slot_of st))) ≡ false
    unsigned st x = ap (λ o. is_some (option_map (λ (c : Claim). c.statement) o)) (none-later p.pool.view.number p.me st p.signed past x)

    none : filter (λ st. view_of st == p.pool.view.number + 1) (map (λ (c : Claim). c.statement) p.signed) ≡ []
    none = none-own p.pool.view.number p.signed past
