-- What is heard is of the current view, and only members deliver, messages of members.
use Rattle.std.proofs.Common.{◌≡◌, ◌⊎◌, inl, inr, ℕ, zero, suc, List, [], ◌∷◌, ◌++◌, Option, Some, None, Bool, true, false, refl, sym, ◌∙◌, subst, slice_get}
use Rattle.std.specs.Prelude.{if◌then◌else◌, not, is_some, IsTrue, All}
use Rattle.std.specs.List.{list_any}
use Rattle.group_defs.specs.Below.{is_some_and, Message, Batch-discrete, Statement, Init, Echo, Order, Place, Keep, Claim, messages_of, slot_of}
use Rattle.group_defs.specs.Views.{View, is_member}
use Rattle.group_defs.specs.Process.{Setting, Pool, Delivered, Left, Process, start, places_in}
use Rattle.group_defs.specs.Certified.{says, is_certified, is_ended, heard_on, own_orders, messages, payload_at, placed}
use Rattle.group_defs.specs.Certified.{named as named_by}
use Rattle.group_defs.specs.Due.{may_sign, same_batch, next_of, next_message, next_messages, next_batch, are_certified}
use Rattle.group_defs.specs.Signing.{Signer, own_claim, signs}
use Rattle.group_defs.specs.Settle.{deliverable, install}
use Rattle.group_defs.specs.Events.{Turn, run}
use Rattle.group_defs.specs.Laws.{IsOfView, HeardIsOfView, DeliversIn, MembersDeliver}
use Rattle.group_defs.specs.Hearing.{Heard, verdict}
use Rattle.safety_laws.proofs.Batches.{delivery-paid, next-place}
use Rattle.pool_laws.proofs.Heard.{certified-heard, heard-says, passed, payload-certified, place-certified, placed-at, verdict-view}
use Rattle.safety_laws.proofs.Induction.{Keeps, run-keeps}
use Rattle.safety_laws.proofs.Installed.{first_some-is}
use Rattle.safety_laws.proofs.MaySign.{signing-due, signing-member, signing-view}
use Rattle.pool_laws.proofs.Members.{All-mem, Mem, append-mem, each-snoc, list_all-mem, mem-All}
use Rattle.pool_laws.proofs.Tests.{and-first, and-second, neither, not-false, some-and, some-same, yes-is}

-- ---- what a heard claim names

none-any : {A : Type 0} (test : A → Bool) (xs : List A) → list_any test xs ≡ false → (x : A) → Mem x xs → test x ≡ false
none-any test [] e x m = absurd m
none-any test (y ∷ ys) e x (inl is) = subst (λ x. test x ≡ false) is (neither (test y) (list_any test ys) e).0
none-any test (y ∷ ys) e x (inr m) = none-any test ys (neither (test y) (list_any test ys) e).1 x m

-- the senders of these messages are members
abbrev AreMembers : View → List Message → Type 0
AreMembers v ms = (m : Message) → Mem m ms → is_member v m.sender ≡ true

pub members-all : (v : View) (ms : List Message) → AreMembers v ms → All (λ m. IsTrue (is_member v m.sender)) ms
members-all v ms each = mem-All (λ m. IsTrue (is_member v m.sender)) ms each

pub verdict-of-view : (s : Setting) (p : Process) (c : Claim) → verdict s p c ≡ Heard → IsOfView p.pool.view c
verdict-of-view s p c heard =
    let two = neither (not (is_member p.pool.view c.signer))
    (list_any (λ m. not (is_member p.pool.view m.sender)) (messages_of c.statement)) (passed s p c heard).2 in
    record {
      number = verdict-view s p c heard;
      signer = not-false (is_member p.pool.view c.signer) two.0;
      senders = members-all p.pool.view (messages_of c.statement)
          (λ m there. not-false (is_member p.pool.view m.sender)
          (none-any (λ (m : Message). not (is_member p.pool.view m.sender)) (messages_of c.statement) two.1 m there));
    }

-- ---- what an own statement names

module _ (h : Pool) (all : (c : Claim) → Mem c h.heard → IsOfView h.view c) (me : ℕ) (member : is_member h.view me ≡ true) where
  -- what is certified names members
  certified-senders : (st : Statement) → is_certified h st ≡ true → AreMembers h.view (messages_of st)
  certified-senders st certified m there =
      let said = (certified-heard h st me member certified).1 in
      All-mem (λ (m : Message). IsTrue (is_member h.view m.sender))
      (messages_of said.0.statement) m (all said.0 said.1).senders (subst (λ st. Mem m (messages_of st)) (sym said.3) there)

  payload-sender : (m : Message) → is_some (payload_at h m) ≡ true → is_member h.view m.sender ≡ true
  payload-sender m e = go (payload_at h m) refl e
    where
      go : (o : Option (List ℕ)) → payload_at h m ≡ o → is_some o ≡ true → is_member h.view m.sender ≡ true
      go None is e = absurd cc
      go (Some b) is e = certified-senders (Echo h.view.number m b) (payload-certified h m b is) m (inl refl)

-- what is ordered next is certified
next-of-certified : (h : Pool) (before : List Message) (sender : ℕ) (n : Message) → next_of h before sender ≡ Some n
    → is_some (payload_at h n) ≡ true
next-of-certified h before sender n e = go (is_some (payload_at h (record { sender = sender; number = named_by sender before }))) refl e
  where
    go : (b : Bool) → is_some (payload_at h (record { sender = sender; number = named_by sender before })) ≡ b
        → (if b then Some (record { sender = sender; number = named_by sender before }) else None) ≡ Some n
        → is_some (payload_at h n) ≡ true
    go true is e = subst (λ n. is_some (payload_at h n) ≡ true) (some-same _ n e) is
    go false is e = absurd cc

pub next-certified : (more : ℕ) (h : Pool) (before : List Message) (m : Message) → Mem m (next_messages more h before)
    → is_some (payload_at h m) ≡ true
unfolding next_messages
next-certified zero h before m there = absurd there
next-certified (suc more) h before m there = go (next_message h before) refl there (λ n. next-certified more h (before ++ n ∷ []) m)
  where
    go : (o : Option Message) → next_message h before ≡ o
        → Mem m (elim o [ None ↦ [] | Some n ↦ n ∷ next_messages more h (before ++ n ∷ []) ])
        → ((n : Message) → Mem m (next_messages more h (before ++ n ∷ [])) → is_some (payload_at h m) ≡ true)
        → is_some (payload_at h m) ≡ true
    go None is there later = absurd there
    go (Some n) is (inl e) later = let from = first_some-is (next_of h before) h.view.members n is in subst
        (λ m. is_some (payload_at h m) ≡ true) e (next-of-certified h before from.0 n from.1)
    go (Some n) is (inr there) later = later n there

pub named : (s : Setting) (p : Process) → ((c : Claim) → Mem c p.pool.heard → IsOfView p.pool.view c) → (st : Statement)
    → may_sign s p st ≡ true → AreMembers p.pool.view (messages_of st)
named s p all (Echo x n b) may m (inl same) =
    let said = heard-says p.pool (Init x n.number b) n.sender
    (and-first (says p.pool (Init x n.number b) n.sender) (not (is_ended p)) (signing-due s p (Echo x n b) may)) in
    subst (λ (m : Message). is_member p.pool.view m.sender ≡ true) same
    (subst (λ a. is_member p.pool.view a ≡ true) said.2 (all said.0 said.1).signer)
named s p all (Echo x n b) may m (inr none) = absurd none
named s p all (Order x k b) may m there =
    let is : b ≡ next_batch p = yes-is (Batch-discrete b (next_batch p)) (and-second _ _ (signing-due s p (Order x k b) may)) in
    payload-sender p.pool all p.me (signing-member s p (Order x k b) may) m
    (next-certified p.batch_limit p.pool (messages (own_orders p)) m (subst (Mem m) is there))
named s p all (Place x k b) may m there =
    payload-sender p.pool all p.me (signing-member s p (Place x k b) may) m
    (list_all-mem (λ m. is_some (payload_at p.pool m)) b m
    (and-second _ (are_certified p.pool b) (signing-due s p (Place x k b) may)) there)
named s p all (Keep x k b) may m there =
    let at = some-and (slice_get (placed p.pool) k) (same_batch b)
    (and-first (is_some_and (slice_get (placed p.pool) k) (same_batch b)) (not (is_ended p)) (signing-due s p (Keep x k b) may)) in
    certified-senders p.pool all p.me (signing-member s p (Keep x k b) may) (Place p.pool.view.number k at.0)
    (place-certified p.pool k at.0 (placed-at p.pool k at.0 at.1)) m (subst (Mem m) (yes-is (Batch-discrete b at.0) at.2) there)
named s p all _ may m there = absurd there

-- ---- each run keeps it

record OfTheView (p : Process) : Type 0 where
  pub heard : (c : Claim) → Mem c p.pool.heard → IsOfView p.pool.view c
  pub current : DeliversIn p.me p.pool.view p.delivered
  pub lefts : (l : Left) → Mem l p.left → DeliversIn p.me l.view l.delivered

hearing : (p : Process) (c : Claim) → OfTheView p → IsOfView p.pool.view c → (d : Claim) → Mem d (p.pool.heard ++ c ∷ [])
    → IsOfView p.pool.view d
hearing p c ok new = each-snoc (IsOfView p.pool.view) p.pool.heard c ok.heard new

signing : (s : Setting) (p : Process) (signer : Signer) (st : Statement) → may_sign s p st ≡ true → OfTheView p
    → OfTheView (signs s signer p st)
signing s p signer st may ok = record {
  heard = heard (is_some (heard_on p.pool p.me (slot_of st)));
  current = ok.current;
  lefts = ok.lefts;
}
  where
    own : Claim
    own = own_claim s signer p st

    heard : (b : Bool) → (c : Claim) → Mem c (if b then p.pool.heard else p.pool.heard ++ own ∷ []) → IsOfView p.pool.view c
    heard true c m = ok.heard c m
    heard false c m = hearing p own ok
        (record {
          number = signing-view s p st may;
          signer = signing-member s p st may;
          senders = members-all p.pool.view (messages_of st) (named s p ok.heard st may);
        }) c m

delivering : (p : Process) (ds : List Delivered) → is_member p.pool.view p.me ≡ true → deliverable p ≡ Some ds → OfTheView p
    → OfTheView (record p { delivered = p.delivered ++ ds })
delivering p ds member e ok = record {
  heard = ok.heard;
  current = record {
    outside = λ not'. absurd (let clash : true ≡ false = sym member ∙ not' in cc);
    senders = mem-All (λ d. IsTrue (is_member p.pool.view d.message.sender)) (p.delivered ++ ds)
        (λ x m. each x (append-mem p.delivered ds x m));
  };
  lefts = ok.lefts;
}
  where
    sender : (d : Delivered) → Mem d ds → is_member p.pool.view d.message.sender ≡ true
    sender d there =
        let b = next-place p ds e in
        let paid = payload-certified p.pool d.message d.payload (delivery-paid p.pool (places_in p.delivered) b.0 ds b.2 d there) in
        certified-senders p.pool ok.heard p.me member (Echo p.pool.view.number d.message d.payload) paid d.message (inl refl)

    each : (x : Delivered) → Mem x p.delivered ⊎ Mem x ds → is_member p.pool.view x.message.sender ≡ true
    each x (inl m) = All-mem (λ (d : Delivered). IsTrue (is_member p.pool.view d.message.sender)) p.delivered x ok.current.senders m
    each x (inr m) = sender x m

nothing-yet : (me : ℕ) (v : View) → DeliversIn me v []
nothing-yet me v = record { outside = λ e. refl; senders = mem-All (λ d. IsTrue (is_member v d.message.sender)) [] (λ d m. absurd m) }

keeps : (s : Setting) (from : List Claim) → Keeps s from OfTheView
keeps s from = record {
  accepts = λ p payload ok. record { heard = ok.heard; current = ok.current; lefts = ok.lefts };
  perceives = λ p e ok. record { heard = ok.heard; current = ok.current; lefts = ok.lefts };
  hears = λ p c m e ok. record { heard = hearing p c ok (verdict-of-view s p c e); current = ok.current; lefts = ok.lefts };
  doubts = λ p conflicts ok. record { heard = ok.heard; current = ok.current; lefts = ok.lefts };
  signs = λ p signer st next none ok. signing s p signer st next.may ok;
  decides = λ p ok. record { heard = ok.heard; current = ok.current; lefts = ok.lefts };
  delivers = λ p ds member room e ok. delivering p ds member e ok;
  installs = λ p d decided whole ok. record {
    heard = λ c m. absurd m;
    current = nothing-yet p.me (install d p).pool.view;
    lefts = each-snoc (λ (l : Left). DeliversIn p.me l.view l.delivered) p.left _ ok.lefts ok.current;
  };
  halts = λ p d decided member ok. record { heard = ok.heard; current = ok.current; lefts = ok.lefts };
}

of-the-view : (s : Setting) (me limit : ℕ) (turns : List Turn) → OfTheView (run s (start s me limit) turns)
of-the-view s me limit turns = run-keeps s OfTheView turns (keeps s _) (start s me limit)
    (record { heard = λ c m. absurd m; current = nothing-yet me s.genesis; lefts = λ l m. absurd m })

pub heard_is_of_view : HeardIsOfView
heard_is_of_view s me limit turns = let p : Process = run s (start s me limit) turns in mem-All (IsOfView p.pool.view) p.pool.heard
    (of-the-view s me limit turns).heard

pub members_deliver : MembersDeliver
members_deliver s me limit turns =
    let p : Process = run s (start s me limit) turns in (
      mem-All (λ (l : Left). DeliversIn p.me l.view l.delivered) p.left (of-the-view s me limit turns).lefts,
      (of-the-view s me limit turns).current,
    )
