-- What is heard stays fit to be kept.
use Rattle.std.proofs.Common.{◌≡◌, ◌≢◌, ℕ, ◌+◌, ◌≤◌, List, [], ◌∷◌, ◌++◌, length, Bool, true, false, Option, Some, None, refl, sym, ap, ◌∙◌, subst, arith, inl, inr}
use Rattle.std.specs.Prelude.{if◌then◌else◌, ◌==◌, ◌&&◌, ◌||◌, not, nat_lt, nat_le, cond, fold, max, is_some, option_map, unwrap_or, IsTrue, IsFalse}
use Rattle.std.specs.List.{list_any}
use Rattle.std.proofs.lemmas.Bool.{eq-eqb, eqb-true, eqb-false}
use Rattle.std.proofs.lemmas.List.{append-nil}
use Rattle.std.proofs.lemmas.List.Sums.{sum_by-append}
use Rattle.byte_defs.specs.Choices.{first_that_holds}
use Rattle.byte_defs.specs.Choices.{is_some_and}
use Rattle.byte_defs.specs.Orders.{put}
use Rattle.message_defs.specs.Updates.{Update, Remove, Add, Renew}
use Rattle.message_defs.specs.Claims.{Claims, Wants, Faulty}
use Rattle.message_defs.specs.Statements.{same_statement, Message, Statement, Init, Echo, Order, Place, Keep, Notify, End, Last, Suggest, Ack, Ready, Claim, Slot, Conflicts, slot_of, view_of, same_slot, messages_of}
use Rattle.group_defs.specs.Views.{View, is_member}
use Rattle.group_defs.specs.Process.{Setting, Pool, Delivered, Left, Process, places_in, delivered_from}
use Rattle.group_defs.specs.Certified.{claim_on, heard_on, says}
use Rattle.group_defs.specs.Hearing.{Verdict, Old, Early, Stranger, OutOfWindow, Known, Unsigned, Conflict, Heard, verdict, with_heard, with_verdict, kept_conflicts, hear, hear_all, is_valid, is_strange, is_beyond}
use Rattle.group_defs.specs.Due.{window, may_sign, is_perceived}
use Rattle.group_defs.specs.Laws.{IsOfView}
use Rattle.group_defs.specs.Settle.{install}
use Rattle.group_defs.specs.Signing.{Signer, signs, own_claim}
use Rattle.group_defs.specs.Family.{claims_in}
use Rattle.group_defs.specs.Events.{Event, Submit, Hand, Suspect, Join, RenewView, Tick, Turn, perceived_numbers, perceives, take_in, after}
use Rattle.pool_laws.proofs.Heard.{passed, verdict-valid, verdict-view}
use Rattle.pool_laws.proofs.Members.{Mem, All-mem, mem-All, each-snoc, mem-append, mem-behind, mem-find, find-is, mem-list_any}
use Rattle.pool_laws.proofs.Places.{Pairs, all-pairs, pairs-all, pairs-snoc}
use Rattle.pool_laws.proofs.Slots.{is-same_slot, same_slot-is, is-same_statement}
use Rattle.pool_laws.proofs.Tests.{and-first, and-second, both-true, neither, not-false, some-same}
use Rattle.safety_laws.proofs.Induction.{Keeps, AreFrom, after-keeps}
use Rattle.safety_laws.proofs.MaySign.{signing-member, signing-view}
use Rattle.safety_laws.proofs.OfTheView.{members-all, named}
use Rattle.image_defs.specs.Kept.{AreHeard, WasHeard, as_before, last_delivered}
use Rattle.image_laws.specs.Keeping.{HeardIsKept}
use Rattle.image_laws.proofs.Taken.{came, Stayed, WasTaken}
use Rattle.image_laws.proofs.BySigner.{Others}
use Rattle.image_laws.proofs.Within.{may-within, within-stays}

-- ---- a claim that is heard has passed all tests

tests : (old early strange beyond known unsigned conflict : Bool)
    → unwrap_or (first_that_holds ((old, Old) ∷ (early, Early) ∷ (strange, Stranger) ∷ (beyond, OutOfWindow) ∷ (known, Known)
    ∷ (unsigned, Unsigned) ∷ (conflict, Conflict) ∷ [])) Heard ≡ Heard → (beyond ≡ false) × (conflict ≡ false)
tests true early strange beyond known unsigned conflict e = absurd cc
tests false true strange beyond known unsigned conflict e = absurd cc
tests false false true beyond known unsigned conflict e = absurd cc
tests false false false true known unsigned conflict e = absurd cc
tests false false false false true unsigned conflict e = absurd cc
tests false false false false false true conflict e = absurd cc
tests false false false false false false true e = absurd cc
tests false false false false false false false e = (refl, refl)

pub passed-more : (s : Setting) (p : Process) (c : Claim) → verdict s p c ≡ Heard
    → (is_beyond p c.signer c.statement ≡ false) × (is_some (heard_on p.pool c.signer (slot_of c.statement)) ≡ false)
passed-more s p c heard = tests (nat_lt (view_of c.statement) p.pool.view.number) (nat_lt p.pool.view.number (view_of c.statement))
    (is_strange p c) (is_beyond p c.signer c.statement) (says p.pool c.statement c.signer) (not (is_valid s c))
    (is_some (heard_on p.pool c.signer (slot_of c.statement))) heard

-- where nothing is heard on the slot, no heard claim of the signer is on it
none-there : (h : Pool) (signer : ℕ) (slot : Slot) → is_some (heard_on h signer slot) ≡ false → (d : Claim) → Mem d h.heard
    → d.signer ≡ signer → slot_of d.statement ≢ slot
none-there h signer slot none d m who = λ same.
    (let found = mem-find (λ (c : Claim). (c.signer == signer) && same_slot (slot_of c.statement) slot) h.heard d m
    (both-true _ _ (eq-eqb d.signer signer who) (is-same_slot (slot_of d.statement) slot same)) in
    not-none (sym (ap (λ (o : Option Claim). is_some (option_map (λ (c : Claim). c.statement) o)) found.1) ∙ none))
  where
    not-none : true ≡ false → ⊥
    not-none e = absurd cc

-- ---- of a process

abbrev Apart : Claim → Claim → Type 0
Apart c d = c.signer ≡ d.signer → slot_of c.statement ≢ slot_of d.statement

pub record Hears (s : Setting) (p : Process) : Type 0 where
  pub view : (c : Claim) → Mem c p.pool.heard → view_of c.statement ≡ p.pool.view.number
  pub known : (c : Claim) → Mem c p.pool.heard → is_strange p c ≡ false
  pub within : (c : Claim) → Mem c p.pool.heard → is_beyond p c.signer c.statement ≡ false
  pub valid : (c : Claim) → Mem c p.pool.heard → is_valid s c ≡ true
  pub once : Pairs Apart p.pool.heard

none-any : {A : Type 0} (test : A → Bool) (xs : List A) → list_any test xs ≡ false → (x : A) → Mem x xs → test x ≡ false
none-any test xs e x m = go (test x) refl
  where
    go : (b : Bool) → test x ≡ b → test x ≡ false
    go true is = absurd (not-both (sym (mem-list_any test xs x m is) ∙ e))
      where
        not-both : true ≡ false → ⊥
        not-both e = absurd cc
    go false is = is

any-none : {A : Type 0} (test : A → Bool) (xs : List A) → ((x : A) → Mem x xs → test x ≡ false) → list_any test xs ≡ false
any-none test [] each = refl
any-none test (x ∷ xs) each = both (test x) (list_any test xs) (each x (inl refl)) (any-none test xs (λ y m. each y (inr m)))
  where
    both : (a b : Bool) → a ≡ false → b ≡ false → (a || b) ≡ false
    both true b e f = absurd cc
    both false b e f = f

of-view : (s : Setting) (p : Process) → Hears s p → (c : Claim) → Mem c p.pool.heard → IsOfView p.pool.view c
of-view s p ok c m =
    let two = neither (not (is_member p.pool.view c.signer)) (list_any (λ m. not (is_member p.pool.view m.sender)) (messages_of c.statement)) (ok.known c m) in
    record {
      number = ok.view c m;
      signer = not-false (is_member p.pool.view c.signer) two.0;
      senders = members-all p.pool.view (messages_of c.statement)
          (λ m there. not-false (is_member p.pool.view m.sender)
          (none-any (λ (m : Message). not (is_member p.pool.view m.sender)) (messages_of c.statement) two.1 m there));
    }

-- an own claim that may be signed names members
own-known : (s : Setting) (p : Process) (signer : Signer) (st : Statement) → may_sign s p st ≡ true → Hears s p
    → is_strange p (own_claim s signer p st) ≡ false
own-known s p signer st may ok =
    both (not (is_member p.pool.view p.me)) _ (turned (is_member p.pool.view p.me) (signing-member s p st may))
    (any-none (λ (m : Message). not (is_member p.pool.view m.sender)) (messages_of st)
    (λ m there. turned (is_member p.pool.view m.sender) (named s p (of-view s p ok) st may m there)))
  where
    both : (a b : Bool) → a ≡ false → b ≡ false → (a || b) ≡ false
    both true b e f = absurd cc
    both false b e f = f

    turned : (b : Bool) → b ≡ true → not b ≡ false
    turned true e = refl
    turned false e = absurd cc

-- what is beyond goes by the view and by what was delivered there
same-beyond : (p q : Process) → q.pool.view ≡ p.pool.view → q.delivered ≡ p.delivered → (a : ℕ) (st : Statement)
    → is_beyond q a st ≡ is_beyond p a st
same-beyond p q view del a (Init x l payload) = ap (λ (ds : List Delivered). nat_le (delivered_from a ds + window) l) del
same-beyond p q view del a (Echo x m payload) = ap (λ (ds : List Delivered). nat_le (delivered_from m.sender ds + window) m.number) del
same-beyond p q view del a (Order x k b) = ap (λ (ds : List Delivered). nat_le (places_in ds + window) k) del
same-beyond p q view del a (Place x k b) = ap (λ (ds : List Delivered). nat_le (places_in ds + window) k) del
same-beyond p q view del a (Keep x k b) = ap (λ (ds : List Delivered). nat_le (places_in ds + window) k) del
same-beyond p q view del a (Notify x u) = refl
same-beyond p q view del a (End x k) = refl
same-beyond p q view del a (Last x r ready) = ap (λ (v : View). nat_le (length v.members) r) view
same-beyond p q view del a (Suggest x r v) = ap (λ (w : View). nat_le (length w.members) r) view
same-beyond p q view del a (Ack x r v) = ap (λ (w : View). nat_le (length w.members) r) view
same-beyond p q view del a (Ready x r v) = ap (λ (w : View). nat_le (length w.members) r) view

abbrev with-claim : Process → Claim → Process
with-claim p c = record p { pool = record { view = p.pool.view; heard = p.pool.heard ++ c ∷ [] } }

one-more : (s : Setting) (p : Process) (c : Claim) → view_of c.statement ≡ p.pool.view.number → is_strange p c ≡ false
    → is_beyond p c.signer c.statement ≡ false → is_valid s c ≡ true → is_some (heard_on p.pool c.signer (slot_of c.statement)) ≡ false
    → Hears s p → Hears s (with-claim p c)
one-more s p c view known within valid fresh ok = record {
  view = each-snoc (λ (d : Claim). view_of d.statement ≡ p.pool.view.number) p.pool.heard c ok.view view;
  known = each-snoc (λ (d : Claim). is_strange p d ≡ false) p.pool.heard c ok.known known;
  within = each-snoc (λ (d : Claim). is_beyond (with-claim p c) d.signer d.statement ≡ false) p.pool.heard c
      (λ d m. same-beyond p (with-claim p c) refl refl d.signer d.statement ∙ ok.within d m)
      (same-beyond p (with-claim p c) refl refl c.signer c.statement ∙ within);
  valid = each-snoc (λ (d : Claim). is_valid s d ≡ true) p.pool.heard c ok.valid valid;
  once = pairs-snoc Apart p.pool.heard c ok.once (λ d m who. none-there p.pool c.signer (slot_of c.statement) fresh d m who);
}

-- it goes by the pool and by what was delivered
pub moved : (s : Setting) (p q : Process) → q.pool ≡ p.pool → q.delivered ≡ p.delivered → Hears s p → Hears s q
moved s p q pool del ok = record {
  view = λ c m. ok.view c (there c m) ∙ sym (ap (λ (h : Pool). h.view.number) pool);
  known = λ c m. subst (λ (v : View). (not (is_member v c.signer) || list_any (λ m. not (is_member v m.sender)) (messages_of c.statement)) ≡ false)
      (sym (ap (λ (h : Pool). h.view) pool)) (ok.known c (there c m));
  within = λ c m. same-beyond p q (ap (λ (h : Pool). h.view) pool) del c.signer c.statement ∙ ok.within c (there c m);
  valid = λ c m. ok.valid c (there c m);
  once = subst (λ (h : Pool). Pairs Apart h.heard) (sym pool) ok.once;
}
  where
    there : (c : Claim) → Mem c q.pool.heard → Mem c p.pool.heard
    there c m = subst (λ (h : Pool). Mem c h.heard) pool m

-- ---- what was heard in the view before

abbrev last-of : List Left → List Delivered
last-of [] = []
last-of (l ∷ []) = l.delivered
last-of (l ∷ m ∷ ls) = last-of (m ∷ ls)

pub last-is : (p : Process) (ls : List Left) → last_delivered (record p { left = ls }) ≡ last-of ls
last-is p [] = refl
last-is p (l ∷ []) = refl
last-is p (l ∷ m ∷ ls) = last-is p (m ∷ ls)

last-snoc : (ls : List Left) (l : Left) → last-of (ls ++ l ∷ []) ≡ l.delivered
last-snoc [] l = refl
last-snoc (m ∷ []) l = refl
last-snoc (m ∷ n ∷ ls) l = last-snoc (n ∷ ls) l

abbrev Heard-before : Setting → Process → Type 0
Heard-before s p = (h : Pool) → p.previous ≡ Some h → Hears s (as_before p (last-of p.left) h)

pub moved-before : (s : Setting) (p q : Process) → q.previous ≡ p.previous → q.left ≡ p.left → Heard-before s p → Heard-before s q
moved-before s p q previous left ok h e =
    moved s (as_before p (last-of p.left) h) (as_before q (last-of q.left) h) refl (ap last-of left) (ok h (sym previous ∙ e))

-- ---- each change

pub record Kept (s : Setting) (p : Process) : Type 0 where
  pub now : Hears s p
  pub before : Heard-before s p

abbrev pub AreValid : Setting → Process → Type 0
AreValid s p = (c : Claim) → Mem c p.signed → is_valid s c ≡ true

abbrev pub KeptIfValid : Setting → Process → Type 0
KeptIfValid s p = AreValid s p → Kept s p

goes-on : (s : Setting) (p q : Process) → q.pool ≡ p.pool → q.delivered ≡ p.delivered → q.previous ≡ p.previous → q.left ≡ p.left
    → Kept s p → Kept s q
goes-on s p q pool del previous left ok = record {
  now = moved s p q pool del ok.now;
  before = moved-before s p q previous left ok.before;
}

abbrev up-to : ℕ → List Delivered → ℕ
up-to n ds = fold (λ most d. max most (d.place + 1)) n ds

no-fewer : (n : ℕ) (ds : List Delivered) → n ≤ up-to n ds
no-fewer n [] = omega arith
no-fewer n (d ∷ ds) = (let rest = no-fewer (max n (d.place + 1)) ds in omega (arith, rest))

split-up : (n : ℕ) (ds es : List Delivered) → up-to n (ds ++ es) ≡ up-to (up-to n ds) es
split-up n [] es = refl
split-up n (d ∷ ds) es = split-up (max n (d.place + 1)) ds es

places-more : (ds es : List Delivered) → places_in ds ≤ places_in (ds ++ es)
places-more ds es = (let more = no-fewer (up-to 0 ds) es in let same = split-up 0 ds es in omega (arith, more, same))

delivered-more : (p : Process) (ds : List Delivered) (a : ℕ) → delivered_from a p.delivered ≤ delivered_from a (p.delivered ++ ds)
delivered-more p ds a = (let more = sum_by-append (λ (d : Delivered). cond (d.message.sender == a) 1 0) p.delivered ds in omega (arith, more))

signs-kept : (s : Setting) (p : Process) (signer : Signer) (st : Statement) → may_sign s p st ≡ true
    → is_valid s (own_claim s signer p st) ≡ true → Hears s p → Hears s (signs s signer p st)
signs-kept s p signer st may valid ok = go (is_some (heard_on p.pool p.me (slot_of st))) refl
  where
    go : (b : Bool) → is_some (heard_on p.pool p.me (slot_of st)) ≡ b
        → Hears s (record p { signed = p.signed ++ own_claim s signer p st ∷ []; pool = record { view = p.pool.view; heard = if b then p.pool.heard else p.pool.heard ++ own_claim s signer p st ∷ [] } })
    go true e = moved s p _ refl refl ok
    go false e = moved s (with-claim p (own_claim s signer p st)) _ refl refl
        (one-more s p (own_claim s signer p st) (signing-view s p st may) (own-known s p signer st may ok)
        (may-within s p st may ok.within) valid e ok)

pub keeps-heard : (s : Setting) (from : List Claim) → Keeps s from (KeptIfValid s)
keeps-heard s from = record {
  accepts = λ p payload ok valid. goes-on s p _ refl refl refl refl (ok valid);
  perceives = λ p e ok valid. goes-on s p _ refl refl refl refl (ok valid);
  hears = λ p c m e ok valid. record {
    now = one-more s p c (verdict-view s p c e) (passed s p c e).2 (passed-more s p c e).0 (verdict-valid s p c e) (passed-more s p c e).1
        (ok valid).now;
    before = moved-before s p (with_heard p c) refl refl (ok valid).before;
  };
  doubts = λ p conflicts ok valid. goes-on s p _ refl refl refl refl (ok valid);
  signs = λ p signer st next none ok valid. (
      let was = ok (λ c m. valid c (mem-append p.signed (own_claim s signer p st ∷ []) c m)) in
      record {
        now = signs-kept s p signer st next.may (valid (own_claim s signer p st) (mem-behind p.signed (own_claim s signer p st ∷ []) (own_claim s signer p st) (inl refl))) was.now;
        before = moved-before s p (signs s signer p st) refl refl was.before;
      }
      );
  decides = λ p ok valid. goes-on s p _ refl refl refl refl (ok valid);
  delivers = λ p ds member room e ok valid. record {
    now = record {
      view = (ok valid).now.view;
      known = (ok valid).now.known;
      within = λ c m. within-stays p (p.delivered ++ ds) (places-more p.delivered ds) (delivered-more p ds) c.signer c.statement ((ok valid).now.within c m);
      valid = (ok valid).now.valid;
      once = (ok valid).now.once;
    };
    before = moved-before s p (record p { delivered = p.delivered ++ ds }) refl refl (ok valid).before;
  };
  installs = λ p d decided whole ok valid. record {
    now = record {
      view = λ c m. absurd m;
      known = λ c m. absurd m;
      within = λ c m. absurd m;
      valid = λ c m. absurd m;
      once = λ i j a b lt at. absurd cc;
    };
    before = λ h e. subst (λ (g : Pool). Hears s (as_before (install d p) (last-of (install d p).left) g)) (some-same p.pool h e)
        (moved s p _ refl (last-snoc p.left _) (ok valid).now);
  };
  halts = λ p d decided member ok valid. goes-on s p _ refl refl refl refl (ok valid);
}

-- ---- conflicts

conflict-tests : (old early strange beyond known unsigned conflict : Bool)
    → unwrap_or (first_that_holds ((old, Old) ∷ (early, Early) ∷ (strange, Stranger) ∷ (beyond, OutOfWindow) ∷ (known, Known)
    ∷ (unsigned, Unsigned) ∷ (conflict, Conflict) ∷ [])) Heard ≡ Conflict → (known ≡ false) × (unsigned ≡ false)
conflict-tests true early strange beyond known unsigned conflict e = absurd cc
conflict-tests false true strange beyond known unsigned conflict e = absurd cc
conflict-tests false false true beyond known unsigned conflict e = absurd cc
conflict-tests false false false true known unsigned conflict e = absurd cc
conflict-tests false false false false true unsigned conflict e = absurd cc
conflict-tests false false false false false true conflict e = absurd cc
conflict-tests false false false false false false true e = (refl, refl)
conflict-tests false false false false false false false e = absurd cc

abbrev pub IsPair : Setting → Claim × Claim → Type 0
IsPair s e = (e.0.signer ≡ e.1.signer) × Conflicts e.0 e.1 × (is_valid s e.0 ≡ true) × (is_valid s e.1 ≡ true)

record HasPairs (s : Setting) (es : List (Claim × Claim)) : Type 0 where
  pub each : (e : Claim × Claim) → Mem e es → IsPair s e
  pub one : Pairs Others es

-- the pair of a claim that conflicts with the first one on its slot
pair-is : (s : Setting) (p : Process) (c first : Claim) → Hears s p → says p.pool c.statement c.signer ≡ false → is_valid s c ≡ true
    → claim_on p.pool.heard c.signer (slot_of c.statement) ≡ Some first → IsPair s (first, c)
pair-is s p c first ok other valid at =
    let found = find-is (λ (d : Claim). (d.signer == c.signer) && same_slot (slot_of d.statement) (slot_of c.statement)) p.pool.heard first at in
    let who = eqb-true first.signer c.signer (and-first _ _ found.1) in
    let slot = same_slot-is (slot_of first.statement) (slot_of c.statement) (and-second _ _ found.1) in (
      who,
      (
        who,
        slot,
        λ same. differs (sym (ap (λ (o : Option Claim). is_some_and (option_map (λ (d : Claim). d.statement) o) (same_statement c.statement)) at
            ∙ is-same_statement c.statement first.statement (sym same)) ∙ other),
      ),
      ok.valid first found.0,
      valid,
    )
  where
    differs : true ≡ false → ⊥
    differs e = absurd cc

kept-pairs : (s : Setting) (p : Process) (c : Claim) → Hears s p → says p.pool c.statement c.signer ≡ false → is_valid s c ≡ true
    → HasPairs s p.conflicts → HasPairs s (kept_conflicts p c)
kept-pairs s p c ok other valid pairs = go (list_any (λ (pair : Claim × Claim). pair.1.signer == c.signer) p.conflicts) refl
  where
    more : (o : Option Claim) → claim_on p.pool.heard c.signer (slot_of c.statement) ≡ o
        → list_any (λ (pair : Claim × Claim). pair.1.signer == c.signer) p.conflicts ≡ false → HasPairs s (p.conflicts ++ elim o [ None ↦ [] | Some first ↦ (first, c) ∷ [] ])
    more None at none = subst (HasPairs s) (sym (append-nil p.conflicts)) pairs
    more (Some first) at none =
        let new = pair-is s p c first ok other valid at in
        record {
          each = each-snoc (IsPair s) p.conflicts (first, c) pairs.each new;
          one = pairs-snoc Others p.conflicts (first, c) pairs.one
              (λ e m same. absurd (eqb-false e.1.signer c.signer (none-any (λ (pair : Claim × Claim). pair.1.signer == c.signer) p.conflicts none e m)
              (sym (pairs.each e m).0 ∙ same ∙ new.0)));
        }

    go : (b : Bool) → list_any (λ (pair : Claim × Claim). pair.1.signer == c.signer) p.conflicts ≡ b
        → HasPairs s (if b then p.conflicts else p.conflicts ++ elim (claim_on p.pool.heard c.signer (slot_of c.statement)) [ None ↦ [] | Some first ↦ (first, c) ∷ [] ])
    go true e = pairs
    go false e = more (claim_on p.pool.heard c.signer (slot_of c.statement)) refl e

hears-one : (s : Setting) (p : Process) (c : Claim) (v : Verdict) → verdict s p c ≡ v → Hears s p → HasPairs s p.conflicts
    → Hears s (with_verdict v p c) × HasPairs s (with_verdict v p c).conflicts
hears-one s p c Heard e ok pairs = (
  one-more s p c (verdict-view s p c e) (passed s p c e).2 (passed-more s p c e).0 (verdict-valid s p c e) (passed-more s p c e).1 ok,
  pairs,
)
hears-one s p c Conflict e ok pairs =
    let two = conflict-tests (nat_lt (view_of c.statement) p.pool.view.number) (nat_lt p.pool.view.number (view_of c.statement))
    (is_strange p c) (is_beyond p c.signer c.statement) (says p.pool c.statement c.signer) (not (is_valid s c))
    (is_some (heard_on p.pool c.signer (slot_of c.statement))) e in
    (moved s p _ refl refl ok, kept-pairs s p c ok two.0 (not-false (is_valid s c) two.1) pairs)
hears-one s p c Old e ok pairs = (ok, pairs)
hears-one s p c Early e ok pairs = (ok, pairs)
hears-one s p c Stranger e ok pairs = (ok, pairs)
hears-one s p c OutOfWindow e ok pairs = (ok, pairs)
hears-one s p c Known e ok pairs = (ok, pairs)
hears-one s p c Unsigned e ok pairs = (ok, pairs)

hears-pairs : (s : Setting) (cs : List Claim) (p : Process) → Hears s p → HasPairs s p.conflicts → HasPairs s (hear_all s p cs).conflicts
unfolding hear_all
hears-pairs s [] p ok pairs = pairs
hears-pairs s (c ∷ cs) p ok pairs =
    let one = hears-one s p c (verdict s p c) refl ok pairs in hears-pairs s cs (hear s p c) one.0 one.1

pub asks-pairs : (p : Process) (u : Update) → (perceives p u).conflicts ≡ p.conflicts
asks-pairs p u = go (is_perceived p (p.pool.view.number, u))
  where
    go : (b : Bool) → (if b then p else record p { perceived = put perceived_numbers (p.pool.view.number, u) p.perceived }).conflicts ≡ p.conflicts
    go true = refl
    go false = refl

taken-pairs : (s : Setting) (p : Process) (e : Event) → Hears s p → HasPairs s p.conflicts → HasPairs s (take_in s p e).conflicts
taken-pairs s p (Submit payload) ok pairs = pairs
taken-pairs s p (Hand from (Claims claims)) ok pairs = hears-pairs s claims p ok pairs
taken-pairs s p (Hand from (Wants x k)) ok pairs = pairs
taken-pairs s p (Hand from (Faulty fault)) ok pairs = pairs
taken-pairs s p (Suspect q) ok pairs = subst (HasPairs s) (sym (asks-pairs p (Remove q))) pairs
taken-pairs s p (Join q) ok pairs = subst (HasPairs s) (sym (asks-pairs p (Add q))) pairs
taken-pairs s p RenewView ok pairs = subst (HasPairs s) (sym (asks-pairs p Renew)) pairs
taken-pairs s p Tick ok pairs = pairs

after-pairs : (s : Setting) (p : Process) (t : Turn) → Hears s p → HasPairs s p.conflicts → HasPairs s (after s p t).conflicts
after-pairs s p t ok pairs = elim (came s p t) [
  | Stayed is ↦ subst (λ (q : Process). HasPairs s q.conflicts) (sym is) pairs
  | WasTaken free same ↦ subst (HasPairs s) (sym same.conflicts) (taken-pairs s p t.event ok pairs)
]

-- ---- the law

pub is-heard : (s : Setting) (p : Process) → Hears s p → AreHeard s p
is-heard s p ok = record {
  view = mem-All (λ (c : Claim). view_of c.statement ≡ p.pool.view.number) p.pool.heard ok.view;
  known = mem-All (λ (c : Claim). IsFalse (is_strange p c)) p.pool.heard ok.known;
  within = mem-All (λ (c : Claim). IsFalse (is_beyond p c.signer c.statement)) p.pool.heard ok.within;
  valid = mem-All (λ (c : Claim). IsTrue (is_valid s c)) p.pool.heard ok.valid;
  once = pairs-all Apart p.pool.heard ok.once;
}

pub heard-is : (s : Setting) (p : Process) → AreHeard s p → Hears s p
heard-is s p ok = record {
  view = λ c m. All-mem (λ (c : Claim). view_of c.statement ≡ p.pool.view.number) p.pool.heard c ok.view m;
  known = λ c m. All-mem (λ (c : Claim). IsFalse (is_strange p c)) p.pool.heard c ok.known m;
  within = λ c m. All-mem (λ (c : Claim). IsFalse (is_beyond p c.signer c.statement)) p.pool.heard c ok.within m;
  valid = λ c m. All-mem (λ (c : Claim). IsTrue (is_valid s c)) p.pool.heard c ok.valid m;
  once = all-pairs Apart p.pool.heard ok.once;
}

pub was-heard : (s : Setting) (p : Process) (o : Option Pool) → ((h : Pool) → o ≡ Some h → Hears s (as_before p (last-of p.left) h)) → WasHeard s p o
was-heard s p None ok = tt
was-heard s p (Some h) ok = is-heard s (as_before p (last_delivered p) h)
    (moved s (as_before p (last-of p.left) h) (as_before p (last_delivered p) h) refl (last-is p p.left) (ok h refl))

pub heard-was : (s : Setting) (p : Process) (o : Option Pool) → WasHeard s p o → (h : Pool) → o ≡ Some h → Hears s (as_before p (last-of p.left) h)
heard-was s p None ok h e = absurd cc
heard-was s p (Some g) ok h e = subst (λ (x : Pool). Hears s (as_before p (last-of p.left) x)) (some-same g h e)
    (moved s (as_before p (last_delivered p) g) (as_before p (last-of p.left) g) refl (sym (last-is p p.left))
    (heard-is s (as_before p (last_delivered p) g) ok))

pub heard_is_kept : HeardIsKept
heard_is_kept s p t valid fits =
    let was : Kept s p = record { now = heard-is s p fits.heard; before = heard-was s p p.previous fits.was_heard } in
    let pairs : HasPairs s p.conflicts = record {
      each = λ e m. All-mem (λ (e : Claim × Claim). (e.0.signer ≡ e.1.signer) × Conflicts e.0 e.1 × IsTrue (is_valid s e.0) × IsTrue (is_valid s e.1)) p.conflicts e fits.conflicts m;
      one = all-pairs Others p.conflicts fits.one_each;
    } in
    let now = after-keeps s (claims_in t.event) (KeptIfValid s) (keeps-heard s (claims_in t.event)) t (unfold AreFrom in λ c m. m) p (λ v. was)
    (λ c m. All-mem (λ (c : Claim). IsTrue (is_valid s c)) (after s p t).signed c valid m) in
    let then_ = after-pairs s p t was.now pairs in
    record {
      heard = is-heard s (after s p t) now.now;
      was_heard = was-heard s (after s p t) (after s p t).previous now.before;
      conflicts = mem-All (λ (e : Claim × Claim). (e.0.signer ≡ e.1.signer) × Conflicts e.0 e.1 × IsTrue (is_valid s e.0) × IsTrue (is_valid s e.1)) (after s p t).conflicts then_.each;
      one_each = pairs-all Others (after s p t).conflicts then_.one;
    }
