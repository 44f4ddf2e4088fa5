-- What a process delivers and installs is in range, where what is handed over to it is.
use Rattle.std.proofs.Common.{◌≡◌, inl, inr, ℕ, ◌+◌, ◌≤◌, List, [], ◌∷◌, ◌++◌, length, Bool, true, false, Some, None, refl, sym, subst, arith}
use Rattle.std.specs.Prelude.{if◌then◌else◌, ◌==◌, is_none, is_some, All, slice_get}
use Rattle.std.proofs.lemmas.Bool.{eqb-false}
use Rattle.byte_defs.specs.Choices.{first_that_holds}
use Rattle.byte_defs.specs.Equality.{bytes_discrete, is_yes}
use Rattle.message_defs.specs.Limits.{last_number, most_payload_bytes, most_places}
use Rattle.message_defs.specs.Spelling.{IsStatement}
use Rattle.message_defs.specs.Updates.{Value}
use Rattle.message_defs.specs.Statements.{Statement, Init, Echo, Order, Place, Keep, Notify, End, Last, Suggest, Ack, Ready, Claim, slot_of}
use Rattle.group_defs.specs.Views.{IsView, ViewsSpent, update_faults, has_keys, is_member, is_possible, next_fault, next_view}
use Rattle.group_defs.proofs.FollowingViews.{next_is_view}
use Rattle.group_defs.specs.Process.{Setting, Delivered, Left, Process, deliveries_of, earlier, keyed, places_in, start}
use Rattle.group_defs.specs.Accounts.{IsByPlace}
use Rattle.group_defs.specs.Certified.{heard_on}
use Rattle.group_defs.specs.Due.{may_sign}
use Rattle.group_defs.specs.Signing.{Signer, own_claim, signs}
use Rattle.group_defs.specs.Settle.{decided_by, deliverable}
use Rattle.group_defs.specs.Family.{claims_in, handed_to}
use Rattle.group_defs.specs.Events.{Turn, after, run}
use Rattle.pool_laws.proofs.Heard.{certified-heard, heard-says, payload-certified}
use Rattle.pool_laws.proofs.Members.{Mem, All-mem, append-mem, each-snoc, mem-All, mem-append, mem-behind}
use Rattle.pool_laws.proofs.Places.{slice_get-mem}
use Rattle.pool_laws.proofs.Tests.{and-first, and-second, none-is, option_or-is, some-and, yes-is}
use Rattle.safety_laws.proofs.Batches.{delivery-paid, next-place}
use Rattle.safety_laws.proofs.Induction.{Keeps, run-keeps}
use Rattle.safety_laws.proofs.Installed.{decided_by-is}
use Rattle.safety_laws.proofs.MaySign.{signing-due}
use Rattle.image_laws.specs.Keeping.{AcceptedFits, InRange, PlacedFits}
use Rattle.image_laws.proofs.Accepting.{accepted_is_kept}
use Rattle.image_laws.proofs.Placing.{all-deliveries, nothing-stands, placed_is_kept}

-- ---- payloads

-- a payload that the statement gives has at most 1,024 bytes
abbrev pub PaysShort : Statement → Type 0
PaysShort (Init x l payload) = length payload ≤ most_payload_bytes
PaysShort (Echo x m payload) = length payload ≤ most_payload_bytes
PaysShort _ = Unit {0}

-- so have those of messages that are delivered
abbrev pub AreShort : List Delivered → Type 0
AreShort ds = (d : Delivered) → Mem d ds → length d.payload ≤ most_payload_bytes

pub pays-short : (st : Statement) → IsStatement st → PaysShort st
pays-short (Init x l payload) is = is.2
pays-short (Echo x m payload) is = is.2
pays-short (Order x k b) is = tt
pays-short (Place x k b) is = tt
pays-short (Keep x k b) is = tt
pays-short (Notify x u) is = tt
pays-short (End x k) is = tt
pays-short (Last x r ready) is = tt
pays-short (Suggest x r v) is = tt
pays-short (Ack x r v) is = tt
pays-short (Ready x r v) is = tt

pub in-range : (st : Statement) → IsStatement st → InRange st
in-range (Order x k b) is = is.1
in-range (Place x k b) is = (is.1, is.2.some, is.2.few)
in-range (Init x l payload) is = tt
in-range (Echo x m payload) is = tt
in-range (Keep x k b) is = tt
in-range (Notify x u) is = tt
in-range (End x k) is = tt
in-range (Last x r ready) is = tt
in-range (Suggest x r v) is = tt
in-range (Ack x r v) is = tt
in-range (Ready x r v) is = tt

-- ---- a process

record Ranged (s : Setting) (p : Process) : Type 0 where
  pub number : p.pool.view.number ≤ last_number
  pub view : IsView p.pool.view
  pub possible : (d : ℕ × Value) → p.decision ≡ Some d → is_possible (keyed s) p.pool.view d.1.update ≡ true
  pub heard : (c : Claim) → Mem c p.pool.heard → PaysShort c.statement
  pub lefts : (l : Left) → Mem l p.left → AreShort l.delivered
  pub here : AreShort p.delivered

abbrev AcceptsShort : Process → Type 0
AcceptsShort p = (b : List ℕ) → Mem b p.accepted → length b ≤ most_payload_bytes

-- where no payload that it accepted is too long
abbrev RangedSo : Setting → Process → Type 0
RangedSo s p = AcceptsShort p → Ranged s p

pays : (s : Setting) (p : Process) (st : Statement) → may_sign s p st ≡ true → AcceptsShort p → Ranged s p → PaysShort st
pays s p (Init x l payload) may short ok =
    let at = some-and (slice_get p.accepted (earlier p + l)) (λ accepted. is_yes (bytes_discrete payload accepted))
    (and-second _ _ (signing-due s p (Init x l payload) may)) in
    subst (λ (b : List ℕ). length b ≤ most_payload_bytes) (sym (yes-is (bytes_discrete payload at.0) at.2))
    (short at.0 (slice_get-mem p.accepted (earlier p + l) at.0 at.1))
pays s p (Echo x m payload) may short ok =
    let said = heard-says p.pool (Init x m.number payload) m.sender (and-first _ _ (signing-due s p (Echo x m payload) may)) in
    subst PaysShort said.3 (ok.heard said.0 said.1)
pays s p (Order x k b) may short ok = tt
pays s p (Place x k b) may short ok = tt
pays s p (Keep x k b) may short ok = tt
pays s p (Notify x u) may short ok = tt
pays s p (End x k) may short ok = tt
pays s p (Last x r ready) may short ok = tt
pays s p (Suggest x r v) may short ok = tt
pays s p (Ack x r v) may short ok = tt
pays s p (Ready x r v) may short ok = tt

signs-one : (s : Setting) (p : Process) (signer : Signer) (st : Statement) → may_sign s p st ≡ true → AcceptsShort p → Ranged s p
    → Ranged s (signs s signer p st)
signs-one s p signer st may short ok = go (is_some (heard_on p.pool p.me (slot_of st)))
  where
    go : (b : Bool) → Ranged s (record p {
      signed = p.signed ++ own_claim s signer p st ∷ [];
      pool = record { view = p.pool.view; heard = if b then p.pool.heard else p.pool.heard ++ own_claim s signer p st ∷ [] };
    })
    go true = record {
      number = ok.number;
      view = ok.view;
      possible = ok.possible;
      heard = ok.heard;
      lefts = ok.lefts;
      here = ok.here;
    }
    go false = record {
      number = ok.number;
      view = ok.view;
      possible = ok.possible;
      heard = each-snoc (λ (d : Claim). PaysShort d.statement) p.pool.heard (own_claim s signer p st) ok.heard (pays s p st may short ok);
      lefts = ok.lefts;
      here = ok.here;
    }

delivers-short : (s : Setting) (p : Process) (ds : List Delivered) → is_member p.pool.view p.me ≡ true → deliverable p ≡ Some ds
    → Ranged s p → AreShort ds
delivers-short s p ds member e ok d m =
    let next = next-place p ds e in
    let paid = delivery-paid p.pool (places_in p.delivered) next.0 ds next.2 d m in
    let said = certified-heard p.pool (Echo p.pool.view.number d.message d.payload) p.me member
    (payload-certified p.pool d.message d.payload paid) in
    subst PaysShort said.1.3 (ok.heard said.1.0 said.1.1)

both-short : (ds es : List Delivered) → AreShort ds → AreShort es → AreShort (ds ++ es)
both-short ds es one two d m = elim (append-mem ds es d m) [ inl here ↦ one d here | inr there ↦ two d there ]

-- ---- the next view

first-not : {A : Type 0} (b : Bool) (x : A) (rest : List (Bool × A)) → first_that_holds ((b, x) ∷ rest) ≡ None → b ≡ false
first-not true x rest e = absurd cc
first-not false x rest e = refl

module _ (s : Setting) (p : Process) (d : ℕ × Value) (decided : p.decision ≡ Some d) (ok : Ranged s p) where
  no-fault : next_fault p.pool.view d.1.update ≡ None
  no-fault = none-is (next_fault p.pool.view d.1.update)
      (and-first (is_none (next_fault p.pool.view d.1.update)) (has_keys (keyed s) d.1.update) (ok.possible d decided))

  next-number : p.pool.view.number + 1 ≤ last_number
  next-number =
      let other : p.pool.view.number ≡ last_number → ⊥ = eqb-false p.pool.view.number last_number
      (first-not (p.pool.view.number == last_number) ViewsSpent (update_faults p.pool.view d.1.update) no-fault) in
      let most = ok.number in
      omega (arith, other, most)

  next-view : IsView (next_view p.pool.view d.1.update)
  next-view = next_is_view p.pool.view d.1.update no-fault ok.view

-- ---- each change

keeps : (s : Setting) (from : List Claim) → ((c : Claim) → Mem c from → PaysShort c.statement) → Keeps s from (RangedSo s)
keeps s from all = record {
  accepts = λ p payload ok short.
      let was = ok (λ b m. short b (mem-append p.accepted (payload ∷ []) b m)) in
      record { number = was.number; view = was.view; possible = was.possible; heard = was.heard; lefts = was.lefts; here = was.here };
  perceives = λ p e ok short.
      let was = ok short in
      record { number = was.number; view = was.view; possible = was.possible; heard = was.heard; lefts = was.lefts; here = was.here };
  hears = λ p c m e ok short.
      let was = ok short in
      record {
        number = was.number;
        view = was.view;
        possible = was.possible;
        heard = each-snoc (λ (d : Claim). PaysShort d.statement) p.pool.heard c was.heard (all c m);
        lefts = was.lefts;
        here = was.here;
      };
  doubts = λ p conflicts ok short.
      let was = ok short in
      record { number = was.number; view = was.view; possible = was.possible; heard = was.heard; lefts = was.lefts; here = was.here };
  signs = λ p signer st next none ok short. signs-one s p signer st next.may short (ok short);
  decides = λ p ok short.
      let was = ok short in
      record {
        number = was.number;
        view = was.view;
        possible = λ d e. elim (option_or-is p.decision (decided_by s p.pool) d e) [
          | inl before ↦ was.possible d before
          | inr now ↦ (decided_by-is s p.pool d now).0
        ];
        heard = was.heard;
        lefts = was.lefts;
        here = was.here;
      };
  delivers = λ p ds member room e ok short.
      let was = ok short in
      record {
        number = was.number;
        view = was.view;
        possible = was.possible;
        heard = was.heard;
        lefts = was.lefts;
        here = both-short p.delivered ds was.here (delivers-short s p ds member e was);
      };
  installs = λ p d decided whole ok short.
      let was = ok short in
      record {
        number = next-number s p d decided was;
        view = next-view s p d decided was;
        possible = λ e is. absurd cc;
        heard = λ c m. absurd m;
        lefts = each-snoc (λ (l : Left). AreShort l.delivered) p.left _ was.lefts was.here;
        here = λ e m. absurd m;
      };
  halts = λ p d decided member ok short.
      let was = ok short in
      record { number = was.number; view = was.view; possible = was.possible; heard = was.heard; lefts = was.lefts; here = was.here };
}

-- ---- runs

accepts-run : (s : Setting) (p : Process) (turns : List Turn) → AcceptedFits p → AcceptedFits (run s p turns)
unfolding run
accepts-run s p [] fits = fits
accepts-run s p (t ∷ turns) fits = accepts-run s (after s p t) turns (accepted_is_kept s p t fits)

abbrev AllIn : List Claim → Type 0
AllIn cs = (c : Claim) → Mem c cs → IsStatement c.statement

placed-run : (s : Setting) (p : Process) (turns : List Turn) → AllIn (handed_to turns) → PlacedFits p → PlacedFits (run s p turns)
unfolding run
placed-run s p [] handed fits = fits
placed-run s p (t ∷ turns) handed fits =
    placed-run s (after s p t) turns (λ c m. handed c (mem-behind (claims_in t.event) (handed_to turns) c m))
    (placed_is_kept s p t (mem-All (λ (c : Claim). InRange c.statement) (claims_in t.event)
    (λ c m. in-range c.statement (handed c (mem-append (claims_in t.event) (handed_to turns) c m)))) fits)

none-of : {A : Type 0} (P : A → Type 0) → All P []
none-of P = mem-All P [] (λ x m. absurd m)

-- what is known of a process that a run made
pub record IsRanged (p : Process) : Type 0 where
  pub number : p.pool.view.number ≤ last_number
  pub view : IsView p.pool.view
  pub by_place : All IsByPlace (deliveries_of p)
  pub few_places : All (λ ds. places_in ds ≤ most_places) (deliveries_of p)
  pub short : All AreShort (deliveries_of p)

module _ (s : Setting) (me limit : ℕ) (turns : List Turn) (zeroth : s.genesis.number ≡ 0) (genesis : IsView s.genesis)
    (handed : All (λ c. IsStatement c.statement) (handed_to turns)) where
  abbrev first : Process
  first = start s me limit

  abbrev last : Process
  last = run s (start s me limit) turns

  each-handed : AllIn (handed_to turns)
  each-handed c m = All-mem (λ (c : Claim). IsStatement c.statement) (handed_to turns) c handed m

  accepted : AcceptedFits last
  accepted = accepts-run s first turns (record { short = none-of _; backlog = omega arith })

  placed : PlacedFits last
  placed = placed-run s first turns each-handed (record {
    by_place = all-deliveries IsByPlace first (λ l m. absurd m) nothing-stands.0;
    few_places = all-deliveries (λ ds. places_in ds ≤ most_places) first (λ l m. absurd m) nothing-stands.1;
    outside = λ e. refl;
    placed = λ k lt. absurd (omega (arith, lt));
    paid = none-of _;
    in_range = none-of _;
  })

  begins : RangedSo s first
  begins short = record {
    number = omega (arith, zeroth);
    view = genesis;
    possible = λ d e. absurd cc;
    heard = λ c m. absurd m;
    lefts = λ l m. absurd m;
    here = λ d m. absurd m;
  }

  ranged-so : AcceptsShort last → Ranged s last
  ranged-so = run-keeps s (RangedSo s) turns (keeps s (handed_to turns) (λ c m. pays-short c.statement (each-handed c m))) first begins

  ranged : Ranged s last
  ranged = ranged-so (λ b m. All-mem (λ (b : List ℕ). length b ≤ most_payload_bytes) last.accepted b accepted.short m)

  pub is-ranged : IsRanged last
  is-ranged = record {
    number = ranged.number;
    view = ranged.view;
    by_place = placed.by_place;
    few_places = placed.few_places;
    short = all-deliveries AreShort last ranged.lefts ranged.here;
  }
