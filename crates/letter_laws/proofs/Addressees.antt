-- To whom a process sends.
use Rattle.std.proofs.Common.{◌≡◌, ◌⊎◌, inl, inr, ℕ, List, [], ◌∷◌, ◌++◌, Option, Some, None, Bool, true, false, refl, sym, subst, ◌∙◌}
use Rattle.std.specs.Prelude.{◌≢◌, if◌then◌else◌, ◌==◌, not, is_none, filter, All, IsTrue}
use Rattle.std.proofs.lemmas.Bool.{eq-eqb}
use Rattle.byte_defs.specs.Members.{has}
use Rattle.message_defs.specs.Updates.{Update, Remove, Add, Renew, Value}
use Rattle.message_defs.specs.Statements.{Claim}
use Rattle.message_defs.specs.Claims.{Claims, Wants, Faulty}
use Rattle.group_defs.specs.Views.{View, next_fault, has_keys, is_possible, next_view}
use Rattle.group_defs.specs.Process.{Setting, Process, keyed}
use Rattle.group_defs.specs.Settle.{decided_by, decide, deliver, leave}
use Rattle.group_defs.specs.Sending.{Sending, Parcel, Bundle, Proof, bundle, answer, others, sends_to, unless_empty}
use Rattle.group_defs.specs.Family.{claims_in}
use Rattle.group_defs.specs.Events.{Event, Submit, Hand, Suspect, Join, RenewView, Tick, EventFault, Turn, Outcome, refusal, take_in, signing, is_tick, answers, answered, outcome, run}
use Rattle.pool_laws.proofs.Members.{Mem, All-mem, mem-All, append-mem, filter-mem}
use Rattle.pool_laws.proofs.Sorting.{mem-sorted}
use Rattle.pool_laws.proofs.Tests.{and-second, option_or-is}
use Rattle.safety_laws.proofs.Induction.{Keeps, AreFrom, run-keeps, deliver-keeps, leave-keeps, sign_all-keeps, take_in-keeps}
use Rattle.safety_laws.proofs.Installed.{decided_by-is}
use Rattle.letter_laws.specs.Letters.{IsFromOther, IsKeyed, IsOther, SendsToOthers, StartIsKeyed}

-- ---- members have keys

abbrev HasKeyOf : Setting → ℕ → Type 0
HasKeyOf s m = IsTrue (has (keyed s) m)

pub next-members : (keys : List ℕ) (v : View) (u : Update) → ((m : ℕ) → Mem m v.members → has keys m ≡ true) → has_keys keys u ≡ true → (m : ℕ)
    → Mem m (next_view v u).members → has keys m ≡ true
next-members keys v (Remove p) each has-key m there = each m (filter-mem (λ q. not (q == p)) v.members m there).0
next-members keys v (Add p) each has-key m there = go (append-mem v.members (p ∷ []) m there)
  where
    go : Mem m v.members ⊎ Mem m (p ∷ []) → has keys m ≡ true
    go (inl old) = each m old
    go (inr (inl same)) = subst (λ q. has keys q ≡ true) same has-key
    go (inr (inr none)) = absurd none
next-members keys v Renew each has-key m there = each m there

keeps : (s : Setting) (me : ℕ) (from : List Claim) → Keeps s from (IsKeyed s me)
keeps s me from = record {
  accepts = λ p payload ok. record { number = ok.number; members = ok.members; possible = ok.possible };
  perceives = λ p e ok. record { number = ok.number; members = ok.members; possible = ok.possible };
  hears = λ p c m e ok. record { number = ok.number; members = ok.members; possible = ok.possible };
  doubts = λ p conflicts ok. record { number = ok.number; members = ok.members; possible = ok.possible };
  signs = λ p signer st next none ok. record { number = ok.number; members = ok.members; possible = ok.possible };
  decides = λ p ok. record {
    number = ok.number;
    members = ok.members;
    possible = λ d e. elim (option_or-is p.decision (decided_by s p.pool) d e) [
      | inl was ↦ ok.possible d was
      | inr now ↦
          (decided_by-is s p.pool d now).0
    ];
  };
  delivers = λ p ds member room e ok. record { number = ok.number; members = ok.members; possible = ok.possible };
  installs = λ p d decided whole ok. record {
    number = ok.number;
    members = mem-All (HasKeyOf s) (next_view p.pool.view d.1.update).members (next-members (keyed s) p.pool.view d.1.update
        (λ m there. All-mem (HasKeyOf s) p.pool.view.members m ok.members there)
        (and-second (is_none (next_fault p.pool.view d.1.update)) (has_keys (keyed s) d.1.update) (ok.possible d decided)));
    possible = λ e none. absurd cc;
  };
  halts = λ p d decided member ok. record { number = ok.number; members = ok.members; possible = ok.possible };
}

pub start_is_keyed : StartIsKeyed
start_is_keyed s me limit all = record { number = refl; members = all; possible = λ d none. absurd cc }

-- ---- what is sent

abbrev GoesToOthers : Setting → ℕ → Sending → Type 0
GoesToOthers s me out = (q : ℕ) → Mem q out.to → IsOther s me q

abbrev EachGoes : Setting → ℕ → List Sending → Type 0
EachGoes s me sends = (out : Sending) → Mem out sends → GoesToOthers s me out

sent-to : (s : Setting) (me : ℕ) (to : List ℕ) (parcel : Parcel) → ((q : ℕ) → Mem q to → IsOther s me q) → EachGoes s me (sends_to to parcel)
sent-to s me [] parcel each out none = absurd none
sent-to s me (p ∷ ps) parcel each out (inl same) = subst (GoesToOthers s me) same each
sent-to s me (p ∷ ps) parcel each out (inr none) = absurd none

sent-unless : (s : Setting) (me : ℕ) (claims : List Claim) (parcel : List Claim → Parcel) (to : List ℕ)
    → ((q : ℕ) → Mem q to → IsOther s me q) → EachGoes s me (unless_empty claims parcel to)
sent-unless s me [] parcel to each = λ out none. absurd none
sent-unless s me (c ∷ cs) parcel to each = sent-to s me to (parcel (c ∷ cs)) each

apart : (q me : ℕ) → not (q == me) ≡ true → q ≢ me
apart q me other same = go (q == me) (eq-eqb q me same) other
  where
    go : (b : Bool) → b ≡ true → not b ≡ true → ⊥
    go true e f = cc
    go false e f = cc

others-are : (s : Setting) (me : ℕ) (p : Process) → IsKeyed s me p → (q : ℕ) → Mem q (others p p.pool.view) → IsOther s me q
others-are s me p ok q there =
    let m = filter-mem (λ m. not (m == p.me)) p.pool.view.members q
    (mem-sorted (λ m. m ∷ []) (filter (λ m. not (m == p.me)) p.pool.view.members) q there) in
    (All-mem (HasKeyOf s) p.pool.view.members q ok.members m.0, λ same. apart q p.me m.1 (same ∙ sym ok.number))

answers-go : (s : Setting) (me : ℕ) (q : Process) (e : Event) → IsFromOther me e → IsKeyed s me q → EachGoes s me (answers s q e)
answers-go s me q (Hand from (Wants x k)) other ok = go (has (keyed s) from) refl
  where
    one : has (keyed s) from ≡ true → (r : ℕ) → Mem r (from ∷ []) → IsOther s me r
    one has-key r (inl same) = subst (IsOther s me) same (has-key, other)
    one has-key r (inr none) = absurd none

    go : (b : Bool) → has (keyed s) from ≡ b → EachGoes s me (if b then unless_empty (answer q x k) Proof (from ∷ []) else [])
    go true e = sent-unless s me (answer q x k) Proof (from ∷ []) (one e)
    go false e = λ out none. absurd none
answers-go s me q (Hand from (Claims cs)) other ok = λ out none. absurd none
answers-go s me q (Hand from (Faulty fault)) other ok = λ out none. absurd none
answers-go s me q (Submit payload) other ok = λ out none. absurd none
answers-go s me q (Suspect r) other ok = λ out none. absurd none
answers-go s me q (Join r) other ok = λ out none. absurd none
answers-go s me q RenewView other ok = λ out none. absurd none
answers-go s me q Tick other ok = sent-to s me (others q q.pool.view) _ (others-are s me q ok)

both-go : (s : Setting) (me : ℕ) (xs ys : List Sending) → EachGoes s me xs → EachGoes s me ys → EachGoes s me (xs ++ ys)
both-go s me xs ys first more out m = elim (append-mem xs ys out m) [ inl here ↦ first out here | inr there ↦ more out there ]

sent-so : (s : Setting) (me : ℕ) (p : Process) (t : Turn) → IsFromOther me t.event → IsKeyed s me p → EachGoes s me (outcome s p t).sends
sent-so s me p t other ok = go (refusal s p t.event)
  where
    signed : IsKeyed s me (signing s p t).now
    signed = sign_all-keeps s (claims_in t.event) (IsKeyed s me) (keeps s me (claims_in t.event)) t.signer t.allowance (take_in s p t.event)
        (take_in-keeps s (claims_in t.event) (IsKeyed s me) (keeps s me (claims_in t.event)) t.event (unfold AreFrom in λ c m. m) p ok)

    settled : IsKeyed s me (leave (deliver (decide s (signing s p t).now)))
    settled = leave-keeps s (claims_in t.event) (IsKeyed s me) (keeps s me (claims_in t.event)) (deliver (decide s (signing s p t).now))
        (deliver-keeps s (claims_in t.event) (IsKeyed s me) (keeps s me (claims_in t.event)) (decide s (signing s p t).now)
        ((keeps s me (claims_in t.event)).decides (signing s p t).now signed))

    go : (o : Option EventFault) → EachGoes s me (let it : Outcome = elim o [
      | None ↦ answered s p t (signing s p t)
      | Some fault ↦ record { verdict = Some fault; heard = 0; signed = []; spent = false; sends = []; notes = [] }
    ] in it.sends)
    go None = both-go s me (unless_empty (bundle (is_tick t.event) p (signing s p t).now) Bundle (others p p.pool.view)) _
        (sent-unless s me (bundle (is_tick t.event) p (signing s p t).now) Bundle (others p p.pool.view) (others-are s me p ok))
        (answers-go s me (leave (deliver (decide s (signing s p t).now))) t.event other settled)
    go (Some fault) = λ out none. absurd none

pub sends_to_others : SendsToOthers
sends_to_others s me p ts t begun other =
    let ok = run-keeps s (IsKeyed s me) ts (keeps s me _) p begun in
    mem-All (λ out. All (IsOther s me) out.to) (outcome s (run s p ts) t).sends
    (λ out m. mem-All (IsOther s me) out.to (sent-so s me (run s p ts) t other ok out m))
