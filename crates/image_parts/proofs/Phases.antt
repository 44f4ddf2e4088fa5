-- The phase that a process is in.
use Rattle.std.proofs.Common.{◌≡◌, ◌≢◌, ℕ, ◌<◌, ◌≤◌, List, [], ◌∷◌, Bool, true, false, Option, Some, None, refl, sym, ap, subst, ◌∙◌, arith}
use Rattle.std.specs.Prelude.{◌↔◌, not, is_some, unwrap_or, option_map, option_and_then, if◌then◌else◌, map, IsTrue}
use Rattle.byte_defs.specs.Choices.{first_that_holds}
use Rattle.message_defs.specs.Updates.{Value}
use Rattle.message_defs.specs.Statements.{Statement, End, EndAt, Ready, ReadyAt, Claim, slot_of}
use Rattle.group_defs.specs.Views.{View, IsView, is_member, is_possible}
use Rattle.group_defs.specs.Process.{Pool, Process, places_in}
use Rattle.group_defs.specs.Certified.{is_certified, certified_on, is_ended, own_on, readied}
use Rattle.group_defs.specs.Settle as defs
use Rattle.group_defs.specs.Settle.{phase_of}
use Rattle.pool_laws.proofs.Grown.{is-certified}
use Rattle.pool_laws.proofs.Members.{Mem, mem-map}
use Rattle.rule_laws.proofs.Certified.{backer}
use Rattle.view_phases.specs.declared.phases.Decision.{Decision}
use Rattle.view_phases.specs.declared.phases.ClosingView.{ClosingView}
use Rattle.view_phases.specs.declared.phases.DecidedView.{DecidedView}
use Rattle.view_phases.specs.declared.phases.HaltedView.{HaltedView}
use Rattle.view_phases.specs.declared.phases.OpenView.{OpenView as Opened}
use Rattle.view_phases.specs.declared.phases.Phase.{Phase}
use Rattle.view_phases.specs.declared.phases.Phase.TheVariants.{Observing, OpenView, ClosingView as Closing, DecidedView as Decided, HaltedView as Halted}
use Rattle.view_phases.specs.Phases.{as_phase, decided, decision_of, decides, IsClosing, IsDecided, IsHalted, IsIn}
use Rattle.image_parts.specs.InView.{EndsView, HasEnd, HasHalted, IsDecidedSo}

false-of : (b : Bool) → (b ≡ true → ⊥) → b ≡ false
false-of true no_way = absurd (no_way refl)
false-of false no_way = refl

-- the first of the four tests that holds
pub word-of : (p : Process) (a b c d : Bool) → p.halted ≡ a → is_some p.decision ≡ b → is_member p.pool.view p.me ≡ c → is_ended p ≡ d
    → phase_of p ≡ unwrap_or (first_that_holds ((a, defs.HaltedView) ∷ (b, defs.DecidedView) ∷ (not c, defs.Observing) ∷ (d, defs.ClosingView) ∷ [])) defs.OpenView
word-of p a b c d halted decided member ended = λ i. unwrap_or (first_that_holds ((halted i, defs.HaltedView) ∷ (decided i, defs.DecidedView)
    ∷ (not (member i), defs.Observing) ∷ (ended i, defs.ClosingView) ∷ [])) defs.OpenView

-- ---- undecided

module _ (p : Process) (halted : p.halted ≡ false) (undecided : p.decision ≡ None) where
  pub closing-is : (o : Option ℕ) (n : ℕ) (c : ClosingView) → o ≡ Some n → c.length ≡ n → is_member p.pool.view p.me ≡ true → HasEnd p o
      → IsClosing c p
  closing-is o n c is long member end =
      let there : own_on p (EndAt p.pool.view.number) ≡ Some (End p.pool.view.number n) = end ∙ ap (option_map (End p.pool.view.number)) is in
      record {
        phase = word-of p false false true true halted (ap is_some undecided) member (ap is_some there);
        length = there ∙ ap (λ (k : ℕ). Some (End p.pool.view.number k)) (sym long);
      }

  pub open-is : (o : Option ℕ) → o ≡ None → is_member p.pool.view p.me ≡ true → HasEnd p o → phase_of p ≡ defs.OpenView
  open-is o is member end = word-of p false false true false halted (ap is_some undecided) member
      (ap is_some (end ∙ ap (option_map (End p.pool.view.number)) is))

  pub observing-is : (c : Phase) (b : Bool) → ((o : Opened) → c ≡ OpenView o → ⊥) → as_phase c ≡ (if b then defs.OpenView else defs.Observing)
      → is_member p.pool.view p.me ≡ b → IsIn c p
  observing-is (Observing o) true other is member = absurd cc
  observing-is (Observing o) false other is member =
      λ i. unwrap_or (first_that_holds ((halted i, defs.HaltedView) ∷ (is_some (undecided i), defs.DecidedView)
      ∷ (not (member i), defs.Observing) ∷ (is_ended p, defs.ClosingView) ∷ [])) defs.OpenView
  observing-is (OpenView o) b other is member = absurd (other o refl)
  observing-is (Closing x) true other is member = absurd cc
  observing-is (Closing x) false other is member = absurd cc
  observing-is (Decided x) true other is member = absurd cc
  observing-is (Decided x) false other is member = absurd cc
  observing-is (Halted x) true other is member = absurd cc
  observing-is (Halted x) false other is member = absurd cc

-- an open view is a member's
pub member-so : (b : Bool) → defs.OpenView ≡ (if b then defs.OpenView else defs.Observing) → b ≡ true
member-so true is = refl
member-so false is = absurd cc

-- any other one is not
pub outside-so : (c : Phase) (b : Bool) → ((o : Opened) → c ≡ OpenView o → ⊥) → as_phase c ≡ (if b then defs.OpenView else defs.Observing) → b ≡ false
outside-so c false other is = refl
outside-so (Observing o) true other is = absurd cc
outside-so (OpenView o) true other is = absurd (other o refl)
outside-so (Closing x) true other is = absurd cc
outside-so (Decided x) true other is = absurd cc
outside-so (Halted x) true other is = absurd cc

-- who has decided nothing has not halted
pub not-halted : (p : Process) → HasHalted p → p.decision ≡ None → p.halted ≡ false
not-halted p so none = false-of p.halted (λ on. (let d = so.0 on in none-some none d.1))
  where
    none-some : {o : Option (ℕ × Value)} {d : ℕ × Value} → o ≡ None → o ≡ Some d → ⊥
    none-some a b = cc

-- ---- decided

module _ (p : Process) (d : DecidedView) (is : p.decision ≡ Some (decided d)) (so : HasHalted p) where
  same-decision : (e : ℕ × Value) → p.decision ≡ Some e → e ≡ decided d
  same-decision e e_is = some-same e (decided d) (sym e_is ∙ is)
    where
      some-same : (a b : ℕ × Value) → Some a ≡ Some b → a ≡ b
      some-same a b same = cc

  pub waiting-is : (w : DecidedView) → w ≡ d → places_in p.delivered < (decided d).1.cut → IsDecided w p
  waiting-is w same below = record {
    phase = λ i. unwrap_or (first_that_holds ((going i, defs.HaltedView) ∷ (is_some (is i), defs.DecidedView)
        ∷ (not (is_member p.pool.view p.me), defs.Observing) ∷ (is_ended p, defs.ClosingView) ∷ [])) defs.OpenView;
    decision = is ∙ ap (λ (x : DecidedView). Some (decided x)) (sym same);
  }
    where
      going : p.halted ≡ false
      going = false-of p.halted (λ on. (
          let e = so.0 on in
          let cut : (decided d).1.cut < places_in p.delivered = subst (λ (x : ℕ × Value). x.1.cut < places_in p.delivered) (same-decision e.0 e.1) e.2 in
          absurd (omega (arith, below, cut))))

  pub halted-is : (h : HaltedView) → h.decision ≡ d.decision → h.delivered ≡ places_in p.delivered → (decided d).1.cut < places_in p.delivered
      → IsHalted h p
  halted-is h same many beyond = record {
    phase = λ i. unwrap_or (first_that_holds ((so.1 (decided d, is, beyond) i, defs.HaltedView) ∷ (is_some p.decision, defs.DecidedView)
        ∷ (not (is_member p.pool.view p.me), defs.Observing) ∷ (is_ended p, defs.ClosingView) ∷ [])) defs.OpenView;
    decision = is ∙ ap (λ (x : Decision). Some (decision_of x)) (sym same);
    delivered = sym many;
  }

-- ---- what decides

pub ends-some : (m q : Bool) (x y : ℕ × Value) → Some x ≡ (if m then (if q then Some y else None) else None)
    → (m ≡ true) × (q ≡ true) × (x ≡ y)
ends-some true true x y e = (refl, refl, cc)
ends-some true false x y e = absurd cc
ends-some false q x y e = absurd cc

pub ends-none : (m q : Bool) (y : ℕ × Value) → None ≡ (if m then (if q then Some y else None) else None) → m ≡ true → q ≡ true → ⊥
ends-none true true y e member possible = cc
ends-none true false y e member possible = cc
ends-none false q y e member possible = cc

module _ (m : Bool) (keyed : List ℕ) (v : View) (st : Statement) (d : ℕ × Value) (read : readied st ≡ Some d) where
  abbrev tested : Option (ℕ × Value) → Option (ℕ × Value)
  tested o = if m then option_and_then (λ (e : ℕ × Value). if is_possible keyed v e.1.update then Some e else None) o else None

  pub ended-some : (x : ℕ × Value) → Some x ≡ (if m then decides keyed v st else None)
      → (m ≡ true) × (is_possible keyed v d.1.update ≡ true) × (x ≡ d)
  ended-some x e = ends-some m (is_possible keyed v d.1.update) x d (e ∙ ap tested read)

  pub ended-none : None ≡ (if m then decides keyed v st else None) → m ≡ true → is_possible keyed v d.1.update ≡ true → ⊥
  ended-none e = ends-none m (is_possible keyed v d.1.update) d (e ∙ ap tested read)

-- the certified Ready of a rank is what is found there
pub ready-found : (h : Pool) → IsView h.view → (rank : ℕ) (v : Value) → is_certified h (Ready h.view.number rank v) ≡ true
    → certified_on h (ReadyAt h.view.number rank) ≡ Some (Ready h.view.number rank v)
ready-found h view rank v e =
    let st : Statement = Ready h.view.number rank v in
    let said = (backer h st view.some e).1 in
    is-certified h view.some (slot_of st) st
    (subst (λ (x : Statement). Mem x (map (λ (c : Claim). c.statement) h.heard)) said.3 (mem-map (λ (c : Claim). c.statement) h.heard said.0 said.1)) refl e

some-statement : (a b : Statement) → Some a ≡ Some b → a ≡ b
some-statement a b same = cc

-- so it tells the value
pub ready-read : (h : Pool) → IsView h.view → (rank : ℕ) (v : Value) → is_certified h (Ready h.view.number rank v) ≡ true
    → (st : Statement) → Some st ≡ certified_on h (ReadyAt h.view.number rank) → readied st ≡ Some (rank, v)
ready-read h view rank v e st found = ap readied (some-statement st (Ready h.view.number rank v) (found ∙ ready-found h view rank v e))

pub ready-there : (h : Pool) → IsView h.view → (rank : ℕ) (v : Value) → is_certified h (Ready h.view.number rank v) ≡ true
    → None ≡ certified_on h (ReadyAt h.view.number rank) → ⊥
ready-there h view rank v e none = never (none ∙ ready-found h view rank v e)
  where
    never : {st : Statement} → None ≡ Some st → ⊥
    never a = cc

-- ---- of what is decided, if anything is

pub of-one : (P : ℕ × Value → Type 0) (d : ℕ × Value) (b : Bool) → (IsTrue b ↔ ((e : ℕ × Value) → Some d ≡ Some e → P e)) → IsTrue b ↔ P d
of-one P d b so = (λ ok. so.0 ok d refl, λ it. so.1 (λ e same. subst P (some-same d e same) it))
  where
    some-same : (a b : ℕ × Value) → Some a ≡ Some b → a ≡ b
    some-same a b same = cc

pub decided-some : (P : ℕ × Value → Type 0) (d : ℕ × Value) (o : Option (ℕ × Value)) (b : Bool) → o ≡ Some d → (IsTrue b ↔ P d)
    → IsTrue b ↔ ((e : ℕ × Value) → o ≡ Some e → P e)
decided-some P d o b is so = (
  λ ok e same. subst P (some-same d e (sym is ∙ same)) (so.0 ok),
  λ all. so.1 (all d is),
)
  where
    some-same : (a b : ℕ × Value) → Some a ≡ Some b → a ≡ b
    some-same a b same = cc

pub decided-none : (P : ℕ × Value → Type 0) (o : Option (ℕ × Value)) → o ≡ None → IsTrue true ↔ ((e : ℕ × Value) → o ≡ Some e → P e)
decided-none P o none = (λ ok e same. absurd (none-some none same), λ all. refl)
  where
    none-some : {o : Option (ℕ × Value)} {d : ℕ × Value} → o ≡ None → o ≡ Some d → ⊥
    none-some a b = cc
