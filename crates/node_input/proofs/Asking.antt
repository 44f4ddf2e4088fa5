-- What a line asks for that was taken.
use Rattle.std.proofs.Common.{◌≡◌, ◌⊎◌, inl, inr, ℕ, List, Option, None, Some, Result, Ok, Err, refl, sym, ap, subst, ◌∙◌}
use Rattle.std.specs.Prelude.{IfErr, IfOk}
use Rattle.node_defs.specs.Scripts.{Line, Of, Snap, Said, Hand, Receive, Other, line_said}
use Rattle.node_defs.specs.Lines.{Stop, Ended, NoMemory, ReadFailed, BadLine}
use Rattle.node_traces.specs.Outside.{SourceSeen, SourceTook, SourceBroke}
use Rattle.node_text.specs.declared.stops.Stop.{Stop as CodeStop}
use Rattle.node_text.specs.declared.stops.Stop.TheVariants as stops
use Rattle.node_text.specs.Views.{stop as stop_of}
use Rattle.script_laws.specs.Script.{AsksHosted}
use Rattle.script_laws.proofs.Asked.{lines_ask_hosted}
use Rattle.node_input.specs.Sources.{IsSeen, SeenAs}
use Rattle.node_input.specs.Reads.{Asks, AsksNone, EndsAfter, IsFor, IsRange, TakesBad, TakesNone}
use Rattle.node_input.proofs.Taken.{untaken}

-- ---- whom it asks

range-of : (hosted line : List ℕ) (p : ℕ) (said : Said) → AsksHosted hosted line p said → IsRange line said
range-of hosted line p (Hand e) asks = tt
range-of hosted line p (Receive most) asks = asks.some most refl
range-of hosted line p Other asks = asks.text refl

pub is-for : (hosted line : List ℕ) (asked : Line) → line_said hosted line ≡ Some asked → IsFor hosted line asked
is-for hosted line (Of p said) e =
    let asks = lines_ask_hosted hosted line p said e in
    (asks.is_hosted, range-of hosted line p said asks)
is-for hosted line Snap e = tt

-- ---- results

pub if-ok : {A E : Type 0} (r : Result A E) (P Q : A → Type 0) → ((a : A) → P a → Q a) → IfOk r P → IfOk r Q
if-ok (Ok a) P Q each is = each a is
if-ok (Err e) P Q each is = tt

pub if-err : {A E : Type 0} (r : Result A E) (P Q : E → Type 0) → ((e : E) → P e → Q e) → IfErr r P → IfErr r Q
if-err (Ok a) P Q each is = tt
if-err (Err e) P Q each is = each e is

-- ---- how the input is seen then

-- of every way of which P holds, Q does
only : (P Q : SourceSeen → Type 0) (ahead : List ℕ) (left : Option (List ℕ)) (faults : ℕ) → ((l : SourceSeen) → P l → Q l)
    → SeenAs P ahead left faults → SeenAs Q ahead left faults
only P Q ahead left faults each way = record { source = way.source; seen = way.seen; holds = each way.source way.holds }

module _ (most : ℕ) (hosted : List ℕ) (number : ℕ) (k : SourceSeen) (line ahead : List ℕ) (now : Option (List ℕ)) (faults : ℕ) where
  pub asks : (asked : Line) → line_said hosted line ≡ Some asked → SeenAs (λ l. SourceTook most k l line) ahead now faults
      → SeenAs (λ l. Asks most hosted k l line asked) ahead now faults
  asks asked is way = only (λ l. SourceTook most k l line) (λ l. Asks most hosted k l line asked) ahead now faults
      (λ l took. record { took = took; says = is }) way

  pub broken-line : SeenAs (λ l. SourceBroke most k l) ahead now faults
      → SeenAs (λ l. TakesNone most number k l (BadLine number)) ahead now faults
  broken-line way = only (λ l. SourceBroke most k l) (λ l. TakesNone most number k l (BadLine number)) ahead now faults
      (λ l broke. (refl, broke)) way

  pub asks-none : (why : Stop) → SeenAs (λ l. TakesNone most number k l why) ahead now faults
      → SeenAs (λ l. AsksNone most hosted number k l why) ahead now faults
  asks-none why way = only (λ l. TakesNone most number k l why) (λ l. AsksNone most hosted number k l why) ahead now faults (λ l none. inl none) way

  pub asks-nothing : line_said hosted line ≡ None → SeenAs (λ l. SourceTook most k l line) ahead now faults
      → SeenAs (λ l. AsksNone most hosted number k l (BadLine number)) ahead now faults
  asks-nothing is way = only (λ l. SourceTook most k l line) (λ l. AsksNone most hosted number k l (BadLine number)) ahead now faults
      (λ l took. inr (record { line = line; took = took; bad = is; reported = refl })) way

  -- memory ran out: it is as if the line had not been taken
  pub forgets : SeenAs (λ l. SourceTook most k l line) ahead now faults
      → (all : List ℕ) × SeenAs (λ l. AsksNone most hosted number k l NoMemory) all now faults
  forgets way = (
    _,
    only (λ l. k ≡ l) (λ l. AsksNone most hosted number k l NoMemory) _ now faults (λ l same. inl same)
        (untaken most k line ahead now faults way),
  )

  pub ends-none : (why : Stop) → SeenAs (λ l. TakesNone most number k l why) ahead now faults → SeenAs (λ l. EndsAfter most number k l why) ahead now faults
  ends-none why way = only (λ l. TakesNone most number k l why) (λ l. EndsAfter most number k l why) ahead now faults (λ l none. inl none) way

  pub one-too-many : SeenAs (λ l. SourceTook most k l line) ahead now faults
      → SeenAs (λ l. EndsAfter most number k l (BadLine number)) ahead now faults
  one-too-many way = only (λ l. SourceTook most k l line) (λ l. EndsAfter most number k l (BadLine number)) ahead now faults
      (λ l took. inr (record { line = line; took = took; bad = tt; reported = refl })) way

  -- as the code says why it asks for nothing
  pub unasked : (line' : List ℕ) (why : CodeStop) → line' ≡ line
      → (why ≡ stops.NoMemory) ⊎ ((why ≡ stops.BadLine number) × (line_said hosted line' ≡ None))
      → SeenAs (λ l. SourceTook most k l line) ahead now faults
      → (all : List ℕ) × SeenAs (λ l. AsksNone most hosted number k l (stop_of why)) all now faults
  unasked line' why same (inl memory) way =
      subst (λ (w : CodeStop). (all : List ℕ) × SeenAs (λ l. AsksNone most hosted number k l (stop_of w)) all now faults) (sym memory) (forgets way)
  unasked line' why same (inr bad) way =
      subst (λ (w : CodeStop). (all : List ℕ) × SeenAs (λ l. AsksNone most hosted number k l (stop_of w)) all now faults) (sym bad.0)
      (ahead, asks-nothing (sym (ap (line_said hosted) same) ∙ bad.1) way)
