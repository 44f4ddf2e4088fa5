-- What is left of a script in the node's own words, answer by answer.
use Rattle.std.proofs.Common.{◌≡◌, ◌≢◌, ℕ, suc, zero, ◌+◌, ◌≤◌, Bool, true, false, if◌then◌else◌, List, [], ◌∷◌, ◌++◌, length, Option, Some, None, Result, Ok, Err, refl, sym, ap, subst, arith, ◌∙◌}
use Rattle.link_defs.specs.declared.LinkFault.{LinkFault}
use Rattle.group_defs.specs.Events.{EventFault, Note}
use Rattle.journal_defs.specs.Entries.{Event, Submit, Frame, Suspect, Join, Renew, Tick, entry_bytes}
use Rattle.input_defs.specs.Lines.{line_within}
use Rattle.node_defs.specs.Scripts.{Line, Of, Snap, Hand, Receive, Other, line_said, most_lines}
use Rattle.node_defs.specs.Lines.{Stop, BadLine, Full}
use Rattle.node_defs.specs.Casts.{Cast, entry_for}
use Rattle.node_defs.specs.Nodes.{Node, Call, Binds, Task, Append, Word, Unremembered, ends, goes, asks, is_full, after_step, after_came, more_gets, after_line}
use Rattle.node_traces.specs.Outside as outside
use Rattle.node_traces.specs.Outside.{SourceSeen, SourceStep, LineTaken}
use Rattle.stop_laws.specs.Scripts.{IsOwnLine, IsScript, begins, over}

-- a task that comes of the node's own words
abbrev pub IsOwn : Task → Type 0
IsOwn (Word p l) = ⊥
IsOwn _ = Unit {0}

abbrev pub AreOwn : List Task → Type 0
AreOwn [] = Unit {0}
AreOwn (t ∷ ts) = IsOwn t × AreOwn ts

-- the input goes on with a script that has room for the lines
abbrev pub GoesOn : ℕ → List ℕ → ℕ → Option (List ℕ) → Type 0
GoesOn most hosted script None = ⊥
GoesOn most hosted script (Some bytes) = (room : ℕ) × (script + room ≤ most_lines) × IsScript most hosted room bytes

-- it has not stopped at a line
abbrev pub NoLine : Option Stop → Type 0
NoLine stopped = (number : ℕ) → stopped ≢ Some (BadLine number)

-- so it is after each answer
pub record Own (c : Cast) (most : ℕ) (n : Node) (left : Option (List ℕ)) : Type 0 where
  pub stopped : NoLine n.stopped
  pub tasks : AreOwn n.tasks
  pub script : GoesOn most c.hosted n.script left

pub runs-on : NoLine None
runs-on number = λ e. absurd cc

pub own-append : (ts us : List Task) → AreOwn ts → AreOwn us → AreOwn (ts ++ us)
own-append [] us these those = those
own-append (t ∷ ts) us these those = (these.0, own-append ts us these.1 those)

pub own-gets : (p most count : ℕ) → AreOwn (more_gets p most count)
own-gets p zero count = (tt, tt)
own-gets p (suc most) count = (tt, tt)

pub own-came : (p : ℕ) (r : Result (ℕ × List ℕ) LinkFault) → AreOwn (after_came p r)
own-came p (Ok came) = (tt, tt)
own-came p (Err fault) = (tt, tt)

pub own-asks : (p : ℕ) (e : Event) (notes : List Note) → AreOwn (asks p e notes)
own-asks p (Frame from bytes) notes = (tt, tt)
own-asks p (Submit payload) notes = tt
own-asks p (Suspect q) notes = tt
own-asks p (Join q) notes = tt
own-asks p Renew notes = tt
own-asks p Tick notes = tt

-- what the answer to a step brings
pub own-step : (c : Cast) (n : Node) (p : ℕ) (e : Event) (verdict : Option EventFault)
    → NoLine (after_step c n p e verdict).stop × AreOwn (after_step c n p e verdict).before
own-step c n p e (Some fault) = (runs-on, (tt, tt))
own-step c n p e None = of (is_full n.gate (entry_for c (n.now p) e))
  where
    of : (b : Bool) → NoLine (if b then ends n [] (Full (n.gate + 1) (length (entry_bytes (entry_for c (n.now p) e)))) else goes n (Append p e ∷ [])).stop
        × AreOwn (if b then ends n [] (Full (n.gate + 1) (length (entry_bytes (entry_for c (n.now p) e)))) else goes n (Append p e ∷ [])).before
    of true = ((λ number e. absurd cc), tt)
    of false = (runs-on, (tt, tt))

-- what a line in the node's own words asks for
pub own-line : (n : Node) (first : List ℕ) (many : Bool) (reported : Option Line) (said : Line) → many ≡ false → reported ≡ Some said
    → IsOwnLine said → NoLine (if many then ends n [] (BadLine (n.lines + 1)) else after_line n first reported).stop
    × AreOwn (if many then ends n [] (BadLine (n.lines + 1)) else after_line n first reported).before
own-line n first true reported said few is own = absurd cc
own-line n first false None said few is own = absurd cc
own-line n first false (Some Snap) said few is own = (runs-on, (tt, tt))
own-line n first false (Some (Of q (Hand e))) said few is own = (runs-on, (tt, tt))
own-line n first false (Some (Of q (Receive most))) said few is own = (runs-on, (tt, tt))
own-line n first false (Some (Of q Other)) said few is own =
    let same : Of q Other ≡ said = cc in
    absurd (subst IsOwnLine (sym same) own refl)

-- ---- the input

pub quiet : (most : ℕ) (s t : SourceSeen) (call : Call) → SourceStep most s (call, Unremembered) t → s ≡ t
quiet most s t (Binds port) e = e
quiet most s t _ e = e

-- a script is no line that is none
pub broken-not : (most : ℕ) (hosted : List ℕ) (script : ℕ) (left : Option (List ℕ)) → GoesOn most hosted script left → outside.NoLine most left → ⊥
broken-not most hosted script None goes_on broken = absurd goes_on
broken-not most hosted script (Some bytes) goes_on broken = of bytes goes_on.2 broken
  where
    of : {room : ℕ} (bytes : List ℕ) → IsScript most hosted room bytes → outside.NoLine most (Some bytes) → ⊥
    of _ (over room) broken = absurd (omega (arith, broken.1))
    of _ (begins room bytes first rest said is says own more) broken =
        let differ : (let o : Option (List ℕ × List ℕ) = None in o) ≡ Some (first, rest) = sym broken.0 ∙ is in absurd cc

same-line : (a b : List ℕ × List ℕ) → Some a ≡ Some b → a ≡ b
same-line a b e = cc

-- a line of it was taken
pub record TookOwn (most : ℕ) (hosted : List ℕ) (count : ℕ) (left : Option (List ℕ)) (first : List ℕ) : Type 0 where
  pub room : count ≢ most_lines
  pub said : Line
  pub says : line_said hosted first ≡ Some said
  pub own : IsOwnLine said
  pub script : GoesOn most hosted (count + 1) left

pub took-own : (most : ℕ) (hosted : List ℕ) (script : ℕ) (left new : Option (List ℕ)) (first : List ℕ) → GoesOn most hosted script left
    → LineTaken most left new first → TookOwn most hosted script new first
took-own most hosted script None new first goes_on took = absurd goes_on
took-own most hosted script (Some old) None first goes_on took = absurd took
took-own most hosted script (Some old) (Some new) first goes_on took = of goes_on.0 old goes_on.2 goes_on.1 took
  where
    of : (room : ℕ) (bytes : List ℕ) → IsScript most hosted room bytes → script + room ≤ most_lines → line_within most bytes ≡ Some (first, new)
        → TookOwn most hosted script (Some new) first
    of _ _ (over room) fits took = let never : (let o : Option (List ℕ × List ℕ) = None in o) ≡ Some (first, new) = took in absurd cc
    of _ _ (begins less bytes first' rest said is says own more) fits took =
        let both : (let o : Option (List ℕ × List ℕ) = Some (first', rest) in o) ≡ Some (first, new) = sym is ∙ took in
        let alike = same-line (first', rest) (first, new) both in
        let same : first' ≡ first = ap (λ (l : List ℕ × List ℕ). l.0) alike in
        let after : rest ≡ new = ap (λ (l : List ℕ × List ℕ). l.1) alike in
        record {
          room = λ e. absurd (omega (arith, fits, e));
          said = said;
          says = subst (λ (l : List ℕ). line_said hosted l ≡ Some said) same says;
          own = own;
          script = (less, omega (arith, fits), subst (IsScript most hosted less) after more);
        }
