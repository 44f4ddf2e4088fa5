-- What goes out of a turn and is written, as the code answers.
use Rattle.std.proofs.Common.{◌≡◌, ℕ, List, [], Result, Ok, Err, refl, sym, subst}
use Rattle.group_defs.specs.Process.{Process}
use Rattle.node_defs.specs.Casts.{Cast}
use Rattle.node_defs.specs.Nodes.{Leaving}
use Rattle.node_traces.specs.Outside.{LinkSeen, SinkSeen}
use Rattle.node_traces.specs.Service.{Asked, HeardBy}
use Rattle.letting_laws.specs.Letting.{edge, HasBegun}
use Rattle.letting_laws.proofs.Joined.{begun-with}
use Rattle.sealing_laws.specs.Letters.{LetsTurnOut}
use Rattle.sealing_laws.specs.Running.{Stop as Why}
use Rattle.sealing_laws.specs.Running as whys
use Rattle.node_taking.specs.Taking.{HasDiskCause}
use Rattle.node_taking.specs.Telling.{WritesText, TurnWasLetOut}

begun-by : (c : Cast) (at : ℕ → Process) (ls : List Leaving) (k l : LinkSeen) (h i : List Asked) (old new : List ℕ)
    → LetsTurnOut c at ls k l h i old new → HasBegun c at ls k h l i
begun-by c at ls k l h i old new lets = begun-with c at ls (edge k [] [] h) (edge l lets.text lets.late i) lets.out

said-by : (r : Result (Unit {0}) Why) (c : Cast) (at : ℕ → Process) (ls : List Leaving) (k l : LinkSeen) (h i : List Asked) (s t : SinkSeen)
    (text : List ℕ) → LetsTurnOut c at ls k l h i [] text → WritesText r text s t → TurnWasLetOut r c at ls k l h i s t
said-by (Ok x) c at ls k l h i s t text lets said = record { text = text; out = lets; wrote = said }
said-by (Err whys.WriteFailed) c at ls k l h i s t text lets said = record { text = text; out = lets; wrote = said }
said-by (Err whys.NoMemory) c at ls k l h i s t text lets said = (begun-by c at ls k l h i [] text lets, said)
said-by (Err _) c at ls k l h i s t text lets said = absurd said

module _ {V : Type 0} (heard : V → List Asked → Type 0) (service : V) (c : Cast) (at : ℕ → Process) (ls : List Leaving) (k l : LinkSeen)
    (h : List Asked) where
  -- a turn that was let out, and whose lines, as they are lent, were to be written then
  pub tells-by : (r : Result (Unit {0}) Why) (s t : SinkSeen) (first text lent : List ℕ) → first ≡ [] → lent ≡ text
      → HeardBy heard service (λ i. LetsTurnOut c at ls k l h i first text) → WritesText r lent s t
      → HeardBy heard service (λ i. TurnWasLetOut r c at ls k l h i s t)
  tells-by r s t first text lent none same lets said = record {
    history = lets.history;
    has = lets.has;
    holds = said-by r c at ls k l h lets.history s t lent
        (subst (λ (u : List ℕ). LetsTurnOut c at ls k l h lets.history [] u) (sym same)
        (subst (λ (u : List ℕ). LetsTurnOut c at ls k l h lets.history u text) none lets.holds)) said;
  }

  -- one of which the first went out, before memory ran out
  pub forgot-by : (T : Type 0) (s : SinkSeen) → HeardBy heard service (λ i. HasBegun c at ls k h l i)
      → HeardBy heard service (λ i. TurnWasLetOut (let r : Result T Why = Err whys.NoMemory in r) c at ls k l h i s s)
  forgot-by T s some = record { history = some.history; has = some.has; holds = (some.holds, refl) }

-- the disk is not to blame for what was not written
pub says-cause : (r : Result (Unit {0}) Why) (text : List ℕ) (s t : SinkSeen) (faults : ℕ) → WritesText r text s t → HasDiskCause faults faults r
says-cause (Ok x) text s t faults said = refl
says-cause (Err whys.WriteFailed) text s t faults said = refl
says-cause (Err whys.NoMemory) text s t faults said = refl
says-cause (Err _) text s t faults said = absurd said
