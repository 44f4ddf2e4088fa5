-- What was let out and written, by what a call of the code answered.
use Rattle.std.specs.Prelude.{◌≡◌, ℕ, List, [], Result, Ok, Err}
use Rattle.group_defs.specs.Process.{Process}
use Rattle.node_defs.specs.Casts.{Cast}
use Rattle.node_defs.specs.Nodes.{Leaving}
use Rattle.node_traces.specs.Outside.{LinkSeen, SinkSeen, SinkWrote, SinkFailed}
use Rattle.node_traces.specs.Service.{Asked}
use Rattle.letting_laws.specs.Letting.{HasBegun}
use Rattle.sealing_laws.specs.Letters.{LetsTurnOut}
use Rattle.sealing_laws.specs.Running.{Stop, NoMemory, WriteFailed}

-- the text was written; or the output failed, which took a front of it; or there was no memory for it
abbrev pub WritesText : {T : Type 0} → Result T Stop → List ℕ → SinkSeen → SinkSeen → Type 0
WritesText (Ok x) text old new = SinkWrote old new text
WritesText (Err WriteFailed) text old new = SinkFailed old new text
WritesText (Err NoMemory) text old new = old ≡ new
WritesText (Err _) text old new = ⊥

-- a turn was let out, with this text; and the text was written, or the output failed, which took a front of it
pub record WasLetOut (c : Cast) (at : ℕ → Process) (ls : List Leaving) (k l : LinkSeen) (h i : List Asked) (Wrote : List ℕ → Type 0) : Type 0 where
  pub text : List ℕ
  pub out : LetsTurnOut c at ls k l h i [] text
  pub wrote : Wrote text

-- all of it was let out and written; or the output failed; or memory ran out, after the first of it
abbrev pub TurnWasLetOut : {T : Type 0} → Result T Stop → Cast → (ℕ → Process) → List Leaving → LinkSeen → LinkSeen → List Asked → List Asked
    → SinkSeen → SinkSeen → Type 0
TurnWasLetOut (Ok x) c at ls k l h i old new = WasLetOut c at ls k l h i (SinkWrote old new)
TurnWasLetOut (Err WriteFailed) c at ls k l h i old new = WasLetOut c at ls k l h i (SinkFailed old new)
TurnWasLetOut (Err NoMemory) c at ls k l h i old new = HasBegun c at ls k h l i × (old ≡ new)
TurnWasLetOut (Err _) c at ls k l h i old new = ⊥
