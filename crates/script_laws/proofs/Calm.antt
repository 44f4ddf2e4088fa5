-- What a node has stopped for, by the counts of faults.
use Rattle.std.proofs.Common.{◌≡◌, ◌≢◌, inl, inr, ℕ, ◌+◌, Bool, true, false, if◌then◌else◌, List, [], ◌∷◌, length, Option, Some, None, refl, sym, ap}
use Rattle.group_defs.specs.Events.{EventFault}
use Rattle.journal_defs.specs.Entries.{Event, entry_bytes}
use Rattle.node_defs.specs.Scripts.{Line}
use Rattle.node_defs.specs.Lines.{Stop, Ended, NoMemory, ReadFailed, WriteFailed, BadLine, Full}
use Rattle.node_defs.specs.Casts.{Cast, entry_for}
use Rattle.node_defs.specs.Nodes.{Node, Append, Call, Binds, Unremembered, ends, goes, is_full, after_step, after_line}
use Rattle.node_traces.specs.Outside.{SinkSeen, SinkStep, SinkFailed, SourceSeen, SourceStep, AtEnd}
use Rattle.script_laws.specs.Faults.{ByCount}

-- ---- of one call

-- by what the node has stopped for, the counts of output and input before and after, and what is left of the input
abbrev pub Caused : Option Stop → SinkSeen → SinkSeen → SourceSeen → SourceSeen → Type 0
Caused stopped k l s t = ByCount stopped WriteFailed k.faults l.faults × ByCount stopped ReadFailed s.faults t.faults
    × (stopped ≡ Some Ended → AtEnd t.left)

-- it has stopped for no fault of output or input, nor for the input's end
abbrev pub IsCalm : Option Stop → Type 0
IsCalm stopped = (stopped ≢ Some WriteFailed) × (stopped ≢ Some ReadFailed) × (stopped ≢ Some Ended)

pub calm : (stopped : Option Stop) (k l : SinkSeen) (s t : SourceSeen) → IsCalm stopped → l.faults ≡ k.faults → t.faults ≡ s.faults
    → Caused stopped k l s t
calm stopped k l s t is sink source = (inr (is.0, sink), inr (is.1, source), (λ e. absurd (is.2 e)))

pub same-sink : (k l : SinkSeen) → k ≡ l → l.faults ≡ k.faults
same-sink k l e = sym (ap (λ (x : SinkSeen). x.faults) e)

pub same-source : (s t : SourceSeen) → s ≡ t → t.faults ≡ s.faults
same-source s t e = sym (ap (λ (x : SourceSeen). x.faults) e)

pub still : (stopped : Option Stop) (k l : SinkSeen) (s t : SourceSeen) → IsCalm stopped → k ≡ l → s ≡ t → Caused stopped k l s t
still stopped k l s t is sink source = calm stopped k l s t is (same-sink k l sink) (same-source s t source)

pub goes-calm : IsCalm None
goes-calm = ((λ e. absurd cc), (λ e. absurd cc), (λ e. absurd cc))

pub write-failed : (k l : SinkSeen) (s t : SourceSeen) (text : List ℕ) → SinkFailed k l text → s ≡ t → Caused (Some WriteFailed) k l s t
write-failed k l s t text failed source = (inl (refl, failed.rose), inr ((λ e. absurd cc), same-source s t source), (λ e. absurd cc))

quiet-sink : (k l : SinkSeen) (call : Call) → SinkStep k (call, Unremembered) l → k ≡ l
quiet-sink k l (Binds port) e = e
quiet-sink k l _ e = e

quiet-source : (most : ℕ) (s t : SourceSeen) (call : Call) → SourceStep most s (call, Unremembered) t → s ≡ t
quiet-source most s t (Binds port) e = e
quiet-source most s t _ e = e

pub no-memory : (most : ℕ) (k l : SinkSeen) (s t : SourceSeen) (call : Call) → SinkStep k (call, Unremembered) l
    → SourceStep most s (call, Unremembered) t → Caused (Some NoMemory) k l s t
no-memory most k l s t call sink source =
    still (Some NoMemory) k l s t ((λ e. absurd cc), (λ e. absurd cc), (λ e. absurd cc)) (quiet-sink k l call sink) (quiet-source most s t call source)

-- ---- which stops an answer may bring

pub step-calm : (c : Cast) (n : Node) (p : ℕ) (e : Event) (verdict : Option EventFault) → IsCalm (after_step c n p e verdict).stop
step-calm c n p e (Some fault) = goes-calm
step-calm c n p e None = of (is_full n.gate (entry_for c (n.now p) e))
  where
    of : (b : Bool) → IsCalm (if b then ends n [] (Full (n.gate + 1) (length (entry_bytes (entry_for c (n.now p) e))))
        else goes n (Append p e ∷ [])).stop
    of true = ((λ e. absurd cc), (λ e. absurd cc), (λ e. absurd cc))
    of false = goes-calm

pub line-calm : (n : Node) (line : List ℕ) (many : Bool) (said : Option Line)
    → IsCalm (if many then ends n [] (BadLine (n.lines + 1)) else after_line n line said).stop
line-calm n line true said = ((λ e. absurd cc), (λ e. absurd cc), (λ e. absurd cc))
line-calm n line false None = ((λ e. absurd cc), (λ e. absurd cc), (λ e. absurd cc))
line-calm n line false (Some said) = goes-calm
