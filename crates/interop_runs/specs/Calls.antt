-- Calls of the outside by their kinds: which are to fail, and at which a run is cut off.
use Rattle.std.specs.Prelude.{◌≡◌, ℕ, ◌+◌, ◌-◌, ◌^◌, ◌==◌, ◌&&◌, min, Bool, false, if◌then◌else◌, Option, None, Some, List, [], ◌∷◌, Vec, codes}
use Rattle.std.specs.List.{list_any}
use Rattle.std.specs.declared.alloc.Global.{Global}
use Rattle.interop_runs.specs.declared.calls.Kind.{Kind}
use Rattle.interop_runs.specs.declared.calls.Kind.TheVariants.{Bind, Send, Recv, Len, Read, Write, Sync, Source, Sink}
use Rattle.interop_runs.specs.declared.calls.Nth.{Nth}
use Rattle.interop_runs.specs.declared.calls.Calls.{Calls}

abbrev pub kind_number : Kind → ℕ
kind_number Bind = 0
kind_number Send = 1
kind_number Recv = 2
kind_number Len = 3
kind_number Read = 4
kind_number Write = 5
kind_number Sync = 6
kind_number Source = 7
kind_number Sink = 8

-- the name of a kind: a bind, a send and a receive of the link; the length, a read, a write and a sync of the disk; a read of the input and
-- a write to the output
abbrev pub kind_word : Kind → List ℕ
kind_word Bind = codes "bind"
kind_word Send = codes "send"
kind_word Recv = codes "recv"
kind_word Len = codes "len"
kind_word Read = codes "read"
kind_word Write = codes "write"
kind_word Sync = codes "sync"
kind_word Source = codes "source"
kind_word Sink = codes "sink"

-- the numbers of the calls of a kind among these, counted from 0
abbrev pub numbers_of : Kind → List Nth → List ℕ
numbers_of k [] = []
numbers_of k (n ∷ ns) = if kind_number n.kind == kind_number k then (n.number - 1) ∷ numbers_of k ns else numbers_of k ns

-- a run may be cut off at a write or a sync of the disk
abbrev pub IsCut : Kind → Type 0
IsCut Write = Unit {0}
IsCut Sync = Unit {0}
IsCut _ = ⊥

-- no call was made, and these are to fail
abbrev pub fresh : Vec ℕ Global → Calls
fresh failing = record { made = 0; failing = failing }

-- the next call is among those that are to fail
abbrev pub is_to_fail : Calls → Bool
is_to_fail c = list_any (λ n. n == c.made) c.failing.items

-- after the next call
abbrev pub called : Calls → Calls
called c = record c { made = min (c.made + 1) (2 ^ 64 - 1) }

-- the call of this kind and number, counted from 1, is the one that is named
abbrev pub is_nth : Option Nth → Kind → ℕ → Bool
is_nth None k number = false
is_nth (Some nth) k number = (kind_number nth.kind == kind_number k) && (nth.number == number)
