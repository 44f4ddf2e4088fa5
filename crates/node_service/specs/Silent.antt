-- The history of a service that says nothing.
use Rattle.std.specs.Prelude.{◌≡◌, List, [], ◌∷◌}
use Rattle.node_defs.specs.Nodes.{Call, Serves, NotesOf, Asks, Words, Answer, Done, Said}
use Rattle.node_traces.specs.Service.{Asked}

-- as it begins and of a note it says nothing, it names nobody, and it has no line
abbrev pub IsNothing : Call → Answer → Type 0
IsNothing Serves a = a ≡ Said [] []
IsNothing (NotesOf p note) a = a ≡ Said [] []
IsNothing (Asks p e notes above) a = a ≡ Done
IsNothing (Words p line) a = a ≡ Done
IsNothing _ a = ⊥

-- each call was answered with nothing
abbrev pub AreNothing : List Asked → Type 0
AreNothing [] = Unit {0}
AreNothing (i ∷ h) = IsNothing i.call i.answer × AreNothing h
