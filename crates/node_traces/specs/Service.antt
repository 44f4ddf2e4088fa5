-- What the service of a node was asked, and what it answered.
--
-- It is asked at four calls, and each shows it hosted processes of the node's cast as they are then.
--   Serves                  all of them, as the node begins
--   NotesOf P N             process P, whose turn let out the note
--   Asks P E NS Q           process P, after its turn
--   Words P L               process P, which the line asks
-- A call for which memory ran out leaves nothing in its history: the node has stopped then.
use Rattle.std.specs.Prelude.{ℕ, List, [], ◌∷◌, ◌++◌, map, flat_map, Option, Some, None}
use Rattle.std.specs.Option.{option_map_or}
use Rattle.group_defs.specs.Process.{Process}
use Rattle.node_defs.specs.Casts.{Cast}
use Rattle.node_defs.specs.Nodes.{Node, Call, Serves, NotesOf, Asks, Words, Answer, Unremembered, Snapper, call_of, answered}

-- one call of it: the cast of the processes that it was shown, those processes, what it was asked, and what it answered
pub record Asked : Type 0 where
  pub cast : Cast
  pub shown : List Process
  pub call : Call
  pub answer : Answer

-- a history of one call
abbrev pub one_asked : Cast → List Process → Call → Answer → List Asked
one_asked c shown call answer = record { cast = c; shown = shown; call = call; answer = answer } ∷ []

-- which of the processes, which are these now, the call shows to the service; none, where it is not one of the service's
abbrev pub shows : Cast → (ℕ → Process) → Call → Option (List Process)
shows c now Serves = Some (map now c.hosted)
shows c now (NotesOf p note) = Some (now p ∷ [])
shows c now (Asks p e notes above) = Some (now p ∷ [])
shows c now (Words p line) = Some (now p ∷ [])
shows c now _ = None

-- what a call with its answer adds to the history
abbrev pub asking : Cast → (ℕ → Process) → Call → Answer → List Asked
asking c now call Unremembered = []
asking c now call a = option_map_or (λ shown. one_asked c shown call a) (shows c now call) []

-- what these calls add, one after the other, while the processes stay as they are
abbrev pub hears : Cast → (ℕ → Process) → List (Call × Answer) → List Asked
hears c now cs = flat_map (λ i. asking c now i.0 i.1) cs

-- what a run adds: each of its calls shows the processes as they are at that moment
unfoldable pub asked_by : Cast → Snapper → Node → List Answer → List Asked
asked_by c snap n [] = []
asked_by c snap n (a ∷ more) = asking c n.now (call_of c n) a ++ asked_by c snap (answered c snap n a) more

-- there is a history that the service has, and of it this holds
pub record HeardBy {V : Type 0} (heard : V → List Asked → Type 0) (service : V) (P : List Asked → Type 0) : Type 0 where
  pub history : List Asked
  pub has : heard service history
  pub holds : P history
