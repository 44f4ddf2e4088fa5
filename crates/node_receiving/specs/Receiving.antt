-- One line that receives: what the link answers, and what is left to be done.
use Rattle.std.specs.Prelude.{ℕ, ◌+◌, Bool, true, false, List, [], ◌∷◌, ◌++◌, take, Result, Ok, Err}
use Rattle.rp_base.specs.declared.failed.Failed.{Failed}
use Rattle.rp_base.specs.declared.link.Got.{Got}
use Rattle.rp_base.specs.declared.link.Got.TheVariants as gots
use Rattle.node_defs.specs.Lines.{fault_line, recv_line}
use Rattle.node_defs.specs.Nodes as nodes
use Rattle.node_defs.specs.Nodes.{Answer, Task, Say, more_gets}
use Rattle.node_taking.specs.Hosts.{Running}
use Rattle.node_receiving.specs.declared.receiving.Came.{Came}
use Rattle.node_receiving.specs.declared.receiving.Came.TheVariants as came

-- how the link answers a receive, where what came lies at the front of the room
abbrev pub answer_of : Result Got Failed → List ℕ → Answer
answer_of (Ok gots.Nothing) room = nodes.Done
answer_of (Ok (gots.Datagram n)) room = nodes.Came (take n room)
answer_of (Err failed) room = nodes.Failed

-- the line of a link that failed, where it did
abbrev pub fault_text : ℕ → Bool → List ℕ
fault_text me true = fault_line me
fault_text me false = []

-- what says how many came, after it
abbrev pub end_text : ℕ → Bool → ℕ → List ℕ
end_text me failed count = fault_text me failed ++ recv_line me count

-- the running node, after what came
abbrev pub running_in : Came → Running
running_in (came.One running) = running
running_in (came.Nothing running) = running
running_in (came.Fault running) = running

-- what is left of a line that had `left` receives left, after `count` that came before
abbrev pub left_to_get : ℕ → ℕ → ℕ → Came → List Task
left_to_get me left count (came.One running) = more_gets me left (count + 1)
left_to_get me left count (came.Nothing running) = Say (end_text me false count) ∷ []
left_to_get me left count (came.Fault running) = Say (end_text me true count) ∷ []
