-- A node, call by call. What it does next is a function of what it is (`call_of`), and what it is then is a function of the answer
-- (`answered`). So a run is a list of answers, and a moment of it is a front of that list. Disk, link, input, output, memory and service
-- are what answers: what each of them means is said of the calls and their answers (`calls`).
-- Names here (* for this crate alone):
--   what is to be done: Opening, Leaving, Task, Node
--   calls: Call, opening_call, leaving_call, task_call, call_of_tasks, call_of_leaving, call_of_opening, call_of
--   answers: Answer
--   what an answer changes: Change, goes, ends, done_or, is_full, after_step, more_gets, after_came, asks, post_tasks, after_get,
--     Snapper, after_task, after_leaving, tasks_of_line, after_line, after_read
--   the node after an answer: with_turn, new_entry, leaving_of, new_leaving, changed, if_fits, counts, by_tasks, by_leaving, opened_one,
--     by_opening, by_answer, unless_stopped, answered, run, calls
--   how a run begins: reads_one, takes_up, reads, at_first, entries_in, host_lines, openings, opens, breaks_at, opens_broken
use Rattle.std.specs.Prelude.{◌≡◌, ℕ, zero, suc, ◌+◌, ◌^◌, ◌==◌, nat_lt, Bool, true, false, if◌then◌else◌, List, [], ◌∷◌, ◌++◌, length, map, flat_map, Option, Some, None, Result, Ok, Err}
use Rattle.std.specs.Option.{option_map_or, unwrap_or}
use Rattle.byte_defs.specs.Members.{has}
use Rattle.link_defs.specs.declared.LinkFault.{LinkFault}
use Rattle.group_defs.specs.Process.{Process}
use Rattle.group_defs.specs.Events.{Note, Outcome, EventFault, after}
use Rattle.journal_defs.specs.Entries.{Event, Frame, Suspect, Entry, entry_bytes}
use Rattle.journal_defs.specs.Journals.{record_bytes}
use Rattle.node_defs.specs.Scripts.{Line, Of, Snap, Hand, Receive, Other, line_said, most_lines}
use Rattle.node_defs.specs.Lines.{Stop, Ended, NoMemory, ReadFailed, WriteFailed, DiskFailed, BindFailed, BadLine, BadJournal, Full, host_line, note_line, refused_line, drop_line, fault_line, recv_line, expel_line}
use Rattle.node_defs.specs.Casts.{Cast, Beginning, live, outcome_of, entry_for, letters_of, entries_of, kept_turn, may_have_written}

-- ---- what is to be done

-- before the first line of the script
pub data Opening : Type 0 where
  Bind : (port : ℕ) → Opening
  Greet : (text : List ℕ) → Opening
  -- the service begins
  Serve : Opening
  -- the journal is closed as it is written, and made last
  Finish : Opening

-- what a turn lets out, once its entry is in the journal for good
pub data Leaving : Type 0 where
  Sends : (process to : ℕ) (frame : List ℕ) → Leaving
  Notes : (process : ℕ) (note : Note) → Leaving

-- what else
pub data Task : Type 0 where
  -- the process takes the event
  Take : (process : ℕ) (event : Event) → Task
  -- the turn's entry is appended
  Append : (process : ℕ) (event : Event) → Task
  -- the lines that wait are written
  Flush : Task
  Say : (text : List ℕ) → Task
  -- of a turn: the service is asked whom to suspect next, above this one
  Ask : (process : ℕ) (event : Event) (notes : List Note) (above : Option ℕ) → Task
  -- at most `most` receives more; `count` datagrams came
  Get : (process most count : ℕ) → Task
  -- the service's line
  Word : (process : ℕ) (line : List ℕ) → Task
  -- what the service sends
  Post : (process to : ℕ) (frame : List ℕ) → Task
  Mark : Task

-- a node between two calls
pub record Node : Type 0 where
  -- what each hosted process is after its entries
  pub now : ℕ → Process
  -- the entries that the journal holds for good, from where the reading began
  pub kept : List Entry
  -- the place of the closed gate
  pub gate : ℕ
  -- how many lines of the input were read, and how many of them are the script's
  pub lines : ℕ
  pub script : ℕ
  -- to be done in this order, and then the next line is read
  pub opening : List Opening
  pub leaving : List Leaving
  pub tasks : List Task
  -- lines that wait, and lines of failed sends, which come after them
  pub text : List ℕ
  pub late : List ℕ
  pub stopped : Option Stop

-- ---- calls

-- what the node asks of the outside
pub data Call : Type 0 where
  Binds : (port : ℕ) → Call
  Writes : (text : List ℕ) → Call
  Serves : Call
  Finishes : Call
  SendsTo : (port : ℕ) (datagram : List ℕ) → Call
  NotesOf : (process : ℕ) (note : Note) → Call
  -- memory for the event
  Steps : (process : ℕ) (event : Event) → Call
  Appends : (entry : Entry) → Call
  Asks : (process : ℕ) (event : Event) (notes : List Note) (above : Option ℕ) → Call
  ReceivesOn : (port : ℕ) → Call
  Words : (process : ℕ) (line : List ℕ) → Call
  -- SHA-256 of the journal's bytes before the closed gate
  Marks : Call
  ReadsLine : Call
  -- none: it has stopped
  Rests : Call

abbrev pub opening_call : Opening → Call
opening_call (Bind port) = Binds port
opening_call (Greet text) = Writes text
opening_call Serve = Serves
opening_call Finish = Finishes

abbrev pub leaving_call : Cast → Leaving → Call
leaving_call c (Sends p q frame) = SendsTo (c.port q) (c.seal p q frame)
leaving_call c (Notes p note) = NotesOf p note

abbrev pub task_call : Cast → Node → Task → Call
task_call c n (Take p e) = Steps p e
task_call c n (Append p e) = Appends (entry_for c (n.now p) e)
task_call c n Flush = Writes (n.text ++ n.late)
task_call c n (Say text) = Writes text
task_call c n (Ask p e notes above) = Asks p e notes above
task_call c n (Get p most count) = ReceivesOn (c.port p)
task_call c n (Word p line) = Words p line
task_call c n (Post p q frame) = SendsTo (c.port q) (c.seal p q frame)
task_call c n Mark = Marks

abbrev pub call_of_tasks : Cast → Node → List Task → Call
call_of_tasks c n [] = ReadsLine
call_of_tasks c n (t ∷ ts) = task_call c n t

abbrev pub call_of_leaving : Cast → Node → List Leaving → Call
call_of_leaving c n [] = call_of_tasks c n n.tasks
call_of_leaving c n (l ∷ ls) = leaving_call c l

abbrev pub call_of_opening : Cast → Node → List Opening → Call
call_of_opening c n [] = call_of_leaving c n n.leaving
call_of_opening c n (o ∷ os) = opening_call o

-- what it asks next
unfoldable pub call_of : Cast → Node → Call
call_of c n = elim n.stopped [ Some why ↦ Rests | None ↦ call_of_opening c n n.opening ]

-- ---- answers

pub data Answer : Type 0 where
  -- the call did what it is for; to a receive, nothing is coming
  Done : Answer
  Failed : Answer
  Unremembered : Answer
  -- a datagram, or a line without its line feed
  Came : (bytes : List ℕ) → Answer
  -- what is there is no line: it is too long, or the input ends in it
  Broken : Answer
  -- the service's lines, and what it sends
  Said : (text : List ℕ) (sends : List (ℕ × List ℕ)) → Answer
  Named : (process : ℕ) → Answer
  Digest : (digest : List ℕ) → Answer

-- ---- what an answer changes

-- what comes of an answer, apart from what is to be done after it
pub record Change : Type 0 where
  -- to be done first
  pub before : List Task
  -- a turn that is in the journal now
  pub taken : Option (ℕ × Event)
  pub text : List ℕ
  pub late : List ℕ
  pub stop : Option Stop

-- nothing but that these tasks are done first
abbrev pub goes : Node → List Task → Change
goes n before = record { before = before; taken = None; text = n.text; late = n.late; stop = None }

-- the node ends; of what is to be done this stays
abbrev pub ends : Node → List Task → Stop → Change
ends n before why = record { before = before; taken = None; text = n.text; late = n.late; stop = Some why }

-- a call that answers whether it failed
abbrev pub done_or : Node → Stop → List Task → Answer → Option Change
done_or n why before Done = Some (goes n before)
done_or n why before Failed = Some (ends n [] why)
done_or n why before _ = None

-- the bytes of the journal with this entry after the gate pass 2^30
abbrev pub is_full : ℕ → Entry → Bool
is_full gate e = nat_lt (2 ^ 30) (gate + 1 + length (entry_bytes e) + 5)

-- an event that was taken in: its entry is appended, unless it is refused or the journal is full
abbrev pub after_step : Cast → Node → ℕ → Event → Option EventFault → Change
after_step c n p e (Some fault) = goes n (Say (refused_line p fault) ∷ [])
after_step c n p e None =
    let entry : Entry = entry_for c (n.now p) e in
    if is_full n.gate entry then ends n [] (Full (n.gate + 1) (length (entry_bytes entry))) else goes n (Append p e ∷ [])

-- the receives that are left, or the line that says how many came
abbrev pub more_gets : ℕ → ℕ → ℕ → List Task
more_gets p zero count = Say (recv_line p count) ∷ []
more_gets p (suc most) count = Get p (suc most) count ∷ []

-- a datagram came: its frame is taken, or it is dropped
abbrev pub after_came : ℕ → Result (ℕ × List ℕ) LinkFault → List Task
after_came p (Ok came) = Take p (Frame came.0 came.1) ∷ []
after_came p (Err fault) = Say (drop_line p fault) ∷ []

-- a turn on a frame may be evidence
abbrev pub asks : ℕ → Event → List Note → List Task
asks p (Frame from bytes) notes = Ask p (Frame from bytes) notes None ∷ []
asks p _ notes = []

abbrev pub post_tasks : ℕ → List (ℕ × List ℕ) → List Task
post_tasks p sends = map (λ s. Post p s.0 s.1) sends

-- of a receive
abbrev pub after_get : Cast → Node → ℕ → ℕ → ℕ → Answer → Option Change
after_get c n p zero count a = None
after_get c n p (suc most) count Done = Some (goes n (Say (recv_line p count) ∷ []))
after_get c n p (suc most) count Failed = Some (goes n (Say (fault_line p ++ recv_line p count) ∷ []))
after_get c n p (suc most) count (Came bytes) = Some (goes n (after_came p (c.unseal p bytes) ++ more_gets p most (count + 1)))
after_get c n p (suc most) count _ = None

-- the line of a snapshot, with the digest of the journal's bytes before the gate; how to make it is given to a node
abbrev pub Snapper : Type 0
Snapper = Node → List ℕ → List ℕ

-- what comes of an answer to a task; none where the call has no such answer
unfoldable pub after_task : Cast → Snapper → Node → Task → Answer → Option Change
after_task c snap n (Take p e) Done = Some (after_step c n p e (outcome_of c (n.now p) e).verdict)
after_task c snap n (Take p e) _ = None
after_task c snap n (Append p e) Done = Some (record (goes n (Flush ∷ asks p e (outcome_of c (n.now p) e).notes)) { taken = Some (p, e) })
-- a crash may then leave the entry, or not
after_task c snap n (Append p e) Failed = Some (ends n (Append p e ∷ []) DiskFailed)
after_task c snap n (Append p e) _ = None
after_task c snap n Flush Done = Some (record (goes n []) { text = []; late = [] })
after_task c snap n Flush Failed = Some (ends n [] WriteFailed)
after_task c snap n Flush _ = None
after_task c snap n (Say text) a = done_or n WriteFailed [] a
after_task c snap n (Ask p e notes above) Done = Some (goes n [])
after_task c snap n (Ask p e notes above) (Named q) = Some (goes n (Say (expel_line p q) ∷ Take p (Suspect q) ∷ Ask p e notes (Some q) ∷ []))
after_task c snap n (Ask p e notes above) _ = None
after_task c snap n (Get p most count) a = after_get c n p most count a
after_task c snap n (Word p line) (Said text sends) = Some (goes n (Say text ∷ (post_tasks p sends ++ Flush ∷ [])))
after_task c snap n (Word p line) Done = Some (ends n [] (BadLine n.lines))
after_task c snap n (Word p line) _ = None
after_task c snap n (Post p q frame) Done = Some (goes n [])
after_task c snap n (Post p q frame) Failed = Some (record (goes n []) { late = n.late ++ fault_line p })
after_task c snap n (Post p q frame) _ = None
after_task c snap n Mark (Digest digest) = Some (goes n (Say (snap n digest) ∷ []))
after_task c snap n Mark Failed = Some (ends n [] DiskFailed)
after_task c snap n Mark _ = None

-- of what a turn lets out
unfoldable pub after_leaving : Node → Leaving → Answer → Option Change
after_leaving n (Sends p q frame) Done = Some (goes n [])
after_leaving n (Sends p q frame) Failed = Some (record (goes n []) { late = n.late ++ fault_line p })
after_leaving n (Sends p q frame) _ = None
after_leaving n (Notes p note) (Said text sends) = Some (record (goes n []) { text = n.text ++ note_line p note ++ text })
after_leaving n (Notes p note) _ = None

-- what a line of the script asks for
abbrev pub tasks_of_line : List ℕ → Line → List Task
tasks_of_line line (Of p (Hand e)) = Take p e ∷ []
tasks_of_line line (Of p (Receive most)) = Get p most 0 ∷ []
tasks_of_line line (Of p Other) = Word p line ∷ []
tasks_of_line line Snap = Mark ∷ []

abbrev pub after_line : Node → List ℕ → Option Line → Change
after_line n line None = ends n [] (BadLine (n.lines + 1))
after_line n line (Some said) = goes n (tasks_of_line line said)

-- of the next line
unfoldable pub after_read : Cast → Node → Answer → Option Change
after_read c n Done = Some (ends n [] Ended)
after_read c n Failed = Some (ends n [] ReadFailed)
after_read c n Broken = Some (ends n [] (BadLine (n.lines + 1)))
after_read c n (Came line) = Some (if n.script == most_lines then ends n [] (BadLine (n.lines + 1)) else after_line n line (line_said c.hosted line))
after_read c n _ = None

-- ---- the node after an answer

-- the process has taken the turn
abbrev pub with_turn : Cast → Node → Option (ℕ × Event) → ℕ → Process
with_turn c n None q = n.now q
with_turn c n (Some t) q = if q == t.0 then after c.setting (n.now q) (live c (n.now q) t.1) else n.now q

abbrev pub new_entry : Cast → Node → Option (ℕ × Event) → List Entry
new_entry c n None = []
new_entry c n (Some t) = entry_for c (n.now t.0) t.1 ∷ []

-- what goes out of a turn: its frames, and then its notes
abbrev pub leaving_of : ℕ → Outcome → List Leaving
leaving_of p o = map (λ l. Sends p l.0 l.1) (letters_of o) ++ map (Notes p) o.notes

abbrev pub new_leaving : Cast → Node → Option (ℕ × Event) → List Leaving
new_leaving c n None = []
new_leaving c n (Some t) = leaving_of t.0 (outcome_of c (n.now t.0) t.1)

-- A change, with what stays to be done. A node that stops has nothing to do but an entry that may be in the journal.
abbrev pub changed : Cast → Node → List Leaving → List Task → Change → Node
changed c n leaving tasks x = record n {
  now = with_turn c n x.taken;
  kept = n.kept ++ new_entry c n x.taken;
  gate = n.gate + length (flat_map record_bytes (new_entry c n x.taken));
  leaving = leaving ++ new_leaving c n x.taken;
  tasks = x.before ++ tasks;
  text = x.text;
  late = x.late;
  stopped = x.stop;
}

-- the same, where an answer fits the call
abbrev pub if_fits : Cast → Node → List Leaving → List Task → Option Change → Node
if_fits c n leaving tasks None = n
if_fits c n leaving tasks (Some x) = changed c n leaving tasks x

-- a line was read
abbrev pub counts : Node → Answer → Node
counts n (Came line) = record n { lines = n.lines + 1; script = n.script + 1 }
counts n _ = n

abbrev pub by_tasks : Cast → Snapper → Node → Answer → List Task → Node
by_tasks c snap n a [] = counts (if_fits c n [] [] (after_read c n a)) a
by_tasks c snap n a (t ∷ ts) = if_fits c n [] ts (after_task c snap n t a)

abbrev pub by_leaving : Cast → Snapper → Node → Answer → List Leaving → Node
by_leaving c snap n a [] = by_tasks c snap n a n.tasks
by_leaving c snap n a (l ∷ ls) = if_fits c n ls n.tasks (after_leaving n l a)

-- one thing of the opening is done
abbrev pub opened_one : Node → List Opening → Opening → Answer → Node
opened_one n more (Bind port) Done = record n { opening = more }
opened_one n more (Bind port) Failed = record n { stopped = Some BindFailed }
opened_one n more (Bind port) _ = n
opened_one n more (Greet text) Done = record n { opening = more }
opened_one n more (Greet text) Failed = record n { stopped = Some WriteFailed }
opened_one n more (Greet text) _ = n
opened_one n more Serve (Said text sends) = record n { opening = Greet text ∷ more }
opened_one n more Serve _ = n
opened_one n more Finish Done = record n { opening = more }
opened_one n more Finish Failed = record n { stopped = Some DiskFailed }
opened_one n more Finish _ = n

abbrev pub by_opening : Cast → Snapper → Node → Answer → List Opening → Node
by_opening c snap n a [] = by_leaving c snap n a n.leaving
by_opening c snap n a (o ∷ os) = opened_one n os o a

-- memory ran out: the node ends, and an entry that may be in the journal stays to be done
abbrev pub by_answer : Cast → Snapper → Node → Answer → Node
by_answer c snap n Unremembered = record n { stopped = Some NoMemory }
by_answer c snap n a = by_opening c snap n a n.opening

-- one that has stopped stays as it is
abbrev pub unless_stopped : Cast → Snapper → Node → Answer → Option Stop → Node
unless_stopped c snap n a None = by_answer c snap n a
unless_stopped c snap n a (Some why) = n

-- the node after the answer to its call
unfoldable pub answered : Cast → Snapper → Node → Answer → Node
answered c snap n a = unless_stopped c snap n a n.stopped

-- the node after these answers
unfoldable pub run : Cast → Snapper → Node → List Answer → Node
run c snap n [] = n
run c snap n (a ∷ more) = run c snap (answered c snap n a) more

-- its calls, each with the answer
unfoldable pub calls : Cast → Snapper → Node → List Answer → List (Call × Answer)
calls c snap n [] = []
calls c snap n (a ∷ more) = (call_of c n, a) ∷ calls c snap (answered c snap n a) more

-- ---- how a run begins

-- an entry that was read is taken up by its process
abbrev pub reads_one : Cast → Node → Entry → Node
reads_one c n e = record n {
  now = λ q. if q == e.process then after c.setting (n.now q) (kept_turn (n.now q) e) else n.now q;
  kept = n.kept ++ e ∷ [];
  gate = n.gate + length (record_bytes e);
}

-- one of the hosted processes may have written it
abbrev pub takes_up : Cast → Node → Entry → Bool
takes_up c n e = if has c.hosted e.process then may_have_written c (n.now e.process) e else false

-- the entries of the journal one by one; one that no hosted process may have written ends the node
unfoldable pub reads : Cast → Node → List Entry → Node
reads c n [] = n
reads c n (e ∷ es) = if takes_up c n e then reads c (reads_one c n e) es else record n { stopped = Some (BadJournal n.gate) }

-- before the first entry is read; `lines` lines of the input were read
abbrev pub at_first : Beginning → ℕ → Node
at_first b lines = record {
  now = b.from;
  kept = [];
  gate = b.place;
  lines = lines;
  script = 0;
  opening = [];
  leaving = [];
  tasks = [];
  text = [];
  late = [];
  stopped = None;
}

-- how many entries of the process are in the journal
abbrev pub entries_in : Beginning → Node → ℕ → ℕ
entries_in b n p = b.before p + length (entries_of p n.kept)

-- what is said of the hosted processes as the node begins
abbrev pub host_lines : Cast → Beginning → Node → List ℕ
host_lines c b n = flat_map (λ p. host_line (n.now p) (entries_in b n p)) c.hosted

-- the ports are bound, the host lines written, the service begins and the journal is finished
abbrev pub openings : Cast → Beginning → Node → List Opening
openings c b n = map (λ p. Bind (c.port p)) c.hosted ++ Greet (host_lines c b n) ∷ Serve ∷ Finish ∷ []

-- the node with these entries in its journal
abbrev pub opens : Cast → Beginning → ℕ → List Entry → Node
opens c b lines es =
    let n : Node = reads c (at_first b lines) es in
    record n { opening = openings c b n }

-- the same, where the journal reads as these entries and then breaks at this place, where an open gate has no whole entry after it
abbrev pub breaks_at : ℕ → Node → Node
breaks_at place n = record n { stopped = Some (unwrap_or n.stopped (BadJournal place)) }

abbrev pub opens_broken : Cast → Beginning → ℕ → List Entry → ℕ → Node
opens_broken c b lines es place = breaks_at place (reads c (at_first b lines) es)
