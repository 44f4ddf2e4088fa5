-- What a turn lets out, answer by answer: its letters go over the link, and each of its notes has a line and is given to the service.
-- Names here (* for this crate alone):
--   answers: Fits, asked, reported_by, failed_by, sends_of
--   what came of it: Edge, edge, LetOut, HasBegun
--   the laws: LetOutInARow*, IsLettingOut*, LetsFirstOut, EachLetsOut*
--   what a service sends: IsPosting, PostsPart*, Posts*, EachPosts*
use Rattle.std.specs.Prelude.{◌≡◌, ℕ, List, [], ◌++◌, map, flat_map, zip, Some, None}
use Rattle.std.specs.List.{AllZip}
use Rattle.group_defs.specs.Process.{Process}
use Rattle.node_defs.specs.Lines.{NoMemory, note_line, fault_line}
use Rattle.node_defs.specs.Casts.{Cast}
use Rattle.node_defs.specs.Nodes.{Leaving, Sends, Notes, Call, leaving_call, Answer, Done, Failed, Said, Node, Task, Snapper, post_tasks, run, calls}
use Rattle.node_traces.specs.Outside.{LinkSeen, LinkAnswered}
use Rattle.node_traces.specs.Service.{Asked, asked_by, hears}
use Rattle.node_traces.specs.Goes.{Outside, Goes}

-- ---- answers

-- a letter was sent, or its send failed; a note has its line, and the service said more after it
abbrev pub Fits : Leaving → Answer → Type 0
Fits (Sends p q frame) Done = Unit {0}
Fits (Sends p q frame) Failed = Unit {0}
Fits (Notes p note) (Said text sends) = Unit {0}
Fits _ _ = ⊥

-- what is asked of the outside, each with its answer
abbrev pub asked : Cast → List Leaving → List Answer → List (Call × Answer)
asked c ls answers = zip (map (leaving_call c) ls) answers

-- the note's line, and after it what the service said
abbrev pub reported_by : Leaving × Answer → List ℕ
reported_by (Notes p note, Said text sends) = note_line p note ++ text
reported_by _ = []

-- the line of a send that failed
abbrev pub failed_by : Leaving × Answer → List ℕ
failed_by (Sends p q frame, Failed) = fault_line p
failed_by _ = []

-- the process lets these letters out: each a process that it goes to, and a frame
abbrev pub sends_of : ℕ → List (ℕ × List ℕ) → List Leaving
sends_of me letters = map (λ l. Sends me l.0 l.1) letters

-- ---- what came of it

-- the link, the lines that wait, those of failed sends, which are to follow them, and what the service was asked and has answered
pub record Edge : Type 0 where
  pub link : LinkSeen
  pub text : List ℕ
  pub late : List ℕ
  pub service : List Asked

abbrev pub edge : LinkSeen → List ℕ → List ℕ → List Asked → Edge
edge link text late service = record { link = link; text = text; late = late; service = service }

-- All of this was let out, in this order, where the processes are these: with some answers, one for each, the link did what they say, each
-- note's line and what the service said of it follow the lines that waited, the service heard of each note, and the line of each failed send
-- is after those of the others.
pub record LetOut (c : Cast) (at : ℕ → Process) (ls : List Leaving) (before now : Edge) : Type 0 where
  pub answers : List Answer
  pub each : AllZip Fits ls answers
  pub link : LinkAnswered before.link (asked c ls answers) now.link
  pub text : now.text ≡ before.text ++ flat_map reported_by (zip ls answers)
  pub late : now.late ≡ before.late ++ flat_map failed_by (zip ls answers)
  pub service : now.service ≡ before.service ++ hears c at (asked c ls answers)

-- The first of this were let out, none or some, and the others were not tried: with some answers the link did what they say, and the service
-- heard of the notes among them.
pub record HasBegun (c : Cast) (at : ℕ → Process) (ls : List Leaving) (before : LinkSeen) (heard : List Asked) (now : LinkSeen)
    (hears_now : List Asked) : Type 0 where
  pub first : List Leaving
  pub others : List Leaving
  pub splits : ls ≡ first ++ others
  pub answers : List Answer
  pub each : AllZip Fits first answers
  pub link : LinkAnswered before (asked c first answers) now
  pub service : hears_now ≡ heard ++ hears c at (asked c first answers)

-- ---- the laws

-- what was let out one after the other is let out together; some of it is, where less was tried than there is or others went out before
pub record LetOutInARow : Type 0 where
  pub both : (c : Cast) (at : ℕ → Process) (ls ms : List Leaving) (e f g : Edge) → LetOut c at ls e f → LetOut c at ms f g
      → LetOut c at (ls ++ ms) e g
  pub begun : (c : Cast) (at : ℕ → Process) (ls : List Leaving) (e f : Edge) → LetOut c at ls e f
      → HasBegun c at ls e.link e.service f.link f.service
  pub front : (c : Cast) (at : ℕ → Process) (ls ms : List Leaving) (k l : LinkSeen) (h i : List Asked) → HasBegun c at ls k h l i
      → HasBegun c at (ls ++ ms) k h l i
  pub after : (c : Cast) (at : ℕ → Process) (ls ms : List Leaving) (e f : Edge) (l : LinkSeen) (i : List Asked) → LetOut c at ls e f
      → HasBegun c at ms f.link f.service l i → HasBegun c at (ls ++ ms) e.link e.service l i

-- a node that is open and runs, and whose turn lets this out
pub record IsLettingOut (n : Node) (ls : List Leaving) : Type 0 where
  pub runs : n.stopped ≡ None
  pub ready : n.opening ≡ []
  pub leaving : n.leaving ≡ ls

-- With these answers, one for each, it has let the first of it out, and the others are left: it made just these calls, the service heard of
-- the notes among them, and it is as it was but for the lines that wait.
pub record LetsFirstOut (c : Cast) (snap : Snapper) (n : Node) (first others : List Leaving) (answers : List Answer) : Type 0 where
  pub calls_are : calls c snap n answers ≡ asked c first answers
  pub asked_are : asked_by c snap n answers ≡ hears c n.now (asked c first answers)
  pub run_is : run c snap n answers ≡ record n {
    leaving = others;
    text = n.text ++ flat_map reported_by (zip first answers);
    late = n.late ++ flat_map failed_by (zip first answers);
  }

abbrev pub EachLetsOut : Type 0
EachLetsOut = (c : Cast) (snap : Snapper) (n : Node) (first others : List Leaving) (answers : List Answer)
    → IsLettingOut n (first ++ others) → AllZip Fits first answers → LetsFirstOut c snap n first others answers

-- ---- what a service sends

-- a node that is open and runs, whose next tasks are to post these letters of the service's
pub record IsPosting (n : Node) (p : ℕ) (letters : List (ℕ × List ℕ)) (ts : List Task) : Type 0 where
  pub runs : n.stopped ≡ None
  pub ready : n.opening ≡ []
  pub nothing : n.leaving ≡ []
  pub tasks : n.tasks ≡ post_tasks p letters ++ ts

-- the node went on to one that stops so and keeps the same entries
pub record PostsPart (c : Cast) (snap : Snapper) (most : ℕ) (n : Node) (x y : Outside) : Type 0 where
  pub last : Node
  pub stops : last.stopped ≡ Some NoMemory
  pub kept : last.kept ≡ n.kept
  pub goes : Goes c snap most n x last y

-- Letters of the service's that were let out as those of a turn are, were posted: the node has its other tasks left, and the lines of failed
-- sends wait. Where memory ran out after the first of them, it stops.
pub record Posts (c : Cast) (snap : Snapper) (most : ℕ) (n : Node) (p : ℕ) (letters : List (ℕ × List ℕ)) (ts : List Task) (x : Outside)
    : Type 0 where
  pub all : (at : ℕ → Process) (h i : List Asked) (l : LinkSeen) (late : List ℕ)
      → LetOut c at (sends_of p letters) (edge x.link [] [] h) (edge l [] late i)
      → Goes c snap most n x (record n { tasks = ts; late = n.late ++ late }) (record x { link = l })
  pub some : (at : ℕ → Process) (h i : List Asked) (l : LinkSeen) → HasBegun c at (sends_of p letters) x.link h l i
      → PostsPart c snap most n x (record x { link = l })

abbrev pub EachPosts : Type 0
EachPosts = (c : Cast) (snap : Snapper) (most : ℕ) (n : Node) (p : ℕ) (letters : List (ℕ × List ℕ)) (ts : List Task) (x : Outside)
    → IsPosting n p letters ts → Posts c snap most n p letters ts x
