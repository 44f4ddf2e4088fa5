-- An outside in memory, which answers a node's calls: what is sent to a port comes on it.
-- Names here (* for this crate alone):
--   Outside*, outside*, first_on*, link_call*, journal_answer*, answer*, drive*, Seen*, stop_seen*, seen_of*
--   two processes, whose signatures have no bytes and whose datagrams have no tag: toy_setting*, toy_unseal*, toy*
use Rattle.std.specs.Prelude.{ℕ, zero, suc, ◌+◌, ◌==◌, ◌&&◌, Bool, true, false, if◌then◌else◌, List, [], ◌∷◌, ◌++◌, length, map, replicate, Option, Some, None, Result, Ok, Err, codes}
use Rattle.byte_defs.specs.Members.{has}
use Rattle.link_defs.specs.declared.LinkFault.{LinkFault}
use Rattle.link_defs.specs.declared.LinkFault.TheVariants.{Short, NotForMe}
use Rattle.group_defs.specs.Process.{all_kinds, Setting}
use Rattle.node_defs.specs.Casts.{Cast, from_start}
use Rattle.journal_defs.specs.Entries.{Entry}
use Rattle.node_defs.specs.Lines.{Stop, status_of, stop_line}
use Rattle.node_defs.specs.Nodes.{Node, Call, Binds, Writes, Serves, Finishes, SendsTo, NotesOf, Steps, Appends, Asks, ReceivesOn, Words, Marks, ReadsLine, Rests, Answer, Done, Failed, Came, Said, Digest, call_of, answered, opens}

pub record Outside : Type 0 where
  -- the lines that are left of the script
  pub script : List (List ℕ)
  -- what is coming, in order, each with its port
  pub coming : List (ℕ × List ℕ)
  pub sent : List (ℕ × List ℕ)
  pub written : List ℕ
  -- how many calls of the link were made, and of the journal; those that fail
  pub link : ℕ
  pub journal : ℕ
  pub bad_link : List ℕ
  pub bad_journal : List ℕ

abbrev pub outside : List (List ℕ) → Outside
outside script = record { script = script; coming = []; sent = []; written = []; link = 0; journal = 0; bad_link = []; bad_journal = [] }

-- the first that is coming on the port, and the others
unfoldable pub first_on : ℕ → List (ℕ × List ℕ) → Option (List ℕ × List (ℕ × List ℕ))
first_on port [] = None
first_on port (d ∷ ds) = if d.0 == port then Some (d.1, ds) else elim (first_on port ds) [ None ↦ None | Some found ↦ Some (found.0, d ∷ found.1) ]

abbrev pub link_call : Outside → Outside
link_call o = record o { link = o.link + 1 }

abbrev pub journal_answer : Outside → Answer × Outside
journal_answer o = (if has o.bad_journal o.journal then Failed else Done, record o { journal = o.journal + 1 })

-- the answer to a call, and the outside after it
unfoldable pub answer : Outside → Call → Answer × Outside
answer o (Binds port) = (if has o.bad_link o.link then Failed else Done, link_call o)
answer o (Writes text) = (Done, record o { written = o.written ++ text })
answer o Serves = (Said [] [], o)
answer o Finishes = journal_answer o
answer o (SendsTo port d) = if has o.bad_link o.link then (Failed, link_call o)
    else (Done, record (link_call o) { sent = o.sent ++ (port, d) ∷ []; coming = o.coming ++ (port, d) ∷ [] })
answer o (NotesOf p note) = (Said [] [], o)
answer o (Steps p e) = (Done, o)
answer o (Appends e) = journal_answer o
answer o (Asks p e notes above) = (Done, o)
answer o (ReceivesOn port) = if has o.bad_link o.link then (Failed, link_call o)
    else elim (first_on port o.coming) [ None ↦ (Done, link_call o) | Some found ↦ (Came found.0, record (link_call o) { coming = found.1 }) ]
answer o (Words p line) = (Done, o)
answer o Marks = (Digest (length o.written ∷ []), o)
answer o ReadsLine = elim o.script [ [] ↦ (Done, o) | line ∷ more ↦ (Came line, record o { script = more }) ]
answer o Rests = (Done, o)

-- the node and its outside after this many calls; those of a node that rests change nothing
unfoldable pub drive : Cast → ℕ → Node × Outside → Node × Outside
drive c zero w = w
drive c (suc more) w =
    let a : Answer × Outside = answer w.1 (call_of c w.0) in
    drive c more (answered c (λ n digest. codes "snap\n") w.0 a.0, a.1)

-- status, what was written and the last line, the entries kept, and what was sent
abbrev pub Seen : Type 0
Seen = Option ℕ × List ℕ × List Entry × List (ℕ × List ℕ)

abbrev pub stop_seen : Option Stop → Option ℕ × List ℕ
stop_seen None = (None, [])
stop_seen (Some why) = (Some (status_of why), stop_line why)

abbrev pub seen_of : Node × Outside → Seen
seen_of w = ((stop_seen w.0.stopped).0, w.1.written ++ (stop_seen w.0.stopped).1, w.0.kept, w.1.sent)

-- ---- two processes, whose signatures have no bytes and whose datagrams have no tag

abbrev pub toy_setting : List ℕ → List ℕ → Setting
toy_setting genesis roster = record {
  group = [];
  roster = map (λ p. (p, [])) roster;
  genesis = record { number = 0; members = genesis };
  valid = λ key body signature. length signature == 0;
  signs = all_kinds;
}

abbrev pub toy_unseal : ℕ → List ℕ → Result (ℕ × List ℕ) LinkFault
toy_unseal me (from ∷ to ∷ frame) = if to == me then Ok (from, frame) else Err NotForMe
toy_unseal me _ = Err Short

abbrev pub toy : ℕ → Cast
toy total = record {
  setting = toy_setting (0 ∷ 1 ∷ []) (0 ∷ 1 ∷ []);
  hosted = 0 ∷ 1 ∷ [];
  batch_limit = 16;
  secret = λ p. None;
  total = λ p. total;
  signer = λ p used body. [];
  port = λ p. 47000 + p;
  seal = λ p q frame. p ∷ q ∷ frame;
  unseal = toy_unseal;
  header = replicate 60 0;
}
