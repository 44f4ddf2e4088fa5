-- A node that writes its lines and asks the service whom to suspect, answer by answer.
use Rattle.std.proofs.Common.{◌≡◌, ℕ, List, [], ◌∷◌, ◌++◌, Option, Some, refl, sym}
use Rattle.std.proofs.lemmas.List.{append-nil}
use Rattle.group_defs.specs.Events.{Note}
use Rattle.journal_defs.specs.Entries.{Event, Suspect}
use Rattle.node_defs.specs.Casts.{Cast}
use Rattle.node_defs.specs.Lines.{WriteFailed, expel_line}
use Rattle.node_defs.specs.Nodes.{Node, Task, Take, Flush, Say, Ask, Answer, Done, Failed, Named, Snapper, Asks, Writes, after_task, answered, call_of}
use Rattle.node_traces.specs.Outside.{LinkSeen, SinkSeen, SourceSeen, SinkStep}
use Rattle.node_traces.specs.Service.{Asked, one_asked}
use Rattle.node_traces.specs.Goes.{Goes, Does}
use Rattle.node_traces.proofs.Service.{asks-none}
use Rattle.node_taking.specs.Taking.{outside}
use Rattle.node_taking.specs.Keeping.{at}
use Rattle.node_taking.proofs.Machine.{answers, as-it-was}

pub says-does : (c : Cast) (most : ℕ) (n : Node) (text : List ℕ) (ts : List Task) (a : Answer) (l : LinkSeen) (s t : SinkSeen)
    (o : SourceSeen) (h : List Asked) → SinkStep s (Writes text, a) t → Does c most (at n (Say text ∷ ts)) a (outside l s o h) (outside l t o h)
unfolding call_of
says-does c most n text ts a l s t o h step =
    record { link = refl; sink = step; source = refl; service = asks-none c n.now (Writes text) a h refl }

pub said-so : (c : Cast) (snap : Snapper) (n : Node) (text : List ℕ) (ts : List Task)
    → at n ts ≡ answered c snap (at n (Say text ∷ ts)) Done
unfolding answered after_task
said-so c snap n text ts = sym (as-it-was n ts)

pub say-failed : (c : Cast) (snap : Snapper) (n : Node) (text : List ℕ) (ts : List Task)
    → ((answered c snap (at n (Say text ∷ ts)) Failed).stopped ≡ Some WriteFailed)
    × ((answered c snap (at n (Say text ∷ ts)) Failed).kept ≡ n.kept)
unfolding answered after_task
say-failed c snap n text ts = (refl, append-nil n.kept)

-- with lines that wait
abbrev pub with_lines : Node → List ℕ → List ℕ → Node
with_lines n text late = record n { text = text; late = late }

pub flushes-does : (c : Cast) (most : ℕ) (n : Node) (text late : List ℕ) (ts : List Task) (a : Answer) (l : LinkSeen) (s t : SinkSeen)
    (o : SourceSeen) (h : List Asked) → SinkStep s (Writes (text ++ late), a) t
    → Does c most (with_lines (at n (Flush ∷ ts)) text late) a (outside l s o h) (outside l t o h)
unfolding call_of
flushes-does c most n text late ts a l s t o h step =
    record { link = refl; sink = step; source = refl; service = asks-none c n.now (Writes (text ++ late)) a h refl }

pub flushed-so : (c : Cast) (snap : Snapper) (n : Node) (text late : List ℕ) (ts : List Task)
    → at n ts ≡ answered c snap (with_lines (at n (Flush ∷ ts)) text late) Done
unfolding answered after_task
flushed-so c snap n text late ts = sym (as-it-was n ts)

pub flush-failed : (c : Cast) (snap : Snapper) (n : Node) (text late : List ℕ) (ts : List Task)
    → ((answered c snap (with_lines (at n (Flush ∷ ts)) text late) Failed).stopped ≡ Some WriteFailed)
    × ((answered c snap (with_lines (at n (Flush ∷ ts)) text late) Failed).kept ≡ n.kept)
unfolding answered after_task
flush-failed c snap n text late ts = (refl, append-nil n.kept)

-- ---- whom to suspect

-- what the service was asked then, and its answer
abbrev pub asked-of : Cast → Node → ℕ → Event → List Note → Option ℕ → Answer → List Asked
asked-of c n p e notes above a = one_asked c (n.now p ∷ []) (Asks p e notes above) a

module _ (c : Cast) (snap : Snapper) (most : ℕ) (n : Node) (p : ℕ) (e : Event) (notes : List Note) (above : Option ℕ) (ts : List Task)
    (l : LinkSeen) (s : SinkSeen) (o : SourceSeen) (h : List Asked) where
  nobody-does : Does c most (at n (Ask p e notes above ∷ ts)) Done (outside l s o h) (outside l s o (h ++ asked-of c n p e notes above Done))
  unfolding call_of
  nobody-does = record { link = refl; sink = refl; source = refl; service = refl }

  nobody-so : at n ts ≡ answered c snap (at n (Ask p e notes above ∷ ts)) Done
  unfolding answered after_task
  nobody-so = sym (as-it-was n ts)

  -- it names nobody
  pub names-nobody : Goes c snap most (at n (Ask p e notes above ∷ ts)) (outside l s o h) (at n ts)
      (outside l s o (h ++ asked-of c n p e notes above Done))
  names-nobody = answers c snap most (at n (Ask p e notes above ∷ ts)) (at n ts) Done (outside l s o h)
      (outside l s o (h ++ asked-of c n p e notes above Done)) nobody-so nobody-does

  module _ (q : ℕ) where
    -- the line that tells of q, its event, and who else
    abbrev pub expelling : List Task
    expelling = Say (expel_line p q) ∷ Take p (Suspect q) ∷ Ask p e notes (Some q) ∷ ts

    one-does : Does c most (at n (Ask p e notes above ∷ ts)) (Named q) (outside l s o h)
        (outside l s o (h ++ asked-of c n p e notes above (Named q)))
    unfolding call_of
    one-does = record { link = refl; sink = refl; source = refl; service = refl }

    one-so : at n expelling ≡ answered c snap (at n (Ask p e notes above ∷ ts)) (Named q)
    unfolding answered after_task
    one-so = sym (as-it-was n expelling)

    -- it names a process
    pub names-one : Goes c snap most (at n (Ask p e notes above ∷ ts)) (outside l s o h) (at n expelling)
        (outside l s o (h ++ asked-of c n p e notes above (Named q)))
    names-one = answers c snap most (at n (Ask p e notes above ∷ ts)) (at n expelling) (Named q) (outside l s o h)
        (outside l s o (h ++ asked-of c n p e notes above (Named q))) one-so one-does
