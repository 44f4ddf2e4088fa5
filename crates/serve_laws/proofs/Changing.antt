-- What an answer changes of a node: the notes that are still to be told of, and which answers take no turn.
use Rattle.std.proofs.Common.{◌≡◌, ℕ, zero, suc, ◌+◌, List, [], ◌∷◌, ◌++◌, map, Bool, true, false, refl, ap, ◌∙◌, Option, Some, None}
use Rattle.std.specs.Prelude.{◌==◌, if◌then◌else◌}
use Rattle.group_defs.specs.Events.{EventFault, Note, Outcome}
use Rattle.journal_defs.specs.Entries.{Event}
use Rattle.node_defs.specs.Casts.{Cast, entry_for, letters_of, outcome_of}
use Rattle.node_defs.specs.Lines.{Stop, WriteFailed}
use Rattle.node_defs.specs.Scripts.{Line, line_said, most_lines}
use Rattle.node_defs.specs.Nodes.{Answer, Append, Ask, Broken, Came, Change, Digest, Done, Failed, Flush, Get, Leaving, Mark, Named, Node, Post, Said, Say, Sends, Snapper, Take, Task, Notes, Unremembered, Word, after_get, after_leaving, after_line, after_read, after_step, after_task, done_or, is_full, leaving_of}

-- ---- notes

-- the notes of process p that are still to be told
abbrev pub waiting : ℕ → List Leaving → List Note
waiting p [] = []
waiting p (Sends from to frame ∷ ls) = waiting p ls
waiting p (Notes q note ∷ ls) = if q == p then note ∷ waiting p ls else waiting p ls

sent-wait : (p from : ℕ) (letters : List (ℕ × List ℕ)) (ls : List Leaving) → waiting p (map (λ l. Sends from l.0 l.1) letters ++ ls) ≡ waiting p ls
sent-wait p from [] ls = refl
sent-wait p from (l ∷ letters) ls = sent-wait p from letters ls

notes-wait : (p q : ℕ) (notes : List Note) (b : Bool) → (q == p) ≡ b → waiting p (map (Notes q) notes) ≡ (if b then notes else [])
notes-wait p q [] true t = refl
notes-wait p q [] false t = refl
notes-wait p q (note ∷ notes) true t =
    ap (λ (b : Bool). if b then note ∷ waiting p (map (Notes q) notes) else waiting p (map (Notes q) notes)) t
    ∙ ap (λ (ns : List Note). note ∷ ns) (notes-wait p q notes true t)
notes-wait p q (note ∷ notes) false t =
    ap (λ (b : Bool). if b then note ∷ waiting p (map (Notes q) notes) else waiting p (map (Notes q) notes)) t ∙ notes-wait p q notes false t

pub turn-waits : (p q : ℕ) (o : Outcome) (b : Bool) → (q == p) ≡ b → waiting p (leaving_of q o) ≡ (if b then o.notes else [])
turn-waits p q o b t = sent-wait p q (letters_of o) (map (Notes q) o.notes) ∙ notes-wait p q o.notes b t

-- ---- turns

-- a change that takes no turn
abbrev pub NoTurn : Option Change → Type 0
NoTurn None = Unit {0}
NoTurn (Some x) = x.taken ≡ None

done-takes-none : (n : Node) (why : Stop) (a : Answer) → NoTurn (done_or n why [] a)
done-takes-none n why Done = refl
done-takes-none n why Failed = refl
done-takes-none n why Unremembered = tt
done-takes-none n why (Came bytes) = tt
done-takes-none n why Broken = tt
done-takes-none n why (Said text sends) = tt
done-takes-none n why (Named q) = tt
done-takes-none n why (Digest digest) = tt

either : (b : Bool) (x y : Change) → x.taken ≡ None → y.taken ≡ None → (if b then x else y).taken ≡ None
either true x y one two = one
either false x y one two = two

step-takes-none : (c : Cast) (n : Node) (p : ℕ) (e : Event) (o : Option EventFault) → (after_step c n p e o).taken ≡ None
step-takes-none c n p e (Some fault) = refl
step-takes-none c n p e None = either (is_full n.gate (entry_for c (n.now p) e)) _ _ refl refl

line-takes-none : (n : Node) (line : List ℕ) (o : Option Line) → (after_line n line o).taken ≡ None
line-takes-none n line None = refl
line-takes-none n line (Some said) = refl

pub read-takes-none : (c : Cast) (n : Node) (a : Answer) → NoTurn (after_read c n a)
unfolding after_read
read-takes-none c n Done = refl
read-takes-none c n Failed = refl
read-takes-none c n Unremembered = tt
read-takes-none c n (Came line) = either (n.script == most_lines) _ _ refl (line-takes-none n line (line_said c.hosted line))
read-takes-none c n Broken = refl
read-takes-none c n (Said text sends) = tt
read-takes-none c n (Named q) = tt
read-takes-none c n (Digest digest) = tt

get-takes-none : (c : Cast) (n : Node) (p most count : ℕ) (a : Answer) → NoTurn (after_get c n p most count a)
get-takes-none c n p zero count a = tt
get-takes-none c n p (suc most) count Done = refl
get-takes-none c n p (suc most) count Failed = refl
get-takes-none c n p (suc most) count Unremembered = tt
get-takes-none c n p (suc most) count (Came bytes) = refl
get-takes-none c n p (suc most) count Broken = tt
get-takes-none c n p (suc most) count (Said text sends) = tt
get-takes-none c n p (suc most) count (Named q) = tt
get-takes-none c n p (suc most) count (Digest digest) = tt

-- an answer to an Append that takes no turn
abbrev pub IsNoDone : Answer → Type 0
IsNoDone Done = ⊥
IsNoDone _ = Unit {0}

pub append-takes-none : (c : Cast) (snap : Snapper) (n : Node) (p : ℕ) (e : Event) (a : Answer) → IsNoDone a → NoTurn (after_task c snap n (Append p e) a)
unfolding after_task
append-takes-none c snap n p e Done is = absurd is
append-takes-none c snap n p e Failed is = refl
append-takes-none c snap n p e Unremembered is = tt
append-takes-none c snap n p e (Came bytes) is = tt
append-takes-none c snap n p e Broken is = tt
append-takes-none c snap n p e (Said text sends) is = tt
append-takes-none c snap n p e (Named q) is = tt
append-takes-none c snap n p e (Digest digest) is = tt

-- a task that takes no turn, whatever its answer
abbrev pub IsNoAppend : Task → Type 0
IsNoAppend (Append p e) = ⊥
IsNoAppend _ = Unit {0}

pub task-takes-none : (c : Cast) (snap : Snapper) (n : Node) (t : Task) (a : Answer) → IsNoAppend t → NoTurn (after_task c snap n t a)
unfolding after_task
task-takes-none c snap n (Take p e) Done is = step-takes-none c n p e (outcome_of c (n.now p) e).verdict
task-takes-none c snap n (Take p e) Failed is = tt
task-takes-none c snap n (Take p e) Unremembered is = tt
task-takes-none c snap n (Take p e) (Came bytes) is = tt
task-takes-none c snap n (Take p e) Broken is = tt
task-takes-none c snap n (Take p e) (Said text sends) is = tt
task-takes-none c snap n (Take p e) (Named q) is = tt
task-takes-none c snap n (Take p e) (Digest digest) is = tt
task-takes-none c snap n (Append p e) a is = absurd is
task-takes-none c snap n Flush Done is = refl
task-takes-none c snap n Flush Failed is = refl
task-takes-none c snap n Flush Unremembered is = tt
task-takes-none c snap n Flush (Came bytes) is = tt
task-takes-none c snap n Flush Broken is = tt
task-takes-none c snap n Flush (Said text sends) is = tt
task-takes-none c snap n Flush (Named q) is = tt
task-takes-none c snap n Flush (Digest digest) is = tt
task-takes-none c snap n (Say text) a is = done-takes-none n WriteFailed a
task-takes-none c snap n (Ask p e notes above) Done is = refl
task-takes-none c snap n (Ask p e notes above) Failed is = tt
task-takes-none c snap n (Ask p e notes above) Unremembered is = tt
task-takes-none c snap n (Ask p e notes above) (Came bytes) is = tt
task-takes-none c snap n (Ask p e notes above) Broken is = tt
task-takes-none c snap n (Ask p e notes above) (Said text sends) is = tt
task-takes-none c snap n (Ask p e notes above) (Named q) is = refl
task-takes-none c snap n (Ask p e notes above) (Digest digest) is = tt
task-takes-none c snap n (Get p most count) a is = get-takes-none c n p most count a
task-takes-none c snap n (Word p line) Done is = refl
task-takes-none c snap n (Word p line) Failed is = tt
task-takes-none c snap n (Word p line) Unremembered is = tt
task-takes-none c snap n (Word p line) (Came bytes) is = tt
task-takes-none c snap n (Word p line) Broken is = tt
task-takes-none c snap n (Word p line) (Said text sends) is = refl
task-takes-none c snap n (Word p line) (Named q) is = tt
task-takes-none c snap n (Word p line) (Digest digest) is = tt
task-takes-none c snap n (Post p q frame) Done is = refl
task-takes-none c snap n (Post p q frame) Failed is = refl
task-takes-none c snap n (Post p q frame) Unremembered is = tt
task-takes-none c snap n (Post p q frame) (Came bytes) is = tt
task-takes-none c snap n (Post p q frame) Broken is = tt
task-takes-none c snap n (Post p q frame) (Said text sends) is = tt
task-takes-none c snap n (Post p q frame) (Named r) is = tt
task-takes-none c snap n (Post p q frame) (Digest digest) is = tt
task-takes-none c snap n Mark Done is = tt
task-takes-none c snap n Mark Failed is = refl
task-takes-none c snap n Mark Unremembered is = tt
task-takes-none c snap n Mark (Came bytes) is = tt
task-takes-none c snap n Mark Broken is = tt
task-takes-none c snap n Mark (Said text sends) is = tt
task-takes-none c snap n Mark (Named q) is = tt
task-takes-none c snap n Mark (Digest digest) is = refl

pub leaving-takes-none : (n : Node) (l : Leaving) (a : Answer) → NoTurn (after_leaving n l a)
unfolding after_leaving
leaving-takes-none n (Sends p q frame) Done = refl
leaving-takes-none n (Sends p q frame) Failed = refl
leaving-takes-none n (Sends p q frame) Unremembered = tt
leaving-takes-none n (Sends p q frame) (Came bytes) = tt
leaving-takes-none n (Sends p q frame) Broken = tt
leaving-takes-none n (Sends p q frame) (Said text sends) = tt
leaving-takes-none n (Sends p q frame) (Named r) = tt
leaving-takes-none n (Sends p q frame) (Digest digest) = tt
leaving-takes-none n (Notes p note) Done = tt
leaving-takes-none n (Notes p note) Failed = tt
leaving-takes-none n (Notes p note) Unremembered = tt
leaving-takes-none n (Notes p note) (Came bytes) = tt
leaving-takes-none n (Notes p note) Broken = tt
leaving-takes-none n (Notes p note) (Said text sends) = refl
leaving-takes-none n (Notes p note) (Named r) = tt
leaving-takes-none n (Notes p note) (Digest digest) = tt
