-- The turns of a node whose service is a guard's, and which of them the guard added: the hosted processes, as guards.
--
-- A turn is one whose entry was appended. The guard added it where the last thing that came to the node before it was a name that the service
-- gave; where a line of the script or a datagram came last, it was handed in from outside.
-- Names here (* for this crate alone):
--   Marked*, entries_in*
--   of a run: is_guards*, mark*, marks*, is_guards_after*, marked_by*
--   a process as a guard: given_from*, marks_of*, guard_of*
--   a node that is stopped and opened again: FoundMarked*, found_in*, with_or_without*, opened*, leaves_marked*, lives_marked*
use Rattle.std.specs.Prelude.{ℕ, Bool, true, false, ◌==◌, List, [], ◌∷◌, ◌++◌, map, filter, Option, option_map}
use Rattle.std.specs.Option.{option_to_list}
use Rattle.group_defs.specs.Process.{Setting, Process, start}
use Rattle.group_defs.specs.Events.{after}
use Rattle.journal_defs.specs.Entries.{Entry}
use Rattle.guard_defs.specs.Guarding.{Given, Guard}
use Rattle.node_defs.specs.Casts.{Cast, from_start, kept_turn}
use Rattle.node_defs.specs.Lives.{Found, Run, staged}
use Rattle.node_defs.specs.Nodes.{Node, Opening, Call, Appends, Asks, ReceivesOn, ReadsLine, Answer, Done, Came, Named, Snapper, opens, run, calls}

-- an entry of a journal, and whether a guard added its turn
pub record Marked : Type 0 where
  pub entry : Entry
  pub added : Bool

-- the entries alone
abbrev pub entries_in : List Marked → List Entry
entries_in ms = map (λ m. m.entry) ms

-- ---- of a run

-- whether what is taken next is the guard's: it is after a name that the service gave, and is not after a line or a datagram that came;
-- another answer changes nothing
abbrev pub is_guards : Bool → Answer → Call → Bool
is_guards by (Named q) (Asks p e notes above) = true
is_guards by (Came line) ReadsLine = false
is_guards by (Came datagram) (ReceivesOn port) = false
is_guards by _ _ = by

-- the entry that was appended, if one was
abbrev pub mark : Bool → Answer → Call → List Marked
mark by Done (Appends entry) = record { entry = entry; added = by } ∷ []
mark by _ _ = []

-- the entries that these calls appended, in order
unfoldable pub marks : Bool → List (Call × Answer) → List Marked
marks by [] = []
marks by (i ∷ cs) = mark by i.1 i.0 ++ marks (is_guards by i.1 i.0) cs

-- whether what is taken after these calls is the guard's
unfoldable pub is_guards_after : Bool → List (Call × Answer) → Bool
is_guards_after by [] = by
is_guards_after by (i ∷ cs) = is_guards_after (is_guards by i.1 i.0) cs

-- what a run appends; as it begins, nothing is the guard's
abbrev pub marked_by : Cast → Snapper → Node → List Answer → List Marked
marked_by c snap n answers = marks false (calls c snap n answers)

-- ---- a process as a guard

-- the turns that these entries, which are all of one process, keep, from this one on
unfoldable pub given_from : Setting → Process → List Marked → List Given
given_from s p [] = []
given_from s p (m ∷ ms) = record { turn = kept_turn p m.entry; added = m.added } ∷ given_from s (after s p (kept_turn p m.entry)) ms

-- those of this process
abbrev pub marks_of : ℕ → List Marked → List Marked
marks_of p ms = filter (λ m. m.entry.process == p) ms

-- process p of the node, with what is in the node's journal
abbrev pub guard_of : Cast → ℕ → List Marked → Guard
guard_of c p ms = record {
  me = p;
  batch_limit = c.batch_limit;
  given = given_from c.setting (start c.setting p c.batch_limit) (marks_of p ms);
}

-- ---- a node that is stopped and opened again

-- the entries as which the journal may read: these, or one more
pub record FoundMarked : Type 0 where
  pub sure : List Marked
  pub more : Option Marked

-- the same without the marks
abbrev pub found_in : FoundMarked → Found
found_in f = record { sure = entries_in f.sure; more = option_map (λ m. m.entry) f.more }

-- the entries with the one more, or without it
abbrev pub with_or_without : FoundMarked → Bool → List Marked
with_or_without f true = f.sure ++ option_to_list f.more
with_or_without f false = f.sure

-- the node as a run of it opens it
abbrev pub opened : Cast → FoundMarked → Run → Node
opened c f r = opens c (from_start c) r.lines (entries_in (with_or_without f r.with_more))

-- What a stop leaves of a run that found this: what was found until the opening is over, and then that and what the run appended. An entry
-- that may be there besides is the guard's where what is taken then is.
abbrev pub leaves_marked : Cast → Snapper → FoundMarked → Run → List Opening → FoundMarked
leaves_marked c snap f r [] =
    let n : Node = opened c f r in
    record {
      sure = with_or_without f r.with_more ++ marked_by c snap n r.answers;
      more = option_map (λ e. record { entry = e; added = is_guards_after false (calls c snap n r.answers) })
          (staged c (run c snap n r.answers));
    }
leaves_marked c snap f r (o ∷ os) = f

-- what is found after these runs
unfoldable pub lives_marked : Cast → Snapper → FoundMarked → List Run → FoundMarked
lives_marked c snap f [] = f
lives_marked c snap f (r ∷ rs) = lives_marked c snap (leaves_marked c snap f r (run c snap (opened c f r) r.answers).opening) rs
