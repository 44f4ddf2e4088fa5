-- Why a run stopped, by its status.
use Rattle.std.proofs.Common.{◌≡◌, ◌⊎◌, ℕ, ◌<◌, Option, Some, None, List, [], ◌++◌, take, Result, Ok, Err, refl, sym, ap, subst, ◌∙◌, arith, inl, inr}
use Rattle.std.specs.Prelude.{IsErrOf, IsOk, IsSomeAnd, codes}
use Rattle.std.proofs.lemmas.List.{append-nil}
use lib.Seq.{take-nil}
use Rattle.std.specs.Io.KnownBytes.{Appends, Consumes, IsAtEnd, Keeps}
use Rattle.rp_base.specs.Streams.{WritesLine}
use Rattle.replay_defs.specs.declared.Fault.{Fault}
use Rattle.replay_defs.specs.Reading.{schedule_of}
use Rattle.story_defs.specs.declared.StoryFault.{StoryFault}
use Rattle.story_defs.specs.Stories.{story_of}
use Rattle.story_cli.specs.declared.stops.Stop.{Stop}
use Rattle.story_cli.specs.declared.stops.Stop.TheVariants.{NoMemory, Read, Write, Story, Schedule}
use Rattle.story_cli.specs.declared.commands.Command.{Command}
use Rattle.story_cli.specs.Messages.{line_of, status_of}
use Rattle.story_cli.specs.Top.{Has, IsNoStory, IsNoSchedule, NoStory, NoSchedule}

-- a status other than 1 is that of the stop
pub said : {P : Type 0} (r s n : ℕ) → 1 < n → r ≡ n → (r ≡ 1) ⊎ ((r ≡ s) × P) → (s ≡ n) × P
said r s n more e (inl one) = absurd (omega (arith, more, e, one))
said r s n more e (inr reported) = (sym reported.0 ∙ e, reported.1)

pub at_write : (stop : Stop) → status_of stop ≡ 4 → stop ≡ Write
at_write NoMemory e = absurd (omega arith)
at_write Read e = absurd (omega arith)
at_write Write e = refl
at_write (Story fault) e = absurd (omega arith)
at_write (Schedule fault) e = absurd (omega arith)

pub at_story : (stop : Stop) → status_of stop ≡ 5 → (fault : StoryFault) × (stop ≡ Story fault)
at_story NoMemory e = absurd (omega arith)
at_story Read e = absurd (omega arith)
at_story Write e = absurd (omega arith)
at_story (Story fault) e = (fault, refl)
at_story (Schedule fault) e = absurd (omega arith)

pub at_schedule : (stop : Stop) → status_of stop ≡ 7 → (fault : Fault) × (stop ≡ Schedule fault)
at_schedule NoMemory e = absurd (omega arith)
at_schedule Read e = absurd (omega arith)
at_schedule Write e = absurd (omega arith)
at_schedule (Story fault) e = absurd (omega arith)
at_schedule (Schedule fault) e = (fault, refl)

-- a failed read has status 3 alone
pub read_by_status : (stop : Stop) → (status_of stop ≡ 4) ⊎ (status_of stop ≡ 5) ⊎ (status_of stop ≡ 7) → stop ≡ Read → ⊥
read_by_status Read (inl e) is = absurd (omega arith)
read_by_status Read (inr (inl e)) is = absurd (omega arith)
read_by_status Read (inr (inr e)) is = absurd (omega arith)
read_by_status NoMemory e is = absurd cc
read_by_status Write e is = absurd cc
read_by_status (Story fault) e is = absurd cc
read_by_status (Schedule fault) e is = absurd cc

-- so where another status comes, no read failed
pub unread_fault : {P Q : Type 0} (r : ℕ) (stop : Stop) → (r ≡ 1) ⊎ ((r ≡ status_of stop) × P) → (stop ≡ Read) ⊎ Q
    → (r ≡ 4) ⊎ (r ≡ 5) ⊎ (r ≡ 7) → Q
unread_fault r stop reported (inr q) came = q
unread_fault r stop (inl one) (inl is) (inl e) = absurd (omega (arith, one, e))
unread_fault r stop (inl one) (inl is) (inr (inl e)) = absurd (omega (arith, one, e))
unread_fault r stop (inl one) (inl is) (inr (inr e)) = absurd (omega (arith, one, e))
unread_fault r stop (inr reported) (inl is) (inl e) = absurd (read_by_status stop (inl (sym reported.0 ∙ e)) is)
unread_fault r stop (inr reported) (inl is) (inr (inl e)) = absurd (read_by_status stop (inr (inl (sym reported.0 ∙ e))) is)
unread_fault r stop (inr reported) (inl is) (inr (inr e)) = absurd (read_by_status stop (inr (inr (sym reported.0 ∙ e))) is)

pub at_read : (stop : Stop) → status_of stop ≡ 3 → line_of stop ≡ codes "stop 3 read\n"
at_read NoMemory e = absurd (omega arith)
at_read Read e = refl
at_read Write e = absurd (omega arith)
at_read (Story fault) e = absurd (omega arith)
at_read (Schedule fault) e = absurd (omega arith)

-- no line is written where memory ran out or a write failed
mute : (stop : Stop) → (status_of stop ≡ 0) ⊎ (status_of stop ≡ 1) ⊎ (status_of stop ≡ 4) → line_of stop ≡ []
mute NoMemory e = refl
mute Write e = refl
mute Read (inl e) = absurd (omega arith)
mute Read (inr (inl e)) = absurd (omega arith)
mute Read (inr (inr e)) = absurd (omega arith)
mute (Story fault) (inl e) = absurd (omega arith)
mute (Story fault) (inr (inl e)) = absurd (omega arith)
mute (Story fault) (inr (inr e)) = absurd (omega arith)
mute (Schedule fault) (inl e) = absurd (omega arith)
mute (Schedule fault) (inr (inl e)) = absurd (omega arith)
mute (Schedule fault) (inr (inr e)) = absurd (omega arith)

-- where no line is written, what was written stays
nothing_more : (old new : Option (List ℕ)) (bytes : List ℕ) → bytes ≡ [] → Appends old new bytes → Keeps old new
nothing_more None new bytes none is = tt
nothing_more (Some xs) None bytes none is = is
nothing_more (Some xs) (Some ys) bytes none is = is ∙ ap (λ (l : List ℕ). xs ++ l) none ∙ append-nil xs

says_nothing : (old new : Option (List ℕ)) (faults faults_now : ℕ) → WritesLine [] old new faults faults_now → Keeps old new
says_nothing old new faults faults_now (inl all) = nothing_more old new [] refl all.0
says_nothing old new faults faults_now (inr part) = nothing_more old new (take part.0.0 []) (take-nil part.0.0) part.0.2

pub says_none : (stop : Stop) (old new : Option (List ℕ)) (faults faults_now : ℕ)
    → (status_of stop ≡ 0) ⊎ (status_of stop ≡ 1) ⊎ (status_of stop ≡ 4) → WritesLine (line_of stop) old new faults faults_now → Keeps old new
says_none stop old new faults faults_now which says = says_nothing old new faults faults_now
    (subst (λ (line : List ℕ). WritesLine line old new faults faults_now) (mute stop which) says)

pub stopped_so : (stop is : Stop) → stop ≡ is → IsErrOf {T = Unit {0}} (Err stop) is
stopped_so stop is e = cc

-- what stopped a run is what stopped the one within
pub passed_on : {X Y : Type 0} (q : Result Y Stop) (stop is : Stop) → q ≡ Err stop → IsErrOf q is → IsErrOf {T = X} (Err stop) is
passed_on {X} {Y} q stop is e so = ap (λ (s : Stop). the_error s) (same stop is (sym e ∙ so))
  where
    the_error : Stop → Result X Stop
    the_error s = Err s

    same : (s t : Stop) → IsErrOf {T = Y} (Err s) t → s ≡ t
    same s t so = cc

-- only a failed write leaves something written
pub touched : {P : Type 0} (r : ℕ) (stop : Stop) → (stop ≡ Write → r ≡ 4) → (stop ≡ Write) ⊎ P → (r ≡ 0) ⊎ (r ≡ 4) ⊎ P
touched r stop wrote (inl is) = inr (inl (wrote is))
touched r stop wrote (inr same) = inr (inr same)

pub no_story : (command : Command) (before now old new : Option (List ℕ)) (faults faults_now : ℕ) (stop : Stop) (fault : StoryFault)
    → stop ≡ Story fault
    → IsNoStory command before now fault → WritesLine (line_of stop) old new faults faults_now
    → NoStory command before now old new faults faults_now
no_story command before now old new faults faults_now stop fault is none says = record {
  input = none.input;
  taken = none.taken;
  ended = none.ended;
  as_story = none.as_story;
  fault = fault;
  none = none.none;
  line = subst (λ (s : Stop). WritesLine (line_of s) old new faults faults_now) is says;
}

pub no_schedule : (command : Command) (before now old new : Option (List ℕ)) (faults faults_now : ℕ) (stop : Stop) (fault : Fault)
    → stop ≡ Schedule fault
    → IsNoSchedule command before now fault → WritesLine (line_of stop) old new faults faults_now
    → NoSchedule command before now old new faults faults_now
no_schedule command before now old new faults faults_now stop fault is none says = record {
  input = none.input;
  taken = none.taken;
  ended = none.ended;
  as_schedule = none.as_schedule;
  fault = fault;
  none = none.none;
  line = subst (λ (s : Stop). WritesLine (line_of s) old new faults faults_now) is says;
}

-- the command that the words ask for
pub same_command : (a b : Command) → Some a ≡ Some b → a ≡ b
same_command a b e = cc

-- ---- an input of which the command makes something

-- an input that tells what it holds, and was read to its end, is what was read
whole : (reported rest input : List ℕ) → Consumes (Some reported) (Some rest) input → IsAtEnd (Some rest) → reported ≡ input
whole reported rest input taken ended = taken ∙ ap (λ (t : List ℕ). input ++ t) ended ∙ append-nil input

not_ok : {T E : Type 0} (r : Result T E) (e : E) → r ≡ Err e → ¬ IsOk r
not_ok (Ok x) e is ok = absurd cc
not_ok (Err x) e is ok = absurd cc

found_no_story : (input : List ℕ) (fault : StoryFault) → story_of input ≡ Err fault → ¬ IsOk (story_of input)
found_no_story input fault none = not_ok (story_of input) fault none

found_no_schedule : (input : List ℕ) (fault : Fault) → schedule_of input ≡ Err fault → ¬ IsOk (schedule_of input)
found_no_schedule input fault none = not_ok (schedule_of input) fault none

pub has_story : (command : Command) (before now : Option (List ℕ)) (fault : StoryFault) → IsNoStory command before now fault
    → ¬ IsSomeAnd before (Has command)
has_story command None now fault none has = has
has_story command (Some reported) None fault none has = absurd none.taken
has_story command (Some reported) (Some rest) fault none has =
    let is : reported ≡ none.input = whole reported rest none.input none.taken none.ended in
    let needs : Has command none.input = subst (Has command) is has in
    found_no_story none.input fault none.none (needs.story none.as_story)

pub has_schedule : (command : Command) (before now : Option (List ℕ)) (fault : Fault) → IsNoSchedule command before now fault
    → ¬ IsSomeAnd before (Has command)
has_schedule command None now fault none has = has
has_schedule command (Some reported) None fault none has = absurd none.taken
has_schedule command (Some reported) (Some rest) fault none has =
    let is : reported ≡ none.input = whole reported rest none.input none.taken none.ended in
    let needs : Has command none.input = subst (Has command) is has in
    found_no_schedule none.input fault none.none (needs.schedule none.as_schedule)

-- what stops a run where no stream fails and the input has what is asked is want of memory
memory_alone : (stop : Stop) → ¬ (stop ≡ Read) → ¬ (stop ≡ Write) → ((fault : StoryFault) → ¬ (stop ≡ Story fault))
    → ((fault : Fault) → ¬ (stop ≡ Schedule fault)) → status_of stop ≡ 1
memory_alone NoMemory read write story schedule = refl
memory_alone Read read write story schedule = absurd (read refl)
memory_alone Write read write story schedule = absurd (write refl)
memory_alone (Story fault) read write story schedule = absurd (story fault refl)
memory_alone (Schedule fault) read write story schedule = absurd (schedule fault refl)

pub no_memory : {P : Type 0} (r : ℕ) (stop : Stop) → (r ≡ 1) ⊎ ((r ≡ status_of stop) × P) → ¬ (stop ≡ Read) → ¬ (stop ≡ Write)
    → ((fault : StoryFault) → ¬ (stop ≡ Story fault))
    → ((fault : Fault) → ¬ (stop ≡ Schedule fault)) → (r ≡ 0) ⊎ (r ≡ 1)
no_memory r stop (inl one) read write story schedule = inr one
no_memory r stop (inr reported) read write story schedule = inr (reported.0 ∙ memory_alone stop read write story schedule)
