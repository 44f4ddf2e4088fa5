-- What was read of an input in memory is all of it, and what was written is what the sink holds.
use Rattle.std.proofs.Common.{◌≡◌, ℕ, Bool, true, false, Option, Some, None, List, [], ◌++◌, length, Err, sym, ap, subst, ◌∙◌, inl, inr, arith}
use Rattle.std.proofs.lemmas.List.{append-nil, take_all}
use Rattle.std.specs.Io.KnownBytes.{Consumes, IsAtEnd}
use Rattle.rp_base.specs.Streams.{WritesLine}
use Rattle.replay_defs.specs.Reading.{schedule_of}
use Rattle.story_defs.specs.Stories.{story_of}
use Rattle.story_cli.specs.declared.commands.Command.{Command}
use Rattle.story_cli.specs.Top.{NoStory, NoSchedule, takes_as_story}
use Rattle.replay_words.specs.Answers.{Reported, Stopped}
use Rattle.page.specs.Answers.{HasNoReport, IsNoSchedule, IsNoStory, IsReport, Line}

-- an input that tells what it holds, and was read to its end, is what was read
whole : (reported : List ℕ) (now : Option (List ℕ)) (input : List ℕ) → Consumes (Some reported) now input → IsAtEnd now → input ≡ reported
whole reported None input taken ended = absurd taken
whole reported (Some rest) input taken ended = sym (taken ∙ ap (λ (t : List ℕ). input ++ t) ended ∙ append-nil input)

-- what was said to a sink that held nothing is the line, or a prefix of it
said : (line bytes : List ℕ) (before now : ℕ) → WritesLine line (Some []) (Some bytes) before now → Line line bytes
said line bytes before now (inl all) = (length line, omega arith, all.0 ∙ sym (take_all (length line) line (omega arith)))
said line bytes before now (inr part) = part.0

-- a source that had the input left, and a sink that held nothing
moved : (P : List ℕ → List ℕ → Type 0) (left input sink : List ℕ) → left ≡ input → sink ≡ [] → P left sink → P input []
moved P left input sink is empty p = subst (λ (i : List ℕ). P i []) is (subst (λ (s : List ℕ). P left s) empty p)

no_story_in : (c : Command) (input bytes : List ℕ) (now : Option (List ℕ)) (faults faults_now : ℕ)
    → NoStory c (Some input) now (Some []) (Some bytes) faults faults_now → IsNoStory input bytes
no_story_in c input bytes now faults faults_now n = record {
  fault = n.fault;
  none = subst (λ (i : List ℕ). story_of i ≡ Err n.fault) (whole input now n.input n.taken n.ended) n.none;
  reported = said _ bytes faults faults_now n.line;
}

pub no_story : (c : Command) (input bytes left sink : List ℕ) (now : Option (List ℕ)) (faults faults_now : ℕ) → left ≡ input → sink ≡ []
    → NoStory c (Some left) now (Some sink) (Some bytes) faults faults_now → IsNoStory input bytes
no_story c input bytes left sink now faults faults_now is empty n = no_story_in c input bytes now faults faults_now
    (moved (λ (i s : List ℕ). NoStory c (Some i) now (Some s) (Some bytes) faults faults_now) left input sink is empty n)

-- that input is taken as a story
pub taken_so : (c : Command) (input left : List ℕ) (now old new : Option (List ℕ)) (faults faults_now : ℕ) → left ≡ input
    → NoStory c (Some left) now old new faults faults_now → takes_as_story c input ≡ true
taken_so c input left now old new faults faults_now is n =
    subst (λ (i : List ℕ). takes_as_story c i ≡ true) (whole left now n.input n.taken n.ended ∙ is) n.as_story

no_schedule_in : (c : Command) (input bytes : List ℕ) (now : Option (List ℕ)) (faults faults_now : ℕ)
    → NoSchedule c (Some input) now (Some []) (Some bytes) faults faults_now → IsNoSchedule input bytes
no_schedule_in c input bytes now faults faults_now n = record {
  fault = n.fault;
  none = subst (λ (i : List ℕ). schedule_of i ≡ Err n.fault) (whole input now n.input n.taken n.ended) n.none;
  reported = said _ bytes faults faults_now n.line;
}

pub no_schedule : (c : Command) (input bytes left sink : List ℕ) (now : Option (List ℕ)) (faults faults_now : ℕ) → left ≡ input → sink ≡ []
    → NoSchedule c (Some left) now (Some sink) (Some bytes) faults faults_now → IsNoSchedule input bytes
no_schedule c input bytes left sink now faults faults_now is empty n = no_schedule_in c input bytes now faults faults_now
    (moved (λ (i s : List ℕ). NoSchedule c (Some i) now (Some s) (Some bytes) faults faults_now) left input sink is empty n)

-- that input is taken as a schedule
pub read_so : (c : Command) (input left : List ℕ) (now old new : Option (List ℕ)) (faults faults_now : ℕ) → left ≡ input
    → NoSchedule c (Some left) now old new faults faults_now → takes_as_story c input ≡ false
read_so c input left now old new faults faults_now is n =
    subst (λ (i : List ℕ). takes_as_story c i ≡ false) (whole left now n.input n.taken n.ended ∙ is) n.as_schedule

report_in : (short : Bool) (input bytes : List ℕ) (now : Option (List ℕ))
    → Reported short (Some input) now (Some []) (Some bytes) → IsReport short input bytes
report_in short input bytes now r =
    subst (λ (i : List ℕ). IsReport short i bytes) (whole input now r.replayed.input r.replayed.taken r.replayed.ended)
    (record { run = r.replayed.run; report = r.written; headline = r.headline })

pub report : (short : Bool) (input bytes left sink : List ℕ) (now : Option (List ℕ)) → left ≡ input → sink ≡ []
    → Reported short (Some left) now (Some sink) (Some bytes) → IsReport short input bytes
report short input bytes left sink now is empty r = report_in short input bytes now
    (moved (λ (i s : List ℕ). Reported short (Some i) now (Some s) (Some bytes)) left input sink is empty r)

no_report_in : (input bytes : List ℕ) (now : Option (List ℕ)) (faults faults_now : ℕ)
    → Stopped (Some input) now (Some []) (Some bytes) faults faults_now → HasNoReport input bytes
no_report_in input bytes now faults faults_now s = record {
  fault = s.refused.none.fault;
  none = s.refused.reported;
  reported = said _ bytes faults faults_now s.line;
}

pub no_report : (input bytes left sink : List ℕ) (now : Option (List ℕ)) (faults faults_now : ℕ) → left ≡ input → sink ≡ []
    → Stopped (Some left) now (Some sink) (Some bytes) faults faults_now → HasNoReport input bytes
no_report input bytes left sink now faults faults_now is empty s = no_report_in input bytes now faults faults_now
    (moved (λ (i t : List ℕ). Stopped (Some i) now (Some t) (Some bytes) faults faults_now) left input sink is empty s)
