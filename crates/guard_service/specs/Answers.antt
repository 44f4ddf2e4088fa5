-- What a guard answers a node, call by call. It says nothing of its own; it names whom a frame shows and its process may expel, and it has
-- one line, by which a process accuses another.
use Rattle.std.specs.Prelude.{◌≡◌, ℕ, List, [], ◌∷◌, drop, Option, Some, None}
use Rattle.std.specs.List.{AllByRecursion}
use Rattle.text_defs.specs.Words.{words_of}
use Rattle.group_defs.specs.Process.{Setting, Process}
use Rattle.node_defs.specs.Casts.{handed}
use Rattle.node_defs.specs.Nodes.{Call, Serves, NotesOf, Asks, Words, Answer, Done, Said}
use Rattle.node_service.specs.Histories.{Asked}
use Rattle.node_service.specs.Answers.{named_by}
use Rattle.guard_defs.specs.Guarding.{next_suspect}
use Rattle.guard_defs.specs.Lines.{accused_by}
use Rattle.guard_service.specs.Accusing.{Accuses}

-- ---- its line

-- whom the line is to accuse: what it says after the process's number
abbrev pub accused_in : List ℕ → Option ℕ
accused_in line = accused_by (drop 1 (words_of line))

-- the process accuses that one, or the line is none of a guard's
abbrev pub AnswersWord : Setting → Process → Option ℕ → Answer → Type 0
AnswersWord s now None a = a ≡ Done
AnswersWord s now (Some q) a = Accuses s now q a

-- ---- each call

-- one process is shown, and of it this holds
abbrev pub OfOne : (Process → Type 0) → List Process → Type 0
OfOne P (now ∷ []) = P now
OfOne P _ = ⊥

-- the answer to the call, where these processes are shown
abbrev pub AnswersOf : Setting → List Process → Call → Answer → Type 0
AnswersOf s shown Serves a = a ≡ Said [] []
AnswersOf s shown (NotesOf p note) a = a ≡ Said [] []
AnswersOf s shown (Asks p e notes above) a = OfOne (λ now. a ≡ named_by (next_suspect s (handed e) notes now above)) shown
AnswersOf s shown (Words p line) a = OfOne (λ now. AnswersWord s now (accused_in line) a) shown
AnswersOf s shown _ a = ⊥

-- a call, with the answer of a guard
abbrev pub IsGuards : Asked → Type 0
IsGuards i = AnswersOf i.cast.setting i.shown i.call i.answer

-- a history of a guard: each answer is one
abbrev pub AreGuards : List Asked → Type 0
AreGuards h = AllByRecursion IsGuards h
