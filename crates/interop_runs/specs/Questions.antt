-- Questions on runs: how they are spelled.
-- Names here (* for this crate alone):
--   Each*, IsList*, IsCall*, AreCalls*, IsCutWord*, IsDatagram*, AreDatagrams*, words_in*, IsWord*, IsText*
--   the questions: Question*, question*, Asks*
use Rattle.std.specs.Prelude.{◌≡◌, ◌≢◌, ◌⊎◌, ◌==◌, ◌≤◌, ℕ, List, [], ◌∷◌, Option, None, Some, String, map, codes, string_bytes}
use Rattle.std.specs.List.{slice_split}
use Rattle.std.specs.Fmt.{decimal}
use Rattle.std.specs.declared.alloc.Global.{Global}
use Rattle.text_defs.specs.Words.{Spells, words_of}
use Rattle.rp_devices.specs.Links.{ported}
use Rattle.interop_runs.specs.declared.calls.Nth.{Nth}
use Rattle.interop_runs.specs.declared.questions.Question.{Question as Asked}
use Rattle.interop_runs.specs.Calls.{IsCut, kind_word}

-- two lists of one length whose items are so related, one by one
abbrev pub Each : {A B : Type 0} → (A → B → Type 0) → List A → List B → Type 0
Each R [] [] = Unit {0}
Each R [] (y ∷ ys) = ⊥
Each R (x ∷ xs) [] = ⊥
Each R (x ∷ xs) (y ∷ ys) = R x y × Each R xs ys

-- the items of a list are between commas; a dash is the list of none
abbrev pub IsList : List ℕ → List (List ℕ) → Type 0
IsList word items = ((word ≡ codes "-") × (items ≡ [])) ⊎ ((word ≢ codes "-") × (items ≡ slice_split (λ c. c == 44) word))

-- `CALL:N`
pub record IsCall (word : List ℕ) (call : Nth) : Type 0 where
  pub parts : slice_split (λ c. c == 58) word ≡ kind_word call.kind ∷ decimal call.number ∷ []
  pub least : 1 ≤ call.number
  pub most : call.number ≤ 4294967295

-- `CALL:N,CALL:N ..`
pub record AreCalls (word : List ℕ) (calls : List Nth) : Type 0 where
  pub items : List (List ℕ)
  pub list : IsList word items
  pub each : Each IsCall items calls

-- `write:N`, `sync:N`, or a dash
abbrev pub IsCutWord : List ℕ → Option Nth → Type 0
IsCutWord word None = word ≡ codes "-"
IsCutWord word (Some call) = (word ≢ codes "-") × IsCall word call × IsCut call.kind

-- `PORT:HEX`
pub record IsDatagram (word : List ℕ) (datagram : ℕ × List ℕ) : Type 0 where
  pub hexadecimal : List ℕ
  pub parts : slice_split (λ c. c == 58) word ≡ decimal datagram.0 ∷ hexadecimal ∷ []
  pub most : datagram.0 ≤ 65535
  pub bytes : Spells hexadecimal datagram.1

-- `PORT:HEX,PORT:HEX ..`
pub record AreDatagrams (word : List ℕ) (datagrams : List (ℕ × List ℕ)) : Type 0 where
  pub items : List (List ℕ)
  pub list : IsList word items
  pub each : Each IsDatagram items datagrams

-- the words of a text, which is empty where there are none
abbrev pub words_in : List ℕ → List (List ℕ)
words_in [] = []
words_in (c ∷ text) = words_of (c ∷ text)

-- the word of these bytes
abbrev pub IsWord : List ℕ → String Global → Type 0
IsWord bytes word = string_bytes word ≡ bytes

-- the text of the program's words, in hexadecimal
pub record IsText (word : List ℕ) (words : List (String Global)) : Type 0 where
  pub text : List ℕ
  pub spells : Spells word text
  pub each : Each IsWord (words_in text) words

-- ---- the questions

-- The words of the program, what it reads, what its disk has, which calls fail, the datagrams that wait with their ports, and the call of the
-- disk at which it is cut off.
pub record Question : Type 0 where
  pub words : List (String Global)
  pub input : List ℕ
  pub journal : List ℕ
  pub failing : List Nth
  pub coming : List (ℕ × List ℕ)
  pub cut : Option Nth

-- as it is in code
abbrev pub question : Asked → Question
question q = record {
  words = q.words.items;
  input = q.input.items;
  journal = q.journal.items;
  failing = q.failing.items;
  coming = map ported q.coming.items;
  cut = q.cut;
}

-- `run WORDS INPUT JOURNAL FAILS COMING STOP`
pub record Asks (words : List (List ℕ)) (q : Question) : Type 0 where
  pub said : List ℕ
  pub input : List ℕ
  pub journal : List ℕ
  pub fails : List ℕ
  pub coming : List ℕ
  pub stop : List ℕ
  pub words_are : words ≡ codes "run" ∷ said ∷ input ∷ journal ∷ fails ∷ coming ∷ stop ∷ []
  pub said_is : IsText said q.words
  pub input_is : Spells input q.input
  pub journal_is : Spells journal q.journal
  pub fails_are : AreCalls fails q.failing
  pub coming_are : AreDatagrams coming q.coming
  pub stop_is : IsCutWord stop q.cut
