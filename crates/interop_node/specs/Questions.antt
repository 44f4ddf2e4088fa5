-- Questions on what a node keeps and gets: how they are spelled, and what is answered.
use Rattle.std.specs.Prelude.{◌≡◌, ℕ, List, [], ◌∷◌, codes}
use Rattle.hex.specs.Hex.{IsBytes, encode_lower}
use Rattle.text_defs.specs.Words.{AreBytes, bytes_word}
use Rattle.interop_node.specs.Journals.{SaysOfJournal}
use Rattle.interop_node.specs.Datagrams.{datagram_answer}

pub data Question : Type 0 where
  -- what the bytes say as a journal
  OfJournal : (bytes : List ℕ) → Question
  -- what a process opens of the bytes as a datagram, with this key of 32 bytes
  OfDatagram : (key bytes : List ℕ) → Question

abbrev pub IsQuestion : Question → Type 0
IsQuestion (OfJournal bytes) = IsBytes bytes
IsQuestion (OfDatagram key bytes) = AreBytes 32 key × IsBytes bytes

-- `journal HEX` and `datagram KEY HEX`
abbrev pub spelled : Question → List (List ℕ)
spelled (OfJournal bytes) = codes "journal" ∷ bytes_word bytes ∷ []
spelled (OfDatagram key bytes) = codes "datagram" ∷ encode_lower key ∷ bytes_word bytes ∷ []

abbrev pub IsAnswerTo : Question → List ℕ → Type 0
IsAnswerTo (OfJournal bytes) reported = SaysOfJournal bytes reported
IsAnswerTo (OfDatagram key bytes) reported = reported ≡ datagram_answer key bytes

-- the words are those of a question on a journal or a datagram, and this is what is answered
pub record Answers (words : List (List ℕ)) (reported : List ℕ) : Type 0 where
  pub question : Question
  pub fits : IsQuestion question
  pub asked : words ≡ spelled question
  pub is_reported : IsAnswerTo question reported
