-- Lines of evidence.
--   evidence P HEX     P a process, and HEX a frame in hexadecimal, not empty; the line has at most 122,012 bytes
-- `convict` writes one for each whom an audit convicts, by rising numbers. Its frame is a Bundle of the two claims that convict P, the
-- earlier first: what a third party needs, and no more.
use Rattle.std.specs.Prelude.{ℕ, nat_lt, if◌then◌else◌, List, [], ◌∷◌, length, flat_map, codes, Option, None, option_map}
use Rattle.std.specs.Fmt.{decimal}
use Rattle.hex.specs.Hex.{encode_lower}
use Rattle.byte_defs.specs.Choices.{and_then}
use Rattle.byte_defs.specs.Equality.{same_bytes}
use Rattle.text_defs.specs.Words.{line_text, process_of, words_of}
use Rattle.conviction_defs.specs.Convictions.{Conviction, convictions}
use Rattle.chain_text_defs.specs.Chains.{frame_in}
use Rattle.audit_defs.specs.Audits.{Audited}
use Rattle.audit_defs.specs.Evidence.{evidence_line, pair_frame}

-- a process, and the bytes that are to convict it
pub record Evidence : Type 0 where
  pub process : ℕ
  pub frame : List ℕ

-- ---- as they are written

-- the line of evidence, with its line feed
abbrev pub line_with_feed : Evidence → List ℕ
line_with_feed e = line_text (codes "evidence" ∷ decimal e.process ∷ encode_lower e.frame ∷ [])

-- whom an audit convicts, each by two claims
abbrev pub convicted_by : Audited → List Conviction
convicted_by a = convictions a.family.setting a.claims

-- what a conviction gives: its process, and its two claims as a Bundle
abbrev pub evidence_of : Conviction → Evidence
evidence_of c = record { process = c.process; frame = pair_frame c.first c.second }

-- a line for each whom an audit convicts; nothing where it convicts nobody
abbrev pub evidence_text : Audited → List ℕ
evidence_text a = flat_map evidence_line (convicted_by a)

-- ---- as they are read

-- how many bytes a line has at most: that of a frame of 61,000 bytes
abbrev pub most_evidence_line : ℕ
most_evidence_line = 122012

-- the evidence of the words after the first one
abbrev pub evidence_of_rest : List (List ℕ) → Option Evidence
evidence_of_rest (process ∷ frame ∷ []) =
    and_then (process_of process) (λ p. option_map (λ bytes. record { process = p; frame = bytes }) (frame_in frame))
evidence_of_rest _ = None

-- the evidence of a line's words
abbrev pub evidence_by : List (List ℕ) → Option Evidence
evidence_by [] = None
evidence_by (word ∷ rest) = if same_bytes word (codes "evidence") then evidence_of_rest rest else None

-- the evidence of a line
unfoldable pub evidence_in : List ℕ → Option Evidence
evidence_in line = if nat_lt most_evidence_line (length line) then None else evidence_by (words_of line)
