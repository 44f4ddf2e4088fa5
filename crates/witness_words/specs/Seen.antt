-- What the code holds, as plain data.
-- Names here (* for this crate alone):
--   evidence_with*
--   evidence that was read: evidence*, two_words*, evidence_behind*
--   a conviction, as it is written: IsShort*, HasOneSigner*, draft_of*, evidence_head*, line_with*, bundle_of*, conviction_line*,
--     travels*, CanTravel*
use Rattle.std.specs.Prelude.{◌≡◌, ℕ, ◌≤◌, List, [], ◌∷◌, ◌++◌, length, codes, Option, Some, None, option_map, IsTrue}
use Rattle.std.specs.Fmt.{decimal}
use Rattle.hex.specs.Hex.{encode_lower}
use Rattle.byte_defs.specs.Choices.{and_then}
use Rattle.text_defs.specs.Words.{line_feed, process_of, space}
use Rattle.message_defs.specs.Frames.{Bundle, Group, frame_bytes}
use Rattle.message_defs.specs.Packing.{group_of}
use Rattle.frame_codec.specs.Drafts.{Draft}
use Rattle.stmt_codec.specs.declared.own.OwnClaim.{OwnClaim}
use Rattle.stmt_codec.specs.Views.{signed}
use Rattle.findings_json.specs.declared.findings.Conviction.{Conviction}
use Rattle.chain_text_defs.specs.Chains.{frame_in}
use Rattle.group_defs.specs.Process.{Setting}
use Rattle.witness_defs.specs.Lines as plain
use Rattle.witness_defs.specs.Judging.{is_taken}
use Rattle.witness_defs.specs.Laws.{IsSpelled}
use Rattle.witness_words.specs.declared.reading.Evidence.{Evidence}

-- these bytes against this process
abbrev pub evidence_with : ℕ → List ℕ → plain.Evidence
evidence_with p frame = record { process = p; frame = frame }

-- ---- evidence that was read

abbrev pub evidence : Evidence → plain.Evidence
evidence e = evidence_with e.process e.frame.items

-- the words, where they are two
abbrev pub two_words : List (List ℕ) → Option (List ℕ × List ℕ)
two_words (first ∷ second ∷ []) = Some (first, second)
two_words _ = None

-- the evidence of a process and a frame, as two words
abbrev pub evidence_behind : List ℕ → List ℕ → Option plain.Evidence
evidence_behind number frame =
    and_then (process_of number) (λ p. option_map (λ bytes. record { process = p; frame = bytes }) (frame_in frame))

-- ---- a conviction, as it is written

-- a frame can carry it beside another one
abbrev pub IsShort : OwnClaim → Type 0
IsShort c = (length c.statement ≤ 1032) × (length c.signature ≤ 16384)

-- both claims have one signer
abbrev pub HasOneSigner : Conviction → Type 0
HasOneSigner c = c.first.signer ≡ c.second.signer

-- a Bundle of these groups, while it is written
abbrev pub draft_of : List Group → Draft
draft_of groups = record { kind = 1; room = 61000; groups = groups }

-- the words of a line up to its last one
abbrev pub evidence_head : ℕ → List ℕ
evidence_head p = codes "evidence" ++ space ∷ (decimal p ++ space ∷ [])

-- the line of a process and a frame
abbrev pub line_with : ℕ → List ℕ → List ℕ
line_with p frame = evidence_head p ++ (encode_lower frame ++ line_feed ∷ [])

-- its two claims as a Bundle
abbrev pub bundle_of : Conviction → List ℕ
bundle_of c = frame_bytes (Bundle (group_of (signed c.first) ∷ group_of (signed c.second) ∷ []))

-- the line of a process that two claims convict
abbrev pub conviction_line : Conviction → List ℕ
conviction_line c = line_with c.process (bundle_of c)

-- the same as evidence
abbrev pub travels : Conviction → plain.Evidence
travels c = evidence_with c.process (bundle_of c)

-- a line can spell it, and it is taken
abbrev pub CanTravel : Setting → Conviction → Type 0
CanTravel s c = IsSpelled (travels c) × IsTrue (is_taken s (travels c))
