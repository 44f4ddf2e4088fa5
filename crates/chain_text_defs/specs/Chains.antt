-- What `chain` reads: a kit, the line `go`, and lines
--   proof HEX         a frame in hexadecimal, not empty; the line has at most 122,006 bytes
-- It writes
--   view 0 : M M M    the genesis, once the kit is read; its members in rank order
--   view X : M M M    after each proof, the view that it shows
-- and where it stops, after these, one line more with the number of the line, counted from the input's first one:
--   stop 7 line N | repeated N | missing N | keymismatch N     the kit's fault, or a line of another form, or the input's end in a line
--   stop 7 frame N WORD | notproof N | few N NUMBER            the proof shows no view
-- Names here (* for this crate alone):
--   setting_of
--   lines: most_proof_line, frame_in, proof_by, proof_in, view_line
--   stops: kit_words, proof_words
--   the answer: Answer, done, stopped, behind, chain_at, chain_from, chain_of
use Rattle.std.specs.Prelude.{ℕ, ◌+◌, ◌/◌, ◌==◌, nat_lt, if◌then◌else◌, List, [], ◌∷◌, ◌++◌, length, map, Option, Some, None, Result, Ok, Err, codes}
use Rattle.std.specs.Fmt.{decimal}
use Rattle.byte_defs.specs.Equality.{same_bytes}
use Rattle.text_defs.specs.Words.{words_of, line_text, parts_of, bytes_of}
use Rattle.signature_defs.specs.Schemes as schemes
use Rattle.kit_defs.specs.Kits.{Kit}
use Rattle.kit_defs.specs.KitReading.{KitFault, Line, Repeated, Missing, KeyMismatch}
use Rattle.input_defs.specs.Fronts.{Front, front_of}
use Rattle.group_defs.specs.Views.{View}
use Rattle.group_defs.specs.Process.{Setting, all_kinds}
use Rattle.replay_defs.specs.Reports.{frame_word}
use Rattle.chain_defs.specs.declared.ChainFault.{ChainFault}
use Rattle.chain_defs.specs.declared.ChainFault.TheVariants as faults
use Rattle.chain_defs.specs.Advance.{advance}

-- what the processes of a kit share
abbrev pub setting_of : Kit → Setting
setting_of kit = record {
  group = kit.group;
  roster = kit.keys;
  genesis = record { number = 0; members = kit.genesis };
  valid = schemes.is_valid kit.scheme;
  signs = all_kinds;
}

-- ---- lines

-- how many bytes a line with a frame has at most: that of 61,000 bytes
abbrev pub most_proof_line : ℕ
most_proof_line = 122006

-- the bytes of a word, which has some
abbrev pub frame_in : List ℕ → Option (List ℕ)
frame_in word = if length word == 0 then None else bytes_of (length word / 2) word

-- the frame of a proof's words
abbrev pub proof_by : List (List ℕ) → Option (List ℕ)
proof_by (word ∷ frame ∷ []) = if same_bytes word (codes "proof") then frame_in frame else None
proof_by _ = None

-- the frame of a proof line
unfoldable pub proof_in : List ℕ → Option (List ℕ)
proof_in line = if nat_lt most_proof_line (length line) then None else proof_by (words_of line)

-- the line of a view
abbrev pub view_line : View → List ℕ
view_line v = line_text (codes "view" ∷ decimal v.number ∷ codes ":" ∷ map decimal v.members)

-- ---- stops

-- of a kit's fault
abbrev pub kit_words : KitFault → List (List ℕ)
kit_words (Line n) = codes "line" ∷ decimal n ∷ []
kit_words (Repeated n) = codes "repeated" ∷ decimal n ∷ []
kit_words (Missing n) = codes "missing" ∷ decimal n ∷ []
kit_words (KeyMismatch n made listed) = codes "keymismatch" ∷ decimal n ∷ []

-- of the proof in the line of this number
abbrev pub proof_words : ℕ → ChainFault → List (List ℕ)
proof_words n (faults.Frame fault) = codes "frame" ∷ decimal n ∷ frame_word fault ∷ []
proof_words n faults.NotProof = codes "notproof" ∷ decimal n ∷ []
proof_words n (faults.Few number) = codes "few" ∷ decimal n ∷ decimal number ∷ []

-- ---- the answer

-- the bytes that are written, and the status
pub record Answer : Type 0 where
  pub written : List ℕ
  pub status : ℕ

-- the input was read to its end
abbrev pub done : Answer
done = record { written = []; status = 0 }

-- the last line says why
abbrev pub stopped : List (List ℕ) → Answer
stopped words = record { written = line_text (codes "stop" ∷ codes "7" ∷ words); status = 7 }

-- after these bytes
abbrev pub behind : List ℕ → Answer → Answer
behind bytes a = record a { written = bytes ++ a.written }

-- the lines from this number on, after a view
unfoldable pub chain_at : Setting → ℕ → View → List (List ℕ) → Answer
chain_at s n v [] = done
chain_at s n v (rest ∷ []) = if length rest == 0 then done else stopped (codes "line" ∷ decimal n ∷ [])
chain_at s n v (line ∷ next ∷ more) = elim (proof_in line) [
  | None ↦ stopped (codes "line" ∷ decimal n ∷ [])
  | Some bytes ↦ elim (advance s v bytes) [
    | Err fault ↦ stopped (proof_words n fault)
    | Ok w ↦ behind (view_line w) (chain_at s (n + 1) w (next ∷ more))
  ]
]

-- the lines after a kit, from the genesis on
abbrev pub chain_from : Front → Answer
chain_from f = let s = setting_of f.kit in behind (view_line s.genesis) (chain_at s f.line s.genesis (parts_of f.rest))

-- what `chain` answers to an input
unfoldable pub chain_of : List ℕ → Answer
chain_of bytes = elim (front_of bytes) [ Err fault ↦ stopped (kit_words fault) | Ok f ↦ chain_from f ]
