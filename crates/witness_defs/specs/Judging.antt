-- What `judge` reads: a kit, whose public lines suffice, the line `go`, and lines of evidence.
-- Evidence is taken where its frame is a Bundle whose claims convict its process: two of them are valid, the process's own and on one slot,
-- and say different things. Where all of it is taken nothing is written and the status is 0, else the status is 7, and one line has the
-- number of the line that is in the way, counted from the input's first one:
--   stop 7 line N | repeated N | missing N | keymismatch N     the kit's fault, or a line of another form, or the input's end in a line
--   stop 7 evidence N                                          the evidence is not taken
-- Names here (* for this crate alone):
--   what a frame proves: if_read, claims_by, claims_in, is_taken
--   lines: Refusal, judged_at, Judged, judged_behind, judged
--   the line that says why: refusal_words*, refusal_line
use Rattle.std.specs.Prelude.{ℕ, ◌+◌, ◌==◌, Bool, not, if◌then◌else◌, List, [], ◌∷◌, length, codes, Result, Ok, Err}
use Rattle.std.specs.Option.{ok_or}
use Rattle.std.specs.Fmt.{decimal}
use Rattle.byte_defs.specs.Fields.{◌>>=◌, refuse_if}
use Rattle.text_defs.specs.Words.{line_text, parts_of}
use Rattle.message_defs.specs.declared.FrameFault.{FrameFault}
use Rattle.message_defs.specs.Statements.{Claim}
use Rattle.message_defs.specs.Frames.{FrameView, Bundle, Proof, Want, frame_of}
use Rattle.message_defs.specs.Claims.{claims_of}
use Rattle.group_defs.specs.Process.{Setting}
use Rattle.kit_defs.specs.Kits.{Kit}
use Rattle.kit_defs.specs.KitReading.{KitFault, Line}
use Rattle.input_defs.specs.Fronts.{Front, fault_words, front_of}
use Rattle.conviction_defs.specs.Convictions.{is_convicted}
use Rattle.audit_defs.specs.Players.{setting_of}
use Rattle.witness_defs.specs.Lines.{Evidence, evidence_in}

-- ---- what a frame proves

-- the claims that were read; none where one has a fault
abbrev pub if_read : Result (List Claim) FrameFault → List Claim
if_read (Err fault) = []
if_read (Ok claims) = claims

-- the claims of a Bundle; none of another frame, or where the bytes are none
abbrev pub claims_by : Result FrameView FrameFault → List Claim
claims_by (Err fault) = []
claims_by (Ok (Bundle gs)) = if_read (claims_of (Bundle gs))
claims_by (Ok (Proof gs)) = []
claims_by (Ok (Want x k)) = []

-- the claims of the evidence
abbrev pub claims_in : Evidence → List Claim
claims_in e = claims_by (frame_of e.frame)

-- it convicts its process
abbrev pub is_taken : Setting → Evidence → Bool
is_taken s e = is_convicted s (claims_in e) e.process

-- ---- lines

-- what is in the way of an input
pub data Refusal : Type 0 where
  -- a line of the kit has this fault, or a line is none of evidence
  NoInput : (fault : KitFault) → Refusal
  -- the evidence in the line of this number is not taken
  NotTaken : (line : ℕ) → Refusal

-- the lines from this number on: their evidence, or what is first in the way
unfoldable pub judged_at : Setting → ℕ → List (List ℕ) → Result (List Evidence) Refusal
judged_at s n [] = Ok []
judged_at s n (rest ∷ []) = if length rest == 0 then Ok [] else Err (NoInput (Line n))
judged_at s n (line ∷ next ∷ more) = do
  e ← ok_or (evidence_in line) (NoInput (Line n))
  _ ← refuse_if (not (is_taken s e)) (NotTaken n)
  others ← judged_at s (n + 1) (next ∷ more)
  Ok (e ∷ others)

-- a kit, and the evidence that was taken by its keys
pub record Judged : Type 0 where
  pub kit : Kit
  pub evidence : List Evidence

-- the lines after a kit
abbrev pub judged_behind : Front → Result Judged Refusal
judged_behind f = judged_at (setting_of f.kit) f.line (parts_of f.rest) >>= λ es. Ok (record { kit = f.kit; evidence = es })

-- what `judge` takes of an input, or what is first in the way
unfoldable pub judged : List ℕ → Result Judged Refusal
judged bytes = elim (front_of bytes) [ Err fault ↦ Err (NoInput fault) | Ok f ↦ judged_behind f ]

-- ---- the line that says why

abbrev pub refusal_words : Refusal → List (List ℕ)
refusal_words (NoInput fault) = fault_words fault
refusal_words (NotTaken n) = codes "evidence" ∷ decimal n ∷ []

abbrev pub refusal_line : Refusal → List ℕ
refusal_line r = line_text (codes "stop" ∷ decimal 7 ∷ refusal_words r)
