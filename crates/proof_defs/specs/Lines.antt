-- What `proofs P` writes: for each view that P left, in the order in which it left them, one line
--   proof HEX        the Proof of its commit certificate, in hexadecimal: it shows the view that P installed next
--   proof P large    where the commit certificate does not fit into one frame
-- Whoever reads these lines from the kit's first view on comes to the view that P was in last. A line of the second form shows nothing: the
-- chain ends before it, and goes on after it from the line of the view that P installed there.
use Rattle.std.specs.Prelude.{ℕ, List, [], ◌∷◌, flat_map, codes}
use Rattle.std.specs.Fmt.{decimal}
use Rattle.hex.specs.Hex.{encode_lower}
use Rattle.text_defs.specs.Words.{line_text}
use Rattle.group_defs.specs.Process.{Left, Process}
use Rattle.group_defs.specs.Sending.{Proof, frames_of}
use Rattle.group_defs.specs.Family.{ends}
use Rattle.audit_defs.specs.Audits.{Audited}

-- the frames of the commit certificate by which a view was left
abbrev pub proof_frames : Left → List (List ℕ)
proof_frames l = frames_of (Proof l.commit)

-- the words after the first one, where a process has these frames of a certificate: the one frame there is, or that there is not one
abbrev pub words_by : ℕ → List (List ℕ) → List (List ℕ)
words_by me (frame ∷ []) = encode_lower frame ∷ []
words_by me _ = decimal me ∷ codes "large" ∷ []

-- the line of a view that this process left
abbrev pub proof_line : ℕ → Left → List ℕ
proof_line me l = line_text (codes "proof" ∷ words_by me (proof_frames l))

-- a line for each view that the process left
abbrev pub lines_of : Process → List ℕ
lines_of p = flat_map (proof_line p.me) p.left

-- of the processes that an audit takes as correct, as they are after their journals: of one process, where one is listed
abbrev pub proofs_text : Audited → List ℕ
proofs_text a = flat_map lines_of (ends a.family)
