-- Rows of evidence. A signature is valid where it has no byte.
use Rattle.std.specs.Prelude.{◌≡◌, ℕ, ◌==◌, Bool, false, List, [], ◌∷◌, length, map, flat_map, codes, Ok}
use Rattle.text_defs.specs.Words.{parts_of}
use Rattle.message_defs.specs.Statements.{Claim, Echo, Statement}
use Rattle.message_defs.specs.Frames.{Bundle, FrameView, Group, Proof, Want, frame_bytes}
use Rattle.message_defs.specs.Packing.{group_of, signed_of}
use Rattle.group_defs.specs.Process.{Setting, all_kinds}
use Rattle.conviction_defs.specs.Convictions.{convictions}
use Rattle.audit_defs.specs.Evidence.{evidence_line}
use Rattle.witness_defs.specs.Lines.{Evidence}
use Rattle.witness_defs.specs.Judging.{is_taken, judged_at}

-- four members, all of whom have keys
abbrev pub four : Setting
four = record {
  group = [];
  roster = (0, []) ∷ (1, []) ∷ (2, []) ∷ (3, []) ∷ [];
  genesis = record { number = 0; members = 0 ∷ 1 ∷ 2 ∷ 3 ∷ [] };
  valid = λ key body signature. length signature == 0;
  signs = all_kinds;
}

-- process 3 says that it heard this as its own first message
abbrev pub echo : ℕ → Statement
echo payload = Echo 0 (record { sender = 3; number = 0 }) (payload ∷ [])

-- the claim of a process, with this signature
abbrev pub claim : ℕ → Statement → List ℕ → Claim
claim signer st signature = record { signer = signer; statement = st; signature = signature }

-- the claim as a group of its own
abbrev pub group : Claim → Group
group c = group_of (signed_of c)

-- this frame against this process
abbrev pub against : ℕ → FrameView → Evidence
against p f = record { process = p; frame = frame_bytes f }

-- ---- from claims to a judge

-- an Echo of a, and one of b
abbrev pub two_claims : List Claim
two_claims = claim 3 (echo 97) [] ∷ claim 3 (echo 98) [] ∷ []

abbrev pub two_echoes_text : List ℕ
two_echoes_text = codes "evidence 3 010102000902000003000000016101030000000902000003000000016201030000\n"

-- The claims convict process 3 by this line, and a judge takes it.
pub record TwoEchoesTravel : Type 0 where
  pub written : flat_map evidence_line (convictions four two_claims) ≡ two_echoes_text
  pub taken : judged_at four 14 (parts_of two_echoes_text) ≡ Ok (against 3 (Bundle (map group two_claims)) ∷ [])

-- ---- what is not taken

abbrev pub proofless : List Evidence
proofless =
    -- of another process, and of one without a key
    against 2 (Bundle (map group two_claims))
    ∷ against 4 (Bundle (group (claim 4 (echo 97) []) ∷ group (claim 4 (echo 98) []) ∷ []))
    -- one claim, and one claim twice
    ∷ against 3 (Bundle (group (claim 3 (echo 97) []) ∷ []))
    ∷ against 3 (Bundle (group (claim 3 (echo 97) []) ∷ group (claim 3 (echo 97) []) ∷ []))
    -- a signature that is not valid
    ∷ against 3 (Bundle (group (claim 3 (echo 97) []) ∷ group (claim 3 (echo 98) (0 ∷ [])) ∷ []))
    -- no Bundle, and no frame
    ∷ against 3 (Proof (map group two_claims))
    ∷ against 3 (Want 0 0)
    ∷ record { process = 3; frame = 1 ∷ 1 ∷ [] }
    ∷ []

-- none of these is taken
abbrev pub NothingLessIsTaken : Type 0
NothingLessIsTaken = map (is_taken four) proofless ≡ map (λ e. false) proofless
