-- The claims of bytes.
-- Names here (* for this crate alone):
--   in_bundle, in_proof, claims_on, claims_of_group, claims_of_groups, want_claims, claims_of
--   what bytes say that are handed over as a frame: Frame, said, said_by, frame_said
use Rattle.std.specs.Prelude.{ℕ, Bool, true, ◌||◌, not, nat_lt, nat_le, ◌==◌, List, [], ◌∷◌, ◌++◌, Result, Ok, Err}
use Rattle.byte_defs.specs.Fields.{◌>>=◌, refuse_if}
use Rattle.message_defs.specs.Limits.{last_process, last_number, most_places}
use Rattle.message_defs.specs.declared.FrameFault.{FrameFault}
use Rattle.message_defs.specs.declared.FrameFault.TheVariants.{Range}
use Rattle.message_defs.specs.Statements.{Statement, Claim}
use Rattle.message_defs.specs.Reading.{statement_in}
use Rattle.message_defs.specs.Frames.{Group, FrameView, Bundle, Proof, Want, frame_of}

-- a Bundle carries every kind
abbrev pub in_bundle : ℕ → Bool
in_bundle kind = true

-- a Proof carries what makes certificates: Echo, Place, Keep and Ready, a Place and a Keep of several messages too
abbrev pub in_proof : ℕ → Bool
in_proof kind = (kind == 2) || (kind == 4) || (kind == 5) || (kind == 11) || (kind == 13) || (kind == 14)

-- the claims of a group: its statement, once for each signer; a signer above 63 is refused
unfoldable pub claims_on : Statement → List (ℕ × List ℕ) → Result (List Claim) FrameFault
claims_on st [] = Ok []
claims_on st (s ∷ more) = do
  _ ← refuse_if (nat_lt last_process s.0) Range
  others ← claims_on st more
  Ok (record { signer = s.0; statement = st; signature = s.1 } ∷ others)

-- the claims of a group, whose statement is of a kind that the frame carries
unfoldable pub claims_of_group : (ℕ → Bool) → Group → Result (List Claim) FrameFault
claims_of_group carries g = do
  st ← statement_in carries g.statement
  claims_on st g.signatures

-- the claims of the groups in order, or the first fault
unfoldable pub claims_of_groups : (ℕ → Bool) → List Group → Result (List Claim) FrameFault
claims_of_groups carries [] = Ok []
claims_of_groups carries (g ∷ gs) = do
  first ← claims_of_group carries g
  others ← claims_of_groups carries gs
  Ok (first ++ others)

-- of a Want: none, where its fields are in range
abbrev pub want_claims : ℕ → ℕ → Result (List Claim) FrameFault
want_claims x k = refuse_if (not (nat_le x last_number)) Range >>= λ _. refuse_if (not (nat_le k most_places)) Range >>= λ _. Ok []

-- the claims of a frame, or the first fault of its groups or its Want
unfoldable pub claims_of : FrameView → Result (List Claim) FrameFault
claims_of (Bundle gs) = claims_of_groups in_bundle gs
claims_of (Proof gs) = claims_of_groups in_proof gs
claims_of (Want x k) = want_claims x k

-- ---- what bytes say that are handed over as a frame

pub data Frame : Type 0 where
  Claims : (claims : List Claim) → Frame
  Wants : (view place : ℕ) → Frame
  Faulty : (fault : FrameFault) → Frame

-- what a frame says whose claims were read so
abbrev pub said : FrameView → Result (List Claim) FrameFault → Frame
said f (Err fault) = Faulty fault
said (Want x k) (Ok cs) = Wants x k
said (Bundle gs) (Ok cs) = Claims cs
said (Proof gs) (Ok cs) = Claims cs

-- what bytes say whose frame was read so
abbrev pub said_by : Result FrameView FrameFault → Frame
said_by (Err fault) = Faulty fault
said_by (Ok f) = said f (claims_of f)

-- what the bytes say: claims, a Want, or the first fault, which refuses them whole
unfoldable pub frame_said : List ℕ → Frame
frame_said bytes = said_by (frame_of bytes)
