-- What the bytes of a frame say, by the frame that is read and by its claims.
use Rattle.std.proofs.Common.{◌≡◌, ℕ, List, Result, Ok, Err, refl, ap, ◌∙◌}
use Rattle.message_defs.specs.declared.FrameFault.{FrameFault}
use Rattle.message_defs.specs.Statements.{Claim}
use Rattle.message_defs.specs.Frames.{FrameView, Bundle, Proof, Want, frame_of}
use Rattle.message_defs.specs.Claims.{claims_of, Claims, Wants, Faulty, said, said_by, frame_said}
use Rattle.frame_codec.specs.declared.groups.FrameView as code
use Rattle.frame_codec.specs.declared.groups.FrameView.TheVariants as codes
use Rattle.frame_codec.specs.Views.{groups_left, frame_view}

-- bytes that are no frame are faulty
pub said-fault : (bytes : List ℕ) (fault : FrameFault) → frame_of bytes ≡ Err fault → frame_said bytes ≡ Faulty fault
unfolding frame_said
said-fault bytes fault e = ap said_by e

-- and so is a frame whose claims are
pub said-claims-fault : (bytes : List ℕ) (f : FrameView) (fault : FrameFault) → frame_of bytes ≡ Ok f → claims_of f ≡ Err fault
    → frame_said bytes ≡ Faulty fault
unfolding frame_said
said-claims-fault bytes f fault e claims = ap said_by e ∙ go f (claims_of f) claims
  where
    go : (f : FrameView) (r : Result (List Claim) FrameFault) → r ≡ Err fault → said f r ≡ Faulty fault
    go (Bundle gs) r e = ap (said (Bundle gs)) e
    go (Proof gs) r e = ap (said (Proof gs)) e
    go (Want x k) r e = ap (said (Want x k)) e

-- a Want says its view and its place
pub said-want : (bytes : List ℕ) (x k : ℕ) (cs : List Claim) → frame_of bytes ≡ Ok (Want x k) → claims_of (Want x k) ≡ Ok cs
    → frame_said bytes ≡ Wants x k
unfolding frame_said
said-want bytes x k cs e claims = ap said_by e ∙ ap (said (Want x k)) claims

-- another frame says its claims
pub said-claims : (bytes : List ℕ) (f : code.FrameView) (cs : List Claim) → ((x k : ℕ) → f ≡ codes.Want x k → ⊥)
    → frame_of bytes ≡ Ok (frame_view f) → claims_of (frame_view f) ≡ Ok cs → frame_said bytes ≡ Claims cs
unfolding frame_said
said-claims bytes (codes.Bundle gs) cs not' e claims = ap said_by e ∙ ap (said (Bundle (groups_left gs))) claims
said-claims bytes (codes.Proof gs) cs not' e claims = ap said_by e ∙ ap (said (Proof (groups_left gs))) claims
said-claims bytes (codes.Want x k) cs not' e claims = absurd (not' x k refl)
