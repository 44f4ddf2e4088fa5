-- The scheme of a group's signatures.
use Rattle.std.specs.Prelude.{ℕ, List, Bool}
use Rattle.signature_defs.specs.Plain.{plain_valid}
use Rattle.signature_defs.specs.Lms.{lms_valid}
use Rattle.signature_defs.specs.Hss.{hss_valid}

pub data Scheme : Type 0 where
  -- for rehearsals
  Plain : Scheme
  -- one tree
  Lms : Scheme
  -- trees in levels
  Hss : Scheme

-- the signature is valid by the scheme: key, body, signature
abbrev pub is_valid : Scheme → List ℕ → List ℕ → List ℕ → Bool
is_valid Plain = plain_valid
is_valid Lms = lms_valid
is_valid Hss = hss_valid
