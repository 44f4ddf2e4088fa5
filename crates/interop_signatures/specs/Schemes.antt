-- The schemes whose signatures are asked about.
use Rattle.std.specs.Prelude.{ℕ, Bool, List, codes}
use Rattle.signature_defs.specs.Lms.{lms_valid}
use Rattle.signature_defs.specs.Hss.{hss_valid}
use Rattle.interop_signatures.specs.declared.verifying.Scheme.{Scheme}
use Rattle.interop_signatures.specs.declared.verifying.Scheme.TheVariants.{Lms, Hss}

-- the word of a scheme
abbrev pub scheme_word : Scheme → List ℕ
scheme_word Lms = codes "lms"
scheme_word Hss = codes "hss"

-- this is a signature of the scheme under the key on the body
abbrev pub is_valid : Scheme → List ℕ → List ℕ → List ℕ → Bool
is_valid Lms key body sig = lms_valid key body sig
is_valid Hss key body sig = hss_valid key body sig
