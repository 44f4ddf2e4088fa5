-- A frame of one claim is within its room.
use Rattle.std.proofs.Common.{◌≡◌, ℕ, ◌+◌, ◌≤◌, true, List, [], ◌∷◌, ◌++◌, length, ◌∙◌, arith, length-append}
use Rattle.std.proofs.lemmas.Bool.{le-leb}
use Rattle.byte_defs.specs.Fields.{text, two_bytes}
use Rattle.message_defs.specs.Frames.{Bundle, frame_bytes, signature_bytes, group_bytes}
use Rattle.message_defs.specs.Packing.{Signed, group_of, fits, add}

length_text : (t : List ℕ) → length (text t) ≡ 2 + length t
length_text t = length-append (two_bytes (length t)) t

length_one : (c : Signed) → length (group_bytes (group_of c)) ≡ 6 + length c.statement + length c.signature
length_one c =
    length-append (text c.statement) (1 ∷ signature_bytes (c.signer, c.signature) ++ [])
    ∙ omega (arith, length_text c.statement, length-append (signature_bytes (c.signer, c.signature)) [], length_text c.signature)

-- it takes nine bytes beside the statement and the signature
length_bundle : (c : Signed) → length (frame_bytes (Bundle (group_of c ∷ []))) ≡ 9 + length c.statement + length c.signature
length_bundle c = omega (arith, length-append (group_bytes (group_of c)) [], length_one c)

pub one_fits : (room : ℕ) (c : Signed) → 9 + length c.statement + length c.signature ≤ room → fits room (add [] c) ≡ true
one_fits room c small = le-leb (length (frame_bytes (Bundle (group_of c ∷ [])))) room (omega (arith, length_bundle c))
