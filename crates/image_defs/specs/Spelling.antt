-- The bytes of an image. A list is the number of its entries, four bytes, and the entries.
--   me1
--   left2, and for each rank1 value4 and the list of its commit claims
--   list of perceived pairs, rising, each view2 update2
--   list of accepted payloads, each length2 payload
--   lists of claims: signed, previous, heard; a claim is signer1 length2 statement length2 signature
--   conflicts1, and for each, by rising signers, two claims
--   of each view installed a list of what was delivered, each place2 sender1 number2 length2 payload; in an image of version 1 no place2
--   00, or 01 rank1 value4
--   00 or 01
use Rattle.std.specs.Prelude.{ℕ, Bool, if◌then◌else◌, List, [], ◌∷◌, ◌++◌, length}
use Rattle.std.specs.List.{flat_map}
use Rattle.byte_defs.specs.Fields.{two_bytes, four_bytes, text}
use Rattle.group_defs.specs.Below.{Update, update_numbers, Claim, spelling, value_bytes, ready_bytes}
use Rattle.group_defs.specs.Process.{Delivered}
use Rattle.image_defs.specs.Images.{LeftView, Image}

abbrev pub list_bytes : {A : Type 0} → (A → List ℕ) → List A → List ℕ
list_bytes spell xs = four_bytes (length xs) ++ flat_map spell xs

abbrev pub claim_bytes : Claim → List ℕ
claim_bytes c = c.signer ∷ (text (spelling c.statement) ++ text c.signature)

abbrev pub left_bytes : LeftView → List ℕ
left_bytes l = l.rank ∷ (value_bytes l.value ++ list_bytes claim_bytes l.commit)

abbrev pub perceived_bytes : ℕ × Update → List ℕ
perceived_bytes e = two_bytes e.0 ++ update_numbers e.1

abbrev pub conflict_bytes : Claim × Claim → List ℕ
conflict_bytes e = claim_bytes e.0 ++ claim_bytes e.1

abbrev pub delivered_bytes : Delivered → List ℕ
delivered_bytes d = two_bytes d.place ++ d.message.sender ∷ (two_bytes d.message.number ++ text d.payload)

-- as it is written, which is version 2
unfoldable pub image_bytes : Image → List ℕ
image_bytes i =
    i.me ∷ (two_bytes (length i.left) ++ (flat_map left_bytes i.left
    ++ (list_bytes perceived_bytes i.perceived ++ (list_bytes text i.accepted
    ++ (list_bytes claim_bytes i.signed ++ (list_bytes claim_bytes i.previous ++ (list_bytes claim_bytes i.heard
    ++ (length i.conflicts ∷ (flat_map conflict_bytes i.conflicts ++ (flat_map (list_bytes delivered_bytes) i.delivered
    ++ (ready_bytes i.decision ++ (if i.halted then 1 else 0) ∷ [])))))))))))
