-- How long the frames of claims are.
use Rattle.std.proofs.Common.{◌≡◌, inl, inr, ℕ, ◌+◌, ◌≤◌, List, [], ◌∷◌, ◌++◌, length, map, Bool, true, false, refl, subst, arith}
use Rattle.std.specs.Prelude.{if◌then◌else◌, nat_le}
use Rattle.std.proofs.lemmas.Bool.{leb-true}
use Rattle.std.proofs.lemmas.List.{length-append}
use Rattle.byte_defs.specs.Fields.{two_bytes, text}
use Rattle.message_defs.specs.Limits.{most_frame_bytes}
use Rattle.message_defs.specs.Statements.{Claim}
use Rattle.message_defs.specs.Spelling.{IsClaim}
use Rattle.message_defs.specs.Frames as frames
use Rattle.message_defs.specs.Frames.{Group, frame_bytes, group_bytes}
use Rattle.message_defs.specs.Packing.{Signed, signed_of, add, fits, group_of, pack_from, pack}
use Rattle.group_defs.specs.Sending.{Parcel, Bundle, Proof, Want, frames_of}
use Rattle.pool_laws.proofs.Members.{Mem, map-mem}
use Rattle.pool_laws.proofs.Tests.{and-second}
use Rattle.evidence_laws.proofs.Evidence.{statements_are_short}

-- of a statement that may be said, and a signature in range
abbrev IsSmall : Signed → Type 0
IsSmall c = length c.statement + length c.signature ≤ 17416

is-small : (c : Claim) → IsClaim c → IsSmall (signed_of c)
is-small c is = let short = statements_are_short c.statement is.1 in let signed = is.2 in omega (arith, short, signed)

text-length : (t : List ℕ) → length (text t) ≡ 2 + length t
text-length t = length-append (two_bytes (length t)) t

-- a claim in a frame of its own
alone-length : (c : Signed) → length (frame_bytes (frames.Bundle (group_of c ∷ []))) ≡ 9 + (length c.statement + length c.signature)
alone-length c =
    let whole = length-append (group_bytes (group_of c)) [] in
    let parts = length-append (text c.statement) (1 ∷ ((c.signer ∷ text c.signature) ++ [])) in
    let last = length-append (c.signer ∷ text c.signature) [] in
    omega (arith, whole, parts, last, text-length c.statement, text-length c.signature)

abbrev IsShort : List Group → Type 0
IsShort gs = length (frame_bytes (frames.Bundle gs)) ≤ most_frame_bytes

alone-short : (c : Signed) → IsSmall c → IsShort (group_of c ∷ [])
alone-short c small = let long = alone-length c in omega (arith, long, small)

packed-short : (gs : List Group) (cs : List Signed) → IsShort gs → ((c : Signed) → Mem c cs → IsSmall c) → (hs : List Group)
    → Mem hs (pack_from gs cs) → IsShort hs
packed-short gs [] short each hs (inl same) = subst IsShort same short
packed-short gs [] short each hs (inr none) = absurd none
packed-short gs (c ∷ cs) short each hs m = go (fits most_frame_bytes (add gs c)) refl m
    (λ short'. packed-short (add gs c) cs short' (λ d n. each d (inr n)) hs)
    (packed-short (group_of c ∷ []) cs (alone-short c (each c (inl refl))) (λ d n. each d (inr n)) hs)
  where
    go : (b : Bool) → fits most_frame_bytes (add gs c) ≡ b
        → Mem hs (if b then pack_from (add gs c) cs else gs ∷ pack_from (group_of c ∷ []) cs)
        → (IsShort (add gs c) → Mem hs (pack_from (add gs c) cs) → IsShort hs) → (Mem hs (pack_from (group_of c ∷ []) cs) → IsShort hs)
        → IsShort hs
    go true e m joins new = joins (leb-true (length (frame_bytes (frames.Bundle (add gs c)))) most_frame_bytes
        (and-second (nat_le (length (add gs c)) 255) (nat_le (length (frame_bytes (frames.Bundle (add gs c)))) most_frame_bytes) e)) m
    go false e (inl same) joins new = subst IsShort same short
    go false e (inr m) joins new = new m

pack-short : (claims : List Claim) → ((c : Claim) → Mem c claims → IsClaim c) → (gs : List Group) → Mem gs (pack claims) → IsShort gs
pack-short [] each gs none = absurd none
pack-short (c ∷ cs) each gs m = packed-short (group_of (signed_of c) ∷ []) (map signed_of cs)
    (alone-short (signed_of c) (is-small c (each c (inl refl)))) small gs m
  where
    small : (d : Signed) → Mem d (map signed_of cs) → IsSmall d
    small d there = let of' = map-mem signed_of cs d there in subst IsSmall of'.2 (is-small of'.0 (each of'.0 (inr of'.1)))

-- a Want, and frames of claims that are in range, have at most 61,000 bytes
abbrev pub FramesFit : Parcel → Type 0
FramesFit parcel = (frame : List ℕ) → Mem frame (frames_of parcel) → length frame ≤ most_frame_bytes

pub bundle-fits : (claims : List Claim) → ((c : Claim) → Mem c claims → IsClaim c) → FramesFit (Bundle claims)
bundle-fits claims each frame m =
    let from = map-mem (λ gs. frame_bytes (frames.Bundle gs)) (pack claims) frame m in
    let P : List ℕ → Type 0 = λ f. length f ≤ most_frame_bytes in subst P from.2 (pack-short claims each from.0 from.1)

pub proof-fits : (claims : List Claim) → ((c : Claim) → Mem c claims → IsClaim c) → FramesFit (Proof claims)
proof-fits claims each frame m =
    let from = map-mem (λ gs. frame_bytes (frames.Proof gs)) (pack claims) frame m in
    let P : List ℕ → Type 0 = λ f. length f ≤ most_frame_bytes in subst P from.2 (pack-short claims each from.0 from.1)

want-short : (x k : ℕ) → length (frame_bytes (frames.Want x k)) ≤ most_frame_bytes
want-short x k = omega (arith, length-append (two_bytes x) (two_bytes k))

pub want-fits : (x k : ℕ) → FramesFit (Want x k)
want-fits x k frame (inl same) = let P : List ℕ → Type 0 = λ f. length f ≤ most_frame_bytes in subst P same (want-short x k)
want-fits x k frame (inr none) = absurd none
