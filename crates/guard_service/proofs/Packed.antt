-- Two claims that a frame can carry fit into one.
use Rattle.std.proofs.Common.{◌≡◌, ◌≢◌, ℕ, ◌+◌, ◌≤◌, Bool, true, false, List, [], ◌∷◌, ◌++◌, length, map, None, refl, sym, ap, ◌∙◌, subst, arith, length-append}
use Rattle.std.specs.Prelude.{◌&&◌, if◌then◌else◌}
use Rattle.std.proofs.lemmas.Bool.{le-leb}
use Rattle.byte_defs.specs.Fields.{text, two_bytes}
use Rattle.message_defs.specs.Frames.{Group, frame_bytes, group_bytes, signature_bytes}
use Rattle.message_defs.specs.Frames as frames
use Rattle.message_defs.specs.Packing.{Signed, add, fits, group_of, joins, pack_from, signed_of, with_signature}
use Rattle.message_defs.specs.Spelling.{IsClaim}
use Rattle.message_defs.specs.Statements.{Claim}
use Rattle.group_defs.specs.Sending.{Bundle, frames_of}
use Rattle.frame_codec.specs.Drafts.{Draft, drafted}
use Rattle.length_laws.proofs.Spelled.{statements_are_short}
use Rattle.pool_laws.proofs.Tests.{both-true}
use Rattle.guard_service.specs.Accusing.{Packs}
use Rattle.guard_service.specs.Ranges.{claim_fits}
use Rattle.guard_service.proofs.Carried.{claim-passes, is-claim}

-- ---- lengths

-- a claim takes no more than these bytes, which are its own
pub record IsSmall (c : Signed) : Type 0 where
  pub statement : length c.statement ≤ 1032
  pub signature : length c.signature ≤ 16384

small : (c : Claim) → IsClaim c → IsSmall (signed_of c)
small c is = record { statement = statements_are_short c.statement is.1; signature = is.2 }

length-text : (t : List ℕ) → length (text t) ≡ 2 + length t
length-text t = length-append (two_bytes (length t)) t

length-one : (c : Signed) → length (group_bytes (group_of c)) ≡ 6 + length c.statement + length c.signature
length-one c =
    length-append (text c.statement) (1 ∷ signature_bytes (c.signer, c.signature) ++ [])
    ∙ omega (arith, length-text c.statement, length-append (signature_bytes (c.signer, c.signature)) [], length-text c.signature)

length-joined : (a b : Signed) → length (group_bytes (with_signature (group_of a) b))
    ≡ 9 + length a.statement + length a.signature + length b.signature
length-joined a b =
    length-append (text a.statement) (2 ∷ signature_bytes (a.signer, a.signature) ++ (signature_bytes (b.signer, b.signature) ++ []))
    ∙ omega (
      arith,
      length-text a.statement,
      length-append (signature_bytes (a.signer, a.signature)) (signature_bytes (b.signer, b.signature) ++ []),
      length-append (signature_bytes (b.signer, b.signature)) [],
      length-text a.signature,
      length-text b.signature,
    )

-- ---- in one frame

first-fits : (room : ℕ) (a : Signed) → 61000 ≤ room → IsSmall a → fits room (add [] a) ≡ true
first-fits room a wide is = le-leb (length (frame_bytes (frames.Bundle (group_of a ∷ [])))) room
    (omega (arith, wide, is.statement, is.signature, length-append (group_bytes (group_of a)) [], length-one a))

second-fits : (room : ℕ) (a b : Signed) → 61000 ≤ room → IsSmall a → IsSmall b → fits room (add (group_of a ∷ []) b) ≡ true
second-fits room a b wide first second = go (joins (group_of a) b)
  where
    go : (t : Bool) → fits room (if t then with_signature (group_of a) b ∷ [] else group_of a ∷ group_of b ∷ []) ≡ true
    go true = le-leb (length (frame_bytes (frames.Bundle (with_signature (group_of a) b ∷ [])))) room
        (omega (
          arith,
          wide,
          first.statement,
          first.signature,
          second.signature,
          length-append (group_bytes (with_signature (group_of a) b)) [],
          length-joined a b,
        ))
    go false = le-leb (length (frame_bytes (frames.Bundle (group_of a ∷ group_of b ∷ [])))) room
        (omega (
          arith,
          wide,
          first.statement,
          first.signature,
          second.statement,
          second.signature,
          length-append (group_bytes (group_of a)) (group_bytes (group_of b) ++ []),
          length-append (group_bytes (group_of b)) [],
          length-one a,
          length-one b,
        ))

some-group : (a b : Signed) → add (group_of a ∷ []) b ≢ []
some-group a b = go (joins (group_of a) b)
  where
    go : (t : Bool) → (if t then with_signature (group_of a) b ∷ [] else group_of a ∷ group_of b ∷ []) ≢ []
    go true = λ e. cc
    go false = λ e. cc

-- ---- while it is written

abbrev empty : Draft
empty = record { kind = 1; room = 61000; groups = [] }

module _ (a b : Claim) (w : Draft) (began : w ≡ record { kind = 1; room = 61000; groups = [] }) (is-a : IsClaim a) where
  pub room-for-first : fits w.room (add w.groups (signed_of a)) ≡ true
  room-for-first = subst (λ (d : Draft). fits d.room (add d.groups (signed_of a)) ≡ true) (sym began)
      (first-fits 61000 (signed_of a) (omega arith) (small a is-a))

  module _ (v : Draft) (one : v ≡ record w { groups = add w.groups (signed_of a) }) (is-b : IsClaim b) where
    holds-first : v ≡ record { kind = 1; room = 61000; groups = group_of (signed_of a) ∷ [] }
    holds-first = one ∙ ap (λ (d : Draft). record d { groups = add d.groups (signed_of a) }) began

    pub room-for-second : fits v.room (add v.groups (signed_of b)) ≡ true
    room-for-second = subst (λ (d : Draft). fits d.room (add d.groups (signed_of b)) ≡ true) (sym holds-first)
        (second-fits 61000 (signed_of a) (signed_of b) (omega arith) (small a is-a) (small b is-b))

    module _ (u : Draft) (two : u ≡ record v { groups = add v.groups (signed_of b) }) where
      holds-both : u ≡ record { kind = 1; room = 61000; groups = add (group_of (signed_of a) ∷ []) (signed_of b) }
      holds-both = two ∙ ap (λ (d : Draft). record d { groups = add d.groups (signed_of b) }) holds-first

      pub has-groups : u.groups ≢ []
      has-groups = subst (λ (d : Draft). d.groups ≢ []) (sym holds-both) (some-group (signed_of a) (signed_of b))

      pub packed : (bytes : List ℕ) → bytes ≡ frame_bytes (drafted u) → frames_of (Bundle (a ∷ b ∷ [])) ≡ bytes ∷ []
      packed bytes is =
          ap (λ (t : Bool). map (λ gs. frame_bytes (frames.Bundle gs)) (if t
          then pack_from (add (group_of (signed_of a) ∷ []) (signed_of b)) []
          else (group_of (signed_of a) ∷ []) ∷ pack_from (group_of (signed_of b) ∷ []) []))
          (second-fits 61000 (signed_of a) (signed_of b) (omega arith) (small a is-a) (small b is-b))
          ∙ ap (λ (f : List ℕ). f ∷ []) (sym (is ∙ ap (λ (d : Draft). frame_bytes (drafted d)) holds-both))

-- ---- where it can't be

pub both-claims : (a b : Claim) → (claim_fits a && claim_fits b) ≡ true → IsClaim a × IsClaim b
both-claims a b e = go (claim_fits a) refl (claim_fits b) refl e
  where
    go : (s : Bool) → claim_fits a ≡ s → (t : Bool) → claim_fits b ≡ t → (s && t) ≡ true → IsClaim a × IsClaim b
    go true at true bt e = (is-claim a at, is-claim b bt)
    go true at false bt e = absurd cc
    go false at t bt e = absurd cc

pub not-packed : (a b : Claim) → (claim_fits a && claim_fits b) ≡ false → Packs a b None
not-packed a b e = λ both. absurd
    (let yes' = both-true (claim_fits a) (claim_fits b) (claim-passes a both.0) (claim-passes b both.1) in cc)
