-- How a list of claims is packed into frames: claim by claim, into the last group where it can join, as a group of its
-- own where it can't, and into a new frame where the frame would pass 61,000 bytes or 255 groups.
use Rattle.std.specs.Prelude.{ℕ, Bool, ◌&&◌, nat_lt, nat_le, List, [], ◌∷◌, ◌++◌, length, map, if◌then◌else◌, None}
use Rattle.std.specs.List.{last_or}
use Rattle.byte_defs.specs.Choices.{is_some_and}
use Rattle.byte_defs.specs.Equality.{same_bytes}
use Rattle.message_defs.specs.Limits.{most_members, most_frame_bytes}
use Rattle.message_defs.specs.Statements.{Claim}
use Rattle.message_defs.specs.Spelling.{spelling}
use Rattle.message_defs.specs.Frames.{Group, Bundle, frame_bytes}

-- a claim as it is in a frame
pub record Signed : Type 0 where
  pub statement : List ℕ
  pub signer : ℕ
  pub signature : List ℕ

-- the claim of these parts
abbrev pub signed : List ℕ → ℕ → List ℕ → Signed
signed statement signer signature = record { statement = statement; signer = signer; signature = signature }

-- the claim, with its statement spelled
abbrev pub signed_of : Claim → Signed
signed_of c = signed (spelling c.statement) c.signer c.signature

-- the claim joins the group: statement equal, signer above the last one, room for one more
abbrev pub joins : Group → Signed → Bool
joins g c =
    same_bytes g.statement c.statement && nat_lt (length g.signatures) most_members
    && is_some_and (last_or None (map (λ s. s.0) g.signatures)) (λ signer. nat_lt signer c.signer)

-- the group, with the signer and the signature of the claim after those that it has
abbrev pub with_signature : Group → Signed → Group
with_signature g c = record g { signatures = g.signatures ++ (c.signer, c.signature) ∷ [] }

-- the group of this claim alone
abbrev pub group_of : Signed → Group
group_of c = record { statement = c.statement; signatures = (c.signer, c.signature) ∷ [] }

-- into the last group, or as a group of its own
abbrev pub add : List Group → Signed → List Group
add [] c = group_of c ∷ []
add (g ∷ []) c = if joins g c then with_signature g c ∷ [] else g ∷ group_of c ∷ []
add (g ∷ h ∷ gs) c = g ∷ add (h ∷ gs) c

-- at most 255 groups, and at most `room` bytes: a Proof has as many as a Bundle
abbrev pub fits : ℕ → List Group → Bool
fits room gs = nat_le (length gs) 255 && nat_le (length (frame_bytes (Bundle gs))) room

-- the frames, where the current one has these groups so far and these claims come next
abbrev pub pack_from : List Group → List Signed → List (List Group)
pack_from gs [] = gs ∷ []
pack_from gs (c ∷ cs) = if fits most_frame_bytes (add gs c) then pack_from (add gs c) cs else gs ∷ pack_from (group_of c ∷ []) cs

-- the frames of a list of claims, each a list of groups; of none, none
abbrev pub pack : List Claim → List (List Group)
pack [] = []
pack (c ∷ cs) = pack_from (group_of (signed_of c) ∷ []) (map signed_of cs)
