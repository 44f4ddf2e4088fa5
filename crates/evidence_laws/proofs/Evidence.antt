-- The frame of two claims is read as them, and so it convicts.
use Rattle.std.proofs.Common.{◌≡◌, ℕ, ◌+◌, List, [], ◌∷◌, ◌++◌, length, Bool, refl, sym, ap, ◌∙◌, subst, arith}
use Rattle.std.specs.Prelude.{Contains, Result, Ok}
use Rattle.std.proofs.lemmas.Bool.{le-ltb}
use Rattle.std.proofs.lemmas.List.{length-append}
use Rattle.byte_defs.specs.Fields.{◌>>=◌, refuse_if, text}
use Rattle.message_defs.specs.declared.FrameFault.{FrameFault}
use Rattle.message_defs.specs.declared.FrameFault.TheVariants.{Range}
use Rattle.message_defs.specs.Statements.{Statement, Claim}
use Rattle.message_defs.specs.Spelling.{IsClaim, IsStatement, spelling}
use Rattle.message_defs.specs.Reading.{statement_in, statement_of}
use Rattle.message_defs.specs.Frames.{Group, Bundle, IsGroup, IsFrame, signature_bytes, group_bytes}
use Rattle.message_defs.specs.Packing.{signed_of, group_of}
use Rattle.message_defs.specs.Claims.{Frame, Claims, in_bundle, claims_on, claims_of_group, claims_of_groups, claims_of, said, said_by, frame_said}
use Rattle.frame_codec.proofs.Grammar.{frame_again}
use Rattle.statements.proofs.Grammar.{spelling_again}
use Rattle.pool_laws.proofs.Members.{mem-Contains}
use Rattle.std.proofs.Common.{inl, inr}
use Rattle.audit_defs.specs.Evidence.{convicted_by, pair_frame}
use Rattle.audit_defs.specs.Laws.{EvidenceConvicts}
use Rattle.conviction_laws.proofs.Convicted.{convicted_is_convicts}
pub use Rattle.length_laws.proofs.Spelled.{statements_are_short}

abbrev group : Claim → Group
group c = group_of (signed_of c)

group-length : (c : Claim) → length (group_bytes (group c)) ≡ length (spelling c.statement) + length c.signature + 6
group-length c =
    let signature : ℕ × List ℕ = (c.signer, c.signature) in
    let whole = length-append (text (spelling c.statement)) (1 ∷ (signature_bytes signature ++ [])) in
    let behind = length-append (signature_bytes signature) [] in
    omega (arith, whole, behind)

group-is : (c : Claim) → IsClaim c → IsGroup (group c)
group-is c is = record {
  statement = let short = statements_are_short c.statement is.1 in omega (arith, short);
  some = omega arith;
  few = omega arith;
  signatures = (omega arith, (let few = is.0 in omega (arith, few)), is.2, tt);
}

frame-is : (a b : Claim) → IsClaim a → IsClaim b → IsFrame (Bundle (group a ∷ group b ∷ []))
frame-is a b is is' = record {
  parts = record { some = omega arith; few = omega arith; each = (group-is a is, (group-is b is', tt)) };
  size =
      let one = group-length a in
      let two = group-length b in
      let short = statements_are_short a.statement is.1 in
      let short' = statements_are_short b.statement is'.1 in
      let sig = is.2 in
      let sig' = is'.2 in
      let whole = length-append (group_bytes (group a)) (group_bytes (group b) ++ []) in
      let behind = length-append (group_bytes (group b)) [] in
      omega (arith, one, two, short, short', sig, sig', whole, behind);
}

again : (st : Statement) → IsStatement st → statement_in in_bundle (spelling st) ≡ Ok st
unfolding statement_of
again st is = spelling_again st is

group-said : (c : Claim) → IsClaim c → claims_of_group in_bundle (group c) ≡ Ok (c ∷ [])
unfolding claims_of_group claims_on
group-said c is =
    ap (λ (r : Result Statement FrameFault). r >>= λ st. claims_on st ((c.signer, c.signature) ∷ [])) (again c.statement is.1)
    ∙ ap (λ (b : Bool). refuse_if b Range >>= λ u. Ok (c ∷ [])) (le-ltb 63 c.signer is.0)

pub pair-said : (a b : Claim) → IsClaim a → IsClaim b → frame_said (pair_frame a b) ≡ Claims (a ∷ b ∷ [])
unfolding frame_said claims_of claims_of_groups
pair-said a b is is' =
    ap said_by (frame_again (Bundle (group a ∷ group b ∷ [])) (frame-is a b is is'))
    ∙ ap (λ (r : Result (List Claim) FrameFault). said (Bundle (group a ∷ group b ∷ []))
    (r >>= λ first. (claims_of_group in_bundle (group b) >>= λ second. Ok (second ++ [])) >>= λ others. Ok (first ++ others))) (group-said a is)
    ∙ ap (λ (r : Result (List Claim) FrameFault). said (Bundle (group a ∷ group b ∷ []))
    ((r >>= λ second. Ok (second ++ [])) >>= λ others. Ok (a ∷ others))) (group-said b is')

pub evidence_convicts : EvidenceConvicts
evidence_convicts s first second is is' valid valid' conflict =
    subst (λ (f : Frame). Contains (convicted_by s f) first.signer) (sym (pair-said first second is is'))
    ((convicted_is_convicts s (first ∷ second ∷ []) first.signer).1 (record {
      one = first;
      other = second;
      one_of = mem-Contains (first ∷ second ∷ []) first (inl refl);
      other_of = mem-Contains (first ∷ second ∷ []) second (inr (inl refl));
      signer = refl;
      one_valid = valid;
      other_valid = valid';
      conflict = conflict;
    }))
