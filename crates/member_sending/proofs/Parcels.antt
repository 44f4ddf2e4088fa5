-- Frames to whom they go, by what is packed.
use Rattle.std.proofs.Common.{◌≡◌, ◌≢◌, ℕ, List, [], ◌∷◌, ◌++◌, map, refl, sym, ap, ◌∙◌, append_assoc}
use Rattle.std.specs.Prelude.{flat_map}
use Rattle.std.proofs.lemmas.List.{append-nil, map-append}
use Rattle.message_defs.specs.Statements.{Claim}
use Rattle.group_defs.specs.Sending.{Parcel, Bundle, Proof, Want, frames_of, sends_to, unless_empty}
use Rattle.member_events.specs.declared.events.Sending.{Sending}
use Rattle.member_taking.specs.States.{frame_to, frames_to}
use Rattle.member_sending.specs.Sends.{each_to}

-- a parcel to somebody
to-some : (parcel : Parcel) (q : ℕ) (qs : List ℕ) → each_to (q ∷ qs) (frames_of parcel) ≡ flat_map frames_to (sends_to (q ∷ qs) parcel)
to-some parcel q qs = sym (append-nil (each_to (q ∷ qs) (frames_of parcel)))

pub want-to : (x k : ℕ) (to : List ℕ) → to ≢ [] → each_to to (frames_of (Want x k)) ≡ flat_map frames_to (sends_to to (Want x k))
want-to x k [] some = absurd (some refl)
want-to x k (q ∷ qs) some = to-some (Want x k) q qs

pub bundle-to : (cs : List Claim) (to : List ℕ) → to ≢ []
    → each_to to (frames_of (Bundle cs)) ≡ flat_map frames_to (unless_empty cs Bundle to)
bundle-to cs [] some = absurd (some refl)
bundle-to [] (q ∷ qs) some = refl
bundle-to (c ∷ cs) (q ∷ qs) some = to-some (Bundle (c ∷ cs)) q qs

pub proof-to : (cs : List Claim) (q : ℕ) → each_to (q ∷ []) (frames_of (Proof cs)) ≡ flat_map frames_to (unless_empty cs Proof (q ∷ []))
proof-to [] q = refl
proof-to (c ∷ cs) q = to-some (Proof (c ∷ cs)) q []

-- where no Proof goes out, there are no claims
pub proof-none : (cs : List Claim) (q : ℕ) → unless_empty cs Proof (q ∷ []) ≡ [] → cs ≡ []
proof-none [] q e = refl
proof-none (c ∷ cs) q e = absurd cc

-- what goes out to nobody
pub sends-none : (to : List ℕ) (parcel : Parcel) → sends_to to parcel ≡ [] → to ≡ []
sends-none [] parcel e = refl
sends-none (q ∷ qs) parcel e = absurd cc

-- to nobody there are none
pub bundle-none : (cs : List Claim) (to : List ℕ) → to ≡ [] → flat_map frames_to (unless_empty cs Bundle to) ≡ []
bundle-none [] to e = refl
bundle-none (c ∷ cs) to e = ap (λ qs. flat_map frames_to (sends_to qs (Bundle (c ∷ cs)))) e

-- a frame is handed over: the others are left
pub handed-more : (to : List ℕ) (sends sends' : List Sending) (out : Sending) (frames frames' : List (List ℕ))
    (whole : List (List ℕ × List ℕ)) → out.to ≡ to → frames ≡ out.frame ∷ frames' → sends' ≡ sends ++ out ∷ []
    → map frame_to sends ++ each_to to frames ≡ whole → map frame_to sends' ++ each_to to frames' ≡ whole
handed-more to sends sends' out frames frames' whole addressed first pushed way =
    ap (λ ss. map frame_to ss ++ each_to to frames') pushed
    ∙ ap (λ es. es ++ each_to to frames') (map-append frame_to sends (out ∷ []))
    ∙ append_assoc (map frame_to sends) (frame_to out ∷ []) (each_to to frames')
    ∙ (λ i. map frame_to sends ++ (addressed i, out.frame) ∷ each_to to frames')
    ∙ ap (λ fs. map frame_to sends ++ each_to to fs) (sym first) ∙ way
