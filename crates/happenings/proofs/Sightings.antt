-- What is seen of an outcome.
use Rattle.std.proofs.Common.{◌≡◌, ℕ, List, [], ◌∷◌, ◌++◌, map, refl, sym, ap, ◌∙◌}
use Rattle.std.specs.List.{flat_map}
use Rattle.std.proofs.lemmas.List.{map-append}
use Rattle.group_defs.specs.Sending as parcels
use Rattle.group_defs.specs.Events as group
use Rattle.trace_defs.specs.Outcomes as outcomes
use Rattle.member_events.specs.Below.{signed, OwnClaim}
use Rattle.member_events.specs.declared.events.Note.{Note}
use Rattle.member_events.specs.declared.events.Outcome.{Outcome}
use Rattle.member_events.specs.declared.events.Sending.{Sending}
use Rattle.member_state.specs.Events.{refusal, note, frame_to, frames_to, IsOutcome}
use Rattle.happenings.specs.declared.seen.Seen.{Seen}
use Rattle.happenings.specs.Reported.{seen, IsSeenOf, OutcomeIsSeen}

-- to whom the frames of a sending go
addressed_is : (out : parcels.Sending) (frames : List (List ℕ))
    → map (λ (bytes : List ℕ). out.to) frames ≡ map (λ (f : List ℕ × List ℕ). f.0) (map (λ bytes. (out.to, bytes)) frames)
addressed_is out [] = refl
addressed_is out (bytes ∷ frames) = ap (λ (all : List (List ℕ)). out.to ∷ all) (addressed_is out frames)

all_addressed : (outs : List parcels.Sending)
    → flat_map outcomes.addressed outs ≡ map (λ (f : List ℕ × List ℕ). f.0) (flat_map frames_to outs)
all_addressed [] = refl
all_addressed (out ∷ outs) =
    ap (λ (all : List (List ℕ)). outcomes.addressed out ++ all) (all_addressed outs)
    ∙ ap (λ (all : List (List ℕ)). all ++ map (λ (f : List ℕ × List ℕ). f.0) (flat_map frames_to outs))
    (addressed_is out (parcels.frames_of out.parcel))
    ∙ sym (map-append (λ (f : List ℕ × List ℕ). f.0) (frames_to out) (flat_map frames_to outs))

to_whom : (sends : List Sending) → map (λ (f : List ℕ × List ℕ). f.0) (map frame_to sends) ≡ map (λ out. out.to) sends
to_whom [] = refl
to_whom (out ∷ sends) = ap (λ (all : List (List ℕ)). out.to ∷ all) (to_whom sends)

pub outcome_is_seen : OutcomeIsSeen
outcome_is_seen o r s is of =
    let to : flat_map outcomes.addressed o.sends ≡ s.to.items =
    all_addressed o.sends ∙ ap (map (λ (f : List ℕ × List ℕ). f.0)) is.sends ∙ to_whom r.sends.items ∙ sym of.to in
    let verdict = is.verdict ∙ sym (ap refusal of.verdict) in
    let heard : o.heard ≡ s.heard = is.heard ∙ sym of.heard in
    let claims = is.signed_now ∙ sym (ap (λ xs. map signed xs.items) of.signed) in
    let spent = is.spent ∙ sym of.spent in
    let reported = is.reported ∙ sym (ap (λ xs. map note xs.items) of.notes) in
    λ i. record { verdict = verdict i; heard = heard i; signed = claims i; spent = spent i; sends = to i; notes = reported i }
