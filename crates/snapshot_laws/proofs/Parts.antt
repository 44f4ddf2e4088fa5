-- The three parts in which an image is read.
use Rattle.std.proofs.Common.{◌≡◌, ℕ, ◌≤◌, Bool, List, ◌∷◌, ◌++◌, length}
use Rattle.std.specs.List.{flat_map}
use Rattle.byte_defs.specs.Fields.{text}
use Rattle.message_defs.specs.Updates.{Update}
use Rattle.message_defs.specs.Statements.{Claim}
use Rattle.message_defs.specs.Spelling.{ready_bytes}
use Rattle.group_defs.specs.Process.{Delivered}
use Rattle.image_defs.specs.Images.{LeftView}
use Rattle.image_defs.specs.Spelling.{list_bytes, claim_bytes, perceived_bytes}
use Rattle.snapshot_defs.specs.declared.Version.{Version}
use Rattle.snapshot_defs.specs.Steps.{Step, ◌&◌, times_at, list_at, text_to}
use Rattle.snapshot_defs.specs.Reading.{process_at, all_left_at, all_perceived_at, claims_at, all_conflicts_at, view_at, decision_at, halted_at, reported_at, claimed_at, settled_at}
use Rattle.snapshot_defs.specs.Spelling.{message_of_bytes}
use Rattle.snapshot_defs.specs.Ranges.{EachFrom, IsListOf, AreClaims, IsPayload, IsDeliveredAt, IsDecision}
use Rattle.snapshot_laws.proofs.Fields.{IsField, and_is}
use Rattle.snapshot_laws.proofs.Lists.{times_is}
use Rattle.snapshot_laws.proofs.Claims.{process_is, claims_are}
use Rattle.snapshot_laws.proofs.Values.{all_left_are, all_perceived_are, all_conflicts_are, payloads_are, all_left, all_conflicts, AreLeftViews, ArePerceived, AreConflicts}
use Rattle.snapshot_laws.proofs.Messages.{view_is, decision_is, halted_is, Decision, flag_bytes, IsAny}

abbrev pub payloads_at : List ℕ → Step (List (List ℕ))
payloads_at bytes = list_at (λ k. text_to 1024) bytes

abbrev pub Reported : Type 0
Reported = ℕ × (List LeftView × (List (ℕ × Update) × List (List ℕ)))

abbrev pub reported_text : Reported → List ℕ
reported_text t = t.0 ∷ (all_left t.1.0 ++ (list_bytes perceived_bytes t.1.1.0 ++ list_bytes text t.1.1.1))

abbrev pub IsReported : Reported → Type 0
IsReported t = (t.0 ≤ 63) × (AreLeftViews t.1.0 × (ArePerceived t.1.1.0 × IsListOf (λ k payload. IsPayload payload) t.1.1.1))

pub reported_is : IsField reported_at reported_text IsReported
unfolding reported_at
reported_is = and_is process_at (all_left_at & all_perceived_at & payloads_at) process_is
    (and_is all_left_at (all_perceived_at & payloads_at) all_left_are (and_is all_perceived_at payloads_at all_perceived_are payloads_are))

abbrev pub Claimed : Type 0
Claimed = List Claim × (List Claim × (List Claim × List (Claim × Claim)))

abbrev pub claimed_text : Claimed → List ℕ
claimed_text c = list_bytes claim_bytes c.0 ++ (list_bytes claim_bytes c.1.0 ++ (list_bytes claim_bytes c.1.1.0 ++ all_conflicts c.1.1.1))

abbrev pub IsClaimed : Claimed → Type 0
IsClaimed c = AreClaims c.0 × (AreClaims c.1.0 × (AreClaims c.1.1.0 × AreConflicts c.1.1.1))

pub claimed_is : IsField claimed_at claimed_text IsClaimed
unfolding claimed_at
claimed_is = and_is claims_at (claims_at & claims_at & all_conflicts_at) claims_are
    (and_is claims_at (claims_at & all_conflicts_at) claims_are (and_is claims_at all_conflicts_at claims_are all_conflicts_are))

abbrev pub Settled : Type 0
Settled = List (List Delivered) × (Decision × Bool)

module _ (v : Version) where
  abbrev pub IsView : ℕ → List Delivered → Type 0
  IsView k ds = IsListOf (IsDeliveredAt v) ds

  abbrev pub settled_text : Settled → List ℕ
  settled_text s = flat_map (list_bytes (message_of_bytes v)) s.0 ++ (ready_bytes s.1.0 ++ flag_bytes s.1.1)

  abbrev pub IsSettled : ℕ → Settled → Type 0
  IsSettled views s = ((length s.0 ≡ views) × EachFrom IsView 0 s.0) × (IsDecision s.1.0 × IsAny s.1.1)

  pub settled_is : (views : ℕ) → IsField (settled_at v views) settled_text (IsSettled views)
  unfolding settled_at
  settled_is views =
      and_is (times_at (λ k. view_at v) 0 views) (decision_at & halted_at) (times_is (λ k. view_at v) (λ k. view_is v) 0 views)
      (and_is decision_at halted_at decision_is halted_is)
