-- A Want for a place that no view has is answered by the commit certificate of the view alone.
use Rattle.std.proofs.Common.{◌≡◌, inl, inr, ℕ, zero, suc, ◌+◌, ◌≤◌, List, [], ◌∷◌, ◌++◌, map, Bool, true, false, Option, Some, None, refl, sym, ap, ◌∙◌, subst, arith, slice_get}
use Rattle.std.specs.Prelude.{if◌then◌else◌, ◌==◌, filter, find, flat_map, option_and_then, option_to_list, unwrap_or}
use Rattle.std.specs.List.{AllByRecursion, range_with_len}
use Rattle.std.proofs.lemmas.List.Elements.{recursion_from_All}
use Rattle.std.proofs.lemmas.List.{append-nil}
use Rattle.message_defs.specs.Statements.{Statement, Init, Echo, Order, Place, Keep, Notify, End, Last, Suggest, Ack, Ready, PlaceAt, KeepAt, Slot, Claim, batch_of, same_slot, slot_of}
use Rattle.message_defs.specs.Spelling.{IsClaim, IsStatement}
use Rattle.group_defs.specs.Process.{Left, Pool, Process, Setting}
use Rattle.group_defs.specs.Certified.{certificate, certified_on, is_certified}
use Rattle.group_defs.specs.Sending.{Proof, answer, frames_of, message_certificates, place_certificates}
use Rattle.pool_laws.proofs.Members.{Mem, filter-mem}
use Rattle.pool_laws.proofs.Places.{map-get}
use Rattle.pool_laws.proofs.Slots.{same_slot-is}
use Rattle.reliable_mcast.specs.declared.sheet.FrameKind.TheVariants as kinds
use Rattle.reliable_mcast.specs.Answers.{commit_kept, places_kept, pools_kept}
use Rattle.reliable_mcast.specs.Archives.{Archived, Keeps}
use Rattle.reliable_mcast.specs.Certificates.{IsRanged, all_signed}
use Rattle.reliable_mcast.specs.Packed.{frames_as}
use Rattle.reliable_mcast.proofs.Answering.{answer-is, proofs-are}
use Rattle.member_state.specs.declared.state.ProcessState.{ProcessState}
use Rattle.member_state.specs.States.{IsStateOf}
use Rattle.proof_defs.specs.Lines.{proof_frames}

-- all claims of a state are in their ranges
pub ranged : (s : Setting) (p : Process) (st : ProcessState) → IsStateOf s p st → IsRanged st.pool.pool
ranged s p st is = subst IsRanged is.place.pool (recursion_from_All IsClaim p.pool.heard is.lawful.pool.in_range)

-- ---- no claim is of such a place

abbrev place-in : Slot → ℕ
place-in (PlaceAt x k) = k
place-in (KeepAt x k) = k
place-in _ = 0

at-none : (n : ℕ) → n ≡ 0 → n ≤ 1023
at-none n e = omega (arith, e)

within : (st : Statement) → IsStatement st → place-in (slot_of st) ≤ 1023
within (Init x l payload) fits = at-none (place-in (slot_of (Init x l payload))) refl
within (Echo x m payload) fits = at-none (place-in (slot_of (Echo x m payload))) refl
within (Order x k b) fits = at-none (place-in (slot_of (Order x k b))) refl
within (Place x k b) fits = fits.1
within (Keep x k b) fits = fits.1
within (Notify x u) fits = at-none (place-in (slot_of (Notify x u))) refl
within (End x k) fits = at-none (place-in (slot_of (End x k))) refl
within (Last x r ready) fits = at-none (place-in (slot_of (Last x r ready))) refl
within (Suggest x r v) fits = at-none (place-in (slot_of (Suggest x r v))) refl
within (Ack x r v) fits = at-none (place-in (slot_of (Ack x r v))) refl
within (Ready x r v) fits = at-none (place-in (slot_of (Ready x r v))) refl

none-heard : (slot : Slot) → 1024 ≤ place-in slot → (cs : List Claim) → AllByRecursion IsClaim cs
    → filter (λ st. same_slot (slot_of st) slot) (map (λ (c : Claim). c.statement) cs) ≡ []
none-heard slot beyond [] ranged = refl
none-heard slot beyond (c ∷ cs) ranged = go (same_slot (slot_of c.statement) slot) refl (none-heard slot beyond cs ranged.1)
  where
    go : (b : Bool) → same_slot (slot_of c.statement) slot ≡ b
        → filter (λ st. same_slot (slot_of st) slot) (map (λ (c : Claim). c.statement) cs) ≡ []
        → (if b then c.statement ∷ filter (λ st. same_slot (slot_of st) slot) (map (λ (c : Claim). c.statement) cs)
        else filter (λ st. same_slot (slot_of st) slot) (map (λ (c : Claim). c.statement) cs)) ≡ []
    go true e none = absurd (let same = ap place-in (same_slot-is (slot_of c.statement) slot e) in
        let few = within c.statement ranged.0.1 in omega (arith, same, few, beyond))
    go false e none = none

none-on : (h : Pool) → IsRanged h → (slot : Slot) → 1024 ≤ place-in slot → certified_on h slot ≡ None
none-on h ranged slot beyond = ap (find (is_certified h)) (none-heard slot beyond h.heard ranged)

-- ---- so nothing is certified of it

abbrev by-slot : Pool → Option Statement → List Claim
by-slot h o = elim o [ None ↦ [] | Some st ↦ certificate h st ]

abbrev by-place : Pool → Option Statement → List Claim
by-place h o = elim (option_and_then batch_of o) [ None ↦ [] | Some b ↦ message_certificates h b ]

places-none : (h : Pool) → IsRanged h → (k : ℕ) → 1024 ≤ k → place_certificates h k ≡ []
places-none h ranged k beyond = λ i. by-slot h (none-on h ranged (PlaceAt h.view.number k) beyond i)
    ++ by-place h (none-on h ranged (PlaceAt h.view.number k) beyond i)
    ++ by-slot h (none-on h ranged (KeepAt h.view.number k) beyond i)

range-none : (h : Pool) → IsRanged h → (n k : ℕ) → 1024 ≤ k → flat_map (place_certificates h) (range_with_len k n) ≡ []
range-none h ranged zero k beyond = refl
range-none h ranged (suc n) k beyond =
    (λ i. places-none h ranged k beyond i ++ range-none h ranged n (k + 1) (omega (arith, beyond)) i)

kept-none : (hs : List Pool) → ((h : Pool) → Mem h hs → IsRanged h) → (k : ℕ) → 1024 ≤ k → places_kept hs k ≡ []
kept-none [] ranged k beyond = refl
kept-none (h ∷ hs) ranged k beyond =
    (λ i. range-none h (ranged h (inl refl)) 8 k beyond i ++ kept-none hs (λ g m. ranged g (inr m)) k beyond i)

module _ (a : Archived) (h : Pool) (p : Process) (x k : ℕ) (l : Left) (keeps : Keeps a p) (same : p.pool ≡ h) (ranged : IsRanged h)
    (before : (g : Pool) → a.previous ≡ Some g → IsRanged g) (beyond : 1024 ≤ k) (at : slice_get p.left x ≡ Some l) where
  each-ranged : (o : Option Pool) → ((g : Pool) → o ≡ Some g → IsRanged g) → (g : Pool) → Mem g (h ∷ option_to_list o) → IsRanged g
  each-ranged o before g (inl is) = subst IsRanged is ranged
  each-ranged None before g (inr none) = absurd none
  each-ranged (Some g') before g (inr (inl is)) = before g (ap Some is)
  each-ranged (Some g') before g (inr (inr none)) = absurd none

  pools-none : places_kept (pools_kept a h x) k ≡ []
  pools-none = kept-none (pools_kept a h x) (λ g m. each-ranged a.previous before g
      (filter-mem (λ (g : Pool). g.view.number == x) (h ∷ option_to_list a.previous) g m).0) k beyond

  commit-is : commit_kept a x ≡ all_signed l.commit
  commit-is = ap (λ cs. unwrap_or (slice_get cs x) []) (sym keeps.commits)
      ∙ ap (λ o. unwrap_or o []) (map-get (λ (v : Left). all_signed v.commit) p.left x l at)

  -- the frames of the answer are those of the commit certificate
  pub commit-frames : frames_of (Proof (answer p x k)) ≡ proof_frames l
  commit-frames =
      sym (proofs-are (answer p x k))
      ∙ ap (frames_as kinds.Proof) (answer-is a h p x k keeps same ∙ (λ i. commit-is i ++ all_signed (pools-none i)) ∙ append-nil (all_signed l.commit))
      ∙ proofs-are l.commit
