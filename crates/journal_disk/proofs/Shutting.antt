-- What closing a gate leaves.
use Rattle.std.proofs.Common.{◌≡◌, ◌≢◌, ⊎_elim, inl, inr, ℕ, ◌+◌, ◌≤◌, List, [], ◌∷◌, ◌++◌, length, take, drop, Option, Some, None, refl, sym, ap, subst, ◌∙◌, arith, length-append, length-take, length-drop}
use Rattle.std.specs.List.{AllByRecursion}
use Rattle.std.specs.Option.{IfSome}
use Rattle.std.proofs.lemmas.List.{drop_at}
use Rattle.rp_base.specs.Disks.{Torn, Follows, Writes, Only}
use Rattle.journal_defs.specs.Entries.{Entry, IsEntry}
use Rattle.journal_defs.specs.Journals.{up_to_gate, closed_gate}
use Rattle.journal_defs.specs.Crashes.{IsOpening, IsWithOrWithout, AllOpening, Survives}
use Rattle.journal_defs.proofs.Crashing as laws
use Rattle.journal_defs.proofs.Running as running
use Rattle.journal_disk.specs.Disks.{HasRest, HasStaged, EndsAt, EndsClosed, HasLength, BeginsAt, LeavesStaged}

-- ---- where the reading ended

module _ (seen : Option (List ℕ)) (head : List ℕ) (fs : List Entry) (gate : ℕ) where
  abbrev pub ends_moved : (later : Option (List ℕ)) → later ≡ seen → EndsAt seen head fs gate → EndsAt later head fs gate
  ends_moved later same ends = record { file = ends.file; reported = same ∙ ends.reported; reads = ends.reads; place = ends.place }

  -- the byte there is the gate
  pub byte_is : (b : ℕ) → (ends : EndsAt seen head fs gate) → IfSome seen (λ file. BeginsAt file gate (b ∷ [])) → ends.reads.gate ≡ b
  byte_is b ends there =
      let here = subst (λ (o : Option (List ℕ)). IfSome o (λ file. BeginsAt file gate (b ∷ []))) ends.reported there in
      let gate_there : drop gate ends.file
      ≡ ends.reads.gate ∷ ends.reads.unread = ap (λ (l : List ℕ). drop gate l) ends.reads.parts ∙ drop_at (up_to_gate head fs)
      (ends.reads.gate ∷ ends.reads.unread) gate (sym ends.place) in
      let both : ends.reads.gate ∷ ends.reads.unread ≡ b ∷ here.0 = sym gate_there ∙ here.1 in
      cc

  pub ends_closed : (later : Option (List ℕ)) → later ≡ seen → (ends : EndsAt seen head fs gate)
      → IfSome seen (λ file. BeginsAt file gate (closed_gate ∷ [])) → EndsClosed later head fs gate
  ends_closed later same ends there = record { ends = ends_moved later same ends; written = byte_is closed_gate ends there }

  pub kept_rest : (last : Option (List ℕ)) (after : List ℕ → Type 0) → EndsClosed seen head fs gate → last ≡ seen
      → IfSome seen (λ file. Only file after) → HasRest last after head fs gate
  kept_rest last after closed same only =
      let ends = closed.ends in
      record {
        file = ends.file;
        reported = same ∙ ends.reported;
        rest = running.closed_rests head ends.file fs ends.reads closed.written;
        place = ends.place;
        only = subst (λ (o : Option (List ℕ)). IfSome o (λ file. Only file after)) ends.reported only;
        each = ends.reads.each;
      }

  pub shut_rest : (mid last : Option (List ℕ)) (after : List ℕ → Type 0) → (ends : EndsAt seen head fs gate)
      → Writes seen mid gate (closed_gate ∷ []) → last ≡ mid → IfSome mid (λ file. Only file after) → HasRest last after head fs gate
  shut_rest mid last after ends writes same only = by mid refl
      (subst (λ (o : Option (List ℕ)). Writes o mid gate (closed_gate ∷ [])) ends.reported writes)
    where
      by : (m : Option (List ℕ)) → mid ≡ m → Writes (Some ends.file) mid gate (closed_gate ∷ []) → HasRest last after head fs gate
      by None m w = absurd (subst (λ (o : Option (List ℕ)). Writes (Some ends.file) o gate (closed_gate ∷ [])) m w)
      by (Some new) m w =
          let is_new = subst (λ (o : Option (List ℕ)). Writes (Some ends.file) o gate (closed_gate ∷ [])) m w in
          let written : new ≡ take (length (up_to_gate head fs)) ends.file ++ (closed_gate ∷ [])
          ++ drop (length (up_to_gate head fs) + 1) ends.file =
          is_new ∙ ap (λ (g : ℕ). take g ends.file ++ (closed_gate ∷ []) ++ drop (g + 1) ends.file) ends.place in
          record {
            file = new;
            reported = same ∙ m;
            rest = running.written_rests head ends.file new fs ends.reads written;
            place = ends.place;
            only = subst (λ (o : Option (List ℕ)). IfSome o (λ file. Only file after)) m only;
            each = ends.reads.each;
          }

-- a gate that is not closed as it is written was torn, and the reading ended before the entry that is staged behind it
pub torn_there : (seen : Option (List ℕ)) (images : List ℕ → Type 0) (head : List ℕ) (es fs : List Entry) (gate b : ℕ)
    → Survives head es images → IfSome seen images → (ends : EndsAt seen head fs gate) → IfSome seen (λ file. BeginsAt file gate (b ∷ []))
    → b ≢ closed_gate
    → (e : Entry) × IsEntry e × (fs ≡ es) × AllOpening head es e images
torn_there seen images head es fs gate b s image ends there torn =
    running.torn_stands head ends.file es fs images s (subst (λ (o : Option (List ℕ)). IfSome o images) ends.reported image) ends.reads
    (λ is. torn (sym (byte_is seen head fs gate b ends there) ∙ is))

-- ---- while it is closed

module _ (head : List ℕ) (es : List Entry) (e : Entry) (gate : ℕ) (images after : List ℕ → Type 0) (all : AllOpening head es e images) where
  pub torn_opening : gate ≡ length (up_to_gate head es) → Follows (Torn gate 1) images after → AllOpening head es e after
  torn_opening place crash c now =
      let from = crash c now in
      let o = all from.0 from.1 in
      (o.0, laws.torn_gate head es e o.0 from.0 c o.1 (subst (λ (k : ℕ). Torn k 1 from.0 c) place from.2))

-- and where one is staged
pub staged_all : (seen : Option (List ℕ)) (images : List ℕ → Type 0) (head : List ℕ) (es : List Entry) (e : Entry) (gate : ℕ)
    → HasStaged seen images head es e gate → AllOpening head es e images
staged_all seen images head es e gate s c now = (s.more, subst (IsOpening head es e s.more) (sym (s.only c now)) s.opening)

pub opening_images : (head : List ℕ) (es : List Entry) (e : Entry) (images : List ℕ → Type 0) → AllByRecursion IsEntry es → IsEntry e
    → AllOpening head es e images → (c : List ℕ) → images c → IsWithOrWithout head es e c
opening_images head es e images each is all c now = laws.opening_is_image head es e (all c now).0 c each is (all c now).1

pub staged_left : (head : List ℕ) (es : List Entry) (e : Entry) (images : List ℕ → Type 0) → AllOpening head es e images → (c : List ℕ)
    → IsWithOrWithout head es e c → LeavesStaged head es images c
staged_left head es e images all c image = ⊎_elim (λ without. inl without) (λ with. inr (e, all, with)) image

-- what a run finds is left
pub found_images : (head : List ℕ) (es : List Entry) (images : List ℕ → Type 0) → Survives head es images → (c : List ℕ) → images c
    → LeavesStaged head es images c
found_images head es images s c now =
    ⊎_elim (λ rest. inl (laws.at_rest_is_image head es c s.each (rest c now)))
    (λ staged. staged_left head es staged.0 images staged.2 c (opening_images head es staged.0 images s.each staged.1 staged.2 c now))
    s.all

pub fewer_stand : (head : List ℕ) (es : List Entry) (images fewer : List ℕ → Type 0) → ((c : List ℕ) → fewer c → images c)
    → Survives head es images → Survives head es fewer
fewer_stand head es images fewer less s = record {
  each = s.each;
  all = ⊎_elim (λ rest. inl (λ c now. rest c (less c now))) (λ staged. inr (staged.0, staged.1, λ c now. staged.2 c (less c now))) s.all;
}

-- ---- lengths

-- a write that ends within the bytes keeps their number
pub length_kept : (seen mid : Option (List ℕ)) (at len : ℕ) (piece : List ℕ) → IfSome seen (λ file. at + length piece ≤ length file)
    → Writes seen mid at piece → HasLength seen len → HasLength mid len
length_kept None None at len piece within w has = tt
length_kept None (Some new) at len piece within w has = absurd w
length_kept (Some old) None at len piece within w has = absurd w
length_kept (Some old) (Some new) at len piece within w has =
    omega (
      arith,
      has,
      ap length w,
      length-append (take at old ++ piece) (drop (at + length piece) old),
      length-append (take at old) piece,
      length-take at old,
      length-drop (at + length piece) old,
    )
