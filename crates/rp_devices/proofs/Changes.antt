-- One change more: what a disk holds, and what a crash may leave of it.
use Rattle.std.proofs.Common.{◌≡◌, ◌⊎◌, inl, inr, ℕ, ◌+◌, ◌-◌, ◌≤◌, ◌<◌, List, [], ◌∷◌, ◌++◌, length, get_or, take, drop, refl, sym, ap, subst, ◌∙◌, arith, length-append, append_assoc, Vec}
use Rattle.std.specs.Prelude.{Bool, true, false, if◌then◌else◌, Option, None, Some, replicate, nat_le}
use Rattle.std.proofs.lemmas.List.{length-replicate}
use Rattle.std.proofs.lemmas.Bool.{leb-true}
use Rattle.std.specs.declared.alloc.Global.{Global}
use Rattle.std.proofs.lemmas.Bool.{cases_lt}
use Rattle.std.proofs.lemmas.List.{take_more, take_all, take_at, drop_at, take-append-le, length-take-le, length-drop}
use Rattle.rp_base.specs.Disks.{Torn, Elapses, Follows}
use Rattle.rp_devices.specs.declared.change.Change.{Change}
use Rattle.rp_devices.specs.declared.change.Change.TheVariants.{Wrote, Synced}
use Rattle.rp_devices.specs.declared.change.Left.{Left}
use Rattle.rp_devices.specs.declared.change.Left.TheVariants.{Nothing, All, Each}
use Rattle.rp_devices.specs.Held.{Held, opened, put, changed, after, TornBy, IsImage, LeftSince, smear_of, all_smeared, left_of, ChangesBoth}

-- the last change comes last
pub after-push : (h : Held) (log : List Change) (x : Change) → after h (log ++ x ∷ []) ≡ changed (after h log) x
after-push h [] x = refl
after-push h (y ∷ log) x = after-push (changed h y) log x

-- ---- a write

-- a write that was made is one that may have been torn
pub torn_put : (old : List ℕ) (at : ℕ) (piece : List ℕ) → at ≤ length old → Torn at (length piece) old (put old at piece)
torn_put old at piece le =
    let n = length piece in
    let behind = drop (at + n) old in
    let head : length (take at old) ≡ at = length-take-le at old le in
    let front : length (take at old ++ piece) ≡ at + n = omega (arith, length-append (take at old) piece, head) in
    let size : length (put old at piece)
    ≡ at + n + (length old - (at + n)) = omega (arith, length-append (take at old ++ piece) behind, front, length-drop (at + n) old) in
    record {
      before = ap (λ (l : List ℕ). take at l) (append_assoc (take at old) piece behind) ∙ take_at (take at old) (piece ++ behind) at head;
      after = drop_at (take at old ++ piece) behind (at + n) front;
      no_shorter = omega (arith, size);
      no_longer = omega (arith, size);
    }

split_last : (ws : List (ℕ × ℕ)) (w : ℕ × ℕ) (old new : List ℕ) → TornBy (ws ++ w ∷ []) old new
    → (mid : List ℕ) × TornBy ws old mid × Torn w.0 w.1 mid new
split_last [] w old new torn = (old, refl, subst (λ (l : List ℕ). Torn w.0 w.1 old l) (sym torn.2) torn.1)
split_last (v ∷ ws) w old new torn = let rest = split_last ws w torn.0 new torn.2 in (rest.0, (torn.0, torn.1, rest.1), rest.2)

pub write_follows : (h : Held) (at : ℕ) (piece : Vec ℕ Global) → at ≤ length h.file
    → Follows (Torn at (length piece.items)) (IsImage h) (IsImage (changed h (Wrote at piece)))
write_follows h at piece le c (inl is) = (
  h.file,
  inl refl,
  subst (λ (l : List ℕ). Torn at (length piece.items) h.file l) (sym is) (torn_put h.file at piece.items le),
)
write_follows h at piece le c (inr torn) = let s = split_last h.pending (at, length piece.items) h.kept c torn in (s.0, inr s.1, s.2)

-- ---- a sync

pub sync_only : (h : Held) (c : List ℕ) → IsImage (changed h Synced) c → c ≡ h.file
sync_only h c (inl is) = is
sync_only h c (inr torn) = torn

-- ---- time

pub stands : (first : List ℕ) (log : List Change)
    → Elapses (length log) (length log) (LeftSince first log) (LeftSince first log) (IsImage (after (opened first) log))
stands first log = record { later = omega arith; nothing_else = λ t c le left. inl left; keeps = λ t c le left. left }

module _ (first : List ℕ) (log : List Change) (x : Change) where
  now_or_before : (t : ℕ) (c : List ℕ) → LeftSince first (log ++ x ∷ []) t c
      → LeftSince first log t c ⊎ IsImage (after (opened first) (log ++ x ∷ [])) c
  now_or_before t c left = elim (cases_lt left.0 (length log + 1)) [
    | inl before ↦ inl (
      left.0,
      left.1,
      omega arith,
      subst (λ (l : List Change). IsImage (after (opened first) l) c) (take-append-le left.0 log (x ∷ []) (omega arith)) left.3,
    )
    | inr now ↦ inr (subst (λ (l : List Change). IsImage (after (opened first) l) c)
        (take_all left.0 (log ++ x ∷ []) (omega (arith, length-append log (x ∷ [])))) left.3)
  ]

  pub goes_on : Elapses (length log) (length (log ++ x ∷ [])) (LeftSince first log) (LeftSince first (log ++ x ∷ []))
      (IsImage (after (opened first) (log ++ x ∷ [])))
  goes_on = record {
    later = omega (arith, length-append log (x ∷ []));
    nothing_else = λ t c le left. now_or_before t c left;
    keeps = λ t c le left. (
      left.0,
      left.1,
      omega (arith, length-append log (x ∷ []), left.2),
      subst (λ (l : List Change). IsImage (after (opened first) l) c) (sym (take-append-le left.0 log (x ∷ []) left.2)) left.3,
    );
  }

-- ---- how a disk in memory goes on

module _ (first : List ℕ) (log : List Change) (file : List ℕ) (is : file ≡ (after (opened first) log).file) where
  -- a write that was made, and remembered with a copy of its piece
  module _ (at : ℕ) (copy : Vec ℕ Global) (piece : List ℕ) (copied : copy.items ≡ piece) (later : List Change)
      (pushed : later ≡ log ++ Wrote at copy ∷ []) where
    pub written_file : (new : List ℕ) → new ≡ put file at piece → new ≡ (after (opened first) later).file
    written_file new made = made ∙ rw (pushed, after-push (opened first) log (Wrote at copy), ← is, copied) refl

    pub written_crash : at ≤ length file
        → Follows (Torn at (length piece)) (IsImage (after (opened first) log)) (IsImage (after (opened first) later))
    written_crash le =
        rw (pushed, after-push (opened first) log (Wrote at copy), ← copied)
        (write_follows (after (opened first) log) at copy (subst (λ (l : List ℕ). at ≤ length l) is le))

    pub written_crash_of : (first' : List ℕ) → first' ≡ first → at ≤ length file
        → Follows (Torn at (length piece)) (IsImage (after (opened first) log)) (IsImage (after (opened first') later))
    written_crash_of first' same le = rw same (written_crash le)

    pub written_time_of : (first' : List ℕ) → first' ≡ first
        → Elapses (length log) (length later) (LeftSince first log) (LeftSince first' later) (IsImage (after (opened first') later))
    written_time_of first' same = rw (same, pushed) (goes_on first log (Wrote at copy))

  -- a sync that succeeded, and was remembered
  module _ (later : List Change) (pushed : later ≡ log ++ Synced ∷ []) where
    pub synced_file : file ≡ (after (opened first) later).file
    synced_file = is ∙ rw (pushed, after-push (opened first) log Synced) refl

    pub synced_durable : (first' : List ℕ) → first' ≡ first → (c : List ℕ) → IsImage (after (opened first') later) c → c ≡ file
    synced_durable first' same c image =
        let held_is : after (opened first') later
        ≡ changed (after (opened first) log) Synced = rw (same, pushed) (after-push (opened first) log Synced) in
        sync_only (after (opened first) log) c (subst (λ (h : Held). IsImage h c) held_is image) ∙ sym is

    pub synced_crash : (first' : List ℕ) → first' ≡ first → (c : List ℕ) → IsImage (after (opened first') later) c
        → IsImage (after (opened first) log) c
    synced_crash first' same c image = inl (synced_durable first' same c image ∙ is)

    pub synced_time : (first' : List ℕ) → first' ≡ first
        → Elapses (length log) (length later) (LeftSince first log) (LeftSince first' later) (IsImage (after (opened first') later))
    synced_time first' same = rw (same, pushed) (goes_on first log Synced)

  -- a sync that was remembered, or wasn't
  pub synced_or_same : (b : Bool) (later : List Change) → later ≡ (if b then log ++ Synced ∷ [] else log)
      → file ≡ (after (opened first) later).file
  synced_or_same true later pushed = synced_file later pushed
  synced_or_same false later same = is ∙ ap (λ (l : List Change). (after (opened first) l).file) (sym same)

-- ---- one image of each kind

pub smeared-push : (b : Option ℕ) (ws : List (ℕ × ℕ)) (w : ℕ × ℕ) (old : List ℕ)
    → all_smeared b (ws ++ w ∷ []) old ≡ smear_of b w (all_smeared b ws old)
smeared-push b [] w old = refl
smeared-push b (v ∷ ws) w old = smeared-push b ws w (smear_of b v old)

torn_same : (at n : ℕ) (old : List ℕ) → Torn at n old old
torn_same at n old = record { before = refl; after = refl; no_shorter = omega arith; no_longer = omega arith }

torn_smear : (b : Option ℕ) (w : ℕ × ℕ) (old : List ℕ) → Torn w.0 w.1 old (smear_of b w old)
torn_smear None w old = torn_same w.0 w.1 old
torn_smear (Some b) w old = by (nat_le w.0 (length old)) refl
  where
    by : (t : Bool) → nat_le w.0 (length old) ≡ t → Torn w.0 w.1 old (if t then put old w.0 (replicate w.1 b) else old)
    by true e = subst (λ (n : ℕ). Torn w.0 n old (put old w.0 (replicate w.1 b))) (length-replicate w.1 b)
        (torn_put old w.0 (replicate w.1 b) (leb-true _ _ e))
    by false e = torn_same w.0 w.1 old

-- what is kept, with each write since smeared, is an image
pub torn_by_smearing : (b : Option ℕ) (ws : List (ℕ × ℕ)) (old : List ℕ) → TornBy ws old (all_smeared b ws old)
torn_by_smearing b [] old = refl
torn_by_smearing b (w ∷ ws) old = (smear_of b w old, torn_smear b w old, torn_by_smearing b ws (smear_of b w old))

pub left_is_image : (left : Left) (h : Held) → IsImage h (left_of left h)
left_is_image Nothing h = inr (torn_by_smearing None h.pending h.kept)
left_is_image All h = inl refl
left_is_image (Each b) h = inr (torn_by_smearing (Some b) h.pending h.kept)

pub wrote_both : (b : Option ℕ) (at len : ℕ) (piece : Vec ℕ Global) (file image file' image' : List ℕ) → len ≡ length piece.items
    → file' ≡ put file at piece.items → image' ≡ smear_of b (at, len) image → ChangesBoth b (Wrote at piece) file image file' image'
wrote_both b at len piece file image file' image' size p s h f i = (
  p ∙ ap (λ (l : List ℕ). put l at piece.items) f,
  s ∙ ap (λ (n : ℕ). smear_of b (at, n) image) size ∙ ap (λ (l : List ℕ). smear_of b (at, length piece.items) l) i ∙ sym
      (smeared-push b h.pending (at, length piece.items) h.kept),
)

-- the change at a place goes on from those before it
pub after-next : (h : Held) (log : List Change) (i : ℕ) (x : Change) → i < length log → x ≡ get_or log i x
    → after h (take (i + 1) log) ≡ changed (after h (take i log)) x
after-next h log i x lt is = ap (λ (l : List Change). after h l)
    (take_more log i x lt) ∙ ap (λ (y : Change). after h (take i log ++ y ∷ [])) (sym is) ∙ after-push h (take i log) x
