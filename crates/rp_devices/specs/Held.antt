-- What a disk holds, and what a crash may leave of it.
-- Names here (* for this crate alone):
--   Held*, opened*, put*, changed*, after*, TornBy*, IsImage*, LeftSince*
--   one image of each kind: smeared*, smear_of*, all_smeared*, remains*, ChangesBoth*, left_of
use Rattle.std.specs.Prelude.{◌≡◌, ◌⊎◌, ℕ, ◌+◌, ◌≤◌, List, [], ◌∷◌, ◌++◌, length, take, drop, replicate, nat_le, if◌then◌else◌, Option, None, Some}
use Rattle.std.proofs.Common.{subst, sym, arith}
use Rattle.std.proofs.lemmas.List.{take_all}
use Rattle.rp_base.specs.Disks.{Torn}
use Rattle.rp_devices.specs.declared.change.Change.{Change}
use Rattle.rp_devices.specs.declared.change.Change.TheVariants.{Wrote, Synced}
use Rattle.rp_devices.specs.declared.change.Left.{Left}
use Rattle.rp_devices.specs.declared.change.Left.TheVariants.{Nothing, All, Each}

pub record Held : Type 0 where
  -- what a read gives
  pub file : List ℕ
  -- what the last sync that succeeded made last
  pub kept : List ℕ
  -- the place and the length of each write since, in order
  pub pending : List (ℕ × ℕ)

-- with these bytes, all of them last
abbrev pub opened : List ℕ → Held
opened bytes = record { file = bytes; kept = bytes; pending = [] }

-- a piece over the bytes from a place on, and past the end
abbrev pub put : List ℕ → ℕ → List ℕ → List ℕ
put old at piece = take at old ++ piece ++ drop (at + length piece) old

-- after a change
abbrev pub changed : Held → Change → Held
changed h (Wrote at piece) = record {
  file = put h.file at piece.items;
  kept = h.kept;
  pending = h.pending ++ (at, length piece.items) ∷ [];
}
changed h Synced = record { file = h.file; kept = h.file; pending = [] }

-- after these changes, in order
abbrev pub after : Held → List Change → Held
after h [] = h
after h (x ∷ xs) = after (changed h x) xs

-- bytes after these writes in order, each of them torn
abbrev pub TornBy : List (ℕ × ℕ) → List ℕ → List ℕ → Type 0
TornBy [] old new = new ≡ old
TornBy (w ∷ ws) old new = (mid : List ℕ) × Torn w.0 w.1 old mid × TornBy ws mid new

-- what a crash may leave: what a read gives, or what is kept with each write since torn
abbrev pub IsImage : Held → List ℕ → Type 0
IsImage h c = (c ≡ h.file) ⊎ TornBy h.pending h.kept c

-- what a crash might have left after at least t of these changes
abbrev pub LeftSince : List ℕ → List Change → ℕ → List ℕ → Type 0
LeftSince first log t c = (k : ℕ) × (t ≤ k) × (k ≤ length log) × IsImage (after (opened first) (take k log)) c

-- ---- one image of each kind

-- bytes in which one write left b in each of its bytes
abbrev pub smeared : ℕ → ℕ × ℕ → List ℕ → List ℕ
smeared b w old = if nat_le w.0 (length old) then put old w.0 (replicate w.1 b) else old

-- bytes in which one write left nothing, or b in each of its bytes
abbrev pub smear_of : Option ℕ → ℕ × ℕ → List ℕ → List ℕ
smear_of None w old = old
smear_of (Some b) w old = smeared b w old

-- and these writes, in order
abbrev pub all_smeared : Option ℕ → List (ℕ × ℕ) → List ℕ → List ℕ
all_smeared b [] old = old
all_smeared b (w ∷ ws) old = all_smeared b ws (smear_of b w old)

-- what is kept, and of the writes since nothing, or each of their bytes as b
abbrev pub remains : Option ℕ → Held → List ℕ
remains b h = all_smeared b h.pending h.kept

-- a file and what remains of it go on together by a change
abbrev pub ChangesBoth : Option ℕ → Change → List ℕ → List ℕ → List ℕ → List ℕ → Type 0
ChangesBoth b change file image file' image' = (h : Held) → file ≡ h.file → image ≡ remains b h
    → (file' ≡ (changed h change).file) × (image' ≡ remains b (changed h change))

abbrev pub left_of : Left → Held → List ℕ
left_of Nothing h = remains None h
left_of All h = h.file
left_of (Each b) h = remains (Some b) h

-- ---- laws

-- what may be left now counts from each moment on that has come
pub counts_now : (first : List ℕ) (log : List Change) (t : ℕ) (c : List ℕ) → t ≤ length log → IsImage (after (opened first) log) c
    → LeftSince first log t c
counts_now first log t c le now = (
  length log,
  le,
  omega arith,
  subst (λ (l : List Change). IsImage (after (opened first) l) c)
      (sym (take_all (length log) log (omega arith))) now,
)

-- from this moment on nothing else does
pub only_now : (first : List ℕ) (log : List Change) (c : List ℕ) → LeftSince first log (length log) c → IsImage (after (opened first) log) c
only_now first log c left = subst (λ (l : List Change). IsImage (after (opened first) l) c) (take_all left.0 log left.1) left.3
