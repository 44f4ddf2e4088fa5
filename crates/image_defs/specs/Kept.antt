-- Which images are kept: those that a process may be restored from.
use Rattle.std.specs.Prelude.{◌≡◌, ◌≢◌, ◌⊎◌, ◌↔◌, ℕ, ◌+◌, ◌-◌, ◌<◌, ◌≤◌, Bool, true, false, List, [], ◌∷◌, ◌++◌, length, map, All, AllPairs, Contains, Option, Some, None, is_some, IsTrue, IsFalse}
use Rattle.std.specs.List.Sorted.{IsStrictlyIncreasing}
use Rattle.group_defs.specs.Below.{most_places, most_payload_bytes, Value, Statement, Ready, Claim, Conflicts, slot_of, view_of}
use Rattle.group_defs.specs.Views.{View, is_member, quorum, is_possible, next_view}
use Rattle.group_defs.specs.Process.{Setting, Pool, Delivered, Left, Process, keyed, earlier, delivered_from, places_in}
use Rattle.group_defs.specs.Certified.{certificate, is_certified, heard_on, payload_at, place_at}
use Rattle.group_defs.specs.Hearing.{is_valid, is_strange, is_beyond}
use Rattle.group_defs.specs.Accounts.{IsByPlace, batch_at}
use Rattle.image_defs.specs.Images.{LeftView, Image, process_of}

-- 1. how the views were left, from this one on
pub record IsLeft (s : Setting) (v : View) (l : LeftView) : Type 0 where
  pub rank : l.rank < length v.members
  pub possible : IsTrue (is_possible (keyed s) v l.value.update)
  pub many : length l.commit ≡ quorum (length v.members)
  pub rising : IsStrictlyIncreasing (map (λ c. c.signer) l.commit)
  pub each : All (λ c. IsTrue (is_member v c.signer) × (c.statement ≡ Ready v.number l.rank l.value) × IsTrue (is_valid s c)) l.commit

abbrev pub AreLeft : Setting → View → List LeftView → Type 0
AreLeft s v [] = Unit {0}
AreLeft s v (l ∷ ls) = IsLeft s v l × AreLeft s (next_view v l.value.update) ls

-- the last commit certificate is the one that the previous pool gives
abbrev pub CommitsLast : Option Pool → List LeftView → Type 0
CommitsLast previous [] = Unit {0}
CommitsLast None (l ∷ []) = ⊥
CommitsLast (Some h) (l ∷ []) = l.commit ≡ certificate h (Ready h.view.number l.rank l.value)
CommitsLast previous (l ∷ m ∷ ls) = CommitsLast previous (m ∷ ls)

-- 2. a heard list of a process that is in the view of the list, with what it delivered there
pub record AreHeard (s : Setting) (p : Process) : Type 0 where
  pub view : All (λ c. view_of c.statement ≡ p.pool.view.number) p.pool.heard
  pub known : All (λ c. IsFalse (is_strange p c)) p.pool.heard
  pub within : All (λ c. IsFalse (is_beyond p c.signer c.statement)) p.pool.heard
  pub valid : All (λ c. IsTrue (is_valid s c)) p.pool.heard
  pub once : AllPairs (λ c d. c.signer ≡ d.signer → slot_of c.statement ≢ slot_of d.statement) p.pool.heard

-- the process as it was in the view that it left last
abbrev pub as_before : Process → List Delivered → Pool → Process
as_before p delivered h = record p { pool = h; delivered = delivered }

abbrev pub last_delivered : Process → List Delivered
last_delivered p = go p.left
  where
    go : List Left → List Delivered
    go [] = []
    go (l ∷ []) = l.delivered
    go (l ∷ m ∷ ls) = go (m ∷ ls)

abbrev pub WasHeard : Setting → Process → Option Pool → Type 0
WasHeard s p None = Unit {0}
WasHeard s p (Some h) = AreHeard s (as_before p (last_delivered p) h)

-- The seven facts, of the process that the image gives.
pub record IsKeptProcess (s : Setting) (i : Image) (p : Process) : Type 0 where
  -- 1
  pub left : AreLeft s s.genesis i.left
  pub last : CommitsLast p.previous i.left
  pub none_before : p.left ≡ [] → i.previous ≡ []
  -- 2
  pub heard : AreHeard s p
  pub was_heard : WasHeard s p p.previous
  pub conflicts : All (λ e. (e.0.signer ≡ e.1.signer) × Conflicts e.0 e.1 × IsTrue (is_valid s e.0) × IsTrue (is_valid s e.1)) p.conflicts
  pub one_each : AllPairs (λ e d. e.0.signer ≢ d.0.signer) p.conflicts
  -- 3
  pub own : All (λ c. (c.signer ≡ p.me) × (view_of c.statement ≤ p.pool.view.number) × IsTrue (is_valid s c)) p.signed
  pub signed_once : AllPairs (λ c d. slot_of c.statement ≢ slot_of d.statement) p.signed
  pub heard_own : All (λ c. view_of c.statement ≡ p.pool.view.number → IsTrue (is_some (heard_on p.pool p.me (slot_of c.statement)))) p.signed
  -- 4
  pub by_place : All IsByPlace i.delivered
  pub few_places : All (λ ds. places_in ds ≤ most_places) i.delivered
  pub outside : IsFalse (is_member p.pool.view p.me) → p.delivered ≡ []
  pub placed : (k : ℕ) → k < places_in p.delivered → place_at p.pool k ≡ Some (batch_at k p.delivered)
  pub paid : All (λ d. payload_at p.pool d.message ≡ Some d.payload) p.delivered
  -- 5
  pub decided : (d : ℕ × Value) → p.decision ≡ Some d → IsTrue (is_certified p.pool (Ready p.pool.view.number d.0 d.1))
      × IsTrue (is_possible (keyed s) p.pool.view d.1.update) × IsTrue (is_member p.pool.view p.me) × (places_in p.delivered ≢ d.1.cut)
  pub halted : (p.halted ≡ true) ↔ ((d : ℕ × Value) × (p.decision ≡ Some d) × (d.1.cut < places_in p.delivered))
  -- 6
  pub short : All (λ payload. length payload ≤ most_payload_bytes) p.accepted
  pub backlog : length p.accepted - (earlier p + delivered_from p.me p.delivered) ≤ 256
  -- 7
  pub perceived : All (λ e. (e.0 ≤ p.pool.view.number) × (e.0 ≡ p.pool.view.number → IsTrue (is_possible (keyed s) p.pool.view e.1))) p.perceived

-- the image is kept; the batch limit is no part of it
abbrev pub IsKept : Setting → Image → Type 0
IsKept s i = IsKeptProcess s i (process_of s 1 i)
