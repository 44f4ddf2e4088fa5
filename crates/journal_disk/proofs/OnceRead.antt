-- Calls that only read, one and one behind another.
use Rattle.std.proofs.Common.{◌≡◌, ◌∙◌, ℕ, List, ◌++◌, length, drop, Option, Some, None, sym, ap, take-append-drop}
use Rattle.std.specs.Option.{IfSome}
use Rattle.rp_base.specs.Disks.{Reads, SameImages, Elapses}
use Rattle.journal_disk.specs.Disks.{BeginsAt, LeavesOnly, OnlyReads}
use Rattle.journal_disk.proofs.Moments.{one_call, weaker, then}

module _ {D : Type 0} (seen : D → Option (List ℕ)) (may_leave : D → List ℕ → Type 0) (moment : D → ℕ)
    (left_since : D → ℕ → List ℕ → Type 0) where
  -- one call
  pub only_read : (old new : D) → ((c : List ℕ) → left_since old (moment old) c → may_leave old c) → seen new ≡ seen old
      → SameImages (may_leave old) (may_leave new)
      → Elapses (moment old) (moment new) (left_since old) (left_since new) (may_leave new)
      → OnlyReads seen may_leave moment left_since old new
  only_read old new at_first reads images time =
      record {
        reads = reads;
        images = images;
        moments = one_call moment left_since old new (may_leave old) (may_leave new) at_first time (λ c now. (images c).0 now);
      }

  -- and one more
  pub reads_then : (old mid new : D) → OnlyReads seen may_leave moment left_since old mid
      → OnlyReads seen may_leave moment left_since mid new → OnlyReads seen may_leave moment left_since old new
  reads_then old mid new a b = record {
    reads = b.reads ∙ a.reads;
    images = λ c. (λ now. (a.images c).0 ((b.images c).0 now), λ now. (b.images c).1 ((a.images c).1 now));
    moments = then moment left_since old mid new (may_leave old) a.moments
        (weaker moment left_since mid new (may_leave mid) (may_leave old) (λ c now. (a.images c).0 now) b.moments);
  }

  -- what holds of a run behind it, of images that there were, holds of both
  pub reads_before : (old mid new : D) (P : List ℕ → Type 0) → OnlyReads seen may_leave moment left_since old mid
      → ((c : List ℕ) → may_leave old c → P c) → LeavesOnly moment left_since mid new P → LeavesOnly moment left_since old new P
  reads_before old mid new P a first second = then moment left_since old mid new P
      (weaker moment left_since old mid (may_leave old) P first a.moments) second

-- a buffer that was filled stands there
pub begins : (seen : Option (List ℕ)) (at : ℕ) (into : List ℕ) → Reads seen at into → IfSome seen (λ file. BeginsAt file at into)
begins None at into reads = tt
begins (Some file) at into reads = (
  drop (length into) (drop at file),
  sym (take-append-drop (length into) (drop at file)) ∙ ap (λ (l : List ℕ). l ++ drop (length into) (drop at file)) (sym reads),
)
