-- The counts of faults at the end of a run, after its last line.
use Rattle.std.proofs.Common.{◌≡◌, ◌≢◌, ℕ, List, codes, Option, Some, None, refl, sym, ap, subst, ◌∙◌, arith}
use Rattle.std.specs.Prelude.{IsSomeAnd}
use Rattle.rp_base.specs.Causes.{Rose}
use Rattle.node_defs.specs.Lines.{Stop, Ended, WriteFailed, stop_line}
use Rattle.node_defs.specs.Lives.{Found}
use Rattle.node_traces.specs.Outside.{LinkSeen, SinkSeen, SourceSeen}
use Rattle.node_traces.specs.Service.{Asked}
use Rattle.node_script.specs.Words.{StopsByDisk}
use Rattle.node_loop.specs.Ended.{EndsWith, SaysLast}
use Rattle.node_loop.specs.Inputs.{IsInOrder, IsInOrderResuming, TellInOrder, TellInOrderResuming}
use Rattle.node_loop.specs.Resumed.{HasStoppedResuming}
use Rattle.node_loop.specs.Runs.{HasStopped}
use Rattle.node_loop.proofs.Causes.{Counted}
use Rattle.node_loop.proofs.Complete.{IsFine, IsNoFault, fine-status, in-order}
use Rattle.node_loop.proofs.CompleteResuming.{in-order-resuming}
use Rattle.node_loop.proofs.Statuses.{bind-by, ended-by, no-read-by, read-by, rose-by-disk, said-by, silent, write-by}

module _ (why : Stop) (status faults now : ℕ) (sink before new : SinkSeen) (link link_now : LinkSeen)
    (counts : Counted why faults now sink before link link_now) (ends : EndsWith why status before new) where
  pub ends-steady : status ≡ 0 → new.faults ≡ sink.faults
  ends-steady zero =
      let is = ended-by why status before new ends zero in
      ap (λ (s : SinkSeen). s.faults) (silent why status before new ends (ap stop_line is))
      ∙ counts.no_write (λ e. let both : Ended ≡ WriteFailed = sym is ∙ e in absurd cc)

  pub ends-read : status ≡ 3 → Rose faults now
  ends-read three = counts.read (read-by why status before new ends three)

  wrote : why ≡ WriteFailed → Rose sink.faults new.faults
  wrote is = subst (λ (s : SinkSeen). Rose sink.faults s.faults) (sym (silent why status before new ends (ap stop_line is))) (counts.written is)

  pub ends-written : status ≡ 4 → Rose sink.faults new.faults
  ends-written four = wrote (write-by why status before new ends four)

  pub ends-bound : status ≡ 6 → Rose link.faults link_now.faults
  ends-bound six = counts.bound (bind-by why status before new ends six)

  -- where a port was not to be had, nothing was sent, and nothing written but the last line
  pub ends-untold : status ≡ 6 → (link_now.sent ≡ link.sent) × SaysLast (codes "stop 6 link\n") sink new
  ends-untold six =
      let is = bind-by why status before new ends six in
      let reported = counts.untold is in
      let said = said-by why status before new ends (λ one. absurd (omega (arith, six, one))) in (
        reported.0,
        subst (λ (s : SinkSeen). SaysLast (codes "stop 6 link\n") s new) reported.1
            (subst (λ (line : List ℕ). SaysLast line before new) (ap stop_line is) said),
      )

  pub ends-unread : status ≢ 1 → status ≢ 3 → now ≡ faults
  ends-unread one three = counts.no_read (no-read-by why status before new ends one three)

  -- where nothing failed, and the stop is no fault of what was read
  pub ends-fine : (disk disk_now : ℕ) → StopsByDisk disk disk_now why → IsNoFault why → ¬ Rose faults now → ¬ Rose sink.faults new.faults
      → ¬ Rose disk disk_now → IsFine status
  ends-fine disk disk_now by_disk fine no_read no_write no_disk = fine-status why status before new ends fine
      (λ e. absurd (no_read (counts.read e))) (λ e. absurd (no_write (wrote e))) (λ e. absurd (no_disk (rose-by-disk disk disk_now why by_disk e)))

-- what is in order is so of what is reported
module _ {D : Type 0} (seen : D → Option (List ℕ)) (may_leave : D → List ℕ → Type 0) (moment : D → ℕ)
    (left_since : D → ℕ → List ℕ → Type 0) (most : ℕ) (f : Found) (k : SourceSeen) (link : LinkSeen) (sink : SinkSeen) (old : D)
    (left : Option (List ℕ)) (faults : ℕ) (link_now : LinkSeen) (sink_now : SinkSeen) (new : D) (h i : List Asked) (why : Stop)
    (run : HasStopped seen may_leave moment left_since most f k link sink old left faults link_now sink_now new h i why) where
  by-disk : (bytes : List ℕ) (o : Option (List ℕ)) → k.left ≡ Some bytes → seen old ≡ o → IsSomeAnd o (IsInOrder most bytes) → IsNoFault why
  by-disk bytes None tells holds order = absurd order
  by-disk bytes (Some file) tells holds order = in-order seen may_leave moment left_since most f k link sink old left faults link_now
      sink_now new h i bytes file tells holds order why run

  by-input : (o : Option (List ℕ)) → k.left ≡ o → TellInOrder most o (seen old) → IsNoFault why
  by-input None tells order = absurd order
  by-input (Some bytes) tells order = by-disk bytes (seen old) tells refl order

  pub reported-in-order : TellInOrder most k.left (seen old) → IsNoFault why
  reported-in-order order = by-input k.left refl order

-- the same of a node that begins by a snapshot
module _ {D : Type 0} (seen : D → Option (List ℕ)) (may_leave : D → List ℕ → Type 0) (moment : D → ℕ)
    (left_since : D → ℕ → List ℕ → Type 0) (most : ℕ) (f : Found) (k : SourceSeen) (link : LinkSeen) (sink : SinkSeen) (old : D)
    (left : Option (List ℕ)) (faults : ℕ) (link_now : LinkSeen) (sink_now : SinkSeen) (new : D) (h i : List Asked) (why : Stop)
    (run : HasStoppedResuming seen may_leave moment left_since most f k link sink old left faults link_now sink_now new h i why) where
  by-place : (bytes : List ℕ) (o : Option (List ℕ)) → k.left ≡ Some bytes → seen old ≡ o → IsSomeAnd o (IsInOrderResuming most bytes)
      → IsNoFault why
  by-place bytes None tells holds order = absurd order
  by-place bytes (Some file) tells holds order = in-order-resuming seen may_leave moment left_since most f k link sink old left faults link_now
      sink_now new h i bytes file tells holds order why run

  by-snap : (o : Option (List ℕ)) → k.left ≡ o → TellInOrderResuming most o (seen old) → IsNoFault why
  by-snap None tells order = absurd order
  by-snap (Some bytes) tells order = by-place bytes (seen old) tells refl order

  pub reported-in-order-resuming : TellInOrderResuming most k.left (seen old) → IsNoFault why
  reported-in-order-resuming order = by-snap k.left refl order
