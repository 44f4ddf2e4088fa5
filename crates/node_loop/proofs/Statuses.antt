-- The status by the stop, and what the last line changes.
use Rattle.std.proofs.Common.{◌≡◌, ◌≢◌, inl, inr, ℕ, List, [], refl, sym, ap, subst, ◌∙◌, arith}
use Rattle.rp_base.specs.Causes.{Rose}
use Rattle.node_defs.specs.Lines.{Stop, Ended, ReadFailed, WriteFailed, DiskFailed, BindFailed, status_of, stop_line}
use Rattle.node_traces.specs.Outside.{SinkSeen, SourceSeen}
use Rattle.node_script.specs.Inputs.{HasNoKit}
use Rattle.node_script.specs.Words.{StopsByDisk}
use Rattle.node_loop.specs.Ended.{EndsWith, SaysLast}

-- ---- from the status to the stop

is-ended : (why : Stop) → status_of why ≡ 0 → why ≡ Ended
is-ended Ended e = refl
is-ended _ e = absurd (omega (arith, e))

is-read : (why : Stop) → status_of why ≡ 3 → why ≡ ReadFailed
is-read ReadFailed e = refl
is-read _ e = absurd (omega (arith, e))

is-write : (why : Stop) → status_of why ≡ 4 → why ≡ WriteFailed
is-write WriteFailed e = refl
is-write _ e = absurd (omega (arith, e))

is-disk : (why : Stop) → status_of why ≡ 5 → why ≡ DiskFailed
is-disk DiskFailed e = refl
is-disk _ e = absurd (omega (arith, e))

is-bind : (why : Stop) → status_of why ≡ 6 → why ≡ BindFailed
is-bind BindFailed e = refl
is-bind _ e = absurd (omega (arith, e))

module _ (why : Stop) (status : ℕ) (old new : SinkSeen) (ends : EndsWith why status old new) where
  -- the status is that of the stop, or 1
  by-stop : status ≢ 1 → status_of why ≡ status
  by-stop other = of ends
    where
      of : EndsWith why status old new → status_of why ≡ status
      of (inl said) = sym said.0
      of (inr forgot) = absurd (other forgot.0)

  -- and then its line is said
  pub said-by : status ≢ 1 → SaysLast (stop_line why) old new
  said-by other = of ends
    where
      of : EndsWith why status old new → SaysLast (stop_line why) old new
      of (inl said) = said.1
      of (inr forgot) = absurd (other forgot.0)

  pub ended-by : status ≡ 0 → why ≡ Ended
  ended-by e = is-ended why (by-stop (λ one. absurd (omega (arith, e, one))) ∙ e)

  pub read-by : status ≡ 3 → why ≡ ReadFailed
  read-by e = is-read why (by-stop (λ one. absurd (omega (arith, e, one))) ∙ e)

  pub write-by : status ≡ 4 → why ≡ WriteFailed
  write-by e = is-write why (by-stop (λ one. absurd (omega (arith, e, one))) ∙ e)

  pub disk-by : status ≡ 5 → why ≡ DiskFailed
  disk-by e = is-disk why (by-stop (λ one. absurd (omega (arith, e, one))) ∙ e)

  pub bind-by : status ≡ 6 → why ≡ BindFailed
  bind-by e = is-bind why (by-stop (λ one. absurd (omega (arith, e, one))) ∙ e)

  pub no-read-by : status ≢ 1 → status ≢ 3 → why ≢ ReadFailed
  no-read-by one three e = absurd (three (sym (by-stop one) ∙ ap status_of e))

  pub no-disk-by : status ≢ 1 → status ≢ 5 → why ≢ DiskFailed
  no-disk-by one five e = absurd (five (sym (by-stop one) ∙ ap status_of e))

  -- where the stop has no line, nothing is written
  pub silent : stop_line why ≡ [] → new ≡ old
  silent none = of ends
    where
      of : EndsWith why status old new → new ≡ old
      of (inl said) = subst (λ (line : List ℕ). SaysLast line old new) none said.1
      of (inr forgot) = forgot.1

-- ---- the disk

pub rose-by-disk : (before now : ℕ) (why : Stop) → StopsByDisk before now why → why ≡ DiskFailed → Rose before now
rose-by-disk before now why stops is = (subst (StopsByDisk before now) is stops).1

pub still-by-disk : (before now : ℕ) (why : Stop) → StopsByDisk before now why → why ≢ DiskFailed → now ≡ before
still-by-disk before now DiskFailed stops other = absurd (other refl)
still-by-disk before now _ stops other = stops

-- without a kit no call of the disk is made
pub no-kit-no-disk : (k : SourceSeen) (faults count : ℕ) (why : Stop) → HasNoKit k faults why → StopsByDisk count count why
no-kit-no-disk k faults count DiskFailed none = absurd none
no-kit-no-disk k faults count _ none = refl
