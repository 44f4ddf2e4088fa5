-- The process as the event began, by the process that has signed since.
use Rattle.std.specs.Prelude.{◌≡◌, ℕ, ◌-◌, length, map, drop, Some, slice_get}
use Rattle.group_defs.specs.Process.{Process, places_in}
use Rattle.group_defs.specs.Sending.{newly_signed}
use Rattle.accounts.specs.Views.{delivery}
use Rattle.member_taking.specs.States.{signed_here, ProcessState}

-- the event began with `began`, nothing was delivered since, the view is the same, and what was signed since is the last `newly` claims of
-- the view
pub record Began (newly : ℕ) (began p : Process) : Type 0 where
  pub number : began.me ≡ p.me
  pub delivered : began.delivered ≡ p.delivered
  pub view : began.pool.view ≡ p.pool.view
  pub signed : newly_signed began p ≡ drop (length (signed_here p) - newly) (signed_here p)

-- the state has the process's number, and what it delivered
pub record HasDone (st : ProcessState) (began : Process) : Type 0 where
  pub number : began.me ≡ st.own.me
  pub places : places_in began.delivered ≡ st.own.delivered
  pub delivered : slice_get (map (λ ds. map delivery ds.items) st.account.delivered.items) (length st.account.delivered.items - 1)
      ≡ Some began.delivered
