-- What a state keeps of an image's process, in the parts of which it is made.
use Rattle.std.specs.Prelude.{◌≡◌, List, length}
use Rattle.group_defs.specs.Views.{View}
use Rattle.group_defs.specs.Process.{Setting, Process, deliveries_of, views_of}
use Rattle.group_defs.specs.Accounts.{account_of}
use Rattle.image_defs.specs.Images.{Image}
use Rattle.restored_present.specs.Left.{HasPast}
use Rattle.restored_present.specs.Members.{IsIn, ProcessState, IsOwnOf, IsPerceivedOf, account, claims_of, signed_here}

-- what the state keeps, part by part
pub record HasParts (s : Setting) (i : Image) (p : Process) (st : ProcessState) : Type 0 where
  pub limit : p.batch_limit ≡ st.batch_limit
  pub pool : p.pool ≡ st.pool.pool
  pub place : IsOwnOf s p p.pool st.own
  pub phase : IsIn st.phase p
  pub asked : IsPerceivedOf st.perceived p
  pub said : st.said.claims ≡ signed_here p
  pub said_from : st.said_from ≡ length st.said.claims
  pub said_before : claims_of st.said_before.items ≡ p.signed
  pub pairs : st.conflicts.pairs ≡ i.conflicts
  pub past : HasPast s i st.archive
  pub account_is : account_of p ≡ account st.account

-- the process has what the image says of it, and these views were installed
pub record IsOf (i : Image) (views : List View) (p : Process) : Type 0 where
  pub me : p.me ≡ i.me
  pub signed : p.signed ≡ i.signed
  pub perceived : p.perceived ≡ i.perceived
  pub accepted : p.accepted ≡ i.accepted
  pub views_are : views_of p ≡ views
  pub delivered : deliveries_of p ≡ i.delivered
