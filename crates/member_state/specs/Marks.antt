-- A process's state since a mark.
use Rattle.std.specs.Prelude.{◌≡◌, ◌-◌, List, [], ◌∷◌, ◌++◌, length, take, Option, Some, None, IsSome, MatchOption}
use Rattle.group_defs.specs.Accounts as plain
use Rattle.own_place.specs.Marks.{IsMarkOf}
use Rattle.view_phases.specs.Marks.{marked}
use Rattle.accounts.specs.Views.{account}
use Rattle.accounts.specs.Marks.{GrewSince, without_last}
use Rattle.member_state.specs.declared.marks.Before.{Before}
use Rattle.member_state.specs.declared.left.LeftView.{LeftView}
use Rattle.member_state.specs.declared.left.SaidBefore.{SaidBefore}
use Rattle.member_state.specs.declared.state.ProcessState.{ProcessState}

-- the mark keeps of the state what its parts do not keep themselves
pub record IsKeptBy (b : Before) (was : ProcessState) : Type 0 where
  pub own : IsMarkOf b.own was.own
  pub phase : marked b.phase ≡ was.phase
  pub asked : b.perceived ≡ was.perceived

-- the mark keeps which updates were perceived, so others may be since
abbrev pub MayAsk : Before → Type 0
MayAsk b = IsSome b.account.perceived

-- Since the mark, at which the state was `was`, the process has stayed in its view: more may be heard, said, signed, delivered and kept,
-- and each part knows what it was.
pub record Stays (b : Before) (was now : ProcessState) : Type 0 where
  pub kept : IsKeptBy b was
  pub pool : now.pool.marked ≡ was.pool.pool
  pub slots : now.own.signed.marked ≡ was.own.signed.slots
  pub said : now.said.marked ≡ was.said.claims
  pub said_from : now.said_from ≡ was.said_from
  pub said_before : now.said_before.items ≡ was.said_before.items
  pub pairs : now.conflicts.marked ≡ was.conflicts.pairs
  pub previous : now.archive.previous ≡ was.archive.previous
  pub commits : now.archive.commits ≡ was.archive.commits
  pub account : GrewSince b.account (account was.account) (account now.account)
  pub limit : now.batch_limit ≡ was.batch_limit

-- Since the mark the process has left the view of the mark for the next one, and `left` is what was the process's there: so in that view
-- it stayed.
pub record HasLeft (b : Before) (was : ProcessState) (left : LeftView) (now : ProcessState) : Type 0 where
  pub kept : IsKeptBy b was
  pub pool : now.archive.marked ≡ Some was.pool.pool
  pub slots : left.signed.marked ≡ was.own.signed.slots
  -- what was said there
  pub last : SaidBefore
  pub said : last.claims.marked ≡ was.said.claims
  pub said_from : last.from ≡ was.said_from
  pub said_before : now.said_before.items ≡ was.said_before.items ++ last ∷ []
  pub pairs : now.conflicts.marked ≡ was.conflicts.pairs
  pub previous : left.older ≡ was.archive.previous
  pub commits : take (length now.archive.commits - 1) now.archive.commits ≡ was.archive.commits
  pub account : GrewSince b.account (account was.account) (without_last (account now.account))
  pub limit : now.batch_limit ≡ was.batch_limit

-- since the mark, at which the state was `was`
abbrev pub Since : Before → ProcessState → ProcessState → Type 0
Since b was now = MatchOption now.left (Stays b was now) (λ left. HasLeft b was left now)
