-- What an account had at a mark.
use Rattle.std.specs.Prelude.{◌≡◌, ◌-◌, ◌≤◌, ◌++◌, ◌∷◌, [], Bool, List, length, map, take, if◌then◌else◌}
use Rattle.std.specs.Option.{MatchOption}
use Rattle.group_defs.specs.Process as defs
use Rattle.group_defs.specs.Accounts.{Account}
use Rattle.accounts.specs.declared.mark.AccountMark.{AccountMark}
use Rattle.accounts.specs.Views.{perceived}

-- The account was `was` at the mark, and is `now` since then: in the current view more may be delivered, more may be accepted, and
-- where the mark keeps what was perceived, that may have changed.
pub record GrewSince (m : AccountMark) (was now : Account) : Type 0 where
  pub number : now.me ≡ was.me
  pub views : now.views ≡ was.views
  pub before : List (List defs.Delivered)
  pub last : List defs.Delivered
  pub lists : now.delivered ≡ before ++ last ∷ []
  pub delivered : was.delivered ≡ before ++ take m.delivered last ∷ []
  pub few : m.delivered ≤ length last
  pub accepted : take m.accepted now.accepted ≡ was.accepted
  pub few_accepted : m.accepted ≤ length now.accepted
  pub asked : MatchOption m.perceived (now.perceived ≡ was.perceived) (λ xs. map perceived xs.items ≡ was.perceived)

-- the account without its last view and what was delivered there
abbrev pub without_last : Account → Account
without_last a = record a { views = take (length a.views - 1) a.views; delivered = take (length a.delivered - 1) a.delivered }
