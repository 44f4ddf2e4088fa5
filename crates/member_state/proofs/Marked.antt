-- A state whose parts are those of another is a state of the same process.
use Rattle.std.proofs.Common.{◌≡◌, ◌∙◌, ◌≤◌, ◌++◌, length, drop, sym, ap, subst, Option, Some, None}
use Rattle.std.specs.Option.{MatchOption}
use Rattle.group_defs.specs.Process.{Setting, Pool, Process}
use Rattle.own_place.specs.Owns.{IsOwnOf}
use Rattle.own_place.specs.Marks.{IsSamePlace}
use Rattle.own_place.proofs.Marked.{same_tells}
use Rattle.ending_rules.specs.Perceiving.{IsPerceivedOf}
use Rattle.view_phases.specs.declared.phases.Phase.{Phase}
use Rattle.view_phases.specs.Phases.{IsIn}
use Rattle.accounts.specs.Views.{account}
use Rattle.member_state.specs.declared.marks.Before.{Before}
use Rattle.member_state.specs.declared.left.LeftView.{LeftView}
use Rattle.member_state.specs.declared.state.ProcessState.{ProcessState}
use Rattle.member_state.specs.States.{IsStateOf, claims_of}
use Rattle.member_state.specs.Marks.{Stays, HasLeft}

-- the parts of both keep the same
pub record AreSameParts (was now : ProcessState) : Type 0 where
  pub limit : now.batch_limit ≡ was.batch_limit
  pub pool : now.pool.pool ≡ was.pool.pool
  pub own : IsSamePlace was.own now.own
  pub phase : now.phase ≡ was.phase
  pub asked : now.perceived ≡ was.perceived
  pub said : now.said.claims ≡ was.said.claims
  pub said_from : now.said_from ≡ was.said_from
  pub said_before : now.said_before.items ≡ was.said_before.items
  pub pairs : now.conflicts.pairs ≡ was.conflicts.pairs
  pub previous : now.archive.previous ≡ was.archive.previous
  pub commits : now.archive.commits ≡ was.archive.commits
  pub account : account now.account ≡ account was.account

pub same_state : (s : Setting) (p : Process) (was now : ProcessState) → AreSameParts was now → IsStateOf s p was → IsStateOf s p now
same_state s p was now same is = record {
  lawful = is.lawful;
  bounded = is.bounded;
  number = is.number;
  some = is.some;
  decided = is.decided;
  each = is.each;
  asked_for = is.asked_for;
  halted_member = is.halted_member;
  halted_beyond = is.halted_beyond;
  ranged = is.ranged;
  limit = is.limit ∙ sym same.limit;
  place = subst (λ (h : Pool). IsOwnOf s p h now.own) (sym same.pool) (same_tells was.own now.own same.own s p was.pool.pool is.place);
  phase = subst (λ (phase : Phase). IsIn phase p) (sym same.phase) is.phase;
  asked = subst (λ a. IsPerceivedOf a p) (sym same.asked) is.asked;
  said = is.said ∙ sym same.said;
  signed = record {
    few = subst (λ cs. now.said_from ≤ length cs) (sym same.said)
        (subst (λ k. k ≤ length was.said.claims) (sym same.said_from) is.signed.few);
    whole = is.signed.whole ∙ (λ i. claims_of (sym same.said_before i) ++ drop (sym same.said_from i) (sym same.said i));
  };
  pairs = is.pairs ∙ sym same.pairs;
  kept = record {
    numbers = is.kept.numbers;
    previous = is.kept.previous ∙ sym same.previous;
    commits = is.kept.commits ∙ sym same.commits;
  };
  account = is.account ∙ sym same.account;
}

-- ---- which view was left is kept beside all this

module _ (b : Before) (was now : ProcessState) (l : Option LeftView) where
  stands_so : Stays b was now → Stays b was (record now { left = l })
  stands_so is = record {
    kept = is.kept;
    pool = is.pool;
    slots = is.slots;
    said = is.said;
    said_from = is.said_from;
    said_before = is.said_before;
    pairs = is.pairs;
    previous = is.previous;
    commits = is.commits;
    account = is.account;
    limit = is.limit;
  }

  has_so : (left : LeftView) → HasLeft b was left now → HasLeft b was left (record now { left = l })
  has_so left is = record {
    kept = is.kept;
    pool = is.pool;
    slots = is.slots;
    last = is.last;
    said = is.said;
    said_from = is.said_from;
    said_before = is.said_before;
    pairs = is.pairs;
    previous = is.previous;
    commits = is.commits;
    account = is.account;
    limit = is.limit;
  }

  pub since_so : (o : Option LeftView) → MatchOption o (Stays b was now) (λ left. HasLeft b was left now)
      → MatchOption o (Stays b was (record now { left = l })) (λ left. HasLeft b was left (record now { left = l }))
  since_so None is = stands_so is
  since_so (Some left) is = has_so left is
