-- The state of a process that starts.
use Rattle.std.proofs.Common.{◌≡◌, ℕ, ◌+◌, ◌≤◌, List, [], ◌++◌, drop, length, Option, None, Some, true, false, refl, sym, ap, subst, ◌∙◌, arith}
use Rattle.std.specs.Prelude.{All, AllPairs}
use Rattle.std.proofs.lemmas.List.Elements.{All-nil}
use Rattle.message_defs.specs.Limits.{most_members, most_messages, most_places}
use Rattle.message_defs.specs.Statements.{Claim}
use Rattle.message_defs.specs.Updates.{Update}
use Rattle.group_defs.specs.Views.{View, IsView, is_member}
use Rattle.message_defs.specs.Spelling.{IsClaim, IsViewNumber}
use Rattle.group_defs.specs.Process.{Setting, Pool, Process, Left, start}
use Rattle.group_defs.specs.Accounts.{account_of}
use Rattle.own_place.specs.Words.{empty_pool}
use Rattle.own_place.specs.Owns.{IsOwnOf}
use Rattle.ending_rules.specs.Perceiving.{IsPerceivedOf}
use Rattle.view_phases.specs.Phases.{IsIn}
use Rattle.accounts.specs.Views.{account}
use Rattle.own_moves.specs.Lawful.{IsLawful}
use Rattle.own_moves.proofs.Lawful.{start_is_lawful}
use Rattle.member_state.specs.Bounds.{AreFew, IsBounded}
use Rattle.member_state.specs.States.{IsStateOf, claims_of}
use Rattle.member_state.specs.declared.state.ProcessState.{ProcessState}

-- the parts of a state that starts
pub record IsFirst (s : Setting) (p : Process) (st : ProcessState) : Type 0 where
  pub limit : p.batch_limit ≡ st.batch_limit
  pub pool : st.pool.pool ≡ empty_pool s.genesis
  pub place : IsOwnOf s p (empty_pool s.genesis) st.own
  pub phase : IsIn st.phase p
  pub asked : IsPerceivedOf st.perceived p
  pub said : st.said.claims ≡ []
  pub said_from : st.said_from ≡ 0
  pub said_before : st.said_before.items ≡ []
  pub pairs : st.conflicts.pairs ≡ []
  pub previous : st.archive.previous ≡ None
  pub commits : st.archive.commits ≡ []
  pub account : account_of p ≡ account st.account

none-bounded : (s : Setting) (me limit : ℕ) → IsBounded (start s me limit)
none-bounded s me limit = record {
  now = record { places = omega arith; messages = omega arith };
  before = All-nil (λ (v : Left). AreFew v.delivered);
  backlog = omega arith;
}

pub starts : (s : Setting) (me limit : ℕ) (st : ProcessState) → 1 ≤ limit → limit ≤ 16 → IsViewNumber s.genesis.number → IsView s.genesis
    → s.genesis.number ≡ 0 → IsFirst s (start s me limit) st → IsStateOf s (start s me limit) st
starts s me limit st some few number view zero is = record {
  lawful = start_is_lawful s me limit few number view;
  bounded = none-bounded s me limit;
  number = zero;
  some = some;
  decided = λ d e. absurd cc;
  each = record {
    same = All-nil (λ (pair : Claim × Claim). pair.0.signer ≡ pair.1.signer);
    once = λ i j d lt within. absurd (omega (arith, within));
  };
  asked_for = All-nil (λ (e : ℕ × Update). e.0 ≤ s.genesis.number);
  halted_member = λ e. absurd cc;
  halted_beyond = λ e. absurd cc;
  ranged = record {
    pairs_ranged = All-nil (λ (pair : Claim × Claim). IsClaim pair.0 × IsClaim pair.1);
    commits_ranged = All-nil (λ (l : Left). All IsClaim l.commit);
    commits_few = All-nil (λ (l : Left). length l.commit ≤ most_members);
    previous_ranged = λ (h : Pool) none. absurd cc;
  };
  limit = is.limit;
  place = subst (λ h. IsOwnOf s (start s me limit) h st.own) (sym is.pool) is.place;
  phase = is.phase;
  asked = is.asked;
  said = sym is.said;
  signed = record {
    few = (let from = is.said_from in omega (arith, from));
    whole = λ i. claims_of (sym is.said_before i) ++ drop (sym is.said_from i) (sym is.said i);
  };
  pairs = sym is.pairs;
  kept = record { numbers = refl; previous = sym is.previous; commits = sym is.commits };
  account = is.account;
}
