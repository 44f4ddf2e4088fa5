-- Which process of the definitions a state is.
-- Names here (* for this crate alone):
--   signed_here, claims_of, IsSigned, IsDecision, ArePairs, AreRanged, IsStateOf, HasProcess, IsReal, StartsWith*
--   what is reported of it: signers_in*, liars_of, kept_of, halted_at
use Rattle.std.specs.Prelude.{◌≡◌, ◌≢◌, ℕ, ◌<◌, ◌≤◌, ◌==◌, true, List, [], ◌∷◌, ◌++◌, length, drop, filter, find, All, AllPairs, Option, Some, None, option_and_then, if◌then◌else◌, IsTrue}
use Rattle.std.specs.List.{flat_map}
use Rattle.message_defs.specs.Limits.{most_members}
use Rattle.message_defs.specs.Updates.{Value}
use Rattle.message_defs.specs.Statements.{Claim, ReadyAt, view_of}
use Rattle.message_defs.specs.Spelling.{IsClaim}
use Rattle.group_defs.specs.Views.{View, is_member, is_possible}
pub use Rattle.group_defs.specs.Process.{liars_of, signers_in}
use Rattle.group_defs.specs.Process.{Setting, Pool, Left, Process, keyed, places_in}
use Rattle.group_defs.specs.Certified.{value_at}
use Rattle.group_defs.specs.Accounts.{account_of}
use Rattle.own_place.specs.Owns.{IsOwnOf}
use Rattle.ending_rules.specs.Perceiving.{IsPerceivedOf}
use Rattle.view_phases.specs.Phases.{IsIn}
use Rattle.reliable_mcast.specs.Archives.{Keeps}
use Rattle.own_moves.specs.Lawful.{IsLawful}
use Rattle.accounts.specs.Views.{account}
use Rattle.member_state.specs.Bounds.{IsBounded}
use Rattle.member_state.specs.declared.left.SaidBefore.{SaidBefore}
use Rattle.member_state.specs.declared.state.ProcessState.{ProcessState}

-- what the process signed in its current view, in order of signing
abbrev pub signed_here : Process → List Claim
signed_here p = filter (λ c. view_of c.statement == p.pool.view.number) p.signed

-- the claims of these lists, one list after another, of each those that are in no list before it
abbrev pub claims_of : List SaidBefore → List Claim
claims_of lists = flat_map (λ l. drop l.from l.claims.claims) lists

-- All that was signed, in order of signing: the claims of these lists, then what was said in the current view, but for the first `from`,
-- which are in the lists too.
pub record IsSigned (signed : List Claim) (before : List SaidBefore) (from : ℕ) (said : List Claim) : Type 0 where
  pub few : from ≤ length said
  pub whole : signed ≡ claims_of before ++ drop from said

-- what is decided is a certified Ready's, and its update is possible
pub record IsDecision (s : Setting) (p : Process) (d : ℕ × Value) : Type 0 where
  pub certified : value_at p.pool (ReadyAt p.pool.view.number d.0) ≡ Some d.1
  pub possible : IsTrue (is_possible (keyed s) p.pool.view d.1.update)

-- in each pair of conflicting claims both are of one signer, and no signer has two pairs
pub record ArePairs (pairs : List (Claim × Claim)) : Type 0 where
  pub same : All (λ pair. pair.0.signer ≡ pair.1.signer) pairs
  pub once : AllPairs (λ a b. a.1.signer ≢ b.1.signer) pairs

-- what is kept of others is in range: each claim of these conflicts, of the commit certificates of the views that were left, which have at
-- most 16, and of the pool of the view before
pub record AreRanged (pairs : List (Claim × Claim)) (left : List Left) (previous : Option Pool) : Type 0 where
  pub pairs_ranged : All (λ pair. IsClaim pair.0 × IsClaim pair.1) pairs
  pub commits_ranged : All (λ (l : Left). All IsClaim l.commit) left
  pub commits_few : All (λ (l : Left). length l.commit ≤ most_members) left
  pub previous_ranged : (h : Pool) → previous ≡ Some h → All IsClaim h.heard

-- The state st is that of process p in this setting: each part of it keeps what is the process's. And of p holds what holds of
-- every process that came to be by events: it is lawful and bounded, its view has as number how many views it left, what it
-- decided is certified, its conflicts are one pair of a signer, what it perceived is of views up to its own, it has halted
-- only as a member, beyond its cut, and what it keeps of others is in range.
pub record IsStateOf (s : Setting) (p : Process) (st : ProcessState) : Type 0 where
  pub lawful : IsLawful p
  pub bounded : IsBounded p
  pub number : p.pool.view.number ≡ length p.left
  pub some : 1 ≤ p.batch_limit
  pub decided : (d : ℕ × Value) → p.decision ≡ Some d → IsDecision s p d
  pub each : ArePairs p.conflicts
  pub asked_for : All (λ e. e.0 ≤ p.pool.view.number) p.perceived
  pub halted_member : p.halted ≡ true → is_member p.pool.view p.me ≡ true
  pub halted_beyond : p.halted ≡ true → (d : ℕ × Value) → p.decision ≡ Some d → d.1.cut < places_in p.delivered
  pub ranged : AreRanged p.conflicts p.left p.previous
  pub limit : p.batch_limit ≡ st.batch_limit
  pub place : IsOwnOf s p st.pool.pool st.own
  pub phase : IsIn st.phase p
  pub asked : IsPerceivedOf st.perceived p
  pub said : signed_here p ≡ st.said.claims
  pub signed : IsSigned p.signed st.said_before.items st.said_from st.said.claims
  pub pairs : p.conflicts ≡ st.conflicts.pairs
  pub kept : Keeps st.archive p
  pub account : account_of p ≡ account st.account

-- a process that has this state, and its setting
pub record HasProcess (st : ProcessState) : Type 0 where
  pub setting : Setting
  pub process : Process
  pub state : IsStateOf setting process st

-- some process has this state; which one is left open
abbrev pub IsReal : ProcessState → Type 0
IsReal st = ∥ HasProcess st ∥₁

-- the setting has these keys and this genesis view
pub record StartsWith (s : Setting) (listed : List (ℕ × List ℕ)) (first : View) : Type 0 where
  pub keys : s.roster ≡ listed
  pub genesis : s.genesis ≡ first

-- ---- what is reported of it

-- the pair that is kept of the signer q
abbrev pub kept_of : ℕ → List (Claim × Claim) → Option (Claim × Claim)
kept_of q pairs = find (λ pair. pair.0.signer == q) pairs

-- where it has halted, how many places it delivered, and the cut
abbrev pub halted_at : Process → Option (ℕ × ℕ)
halted_at p = option_and_then (λ d. if p.halted then Some (places_in p.delivered, d.1.cut) else None) p.decision
