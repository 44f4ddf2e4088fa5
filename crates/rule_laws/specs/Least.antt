-- The least statement of a kind that is due, as a walk finds it.
-- Names here (* for this crate alone):
--   signable*, first_signable*, StandBefore*, IsWalk*, FirstIsLeast*, LeastOfAll*, NoneOfAll*, EachHasItsPlace*, LeastIsFirst*
--   where none is due at all: OutsiderSignsNone*, is_of_open_view, EndedSignsNone*
--   where each number has one statement: may_at*, IsNumbered*, LeastNumber*
use Rattle.pool_laws.specs.Least.{IsLeastBelow}
use Rattle.std.specs.Prelude.{◌≡◌, ◌⊎◌, ℕ, ◌<◌, Bool, true, false, IsTrue, IsFalse, if◌then◌else◌, List, AllPairs, Contains, Option, Some, None, option_and_then}
use Rattle.group_defs.specs.Below.{first_some, is_some_and, numbers_below, Statement}
use Rattle.group_defs.specs.Process.{Kind, Echoes, Orders, Places, Keeps, Setting, Process}
use Rattle.group_defs.specs.Views.{View, is_member}
use Rattle.group_defs.specs.Certified.{is_ended}
use Rattle.rule_laws.specs.Heard.{IsPool}
use Rattle.group_defs.specs.Due.{may_sign, due_numbers, kind_of, least_due}

-- the statement, where it may be signed
abbrev pub signable : Setting → Process → Option Statement → Option Statement
signable s p o = option_and_then (λ st. if may_sign s p st then Some st else None) o

-- the first statement of the walk that may be signed; each place of it has one at most
abbrev pub first_signable : Setting → Process → List (Option Statement) → Option Statement
first_signable s p walk = first_some (signable s p) walk

-- where both are there, the one comes before the other in the order of what is due
abbrev pub StandBefore : View → Option Statement → Option Statement → Type 0
StandBefore v a b = (st other : Statement) → a ≡ Some st → b ≡ Some other → IsTrue (numbers_below (due_numbers v st) (due_numbers v other))

-- the walk has statements of this kind, each before those after it, and all of them that may be signed
pub record IsWalk (s : Setting) (p : Process) (kind : Kind) (walk : List (Option Statement)) : Type 0 where
  pub kinds : (st : Statement) → Contains walk (Some st) → kind_of st ≡ kind
  pub rising : AllPairs (StandBefore p.pool.view) walk
  pub whole : (st : Statement) → IsTrue (may_sign s p st) → kind_of st ≡ kind → Contains walk (Some st)

-- what the walk finds first is the least that is due
abbrev pub FirstIsLeast : Type 0
FirstIsLeast = (s : Setting) (p : Process) (kind : Kind) (walk : List (Option Statement)) → IsWalk s p kind walk
    → least_due s p kind ≡ first_signable s p walk

-- a statement that may be signed, and comes before each other one of its kind that may be, is the least that is due
abbrev pub LeastOfAll : Type 0
LeastOfAll = (s : Setting) (p : Process) (st : Statement) → IsTrue (may_sign s p st)
    → ((other : Statement) → IsTrue (may_sign s p other) → kind_of other ≡ kind_of st
    → (other ≡ st) ⊎ IsTrue (numbers_below (due_numbers p.pool.view st) (due_numbers p.pool.view other)))
    → least_due s p (kind_of st) ≡ Some st

-- where none of a kind may be signed, none is due
abbrev pub NoneOfAll : Type 0
NoneOfAll = (s : Setting) (p : Process) (kind : Kind) → ((st : Statement) → kind_of st ≡ kind → IsFalse (may_sign s p st))
    → least_due s p kind ≡ None

-- of a kind, the statements that may be signed have each a place of their own in the order of what is due
abbrev pub EachHasItsPlace : Type 0
EachHasItsPlace = (s : Setting) (p : Process) (st other : Statement) → IsPool p.pool → IsTrue (may_sign s p st)
    → IsTrue (may_sign s p other) → kind_of st ≡ kind_of other
    → due_numbers p.pool.view st ≡ due_numbers p.pool.view other → st ≡ other

-- so one that may be signed, and has none of its kind before it that may be, is the least that is due
abbrev pub LeastIsFirst : Type 0
LeastIsFirst = (s : Setting) (p : Process) (st : Statement) → IsPool p.pool → IsTrue (may_sign s p st)
    → ((other : Statement) → IsTrue (may_sign s p other) → kind_of other ≡ kind_of st
    → IsFalse (numbers_below (due_numbers p.pool.view other) (due_numbers p.pool.view st)))
    → least_due s p (kind_of st) ≡ Some st

-- ---- where none is due at all

-- one who is no member of its view signs nothing in it
abbrev pub OutsiderSignsNone : Type 0
OutsiderSignsNone = (s : Setting) (p : Process) (kind : Kind) → IsFalse (is_member p.pool.view p.me) → least_due s p kind ≡ None

-- these are signed before the own End alone
abbrev pub is_of_open_view : Kind → Bool
is_of_open_view Echoes = true
is_of_open_view Orders = true
is_of_open_view Places = true
is_of_open_view Keeps = true
is_of_open_view _ = false

-- and none of them after it
abbrev pub EndedSignsNone : Type 0
EndedSignsNone = (s : Setting) (p : Process) (kind : Kind) → IsTrue (is_ended p) → IsTrue (is_of_open_view kind) → least_due s p kind ≡ None

-- ---- where each number has one statement

-- the statement of this number may be signed
abbrev pub may_at : Setting → Process → (ℕ → Option Statement) → ℕ → Bool
may_at s p at k = is_some_and (at k) (may_sign s p)

-- the statements of the numbers are of this kind and in order, and all that may be signed have a number below n
pub record IsNumbered (s : Setting) (p : Process) (kind : Kind) (at : ℕ → Option Statement) (n : ℕ) : Type 0 where
  pub kinds : (k : ℕ) (st : Statement) → at k ≡ Some st → kind_of st ≡ kind
  pub rising : (i j : ℕ) → i < j → StandBefore p.pool.view (at i) (at j)
  pub whole : (st : Statement) → IsTrue (may_sign s p st) → kind_of st ≡ kind → (k : ℕ) × (k < n) × (at k ≡ Some st)

-- the least that is due is that of the least number whose statement may be signed
abbrev pub LeastNumber : Type 0
LeastNumber = (s : Setting) (p : Process) (kind : Kind) (at : ℕ → Option Statement) (n : ℕ) (o : Option ℕ) → IsNumbered s p kind at n
    → IsLeastBelow n (may_at s p at) o → least_due s p kind ≡ option_and_then at o
