-- Which process it is whose statements are asked for.
use Rattle.std.specs.Prelude.{◌≡◌, ℕ, ◌≤◌, length}
use Rattle.group_defs.specs.Process as defs
use Rattle.group_defs.specs.Process.{Setting, Process}
use Rattle.group_defs.specs.Certified.{number_of_members}
use Rattle.rule_laws.specs.Heard.{IsPool}
use Rattle.rank_rules.specs.Perceived.{IsOwnOf, IsPerceivedOf}
use Rattle.due_statements.specs.declared.inputs.RuleInputs.{RuleInputs}
use Rattle.due_statements.specs.declared.kind.Kind.{Kind}
use Rattle.due_statements.specs.declared.kind.Kind.TheVariants as kinds

-- the kind
abbrev pub kind_of : Kind → defs.Kind
kind_of kinds.Init = defs.Inits
kind_of kinds.Echo = defs.Echoes
kind_of kinds.Order = defs.Orders
kind_of kinds.Place = defs.Places
kind_of kinds.Keep = defs.Keeps
kind_of kinds.Notify = defs.Notifies
kind_of kinds.End = defs.Ends
kind_of kinds.Ready = defs.Readies
kind_of kinds.Last = defs.Lasts
kind_of kinds.Suggest = defs.Suggests
kind_of kinds.Ack = defs.Acks

-- the own place has an entry for each member, and a batch has a limit of 1 to 16
pub record IsSeated (of : RuleInputs) : Type 0 where
  pub counts : length of.own.now.counts.items ≡ number_of_members of.pool.now.pool
  pub orders : length of.own.now.orders.items ≡ number_of_members of.pool.now.pool
  pub some : 1 ≤ of.batch_limit
  pub few : of.batch_limit ≤ 16

-- what the rules look at is of this process
pub record IsAskedOf (s : Setting) (p : Process) (of : RuleInputs) : Type 0 where
  pub pool : IsPool of.pool.now.pool
  pub place : IsOwnOf s p of.pool.now.pool of.own.now
  pub asked : IsPerceivedOf of.perceived.now p
  pub accepted : p.accepted ≡ of.accepted.now
  pub few : length of.accepted.now ≤ 4294967295
  pub limit : p.batch_limit ≡ of.batch_limit
