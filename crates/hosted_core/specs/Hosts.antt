-- Which process a hosted one is.
use Rattle.std.specs.Prelude.{ℕ}
use Rattle.group_defs.specs.Process.{Setting, Process}
use Rattle.member_core.specs.declared.member.Core.{Core}
use Rattle.member_core.specs.Cores.{IsCore}
use Rattle.hosted_core.specs.declared.hosted.Hosted.{Hosted}

abbrev pub core_of : {G : Type 0} → Hosted G → Core G
core_of h = h.core

-- a process of the definitions that it is, and its setting
pub record HasProcess {G : Type 0} (used : G → ℕ) (h : Hosted G) : Type 0 where
  pub setting : Setting
  pub process : Process
  pub core : IsCore used setting process (core_of h)

-- some process is this one; which one is left open
abbrev pub IsReal : {G : Type 0} → (G → ℕ) → Hosted G → Type 0
IsReal used h = ∥ HasProcess used h ∥₁
