-- Which process a host is, and what is in a place.
use Rattle.std.specs.Prelude.{◌≡◌, ℕ, false, Option, None, Some, IsTrue}
use Rattle.byte_defs.specs.Members.{has}
use Rattle.group_defs.specs.Process.{Process}
use Rattle.kit_defs.specs.Kits.{Kit}
use Rattle.sig_scheme.specs.declared.any_signer.AnySigner.{AnySigner}
use Rattle.sig_scheme.specs.Signers.{used, total, signature}
use Rattle.auth_link.specs.Keys.{known}
use Rattle.hosted_core.specs.Cores.{IsCore, me_of, signer_of}
use Rattle.hosted_core.specs.declared.hosted.Hosted.{Hosted}
use Rattle.hosted_core.specs.Hosts.{core_of}
use Rattle.node_defs.specs.Casts.{Cast, known_of}
use Rattle.node_hosts.specs.declared.host.Host.{Host}

-- the number of the process that a host has
abbrev pub number_of : Host → ℕ
number_of h = me_of (core_of h.process)

-- This is process p of the cast, as it is now: it signs with the cast's signer, with as many signatures as the process has signed
-- statements.
pub record IsHosted (c : Cast) (p : ℕ) (now : Process) (h : Hosted AnySigner) : Type 0 where
  pub core : IsCore used c.setting now (core_of h)
  pub number : now.me ≡ p
  pub total : total (signer_of (core_of h)) ≡ c.total p
  pub signs : signature (signer_of (core_of h)) ≡ c.signer p

-- the host is process p of the cast, with the keys and the port that the kit gives it
pub record IsHost (c : Cast) (kit : Kit) (p : ℕ) (now : Process) (h : Host) : Type 0 where
  pub process : IsHosted c p now h.process
  pub keys : known h.keys ≡ known_of kit p
  pub port : c.port p ≡ h.port

-- the place of p has its host, and nothing where it is not hosted
abbrev pub IsPlace : Cast → Kit → ℕ → Process → Option Host → Type 0
IsPlace c kit p now None = has c.hosted p ≡ false
IsPlace c kit p now (Some h) = IsTrue (has c.hosted p) × IsHost c kit p now h
