-- What was read of a kit so far, as plain data, and what holds of it whatever lines were taken.
use Rattle.std.specs.Prelude.{◌≡◌, ℕ, ◌≤◌, List, length, Option, Some, is_some, option_map, IsTrue}
use Rattle.std.specs.List.{AllByRecursion}
use Rattle.sig_scheme.specs.declared.any_scheme.AnyScheme.{AnyScheme}
use Rattle.sig_scheme.specs.Views as views
use Rattle.kit_defs.specs.Kits.{key_length}
use Rattle.kit_defs.specs.KitReading.{Draft}
use Rattle.kit_file.specs.declared.parts.Host.{Host}
use Rattle.kit_file.specs.Views.{hosts, AreRising}
use Rattle.kit_lines.specs.declared.reported.Version.{Version}
use Rattle.kit_lines.specs.LineViews as lines

abbrev pub draft : Option Version → Option AnyScheme → Option (List ℕ) → List (ℕ × List ℕ) → List ℕ → List (ℕ × ℕ) → List Host → Draft
draft version scheme group keys genesis ports hs = record {
  version = option_map lines.version version;
  scheme = option_map views.scheme scheme;
  group = group;
  keys = keys;
  genesis = genesis;
  ports = ports;
  hosts = hosts hs;
}

-- the number of a process
abbrev pub IsNumber : ℕ → Type 0
IsNumber p = p ≤ 63

pub record IsDraft (d : Draft) : Type 0 where
  -- the scheme was read where the group was
  pub reported_first : IsTrue (is_some d.group) → IsTrue (is_some d.scheme)
  -- and where a key does, whose length is the scheme's
  pub keys : AllByRecursion (λ k. IsNumber k.0 × (Some (length k.1) ≡ option_map key_length d.scheme)) d.keys
  pub ports : AllByRecursion (λ p. IsNumber p.0) d.ports
  pub hosts : AllByRecursion (λ h. IsNumber h.process × AllByRecursion (λ p. IsNumber p.0) h.pairs) d.hosts
  pub rising : AreRising d.hosts
