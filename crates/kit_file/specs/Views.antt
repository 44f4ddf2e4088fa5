-- Kits of the code, as plain data.
use Rattle.std.specs.Prelude.{◌<◌, ℕ, List, map}
use Rattle.std.specs.List.{AllPairs}
use Rattle.kit_defs.specs.Kits as plain
use Rattle.sig_scheme.specs.declared.any_scheme.AnyScheme.{AnyScheme}
use Rattle.sig_scheme.specs.Views as views
use Rattle.kit_file.specs.declared.parts.Host.{Host}

abbrev pub host : Host → plain.Host
host h = record { process = h.process; secret = views.secret h.secret; pairs = h.pairs.items }

abbrev pub hosts : List Host → List plain.Host
hosts hs = map host hs

-- each process is below those after it
abbrev pub AreRising : List plain.Host → Type 0
AreRising hs = AllPairs (λ g h. g.process < h.process) hs

abbrev pub kit : AnyScheme → List ℕ → List (ℕ × List ℕ) → List ℕ → List (ℕ × ℕ) → List Host → plain.Kit
kit scheme group keys genesis ports hs = record {
  scheme = views.scheme scheme;
  group = group;
  keys = keys;
  genesis = genesis;
  ports = ports;
  hosts = hosts hs;
}
