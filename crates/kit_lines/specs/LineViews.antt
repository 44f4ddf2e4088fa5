-- Lines of a kit, as plain data, and which schemes it may have.
use Rattle.std.specs.Prelude.{Bool, option_map}
use Rattle.signature_defs.specs.Schemes.{Scheme}
use Rattle.sig_scheme.specs.Views as views
use Rattle.sig_scheme.specs.Keys.{key_bytes}
use Rattle.kit_defs.specs.Kits as plain
use Rattle.kit_defs.specs.KitReading.{may_be}
use Rattle.kit_lines.specs.declared.lines.KitLine.{KitLine}
use Rattle.kit_lines.specs.declared.lines.KitLine.TheVariants.{Version, SchemeIs, GroupIs, Key, Genesis, Port, PlainHost, LmsHost, HssHost, Pair}
use Rattle.kit_lines.specs.declared.reported.Reported.{Reported}
use Rattle.kit_lines.specs.declared.reported.Version as numbers
use Rattle.kit_lines.specs.declared.reported.Version.TheVariants.{One, Two}

abbrev pub version : numbers.Version → plain.KitVersion
version One = plain.One
version Two = plain.Two

abbrev pub line : KitLine → plain.KitLine
line (Version number) = plain.Version (version number)
line (SchemeIs scheme) = plain.SchemeIs (views.scheme scheme)
line (GroupIs group) = plain.GroupIs group
line (Key process key) = plain.Key process (key_bytes key)
line (Genesis members) = plain.Genesis members.items
line (Port process port) = plain.Port process port
line (PlainHost process total) = plain.PlainHost process total
line (LmsHost process height ots id seed) = plain.LmsHost process height ots id seed
line (HssHost process levels height ots id seed) = plain.HssHost process levels height ots id seed
line (Pair process other key) = plain.Pair process other key

-- which schemes the kit may have
abbrev pub may : Reported → Scheme → Bool
may reported = may_be (option_map version reported.version) (option_map views.scheme reported.scheme)
