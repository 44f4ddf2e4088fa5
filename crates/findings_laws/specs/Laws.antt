-- What serde_json writes of findings is the text of them.
use Rattle.std.specs.Prelude.{◌≡◌, false}
use Rattle.std.specs.List.{AllByRecursion}
use Rattle.hex.specs.Hex.{IsBytes}
use Rattle.serde_json.specs.Written.{compact_text, has_float}
use Rattle.audit_defs.specs.Findings.{Reported, Findings, findings_text}
use Rattle.findings_laws.specs.Values.{findings_data}

-- the statements of a conviction are bytes
abbrev pub AreBytes : Reported → Type 0
AreBytes t = IsBytes t.first × IsBytes t.second

-- The value has no float, so `to_vec` says what it writes; and that is the object, byte for byte.
abbrev pub FindingsAreCompact : Type 0
FindingsAreCompact = (f : Findings) → AllByRecursion AreBytes f.convicted
    → (has_float (findings_data f) ≡ false) × (compact_text (findings_data f) ≡ findings_text f)
