-- What was read, as plain data.
use Rattle.audit_defs.specs.Inputs as plain
use Rattle.audit_input.specs.declared.reading.Input.{Input}

abbrev pub input : Input → plain.Input
input i = record { kit = i.kit; journals = i.journals.items }
