-- A journal, as clauses see it.
use Rattle.std.specs.Prelude.{ℕ}
use Rattle.journal_defs.specs.declared.Version.{Version}
use Rattle.journal_rp.specs.declared.journal.Journal.{Journal}

-- the place of the gate at which it is
abbrev pub gate_of : {S : Type 0} → Journal S → ℕ
gate_of j = j.gate

-- how many bytes the disk has
abbrev pub len_of : {S : Type 0} → Journal S → ℕ
len_of j = j.len

abbrev pub version_of : {S : Type 0} → Journal S → Version
version_of j = j.version
