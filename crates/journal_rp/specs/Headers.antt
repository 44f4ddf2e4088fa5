-- A header of the code, as plain data, and the files that begin with it.
use Rattle.std.specs.Prelude.{◌≡◌, ℕ, ◌≤◌, List, ◌++◌, length}
use Rattle.journal_defs.specs.declared.Version.{Version}
use Rattle.journal_defs.specs.declared.Version.TheVariants.{One, Two}
use Rattle.journal_defs.specs.Journals as plain
use Rattle.journal_defs.specs.Journals.{header_bytes}
use Rattle.journal_rp.specs.declared.header.Header.{Header}

abbrev pub header : Header → plain.Header
header h = record { group = h.group; hosted = h.hosted; digest = h.digest }

-- the one of this kind
abbrev pub of_kind : Version → List ℕ → List ℕ → List ℕ
of_kind One one two = one
of_kind Two one two = two

-- the file begins with this header, and goes on after it
pub record IsJournal (v : Version) (h : plain.Header) (file : List ℕ) : Type 0 where
  pub rest : List ℕ
  pub parts : file ≡ header_bytes v h ++ rest
  pub goes_on : 1 ≤ length rest
