-- What `witness chain` reads: what `chain` reads, where the line after `go` may be that of a view
--   view X : M M M    its members in rank order, each with a key in the kit
-- Then the chain begins with this view in place of the kit's first one. It is what `chain` wrote last: yesterday's last line is today's first
-- one. Any other line after `go` is read as `chain` reads it, from the kit's first view on.
use Rattle.std.specs.Prelude.{ℕ, ◌+◌, ◌==◌, ◌&&◌, List, [], ◌∷◌, length, map, codes, Option, Some, None, option_map, if◌then◌else◌, Result, Ok, Err}
use Rattle.std.specs.List.{list_all}
use Rattle.byte_defs.specs.Members.{has}
use Rattle.byte_defs.specs.Equality.{same_bytes}
use Rattle.text_defs.specs.Words.{parts_of, words_of}
use Rattle.group_defs.specs.Views.{View}
use Rattle.group_defs.specs.Process.{Setting, keyed}
use Rattle.input_defs.specs.Fronts.{Front, front_of}
use Rattle.store_defs.specs.Asking.{view_by}
use Rattle.chain_text_defs.specs.Chains.{Answer, behind, chain_at, kit_words, setting_of, stopped, view_line}

-- ---- the line of a view

-- the view, where each of its members has a key
abbrev pub if_keyed : Setting → Option View → Option View
if_keyed s None = None
if_keyed s (Some v) = if list_all (has (keyed s)) v.members then Some v else None

-- the view that a line's words say
abbrev pub start_by : Setting → List (List ℕ) → Option View
start_by s [] = None
start_by s (word ∷ words) = if same_bytes word (codes "view") then if_keyed s (view_by words) else None

-- the view of a line
unfoldable pub start_in : Setting → List ℕ → Option View
start_in s line = start_by s (words_of line)

-- ---- the answer

-- the line of a view, and the answer to the lines from this number on after it
abbrev pub reported_from : Setting → ℕ → View → List (List ℕ) → Answer
reported_from s n v parts = behind (view_line v) (chain_at s n v parts)

-- the lines after a kit, from this number on: from the view of the first line, or from the kit's first view where it is no such line
unfoldable pub started_at : Setting → ℕ → List (List ℕ) → Answer
started_at s n [] = reported_from s n s.genesis []
started_at s n (rest ∷ []) = reported_from s n s.genesis (rest ∷ [])
started_at s n (line ∷ next ∷ more) = elim (start_in s line) [
  | None ↦ reported_from s n s.genesis (line ∷ next ∷ more)
  | Some v ↦ reported_from s (n + 1) v (next ∷ more)
]

-- the lines after a kit
abbrev pub started_from : Front → Answer
started_from f = started_at (setting_of f.kit) f.line (parts_of f.rest)

-- what `witness chain` answers to an input
unfoldable pub started_chain_of : List ℕ → Answer
started_chain_of bytes = elim (front_of bytes) [ Err fault ↦ stopped (kit_words fault) | Ok f ↦ started_from f ]
