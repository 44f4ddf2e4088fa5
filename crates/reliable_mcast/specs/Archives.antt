-- What is kept of the views that were left.
use Rattle.std.specs.Prelude.{◌≡◌, List, length, Option, Some, map, IsOk}
use Rattle.std.specs.List.{AllByRecursion, range_with_len}
use Rattle.message_defs.specs.Reading.{statement_of}
use Rattle.message_defs.specs.Packing.{Signed}
use Rattle.group_defs.specs.Process.{Pool, Process}
use Rattle.sent_claims.specs.Certificates.{all_signed, IsRanged}

-- the pool of the view that was left last, what of that was heard at its mark, and the commit certificates of the views 0, 1, 2 and so on
pub record Archived : Type 0 where
  pub previous : Option Pool
  pub marked : Option Pool
  pub commits : List (List Signed)

-- the archive is that of this process: the pool before the current one, and the commit certificates of the views that it left
pub record Keeps (a : Archived) (p : Process) : Type 0 where
  -- the views that it left are numbered 0, 1, 2 and so on
  pub numbers : map (λ v. v.view.number) p.left ≡ range_with_len 0 (length p.left)
  pub previous : p.previous ≡ a.previous
  pub commits : map (λ v. all_signed v.commit) p.left ≡ a.commits

-- ---- how it is kept

-- the bytes of a kept claim's statement are a statement's
abbrev pub IsReadable : Signed → Type 0
IsReadable c = IsOk (statement_of c.statement)

abbrev pub AreReadable : List Signed → Type 0
AreReadable cs = AllByRecursion IsReadable cs

-- each claim that is kept can be read, and what was heard in the previous view is in its ranges
pub record AreKept (previous : Option Pool) (commits : List (List Signed)) : Type 0 where
  pub ranged : (h : Pool) → previous ≡ Some h → IsRanged h
  pub readable : AllByRecursion AreReadable commits
