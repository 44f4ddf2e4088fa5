-- How an image's process left its views, as a member asks for it.
use Rattle.std.specs.Prelude.{◌≡◌, [], map, Option}
use Rattle.message_defs.specs.Statements.{Ready}
use Rattle.group_defs.specs.Process.{Setting, Pool}
use Rattle.group_defs.specs.Certified.{certificate}
use Rattle.image_defs.specs.Images.{Image, LeftView, previous_from, process_of}
use Rattle.image_defs.specs.Kept.{AreLeft, CommitsLast, WasHeard}
use Rattle.member_state.specs.Parts.{Archived, all_signed}

-- the pool of the view that was left last
abbrev pub before : Setting → Image → Option Pool
before s i = previous_from s.genesis i.previous i.left

-- how the views were left, and what was heard in the last of them
pub record IsLeftSo (s : Setting) (i : Image) : Type 0 where
  pub left : AreLeft s s.genesis i.left
  pub last : CommitsLast (before s i) i.left
  pub none_before : i.left ≡ [] → i.previous ≡ []
  pub was_heard : WasHeard s (process_of s 1 i) (before s i)

-- the view of this pool was left by the certificate that the pool gives
abbrev pub Commits : Pool → LeftView → Type 0
Commits h l = l.commit ≡ certificate h (Ready h.view.number l.rank l.value)

-- the last view was left by the certificate that its pool gives, and that pool is a heard list
abbrev pub IsLastSo : Setting → Image → Type 0
IsLastSo s i = CommitsLast (before s i) i.left × WasHeard s (process_of s 1 i) (before s i)

-- the archive has the pool of the view that was left last, and the commit certificates
pub record HasPast (s : Setting) (i : Image) (a : Archived) : Type 0 where
  pub previous : before s i ≡ a.previous
  pub commits : map (λ (l : LeftView). all_signed l.commit) i.left ≡ a.commits
