-- What the answer to a chain says that may begin at any view, and what its views have to do with those of the group.
use Rattle.std.specs.Prelude.{◌≡◌, ℕ, ◌+◌, ◌≤◌, List, [], ◌∷◌, ◌++◌, length, map, take, drop, codes, flat_map, All, Some, None, Ok, slice_get}
use Rattle.std.specs.List.{AllByRecursion, join_with_byte}
use Rattle.std.specs.Fmt.{decimal}
use Rattle.text_defs.specs.Words.{parts_of, space}
use Rattle.message_defs.specs.Limits.{last_number, last_process}
use Rattle.input_defs.specs.Fronts.{Front, front_of}
use Rattle.group_defs.specs.Views.{View}
use Rattle.group_defs.specs.Process.{Process, Setting, views_of}
use Rattle.group_defs.specs.Family.{Family}
use Rattle.group_defs.specs.Laws.{IsViewOfAll, Premises}
use Rattle.chain_defs.specs.Advance.{views_shown}
use Rattle.chain_text_defs.specs.Chains.{Answer, behind, setting_of, view_line}
use Rattle.chain_laws.specs.Chains.{IsInstalled, IsOwnWord}
use Rattle.chain_laws.specs.Reported.{IsEnd, proofs_in}
use Rattle.proof_defs.specs.Lines.{proof_line}
use Rattle.proof_defs.specs.Laws.{Began, HasFrame}
use Rattle.proof_defs.specs.Starts.{start_in, started_chain_of}

-- ---- the chain that bytes spell

-- the view that a chain begins with, and the lines of its proofs
pub record Start : Type 0 where
  pub view : View
  pub lines : List (List ℕ)

-- of the lines after a kit: the view of the first one, or the kit's first view where that is no line of a view
unfoldable pub start_of : Setting → List (List ℕ) → Start
start_of s [] = record { view = s.genesis; lines = [] }
start_of s (rest ∷ []) = record { view = s.genesis; lines = rest ∷ [] }
start_of s (line ∷ next ∷ more) = elim (start_in s line) [
  | None ↦ record { view = s.genesis; lines = line ∷ next ∷ more }
  | Some v ↦ record { view = v; lines = next ∷ more }
]

-- what a kit is followed by
abbrev pub start_behind : Front → Start
start_behind front = start_of (setting_of front.kit) (parts_of front.rest)

-- the view that it begins with, and those that its proofs show one after another
abbrev pub views_from : Setting → Start → List View
views_from s b = b.view ∷ views_shown s b.view (proofs_in b.lines)

-- ---- what is said of it

-- A family of the kit's group under the premises of agreement, and the proofs say of its correct processes what is their own word.
pub record IsQuotedFrom (front : Front) (f : Family) : Type 0 where
  pub of_kit : f.setting ≡ setting_of front.kit
  pub premises : Premises f
  pub own : All (IsOwnWord f) (proofs_in (start_behind front).lines)

-- For bytes with a kit in front: the answer is the line of each view of the chain in order, and then at most the line of a stop. Where the
-- first of these views is the one that every correct process with a view of its number has, so is each; and where a correct process has
-- installed the first one, one has installed each but the last.
pub record ReportsViewsFrom (bytes : List ℕ) (front : Front) : Type 0 where
  pub end : Answer
  pub ends : IsEnd end
  pub lines : started_chain_of bytes ≡ behind (flat_map view_line (views_from (setting_of front.kit) (start_behind front))) end
  pub of_all : (f : Family) → IsQuotedFrom front f → IsViewOfAll f (start_behind front).view
      → All (IsViewOfAll f) (views_from (setting_of front.kit) (start_behind front))
  pub installed : (f : Family) (i : ℕ) (a b : View) → IsQuotedFrom front f → IsInstalled f (start_behind front).view
      → slice_get (views_from (setting_of front.kit) (start_behind front)) i ≡ Some a
      → slice_get (views_from (setting_of front.kit) (start_behind front)) (i + 1) ≡ Some b → IsInstalled f a

abbrev pub StartsReportViews : Type 0
StartsReportViews = (bytes : List ℕ) (front : Front) → front_of bytes ≡ Ok front → ReportsViewsFrom bytes front

-- ---- lines of a process

-- the line of a view without its line feed
abbrev pub without_feed : View → List ℕ
without_feed v = join_with_byte space (codes "view" ∷ decimal v.number ∷ codes ":" ∷ map decimal v.members)

-- a view whose line is read as it: in range, and with a key for each member
pub record HasViewLine (s : Setting) (v : View) : Type 0 where
  pub number : v.number ≤ last_number
  pub members : AllByRecursion (λ m. m ≤ last_process) v.members
  pub read : start_in s (without_feed v) ≡ Some v

-- Yesterday's last line is today's first one: after a kit of the process's setting and the line of any view that it installed, `witness chain`
-- takes the lines of as many of the views from there on as have one frame each, and says just these views and the one after them. So a chain
-- goes on after a line that is large, from the view that the process installed there.
abbrev pub LinesGoOn : Type 0
LinesGoOn = (front : List ℕ) (f : Front) (p : Process) (i n : ℕ) (v : View) → front_of front ≡ Ok f → f.rest ≡ [] → Began (setting_of f.kit) p
    → slice_get (views_of p) i ≡ Some v → HasViewLine (setting_of f.kit) v → i + n ≤ length p.left → All HasFrame (take n (drop i p.left))
    → started_chain_of (front ++ (view_line v ++ flat_map (proof_line p.me) (take n (drop i p.left))))
    ≡ record { written = flat_map view_line (take (n + 1) (drop i (views_of p))); status = 0 }
