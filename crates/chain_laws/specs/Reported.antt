-- What the answer to a chain's bytes says, and what its views have to do with those of the group.
use Rattle.std.specs.Prelude.{◌≡◌, ◌⊎◌, ℕ, ◌+◌, ◌≤◌, List, [], ◌∷◌, length, flat_map, All, Some, None, Ok, slice_get}
use Rattle.text_defs.specs.Words.{parts_of}
use Rattle.input_defs.specs.Fronts.{Front, front_of}
use Rattle.group_defs.specs.Views.{View}
use Rattle.group_defs.specs.Family.{Family}
use Rattle.group_defs.specs.Laws.{Premises, IsViewOfAll}
use Rattle.chain_defs.specs.Advance.{views_shown}
use Rattle.chain_text_defs.specs.Chains.{Answer, behind, chain_of, done, proof_in, setting_of, stopped, view_line}
use Rattle.chain_laws.specs.Chains.{IsOwnWord, IsInstalled}

-- ---- the chain that bytes spell

-- the frames of lines, up to the first line that is no proof; what comes after the last line feed is no line
unfoldable pub proofs_in : List (List ℕ) → List (List ℕ)
proofs_in [] = []
proofs_in (rest ∷ []) = []
proofs_in (line ∷ next ∷ more) = elim (proof_in line) [ None ↦ [] | Some frame ↦ frame ∷ proofs_in (next ∷ more) ]

-- the proofs after a kit
abbrev pub proofs_behind : Front → List (List ℕ)
proofs_behind front = proofs_in (parts_of front.rest)

-- the kit's first view, and those that its proofs show one after the other
abbrev pub views_behind : Front → List View
views_behind front = let s = setting_of front.kit in s.genesis ∷ views_shown s s.genesis (proofs_behind front)

-- ---- what is said of it

-- nothing more is written, or the line that says why there is no further view
abbrev pub IsEnd : Answer → Type 0
IsEnd a = (a ≡ done) ⊎ ((words : List (List ℕ)) × (a ≡ stopped words))

-- A family of the kit's group under the premises of agreement, and the proofs say of its correct processes what is their own word.
pub record IsQuoted (front : Front) (f : Family) : Type 0 where
  pub of_kit : f.setting ≡ setting_of front.kit
  pub premises : Premises f
  pub own : All (IsOwnWord f) (proofs_behind front)

-- For bytes with a kit in front: the answer is the line of each view of the chain in order, and then at most the line of a stop. Each of
-- these views is the one that every correct process with a view of its number has, and each but the last one was installed by a correct
-- process, where there is one.
pub record ReportsViews (bytes : List ℕ) (front : Front) : Type 0 where
  pub end : Answer
  pub ends : IsEnd end
  pub lines : chain_of bytes ≡ behind (flat_map view_line (views_behind front)) end
  pub of_all : (f : Family) → IsQuoted front f → All (IsViewOfAll f) (views_behind front)
  pub installed : (f : Family) (i : ℕ) (a b : View) → IsQuoted front f → 1 ≤ length f.correct
      → slice_get (views_behind front) i ≡ Some a → slice_get (views_behind front) (i + 1) ≡ Some b → IsInstalled f a

-- what the answer to bytes says, where they begin with a kit
abbrev pub AnswerReports : List ℕ → Type 0
AnswerReports bytes = (front : Front) → front_of bytes ≡ Ok front → ReportsViews bytes front

-- this holds of any bytes
abbrev pub AnswersReportViews : Type 0
AnswersReportViews = (bytes : List ℕ) → AnswerReports bytes
