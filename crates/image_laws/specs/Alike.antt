-- A process goes on in the same way in whatever order it keeps its conflicts.
-- Names here (* for this crate alone):
--   OnePairEach*, IsAlike
--   what is alike: RunsPairOnce*, InOrderIsAlike*, RestoredIsAlike*
--   what alike ones do: outcomes*, TurnIsAlike*, TurnsAreAlike*, RunIsAlike*, RunsAreAlike*
--   what is said of alike ones: ImagesAreSame*, PairsAreFound*
use Rattle.std.specs.Prelude.{◌≡◌, ◌≢◌, ℕ, ◌==◌, List, [], ◌∷◌, All, AllPairs, find}
use Rattle.message_defs.specs.Statements.{Claim}
use Rattle.group_defs.specs.Views.{IsView}
use Rattle.group_defs.specs.Process.{Setting, Process, start}
use Rattle.group_defs.specs.Events.{Turn, Outcome, after, outcome, run}
use Rattle.image_defs.specs.Images.{image_of, process_of, by_signer, in_order}

-- of each pair both claims are of one signer, and each signer has one pair
pub record OnePairEach (pairs : List (Claim × Claim)) : Type 0 where
  pub of_one : All (λ e. e.0.signer ≡ e.1.signer) pairs
  pub one_each : AllPairs (λ e d. e.0.signer ≢ d.0.signer) pairs

-- q is p, but that it may keep its conflicts in another order: by signer both have the same pairs, one of each signer
pub record IsAlike (p q : Process) : Type 0 where
  pub rest : q ≡ record p { conflicts = q.conflicts }
  pub pairs : by_signer q.conflicts ≡ by_signer p.conflicts
  pub one_each : OnePairEach p.conflicts
  pub other_each : OnePairEach q.conflicts

-- ---- what is alike

-- every process that a run makes has one pair of each signer that lied
abbrev pub RunsPairOnce : Type 0
RunsPairOnce = (s : Setting) (me batch_limit : ℕ) (turns : List Turn) → OnePairEach (run s (start s me batch_limit) turns).conflicts

-- such a process is alike with its conflicts by rising signer
abbrev pub InOrderIsAlike : Type 0
InOrderIsAlike = (p : Process) → OnePairEach p.conflicts → IsAlike p (in_order p)

-- So the image of a process that a run made gives back one that is alike.
abbrev pub RestoredIsAlike : Type 0
RestoredIsAlike = (s : Setting) (me batch_limit : ℕ) (turns : List Turn) → IsView s.genesis
    → IsAlike (run s (start s me batch_limit) turns) (process_of s batch_limit (image_of (run s (start s me batch_limit) turns)))

-- ---- what alike ones do

-- what the turns answer, one after the other
unfoldable pub outcomes : Setting → Process → List Turn → List Outcome
outcomes s p [] = []
outcomes s p (t ∷ ts) = outcome s p t ∷ outcomes s (after s p t) ts

-- a turn has the same outcome and leaves them alike
pub record TurnIsAlike (s : Setting) (p q : Process) (t : Turn) : Type 0 where
  pub after_it : IsAlike (after s p t) (after s q t)
  pub answers : outcome s q t ≡ outcome s p t

abbrev pub TurnsAreAlike : Type 0
TurnsAreAlike = (s : Setting) (p q : Process) (t : Turn) → IsAlike p q → TurnIsAlike s p q t

-- so do any number of turns
pub record RunIsAlike (s : Setting) (p q : Process) (turns : List Turn) : Type 0 where
  pub after_them : IsAlike (run s p turns) (run s q turns)
  pub answers : outcomes s q turns ≡ outcomes s p turns

abbrev pub RunsAreAlike : Type 0
RunsAreAlike = (s : Setting) (p q : Process) (turns : List Turn) → IsAlike p q → RunIsAlike s p q turns

-- ---- what is said of alike ones

-- they have one image
abbrev pub ImagesAreSame : Type 0
ImagesAreSame = (p q : Process) → IsAlike p q → image_of q ≡ image_of p

-- the pair of a signer is found in both
abbrev pub PairsAreFound : Type 0
PairsAreFound = (p q : Process) (n : ℕ) → IsAlike p q → find (λ e. e.0.signer == n) q.conflicts ≡ find (λ e. e.0.signer == n) p.conflicts
