-- What the views of a chain have to do with those of the group.
use Rattle.std.specs.Prelude.{◌≡◌, ℕ, ◌+◌, ◌≤◌, List, [], ◌∷◌, length, All, Contains, Some, Result, Ok, Err, slice_get}
use Rattle.message_defs.specs.Statements.{Claim}
use Rattle.group_defs.specs.Views.{View}
use Rattle.group_defs.specs.Process.{Process, views_of}
use Rattle.group_defs.specs.Family.{Family, ends, IsOwned}
use Rattle.group_defs.specs.Laws.{Premises, IsViewOfAll}
use Rattle.chain_defs.specs.declared.ChainFault.{ChainFault}
use Rattle.chain_defs.specs.Advance.{proof_said, views_shown}

-- the claims that were read, none where there is a fault
abbrev pub claims_read : Result (List Claim) ChainFault → List Claim
claims_read (Ok cs) = cs
claims_read (Err fault) = []

-- what the proof says of correct processes is their own word
abbrev pub IsOwnWord : Family → List ℕ → Type 0
IsOwnWord f bytes = All (IsOwned f) (claims_read (proof_said bytes))

-- the view that a chain begins with, and those that its proofs show
abbrev pub chain : Family → View → List (List ℕ) → List View
chain f v proofs = v ∷ views_shown f.setting v proofs

-- the genesis is the view of its number at every correct process
abbrev pub GenesisIsOfAll : Type 0
GenesisIsOfAll = (f : Family) → Premises f → IsViewOfAll f f.setting.genesis

-- Where a chain begins with the view that every correct process with that number has, as the genesis is, and its proofs say of correct
-- processes what is their own word, so is each view that they show. Nothing is asked of who is corrupt in these views: the premises ask it
-- of the views that correct processes installed, and that is enough.
abbrev pub ChainIsOfAll : Type 0
ChainIsOfAll = (f : Family) (v : View) (proofs : List (List ℕ)) → Premises f → IsViewOfAll f v → All (IsOwnWord f) proofs
    → All (IsViewOfAll f) (chain f v proofs)

-- a correct process has installed the view
abbrev pub IsInstalled : Family → View → Type 0
IsInstalled f v = (p : Process) × Contains (ends f) p × Contains (views_of p) v

-- In a chain that begins with an installed view, as the genesis is where some process is correct, each view but the last was installed by
-- a correct process: proofs run at most one view ahead of the group.
abbrev pub ChainIsInstalled : Type 0
ChainIsInstalled = (f : Family) (v : View) (proofs : List (List ℕ)) (i : ℕ) (a b : View) → Premises f → IsInstalled f v
    → All (IsOwnWord f) proofs → slice_get (chain f v proofs) i ≡ Some a → slice_get (chain f v proofs) (i + 1) ≡ Some b → IsInstalled f a

-- Two chains that begin with one installed view do not fork: at each place that both have, the views are equal, also where no correct
-- process has installed them yet.
abbrev pub ChainsDoNotFork : Type 0
ChainsDoNotFork = (f : Family) (v : View) (one two : List (List ℕ)) (i : ℕ) (a b : View) → Premises f → IsInstalled f v
    → All (IsOwnWord f) one → All (IsOwnWord f) two → slice_get (chain f v one) i ≡ Some a → slice_get (chain f v two) i ≡ Some b → a ≡ b

-- the genesis is installed, where some process is correct
abbrev pub GenesisIsInstalled : Type 0
GenesisIsInstalled = (f : Family) → 1 ≤ length f.correct → IsInstalled f f.setting.genesis
