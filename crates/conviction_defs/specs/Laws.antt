-- What conviction means, each the contract of a public function of conviction_laws.
use Rattle.std.specs.Prelude.{◌≡◌, ◌≢◌, ℕ, ◌==◌, ◌&&◌, List, ◌∷◌, ◌++◌, map, filter, IsTrue, ◌↔◌, All, Contains}
use Rattle.message_defs.specs.Statements.{Claim, Conflicts, slot_of}
use Rattle.group_defs.specs.Process.{Setting}
use Rattle.group_defs.specs.Hearing.{is_valid}
use Rattle.conviction_defs.specs.Convictions.{Conviction, Convicts, is_convicted, convicted, convictions}

-- the test says whether two valid claims of the process conflict
abbrev pub ConvictionIsTested : Type 0
ConvictionIsTested = (s : Setting) (claims : List Claim) (q : ℕ) → IsTrue (is_convicted s claims q) ↔ Convicts s claims q

-- exactly those are convicted who have two valid claims that conflict
abbrev pub ConvictedIsConvicts : Type 0
ConvictedIsConvicts = (s : Setting) (claims : List Claim) (q : ℕ) → Contains (convicted s claims) q ↔ Convicts s claims q

-- the convictions are those of the convicted, one of each
abbrev pub EachHasConviction : Type 0
EachHasConviction = (s : Setting) (claims : List Claim) → map (λ c. c.process) (convictions s claims) ≡ convicted s claims

-- The two claims that are given: before the second one no two claims of the signer conflict, the first one is among them, the two conflict,
-- and no claim on their slot comes before the first one.
pub record IsFirstPair (s : Setting) (claims : List Claim) (c : Conviction) : Type 0 where
  pub before : List Claim
  pub between : List Claim
  pub behind : List Claim
  pub parts : filter (λ d. (d.signer == c.process) && is_valid s d) claims ≡ before ++ c.first ∷ (between ++ c.second ∷ behind)
  pub conflict : Conflicts c.first c.second
  pub earliest : All (λ d. slot_of d.statement ≢ slot_of c.second.statement) before
  pub none_earlier : (d e : Claim) → Contains (before ++ c.first ∷ between) d → Contains (before ++ c.first ∷ between) e → ¬ Conflicts d e

abbrev pub PairIsFirst : Type 0
PairIsFirst = (s : Setting) (claims : List Claim) → All (IsFirstPair s claims) (convictions s claims)

-- more claims convict no fewer
abbrev pub ConvictionsStand : Type 0
ConvictionsStand = (s : Setting) (claims more : List Claim) (q : ℕ) → ((c : Claim) → Contains claims c → Contains more c)
    → Convicts s claims q → Convicts s more q
