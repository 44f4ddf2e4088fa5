-- How a table keeps its claims.
use Rattle.std.specs.Prelude.{◌≡◌, ℕ, List, [], map, fold}
use Rattle.std.specs.List.{AllByRecursion}
use Rattle.message_defs.specs.Statements as plain
use Rattle.message_defs.specs.Spelling.{IsStatement}
use Rattle.rp_base.specs.Pids.{put_once}
use Rattle.stmt_codec.specs.Views.{claim}
use Rattle.claim_index.specs.declared.key.Key.{Key}
use Rattle.claim_firsts.specs.declared.word.Word.{Word}
use Rattle.claim_firsts.specs.declared.kept.Kept.{Kept}
use Rattle.claim_firsts.specs.declared.kept.Kept.TheVariants.{Lent, Own}
use Rattle.claim_firsts.specs.Own.{claim_in}
use Rattle.claim_firsts.specs.Tables.{Table, key}

-- a claim whose bytes are kept
abbrev pub word_claim : Word → plain.Claim
word_claim w = claim_in w.own

-- a claim, as it is kept
abbrev pub kept_claim : Kept → plain.Claim
kept_claim (Lent c) = claim c
kept_claim (Own w) = word_claim w

-- its statement is in its ranges
abbrev pub IsKept : Kept → Type 0
IsKept x = IsStatement (kept_claim x).statement

-- of an entry under a key
abbrev pub claim_at : Key × Kept → plain.Claim
claim_at e = kept_claim e.1

-- the key is that of the claim's signer and slot
pub record IsEntry (e : Key × Kept) : Type 0 where
  pub range : IsKept e.1
  pub keyed : e.0 ≡ key (claim_at e)

-- the table of these entries, of these second claims, and of these slots that are answered
abbrev pub table_of : List (Key × Kept) → List Kept → List Key → Table
table_of es xs ks = record { firsts = map claim_at es; seconds = map kept_claim xs; answered = ks }

pub record IsTable (es : List (Key × Kept)) (xs : List Kept) : Type 0 where
  pub firsts : AllByRecursion IsEntry es
  pub seconds : AllByRecursion IsKept xs

-- the signers of these, put into a set one after another
abbrev pub signers_of : List Kept → List ℕ
signers_of xs = fold (λ found x. put_once (kept_claim x).signer found) [] xs
