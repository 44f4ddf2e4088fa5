-- Claims whose bytes are kept are the claims that they spell.
use Rattle.std.proofs.Common.{◌≡◌, ℕ, false, true, List, sym, ap, ◌∙◌, subst}
use Rattle.std.specs.Prelude.{Ok, Err, is_ok, Result}
use Rattle.message_defs.specs.Statements.{Statement, End, Claim}
use Rattle.message_defs.specs.Spelling.{IsStatement}
use Rattle.message_defs.specs.Reading.{statement_of}
use Rattle.message_defs.specs.Packing.{Signed, signed_of}
use Rattle.message_defs.specs.declared.FrameFault.{FrameFault}
use Rattle.stmt_codec.specs.declared.own.OwnClaim.{OwnClaim}
use Rattle.stmt_codec.specs.Views.{signed}
use Rattle.stmt_codec.proofs.Grammar.{spelling_again}
use Rattle.claim_firsts.specs.Own.{IsReadable, said_in, claim_in}

-- ---- as they are read

abbrev said : Result Statement FrameFault → Statement
said r = elim r [ Ok st ↦ st | Err fault ↦ End 0 0 ]

pub readable-so : (bytes : List ℕ) (st : Statement) → statement_of bytes ≡ Ok st → IsReadable bytes
readable-so bytes st e = ap is_ok e

pub said-so : (bytes : List ℕ) (st : Statement) → statement_of bytes ≡ Ok st → IsStatement st → IsStatement (said_in bytes)
said-so bytes st e range = subst IsStatement (sym (ap said e)) range

pub unreadable-so : (bytes : List ℕ) (fault : FrameFault) → statement_of bytes ≡ Err fault → IsReadable bytes → ⊥
unreadable-so bytes fault e readable = clash (sym (ap is_ok e) ∙ readable)
  where
    clash : false ≡ true → ⊥
    clash e = cc

-- ---- an own claim is the claim whose bytes it has

module _ (o : OwnClaim) (c : Claim) (range : IsStatement c.statement) (is : signed o ≡ signed_of c) where
  reads : statement_of o.statement ≡ Ok c.statement
  reads = ap (λ (x : Signed). statement_of x.statement) is ∙ spelling_again c.statement range

  pub readable : IsReadable o.statement
  readable = readable-so o.statement c.statement reads

  pub claim-is : claim_in o ≡ c
  claim-is = ap (λ x. let d : Claim = record { signer = x.signer; statement = said_in o.statement; signature = x.signature } in d) is
      ∙ ap (λ r. let d : Claim = record { signer = c.signer; statement = said r; signature = c.signature } in d) reads
