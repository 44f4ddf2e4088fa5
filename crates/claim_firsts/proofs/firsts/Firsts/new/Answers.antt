use Rattle.std.proofs.Common.{[], sym, subst}
use Rattle.claim_firsts.specs.Seen.{Saw}
use Rattle.claim_firsts.specs.Entries.{table_of}
use Rattle.claim_firsts.proofs.Seeing.{saw-nothing}
use Rattle.claim_firsts.proofs.firsts.Firsts.new.Goals as goal

pub returns : goal.returns
returns c = λ s.
    subst (λ es. Saw s [] [] (table_of es c.new-2.result.items c.with_hasher-2.result.keys)) (sym c.with_hasher.ensures.empty)
    (subst (λ xs. Saw s [] [] (table_of [] xs c.with_hasher-2.result.keys)) (sym c.new-2.ensures.items)
    (subst (λ ks. Saw s [] [] (table_of [] [] ks)) (sym c.with_hasher-2.ensures.empty) (saw-nothing s)))
