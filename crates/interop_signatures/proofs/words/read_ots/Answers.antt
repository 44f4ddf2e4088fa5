use Rattle.std.proofs.Common.{sym, ◌∙◌}
use Rattle.interop_signatures.proofs.SharedLaws.{found_is_ok, ots_again}
use Rattle.interop_signatures.proofs.words.read_ots.Goals as goal

pub returns-clause-none : goal.returns-clause-none
returns-clause-none c = λ e ots is.
    let read = c.in_ok-typecode.ensures.read in
    let found = ots_again ots c.in_ok-typecode.typecode read.2 (sym read.0 ∙ is) in
    found_is_ok c.ots_type_of.result ots _ (c.ots_type_of.ensures ∙ found) (sym c.ok_or.ensures.value ∙ e)
