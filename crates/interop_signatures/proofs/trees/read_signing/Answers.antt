use Rattle.std.proofs.Common.{sym, ◌∙◌}
use Rattle.std.proofs.lemmas.Result.{err_from_is_err_and}
use Rattle.interop_signatures.proofs.TreeLaws.{height_is, leaf_word, typecode_is}
use Rattle.interop_signatures.proofs.trees.read_signing.Goals as goal

pub returns-in_err-read_leaf-clause-none : goal.returns-in_err-read_leaf-clause-none
returns-in_err-read_leaf-clause-none c = λ e s asked.
    let p = err_from_is_err_and c.from_residual-in_err-read_leaf.result c.from_residual-in_err-read_leaf.ensures.1 in
    let read = c.in_ok-typecode.ensures.read in
    let is = typecode_is _ _ _ _ _ _ s c.in_ok-typecode.typecode asked read.2 read.0 in
    let height = height_is s c.in_ok-typecode.typecode c.in-Some.height asked.fits is (sym c.lms_height_of.ensures.value ∙ c.in-Some.is) in
    c.in_err-read_leaf.ensures.none (cc (p.1, p.2, e)) s.leaf (rw height at asked.fits.leaf) (leaf_word _ _ _ _ _ _ s asked)
