use Rattle.std.proofs.Common.{ℕ, List, sym, subst}
use Rattle.std.specs.Prelude.{IsTrue, is_ok}
use Rattle.store_defs.specs.Stores.{store_of}
use Rattle.store_giving.proofs.spelling.Spelling.bytes.Goals as goal

pub as_spelled-requires : goal.as_spelled-requires
as_spelled-requires c =
    subst (λ (b : List ℕ). IsTrue (is_ok (store_of b))) (sym c.as_slice.ensures.value) c.args.self.now.spelled
