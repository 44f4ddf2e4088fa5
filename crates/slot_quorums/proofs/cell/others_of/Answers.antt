use Rattle.std.proofs.Common.{◌≡◌, ◌∙◌, ◌<◌, ◌-◌, ℕ, List, Bool, suc, true, length, ap, sym, subst, arith}
use Rattle.std.specs.Prelude.{AllPairs, ◌≢◌, ◌&&◌}
use Rattle.rp_base.specs.Pids.{put_once}
use Rattle.group_defs.specs.Certified as defs
use Rattle.claim_index.specs.Statements.{stmt}
use Rattle.claim_index.proofs.Signers.{from, one-more}
use Rattle.slot_quorums.specs.Cells.{speaks_otherwise}
use Rattle.slot_quorums.proofs.cell.others_of.Goals as goal

pub members-preserved-then-says_other : goal.members-preserved-then-says_other
members-preserved-then-says_other c =
    let lt : c.members.left - 1 < length c.members-members.result.now = omega arith in
    let next : suc (c.members.left - 1) ≡ c.members.left = omega arith in
    let distinct : AllPairs (λ m n. m ≢ n) c.members-members.result.now = subst (λ (ms : List ℕ). AllPairs (λ m n. m ≢ n) ms)
    (sym c.members-members.ensures.value) c.members-members.ensures.within.1.distinct in
    let says : (speaks_otherwise c.args.cell.now c.index-members-left.result
    && defs.says c.args.claims.now.pool (stmt c.args.statement.now) c.index-members-left.result)
    ≡ true = sym c.says_other.ensures ∙ c.if-says_other.true in
    let test : ℕ → Bool = λ m. speaks_otherwise c.args.cell.now m && defs.says c.args.claims.now.pool (stmt c.args.statement.now) m in
    record {
      set = c.insert.ensures
          ∙ ap (put_once c.index-members-left.result)
          (c.members.invariant.set ∙ ap (from test c.members-members.result.now distinct) (sym next))
          ∙ one-more test c.members-members.result.now distinct (c.members.left - 1) c.index-members-left.result lt
          (sym c.index-members-left.is) says;
      within = omega arith;
    }
