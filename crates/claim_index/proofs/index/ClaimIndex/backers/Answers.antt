use Rattle.std.proofs.Common.{◌≡◌, ◌∙◌, ◌<◌, ◌-◌, ℕ, List, suc, true, length, ap, sym, subst, arith}
use Rattle.std.specs.Prelude.{AllPairs, ◌≢◌}
use Rattle.rp_base.specs.Pids.{put_once}
use Rattle.group_defs.specs.Certified as defs
use Rattle.stmt_codec.specs.Views.{stmt}
use Rattle.claim_index.proofs.Signers.{from, one-more}
use Rattle.claim_index.proofs.index.ClaimIndex.backers.Goals as goal

pub members-preserved-then-says : goal.members-preserved-then-says
members-preserved-then-says c =
    let lt : c.members.left - 1 < length c.members-members.result.now = omega arith in
    let next : suc (c.members.left - 1) ≡ c.members.left = omega arith in
    let distinct : AllPairs (λ m n. m ≢ n) c.members-members.result.now = subst (λ (ms : List ℕ). AllPairs (λ m n. m ≢ n) ms)
    (sym c.members-members.ensures.value) c.members-members.ensures.within.1.distinct in
    let says : defs.says c.args.self.now.pool (stmt c.args.statement.now) c.index-members-left.result
    ≡ true = sym c.says.ensures ∙ c.if-says.true in
    record {
      set = c.insert.ensures
          ∙ ap (put_once c.index-members-left.result)
          (c.members.invariant.set ∙ ap (from
          (defs.says c.args.self.now.pool (stmt c.args.statement.now)) c.members-members.result.now distinct) (sym next))
          ∙ one-more (defs.says c.args.self.now.pool (stmt c.args.statement.now)) c.members-members.result.now distinct
          (c.members.left - 1) c.index-members-left.result lt (sym c.index-members-left.is) says;
      within = omega arith;
    }
