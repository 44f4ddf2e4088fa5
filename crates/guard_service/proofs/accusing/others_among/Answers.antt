use Rattle.std.proofs.Common.{◌≡◌, ◌∙◌, ◌<◌, ◌-◌, ℕ, List, Bool, suc, true, false, length, ap, sym, subst, arith}
use Rattle.std.specs.Prelude.{AllPairs, ◌≢◌, ◌==◌, ◌&&◌, not}
use Rattle.byte_defs.specs.Members.{has}
use Rattle.rp_base.specs.Pids.{put_once}
use Rattle.claim_index.proofs.Signers.{from, none-more, one-more}
use Rattle.guard_service.proofs.accusing.others_among.Goals as goal

pub members-preserved-then-is_listed_other : goal.members-preserved-then-is_listed_other
members-preserved-then-is_listed_other c =
    let lt : c.members.left - 1 < length c.members-members.result.now = omega arith in
    let next : suc (c.members.left - 1) ≡ c.members.left = omega arith in
    let distinct : AllPairs (λ m n. m ≢ n) c.members-members.result.now = subst (λ (ms : List ℕ). AllPairs (λ m n. m ≢ n) ms)
    (sym c.members-members.ensures.value) c.members-members.ensures.within.1.distinct in
    let other : ℕ → Bool = λ m. not (m == c.args.me) && has c.args.listed m in
    let is : other c.index-members-left.result ≡ true = sym c.is_listed_other.ensures ∙ c.if-is_listed_other.true in
    record {
      set = c.insert.ensures
          ∙ ap (put_once c.index-members-left.result)
          (c.members.invariant.set ∙ ap (from other c.members-members.result.now distinct) (sym next))
          ∙ one-more other c.members-members.result.now distinct (c.members.left - 1) c.index-members-left.result lt
          (sym c.index-members-left.is) is;
      within = omega arith;
    }

pub members-preserved : goal.members-preserved
members-preserved c =
    let lt : c.members.left - 1 < length c.members-members.result.now = omega arith in
    let next : suc (c.members.left - 1) ≡ c.members.left = omega arith in
    let distinct : AllPairs (λ m n. m ≢ n) c.members-members.result.now = subst (λ (ms : List ℕ). AllPairs (λ m n. m ≢ n) ms)
    (sym c.members-members.ensures.value) c.members-members.ensures.within.1.distinct in
    let other : ℕ → Bool = λ m. not (m == c.args.me) && has c.args.listed m in
    let is : other c.index-members-left.result ≡ false = sym c.is_listed_other.ensures ∙ c.if-is_listed_other.false in
    record {
      set = c.members.invariant.set
          ∙ ap (from other c.members-members.result.now distinct) (sym next)
          ∙ none-more other c.members-members.result.now distinct (c.members.left - 1) c.index-members-left.result lt
          (sym c.index-members-left.is) is;
      within = omega arith;
    }
