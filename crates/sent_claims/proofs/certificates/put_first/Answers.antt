use Rattle.std.proofs.Common.{◌+◌, ◌-◌, ℕ, List, [], ◌∷◌, take, Option, ap, sym, ◌∙◌}
use Rattle.message_defs.specs.Statements as plain
use Rattle.group_defs.specs.Process.{Pool}
use Rattle.stmt_codec.specs.Views.{slot}
use Rattle.sent_claims.specs.Certificates.{all_signed, said_by}
use Rattle.sent_claims.proofs.Certified.{said_by-next, take-next}
use Rattle.sent_claims.proofs.Ways.{way-next, none-first, none-others}
use Rattle.sent_claims.proofs.certificates.put_first.Goals as goal

pub members-preserved : goal.members-preserved
members-preserved c =
    let h : Pool = c.args.pool.now.pool in
    let o : Option plain.Slot = slot c.args.kind c.args.about.now in
    let rest : List ℕ = take (c.args.count - (c.members._done + 1)) c.pop_first.new.self in
    let next = take-next c.args.count c.members._done c.in-Some.member c.members.left c.pop_first.new.self c.members-test.true
    c.in-Some.ensures in
    let parts = ap (λ ms. all_signed (said_by h o ms)) next ∙ said_by-next h o c.in-Some.member rest in
    record {
      way = way-next c.args.once c.members.list c.put_said.new.list _ _ (all_signed (said_by h o (c.in-Some.member ∷ [])))
          (all_signed (said_by h o rest)) parts c.members.invariant.way c.in_ok-put_said.ensures.list;
      none = λ e. none-others (all_signed (said_by h o (c.in-Some.member ∷ []))) (all_signed (said_by h o rest))
          (sym parts ∙ c.members.invariant.none e);
    }

pub returns-in_err-put_said-clause-none : goal.returns-in_err-put_said-clause-none
returns-in_err-put_said-clause-none c = λ e.
    let h : Pool = c.args.pool.now.pool in
    let o : Option plain.Slot = slot c.args.kind c.args.about.now in
    let rest : List ℕ = take (c.args.count - (c.members._done + 1)) c.pop_first.new.self in
    let next = take-next c.args.count c.members._done c.in-Some.member c.members.left c.pop_first.new.self c.members-test.true
    c.in-Some.ensures in
    let parts = ap (λ ms. all_signed (said_by h o ms)) next ∙ said_by-next h o c.in-Some.member rest in
    absurd (cc (c.in_err-put_said.ensures.none (none-first (all_signed (said_by h o (c.in-Some.member ∷ []))) (all_signed (said_by h o rest))
    (sym parts ∙ c.members.invariant.none e))))
