use Rattle.std.proofs.Common.{◌≡◌, ◌∙◌, ◌+◌, ◌-◌, true, false, sym, arith, length}
use Rattle.std.specs.Prelude.{nat_lt, ◌==◌}
use Rattle.std.proofs.lemmas.Bool.{eq-eqb, ne_eqb, le-ltb}
use Rattle.message_defs.specs.Limits.{most_payload_bytes}
use Rattle.group_defs.specs.Views as views
use Rattle.group_defs.specs.Process.{earlier, delivered_from}
use Rattle.member_taking.proofs.Refused.{submitted}
use Rattle.member_taking.proofs.refusals.payload_fault.Goals as goal

pub returns-then-waiting-eq-MOST_WAITING-clause-exactly : goal.returns-then-waiting-eq-MOST_WAITING-clause-exactly
returns-then-waiting-eq-MOST_WAITING-clause-exactly c s p is running =
    let at = c.is_member.ensures s p is in
    let member : views.is_member p.pool.view p.me ≡ true = grind (arith, at) in
    let short : nat_lt most_payload_bytes (length c.args.payload.now) ≡ false = le-ltb _ _ (omega arith) in
    let full : (length p.accepted - (earlier p + delivered_from p.me p.delivered) == 256)
    ≡ true = eq-eqb _ _ (sym (c.waiting.ensures s p is member) ∙ c.if-waiting-eq-MOST_WAITING.true) in
    submitted s p running c.args.payload.now true false true member short full

pub returns-else-waiting-eq-MOST_WAITING-clause-exactly : goal.returns-else-waiting-eq-MOST_WAITING-clause-exactly
returns-else-waiting-eq-MOST_WAITING-clause-exactly c s p is running =
    let at = c.is_member.ensures s p is in
    let member : views.is_member p.pool.view p.me ≡ true = grind (arith, at) in
    let short : nat_lt most_payload_bytes (length c.args.payload.now) ≡ false = le-ltb _ _ (omega arith) in
    let full : (length p.accepted - (earlier p + delivered_from p.me p.delivered) == 256)
    ≡ false = ne_eqb _ _ (λ e. c.if-waiting-eq-MOST_WAITING.false (c.waiting.ensures s p is member ∙ e)) in
    submitted s p running c.args.payload.now true false false member short full
