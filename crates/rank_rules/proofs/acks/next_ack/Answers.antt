use Rattle.std.proofs.Common.{◌∙◌, Some, None, ap, sym, arith}
use Rattle.std.specs.Prelude.{◌&&◌, option_map}
use Rattle.byte_defs.specs.Choices.{is_some_and}
use Rattle.group_defs.specs.Values.{is_justified}
use Rattle.rank_rules.specs.Open.{is_ack_open}
use Rattle.message_defs.specs.Statements.{Ack}
use Rattle.rp_base.specs.Views.{value}
use Rattle.rank_rules.proofs.Acking.{none-left, this-one, not-this}
use Rattle.rank_rules.proofs.Ranking.{ack-is}
use Rattle.rank_rules.proofs.Unheard.{nor, unsuggested}
use Rattle.rank_rules.proofs.acks.next_ack.Goals as goal

pub returns-then-is_justified : goal.returns-then-is_justified
returns-then-is_justified c pool s p tells =
    let h = c.args.pool.now.pool in
    ack-is s p h c.args.own.now tells pool (Some c.in-Some.rank)
    (this-one h c.args.own.now s c.candidates.from (c.candidates.invariant pool s tells.keys) c.in-Some.rank
    (value c.in-Some.value) c.in-Some.ensures.least c.in-Some.ensures.value (c.if-is_justified.ensures pool s tells.keys))
    ∙ ap (option_map (Ack h.view.number c.in-Some.rank)) c.in-Some.ensures.value

pub overflow_add-from : goal.overflow_add-from
overflow_add-from c = let few = c.in-Some.ensures.few in omega (arith, few)

pub candidates-smaller : goal.candidates-smaller
candidates-smaller c = let few = c.in-Some.ensures.few in let least = c.in-Some.ensures.least in let far = least.0 in omega
    (arith, few, far)

pub candidates-preserved : goal.candidates-preserved
candidates-preserved c pool s keys =
    not-this c.args.pool.now.pool c.args.own.now s c.candidates.from (c.candidates.invariant pool s keys) c.in-Some.rank
    (value c.in-Some.value) c.in-Some.ensures.least c.in-Some.ensures.value (c.if-is_justified.ensures pool s keys)

pub returns : goal.returns
returns c pool s p tells =
    ack-is s p c.args.pool.now.pool c.args.own.now tells pool None
    (none-left c.args.pool.now.pool c.args.own.now s c.candidates.from
    (c.candidates.invariant pool s tells.keys) c.in_default.ensures.least)

pub returns-then-not-hears : goal.returns-then-not-hears
returns-then-not-hears c pool s p tells =
    let h = c.args.pool.now.pool in
    ack-is s p h c.args.own.now tells pool None
    (λ r _ _. ap (λ o. is_ack_open h c.args.own.now r && is_some_and o (is_justified s h r))
    (unsuggested h (sym c.if-not-hears.ensures) r) ∙ nor (is_ack_open h c.args.own.now r))
