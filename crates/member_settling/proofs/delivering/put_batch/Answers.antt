use Rattle.std.proofs.Common.{◌∙◌, map, ap, refl, arith, Vec, Global}
use Rattle.std.proofs.lemmas.Result.{on_ok_weaker}
use Rattle.group_defs.specs.Settle.{delivery}
use Rattle.member_events.specs.declared.events.Delivered.{Delivered}
use Rattle.accounts.specs.Views as accounts
use Rattle.member_settling.proofs.Lists.{put-last, some-last}
use Rattle.member_settling.proofs.delivering.put_batch.Goals as goal

pub returns-in-Some-clause-puts : goal.returns-in-Some-clause-puts
returns-in-Some-clause-puts c = λ ds e before last is.
    on_ok_weaker c.put_messages.result
    (λ put. record {
      delivered = put-last (λ (ds : Vec Delivered Global). map accounts.delivery ds.items) c.args.lists.now.items _ c.in-Some.delivered.now
          _ before last ds (omega (arith, c.args.lists.now.ok.0, c.in-Some.ensures.variant.0 refl)) c.in-Some.ensures.value put.delivered is;
      reported = put.reported;
    })
    (c.put_messages.ensures.puts ds (ap (delivery c.args.pool.now.pool c.args.place) c.messages.ensures.list ∙ e))

pub returns-in-None-clause-puts : goal.returns-in-None-clause-puts
returns-in-None-clause-puts c = λ ds e before last is.
    absurd (let some = some-last (λ (ds : Vec Delivered Global). map accounts.delivery ds.items) c.args.lists.now.items before last is in
    let no = c.in-None.ensures.variant.1 (omega (arith, c.args.lists.now.ok.0, some)) in cc)

pub returns-in-Some-clause-more : goal.returns-in-Some-clause-more
returns-in-Some-clause-more c = λ before last is.
    let put = c.put_messages.ensures.more in
    record {
      more = put.more;
      delivered = put-last (λ (ds : Vec Delivered Global). map accounts.delivery ds.items) c.args.lists.now.items _ c.in-Some.delivered.now
          _ before last put.more (omega (arith, c.args.lists.now.ok.0, c.in-Some.ensures.variant.0 refl)) c.in-Some.ensures.value
          put.delivered is;
    }

pub returns-in-None-clause-more : goal.returns-in-None-clause-more
returns-in-None-clause-more c = λ before last is.
    absurd (let some = some-last (λ (ds : Vec Delivered Global). map accounts.delivery ds.items) c.args.lists.now.items before last is in
    let no = c.in-None.ensures.variant.1 (omega (arith, c.args.lists.now.ok.0, some)) in cc)
