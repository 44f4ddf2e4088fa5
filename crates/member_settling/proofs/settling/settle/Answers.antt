use Rattle.std.proofs.Common.{◌∙◌}
use Rattle.std.proofs.lemmas.Result.{on_ok_weaker}
use Rattle.std.proofs.Math.Logic.{∥∥₁_elim, ∥∥₁_map}
use Rattle.std.proofs.Props.{props}
use Rattle.group_defs.specs.Settle.{decide, deliver, leave, settle}
use Rattle.member_settling.proofs.Deliveries.{delivers-left}
use Rattle.member_settling.proofs.Marked.{since-here}
use Rattle.member_settling.proofs.Staying.{all-reported}
use Rattle.member_settling.proofs.settling.settle.Goals as goal

pub deliver-requires : goal.deliver-requires
deliver-requires c = ∥∥₁_map c.requires.real
    (λ real. record {
      setting = real.setting;
      process = decide real.setting real.process;
      state = c.decide.ensures.decides real.setting real.process real.state;
    })

pub leave-requires-clause-real : goal.leave-requires-clause-real
leave-requires-clause-real c = ∥∥₁_map c.requires.real (λ real. record {
  setting = real.setting;
  process = deliver (decide real.setting real.process);
  state = (c.in_ok-deliver.ensures.delivers real.setting (decide real.setting real.process)
      (c.decide.ensures.decides real.setting real.process real.state)).state;
})

pub leave-requires-clause-here : goal.leave-requires-clause-here
leave-requires-clause-here c = c.deliver.ensures.left ∙ c.decide.ensures.left ∙ c.requires.here

pub returns-in_err-deliver-clause-since : goal.returns-in_err-deliver-clause-since
returns-in_err-deliver-clause-since c b was is = since-here b was c.deliver.new.state
    (c.deliver.ensures.stays b was (c.decide.ensures.stays b was is)) (c.deliver.ensures.left ∙ c.decide.ensures.left ∙ c.requires.here)

pub returns-clause-since : goal.returns-clause-since
returns-clause-since c b was is = c.leave.ensures.since b was (c.deliver.ensures.stays b was (c.decide.ensures.stays b was is))

pub returns-clause-settles : goal.returns-clause-settles
unfolding settle
returns-clause-settles c = λ s p ok.
    on_ok_weaker c.leave.result (λ left. left.state)
    (c.leave.ensures.leaves s (deliver (decide s p)) (c.in_ok-deliver.ensures.delivers s (decide s p) (c.decide.ensures.decides s p ok)).state)

pub returns-clause-reported : goal.returns-clause-reported
unfolding settle
returns-clause-reported c = λ s p ok.
    let delivered = c.in_ok-deliver.ensures.delivers s (decide s p) (c.decide.ensures.decides s p ok) in
    on_ok_weaker c.leave.result (λ left. all-reported (decide s p) (deliver (decide s p))
    (leave (deliver (decide s p))) c.args.notes.now.items c.deliver.new.notes.items c.leave.new.notes.items delivered.reported
    (delivers-left (decide s p)) left.reported)
    (c.leave.ensures.leaves s (deliver (decide s p)) delivered.state)

pub returns-clause-real : goal.returns-clause-real
returns-clause-real c = ∥∥₁_elim c.requires.real (hlevel props) (λ real.
    on_ok_weaker c.leave.result (λ left. ∣ record {
      setting = real.setting;
      process = leave (deliver (decide real.setting real.process));
      state = left.state;
    } ∣₁)
    (c.leave.ensures.leaves real.setting (deliver (decide real.setting real.process))
    (c.in_ok-deliver.ensures.delivers real.setting (decide real.setting real.process)
    (c.decide.ensures.decides real.setting real.process real.state)).state))
