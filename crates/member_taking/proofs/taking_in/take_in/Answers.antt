use Rattle.std.proofs.Common.{◌≡◌, None, refl, sym, subst, ap}
use Rattle.std.proofs.lemmas.Result.{on_ok_weaker}
use Rattle.std.proofs.Math.Logic.{∥∥₁_elim, ∥∥₁_map}
use Rattle.std.proofs.Props.{props}
use Rattle.group_defs.specs.Process.{Process}
use Rattle.group_defs.specs.Hearing.{hear_all}
use Rattle.group_defs.specs.Events.{Submit, refusal, take_in, perceives}
use Rattle.rp_base.specs.Views.{update as update_of}
use Rattle.member_events.specs.Below.{claims_left}
use Rattle.claim_hearing.specs.Settings.{as_setting}
use Rattle.member_state.specs.States.{IsStateOf}
use Rattle.member_taking.specs.Inputs.{handed, asks as asks_by}
use Rattle.member_taking.specs.declared.inputs.Input.{Input}
use Rattle.member_taking.proofs.States.{asks}
use Rattle.member_taking.proofs.taking_in.take_in.Goals as goal

pub accept-requires-clause-admitted : goal.accept-requires-clause-admitted
accept-requires-clause-admitted g c s p is = subst (λ (i : Input). refusal s p (handed i) ≡ None) c.in-Payload.is
    (c.requires.admitted s p is)

pub returns-in_ok-accept-in-Payload-clause-taken : goal.returns-in_ok-accept-in-Payload-clause-taken
returns-in_ok-accept-in-Payload-clause-taken g c s p shares is = subst
    (λ (i : Input). IsStateOf s (take_in s p (handed i)) c.accept.new.state) (sym c.in-Payload.is)
    (c.in_ok-accept-in-Payload.ensures.taken s p is)

pub returns-in_ok-accept-in-Payload-clause-real : goal.returns-in_ok-accept-in-Payload-clause-real
returns-in_ok-accept-in-Payload-clause-real g c =
    ∥∥₁_map c.requires.real (λ real. record {
      setting = real.setting;
      process = take_in real.setting real.process (Submit c.in-Payload.payload.now);
      state = c.in_ok-accept-in-Payload.ensures.taken real.setting real.process real.state;
    })

pub returns-in-Claims-clause-real : goal.returns-in-Claims-clause-real
returns-in-Claims-clause-real g c =
    let r = as_setting (g.V.Scheme.valid c.args.judge.now.scheme.now) c.args.judge.now.group.now c.args.judge.now.roster.now in
    ∥∥₁_elim c.requires.real (hlevel props) (λ real.
    on_ok_weaker c.hear.result (λ state. ∣ record {
      setting = real.setting;
      process = hear_all r real.process (claims_left c.in-Claims.claims);
      state = state;
    } ∣₁)
    (c.hear.ensures.taken real.setting r real.process (record { rule = refl; bound = refl; keys = refl }) real.state))

pub returns-in_ok-ask-in-Update-clause-taken : goal.returns-in_ok-ask-in-Update-clause-taken
returns-in_ok-ask-in-Update-clause-taken g c s p shares is =
    subst (λ (i : Input). IsStateOf s (take_in s p (handed i)) c.ask.new.state) (sym c.in-Update.is)
    (subst (λ (q : Process). IsStateOf s q c.ask.new.state) (sym (asks s p (update_of c.in-Update.update)))
    (c.in_ok-ask-in-Update.ensures.asked s p is))

pub returns-in_ok-ask-in-Update-clause-real : goal.returns-in_ok-ask-in-Update-clause-real
returns-in_ok-ask-in-Update-clause-real g c =
    ∥∥₁_map c.requires.real (λ real. record {
      setting = real.setting;
      process = perceives real.process (update_of c.in-Update.update);
      state = c.in_ok-ask-in-Update.ensures.asked real.setting real.process real.state;
    })

pub returns-in_ok-accept-in-Payload-clause-stays : goal.returns-in_ok-accept-in-Payload-clause-stays
returns-in_ok-accept-in-Payload-clause-stays g c b was may is = c.accept.ensures.stays b was is

pub returns-in_err-accept-in-Payload-clause-stays : goal.returns-in_err-accept-in-Payload-clause-stays
returns-in_err-accept-in-Payload-clause-stays g c b was may is = c.accept.ensures.stays b was is

pub returns-in-Claims-clause-stays : goal.returns-in-Claims-clause-stays
returns-in-Claims-clause-stays g c b was may is = c.hear.ensures.stays b was is

pub returns-in_ok-ask-in-Update-clause-stays : goal.returns-in_ok-ask-in-Update-clause-stays
returns-in_ok-ask-in-Update-clause-stays g c b was may is = c.ask.ensures.stays b was (may (ap asks_by c.in-Update.is)) is

pub returns-in_err-ask-in-Update-clause-stays : goal.returns-in_err-ask-in-Update-clause-stays
returns-in_err-ask-in-Update-clause-stays g c b was may is = c.ask.ensures.stays b was (may (ap asks_by c.in-Update.is)) is
