use Rattle.std.proofs.Common.{◌-◌, ◌∙◌, map, length, refl, ap}
use Rattle.group_defs.specs.Events.{Event, Turn, take_in, signing}
use Rattle.member_events.specs.Below.{signed}
use Rattle.member_signing.specs.States.{frame_to, note}
use Rattle.member_sending.specs.Taking.{handed}
use Rattle.member_signing.specs.Signed.{IsSigned}
use Rattle.member_core.proofs.Joined.{signed-still, began-here, begun-so}
use Rattle.member_core.proofs.halves.begin.Goals as goal

pub returns-clause-begins : goal.returns-clause-begins
returns-clause-begins g c s p shares kinds used is =
    let e : Event = handed c.args.input.now in
    let total = g.G.Tally.total c.args.signer.now in
    let many = g.G.Tally.used c.sign_all.new.signer in
    let t : Turn = record {
      event = e;
      allowance = total - g.G.Tally.used c.args.signer.now;
      signer = g.G.Signer.signature c.args.signer.now;
    } in
    let before = map signed c.new-signed.result.items in
    let none = ap (map signed) c.new-signed.ensures.items in
    let st = c.sign_all.new.state in
    let xs = c.sign_all.new.signed.items in
    let signs : IsSigned s (take_in s p e) (signing s p t) st total many before (map signed xs) c.in_ok-spent.spent
    = c.in_ok-spent.ensures.signs s (take_in s p e) shares.bound kinds (ap length (signed-still s p e) ∙ used)
    (c.in_ok-heard.ensures.taken s p shares is) in
    let began = began-here s p t st total many before none c.len.result xs c.in_ok-spent.spent signs
    (c.len.ensures ∙ c.sign_all.new.signed.ok.0) in
    begun-so s p t st total many before none _ c.is_tick.result (map frame_to c.new-sends.result.items)
    c.take_in.new.state (c.in_ok-heard.ensures.taken s p shares is) signs refl
    (c.in_ok-heard.ensures.heard s p shares is) c.is_tick.ensures (ap (map frame_to) c.new-sends.ensures.items)
    (c.in_ok-send_bundle.ensures.sent s p (signing s p t).now began signs.state) (ap (map note) c.new.ensures.items)

pub returns-in_err-spent-clause-stays : goal.returns-in_err-spent-clause-stays
returns-in_err-spent-clause-stays g c b was asked is = c.in_err-spent.ensures.stays b was (c.in_ok-heard.ensures.stays b was asked is)

pub returns-in_err-send_bundle-clause-stays : goal.returns-in_err-send_bundle-clause-stays
returns-in_err-send_bundle-clause-stays g c b was asked is = c.in_ok-spent.ensures.stays b was (c.in_ok-heard.ensures.stays b was asked is)

pub returns-clause-stays : goal.returns-clause-stays
returns-clause-stays g c b was asked is = c.in_ok-spent.ensures.stays b was (c.in_ok-heard.ensures.stays b was asked is)
