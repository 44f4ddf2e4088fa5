use Rattle.std.proofs.Common.{◌≡◌, List, ℕ, sym, ap, subst, ◌∙◌}
use Rattle.std.specs.Prelude.{option_map}
use Rattle.node_service.specs.Histories.{cast_of}
use Rattle.store_server.specs.Places.{line_worded, payloads_of, secret as secret_in}
use Rattle.store_server.specs.Serving.{IsHeard}
use Rattle.store_service.specs.Service.{kit_in}
use Rattle.store_service.proofs.Hosted.{account-so, me-so}
use Rattle.store_service.proofs.Worded.{hears, no-secret, some-where}
use Rattle.store_service.proofs.hearing.say_at.Goals as goal

pub returns-in_default : goal.returns-in_default
returns-in_default c = λ version p now xs is place are.
    let k = cast_of c.args.kit.now version in
    let me : c.me.result ≡ p = me-so c.args.process.now c.core.result.now c.core.ensures k p now is c.me.result
    (λ s q at. c.me.ensures.process s q at) in
    no-secret k (payloads_of now.delivered) p c.args.line.now xs c.args.servers.now.items are
    (ap k.secret (sym me) ∙ sym c.in_default.ensures.value)

pub returns : goal.returns
returns c = λ version p now xs is place are.
    let k = cast_of c.args.kit.now version in
    let me : c.me.result ≡ p = me-so c.args.process.now c.core.result.now c.core.ensures k p now is c.me.result
    (λ s q at. c.me.ensures.process s q at) in
    let secret = secret_in c.in-Some.secret.now in
    let reported = account-so c.args.process.now c.core-2.result.now c.core-2.ensures k p now is c.account.result.now
    (λ s q at. c.account.ensures s q at) in
    let so = hears k (payloads_of now.delivered) p c.args.line.now xs c.args.servers.now.items are c.args.at place secret
    (ap k.secret (sym me) ∙ sym c.in-Some.ensures.value) c.index_mut-server.result.now c.word.new.self c.requires
    c.index_mut-server.ensures.value c.new-text.result.items c.word.new.out.items c.in_ok-heard.heard c.new-text.ensures.items
    (λ q s at. subst (λ (l : List ℕ). IsHeard q s c.new-text.result.items c.word.new.out.items c.word.new.self c.in_ok-heard.heard
    (line_worded (kit_in k secret) q (payloads_of now.delivered) s l)) c.as_bytes.ensures.value
    (c.in_ok-heard.ensures.heard (kit_in k secret) now q s (sym c.scheme_of.ensures) (sym c.roster.ensures) reported at)) in (
      ap (option_map (λ t. t.items)) c.then_some.ensures ∙ some-where (λ t. t.items) c.in_ok-heard.heard c.word.new.out ∙ so.0,
      so.1,
    )
