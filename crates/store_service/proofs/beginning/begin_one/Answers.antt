use Rattle.std.proofs.Common.{List, ◌++◌, None, true≢false, refl, sym, ap, subst, ◌∙◌}
use Rattle.group_defs.specs.Accounts.{Account}
use Rattle.node_service.specs.Histories.{cast_of}
use Rattle.store_server.specs.Places.{Place, secret as secret_in, server_of}
use Rattle.store_server.specs.Serving.{IsServer, place_with}
use Rattle.store_server.specs.declared.server.Server.{Server}
use Rattle.store_service.specs.Service.{begun_of}
use Rattle.store_service.specs.Served.{AreThese}
use Rattle.store_service.proofs.Begun.{none-begun, one-begun}
use Rattle.store_service.proofs.Hosted.{account-so, left-so, lists-so, views-so}
use Rattle.store_service.proofs.OfKits.{secret-in-range}
use Rattle.store_service.proofs.beginning.begin_one.Goals as goal

pub begin-requires-clause-secret : goal.begin-requires-clause-secret
begin-requires-clause-secret c =
    secret-in-range c.args.kit.now c.args.p c.requires (c.in-Some-secret.ensures.hosted.0 refl) (secret_in c.in-Some-secret.secret.now)
    c.in-Some-secret.ensures.value

pub begin-requires-clause-views : goal.begin-requires-clause-views
begin-requires-clause-views c =
    views-so c.in-Some.host.now.process c.core.result.now c.core.ensures c.in-Some.host.now.real c.account-reported.result.now
    (λ s q at. c.account-reported.ensures s q at)

pub begin-requires-clause-lists : goal.begin-requires-clause-lists
begin-requires-clause-lists c =
    lists-so c.in-Some.host.now.process c.core.result.now c.core.ensures c.in-Some.host.now.real c.account-reported.result.now
    (λ s q at. c.account-reported.ensures s q at)

pub returns-in_default : goal.returns-in_default
returns-in_default c = λ version now xs hosts among are.
    absurd (true≢false (sym among ∙ c.in_default.ensures (cast_of c.args.kit.now version) c.args.kit.now now None hosts (λ e. cc)))

pub returns-in_default-secret : goal.returns-in_default-secret
returns-in_default-secret c = λ version now xs hosts among are.
    let k = cast_of c.args.kit.now version in
    let host = (c.in-Some.ensures k c.args.kit.now now None hosts (λ e. cc)).1 in
    none-begun k (now c.args.p) xs c.args.servers.now.items are
    (ap k.secret host.process.number ∙ sym c.in_default-secret.ensures.value)

pub returns : goal.returns
returns c = λ version now xs hosts among are.
    let k = cast_of c.args.kit.now version in
    let host = (c.in-Some.ensures k c.args.kit.now now None hosts (λ e. cc)).1 in
    let secret = secret_in c.in-Some-secret.secret.now in
    let reported = account-so c.in-Some.host.now.process c.core.result.now c.core.ensures k c.args.p (now c.args.p) host.process
    c.account-reported.result.now (λ s q at. c.account-reported.ensures s q at) in
    let left = left-so c.in-Some.host.now.process c.core.result.now c.core.ensures k c.args.p (now c.args.p) host.process in
    subst (λ (ys : List Server). AreThese (xs ++ begun_of k (now c.args.p)) ys) (sym c.in_ok-push.ensures.items)
    (one-begun k (now c.args.p) xs c.args.servers.now.items are secret c.in_ok-server.server
    (ap k.secret host.process.number ∙ sym c.in-Some-secret.ensures.value)
    (subst (λ (q : Place). IsServer q (server_of (now c.args.p)) c.in_ok-server.server)
    (λ i. place_with (sym (ap (λ (a : Account). a.me) reported) i) (c.group.ensures i) secret)
    (c.in_ok-server.ensures (now c.args.p) reported left)))
