use Rattle.std.proofs.Common.{inl, sym, ◌++◌, ◌∙◌, map}
use Rattle.accounts.specs.Views.{delivery}
use Rattle.signature_defs.specs.Schemes.{is_valid}
use Rattle.sig_scheme.specs.Views.{scheme as scheme_in}
use Rattle.store_defs.specs.Holding.{payloads_of}
use Rattle.store_defs.specs.Serving.{after_offer}
use Rattle.store_defs.specs.Words.{offered_text}
use Rattle.store_giving.specs.Given.{transfer_in}
use Rattle.store_server.proofs.Parts.{replying-transfer}
use Rattle.store_server.proofs.Settled.{any-err, cut-off, offered-giving, settled-so}
use Rattle.store_server.proofs.server.Server.offer.Goals as goal

pub returns-in_err-offered-clause-lost : goal.returns-in_err-offered-clause-lost
returns-in_err-offered-clause-lost c = λ q s is.
    any-err c.from_residual-in_err-offered.result
    (inl (record { replies = is.replies; gives = c.in_err-offered.ensures.unchanged q s is.gives }))

pub returns-in_err-settle-clause-lost : goal.returns-in_err-settle-clause-lost
returns-in_err-settle-clause-lost c = λ q s is.
    let here = payloads_of (map delivery c.args.here.now) in
    let after = after_offer (is_valid (scheme_in c.args.scheme)) q here s c.args.bytes.now in
    let t = transfer_in c.offer.new.self in
    let holds = c.holds-holds.ensures q s is.replies in
    let is_after = c.in_ok-offered.ensures.server q s here is.gives holds in
    let gives = offered-giving q s after here c.in_ok-offered.offered t is_after c.offer.new.self
    (c.in_ok-offered.ensures.after q s here is.gives holds) in
    any-err c.from_residual-in_err-settle.result
    (cut-off q s after here c.in_ok-offered.offered t is_after c.settle.new.self
    (c.in_err-settle.ensures.unchanged q (record s { transfer = t })
    (record { replies = replying-transfer q s t c.args.self.now.replies is.replies; gives = gives })))

pub returns-clause-written : goal.returns-clause-written
returns-clause-written c = λ q s is.
    let here = payloads_of (map delivery c.args.here.now) in
    let after = after_offer (is_valid (scheme_in c.args.scheme)) q here s c.args.bytes.now in
    let t = transfer_in c.offer.new.self in
    let holds = c.holds-holds.ensures q s is.replies in
    let is_after = c.in_ok-offered.ensures.server q s here is.gives holds in
    let gives = offered-giving q s after here c.in_ok-offered.offered t is_after c.offer.new.self
    (c.in_ok-offered.ensures.after q s here is.gives holds) in
    let settled = c.in_ok-settle.ensures.settled q (record s { transfer = t })
    (record { replies = replying-transfer q s t c.args.self.now.replies is.replies; gives = gives }) in
    c.append_offered.ensures
    ∙ (λ i. c.in_ok-reserve_offered.ensures.same i
    ++ offered_text (sym settled.gives.me i) (c.in_ok-offered.ensures.word q s is.gives holds i))

pub returns-clause-after : goal.returns-clause-after
returns-clause-after c = λ q s is.
    let here = payloads_of (map delivery c.args.here.now) in
    let after = after_offer (is_valid (scheme_in c.args.scheme)) q here s c.args.bytes.now in
    let t = transfer_in c.offer.new.self in
    let holds = c.holds-holds.ensures q s is.replies in
    let is_after = c.in_ok-offered.ensures.server q s here is.gives holds in
    let gives = offered-giving q s after here c.in_ok-offered.offered t is_after c.offer.new.self
    (c.in_ok-offered.ensures.after q s here is.gives holds) in
    settled-so q s after here c.in_ok-offered.offered t is_after c.settle.new.self
    (c.in_ok-settle.ensures.settled q (record s { transfer = t })
    (record { replies = replying-transfer q s t c.args.self.now.replies is.replies; gives = gives }))
