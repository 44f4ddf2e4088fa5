use Rattle.std.proofs.Common.{List, ℕ, ◌++◌, refl, ap, ◌∙◌, None, Some}
use Rattle.node_service.specs.Histories.{cast_of}
use Rattle.store_service.specs.declared.servers.Servers.{Servers}
use Rattle.store_service.proofs.Histories.{answers, says-nothing, says-to}
use Rattle.store_service.proofs.servers.Servers.say.Goals as goal

pub returns-in_default : goal.returns-in_default
returns-in_default c = λ version p now h sends has is.
    let k = cast_of c.args.kit.now version in
    let w : Servers = record { alloc = c.args.self.now.alloc; servers = c.say.new.servers; lost = c.args.self.now.lost } in
    says-nothing h c.args.self.now has k w p now c.args.line.now c.args.lines.now.items c.args.lines.now.items sends refl
    (answers h c.args.self.now has k w c.if-self.false now p c.args.line.now None
    (λ xs are. rw c.in_default.is at (c.in_ok-text.ensures version p now xs is are)))

pub returns : goal.returns
returns c = λ version p now h sends has is.
    let k = cast_of c.args.kit.now version in
    let w : Servers = record { alloc = c.args.self.now.alloc; servers = c.say.new.servers; lost = c.args.self.now.lost } in
    says-to h c.args.self.now has k w p now c.args.line.now c.args.lines.now.items c.extend_from_slice.new.self.items sends
    c.in-Some.text.items
    (c.in_ok-extend_from_slice.ensures.items ∙ ap (λ (t : List ℕ). c.args.lines.now.items ++ t) c.as_slice.ensures.value)
    (answers h c.args.self.now has k w c.if-self.false now p c.args.line.now (Some c.in-Some.text.items)
    (λ xs are. rw c.in-Some.is at (c.in_ok-text.ensures version p now xs is are)))
