use Rattle.std.proofs.Common.{◌≡◌, ◌<◌, length, Some, sym, ap, ◌∙◌, arith}
use Rattle.hosted_core.specs.Cores.{me_of}
use Rattle.node_hosts.specs.Places.{number_of}
use Rattle.node_hosts.proofs.Standing.{back-stand, set-own}
use Rattle.node_hosts.proofs.hosts.Hosts.put_back.Goals as goal

pub invariant_of-self : goal.invariant_of-self
invariant_of-self c =
    let places = c.args.self.now.places in
    let mine : number_of c.args.host ≡ c.from.result =
    ap me_of (sym c.core.ensures) ∙ sym c.me-me.ensures.value ∙ sym c.get.ensures.value ∙ sym c.from.ensures in
    let within : c.from.result < length places.items = omega (arith, places.ok.0, c.args.self.now.counted, c.from.ensures, c.get.ensures.below) in
    record {
      counted = c.args.self.now.counted;
      own = set-own places.items c.from.result (Some c.args.host) within c.args.self.now.own mine;
    }

pub returns : goal.returns
returns c =
    let places = c.args.self.now.places in
    let mine : number_of c.args.host ≡ c.from.result =
    ap me_of (sym c.core.ensures) ∙ sym c.me-me.ensures.value ∙ sym c.get.ensures.value ∙ sym c.from.ensures in
    let within : c.from.result < length places.items = omega (arith, places.ok.0, c.args.self.now.counted, c.from.ensures, c.get.ensures.below) in
    λ k kit now new p are among is others. record {
      numbers = are.numbers;
      each = back-stand k kit now new places.items p c.from.result c.args.host within mine are.each among is others;
    }
