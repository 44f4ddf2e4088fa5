use Rattle.std.proofs.Common.{◌≡◌, ℕ, ◌<◌, get_or, length, None, Some, refl, sym, ◌∙◌, arith}
use Rattle.std.proofs.lemmas.Result.{on_ok_weaker, on_err_weaker}
use Rattle.journal_entries.specs.Views.{entry as entry_of}
use Rattle.node_hosts.proofs.Absorbing.{becomes, found, here, reads-stand, takes-hosted, written}
use Rattle.node_hosts.proofs.hosts.Hosts.absorb.Goals as goal

pub absorb-requires : goal.absorb-requires
absorb-requires g c =
    let places = c.args.self.now.places in
    let q : ℕ = c.args.entry.now.process in
    let same : q ≡ c.from.result = sym c.get.ensures.value ∙ sym c.from.ensures in
    let below : q < 64 = omega (arith, c.get.ensures.value, c.get.ensures.below) in
    let within : q < length places.items = omega (arith, places.ok.0, c.args.self.now.counted, below) in
    let held : get_or places.items q None ≡ Some c.in-Some.host =
    found places.items q c.from.result _ c.in-Some.host same within c.index_mut.ensures.value c.in-Some.is in
    record { whose = sym (c.args.self.now.own q c.in-Some.host held) }

pub returns-clause-absorbs : goal.returns-clause-absorbs
returns-clause-absorbs g c =
    let places = c.args.self.now.places in
    let q : ℕ = c.args.entry.now.process in
    let e = entry_of c.args.entry.now in
    let same : q ≡ c.from.result = sym c.get.ensures.value ∙ sym c.from.ensures in
    let below : q < 64 = omega (arith, c.get.ensures.value, c.get.ensures.below) in
    let within : q < length places.items = omega (arith, places.ok.0, c.args.self.now.counted, below) in
    let held : get_or places.items q None ≡ Some c.in-Some.host =
    found places.items q c.from.result _ c.in-Some.host same within c.index_mut.ensures.value c.in-Some.is in
    λ k kit n are rule.
    let host = here k kit places.items q below n.now are.each c.in-Some.host held in
    on_ok_weaker c.absorb.result (λ so. (
      takes-hosted k n e host.0 ∙ so.0,
      record {
        numbers = are.numbers;
        each = written k kit places.items q c.from.result same c.absorb.new.self _
            (reads-stand k kit n e places.items c.absorb.new.self below within are.each host.0 so.1);
      },
    )) (c.absorb.ensures.absorbs k kit (n.now q) host.1 rule)

pub returns-clause-only : goal.returns-clause-only
returns-clause-only g c =
    let places = c.args.self.now.places in
    let q : ℕ = c.args.entry.now.process in
    let same : q ≡ c.from.result = sym c.get.ensures.value ∙ sym c.from.ensures in
    let below : q < 64 = omega (arith, c.get.ensures.value, c.get.ensures.below) in
    let within : q < length places.items = omega (arith, places.ok.0, c.args.self.now.counted, below) in
    let held : get_or places.items q None ≡ Some c.in-Some.host =
    found places.items q c.from.result _ c.in-Some.host same within c.index_mut.ensures.value c.in-Some.is in
    λ k kit n are rule takes.
    let host = here k kit places.items q below n.now are.each c.in-Some.host held in
    c.absorb.ensures.only k kit (n.now q) host.1 rule (sym (takes-hosted k n (entry_of c.args.entry.now) host.0) ∙ takes)

pub returns-clause-lost : goal.returns-clause-lost
returns-clause-lost g c =
    let places = c.args.self.now.places in
    let q : ℕ = c.args.entry.now.process in
    let same : q ≡ c.from.result = sym c.get.ensures.value ∙ sym c.from.ensures in
    let below : q < 64 = omega (arith, c.get.ensures.value, c.get.ensures.below) in
    let within : q < length places.items = omega (arith, places.ok.0, c.args.self.now.counted, below) in
    let held : get_or places.items q None ≡ Some c.in-Some.host =
    found places.items q c.from.result _ c.in-Some.host same within c.index_mut.ensures.value c.in-Some.is in
    λ k kit now are.
    let host = here k kit places.items q below now are.each c.in-Some.host held in
    on_err_weaker c.absorb.result (λ is. record {
      numbers = are.numbers;
      each = written k kit places.items q c.from.result same c.absorb.new.self _
          (becomes k kit places.items q below now are.each now c.absorb.new.self within host.0 is (λ p other. refl));
    }) (c.absorb.ensures.lost k kit (now q) host.1)
