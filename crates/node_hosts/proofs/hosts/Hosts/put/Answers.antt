use Rattle.std.proofs.Common.{◌≡◌, ◌<◌, ◌∷◌, length, get_or, set, false, None, Some, sym, ap, subst, ◌∙◌, arith}
use Rattle.std.specs.Prelude.{IsTrue}
use Rattle.byte_defs.specs.Members.{has}
use Rattle.node_defs.specs.Casts.{cast_of}
use Rattle.hosted_core.specs.Cores.{me_of}
use Rattle.hosted_core.specs.Hosts.{core_of}
use Rattle.node_hosts.specs.Places.{IsHost, IsHosted, IsPlace, number_of}
use Rattle.node_hosts.proofs.Again.{each-put, others-put}
use Rattle.node_hosts.proofs.Standing.{set-own}
use Rattle.node_hosts.proofs.hosts.Hosts.put.Goals as goal

pub invariant_of-self : goal.invariant_of-self
invariant_of-self c =
    let places = c.args.self.now.places in
    let mine : me_of (core_of c.args.process) ≡ c.from.result =
    ap me_of (sym c.core.ensures) ∙ sym c.me-me.ensures.value ∙ sym c.get.ensures.value ∙ sym c.from.ensures in
    let number : number_of c.host_again.result ≡ c.from.result = ap (λ h. me_of (core_of h)) c.host_again.ensures.process ∙ mine in
    let within : c.from.result < length places.items = omega (arith, places.ok.0, c.args.self.now.counted, c.from.ensures, c.get.ensures.below) in
    record {
      counted = c.args.self.now.counted;
      own = set-own places.items c.from.result (Some c.host_again.result) within c.args.self.now.own number;
    }

pub returns : goal.returns
returns c =
    let places = c.args.self.now.places in
    let p = me_of (core_of c.args.process) in
    let to_me : c.me-me.result ≡ p = c.me-me.ensures.value ∙ ap me_of c.core.ensures in
    let mine : c.from.result ≡ p = c.from.ensures ∙ c.get.ensures.value ∙ to_me in
    let within : c.from.result < length places.items = omega (arith, places.ok.0, c.args.self.now.counted, c.from.ensures, c.get.ensures.below) in
    λ version now here has_hosts is.
    let k = cast_of c.args.kit.now version in
    let host : IsHost k c.args.kit.now p (now p) c.host_again.result
    = subst (λ q. IsHost k c.args.kit.now q (now p) c.host_again.result) to_me
    (c.host_again.ensures.is version (now p) (subst (λ q. IsHosted k q (now p) c.args.process) (sym to_me) is)) in
    record {
      numbers = has_hosts.numbers;
      each = subst (λ q. (n : _) → n < 64 → IsTrue (has (p ∷ here) n) → IsPlace k c.args.kit.now n (now n) (get_or (set places.items q (Some c.host_again.result)) n None))
          (sym mine) (each-put k c.args.kit.now now here places.items p c.host_again.result (subst (λ q. q < length places.items) mine within)
          c.requires.hosted host has_hosts.each);
      others = subst (λ q. (n : _) → n < 64 → has (p ∷ here) n ≡ false → get_or (set places.items q (Some c.host_again.result)) n None ≡ None)
          (sym mine) (others-put here places.items p c.host_again.result has_hosts.others);
    }
