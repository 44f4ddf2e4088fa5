use Rattle.std.proofs.Common.{List, ℕ, ◌++◌, map, false, sym, ap, subst, ◌∙◌}
use Rattle.node_service.specs.Histories.{cast_of}
use Rattle.store_server.specs.Serving.{AreServers}
use Rattle.store_service.specs.Service.{begun, keys_of}
use Rattle.store_service.specs.declared.servers.Servers.{Servers}
use Rattle.store_service.proofs.Begun.{servers-are}
use Rattle.store_service.proofs.Histories.{begins}
use Rattle.store_service.proofs.servers.ServersService.start.Goals as goal

pub returns-clause-tells : goal.returns-clause-tells
returns-clause-tells c = λ version now h has hosted.
    let k = cast_of c.args.kit.now version in
    let xs = begun k (map now k.hosted) in
    let w : Servers = record { alloc = c.args.self.now.alloc; servers = c.in_ok-servers.servers; lost = false } in
    let are = c.in_ok-servers.ensures version now hosted in
    record {
      text = c.push_keys.new.out.items;
      reported = c.in_ok-extend_from_slice.ensures.items ∙ ap (λ (t : List ℕ). c.args.lines.now.items ++ t) c.as_slice-2.ensures.value;
      has = begins h c.args.self.now has k w (map now k.hosted) c.push_keys.new.out.items
          (c.in_ok-push_keys.ensures.pushed (map (λ x. x.place) xs) (subst (AreServers (map (λ x. x.place) xs))
          (sym c.as_slice.ensures.value) (servers-are xs c.in_ok-servers.servers.items are))
          ∙ ap (λ (t : List ℕ). t ++ keys_of xs) c.new-text.ensures.items) are;
    }
