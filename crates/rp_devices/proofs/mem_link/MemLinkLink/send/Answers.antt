use Rattle.std.proofs.Common.{◌∙◌, ℕ, List, [], ◌∷◌, ap}
use Rattle.rp_devices.specs.Links.{on_port, all_of}
use Rattle.rp_devices.proofs.Ports.{on_port-append}
use Rattle.rp_devices.proofs.mem_link.MemLinkLink.send.Goals as goal

pub returns-in-Ok-clause-ok : goal.returns-in-Ok-clause-ok
returns-in-Ok-clause-ok c = (
  c.in-Ok.ensures.ok.0,
  λ port. (
    on_port ((c.args.port, c.args.bytes.now) ∷ []) port,
    ap (λ (l : List (ℕ × List ℕ)). on_port l port) c.in-Ok.ensures.ok.1 ∙ on_port-append (all_of c.args.self.now.coming)
        ((c.args.port, c.args.bytes.now) ∷ []) port,
  ),
)
