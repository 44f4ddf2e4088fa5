-- What the host of a hosted process opens.
use Rattle.std.proofs.Common.{◌≡◌, ℕ, List, Result, Ok, Err, sym, ap, subst, ◌∙◌}
use Rattle.std.specs.Prelude.{◌≢◌, IfOk}
use Rattle.byte_defs.specs.Reads.{Gives}
use Rattle.link_defs.specs.declared.LinkFault.{LinkFault}
use Rattle.link_defs.specs.Datagrams.{Comes, Known, opened, to_me}
use Rattle.kit_defs.specs.Kits.{IsKit, Kit}
use Rattle.auth_link.specs.declared.datagram.Opened.{Opened}
use Rattle.auth_link.specs.Opening.{parts}
use Rattle.node_defs.specs.Casts.{known_of}
use Rattle.node_receiving.proofs.Others.{shares-with-others}

pub opened-so : (kit : Kit) (p : ℕ) (k : Known) (bytes : List ℕ) (r : Result Opened LinkFault) → k ≡ known_of kit p
    → Gives parts r (opened k bytes) → Gives parts r (opened (known_of kit p) bytes)
opened-so kit p k bytes r same gives = subst (λ (j : Known). Gives parts r (opened j bytes)) same gives

pub from-other : (kit : Kit) (p : ℕ) (k : Known) (bytes : List ℕ) (r : Result Opened LinkFault) → ∥ IsKit kit ∥₁ → k ≡ known_of kit p
    → IfOk r (λ o. Comes k bytes (to_me k o.from o.frame.now)) → IfOk r (λ o. o.from ≢ p)
from-other kit p k bytes (Ok o) real same came =
    shares-with-others kit p o.from came.key real (ap (λ (j : Known). j.pair o.from) (sym same) ∙ came.shared)
from-other kit p k bytes (Err e) real same came = tt
