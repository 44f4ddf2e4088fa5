use Rattle.std.proofs.Common.{◌≡◌, ℕ, List, Result, Ok, Err, sym, ◌∙◌}
use Rattle.std.specs.Prelude.{IfOk}
use Rattle.byte_defs.specs.Reads.{Gives}
use Rattle.link_defs.specs.declared.LinkFault.{LinkFault}
use Rattle.link_defs.specs.Datagrams.{Comes, Known, opened, to_me}
use Rattle.link_defs.proofs.Opening.{came, is_opened}
use Rattle.auth_link.specs.declared.datagram.Opened.{Opened}
use Rattle.auth_link.specs.Opening.{parts}
use Rattle.auth_link.specs.Keys.{known}
use Rattle.auth_link.proofs.datagram.unseal.Goals as goal

found_came : (k : Known) (bytes : List ℕ) (r : Result Opened LinkFault) → Gives parts r (opened k bytes)
    → IfOk r (λ o. Comes k bytes (to_me k o.from o.frame.now))
found_came k bytes (Ok o) gives = came k bytes o.from o.frame.now gives
found_came k bytes (Err e) gives = tt

pub returns-clause-found : goal.returns-clause-found
returns-clause-found c = found_came (known c.args.keys.now) c.args.datagram.now c.open.result c.open.ensures

gives_that : (r : Result Opened LinkFault) (x y : Result (ℕ × List ℕ) LinkFault) → x ≡ y → Gives parts r x → Gives parts r y
gives_that (Ok o) x y e g = sym e ∙ g
gives_that (Err f) x y e g = sym e ∙ g

pub returns-clause-only : goal.returns-clause-only
returns-clause-only c = λ d comes. gives_that c.open.result _ _
    (is_opened (known c.args.keys.now) c.args.datagram.now d c.bytes.ensures.length comes) c.open.ensures
