-- The servers of the code, as those of the definitions.
use Rattle.std.specs.Prelude.{◌≡◌, ℕ, false, List, None, IfSome}
use Rattle.std.specs.List.{AllZip}
use Rattle.node_service.specs.Histories.{Asked}
use Rattle.store_server.specs.Places.{me_in}
use Rattle.store_server.specs.Serving.{IsServer}
use Rattle.store_server.specs.declared.server.Server.{Server}
use Rattle.store_service.specs.Service.{AreServed, Serving, after_all}
use Rattle.store_service.specs.declared.servers.Servers.{Servers}

-- whose server it is
abbrev pub whose : Server → ℕ
whose x = me_in x.replies

-- they are these servers, in order
abbrev pub AreThese : List Serving → List Server → Type 0
AreThese xs servers = AllZip (λ x server. IsServer x.place x.server server) xs servers

-- It has this history: its calls were answered as the definitions say, and its servers are those after them, unless memory ran out in a call.
pub record HasServed (v : Servers) (h : List Asked) : Type 0 where
  pub answered : AreServed None h
  pub servers : v.lost ≡ false → IfSome (after_all None h) (λ xs. AreThese xs v.servers.items)
