-- What is said of the cast of a kit is what the definitions say of the kit; and a process's own calls alone make its server.
use Rattle.std.specs.Prelude.{◌≡◌, ◌≢◌, ℕ, List, map, Some, option_map, IfSome, IsTrue}
use Rattle.std.specs.List.{AllByRecursion}
use Rattle.node_service.specs.Histories.{Asked, Process, Serves, Version, cast_of, has, host_of, hosted_by}
use Rattle.node_service.specs.Kits.{Host, IsKit, Kit}
use Rattle.store_server.specs.Places.{Place, Server, line_worded, place_of, server_of}
use Rattle.store_service.specs.Service.{Serving, after_all, after_owns, begun, kit_in, serving, with_new, with_server}

-- of a host of a kit, whose process is this one now, as a node begins
abbrev pub begun_at : Kit → (ℕ → Process) → Host → Serving
begun_at kit now h = record { place = place_of kit h; server = server_of (now h.process) }

-- The servers are those of the kit's hosts, in order; and each number has that of the host of this number, where there is one.
pub record BeginsAsTheKit (kit : Kit) (version : Version) (now : ℕ → Process) : Type 0 where
  pub all : begun (cast_of kit version) (map now (hosted_by kit)) ≡ map (begun_at kit now) kit.hosts
  pub each : (p : ℕ) → serving p (begun (cast_of kit version) (map now (hosted_by kit))) ≡ option_map (begun_at kit now) (host_of kit p)

-- as a node begins, each hosted process is served at its place in the kit, as the process is then, and no other is served
abbrev pub ServersAreTheKits : Type 0
ServersAreTheKits = (kit : Kit) (version : Version) (now : ℕ → Process) → IsKit kit
    → ((p : ℕ) → IsTrue (has (hosted_by kit) p) → (now p).me ≡ p) → BeginsAsTheKit kit version now

-- a line does what it does in the kit
abbrev pub LinesAreTheKits : Type 0
LinesAreTheKits = (kit : Kit) (version : Version) (h : Host) (q : Place) (here : List (List ℕ)) (s : Server) (line : List ℕ) → IsKit kit
    → host_of kit h.process ≡ Some h
    → line_worded (kit_in (cast_of kit version) h.secret) q here s line ≡ line_worded kit q here s line

-- since a node began, the server of a process is what its own notes and lines made of it, one after the other
abbrev pub OwnCallsTell : Type 0
OwnCallsTell = (p : ℕ) (xs : List Serving) (x : Serving) (h : List Asked) → serving p xs ≡ Some x
    → AllByRecursion (λ i. i.call ≢ Serves) h → IfSome (after_all (Some xs) h) (λ ys. serving p ys ≡ Some (after_owns p h x))

-- where the server of one process changes, that of another stays
abbrev pub OthersStay : Type 0
OthersStay = (p q : ℕ) (s : Server) (xs : List Serving) → p ≢ q → serving p (with_server q s xs) ≡ serving p xs

-- and its own is the new one, at its place
abbrev pub OwnChanges : Type 0
OwnChanges = (p : ℕ) (s : Server) (xs : List Serving) (x : Serving) → serving p xs ≡ Some x
    → serving p (with_server p s xs) ≡ Some (with_new s x)
