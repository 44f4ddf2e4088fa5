use Rattle.std.proofs.Common.{◌≡◌, ℕ, List, sym, ap, subst, ◌∙◌}
use Rattle.std.specs.Prelude.{is_some}
use Rattle.byte_defs.specs.Members.{has}
use Rattle.kit_defs.specs.Kits.{roster_of}
use Rattle.rp_base.specs.PidsLeft.{pids_left}
use Rattle.auth_link.specs.Keys.{known}
use Rattle.node_defs.specs.Casts.{known_of}
use Rattle.node_keys.proofs.InKits.{none_outside}
use Rattle.node_keys.proofs.Sharing.{Shares, begun, ended, passed}
use Rattle.node_keys.proofs.link.link_keys.Goals as goal

pub loop-peer-init : goal.loop-peer-init
loop-peer-init c =
    let kit = c.args.kit.now in
    let left = pids_left c.into_iter-peer-iterator.result in
    let all : left ≡ roster_of kit.keys = ap pids_left c.into_iter-peer-iterator.ensures.into_iter_gives ∙ c.iter-peer-items.ensures
    ∙ c.processes.ensures.value ∙ ap roster_of c.roster.ensures in
    begun (known_of kit c.args.me) (known c.new-keys.result) left c.new-keys.ensures.me (c.new-keys.ensures.group ∙ c.group.ensures)
    c.new-keys.ensures.keys (λ q out. none_outside kit c.args.me q c.requires (ap (λ ps. has ps q) (sym all) ∙ out))

pub add-requires : goal.add-requires
add-requires c = λ same. (c.pair.ensures.shared.0 (ap is_some c.in-Some-pair.is)).2 (sym (same ∙ c.loop-peer.invariant.me))

pub loop-peer-preserved : goal.loop-peer-preserved
loop-peer-preserved c =
    let want = known_of c.args.kit.now c.args.me in
    let S : List ℕ → Type 0 = λ left. Shares want (known c.loop-peer.keys) left in
    passed want (known c.loop-peer.keys) c.in-Some.peer (pids_left c.next.new.self)
    (subst S c.in-Some.ensures.steps c.loop-peer.invariant) (sym c.in_default.ensures.value)

pub returns : goal.returns
returns c =
    let want = known_of c.args.kit.now c.args.me in
    let S : List ℕ → Type 0 = λ left. Shares want (known c.loop-peer.keys) left in
    ended want (known c.loop-peer.keys) (subst S c.in-None.ensures.steps.0 c.loop-peer.invariant)
