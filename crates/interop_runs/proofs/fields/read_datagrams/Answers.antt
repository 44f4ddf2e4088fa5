use Rattle.std.proofs.Common.{◌+◌, ◌∙◌, List, [], ◌∷◌, ℕ, map, take, sym, ap, subst}
use Rattle.std.proofs.lemmas.List.{map-append}
use Rattle.std.proofs.lemmas.Result.{err_from_is_err_and}
use Rattle.rp_devices.specs.Links.{ported}
use Rattle.interop_runs.specs.Questions.{Each, IsDatagram}
use Rattle.interop_runs.proofs.Lists.{item_beside, list_once, next_read, reported}
use Rattle.interop_runs.proofs.fields.read_datagrams.Goals as goal

pub returns-in_err-read_datagram-clause-none : goal.returns-in_err-read_datagram-clause-none
returns-in_err-read_datagram-clause-none c = λ e all listed.
    let p = err_from_is_err_and c.from_residual-in_err-read_datagram.result c.from_residual-in_err-read_datagram.ensures.1 in
    let items = list_once _ _ _ listed.list c.in_ok-items.ensures ∙ ap reported (sym c.deref-item-items.ensures.value) in
    let each = subst (λ (l : List (List ℕ)). Each IsDatagram l all) items listed.each in
    let one = item_beside c.deref-item-items.result.now c.loop-item.item-index _ c.loop-item-test.true IsDatagram all each in
    c.in_err-read_datagram.ensures.none (cc (p.1, p.2, e)) one.0 one.1

pub loop-item-preserved : goal.loop-item-preserved
loop-item-preserved c =
    let more = ap (map ported) c.in_ok-push.ensures ∙ map-append ported c.loop-item.all.items (c.in_ok-read_datagram.field-0 ∷ []) in
    subst (λ (l : List (ℕ × List ℕ)). Each IsDatagram (reported (take (c.loop-item.item-index + 1) c.deref-item-items.result.now)) l)
    (sym more)
    (next_read c.deref-item-items.result.now c.loop-item.item-index _ c.loop-item-test.true IsDatagram (map ported c.loop-item.all.items) _
    c.loop-item.invariant c.in_ok-read_datagram.ensures.read)
