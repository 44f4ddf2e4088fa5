-- No process accepts more payloads than a number of four bytes tells.
use Rattle.std.proofs.Common.{◌≡◌, ℕ, ◌*◌, ◌≤◌, List, arith}
use Rattle.std.specs.Prelude.{length, sum, map, All, ◌==◌}
use Rattle.std.specs.List.{sum_by}
use Rattle.std.proofs.lemmas.List.Sums.{sum_by-le, sum-map, count_by-le-length}
use Rattle.message_defs.specs.Limits.{last_number}
use Rattle.group_defs.specs.Process.{Process, Left, Delivered, delivered_from, earlier}
use Rattle.pool_laws.proofs.Members.{All-mem, mem-All}
use Rattle.member_state.specs.Bounds.{AreFew, IsBounded}

delivered-few : (m : ℕ) (ds : List Delivered) → AreFew ds → delivered_from m ds ≤ 16384
delivered-few m ds few = omega (arith, count_by-le-length (λ (d : Delivered). d.message.sender == m) ds, few.places, few.messages)

earlier-few : (p : Process) → All (λ (v : Left). AreFew v.delivered) p.left → earlier p ≤ length p.left * 16384
earlier-few p few =
    let sums : sum (map (λ (v : Left). delivered_from p.me v.delivered) p.left)
    ≡ sum_by (λ (v : Left). delivered_from p.me v.delivered) p.left = sum-map (λ (v : Left). delivered_from p.me v.delivered) p.left in
    let each : All (λ (v : Left). delivered_from p.me v.delivered ≤ 16384) p.left = mem-All
    (λ (v : Left). delivered_from p.me v.delivered ≤ 16384) p.left
    (λ v m. delivered-few p.me v.delivered (All-mem (λ (v : Left). AreFew v.delivered) p.left v few m)) in
    let most = sum_by-le (λ (v : Left). delivered_from p.me v.delivered) 16384 p.left each in
    omega (arith, sums, most)

pub accepted-few : (p : Process) → IsBounded p → p.pool.view.number ≤ last_number → p.pool.view.number ≡ length p.left
    → length p.accepted ≤ 4294967295
accepted-few p bounded within number =
    let before = earlier-few p bounded.before in
    let now = delivered-few p.me p.delivered bounded.now in
    let backlog = bounded.backlog in
    omega (arith, before, now, backlog, within, number)
