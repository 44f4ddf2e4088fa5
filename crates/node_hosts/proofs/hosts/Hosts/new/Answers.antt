use Rattle.std.proofs.Common.{◌≡◌, arith}
use Rattle.node_hosts.proofs.Standing.{all-start, one-filled}
use Rattle.node_hosts.proofs.hosts.Hosts.new.Goals as goal

pub loop-number-preserved : goal.loop-number-preserved
loop-number-preserved c = rw c.in_ok-push.ensures.items
    (one-filled c.args.kit.now c.args.batch_limit c.loop-number.number c.loop-number.places.items c.in_ok-place.place c.loop-number.invariant
    c.in_ok-place.ensures.starts c.in_ok-place.ensures.number)

pub returns : goal.returns
returns c = λ version same.
    let all : c.loop-number.number ≡ 64 = omega (arith, c.loop-number.auto.number-end, c.loop-number-test.false) in
    record {
      numbers = c.hosted.ensures;
      each = all-start c.args.kit.now c.args.batch_limit c.loop-number.number c.loop-number.places.items c.loop-number.invariant all version same;
    }
