use Rattle.std.proofs.lemmas.Result.{err_from_is_err_and}
use Rattle.node_defs.specs.Casts.{cast_of}
use Rattle.node_traces.specs.Seen.{link_seen}
use Rattle.letting_laws.specs.Letting.{sends_of}
use Rattle.node_receiving.specs.Service.{letters_in}
use Rattle.node_receiving.proofs.Handed.{host-is, not-missing}
use Rattle.node_serving.proofs.Heard.{out-so, sealable-so}
use Rattle.node_serving.proofs.serving.post.Goals as goal

pub unreachable-requires : goal.unreachable-requires
unreachable-requires g c = not-missing c.args.running.now.kit.now c.args.running.now.hosts c.args.me c.requires.hosts c.requires.hosted
    (λ k kit now out are other. c.in_default.ensures k kit now out are other)

pub invariant_of-speaker : goal.invariant_of-speaker
invariant_of-speaker g c =
    let kit = c.args.running.now.kit.now in
    let some = c.requires.hosts in
    record {
      knows = (host-is (cast_of kit some.version) kit some.now c.args.running.now.hosts c.args.me c.in-Some.host.now some.are
          (λ k kit now out are other. c.in-Some.ensures k kit now out are other)).keys;
    }

pub let_frames_out-out-requires-clause-sealable : goal.let_frames_out-out-requires-clause-sealable
let_frames_out-out-requires-clause-sealable g c = sealable-so c.args.running.now.kit.now c.args.running.now.hosts c.args.me
    (letters_in c.args.sends.now) c.args.running.now.valid c.requires.hosts c.requires.hosted (λ version. c.requires.can version)

pub returns-clause-out : goal.returns-clause-out
returns-clause-out g c = λ version at h.
    out-so (cast_of c.args.running.now.kit.now version) at (sends_of c.args.me (letters_in c.args.sends.now))
    (link_seen g.L.Link.sent g.L.Link.coming g.L.Link.faults c.args.link.now)
    (link_seen g.L.Link.sent g.L.Link.coming g.L.Link.faults c.let_frames_out-out.new.link) h _ _ c.new-late.ensures.items
    (c.in_ok-out.ensures.out version at h)

pub returns-in_err-out-clause-begun : goal.returns-in_err-out-clause-begun
returns-in_err-out-clause-begun g c = λ version at h.
    let p = err_from_is_err_and c.from_residual.result c.from_residual.ensures.1 in
    rw p.1 (c.in_err-out.ensures.begun version at h)
