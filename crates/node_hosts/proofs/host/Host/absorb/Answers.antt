use Rattle.std.proofs.lemmas.Result.{err_from_is_err_and}
use Rattle.member_events.specs.Kept.{signatures_left}
use Rattle.sig_scheme.specs.Signers.{used, total}
use Rattle.hosted_core.specs.Cores.{event as event_of, left_of}
use Rattle.hosted_core.specs.Hosts.{core_of}
use Rattle.node_hosts.proofs.Absorbing.{absorbed, agrees-with, number-stays, unabsorbed, written-by}
use Rattle.node_hosts.proofs.host.Host.absorb.Goals as goal

pub returns-clause-absorbs : goal.returns-clause-absorbs
returns-clause-absorbs g c = λ k kit p is rule.
    let so = c.in_ok-absorb.ensures.absorbs k.setting p is.process.core rule in (
      written-by k c.args.entry.now.process p c.args.self.now.process c.args.entry.now is.process c.absorb.new.self _ so,
      record {
        process = absorbed k c.args.entry.now.process p c.args.self.now.process c.args.entry.now is.process c.absorb.new.self _ so
            c.in_ok-absorb.ensures.total c.in_ok-absorb.ensures.key;
        keys = is.keys;
        port = is.port;
      },
    )

pub returns-clause-number : goal.returns-clause-number
returns-clause-number g c = number-stays (g.V.Scheme.valid c.args.scheme.now) c.args.self.now.process c.absorb.new.self
    (left_of used total (core_of c.args.self.now.process)) (event_of c.args.entry.now.event) (signatures_left c.args.entry.now.signatures)
    c.args.entry.now.spent c.absorb.result c.absorb.ensures.absorbs c.absorb.ensures.lost c.args.self.now.real

pub returns-in_err-absorb-clause-only : goal.returns-in_err-absorb-clause-only
returns-in_err-absorb-clause-only g c = λ k kit p is rule written.
    let out = err_from_is_err_and c.from_residual.result c.from_residual.ensures.1 in
    rw (out.1, out.2) (c.in_err-absorb.ensures.only k.setting p is.process.core rule
    (agrees-with k c.args.entry.now.process p c.args.self.now.process c.args.entry.now is.process written))

pub returns-in_err-absorb-clause-lost : goal.returns-in_err-absorb-clause-lost
returns-in_err-absorb-clause-lost g c = λ k kit p is.
    let out = err_from_is_err_and c.from_residual.result c.from_residual.ensures.1 in
    rw out.1 (record {
      process = unabsorbed k c.args.entry.now.process p c.args.self.now.process c.args.entry.now is.process c.absorb.new.self
          (c.in_err-absorb.ensures.lost k.setting p is.process.core) c.in_err-absorb.ensures.kept;
      keys = is.keys;
      port = is.port;
    })

pub returns-in_err-absorb-clause-number : goal.returns-in_err-absorb-clause-number
returns-in_err-absorb-clause-number g c = number-stays (g.V.Scheme.valid c.args.scheme.now) c.args.self.now.process c.absorb.new.self
    (left_of used total (core_of c.args.self.now.process)) (event_of c.args.entry.now.event) (signatures_left c.args.entry.now.signatures)
    c.args.entry.now.spent c.absorb.result c.absorb.ensures.absorbs c.absorb.ensures.lost c.args.self.now.real
