use Rattle.std.proofs.Common.{refl, sym, ap, subst}
use Rattle.sealing_laws.specs.Running.{is_valid, Taken, AnySigner, TakesLive}
use Rattle.sealing_laws.specs.Events.{event as event_of}
use Rattle.node_defs.specs.Casts.{cast_of}
use Rattle.node_taking.proofs.Stepped.{not-missing, taken-so}
use Rattle.node_taking.proofs.stepping.step.Goals as goal

pub unreachable-requires : goal.unreachable-requires
unreachable-requires c = not-missing c.args.kit.now c.args.hosts.now c.args.me c.requires.hosts c.requires.hosted
    (λ k kit now are. c.in_default.ensures.host k kit now are)

pub returns-in-Refused : goal.returns-in-Refused
returns-in-Refused c = λ version now are.
    let kit = c.args.kit.now in
    let k = cast_of kit version in
    let place = c.in-Some.ensures.host k kit now are in
    let takes = subst (λ (t : Taken AnySigner). TakesLive k c.args.me (now c.args.me) (event_of c.args.event.now) t) c.in-Refused.is
    (taken-so k kit c.args.me now c.in-Some.host c.args.event.now c.in_ok-process.field-0 _ place.1 (ap is_valid (sym c.scheme.ensures))
    (λ core same. c.in_ok-process.ensures.takes k.setting (now c.args.me) core same) c.in_ok-process.ensures.total
    c.in_ok-process.ensures.secret) in (
      c.put_back.ensures k kit now now c.args.me (c.take_out.ensures.others k kit now are) place.0
          (record { process = takes.0; keys = place.1.keys; port = place.1.port }) (λ q other. refl),
      takes.1,
    )

pub returns-in-Turn : goal.returns-in-Turn
returns-in-Turn c = λ version now are.
    let kit = c.args.kit.now in
    let k = cast_of kit version in
    let place = c.in-Some.ensures.host k kit now are in (
      c.take_out.ensures.others k kit now are,
      record {
        takes = subst (λ (t : Taken AnySigner). TakesLive k c.args.me (now c.args.me) (event_of c.args.event.now) t) c.in-Turn.is
            (taken-so k kit c.args.me now c.in-Some.host c.args.event.now c.in_ok-process.field-0 _ place.1 (ap is_valid (sym c.scheme.ensures))
            (λ core same. c.in_ok-process.ensures.takes k.setting (now c.args.me) core same) c.in_ok-process.ensures.total
            c.in_ok-process.ensures.secret);
        keys = place.1.keys;
        port = place.1.port;
      },
    )
