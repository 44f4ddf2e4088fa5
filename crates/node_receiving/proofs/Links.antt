-- How the link answers a receive in a room of 61,440 bytes.
use Rattle.std.proofs.Common.{◌≡◌, ℕ, List, length, Option, None, Some, Result, Ok, Err, take, refl, ap, ◌∙◌, arith}
use Rattle.std.specs.Prelude.{min, IfOk, OnErr}
use Rattle.std.proofs.lemmas.List.{take_min}
use Rattle.rp_base.specs.Causes.{HasCause}
use Rattle.rp_base.specs.Links.{Receives, Took}
use Rattle.rp_base.specs.declared.failed.Failed.{Failed}
use Rattle.rp_base.specs.declared.link.Got.{Got}
use Rattle.rp_base.specs.declared.link.Got.TheVariants as gots
use Rattle.node_defs.specs.Nodes.{ReceivesOn}
use Rattle.node_traces.specs.Outside.{CameFirst, CameOn, LinkSeen, LinkStep, NoneOn, most_datagram_bytes}
use Rattle.node_receiving.specs.Receiving.{answer_of}

-- what is cut to the length of a room is the datagram's front of that length
cut : (most n : ℕ) (bytes : List ℕ) → n ≡ min (length bytes) most → take n bytes ≡ take most bytes
cut most n bytes same =
    let so : n ≡ min most (length bytes) = omega (arith, same) in ap (λ (k : ℕ). take k bytes) so ∙ take_min most bytes

-- the room that is read is that of the definitions
the-most : 61440 ≡ most_datagram_bytes
unfolding most_datagram_bytes
the-most = refl

first-came : (old new : ℕ → List (List ℕ)) (port n : ℕ) (into : List ℕ) → length into ≡ most_datagram_bytes → Took old new port n into
    → CameFirst old new port (take n into)
first-came old new port n into long took = record {
  datagram = took.datagram;
  first = took.first;
  read = took.bytes ∙ cut most_datagram_bytes n took.datagram (took.count ∙ ap (min (length took.datagram)) long);
  others = took.others;
}

came-on : (old new : Option (ℕ → List (List ℕ))) (port n : ℕ) (into : List ℕ) → length into ≡ most_datagram_bytes
    → Receives old new port (gots.Datagram n) into → CameOn old new port (take n into)
came-on None new port n into long got = tt
came-on (Some old) None port n into long got = got
came-on (Some old) (Some new) port n into long got = first-came old new port n into long got

none-on : (old new : Option (ℕ → List (List ℕ))) (port : ℕ) (into : List ℕ) → Receives old new port gots.Nothing into → NoneOn old new port
none-on None new port into got = tt
none-on (Some old) None port into got = got
none-on (Some old) (Some new) port into got = got

-- as `recv` says it
pub receives-so : (r : Result Got Failed) (k l : LinkSeen) (port : ℕ) (into : List ℕ) → length into ≡ 61440
    → IfOk r (λ got. Receives k.coming l.coming port got into) → l.sent ≡ k.sent → OnErr r (l.coming ≡ k.coming) → HasCause k.faults l.faults r
    → LinkStep k (ReceivesOn port, answer_of r into) l
receives-so (Ok gots.Nothing) k l port into long got sent err cause = record {
  sent = sent;
  none = none-on k.coming l.coming port into got;
  steady = cause.steady;
}
receives-so (Ok (gots.Datagram n)) k l port into long got sent err cause = record {
  sent = sent;
  came = came-on k.coming l.coming port n into (long ∙ the-most) got;
  steady = cause.steady;
}
receives-so (Err failed) k l port into long got sent err cause = record { sent = sent; coming = err; rose = cause.failed }
