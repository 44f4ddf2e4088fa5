use Rattle.std.proofs.Common.{rules, ◌∙◌, Ok, sym, ap}
use Rattle.group_defs.specs.Events.{Hand}
use Rattle.message_defs.specs.Claims.{claims_of}
use Rattle.frame_codec.specs.Views.{frame_view}
use Rattle.member_events.specs.Below.{claims_left}
use Rattle.frame_codec.proofs.Said.{said-fault, said-claims-fault, said-want, said-claims}
use Rattle.member_taking.proofs.Said.{length-of, want-range}
use Rattle.member_taking.proofs.inputs.read_frame.Goals as goal

pub returns-in-Err-clause-faulty : goal.returns-in-Err-clause-faulty
returns-in-Err-clause-faulty c = said-fault c.args.bytes.now c.in-Err.fault c.in-Err.ensures.exact

pub returns-in-Err-claims_of-clause-faulty : goal.returns-in-Err-claims_of-clause-faulty
returns-in-Err-claims_of-clause-faulty c = said-claims-fault c.args.bytes.now
    (frame_view c.in-Ok.frame) c.in-Err-claims_of.fault c.in-Ok.ensures.exact c.in-Err-claims_of.ensures.exact

pub returns-in-Want-clause-read : goal.returns-in-Want-clause-read
returns-in-Want-clause-read c =
    ap (Hand c.args.from) (said-want c.args.bytes.now c.in-Want.view c.in-Want.place (claims_left c.in-Ok-claims_of.claims)
    (c.in-Ok.ensures.exact ∙ ap (λ f. Ok (frame_view f)) c.in-Want.is)
    (ap (λ f. claims_of (frame_view f)) (sym c.in-Want.is) ∙ c.in-Ok-claims_of.ensures.exact))

pub returns-in-Want-clause-range : goal.returns-in-Want-clause-range
returns-in-Want-clause-range c = want-range c.in-Want.view c.in-Want.place (claims_left c.in-Ok-claims_of.claims)
    (ap (λ f. claims_of (frame_view f)) (sym c.in-Want.is) ∙ c.in-Ok-claims_of.ensures.exact)

pub returns-in_default : goal.returns-in_default
returns-in_default c = record {
  read = ap (Hand c.args.from) (said-claims c.args.bytes.now c.in-Ok.frame
      (claims_left c.in-Ok-claims_of.claims) c.in_default.not-Want c.in-Ok.ensures.exact c.in-Ok-claims_of.ensures.exact);
  range = (
    c.in-Ok-claims_of.ensures.range,
    length-of (frame_view c.in-Ok.frame) (claims_left c.in-Ok-claims_of.claims) c.in-Ok.ensures.found.0 c.in-Ok-claims_of.ensures.exact,
  );
  welcome = λ s p. search rules;
  faulty = tt;
}
