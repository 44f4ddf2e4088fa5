use Rattle.std.proofs.Common.{ℕ, ◌≤◌, Vec, Global, arith}
use Rattle.std.specs.Prelude.{option_map}
use Rattle.store_replies.proofs.Delivering.{reported-so}
use Rattle.store_replies.proofs.replies.Replies.deliver.Goals as goal

pub tell-reported-requires-clause-fits : goal.tell-reported-requires-clause-fits
tell-reported-requires-clause-fits c = record {
  signer = omega arith;
  view = c.requires.fits.view;
  place = c.requires.fits.place;
  position = omega (arith, c.requires.fits.position, c.position-position.ensures);
  payload = c.requires.fits.payload;
  answer = omega arith;
  signature = omega arith;
}

pub returns-clause-reported : goal.returns-clause-reported
returns-clause-reported c = λ q s m is.
    reported-so q s c.args.place c.args.payload.now m c.args.self.now c.position-position.result is c.position-position.ensures c.args.view
    (option_map (λ (b : Vec ℕ Global). b.items) c.in_ok-answered.answered) c.args.out.now.items c.tell-reported.new.out.items c.args.self.now.few
    c.in_ok-answered.ensures.answered c.in_ok-reported.ensures.reported
