use Rattle.restored_present.proofs.present.is_said.Goals as goal

pub returns : goal.returns
returns c = (
  λ ok. (let two = c.both.ensures.0 ok in record { once = c.in_ok-once.ensures.0 two.0; heard_own = c.are_heard-heard.ensures.0 two.1 }),
  λ so. c.both.ensures.1 (c.in_ok-once.ensures.1 so.once, c.are_heard-heard.ensures.1 so.heard_own),
)
