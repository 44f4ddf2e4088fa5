use Rattle.member_settling.proofs.Putting.{more-one}
use Rattle.member_settling.proofs.delivering.put_message.Goals as goal

pub returns-in_err-to_vec-2-clause-more : goal.returns-in_err-to_vec-2-clause-more
returns-in_err-to_vec-2-clause-more c = more-one c.args.delivered.now.items c.push.new.self.items _ c.in_ok-push.ensures.items

pub returns-in_err-push-2-clause-more : goal.returns-in_err-push-2-clause-more
returns-in_err-push-2-clause-more c = more-one c.args.delivered.now.items c.push.new.self.items _ c.in_ok-push.ensures.items

pub returns-clause-more : goal.returns-clause-more
returns-clause-more c = more-one c.args.delivered.now.items c.push.new.self.items _ c.in_ok-push.ensures.items
