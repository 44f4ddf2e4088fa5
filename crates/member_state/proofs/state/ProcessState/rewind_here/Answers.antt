use Rattle.std.proofs.Common.{◌∙◌}
use Rattle.member_state.proofs.Marked.{same_state}
use Rattle.member_state.proofs.state.ProcessState.rewind_here.Goals as goal

pub returns-clause-back : goal.returns-clause-back
returns-clause-back c was stands s p is = same_state s p was _ (record {
  limit = stands.limit;
  pool = c.rewind.ensures.pool ∙ stands.pool;
  own = c.rewind-4.ensures was.own stands.kept.own stands.slots;
  phase = c.rewind-5.ensures ∙ stands.kept.phase;
  asked = stands.kept.asked;
  said = c.rewind-2.ensures.claims ∙ stands.said;
  said_from = stands.said_from;
  said_before = stands.said_before;
  pairs = c.rewind-3.ensures.pairs ∙ stands.pairs;
  previous = stands.previous;
  commits = stands.commits;
  account = c.rewind-6.ensures _ stands.account;
}) is
