use Rattle.std.proofs.Common.{ap}
use Rattle.store_defs.specs.Serving.{Known, OtherView, Ready, Stranger, TakenSoFar, Unsigned, word_of_taken}
use Rattle.store_giving.proofs.Offers.{known-line, ready-line, said-so, stranger-line, taken-line, unsigned-line, view-line}
use Rattle.store_giving.proofs.offered.append_taken.Goals as goal

pub returns-in-OtherView : goal.returns-in-OtherView
returns-in-OtherView c = said-so c.args.me (word_of_taken c.args.taken) OtherView _ c.args.out.now.items c.append_line.new.out.items
    (ap word_of_taken c.in-OtherView.is) (view-line c.args.me) c.append_line.ensures

pub returns-in-Stranger : goal.returns-in-Stranger
returns-in-Stranger c = said-so c.args.me (word_of_taken c.args.taken) Stranger _ c.args.out.now.items c.append_line-in-Stranger.new.out.items
    (ap word_of_taken c.in-Stranger.is) (stranger-line c.args.me) c.append_line-in-Stranger.ensures

pub returns-in-Unsigned : goal.returns-in-Unsigned
returns-in-Unsigned c = said-so c.args.me (word_of_taken c.args.taken) Unsigned _ c.args.out.now.items c.append_line-in-Unsigned.new.out.items
    (ap word_of_taken c.in-Unsigned.is) (unsigned-line c.args.me) c.append_line-in-Unsigned.ensures

pub returns-in-Known : goal.returns-in-Known
returns-in-Known c = said-so c.args.me (word_of_taken c.args.taken) Known _ c.args.out.now.items c.append_line-in-Known.new.out.items
    (ap word_of_taken c.in-Known.is) (known-line c.args.me) c.append_line-in-Known.ensures

pub returns-in-Ready : goal.returns-in-Ready
returns-in-Ready c = said-so c.args.me (word_of_taken c.args.taken) Ready _ c.args.out.now.items c.append_line-in-Ready.new.out.items
    (ap word_of_taken c.in-Ready.is) (ready-line c.args.me) c.append_line-in-Ready.ensures

pub returns-in-Counted : goal.returns-in-Counted
returns-in-Counted c = said-so c.args.me (word_of_taken c.args.taken) (TakenSoFar c.in-Counted.givers) _ c.args.out.now.items
    c.append_count_line.new.out.items (ap word_of_taken c.in-Counted.is) (taken-line c.args.me c.in-Counted.givers)
    c.append_count_line.ensures
