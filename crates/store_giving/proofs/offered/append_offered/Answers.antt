use Rattle.std.proofs.Common.{ap}
use Rattle.store_defs.specs.Serving as serving
use Rattle.store_giving.specs.Offers.{word}
use Rattle.store_giving.proofs.Offers.{grammar-line, held-line, said-so}
use Rattle.store_giving.proofs.offered.append_offered.Goals as goal

pub returns-in-Grammar : goal.returns-in-Grammar
returns-in-Grammar c = said-so c.args.me (word c.args.offered) serving.Grammar _ c.args.out.now.items c.append_line.new.out.items
    (ap word c.in-Grammar.is) (grammar-line c.args.me) c.append_line.ensures

pub returns-in-Held : goal.returns-in-Held
returns-in-Held c = said-so c.args.me (word c.args.offered) serving.Held _ c.args.out.now.items c.append_line-in-Held.new.out.items
    (ap word c.in-Held.is) (held-line c.args.me) c.append_line-in-Held.ensures
