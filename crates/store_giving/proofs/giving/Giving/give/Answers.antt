use Rattle.std.proofs.Common.{◌≤◌, ◌<◌, arith}
use Rattle.std.specs.Prelude.{option_map}
use Rattle.store_keys.specs.Keys.{signs}
use Rattle.store_giving.specs.Signatures.{state_in}
use Rattle.store_giving.specs.Spellings.{bytes_in}
use Rattle.store_giving.proofs.Keeping.{gave-reported, no-bytes, some-state}
use Rattle.store_giving.proofs.Stated.{no-leaf, no-state}
use Rattle.store_giving.proofs.Telling.{none-reported, on-ok, spent-reported}
use Rattle.store_giving.proofs.giving.Giving.give.Goals as goal

pub returns-then-is_none-clause-given : goal.returns-then-is_none-clause-given
returns-then-is_none-clause-given c = λ q s is.
    on-ok c.push_line.result (none-reported q s c.args.self.now.me is.me c.args.out.now.items c.push_line.new.out.items
    (no-state q s c.args.self.now.me c.args.self.now.group (signs c.args.self.now.key) c.args.self.now.view
    (option_map bytes_in c.args.self.now.state) is.me is.group is.key is.view is.gives
    (no-bytes c.args.self.now.state c.if-is_none.ensures))) c.push_line.ensures.pushed

pub returns-then-from-total-clause-given : goal.returns-then-from-total-clause-given
returns-then-from-total-clause-given c = λ q s is.
    let spent : (signs c.args.self.now.key).total ≤ c.args.self.now.view.number = omega arith in
    on-ok c.push_line-then-from-total.result (spent-reported q s c.args.self.now.me is.me c.args.out.now.items
    c.push_line-then-from-total.new.out.items
    (no-leaf q s c.args.self.now.me c.args.self.now.group (signs c.args.self.now.key) c.args.self.now.view
    (option_map bytes_in c.args.self.now.state) is.me is.group is.key is.view is.gives (state_in c.args.self.now.state)
    (some-state c.args.self.now.state c.if-is_none.ensures) spent)) c.push_line-then-from-total.ensures.pushed

pub returns-clause-given : goal.returns-clause-given
returns-clause-given c = λ q s is.
    let left : c.args.self.now.view.number < (signs c.args.self.now.key).total = omega arith in
    on-ok c.push_given.result (gave-reported q s c.args.self.now c.sign_state.new.self is c.in_ok-sign_state.ensures.same
    c.args.out.now.items c.push_given.new.out.items c.if-is_none.ensures left) c.push_given.ensures.given
