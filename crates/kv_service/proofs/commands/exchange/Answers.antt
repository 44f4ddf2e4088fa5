use Rattle.std.proofs.Common.{◌≡◌, ◌∙◌, sym, ap, refl, true, false, rules}
use Rattle.std.specs.Prelude.{is_some}
use Rattle.byte_defs.specs.Equality.{same_bytes}
use Rattle.store_defs.specs.Stores.{Store, Exchange, Absent, Differs, Done, with_pair}
use Rattle.kv_service.specs.Pairs.{pairs_of}
use Rattle.kv_service.proofs.Carrying.{left, said, exchange_absent, exchange_differs, exchange_there, replaced}
use Rattle.kv_service.proofs.commands.exchange.Goals as goal

pub returns-in_default-clause-store : goal.returns-in_default-clause-store
returns-in_default-clause-store c =
    let s : Store = pairs_of c.args.pairs.now in
    left (Exchange c.args.key.now c.args.expected.now c.args.value.now) s s s Absent
    (exchange_absent c.args.key.now c.args.expected.now c.args.value.now s c.in_default.ensures) refl

pub returns-in_default-clause-answer : goal.returns-in_default-clause-answer
returns-in_default-clause-answer c =
    let s : Store = pairs_of c.args.pairs.now in
    said (Exchange c.args.key.now c.args.expected.now c.args.value.now) s s Absent _ _
    (exchange_absent c.args.key.now c.args.expected.now c.args.value.now s c.in_default.ensures) c.say.ensures

pub returns-then-is_expected-clause-store : goal.returns-then-is_expected-clause-store
returns-then-is_expected-clause-store c =
    let s : Store = pairs_of c.args.pairs.now in
    let same : same_bytes c.in-Some.old.now c.args.expected.now ≡ true = search rules in
    let there : c.in_ok-replace.field-0 ≡ true = c.in_ok-replace.ensures.found ∙ ap is_some (sym c.in-Some.ensures) in
    left (Exchange c.args.key.now c.args.expected.now c.args.value.now) s (with_pair c.args.key.now c.args.value.now s) _ Done
    (exchange_there c.args.key.now c.args.expected.now c.args.value.now c.in-Some.old.now s c.in-Some.ensures same)
    (replaced c.in_ok-replace.field-0 _ (with_pair c.args.key.now c.args.value.now s) s there c.in_ok-replace.ensures.replaced)

pub returns-then-is_expected-clause-answer : goal.returns-then-is_expected-clause-answer
returns-then-is_expected-clause-answer c =
    let s : Store = pairs_of c.args.pairs.now in
    let same : same_bytes c.in-Some.old.now c.args.expected.now ≡ true = search rules in
    said (Exchange c.args.key.now c.args.expected.now c.args.value.now) s (with_pair c.args.key.now c.args.value.now s) Done _ _
    (exchange_there c.args.key.now c.args.expected.now c.args.value.now c.in-Some.old.now s c.in-Some.ensures same) (search rules)

pub returns-clause-store : goal.returns-clause-store
returns-clause-store c =
    let s : Store = pairs_of c.args.pairs.now in
    let other : same_bytes c.in-Some.old.now c.args.expected.now ≡ false = search rules in
    left (Exchange c.args.key.now c.args.expected.now c.args.value.now) s s s (Differs c.in-Some.old.now)
    (exchange_differs c.args.key.now c.args.expected.now c.args.value.now c.in-Some.old.now s c.in-Some.ensures other) refl

pub returns-clause-answer : goal.returns-clause-answer
returns-clause-answer c =
    let s : Store = pairs_of c.args.pairs.now in
    let other : same_bytes c.in-Some.old.now c.args.expected.now ≡ false = search rules in
    said (Exchange c.args.key.now c.args.expected.now c.args.value.now) s s (Differs c.in-Some.old.now) _ _
    (exchange_differs c.args.key.now c.args.expected.now c.args.value.now c.in-Some.old.now s c.in-Some.ensures other)
    c.in_ok-say_value.ensures.said
