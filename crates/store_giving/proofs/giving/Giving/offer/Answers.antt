use Rattle.std.proofs.Common.{[], refl, sym, ◌∙◌}
use Rattle.store_records.specs.Views.{state_record as record_of}
use Rattle.store_giving.proofs.Answering.{after-so, member-so, read-none, read-some, server-so, stays, unmoved, word-so}
use Rattle.store_giving.proofs.Offering.{grammar-after, grammar-word, held-after, held-word, other-after, other-word}
use Rattle.store_giving.proofs.giving.Giving.offer.Goals as goal

pub returns-in_default-clause-word : goal.returns-in_default-clause-word
returns-in_default-clause-word g c = λ q s is holds.
    sym (grammar-word (g.V.Scheme.valid c.args.scheme.now) q [] s c.args.bytes.now
    (read-none c.read_state.result c.args.bytes.now c.in_default.is c.read_state.ensures.exact))

pub returns-in_default-clause-server : goal.returns-in_default-clause-server
returns-in_default-clause-server g c = λ q s here is holds.
    grammar-after (g.V.Scheme.valid c.args.scheme.now) q here s c.args.bytes.now
    (read-none c.read_state.result c.args.bytes.now c.in_default.is c.read_state.ensures.exact)
    ∙ stays q s c.args.self.now is

pub returns-in_default-clause-after : goal.returns-in_default-clause-after
returns-in_default-clause-after g c = λ q s here is holds.
    unmoved q s c.args.self.now is _ _ (grammar-after (g.V.Scheme.valid c.args.scheme.now) q here s c.args.bytes.now
    (read-none c.read_state.result c.args.bytes.now c.in_default.is c.read_state.ensures.exact))
    (record { me = refl; group = refl; key = refl; view = refl; state = refl; keys = refl; transfer = refl })

pub returns-then-holds-clause-word : goal.returns-then-holds-clause-word
returns-then-holds-clause-word g c = λ q s is holds.
    sym (held-word (g.V.Scheme.valid c.args.scheme.now) q [] s c.args.bytes.now (record_of c.in-Some.given)
    (read-some c.read_state.result c.in-Some.given c.args.bytes.now c.in-Some.is c.read_state.ensures.exact) (sym holds ∙ c.if-holds.true))

pub returns-then-holds-clause-server : goal.returns-then-holds-clause-server
returns-then-holds-clause-server g c = λ q s here is holds.
    held-after (g.V.Scheme.valid c.args.scheme.now) q here s c.args.bytes.now (record_of c.in-Some.given)
    (read-some c.read_state.result c.in-Some.given c.args.bytes.now c.in-Some.is c.read_state.ensures.exact) (sym holds ∙ c.if-holds.true)
    ∙ stays q s c.args.self.now is

pub returns-then-holds-clause-after : goal.returns-then-holds-clause-after
returns-then-holds-clause-after g c = λ q s here is holds.
    unmoved q s c.args.self.now is _ _ (held-after (g.V.Scheme.valid c.args.scheme.now) q here s c.args.bytes.now (record_of c.in-Some.given)
    (read-some c.read_state.result c.in-Some.given c.args.bytes.now c.in-Some.is c.read_state.ensures.exact) (sym holds ∙ c.if-holds.true))
    (record { me = refl; group = refl; key = refl; view = refl; state = refl; keys = refl; transfer = refl })

pub returns-then-not-is_member-clause-word : goal.returns-then-not-is_member-clause-word
returns-then-not-is_member-clause-word g c = λ q s is holds.
    sym (other-word (g.V.Scheme.valid c.args.scheme.now) q [] s c.args.bytes.now (record_of c.in-Some.given)
    (read-some c.read_state.result c.in-Some.given c.args.bytes.now c.in-Some.is c.read_state.ensures.exact) (sym holds ∙ c.if-holds.false)
    (member-so q s c.args.self.now is c.is_member.result c.is_member.ensures ∙ c.if-not-is_member.true))

pub returns-then-not-is_member-clause-server : goal.returns-then-not-is_member-clause-server
returns-then-not-is_member-clause-server g c = λ q s here is holds.
    other-after (g.V.Scheme.valid c.args.scheme.now) q here s c.args.bytes.now (record_of c.in-Some.given)
    (read-some c.read_state.result c.in-Some.given c.args.bytes.now c.in-Some.is c.read_state.ensures.exact) (sym holds ∙ c.if-holds.false)
    (member-so q s c.args.self.now is c.is_member.result c.is_member.ensures ∙ c.if-not-is_member.true)
    ∙ stays q s c.args.self.now is

pub returns-then-not-is_member-clause-after : goal.returns-then-not-is_member-clause-after
returns-then-not-is_member-clause-after g c = λ q s here is holds.
    unmoved q s c.args.self.now is _ _ (other-after (g.V.Scheme.valid c.args.scheme.now) q here s c.args.bytes.now (record_of c.in-Some.given)
    (read-some c.read_state.result c.in-Some.given c.args.bytes.now c.in-Some.is c.read_state.ensures.exact) (sym holds ∙ c.if-holds.false)
    (member-so q s c.args.self.now is c.is_member.result c.is_member.ensures ∙ c.if-not-is_member.true))
    (record { me = refl; group = refl; key = refl; view = refl; state = refl; keys = refl; transfer = refl })

pub returns-clause-word : goal.returns-clause-word
returns-clause-word g c = λ q s is holds.
    word-so q s c.args.self.now is (g.V.Scheme.valid c.args.scheme.now) (record_of c.in-Some.given) _ c.in_ok-taken.taken
    c.of-key.ensures c.in_ok-taken.ensures.taken c.args.bytes.now
    (read-some c.read_state.result c.in-Some.given c.args.bytes.now c.in-Some.is c.read_state.ensures.exact) (sym holds ∙ c.if-holds.false)
    (member-so q s c.args.self.now is c.is_member.result c.is_member.ensures ∙ c.if-not-is_member.false)

pub returns-clause-server : goal.returns-clause-server
returns-clause-server g c = λ q s here is holds.
    server-so q s c.args.self.now is (g.V.Scheme.valid c.args.scheme.now) (record_of c.in-Some.given) _ c.in_ok-taken.taken
    c.of-key.ensures c.in_ok-taken.ensures.taken here c.args.bytes.now _
    (read-some c.read_state.result c.in-Some.given c.args.bytes.now c.in-Some.is c.read_state.ensures.exact) (sym holds ∙ c.if-holds.false)
    (member-so q s c.args.self.now is c.is_member.result c.is_member.ensures ∙ c.if-not-is_member.false) c.in_ok-taken.ensures.transfer

pub returns-clause-after : goal.returns-clause-after
returns-clause-after g c = λ q s here is holds.
    after-so q s c.args.self.now is (g.V.Scheme.valid c.args.scheme.now) (record_of c.in-Some.given) _ c.in_ok-taken.taken
    c.of-key.ensures c.in_ok-taken.ensures.taken here c.args.bytes.now _
    (read-some c.read_state.result c.in-Some.given c.args.bytes.now c.in-Some.is c.read_state.ensures.exact) (sym holds ∙ c.if-holds.false)
    (member-so q s c.args.self.now is c.is_member.result c.is_member.ensures ∙ c.if-not-is_member.false) c.in_ok-taken.ensures.transfer
    refl refl refl refl refl refl
