use Rattle.journal_rp.specs.Headers.{header as header_of}
use Rattle.journal_rp.proofs.OnReported.{short_none, journal_there, first_there, other_none}
use Rattle.journal_rp.proofs.starting.opened.Goals as goal

pub returns-then-len-le-FIRST_GATE-clause-refused : goal.returns-then-len-le-FIRST_GATE-clause-refused
returns-then-len-le-FIRST_GATE-clause-refused g c =
    let h = header_of c.args.header.now in
    short_none h c.header_with-one.result c.header_with-two.result c.header_with-one.ensures.value c.header_with-two.ensures.value
    c.header_with-one.ensures.length c.header_with-two.ensures.length _ c.args.len c.if-len-le-FIRST_GATE.true c.requires

pub returns-in_default-clause-refused : goal.returns-in_default-clause-refused
returns-in_default-clause-refused g c =
    let h = header_of c.args.header.now in
    other_none h c.header_with-one.result c.header_with-two.result c.header_with-one.ensures.value c.header_with-two.ensures.value
    c.header_with-one.ensures.length c.header_with-two.ensures.length _ c.fill_from.new.into c.fill_from.auto.into
    c.in_ok-fill_from.ensures.bytes c.in_default.ensures.none

pub returns-clause-found : goal.returns-clause-found
returns-clause-found g c =
    let h = header_of c.args.header.now in
    journal_there h c.header_with-one.result c.header_with-two.result c.header_with-one.ensures.value c.header_with-two.ensures.value
    c.header_with-one.ensures.length c.header_with-two.ensures.length _ c.fill_from.new.into c.args.len c.in-Some.version
    c.if-len-le-FIRST_GATE.false c.requires c.fill_from.auto.into c.in_ok-fill_from.ensures.bytes c.in-Some.ensures.which

pub returns-clause-first : goal.returns-clause-first
returns-clause-first g c =
    let h = header_of c.args.header.now in
    first_there h c.header_with-one.result c.header_with-two.result c.header_with-one.ensures.value c.header_with-two.ensures.value
    c.header_with-one.ensures.length c.header_with-two.ensures.length _ c.in-Some.version
    (journal_there h c.header_with-one.result c.header_with-two.result c.header_with-one.ensures.value c.header_with-two.ensures.value
    c.header_with-one.ensures.length c.header_with-two.ensures.length _ c.fill_from.new.into c.args.len c.in-Some.version
    c.if-len-le-FIRST_GATE.false c.requires c.fill_from.auto.into c.in_ok-fill_from.ensures.bytes c.in-Some.ensures.which)
