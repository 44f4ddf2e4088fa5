use Rattle.std.proofs.Common.{refl, sym, ap, ◌∙◌, insert}
use Rattle.stmt_codec.specs.Views.{claim}
use Rattle.sent_claims.specs.declared.beside.Entry.{Entry}
use Rattle.sent_claims.specs.Entries.{first_above}
use Rattle.sent_claims.proofs.Putting.{stand-put, stand-skip, stand-none}
use Rattle.sent_claims.proofs.beside.put_entry.Goals as goal

pub returns-in_default : goal.returns-in_default
returns-in_default c = stand-none c.args.cut c.args.pool.now.pool.heard c.args.place c.args.entries.now.items c.requires
    (sym c.in_default.ensures)

pub returns-then-not-is_beside : goal.returns-then-not-is_beside
returns-then-not-is_beside c = stand-skip c.args.cut c.args.pool.now.pool.heard c.args.place c.args.entries.now.items c.requires
    (claim c.in-Some.claim) (sym c.in-Some.ensures) (sym c.is_beside.ensures ∙ c.if-not-is_beside.true)

pub returns : goal.returns
returns c =
    let entry : Entry = record { numbers = c.claim_numbers-numbers.result; place = c.args.place } in
    stand-put c.args.cut c.args.pool.now.pool.heard c.args.place c.args.entries.now.items c.requires
    (claim c.in-Some.claim) entry c.insert.new.self.items (sym c.in-Some.ensures)
    (sym c.is_beside.ensures ∙ c.if-not-is_beside.false) refl c.claim_numbers-numbers.ensures
    (c.in_ok-insert.ensures.items ∙ ap (λ i. insert c.args.entries.now.items i entry)
    (c.place_among-at.ensures.count ∙ (λ j. first_above (c.deref.ensures.0 j) (c.as_slice.ensures.value j))))
