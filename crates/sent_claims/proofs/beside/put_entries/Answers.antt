use Rattle.std.proofs.Common.{◌+◌, List, [], ◌∷◌, true, drop, ap, ◌∙◌}
use Rattle.sent_claims.specs.declared.beside.Entry.{Entry}
use Rattle.sent_claims.specs.Certificates.{all_signed}
use Rattle.sent_claims.specs.Beside.{chosen}
use Rattle.sent_claims.specs.Entries.{places_of}
use Rattle.sent_claims.proofs.Walks.{drop-at, drop-past}
use Rattle.sent_claims.proofs.Listed.{signed-chosen}
use Rattle.sent_claims.proofs.Ways.{way-next, way-end}
use Rattle.sent_claims.proofs.beside.put_entries.Goals as goal

pub entries-preserved : goal.entries-preserved
entries-preserved c =
    let heard = c.args.pool.now.pool.heard in
    let rest : List Entry = drop (c.entries.entry-index + 1) c.args.entries.now in
    way-next true c.entries.list c.put_heard.new.list _ _ (all_signed (chosen heard (c.entry-item.result.place ∷ [])))
    (all_signed (chosen heard (places_of rest)))
    (ap (λ es. all_signed (chosen heard (places_of es)))
    (drop-at c.args.entries.now c.entries.entry-index c.entry-item.result c.entries-test.true c.entry-item.is) ∙ signed-chosen heard
    c.entry-item.result.place (places_of rest)) c.entries.invariant c.in_ok-put_heard.ensures

pub returns : goal.returns
returns c = way-end true c.entries.list _ _
    (ap (λ es. all_signed (chosen c.args.pool.now.pool.heard (places_of es)))
    (drop-past c.args.entries.now c.entries.entry-index c.entries-test.false)) c.entries.invariant
