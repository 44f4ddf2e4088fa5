use Rattle.std.proofs.Common.{◌≡◌, ◌∙◌, sym, ap}
use Rattle.std.specs.Str.{bytes_eq}
use Rattle.stmt_codec.specs.Views.{stmt}
use Rattle.message_defs.specs.Statements as plain
use Rattle.byte_defs.specs.Choices.{is_some_and}
use Rattle.claim_index.specs.Kept.{Holding, heard_in, statement_bytes}
use Rattle.claim_index.proofs.Found.{said_there, nothing_there}
use Rattle.claim_index.proofs.index.ClaimIndex.says_at.Goals as goal

pub returns-in-Some : goal.returns-in-Some
returns-in-Some c =
    let heard : c.args.self.now.pool.heard
    ≡ heard_in c.self.inside.bytes.items c.self.inside.kept.entries = sym (ap (λ (r : Holding). r.pool.heard) c.self.view_is) in
    c.is_said.ensures ∙ ap (λ b. bytes_eq (statement_bytes b c.in-Some.kept.now) c.args.spelled.now) c.deref.ensures.value
    ∙ ap (bytes_eq (statement_bytes c.self.inside.bytes.items c.in-Some.kept.now)) c.requires.spelled
    ∙ said_there c.args.self.now.pool c.self.inside.bytes.items c.self.inside.kept.entries heard c.self.invariant.now.kept c.args.place
    (c.in-Some.field-0-0.now, c.in-Some.kept.now) c.in-Some.ensures.entry (stmt c.args.statement.now) c.requires.range

pub returns-in-None : goal.returns-in-None
returns-in-None c =
    let heard : c.args.self.now.pool.heard
    ≡ heard_in c.self.inside.bytes.items c.self.inside.kept.entries = sym (ap (λ (r : Holding). r.pool.heard) c.self.view_is) in
    ap (λ o. is_some_and o (plain.same_statement (stmt c.args.statement.now)))
    (nothing_there c.args.self.now.pool c.self.inside.bytes.items c.self.inside.kept.entries heard c.self.invariant.now.kept c.args.place
    c.in-None.ensures.entry)
