use Rattle.std.proofs.Common.{◌≡◌, ◌∙◌, Some, take, sym, ap}
use Rattle.std.specs.Str.{bytes_eq}
use Rattle.claim_index.specs.Kept.{Holding, heard_in, statement_bytes}
use Rattle.stmt_codec.specs.Views.{stmt}
use Rattle.claim_index.proofs.Found.{repeated, unsaid, kept_from_lookup}
use Rattle.claim_index.proofs.index.ClaimIndex.repeats.Goals as goal

pub is_said-requires : goal.is_said-requires
is_said-requires c = rw c.deref.ensures.value (kept_from_lookup _ _ _ _ c.self.invariant.now.kept (sym c.in-Some.ensures)).0

pub returns-in-Some : goal.returns-in-Some
returns-in-Some c =
    let heard : c.args.self.now.pool.heard
    ≡ heard_in c.self.inside.bytes.items c.self.inside.kept.entries = sym (ap (λ (r : Holding). r.pool.heard) c.self.view_is) in
    ap Some (c.is_said.ensures ∙ ap
    (λ b. bytes_eq (statement_bytes b c.in-Some.kept.now) (take c.spell_into-said.result c.spell_into-said.new.out)) c.deref.ensures.value
    ∙ ap (bytes_eq (statement_bytes c.self.inside.bytes.items c.in-Some.kept.now)) c.spell_into-said.ensures.spelled)
    ∙ repeated c.args.self.now.pool c.self.inside.bytes.items c.self.inside.kept.entries heard c.self.invariant.now.kept c.args.signer
    (stmt c.args.statement.now) c.requires c.in-Some.kept.now (rw (c.new.ensures, c.slot_key_of.ensures) at c.in-Some.ensures)

pub returns-in-None : goal.returns-in-None
returns-in-None c =
    let heard : c.args.self.now.pool.heard
    ≡ heard_in c.self.inside.bytes.items c.self.inside.kept.entries = sym (ap (λ (r : Holding). r.pool.heard) c.self.view_is) in
    unsaid c.args.self.now.pool c.self.inside.bytes.items c.self.inside.kept.entries heard c.self.invariant.now.kept c.args.signer
    (stmt c.args.statement.now) (rw (c.new.ensures, c.slot_key_of.ensures) at c.in-None.ensures)
