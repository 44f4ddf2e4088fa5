use Rattle.std.proofs.Common.{sym, ◌∙◌, ap, Some}
use Rattle.std.specs.Option.{option_map}
use Rattle.std.proofs.Math.Logic.{∥∥₁_elim, ∥∥₁_map}
use Rattle.message_defs.specs.Packing.{signed_of}
use Rattle.message_defs.specs.Statements.{Statement}
use Rattle.group_defs.specs.Signing.{own_claim}
use Rattle.stmt_codec.specs.Views.{stmt}
use Rattle.rule_laws.proofs.LeastIsDue.{least_due-may}
use Rattle.due_statements.specs.AskedOf.{kind_of}
use Rattle.member_state.proofs.Below.{due_is_in_range}
use Rattle.member_state.proofs.Ranges.{statement-once}
use Rattle.member_signing.proofs.Owned.{own-is, owned-is}
use Rattle.member_signing.proofs.signing.next.Goals as goal

pub due-requires : goal.due-requires
due-requires g c = c.rule_inputs.ensures.seated c.requires.real

pub make-requires-clause-range : goal.make-requires-clause-range
make-requires-clause-range g c =
    ∥∥₁_elim c.requires.real (statement-once (stmt c.in-Some.statement)) (λ r.
    due_is_in_range r.setting r.process (stmt c.in-Some.statement) r.state.lawful
    (least_due-may r.setting r.process (kind_of c.args.kind) (stmt c.in-Some.statement)
    (c.in-Some.ensures r.setting r.process (c.rule_inputs.ensures.stands r.setting r.process r.state))))

pub returns-in_default-clause-next : goal.returns-in_default-clause-next
returns-in_default-clause-next g c s p group used is = sym
    (ap (option_map (λ (st : Statement). signed_of (own_claim s (g.G.Signer.signature c.args.signer.now) p st)))
    (c.in_default.ensures s p (c.rule_inputs.ensures.stands s p is)))

pub returns-clause-next : goal.returns-clause-next
returns-clause-next g c s p group used is =
    ap Some (c.in_ok-own.ensures.made ∙ own-is s (g.G.Signer.signature c.args.signer.now) p
    (stmt c.in-Some.statement) c.args.group.now c.args.state.now.own.me (g.G.Tally.used c.args.signer.now) group is.place.number used)
    ∙ sym (ap (option_map (λ (st : Statement). signed_of (own_claim s (g.G.Signer.signature c.args.signer.now) p st)))
    (c.in-Some.ensures s p (c.rule_inputs.ensures.stands s p is)))

pub returns-clause-owed : goal.returns-clause-owed
returns-clause-owed g c =
    record {
      signer = ∥∥₁_map c.requires.real (λ r. record {
        setting = r.setting;
        process = r.process;
        said = stmt c.in-Some.statement;
        state = r.state;
        may = least_due-may r.setting r.process (kind_of c.args.kind) (stmt c.in-Some.statement)
            (c.in-Some.ensures r.setting r.process (c.rule_inputs.ensures.stands r.setting r.process r.state));
        own = owned-is r.setting r.process
            (stmt c.in-Some.statement) c.in_ok-own.own c.args.state.now.own.me _ c.in_ok-own.ensures.made r.state.place.number;
      });
      short = c.in_ok-own.ensures.short;
    }
