use Rattle.std.proofs.Common.{◌∙◌, Option, ap, sym}
use Rattle.signature_defs.specs.Schemes.{is_valid}
use Rattle.frame_codec.specs.declared.groups.FrameView.{FrameView}
use Rattle.node_defs.specs.Casts.{setting_of}
use Rattle.conviction_defs.specs.Convictions.{is_convicted}
use Rattle.guard_service.specs.Evidence.{claims_shown}
use Rattle.guard_service.proofs.Seeking.{same-judge}
use Rattle.guard_service.proofs.Signing.{quiet}
use Rattle.guard_service.proofs.evidence.is_convicted_by.Goals as goal

pub returns : goal.returns
returns c =
    c.convicts.ensures
    ∙ same-judge _ _ _ (setting_of c.args.kit.now) _ c.args.q c.group-group.ensures c.roster.ensures (ap is_valid c.scheme-scheme.ensures)
    ∙ ap (λ (f : Option FrameView). is_convicted (setting_of c.args.kit.now) (claims_shown f) c.args.q) (sym c.in-Some.is)

pub returns-then-not-contains : goal.returns-then-not-contains
returns-then-not-contains c =
    quiet (setting_of c.args.kit.now) c.args.q (claims_shown c.args.frame.now)
    (sym (c.requires c.args.q) ∙ sym c.contains.ensures ∙ c.if-not-contains.true)
