use Rattle.std.proofs.Common.{◌∙◌, ap}
use Rattle.serde_json.specs.Written.{compact_text, has_float}
use Rattle.findings_laws.proofs.Texts.{findings_are_compact}
use Rattle.findings_json.specs.Views.{findings}
use Rattle.findings_json.proofs.writing.text_of.Goals as goal

pub returns : goal.returns
returns c =
    let law = findings_are_compact (findings c.args.findings.now) c.in_ok-value.ensures.bytes in
    c.in_ok-to_vec.ensures.text (ap has_float c.in_ok-value.ensures.value ∙ law.0) ∙ ap compact_text c.in_ok-value.ensures.value ∙ law.1
