use Rattle.std.proofs.Common.{sym, ap, ◌∙◌, ◌==◌}
use Rattle.std.specs.List.{list_any}
use Rattle.kit_defs.specs.Kits as plain
use Rattle.kit_file.specs.declared.parts.Host.{Host}
use Rattle.kit_file.specs.Views.{host}
use Rattle.kit_draft.proofs.Repeats.{any_map}
use Rattle.kit_draft.proofs.draft.Draft.is_hosted.Goals as goal

pub returns : goal.returns
returns c =
    let test = λ (h : Host). h.process == c.args.p in
    rw (← c.self.view_is) (c.is_among.ensures ∙ ap (λ hs. list_any test hs) c.deref.ensures.value ∙ sym
    (any_map host (λ (h : plain.Host). h.process == c.args.p) c.self.inside.hosts.items))
