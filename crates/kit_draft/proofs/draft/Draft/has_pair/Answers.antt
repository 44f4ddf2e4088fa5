use Rattle.std.proofs.Common.{sym, ap, ◌∙◌, ◌==◌, ◌&&◌}
use Rattle.std.specs.List.{list_any}
use Rattle.kit_defs.specs.Kits as plain
use Rattle.kit_file.specs.declared.parts.Host.{Host}
use Rattle.kit_file.specs.Views.{host}
use Rattle.kit_draft.proofs.Repeats.{any_map}
use Rattle.kit_draft.proofs.draft.Draft.has_pair.Goals as goal

pub returns : goal.returns
returns c =
    let test = λ (h : Host). (h.process == c.args.p) && list_any (λ pair. pair.0 == c.args.q) h.pairs.items in
    rw (← c.self.view_is) (c.are_paired.ensures ∙ ap (λ hs. list_any test hs) c.deref.ensures.value ∙ sym
    (any_map host (λ (h : plain.Host). (h.process == c.args.p)
    && list_any (λ pair. pair.0 == c.args.q) h.pairs) c.self.inside.hosts.items))
