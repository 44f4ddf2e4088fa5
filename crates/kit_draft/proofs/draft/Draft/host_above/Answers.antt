use Rattle.std.proofs.Common.{sym, ap, ◌∙◌, nat_lt}
use Rattle.std.specs.List.{list_any}
use Rattle.kit_defs.specs.Kits as plain
use Rattle.kit_file.specs.declared.parts.Host.{Host}
use Rattle.kit_file.specs.Views.{host}
use Rattle.kit_draft.proofs.Repeats.{any_map}
use Rattle.kit_draft.proofs.draft.Draft.host_above.Goals as goal

pub returns : goal.returns
returns c =
    let test = λ (h : Host). nat_lt c.args.p h.process in
    rw (← c.self.view_is) (c.is_below_one.ensures ∙ ap (λ hs. list_any test hs) c.deref.ensures.value ∙ sym
    (any_map host (λ (h : plain.Host). nat_lt c.args.p h.process) c.self.inside.hosts.items))
