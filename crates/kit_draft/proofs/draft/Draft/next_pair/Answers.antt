use Rattle.std.proofs.Common.{ℕ, List, length, drop, ◌-◌, sym, ap, ◌∙◌, option_map}
use Rattle.std.specs.Prelude.{slice_get}
use Rattle.kit_defs.specs.Kits.{others_than, roster_of}
use Rattle.kit_defs.specs.KitReading.{Draft, first_of}
use Rattle.kit_file.specs.declared.parts.Host.{Host}
use Rattle.kit_draft.proofs.Lasts.{none_behind, next_behind}
use Rattle.kit_draft.proofs.draft.Draft.next_pair.Goals as goal

pub returns-in_err-last : goal.returns-in_err-last
returns-in_err-last c =
    c.from_residual.ensures
    ∙ sym (none_behind c.args.self.now c.self.inside.hosts.items (sym (ap (λ (d : Draft). d.hosts) c.self.view_is))
    (ap (λ (hs : List Host). slice_get hs (length hs - 1)) (sym c.deref.ensures.value) ∙ sym c.in_err-last.ensures.value))

pub returns : goal.returns
returns c =
    let h = c.in_ok-last.field-0.now in
    let behind = λ (ps : List ℕ). option_map (λ q. (h.process, q)) (first_of (drop (length h.pairs.items) (others_than h.process ps))) in
    c.next_behind.ensures
    ∙ ap behind (c.processes.ensures.value ∙ ap (λ (d : Draft). roster_of d.keys) c.self.view_is)
    ∙ sym (next_behind c.args.self.now c.self.inside.hosts.items (sym (ap (λ (d : Draft). d.hosts) c.self.view_is)) h
    (ap (λ (hs : List Host). slice_get hs (length hs - 1)) (sym c.deref.ensures.value) ∙ sym c.in_ok-last.ensures.value))
