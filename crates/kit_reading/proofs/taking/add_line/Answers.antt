use Rattle.std.proofs.Common.{List, ℕ, [], ◌∷◌, ◌++◌, Some, sym, ap, ◌∙◌}
use Rattle.sig_scheme.specs.Keys.{key_bytes}
use Rattle.sig_scheme.specs.Views.{scheme}
use Rattle.kit_defs.specs.Kits.{KitLine}
use Rattle.kit_defs.specs.KitReading.{Draft, with_line, with_pair}
use Rattle.kit_lines.specs.LineViews.{line}
use Rattle.kit_file.specs.Views.{hosts}
use Rattle.kit_reading.proofs.Additions.{ok, hosts_changed, keys_changed}
use Rattle.kit_reading.proofs.taking.add_line.Goals as goal

pub invariant_of-draft-in-SchemeIs : goal.invariant_of-draft-in-SchemeIs
invariant_of-draft-in-SchemeIs c =
    c.requires.keeps _ (ap (λ (l : KitLine). with_line c.args.number c.args.draft.now l) (ap line c.in-SchemeIs.is)
    ∙ ap (λ (d : Draft). ok (record d { scheme = Some (scheme c.in-SchemeIs.scheme) })) (sym c.draft-in-SchemeIs.view_is))

pub invariant_of-draft-in-GroupIs : goal.invariant_of-draft-in-GroupIs
invariant_of-draft-in-GroupIs c =
    c.requires.keeps _ (ap (λ (l : KitLine). with_line c.args.number c.args.draft.now l) (ap line c.in-GroupIs.is)
    ∙ ap (λ (d : Draft). ok (record d { group = Some c.in-GroupIs.group })) (sym c.draft-in-GroupIs.view_is))

pub invariant_of-draft-in-Continue-1 : goal.invariant_of-draft-in-Continue-1
invariant_of-draft-in-Continue-1 c =
    c.requires.keeps _ (ap (λ (l : KitLine). with_line c.args.number c.args.draft.now l) (ap line c.in-Key.is)
    ∙ keys_changed c.args.draft.now _ c.draft-in-Key.view_is (c.in-Key.process, key_bytes c.in-Key.key) c.add.new.self
    (c.in_ok-add-in-Key.ensures.added ∙ ap
    (λ (bytes : List ℕ). c.draft-in-Key.inside.roster ++ (c.in-Key.process, bytes) ∷ []) c.as_bytes.ensures.value))

pub add_plain_host-requires-clause-keeps : goal.add_plain_host-requires-clause-keeps
add_plain_host-requires-clause-keeps c =
    c.requires.keeps _ (ap (λ (l : KitLine). with_line c.args.number c.args.draft.now l) (ap line c.in-PlainHost.is))

pub invariant_of-draft-in-Continue-branch-6 : goal.invariant_of-draft-in-Continue-branch-6
invariant_of-draft-in-Continue-branch-6 c =
    c.requires.keeps _ (ap (λ (l : KitLine). with_line c.args.number c.args.draft.now l) (ap line c.in-Pair.is)
    ∙ hosts_changed c.args.draft.now _ c.draft-in-Pair.view_is (with_pair (c.in-Pair.other, c.in-Pair.key))
    (hosts c.push_pair.new.all.items) c.in_ok-push_pair-in-Pair.ensures.pushed)
