use Rattle.std.proofs.Common.{◌≡◌, inl, inr, Err, true≢false, sym, ap, subst, ◌∙◌}
use Rattle.node_defs.specs.Lines.{Stop}
use Rattle.node_input.specs.Kits.{HasNoKit}
use Rattle.node_input.proofs.Fronts.{found, hosts-nobody, no-kit}
use Rattle.node_input.proofs.kits.read_kit.Goals as goal

pub returns-in-Err-clause-none : goal.returns-in-Err-clause-none
returns-in-Err-clause-none g c = λ k seen. subst (λ (w : Stop). HasNoKit k (g.S.Source.faults c.read_front.new.input) w) (sym c.stop_for.ensures)
    (no-kit k _ _ _ _ _ c.requires seen c.in-Err.fault c.in-Err.ensures.fault
    (elim c.in-Err.ensures.steady [ inl e ↦ inl (cc e) | inr s ↦ inr s ]) (λ e. c.in-Err.ensures.failed (ap (λ f. Err f) e)))

pub returns-in-Ok-clause-none : goal.returns-in-Ok-clause-none
returns-in-Ok-clause-none g c = λ k seen. hosts-nobody k _ _ _ _ _ c.requires seen c.in-Ok.front.kit c.in-Ok.front.go _
    (elim c.in-Ok.ensures.steady [ inl bad ↦ absurd cc | inr same ↦ same ]) c.in-Ok.ensures.found
    (c.hosts_nobody.ensures.0 c.if-hosts_nobody.true)

pub returns-in-Ok-2-clause-found : goal.returns-in-Ok-2-clause-found
returns-in-Ok-2-clause-found g c = λ k seen. found k _ _ _ _ _ c.requires seen c.in-Ok.front.kit c.in-Ok.front.go _
    (elim c.in-Ok.ensures.steady [ inl bad ↦ absurd cc | inr same ↦ same ]) c.in-Ok.ensures.found
    (λ none. true≢false (sym (c.hosts_nobody.ensures.1 none) ∙ c.if-hosts_nobody.false))
