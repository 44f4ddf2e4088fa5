use Rattle.std.proofs.Common.{◌≡◌, ◌++◌, ◌∙◌, ℕ, List, String, length, map, sym, ap, subst, arith, rules}
use Rattle.std.proofs.lemmas.List.{length-map}
use Rattle.std.specs.declared.alloc.Global.{Global}
use Rattle.rp_devices.specs.Links.{ported}
use Rattle.interop_runs.specs.Telling.{end_text}
use Rattle.interop_runs.proofs.running.run.Goals as goal

pub returns : goal.returns
returns g c =
    let status = c.run-status.result in
    let before = c.in_ok-outside.outside in
    let after = c.run-status.new.outside in
    let program = c.args.program.now in
    let coming = c.args.asked.now.coming.items in
    let count : c.len.result ≡ length coming = search rules in
    let waiting : c.len.result ≡ length (map ported coming) = count ∙ sym (length-map coming ported) in
    let text = c.in_ok-push_end.ensures ∙ ap (λ (l : List ℕ). l ++ end_text c.len.result status after) c.new-reported.ensures.items in
    record {
      before = before;
      after = after;
      status = status;
      set_up = c.in_ok-outside.ensures;
      ran = subst (λ (words : List (String Global)). g.P.Program.comes_to program words before after status) c.deref.ensures.value
          c.run-status.ensures;
      memory = λ e. omega (arith, e, c.if-status-eq-NO_MEMORY.false);
      is_reported = text ∙ ap (λ (n : ℕ). end_text n status after) waiting;
    }
