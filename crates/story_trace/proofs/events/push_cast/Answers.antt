use Rattle.std.proofs.Common.{ℕ, ◌∷◌, [], ◌++◌, List, ap, ◌∙◌, map}
use Rattle.std.specs.List.{flat_map}
use Rattle.text_defs.specs.Words.{line_text}
use Rattle.schedule_file.specs.declared.schedule.Listed.{Listed}
use Rattle.schedule_file.specs.Views.{listed}
use Rattle.trace_defs.specs.Events.{role_line, genesis_line}
use Rattle.story_trace.proofs.Behind.{more_of}
use Rattle.story_trace.proofs.events.push_cast.Goals as goal

pub returns : goal.returns
returns c =
    let h = c.args.header.now in
    more_of line_text (map role_line (map listed h.processes.items))
    (genesis_line h.genesis.items ∷ []) c.args.out.now.items c.push_roles.new.out.items c.push_genesis.new.out.items
    (c.in_ok-push_roles.ensures ∙ ap
    (λ (ls : List Listed). c.args.out.now.items ++ flat_map line_text (map role_line (map listed ls))) c.deref.ensures.value)
    (c.in_ok-push_genesis.ensures ∙ ap
    (λ (ms : List ℕ). c.push_roles.new.out.items ++ flat_map line_text (genesis_line ms ∷ [])) c.as_slice.ensures.value)
