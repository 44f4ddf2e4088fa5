use Rattle.std.proofs.Common.{◌++◌, ◌∷◌, [], ℕ, List, length, map, sum, sym, ap, ◌∙◌, Vec, Global}
use Rattle.std.specs.Fmt.{decimal}
use Rattle.text_defs.specs.Words.{space, line_text}
use Rattle.member_events.specs.declared.events.Delivered.{Delivered}
use Rattle.accounts.specs.Views.{delivery}
use Rattle.report_lines.proofs.Reported.{lengths-same, process-written}
use Rattle.report_lines.proofs.processes.push_process.Goals as goal

pub returns : goal.returns
returns c = λ p so.
    let reported = c.args.report.now.account.now in
    process-written c.args.report.now p so
    (length c.as_slice.result.now) c.in_ok-delivered.delivered c.args.out.now.items c.push_name.new.out.items c.push_counts.new.out.items
    (ap length c.as_slice.ensures.value)
    (c.in_ok-delivered.ensures
    ∙ ap (λ (dss : List (Vec Delivered Global)). sum (map (λ ds. length ds.items) dss)) c.deref.ensures.value
    ∙ ap sum (sym (lengths-same (λ (ds : Vec Delivered Global). ds.items) delivery reported.delivered.items)))
    c.in_ok-push_name.ensures
    (c.in_ok-push_counts.ensures
    ∙ ap (λ (n : ℕ). c.push_name.new.out.items
    ++ space ∷ line_text (decimal (length c.as_slice.result.now) ∷ decimal c.in_ok-delivered.delivered ∷ decimal n ∷ [])) c.into.ensures)
