use Rattle.std.proofs.Common.{ℕ, List, Bool, [], None, inl, inr, subst, sym}
use Rattle.std.specs.Prelude.{IsSomeAnd, IsOk, IsErr}
use Rattle.std.specs.Io.KnownBytes.{Appends}
use Rattle.replay_defs.specs.Reports.{report_of}
use Rattle.command_line.specs.Commands.{KitOrder, Replay, Gen, Keygen, Node, Resume, Guard, Serve, Ask, Audit}
use Rattle.rp_base.specs.Streams.{AppendsPrefix}
use Rattle.node_loop.specs.Inputs.{most_line_bytes}
use Rattle.guarding_laws.proofs.Runs.{are_of_guards}
use Rattle.guarding_laws.specs.Laws.{AreGuards, AreOfGuards}
use Rattle.store_defs.specs.Words.{most_state_line_bytes}
use Rattle.serve_laws.specs.Services.{HasServed}
use Rattle.serve_laws.specs.Laws.{ServesStore}
use Rattle.serve_laws.proofs.Served.{histories_serve}
use Rattle.chain_laws.proofs.Reported.{answers_report_views}
use Rattle.audit_words.specs.Running.{Found, FoundInPart, HasFindings, HasNoFindings, Unfound}
use Rattle.node_traces.specs.Seen.{link_seen, sink_seen, source_seen}
use Rattle.replay_words.specs.Answers.{Reported, ReportedInPart, kit_of_order, schedule_of_number}
use Rattle.rampart_cli.proofs.Orders.{same_order, same_number, same_short, no_command}
use Rattle.rampart_cli.proofs.ReadFaults.{none_failed, none_failed_either}
use Rattle.rampart_cli.proofs.Services.{alone, alone_limit, guard_limit, in_order, in_order_resuming, resumed_alone, serve_limit, with_service}
use Rattle.rampart_cli.proofs.Reported.{ask_reports}
use Rattle.rampart_cli.proofs.top.rampart.Goals as goal

pub returns-in-Some-Keygen-clause-made : goal.returns-in-Some-Keygen-clause-made
returns-in-Some-Keygen-clause-made g c = λ order asks zero.
    subst (λ (o : KitOrder). Appends (g.K.Sink.written c.args.output.now) (g.K.Sink.written c.run_keygen.new.output) (kit_of_order o))
    (same_order _ order (rw c.in-Some-Keygen.field-0-is at c.in-Some-Keygen.ensures.only (Keygen order) asks))
    (c.run_keygen.ensures.made zero)

pub returns-in-Some-Keygen-clause-part_of_kit : goal.returns-in-Some-Keygen-clause-part_of_kit
returns-in-Some-Keygen-clause-part_of_kit g c = λ order asks four.
    subst (λ (o : KitOrder). AppendsPrefix (g.K.Sink.written c.args.output.now) (g.K.Sink.written c.run_keygen.new.output) (kit_of_order o))
    (same_order _ order (rw c.in-Some-Keygen.field-0-is at c.in-Some-Keygen.ensures.only (Keygen order) asks))
    (c.run_keygen.ensures.part four)

pub returns-in-None-clause-makes : goal.returns-in-None-clause-makes
returns-in-None-clause-makes g c = λ order asks calm. absurd (no_command _ (c.in-None.ensures.only (Keygen order) asks))

pub returns-in-None-clause-only_made : goal.returns-in-None-clause-only_made
returns-in-None-clause-only_made g c = λ order asks. absurd (no_command _ (c.in-None.ensures.only (Keygen order) asks))

pub returns-in-Some-Gen-clause-generated : goal.returns-in-Some-Gen-clause-generated
returns-in-Some-Gen-clause-generated g c = λ number asks zero.
    subst (λ (n : ℕ). Appends (g.K.Sink.written c.args.output.now) (g.K.Sink.written c.run_gen.new.output) (schedule_of_number n))
    (same_number _ number (rw c.in-Some-Gen.field-0-is at c.in-Some-Gen.ensures.only (Gen number) asks))
    (c.run_gen.ensures.made zero)

pub returns-in-Some-Gen-clause-part_of_schedule : goal.returns-in-Some-Gen-clause-part_of_schedule
returns-in-Some-Gen-clause-part_of_schedule g c = λ number asks four.
    subst (λ (n : ℕ). AppendsPrefix (g.K.Sink.written c.args.output.now) (g.K.Sink.written c.run_gen.new.output) (schedule_of_number n))
    (same_number _ number (rw c.in-Some-Gen.field-0-is at c.in-Some-Gen.ensures.only (Gen number) asks))
    (c.run_gen.ensures.part four)

pub returns-in-None-clause-generates : goal.returns-in-None-clause-generates
returns-in-None-clause-generates g c = λ number asks calm. absurd (no_command _ (c.in-None.ensures.only (Gen number) asks))

pub returns-in-None-clause-only_generated : goal.returns-in-None-clause-only_generated
returns-in-None-clause-only_generated g c = λ number asks. absurd (no_command _ (c.in-None.ensures.only (Gen number) asks))

pub returns-in-Some-Replay-clause-done : goal.returns-in-Some-Replay-clause-done
returns-in-Some-Replay-clause-done g c = λ short asks zero.
    subst (λ (b : Bool). Reported b (g.S.Source.left c.args.input.now) (g.S.Source.left c.run_replay.new.input)
    (g.K.Sink.written c.args.output.now) (g.K.Sink.written c.run_replay.new.output))
    (same_short _ short (rw c.in-Some-Replay.field-0-is at c.in-Some-Replay.ensures.only (Replay short) asks))
    (c.run_replay.ensures.done zero)

pub returns-in-Some-Replay-clause-part : goal.returns-in-Some-Replay-clause-part
returns-in-Some-Replay-clause-part g c = λ short asks four.
    subst (λ (b : Bool). ReportedInPart b (g.S.Source.left c.args.input.now) (g.S.Source.left c.run_replay.new.input)
    (g.K.Sink.written c.args.output.now) (g.K.Sink.written c.run_replay.new.output))
    (same_short _ short (rw c.in-Some-Replay.field-0-is at c.in-Some-Replay.ensures.only (Replay short) asks))
    (c.run_replay.ensures.part four)

pub returns-in-Some-Replay-clause-completes : goal.returns-in-Some-Replay-clause-completes
returns-in-Some-Replay-clause-completes g c = λ short asks reported calm calm_sink.
    c.run_replay.ensures.completes
    (subst (λ (b : Bool). IsSomeAnd (g.S.Source.left c.args.input.now) (λ reported. IsOk (report_of b reported)))
    (sym (same_short _ short (rw c.in-Some-Replay.field-0-is at c.in-Some-Replay.ensures.only (Replay short) asks))) reported)
    calm calm_sink

pub returns-in-Some-Replay-clause-refuses : goal.returns-in-Some-Replay-clause-refuses
returns-in-Some-Replay-clause-refuses g c = λ short asks reported calm.
    c.run_replay.ensures.refuses
    (subst (λ (b : Bool). IsSomeAnd (g.S.Source.left c.args.input.now) (λ reported. IsErr (report_of b reported)))
    (sym (same_short _ short (rw c.in-Some-Replay.field-0-is at c.in-Some-Replay.ensures.only (Replay short) asks))) reported)
    calm

pub returns-in-None-clause-completes : goal.returns-in-None-clause-completes
returns-in-None-clause-completes g c = λ short asks reported calm calm_sink. absurd (no_command _ (c.in-None.ensures.only (Replay short) asks))

pub returns-in-None-clause-refuses : goal.returns-in-None-clause-refuses
returns-in-None-clause-refuses g c = λ short asks reported calm. absurd (no_command _ (c.in-None.ensures.only (Replay short) asks))

pub returns-in-None-clause-only_replayed : goal.returns-in-None-clause-only_replayed
returns-in-None-clause-only_replayed g c = λ short asks. absurd (no_command _ (c.in-None.ensures.only (Replay short) asks))

pub returns-in-Some-Chain-clause-views : goal.returns-in-Some-Chain-clause-views
returns-in-Some-Chain-clause-views g c = λ asks read taken. answers_report_views read

pub returns-in-None-clause-ended : goal.returns-in-None-clause-ended
returns-in-None-clause-ended g c = λ file asks f. absurd (no_command _ (c.in-None.ensures.only (Node file) asks))

pub returns-in-None-clause-hosts : goal.returns-in-None-clause-hosts
returns-in-None-clause-hosts g c = λ file asks order calm calm_sink calm_disk. absurd (no_command _ (c.in-None.ensures.only (Node file) asks))

pub returns-in-Some-Node-clause-silent : goal.returns-in-Some-Node-clause-silent
returns-in-Some-Node-clause-silent g c = λ no_chain no_host. absurd (no_host (_, inl (rw c.in-Some-Node.field-0-is at c.in-Some-Node.ensures.found)))

pub returns-in-Some-Node-clause-read_line : goal.returns-in-Some-Node-clause-read_line
returns-in-Some-Node-clause-read_line g c = λ no_chain no_host. absurd (no_host (_, inl (rw c.in-Some-Node.field-0-is at c.in-Some-Node.ensures.found)))

pub returns-in-Some-Node-clause-by_host : goal.returns-in-Some-Node-clause-by_host
returns-in-Some-Node-clause-by_host g c = λ _. (_, inl (rw c.in-Some-Node.field-0-is at c.in-Some-Node.ensures.found))

pub returns-in-Some-Node-clause-of_journals : goal.returns-in-Some-Node-clause-of_journals
returns-in-Some-Node-clause-of_journals g c = λ _. inl (_, inl (rw c.in-Some-Node.field-0-is at c.in-Some-Node.ensures.found))

pub returns-in-Some-Node-clause-disk : goal.returns-in-Some-Node-clause-disk
returns-in-Some-Node-clause-disk g c = λ no_host. absurd (no_host (_, inl (rw c.in-Some-Node.field-0-is at c.in-Some-Node.ensures.found)))

pub returns-in-Some-Node-clause-link : goal.returns-in-Some-Node-clause-link
returns-in-Some-Node-clause-link g c = λ no_host. absurd (no_host (_, inl (rw c.in-Some-Node.field-0-is at c.in-Some-Node.ensures.found)))

pub returns-in-Some-Guard-clause-silent : goal.returns-in-Some-Guard-clause-silent
returns-in-Some-Guard-clause-silent g c = λ no_chain no_host. absurd (no_host (_, inr (inl (rw c.in-Some-Guard.field-0-is at c.in-Some-Guard.ensures.found))))

pub returns-in-Some-Guard-clause-read_line : goal.returns-in-Some-Guard-clause-read_line
returns-in-Some-Guard-clause-read_line g c = λ no_chain no_host. absurd (no_host (_, inr (inl (rw c.in-Some-Guard.field-0-is at c.in-Some-Guard.ensures.found))))

pub returns-in-Some-Guard-clause-by_host : goal.returns-in-Some-Guard-clause-by_host
returns-in-Some-Guard-clause-by_host g c = λ _. (_, inr (inl (rw c.in-Some-Guard.field-0-is at c.in-Some-Guard.ensures.found)))

pub returns-in-Some-Guard-clause-of_journals : goal.returns-in-Some-Guard-clause-of_journals
returns-in-Some-Guard-clause-of_journals g c = λ _. inl (_, inr (inl (rw c.in-Some-Guard.field-0-is at c.in-Some-Guard.ensures.found)))

pub returns-in-Some-Guard-clause-disk : goal.returns-in-Some-Guard-clause-disk
returns-in-Some-Guard-clause-disk g c = λ no_host. absurd (no_host (_, inr (inl (rw c.in-Some-Guard.field-0-is at c.in-Some-Guard.ensures.found))))

pub returns-in-Some-Guard-clause-link : goal.returns-in-Some-Guard-clause-link
returns-in-Some-Guard-clause-link g c = λ no_host. absurd (no_host (_, inr (inl (rw c.in-Some-Guard.field-0-is at c.in-Some-Guard.ensures.found))))

pub returns-in-Some-Guard-clause-ended_guard : goal.returns-in-Some-Guard-clause-ended_guard
returns-in-Some-Guard-clause-ended_guard g c = λ file asks f.
    with_service AreOfGuards (λ _ h. AreGuards h) (λ _ h are. are_of_guards h are) 70000 most_line_bytes guard_limit
    g.D.Disk.seen g.D.Disk.may_leave g.D.Disk.moment g.D.Disk.left_since f (source_seen g.S.Source.left g.S.Source.faults c.args.input.now)
    (link_seen g.L.Link.sent g.L.Link.coming g.L.Link.faults c.args.link.now) (sink_seen g.K.Sink.written g.K.Sink.faults c.args.output.now)
    c.args.disk.now (g.S.Source.left c.host-in-Some-Guard.new.input) (g.S.Source.faults c.host-in-Some-Guard.new.input)
    (link_seen g.L.Link.sent g.L.Link.coming g.L.Link.faults c.host-in-Some-Guard.new.link) (sink_seen g.K.Sink.written g.K.Sink.faults c.host-in-Some-Guard.new.output)
    c.host-in-Some-Guard.new.disk c.host-in-Some-Guard.result c.host-in-Some-Guard.new.service (c.host-in-Some-Guard.ensures.ended f [] tt)

pub returns-in-Some-Guard-clause-hosts_guard : goal.returns-in-Some-Guard-clause-hosts_guard
returns-in-Some-Guard-clause-hosts_guard g c = λ file asks order.
    c.host-in-Some-Guard.ensures.completes (in_order 70000 most_line_bytes guard_limit (g.S.Source.left c.args.input.now) (g.D.Disk.seen c.args.disk.now) order)

pub returns-in-Some-Replay-clause-no_read : goal.returns-in-Some-Replay-clause-no_read
returns-in-Some-Replay-clause-no_read g c = none_failed c.run_replay.result (g.S.Source.faults c.args.input.now) (g.S.Source.faults c.run_replay.new.input)
    c.run_replay.ensures.only c.run_replay.ensures.steady c.run_replay.ensures.whole

pub returns-in-Some-Chain-clause-no_read : goal.returns-in-Some-Chain-clause-no_read
returns-in-Some-Chain-clause-no_read g c = none_failed c.chain.result (g.S.Source.faults c.args.input.now) (g.S.Source.faults c.chain.new.input)
    c.chain.ensures.only c.chain.ensures.steady c.chain.ensures.whole

pub returns-in-Some-Ask-clause-no_read : goal.returns-in-Some-Ask-clause-no_read
returns-in-Some-Ask-clause-no_read g c = none_failed c.run_ask.result (g.S.Source.faults c.args.input.now) (g.S.Source.faults c.run_ask.new.input)
    c.run_ask.ensures.only c.run_ask.ensures.steady c.run_ask.ensures.whole

pub returns-in-Some-Audit-clause-no_read : goal.returns-in-Some-Audit-clause-no_read
returns-in-Some-Audit-clause-no_read g c = none_failed_either c.run_audit.result (g.S.Source.faults c.args.input.now) (g.S.Source.faults c.run_audit.new.input)
    c.run_audit.ensures.only c.run_audit.ensures.steady c.run_audit.ensures.whole

pub returns-in-Some-Serve-clause-silent : goal.returns-in-Some-Serve-clause-silent
returns-in-Some-Serve-clause-silent g c = λ no_chain no_host. absurd (no_host (_, inr (inr (inl (rw c.in-Some-Serve.field-0-is at c.in-Some-Serve.ensures.found)))))

pub returns-in-Some-Serve-clause-read_line : goal.returns-in-Some-Serve-clause-read_line
returns-in-Some-Serve-clause-read_line g c = λ no_chain no_host. absurd (no_host (_, inr (inr (inl (rw c.in-Some-Serve.field-0-is at c.in-Some-Serve.ensures.found)))))

pub returns-in-Some-Serve-clause-by_host : goal.returns-in-Some-Serve-clause-by_host
returns-in-Some-Serve-clause-by_host g c = λ _. (_, inr (inr (inl (rw c.in-Some-Serve.field-0-is at c.in-Some-Serve.ensures.found))))

pub returns-in-Some-Serve-clause-of_journals : goal.returns-in-Some-Serve-clause-of_journals
returns-in-Some-Serve-clause-of_journals g c = λ _. inl (_, inr (inr (inl (rw c.in-Some-Serve.field-0-is at c.in-Some-Serve.ensures.found))))

pub returns-in-Some-Serve-clause-disk : goal.returns-in-Some-Serve-clause-disk
returns-in-Some-Serve-clause-disk g c = λ no_host. absurd (no_host (_, inr (inr (inl (rw c.in-Some-Serve.field-0-is at c.in-Some-Serve.ensures.found)))))

pub returns-in-Some-Serve-clause-link : goal.returns-in-Some-Serve-clause-link
returns-in-Some-Serve-clause-link g c = λ no_host. absurd (no_host (_, inr (inr (inl (rw c.in-Some-Serve.field-0-is at c.in-Some-Serve.ensures.found)))))

pub returns-in-Some-Serve-clause-ended_serve : goal.returns-in-Some-Serve-clause-ended_serve
returns-in-Some-Serve-clause-ended_serve g c = λ file asks f.
    with_service ServesStore (λ v h. HasServed v h) (λ _ h are. histories_serve h are.answered) most_state_line_bytes most_state_line_bytes serve_limit
    g.D.Disk.seen g.D.Disk.may_leave g.D.Disk.moment g.D.Disk.left_since f (source_seen g.S.Source.left g.S.Source.faults c.args.input.now)
    (link_seen g.L.Link.sent g.L.Link.coming g.L.Link.faults c.args.link.now) (sink_seen g.K.Sink.written g.K.Sink.faults c.args.output.now)
    c.args.disk.now (g.S.Source.left c.host-in-Some-Serve.new.input) (g.S.Source.faults c.host-in-Some-Serve.new.input)
    (link_seen g.L.Link.sent g.L.Link.coming g.L.Link.faults c.host-in-Some-Serve.new.link) (sink_seen g.K.Sink.written g.K.Sink.faults c.host-in-Some-Serve.new.output)
    c.host-in-Some-Serve.new.disk c.host-in-Some-Serve.result c.host-in-Some-Serve.new.service (c.host-in-Some-Serve.ensures.ended f []
    (record { answered = tt; servers = λ kept. tt }))

pub returns-in-Some-Serve-clause-hosts_serve : goal.returns-in-Some-Serve-clause-hosts_serve
returns-in-Some-Serve-clause-hosts_serve g c = λ file asks order.
    c.host-in-Some-Serve.ensures.completes (in_order most_state_line_bytes most_state_line_bytes serve_limit (g.S.Source.left c.args.input.now) (g.D.Disk.seen c.args.disk.now) order)

pub returns-in-Some-Resume-clause-silent : goal.returns-in-Some-Resume-clause-silent
returns-in-Some-Resume-clause-silent g c = λ no_chain no_host. absurd (no_host (_, inr (inr (inr (rw c.in-Some-Resume.field-0-is at c.in-Some-Resume.ensures.found)))))

pub returns-in-Some-Resume-clause-read_line : goal.returns-in-Some-Resume-clause-read_line
returns-in-Some-Resume-clause-read_line g c = λ no_chain no_host. absurd (no_host (_, inr (inr (inr (rw c.in-Some-Resume.field-0-is at c.in-Some-Resume.ensures.found)))))

pub returns-in-Some-Resume-clause-by_host : goal.returns-in-Some-Resume-clause-by_host
returns-in-Some-Resume-clause-by_host g c = λ _. (_, inr (inr (inr (rw c.in-Some-Resume.field-0-is at c.in-Some-Resume.ensures.found))))

pub returns-in-Some-Resume-clause-of_journals : goal.returns-in-Some-Resume-clause-of_journals
returns-in-Some-Resume-clause-of_journals g c = λ _. inl (_, inr (inr (inr (rw c.in-Some-Resume.field-0-is at c.in-Some-Resume.ensures.found))))

pub returns-in-Some-Resume-clause-disk : goal.returns-in-Some-Resume-clause-disk
returns-in-Some-Resume-clause-disk g c = λ no_host. absurd (no_host (_, inr (inr (inr (rw c.in-Some-Resume.field-0-is at c.in-Some-Resume.ensures.found)))))

pub returns-in-Some-Resume-clause-link : goal.returns-in-Some-Resume-clause-link
returns-in-Some-Resume-clause-link g c = λ no_host. absurd (no_host (_, inr (inr (inr (rw c.in-Some-Resume.field-0-is at c.in-Some-Resume.ensures.found)))))

pub returns-in-None-clause-ended_resume : goal.returns-in-None-clause-ended_resume
returns-in-None-clause-ended_resume g c = λ file asks f. absurd (no_command _ (c.in-None.ensures.only (Resume file) asks))

pub returns-in-None-clause-ended_guard : goal.returns-in-None-clause-ended_guard
returns-in-None-clause-ended_guard g c = λ file asks f. absurd (no_command _ (c.in-None.ensures.only (Guard file) asks))

pub returns-in-None-clause-hosts_guard : goal.returns-in-None-clause-hosts_guard
returns-in-None-clause-hosts_guard g c = λ file asks order calm calm_sink calm_disk. absurd (no_command _ (c.in-None.ensures.only (Guard file) asks))

pub returns-in-None-clause-ended_serve : goal.returns-in-None-clause-ended_serve
returns-in-None-clause-ended_serve g c = λ file asks f. absurd (no_command _ (c.in-None.ensures.only (Serve file) asks))

pub returns-in-None-clause-hosts_serve : goal.returns-in-None-clause-hosts_serve
returns-in-None-clause-hosts_serve g c = λ file asks order calm calm_sink calm_disk. absurd (no_command _ (c.in-None.ensures.only (Serve file) asks))

pub returns-in-Some-Node-clause-ended : goal.returns-in-Some-Node-clause-ended
returns-in-Some-Node-clause-ended g c = λ file asks f.
    alone g.D.Disk.seen g.D.Disk.may_leave g.D.Disk.moment g.D.Disk.left_since f (source_seen g.S.Source.left g.S.Source.faults c.args.input.now)
    (link_seen g.L.Link.sent g.L.Link.coming g.L.Link.faults c.args.link.now) (sink_seen g.K.Sink.written g.K.Sink.faults c.args.output.now)
    c.args.disk.now (g.S.Source.left c.host.new.input) (g.S.Source.faults c.host.new.input)
    (link_seen g.L.Link.sent g.L.Link.coming g.L.Link.faults c.host.new.link) (sink_seen g.K.Sink.written g.K.Sink.faults c.host.new.output)
    c.host.new.disk c.host.result c.host.new.service (c.host.ensures.ended f [] tt)

pub returns-in-Some-Resume-clause-ended_resume : goal.returns-in-Some-Resume-clause-ended_resume
returns-in-Some-Resume-clause-ended_resume g c = λ file asks f.
    resumed_alone g.D.Disk.seen g.D.Disk.may_leave g.D.Disk.moment g.D.Disk.left_since f
    (source_seen g.S.Source.left g.S.Source.faults c.args.input.now)
    (link_seen g.L.Link.sent g.L.Link.coming g.L.Link.faults c.args.link.now) (sink_seen g.K.Sink.written g.K.Sink.faults c.args.output.now)
    c.args.disk.now (g.S.Source.left c.resume_host.new.input) (g.S.Source.faults c.resume_host.new.input)
    (link_seen g.L.Link.sent g.L.Link.coming g.L.Link.faults c.resume_host.new.link) (sink_seen g.K.Sink.written g.K.Sink.faults c.resume_host.new.output)
    c.resume_host.new.disk c.resume_host.result c.resume_host.new.service (c.resume_host.ensures.ended f [] tt)

pub returns-in-Some-Resume-clause-hosts_resume : goal.returns-in-Some-Resume-clause-hosts_resume
returns-in-Some-Resume-clause-hosts_resume g c = λ file asks order.
    c.resume_host.ensures.completes (in_order_resuming 0 most_line_bytes alone_limit (g.S.Source.left c.args.input.now) (g.D.Disk.seen c.args.disk.now) order)

pub returns-in-None-clause-hosts_resume : goal.returns-in-None-clause-hosts_resume
returns-in-None-clause-hosts_resume g c = λ file asks order calm calm_sink calm_disk. absurd (no_command _ (c.in-None.ensures.only (Resume file) asks))

pub returns-in-Some-Node-clause-hosts : goal.returns-in-Some-Node-clause-hosts
returns-in-Some-Node-clause-hosts g c = λ file asks order.
    c.host.ensures.completes (in_order 0 most_line_bytes alone_limit (g.S.Source.left c.args.input.now) (g.D.Disk.seen c.args.disk.now) order)

pub returns-in-Some-Audit-clause-of_journals : goal.returns-in-Some-Audit-clause-of_journals
returns-in-Some-Audit-clause-of_journals g c = λ _. inr (_, rw c.in-Some-Audit.field-0-is at c.in-Some-Audit.ensures.found)

pub returns-in-Some-Audit-clause-audited : goal.returns-in-Some-Audit-clause-audited
returns-in-Some-Audit-clause-audited g c = λ listed asks zero.
    subst (λ (l : List ℕ). Found l (g.S.Source.left c.args.input.now) (g.S.Source.left c.run_audit.new.input)
    (g.K.Sink.written c.args.output.now) (g.K.Sink.written c.run_audit.new.output))
    (c.listed_in.ensures.audit listed asks)
    (c.run_audit.ensures.audited zero)

pub returns-in-Some-Audit-clause-part_of_findings : goal.returns-in-Some-Audit-clause-part_of_findings
returns-in-Some-Audit-clause-part_of_findings g c = λ listed asks four.
    subst (λ (l : List ℕ). FoundInPart l (g.S.Source.left c.args.input.now) (g.S.Source.left c.run_audit.new.input)
    (g.K.Sink.written c.args.output.now) (g.K.Sink.written c.run_audit.new.output))
    (c.listed_in.ensures.audit listed asks)
    (c.run_audit.ensures.part four)

pub returns-in-Some-Audit-clause-audit_stops : goal.returns-in-Some-Audit-clause-audit_stops
returns-in-Some-Audit-clause-audit_stops g c = λ listed asks which.
    subst (λ (l : List ℕ). Unfound l c.run_audit.result (g.S.Source.left c.args.input.now) (g.S.Source.left c.run_audit.new.input)
    (g.K.Sink.written c.args.output.now) (g.K.Sink.written c.run_audit.new.output)
    (g.K.Sink.faults c.args.output.now) (g.K.Sink.faults c.run_audit.new.output))
    (c.listed_in.ensures.audit listed asks)
    (c.run_audit.ensures.audit_stops which)

pub returns-in-Some-Audit-clause-audit_completes : goal.returns-in-Some-Audit-clause-audit_completes
returns-in-Some-Audit-clause-audit_completes g c = λ listed asks has calm calm_sink.
    c.run_audit.ensures.completes
    (subst (λ (l : List ℕ). HasFindings l (g.S.Source.left c.args.input.now))
    (sym (c.listed_in.ensures.audit listed asks)) has)
    calm calm_sink

pub returns-in-Some-Audit-clause-audit_refuses : goal.returns-in-Some-Audit-clause-audit_refuses
returns-in-Some-Audit-clause-audit_refuses g c = λ listed status asks none calm.
    c.run_audit.ensures.refuses status
    (subst (λ (l : List ℕ). HasNoFindings l status (g.S.Source.left c.args.input.now))
    (sym (c.listed_in.ensures.audit listed asks)) none)
    calm

pub returns-in-Some-Ask-clause-accepted : goal.returns-in-Some-Ask-clause-accepted
returns-in-Some-Ask-clause-accepted g c = λ payload asks read taken. ask_reports payload read

pub returns-in-None-clause-accepted : goal.returns-in-None-clause-accepted
returns-in-None-clause-accepted g c = λ payload asks read taken. absurd (no_command _ (c.in-None.ensures.only (Ask payload) asks))

pub returns-in-None-clause-ask_completes : goal.returns-in-None-clause-ask_completes
returns-in-None-clause-ask_completes g c = λ payload asks stands calm calm_sink. absurd (no_command _ (c.in-None.ensures.only (Ask payload) asks))

pub returns-in-None-clause-ask_refuses : goal.returns-in-None-clause-ask_refuses
returns-in-None-clause-ask_refuses g c = λ payload asks none calm. absurd (no_command _ (c.in-None.ensures.only (Ask payload) asks))

pub returns-in-None-clause-only_answered : goal.returns-in-None-clause-only_answered
returns-in-None-clause-only_answered g c = λ payload asks. absurd (no_command _ (c.in-None.ensures.only (Ask payload) asks))

pub returns-in-None-clause-audit_completes : goal.returns-in-None-clause-audit_completes
returns-in-None-clause-audit_completes g c = λ listed asks has calm calm_sink. absurd (no_command _ (c.in-None.ensures.only (Audit listed) asks))

pub returns-in-None-clause-audit_refuses : goal.returns-in-None-clause-audit_refuses
returns-in-None-clause-audit_refuses g c = λ listed status asks none calm. absurd (no_command _ (c.in-None.ensures.only (Audit listed) asks))

pub returns-in-None-clause-only_audited : goal.returns-in-None-clause-only_audited
returns-in-None-clause-only_audited g c = λ listed asks. absurd (no_command _ (c.in-None.ensures.only (Audit listed) asks))
