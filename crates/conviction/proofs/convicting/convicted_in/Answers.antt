use Rattle.std.proofs.Common.{◌≡◌, [], ◌∙◌, ap, map, ℕ, List, refl, subst, sym}
use Rattle.rp_base.specs.PidsLeft.{pids_left}
use Rattle.stmt_codec.specs.Cursor.{given}
use Rattle.stmt_codec.specs.Left.{claims_left}
use Rattle.group_defs.specs.Process.{keyed}
use Rattle.claim_pool.specs.Settings.{as_setting}
use Rattle.conviction_defs.specs.Convictions.{convicted, is_convicted}
use Rattle.conviction.proofs.Sought.{Sought, none-pass, sought-all, sought-in, sought-none, sought-not}
use Rattle.conviction.proofs.convicting.convicted_in.Goals as goal

pub returns-in_default : goal.returns-in_default
returns-in_default g c =
    let s = as_setting (g.V.Scheme.valid c.args.scheme.now) c.args.group.now c.args.roster.now in
    c.new-found.ensures ∙ sym (none-pass (is_convicted s []) (keyed s) (λ q. refl))
    ∙ ap (λ read. convicted s (given read)) (sym c.in_default.ensures.exact)

pub loop-q-init : goal.loop-q-init
loop-q-init g c =
    let left : pids_left c.into_iter-q-iterator.result ≡ map (λ (k : ℕ × List ℕ). k.0) c.args.roster.now = cc
    (c.into_iter-q-iterator.ensures.into_iter_gives, c.iter-q-items.ensures, c.processes.ensures.value) in
    sought-none
    (is_convicted (as_setting (g.V.Scheme.valid c.args.scheme.now) c.args.group.now c.args.roster.now) (claims_left c.in-Ok.claims))
    c.args.roster.now c.new-found.result (pids_left c.into_iter-q-iterator.result) c.new-found.ensures left

pub is_convicted_by-requires-clause-few : goal.is_convicted_by-requires-clause-few
is_convicted_by-requires-clause-few g c = c.in-Ok.ensures.few c.in-Some.q

pub is_convicted_by-requires-clause-range : goal.is_convicted_by-requires-clause-range
is_convicted_by-requires-clause-range g c = c.in-Ok.ensures.range

pub loop-q-preserved-then-is_convicted_by : goal.loop-q-preserved-then-is_convicted_by
loop-q-preserved-then-is_convicted_by g c =
    let p = is_convicted (as_setting (g.V.Scheme.valid c.args.scheme.now) c.args.group.now c.args.roster.now) (claims_left c.in-Ok.claims) in
    subst (λ found. Sought p c.args.roster.now found (pids_left c.next.new.self)) (sym c.insert.ensures)
    (sought-in p c.args.roster.now c.loop-q.found (pids_left c.loop-q.q-iterator) (pids_left c.next.new.self) c.in-Some.q
    c.loop-q.invariant c.in-Some.ensures.steps c.processes.ensures.rising (sym c.is_convicted_by.ensures ∙ c.if-is_convicted_by.true))

pub loop-q-preserved : goal.loop-q-preserved
loop-q-preserved g c =
    let p = is_convicted (as_setting (g.V.Scheme.valid c.args.scheme.now) c.args.group.now c.args.roster.now) (claims_left c.in-Ok.claims) in
    sought-not p c.args.roster.now c.loop-q.found (pids_left c.loop-q.q-iterator) (pids_left c.next.new.self) c.in-Some.q
    c.loop-q.invariant c.in-Some.ensures.steps (sym c.is_convicted_by.ensures ∙ c.if-is_convicted_by.false)

pub returns : goal.returns
returns g c =
    let s = as_setting (g.V.Scheme.valid c.args.scheme.now) c.args.group.now c.args.roster.now in
    sought-all (is_convicted s (claims_left c.in-Ok.claims)) c.args.roster.now c.loop-q.found (pids_left c.loop-q.q-iterator)
    c.loop-q.invariant c.in-None.ensures.steps.0
    ∙ ap (λ read. convicted s (given read)) (sym c.in-Ok.ensures.exact)
