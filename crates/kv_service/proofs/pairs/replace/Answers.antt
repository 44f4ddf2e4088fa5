use Rattle.std.proofs.Common.{◌∙◌, ap, sym, Some, None, [], List, ℕ, Ok, Err}
use Rattle.std.specs.Prelude.{Result, OnErr}
use Rattle.store_defs.specs.Stores.{with_pair}
use Rattle.kv_service.proofs.Entries.{found, is-found, rewritten, written, pairs}
use Rattle.kv_service.proofs.pairs.replace.Goals as goal

on-err : {A E P : Type 0} (r : Result A E) → P → OnErr r P
on-err (Ok x) p = tt
on-err (Err e) p = p

pub returns-in_err-overwrite-in-Some-clause-unchanged : goal.returns-in_err-overwrite-in-Some-clause-unchanged
returns-in_err-overwrite-in-Some-clause-unchanged c = on-err c.from_residual.result
    (ap pairs (c.get_mut.follows.holds c.overwrite.new.old).0
    ∙ rewritten c.args.key.now c.in-Some.old.now.items c.args.pairs.now.entries c.overwrite.new.old
    (sym (found c.args.key.now c.args.pairs.now.entries (Some c.in-Some.old.now) c.in-Some.ensures.value))
    c.in_err-overwrite-in-Some.ensures.unchanged)

pub returns-in-None-clause-found : goal.returns-in-None-clause-found
returns-in-None-clause-found c = is-found c.args.key.now c.args.pairs.now.entries None c.in-None.ensures.value

pub returns-in_ok-overwrite-in-Some-clause-found : goal.returns-in_ok-overwrite-in-Some-clause-found
returns-in_ok-overwrite-in-Some-clause-found c =
    is-found c.args.key.now c.args.pairs.now.entries (Some c.in-Some.old.now) c.in-Some.ensures.value

pub returns-in_ok-overwrite-in-Some-clause-replaced : goal.returns-in_ok-overwrite-in-Some-clause-replaced
returns-in_ok-overwrite-in-Some-clause-replaced c =
    ap pairs (c.get_mut.follows.holds c.overwrite.new.old).0
    ∙ written c.args.key.now [] c.args.pairs.now.entries c.overwrite.new.old c.requires
    (sym (is-found c.args.key.now c.args.pairs.now.entries (Some c.in-Some.old.now) c.in-Some.ensures.value))
    ∙ ap (λ (v : List ℕ). with_pair c.args.key.now v (pairs c.args.pairs.now.entries)) c.in_ok-overwrite-in-Some.ensures.written
