use Rattle.std.proofs.Common.{◌∙◌, sym, ap, ℕ, List, [], ◌∷◌, ◌++◌}
use Rattle.store_defs.specs.Stores.{Answer, Store, answer_bytes, carried_out}
use Rattle.store_records.specs.Views.{command}
use Rattle.kv_service.specs.Pairs.{pairs_of}
use Rattle.kv_service.proofs.Carrying.{answered-after, answered-none, applied-after, applied-none, kept}
use Rattle.kv_service.proofs.store.Store.apply.Goals as goal

pub returns-in_default-clause-applied : goal.returns-in_default-clause-applied
returns-in_default-clause-applied c =
    sym (ap (λ (x : Answer × Store). x.1) (applied-none c.args.self.now c.args.payload.now c.in_default.ensures))

pub returns-in_default-clause-answered : goal.returns-in_default-clause-answered
returns-in_default-clause-answered c =
    answered-none c.args.self.now c.args.payload.now c.args.answer.now.items c.say.new.answer.items c.in_default.ensures
    (c.say.ensures ∙ ap (λ (b : List ℕ). b ++ 3 ∷ []) c.in_ok-reserve.ensures.items)

pub invariant_of-self-2 : goal.invariant_of-self-2
invariant_of-self-2 c = kept (pairs_of c.self.inside.pairs) (pairs_of c.carry_out.new.pairs) c.args.payload.now (command c.in-Some.command)
    c.self.invariant c.in-Some.ensures c.in_ok-carry_out.ensures.store

pub returns-clause-applied : goal.returns-clause-applied
returns-clause-applied c =
    applied-after c.args.self.now (pairs_of c.self.inside.pairs) (pairs_of c.carry_out.new.pairs) c.args.payload.now (command c.in-Some.command)
    c.in-Some.ensures c.self.view_is c.in_ok-carry_out.ensures.store

pub returns-clause-answered : goal.returns-clause-answered
returns-clause-answered c =
    answered-after c.args.self.now (pairs_of c.self.inside.pairs) c.args.payload.now (command c.in-Some.command) c.args.answer.now.items
    c.carry_out.new.answer.items c.in-Some.ensures c.self.view_is
    (c.in_ok-carry_out.ensures.answer
    ∙ ap (λ (b : List ℕ). b ++ answer_bytes (carried_out (command c.in-Some.command) (pairs_of c.self.inside.pairs)).0)
    c.in_ok-reserve.ensures.items)
