use Rattle.std.proofs.Common.{◌≡◌, ◌∙◌, sym, ap, arith, length, false}
use Rattle.std.specs.Prelude.{is_some}
use Rattle.store_defs.specs.Stores.{Store, Set, Done, Full, value_of, with_pair}
use Rattle.kv_service.specs.Pairs.{pairs_of}
use Rattle.kv_service.proofs.Entries.{length-pairs}
use Rattle.kv_service.proofs.Carrying.{left, said, set_full, set_new, unreplaced}
use Rattle.kv_service.proofs.commands.set.Goals as goal

pub returns-then-len-eq-MOST_KEYS-clause-store : goal.returns-then-len-eq-MOST_KEYS-clause-store
returns-then-len-eq-MOST_KEYS-clause-store c =
    let s : Store = pairs_of c.args.pairs.now in
    let none : false ≡ is_some (value_of c.args.key.now s) = sym c.if-is_there.false ∙ c.in_ok-is_there.ensures.found in
    let same : pairs_of c.replace.new.pairs ≡ s =
    unreplaced c.in_ok-is_there.is_there _ (with_pair c.args.key.now c.args.value.now s) s c.if-is_there.false c.in_ok-is_there.ensures.replaced in
    let full : length s ≡ 4096 = ap length (sym same) ∙ length-pairs c.replace.new.pairs.entries
    ∙ sym c.len.ensures.len ∙ c.if-len-eq-MOST_KEYS.true in
    left (Set c.args.key.now c.args.value.now) s s _ Full (set_full c.args.key.now c.args.value.now s none full) same

pub returns-then-len-eq-MOST_KEYS-clause-answer : goal.returns-then-len-eq-MOST_KEYS-clause-answer
returns-then-len-eq-MOST_KEYS-clause-answer c =
    let s : Store = pairs_of c.args.pairs.now in
    let none : false ≡ is_some (value_of c.args.key.now s) = sym c.if-is_there.false ∙ c.in_ok-is_there.ensures.found in
    let same : pairs_of c.replace.new.pairs ≡ s =
    unreplaced c.in_ok-is_there.is_there _ (with_pair c.args.key.now c.args.value.now s) s c.if-is_there.false c.in_ok-is_there.ensures.replaced in
    let full : length s ≡ 4096 = ap length (sym same) ∙ length-pairs c.replace.new.pairs.entries
    ∙ sym c.len.ensures.len ∙ c.if-len-eq-MOST_KEYS.true in
    said (Set c.args.key.now c.args.value.now) s s Full _ _ (set_full c.args.key.now c.args.value.now s none full)
    c.say-then-len-eq-MOST_KEYS.ensures

pub returns-clause-store : goal.returns-clause-store
returns-clause-store c =
    let s : Store = pairs_of c.args.pairs.now in
    let none : false ≡ is_some (value_of c.args.key.now s) = sym c.if-is_there.false ∙ c.in_ok-is_there.ensures.found in
    let same : pairs_of c.replace.new.pairs ≡ s =
    unreplaced c.in_ok-is_there.is_there _ (with_pair c.args.key.now c.args.value.now s) s c.if-is_there.false c.in_ok-is_there.ensures.replaced in
    let long : c.len.result ≡ length s = c.len.ensures.len ∙ sym (length-pairs c.replace.new.pairs.entries) ∙ ap length same in
    left (Set c.args.key.now c.args.value.now) s (with_pair c.args.key.now c.args.value.now s) _ Done
    (set_new c.args.key.now c.args.value.now s none (λ full. omega (arith, long, full)))
    (c.in_ok-insert.ensures.inserted ∙ ap (λ (t : Store). with_pair c.args.key.now c.args.value.now t) same)

pub returns-clause-answer : goal.returns-clause-answer
returns-clause-answer c =
    let s : Store = pairs_of c.args.pairs.now in
    let none : false ≡ is_some (value_of c.args.key.now s) = sym c.if-is_there.false ∙ c.in_ok-is_there.ensures.found in
    let same : pairs_of c.replace.new.pairs ≡ s =
    unreplaced c.in_ok-is_there.is_there _ (with_pair c.args.key.now c.args.value.now s) s c.if-is_there.false c.in_ok-is_there.ensures.replaced in
    let long : c.len.result ≡ length s = c.len.ensures.len ∙ sym (length-pairs c.replace.new.pairs.entries) ∙ ap length same in
    said (Set c.args.key.now c.args.value.now) s (with_pair c.args.key.now c.args.value.now s) Done _ _
    (set_new c.args.key.now c.args.value.now s none (λ full. omega (arith, long, full))) c.say-2.ensures
