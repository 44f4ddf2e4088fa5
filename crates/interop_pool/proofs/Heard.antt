-- Claims that are heard one after the other.
use Rattle.std.proofs.Common.{◌≡◌, ℕ, Bool, true, false, List, [], ◌∷◌, ◌++◌, Option, Some, refl, sym, ap, ◌∙◌, append_assoc}
use Rattle.std.specs.Prelude.{codes, IsTrue, ◌↔◌, ◌≢◌, not, option_and_then}
use Rattle.std.specs.List.{flat_map}
use Rattle.std.proofs.lemmas.List.{append-nil}
use Rattle.message_defs.specs.Statements.{Claim}
use Rattle.group_defs.specs.Process.{Setting, Pool, Process}
use Rattle.group_defs.specs.Hearing.{Verdict, Old, Early, Stranger, OutOfWindow, Known, Unsigned, Conflict, Heard, verdict, with_verdict, hear}
use Rattle.claim_pool.specs.Verdicts.{after}
use Rattle.byte_defs.specs.Orders.{sorted}
use Rattle.message_defs.specs.Statements.{Statement, kind_number, same_statement, slot_of}
use Rattle.group_defs.specs.Certified.{backers, certified_on}
use Rattle.group_defs.specs.Hearing.{hear_all}
use Rattle.pool_laws.proofs.Slots.{is-same_statement, same_statement-is}
use Rattle.statements.specs.declared.statement.Slot.{Slot}
use Rattle.stmt_codec.specs.Views.{slot as slot_at}
use Rattle.bench_parts.specs.Keys.{plain_keys}
use Rattle.claim_index.specs.Kept.{by_number}
use Rattle.interop_pool.specs.Hearers.{setting, setting_with, verdicts}
use Rattle.interop_pool.specs.Telling.{certificate_words, claim_words, heard_words, same_word, signer_word, total_words, verdict_word}

-- the pool after a verdict
pool-after : (v : Verdict) (p : Process) (c : Claim) → (with_verdict v p c).pool ≡ after v p.pool c
pool-after Heard p c = refl
pool-after Conflict p c = refl
pool-after Old p c = refl
pool-after Early p c = refl
pool-after Stranger p c = refl
pool-after OutOfWindow p c = refl
pool-after Known p c = refl
pool-after Unsigned p c = refl

-- a pool that is changed by the verdict is that of the process
pub heard-is : (s : Setting) (p : Process) (c : Claim) (v : Verdict) (before now : Pool) → v ≡ verdict s p c → p.pool ≡ before
    → now ≡ after v before c → (hear s p c).pool ≡ now
heard-is s p c v before now is same changed =
    pool-after (verdict s p c) p c ∙ (λ i. after (sym is i) (same i) c) ∙ sym changed

-- ---- what is told

abbrev pub reported : Setting → Process → List Claim → List ℕ
reported s p cs = flat_map verdict_word (verdicts s p cs)

-- one verdict more is told
pub one-reported : (s : Setting) (p : Process) (c : Claim) (old left : List Claim) (before now first : List ℕ) (v : Verdict) → old ≡ c ∷ left
    → v ≡ verdict s p c → now ≡ before ++ verdict_word v → before ++ reported s p old ≡ first → now ++ reported s (hear s p c) left ≡ first
unfolding verdicts
one-reported s p c old left before now first v steps is more so =
    ap (λ (t : List ℕ). t ++ reported s (hear s p c) left) (more ∙ ap (λ v. before ++ verdict_word v) is)
    ∙ append_assoc before (verdict_word (verdict s p c)) (reported s (hear s p c) left)
    ∙ ap (λ cs. before ++ reported s p cs) (sym steps) ∙ so

pub all-reported : (s : Setting) (p : Process) (left : List Claim) (now : List ℕ) → left ≡ [] → now ++ reported s p left ≡ now
unfolding verdicts
all-reported s p left now none = ap (λ cs. now ++ reported s p cs) none ∙ append-nil now

-- all verdicts are told, and then what is heard
pub heard-reported : (roster : List (ℕ × List ℕ)) (p : Process) (cs : List Claim) (h : Pool) (first some all : List ℕ) → roster ≡ plain_keys 48
    → first ≡ codes "pool" ++ reported (setting_with roster) p cs → (hear_all (setting_with roster) p cs).pool ≡ h
    → some ≡ first ++ total_words h → all ≡ some ++ flat_map (claim_words h) cs → all ≡ heard_words p cs
heard-reported roster p cs h first some all keys verdicts' heard totals claims =
    let same : h ≡ (hear_all setting p cs).pool = sym heard ∙ ap (λ r. (hear_all (setting_with r) p cs).pool) keys in
    claims ∙ ap (λ (t : List ℕ). t ++ flat_map (claim_words h) cs) (totals ∙ ap (λ (t : List ℕ). t ++ total_words h) verdicts')
    ∙ (λ i. ((codes "pool" ++ reported (setting_with (keys i)) p cs) ++ total_words (same i)) ++ flat_map (claim_words (same i)) cs)
    ∙ append_assoc (codes "pool" ++ reported setting p cs)
    (total_words (hear_all setting p cs).pool) (flat_map (claim_words (hear_all setting p cs).pool) cs)
    ∙ append_assoc (codes "pool") (reported setting p cs)
    (total_words (hear_all setting p cs).pool ++ flat_map (claim_words (hear_all setting p cs).pool) cs)

-- two statements on one slot are equal where they do not conflict
pub same-test : (b : Bool) (x y : Statement) → slot_of x ≡ slot_of y → IsTrue b ↔ (slot_of x ≡ slot_of y) × (x ≢ y)
    → not b ≡ same_statement x y
same-test b x y slots is = go b is (same_statement x y) refl
  where
    go : (b : Bool) → IsTrue b ↔ (slot_of x ≡ slot_of y) × (x ≢ y) → (t : Bool) → same_statement x y ≡ t → not b ≡ same_statement x y
    go true is false e = sym e
    go false is true e = sym e
    go true is true e = absurd ((is.0 refl).1 (same_statement-is x y e))
    go false is false e =
        let both : false ≡ true = is.1 (slots, λ same. let both : true ≡ false = sym (is-same_statement x y same) ∙ e in cc) in
        absurd cc

-- what is certified on the statement's slot
pub certified-there : (h : Pool) (st : Statement) (kind : ℕ) (about : Slot) (o : Option Statement) → kind ≡ kind_number st
    → slot_at (kind_number st) about ≡ Some (slot_of st) → o ≡ option_and_then (certified_on h) (slot_at kind about)
    → certified_on h (slot_of st) ≡ o
certified-there h st kind about o is at so =
    sym (so ∙ ap (λ k. option_and_then (certified_on h) (slot_at k about)) is ∙ ap (option_and_then (certified_on h)) at)

-- a certificate is told
pub certificate-reported : (h : Pool) (st found : Statement) (there : Option Statement) (signers before mid now : List ℕ) → there ≡ Some found
    → mid ≡ before ++ same_word (same_statement found st) → signers ≡ sorted by_number (backers h found)
    → now ≡ mid ++ flat_map signer_word signers → now ≡ before ++ certificate_words h st there
certificate-reported h st found there signers before mid now is same who more =
    more ∙ (λ i. same i ++ flat_map signer_word (who i))
    ∙ append_assoc before (same_word (same_statement found st)) (flat_map signer_word (sorted by_number (backers h found)))
    ∙ ap (λ o. before ++ certificate_words h st o) (sym is)
