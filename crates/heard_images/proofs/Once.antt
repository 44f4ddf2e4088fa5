-- No two claims are of one slot.
use Rattle.std.proofs.Common.{◌≡◌, ◌≢◌, ℕ, suc, List, [], ◌∷◌, ◌++◌, Bool, true, false, refl, sym, ap, ◌∙◌, inl, inr, arith}
use Rattle.std.specs.Prelude.{◌↔◌, not, AllPairs, IsTrue}
use Rattle.std.specs.List.{list_any}
use Rattle.std.proofs.lemmas.List.Kept.{AllPairs-cons}
use Rattle.message_defs.specs.Statements.{Claim, slot_of}
use Rattle.claim_index.specs.declared.key.SlotKey.{SlotKey}
use Rattle.own_place.specs.Words.{slot_key, same_slot_key}
use Rattle.claim_index.proofs.Keyed.{same_slot_key-is, is-same_slot_key, one_slot}
use Rattle.pool_laws.proofs.Members.{Mem, mem-All, mem-snoc, snoc-mem, mem-behind, mem-list_any, list_any-mem}
use Rattle.pool_laws.proofs.Places.{Pairs, all-pairs, pairs-all, mem-slice_get}
use Rattle.pool_laws.proofs.Tests.{and-first, and-second, both-true, not-both}
use Rattle.heard_images.specs.Signed.{are_others}

abbrev pub Differ : Claim → Claim → Type 0
Differ c d = slot_of c.statement ≢ slot_of d.statement

abbrev key : Claim → SlotKey
key c = slot_key (slot_of c.statement)

-- none has one of these keys, nor the slot of another
record Facts (seen : List SlotKey) (cs : List Claim) : Type 0 where
  new : (k : SlotKey) (c : Claim) → Mem k seen → Mem c cs → k ≢ key c
  once : AllPairs Differ cs

there : (seen : List SlotKey) (cs : List Claim) → are_others seen cs ≡ true → Facts seen cs
there seen [] ok = record { new = λ k c m t. absurd t; once = λ i j d lt far. absurd (omega (arith, far)) }
there seen (c ∷ cs) ok =
    let any : Bool = list_any (same_slot_key (key c)) seen in
    let none = and-first (not any) (are_others (seen ++ key c ∷ []) cs) ok in
    let rest = there (seen ++ key c ∷ []) cs (and-second (not any) (are_others (seen ++ key c ∷ []) cs) ok) in
    record {
      new = λ k x m t same. elim t [
        | inl is ↦ not-both any (mem-list_any (same_slot_key (key c)) seen k m (is-same_slot_key (key c) k (ap key is ∙ sym same))) none
        | inr later ↦ rest.new k x (mem-snoc seen (key c) k m) later same
      ];
      once = AllPairs-cons Differ c cs (mem-All (Differ c) cs
          (λ x t same. rest.new (key c) x (mem-behind seen (key c ∷ []) (key c) (inl refl)) t (ap slot_key same))) rest.once;
    }

back : (seen : List SlotKey) (cs : List Claim) → Facts seen cs → are_others seen cs ≡ true
back seen [] facts = refl
back seen (c ∷ cs) facts =
    both-true (not (list_any (same_slot_key (key c)) seen)) (are_others (seen ++ key c ∷ []) cs) (none (list_any (same_slot_key (key c)) seen) refl)
    (back (seen ++ key c ∷ []) cs (record {
      new = λ k x m t same. elim (snoc-mem seen (key c) k m) [
        | inl before ↦ facts.new k x before (inr t) same
        | inr is ↦ first x t (one_slot (slot_of c.statement) (slot_of x.statement) (is ∙ same))
      ];
      once = pairs-all Differ cs (λ i j a b lt at_i at_j. pairs (suc i) (suc j) a b (omega (arith, lt)) at_i at_j);
    }))
  where
    pairs : Pairs Differ (c ∷ cs)
    pairs = all-pairs Differ (c ∷ cs) facts.once

    first : (x : Claim) → Mem x cs → Differ c x
    first x m = let at = mem-slice_get cs x m in pairs 0 (suc at.0) c x (omega arith) refl at.1

    none : (b : Bool) → list_any (same_slot_key (key c)) seen ≡ b → not b ≡ true
    none true e =
        let found = list_any-mem (same_slot_key (key c)) seen e in
        absurd (facts.new found.0 c found.1 (inl refl) (sym (same_slot_key-is (key c) found.0 found.2)))
    none false e = refl

pub once-is : (cs : List Claim) (b : Bool) → b ≡ are_others [] cs → IsTrue b ↔ AllPairs Differ cs
once-is cs b is = (λ ok. (there [] cs (sym is ∙ ok)).once, λ all. is ∙ back [] cs (record { new = λ k c m t. absurd m; once = all }))
