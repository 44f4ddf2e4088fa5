-- Keys of slots are told apart as values are.
use Rattle.std.proofs.Common.{◌≡◌, refl, sym, ap}
use Rattle.std.specs.Cmp.{IsEquivalence}
use Rattle.std.proofs.lemmas.Bool.Decides.{same_from_decides}
use Rattle.claim_index.specs.declared.key.SlotKey.{SlotKey}
use Rattle.claim_index.specs.Keys.{same_slot_key}
use Rattle.claim_index.proofs.Keyed.{same_slot_key-is, is-same_slot_key}

either_way : (a b : SlotKey) → same_slot_key a b ≡ same_slot_key b a
either_way a b = same_from_decides {P = a ≡ b} (same_slot_key a b) (same_slot_key b a)
    (same_slot_key-is a b, is-same_slot_key a b) (λ e. sym (same_slot_key-is b a e), λ e. is-same_slot_key b a (sym e))

pub key_laws : IsEquivalence same_slot_key
key_laws = record {
  refl = λ a. is-same_slot_key a a refl;
  symm = either_way;
  congr = λ a b k e. ap (λ (other : SlotKey). same_slot_key other k) (same_slot_key-is a b e);
}
