-- Keys are equal exactly where signer and slot are.
use Rattle.std.proofs.Common.{◌≡◌, ℕ, true, [], ◌∷◌, Option, Some, refl, sym, ap, ◌∙◌}
use Rattle.std.specs.Prelude.{◌&&◌, ◌==◌}
use Rattle.std.proofs.lemmas.Bool.{eqb-true, eq-eqb}
use Rattle.std.proofs.lemmas.Bool.Decides.{same_from_decides}
use Rattle.byte_defs.specs.Choices.{first_that_holds}
use Rattle.message_defs.specs.Updates.{Remove, Add, Renew}
use Rattle.message_defs.specs.Statements.{Slot, InitAt, EchoAt, OrderAt, PlaceAt, KeepAt, NotifyAt, EndAt, LastAt, SuggestAt, AckAt, ReadyAt, same_slot}
use Rattle.pool_laws.proofs.Tests.{and-first, and-second, both-true}
use Rattle.pool_laws.proofs.Slots.{same_slot-is, is-same_slot}
use Rattle.claim_index.specs.declared.key.SlotKey.{SlotKey}
use Rattle.claim_index.specs.declared.key.Key.{Key}
use Rattle.claim_index.specs.Keys.{slot_key, key_of, same_slot_key, same_key}

pub same_slot_key-is : (a b : SlotKey) → same_slot_key a b ≡ true → a ≡ b
same_slot_key-is a b e =
    let rest = and-second _ _ e in
    let rest2 = and-second _ _ rest in
    let view : a.view ≡ b.view = eqb-true _ _ (and-first _ _ e) in
    let first : a.first ≡ b.first = eqb-true _ _ (and-first _ _ rest) in
    let kind : a.kind ≡ b.kind = eqb-true _ _ (and-first _ _ rest2) in
    let second : a.second ≡ b.second = eqb-true _ _ (and-second _ _ rest2) in
    λ i. record { kind = kind i; first = first i; view = view i; second = second i }

pub is-same_slot_key : (a b : SlotKey) → a ≡ b → same_slot_key a b ≡ true
is-same_slot_key a b e =
    both-true _ _ (eq-eqb _ _ (ap (λ (k : SlotKey). k.view) e))
    (both-true _ _ (eq-eqb _ _ (ap (λ (k : SlotKey). k.first) e))
    (both-true _ _ (eq-eqb _ _ (ap (λ (k : SlotKey). k.kind) e)) (eq-eqb _ _ (ap (λ (k : SlotKey). k.second) e))))

pub same_key-is : (a b : Key) → same_key a b ≡ true → a ≡ b
same_key-is a b e =
    let slot : a.slot ≡ b.slot = same_slot_key-is a.slot b.slot (and-first _ _ e) in
    let signer : a.signer ≡ b.signer = eqb-true _ _ (and-second _ _ e) in
    λ i. record { signer = signer i; slot = slot i }

pub is-same_key : (a b : Key) → a ≡ b → same_key a b ≡ true
is-same_key a b e = both-true _ _ (is-same_slot_key a.slot b.slot (ap (λ (k : Key). k.slot) e)) (eq-eqb _ _ (ap (λ (k : Key). k.signer) e))

-- the slot again
slot_again : SlotKey → Option Slot
slot_again k = first_that_holds (
    (k.kind == 1, InitAt k.view k.second)
    ∷ (k.kind == 2, EchoAt k.view (record { sender = k.first; number = k.second }))
    ∷ (k.kind == 3, OrderAt k.view k.second)
    ∷ (k.kind == 4, PlaceAt k.view k.second)
    ∷ (k.kind == 5, KeepAt k.view k.second)
    ∷ (k.kind == 6 && k.first == 1, NotifyAt k.view (Remove k.second))
    ∷ (k.kind == 6 && k.first == 2, NotifyAt k.view (Add k.second))
    ∷ (k.kind == 6, NotifyAt k.view Renew)
    ∷ (k.kind == 7, EndAt k.view)
    ∷ (k.kind == 8, LastAt k.view k.second)
    ∷ (k.kind == 9, SuggestAt k.view k.second)
    ∷ (k.kind == 10, AckAt k.view k.second)
    ∷ (k.kind == 11, ReadyAt k.view k.second)
    ∷ [])

again : (s : Slot) → slot_again (slot_key s) ≡ Some s
unfolding slot_again
again (InitAt x l) = refl
again (EchoAt x m) = refl
again (OrderAt x k) = refl
again (PlaceAt x k) = refl
again (KeepAt x k) = refl
again (NotifyAt x (Remove q)) = refl
again (NotifyAt x (Add q)) = refl
again (NotifyAt x Renew) = refl
again (EndAt x) = refl
again (LastAt x r) = refl
again (SuggestAt x r) = refl
again (AckAt x r) = refl
again (ReadyAt x r) = refl

pub one_slot : (s t : Slot) → slot_key s ≡ slot_key t → s ≡ t
one_slot s t e = let both : Some s ≡ Some t = sym (again s) ∙ ap slot_again e ∙ again t in cc

keys-agree : (p q : ℕ) (s t : Slot) → ((q == p) && same_slot t s) ≡ true → key_of p s ≡ key_of q t
keys-agree p q s t e =
    let signer : p ≡ q = sym (eqb-true q p (and-first (q == p) (same_slot t s) e)) in
    let slot : s ≡ t = sym (same_slot-is t s (and-second (q == p) (same_slot t s) e)) in
    λ i. key_of (signer i) (slot i)

agreeing : (p q : ℕ) (s t : Slot) → key_of p s ≡ key_of q t → ((q == p) && same_slot t s) ≡ true
agreeing p q s t e =
    let signer : p ≡ q = ap (λ (k : Key). k.signer) e in
    both-true (q == p) (same_slot t s) (eq-eqb q p (sym signer)) (is-same_slot t s (sym (one_slot s t (ap (λ (k : Key). k.slot) e))))

-- the test of a claim is the test of its key
pub same_key-of : (p q : ℕ) (s t : Slot) → same_key (key_of p s) (key_of q t) ≡ ((q == p) && same_slot t s)
same_key-of p q s t = same_from_decides {P = key_of p s ≡ key_of q t} (same_key (key_of p s) (key_of q t)) ((q == p) && same_slot t s)
    (same_key-is (key_of p s) (key_of q t), is-same_key (key_of p s) (key_of q t)) (keys-agree p q s t, agreeing p q s t)
