-- Payloads are carried out one after another.
use Rattle.std.proofs.Common.{◌≡◌, ℕ, suc, ◌+◌, ◌<◌, ◌≤◌, List, [], ◌∷◌, map, length, drop, get_or, refl, sym, ap, ◌∙◌, add-one, drop-cons}
use Rattle.std.proofs.lemmas.List.{drop_all}
use Rattle.accounts.specs.Views.{delivery}
use Rattle.member_events.specs.declared.events.Delivered.{Delivered}
use Rattle.store_defs.specs.Holding.{payloads_of}
use Rattle.store_defs.specs.Stores.{Store, applied, store_after}

-- the store after these messages
abbrev pub carried : Store → List Delivered → Store
carried s ds = store_after s (payloads_of (map delivery ds))

pub carry-one : (s : Store) (d : Delivered) (ds : List Delivered) → carried s (d ∷ ds) ≡ carried (applied s d.payload).1 ds
unfolding store_after
carry-one s d ds = refl

pub carry-none : (s : Store) → carried s [] ≡ s
unfolding store_after
carry-none s = refl

-- with the message at a place, what is left is what comes after it
pub carry-next : (s : Store) (ds : List Delivered) (i : ℕ) (d : Delivered) (t : Store) → i < length ds → d ≡ get_or ds i d
    → t ≡ (applied s d.payload).1 → carried t (drop (i + 1) ds) ≡ carried s (drop i ds)
carry-next s ds i d t lt is now =
    let one : get_or ds i d ∷ drop (suc i) ds ≡ d ∷ drop (i + 1) ds = λ j. sym is j ∷ drop (sym (add-one i) j) ds in
    ap (λ (u : Store). carried u (drop (i + 1) ds)) now
    ∙ sym (carry-one s d (drop (i + 1) ds))
    ∙ sym (ap (λ (es : List Delivered). carried s es) (drop-cons ds i d lt ∙ one))

pub carry-end : (s : Store) (ds : List Delivered) (i : ℕ) → length ds ≤ i → carried s (drop i ds) ≡ s
carry-end s ds i le = ap (λ (es : List Delivered). carried s es) (drop_all i ds le) ∙ carry-none s
