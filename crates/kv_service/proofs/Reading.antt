-- A store that is read pair by pair grows at its end, as each key is above the one before it.
use Rattle.std.proofs.Common.{◌≡◌, ℕ, List, [], ◌∷◌, ◌++◌, true, false, refl, sym, ap, ◌∙◌, subst, append_assoc, Ok, Err}
use Rattle.std.proofs.lemmas.List.{append-nil}
use Rattle.byte_defs.specs.Fields.{◌>>=◌}
use Rattle.byte_defs.specs.Orders.{numbers_below}
use Rattle.store_defs.specs.Stores.{Pair, Store, Reading, store_of, with_pair, AreRising, IsStore}
use Rattle.store_defs.specs.Laws.{AreBytes}
use Rattle.store_laws.proofs.Grammar.{store_is_spelled}
use Rattle.store_laws.proofs.Maps.{other-than}
use Rattle.store_laws.proofs.Orders.{below-below, not-below-itself}
use Rattle.store_laws.proofs.Staying.{done}
use Rattle.store_laws.proofs.Tests.{unless}
use Rattle.kv_service.proofs.Entries.{alone, step}

below-later : (before : List ℕ) (s : Store) (e : Pair) (t : Store) → AreRising before (s ++ e ∷ t) → numbers_below before e.0 ≡ true
below-later before [] e t rising = rising.0
below-later before (d ∷ s) e t rising = below-below before d.0 e.0 rising.0 (below-later d.0 s e t rising.1)

at-end : (before : List ℕ) (s : Store) (e : Pair) (t : Store) → AreRising before (s ++ e ∷ t) → with_pair e.0 e.1 s ≡ s ++ e ∷ []
at-end before [] e t rising = alone e.0 e.1
at-end before (d ∷ s) e t rising =
    step e.0 e.1 d s false false (unless (numbers_below e.0 d.0) (λ b. not-below-itself d.0 (below-below d.0 e.0 d.0 lower b)))
    (other-than d.0 e.0 (λ is. not-below-itself d.0 (subst (λ (k : List ℕ). numbers_below d.0 k ≡ true) (sym is) lower)))
    ∙ ap (λ (u : Store). d ∷ u) (at-end d.0 s e t rising.1)
  where
    lower : numbers_below d.0 e.0 ≡ true
    lower = below-later d.0 s e t rising.1

-- the pairs that were read are the first ones of the whole
abbrev pub HasRead : Reading Store → Reading Store → Store → Type 0
HasRead whole left read = whole ≡ (left >>= λ s. done (read ++ s))

pub begins : (r : Reading Store) → r ≡ (r >>= λ (s : Store). done s)
begins (Ok s) = refl
begins (Err f) = refl

pub is-store : (bytes : List ℕ) (s : Store) → AreBytes bytes → store_of bytes ≡ done s → IsStore s
is-store bytes s fits is = (store_is_spelled bytes s fits is).1

pub goes-on : (bytes : List ℕ) (left rest : Reading Store) (e : Pair) (read more : Store) → AreBytes bytes
    → HasRead (store_of bytes) left read → left ≡ (rest >>= λ s. done (e ∷ s)) → more ≡ with_pair e.0 e.1 read
    → HasRead (store_of bytes) rest more
goes-on bytes left rest e read more fits so is grown = go rest refl
  where
    behind : Reading Store → Reading Store
    behind r = (r >>= λ s. done (e ∷ s)) >>= λ s. done (read ++ s)

    whole : (r : Reading Store) → rest ≡ r → store_of bytes ≡ behind r
    whole r at = so ∙ ap (λ (l : Reading Store). l >>= λ s. done (read ++ s)) is ∙ ap behind at

    go : (r : Reading Store) → rest ≡ r → store_of bytes ≡ (rest >>= λ s. done (more ++ s))
    go (Err f) at = whole (Err f) at ∙ sym (ap (λ (r : Reading Store). r >>= λ s. done (more ++ s)) at)
    go (Ok s) at =
        let rising : AreRising [] (read ++ e ∷ s) = (is-store bytes (read ++ e ∷ s) fits (whole (Ok s) at)).rising in
        let last : more ≡ read ++ e ∷ [] = grown ∙ at-end [] read e s rising in
        whole (Ok s) at
        ∙ ap (λ (t : Store). done t) (sym (append_assoc read (e ∷ []) s) ∙ ap (λ (t : Store). t ++ s) (sym last))
        ∙ sym (ap (λ (r : Reading Store). r >>= λ s. done (more ++ s)) at)

pub ends : (bytes : List ℕ) (left : Reading Store) (read : Store) → HasRead (store_of bytes) left read → left ≡ done [] → store_of bytes ≡ done read
ends bytes left read so is = so ∙ ap (λ (l : Reading Store). l >>= λ s. done (read ++ s)) is ∙ ap (λ (t : Store). done t) (append-nil read)

pub fails : (bytes : List ℕ) (left : Reading Store) (read : Store) → HasRead (store_of bytes) left read → left ≡ Err tt → store_of bytes ≡ Err tt
fails bytes left read so is = so ∙ ap (λ (l : Reading Store). l >>= λ s. done (read ++ s)) is
