-- Where the server of one process changes.
use Rattle.std.proofs.Common.{◌≡◌, ℕ, List, [], ◌∷◌, Bool, true, false, cond, Option, Some, None, true≢false, refl, sym, ap, subst, ◌∙◌, arith}
use Rattle.std.specs.Prelude.{◌≢◌, ◌==◌, if◌then◌else◌, option_and_then}
use Rattle.std.specs.Option.{option_map_or}
use Rattle.std.proofs.lemmas.Bool.{eq-eqb, eqb-true}
use Rattle.node_defs.specs.Nodes.{Appends, Binds, Finishes, Marks, ReadsLine, ReceivesOn, Rests, SendsTo, Steps, Writes}
use Rattle.node_service.specs.Histories.{Asks, Call, Cast, Note, Process, Serves, NotesOf, Words}
use Rattle.store_server.specs.Places.{Server, after_note}
use Rattle.store_service.specs.Service.{Serving, after_call, after_noted, after_own, after_worded, here_of, serving, with_new, with_server, worded, worded_of}
use Rattle.store_service.specs.Laws.{OthersStay, OwnCallsTell, OwnChanges}

pub differs : (m n : ℕ) → m ≢ n → (m == n) ≡ false
differs m n other = grind arith

-- one of them, which is process q or not
changed-so : (q : ℕ) (s : Server) (x : Serving) (xs : List Serving) (b : Bool) → (x.place.me == q) ≡ b
    → with_server q s (x ∷ xs) ≡ (if b then with_new s x ∷ xs else x ∷ with_server q s xs)
changed-so q s x xs b t = ap (λ (b : Bool). if b then with_new s x ∷ xs else x ∷ with_server q s xs) t

-- which is found or not
found-so : (p : ℕ) (x : Serving) (xs : List Serving) (b : Bool) → (x.place.me == p) ≡ b → serving p (x ∷ xs) ≡ cond b (Some x) (serving p xs)
found-so p x xs b t = ap (λ (b : Bool). cond b (Some x) (serving p xs)) t

pub others_stay : OthersStay
others_stay p q s [] other = refl
others_stay p q s (x ∷ xs) other = go (x.place.me == q) refl (others_stay p q s xs other)
  where
    go : (b : Bool) → (x.place.me == q) ≡ b → serving p (with_server q s xs) ≡ serving p xs
        → serving p (with_server q s (x ∷ xs)) ≡ serving p (x ∷ xs)
    go true t rest =
        let not-p : (x.place.me == p) ≡ false = differs x.place.me p (λ e. other (sym e ∙ eqb-true x.place.me q t)) in
        ap (serving p) (changed-so q s x xs true t) ∙ found-so p (with_new s x) xs false not-p ∙ sym (found-so p x xs false not-p)
    go false t rest =
        ap (serving p) (changed-so q s x xs false t) ∙ ap (λ (o : Option Serving). cond (x.place.me == p) (Some x) o) rest

pub own_changes : OwnChanges
own_changes p s [] x found = absurd cc
own_changes p s (y ∷ xs) x found = go (y.place.me == p) refl (own_changes p s xs x)
  where
    go : (b : Bool) → (y.place.me == p) ≡ b → (serving p xs ≡ Some x → serving p (with_server p s xs) ≡ Some (with_new s x))
        → serving p (with_server p s (y ∷ xs)) ≡ Some (with_new s x)
    go true t rest =
        let first : (let o : Option Serving = Some y in o) ≡ Some x = sym (found-so p y xs true t) ∙ found in
        let is : y ≡ x = cc in
        ap (serving p) (changed-so p s y xs true t) ∙ found-so p (with_new s y) xs true t ∙ ap (λ (z : Serving). Some (with_new s z)) is
    go false t rest =
        ap (serving p) (changed-so p s y xs false t) ∙ found-so p y (with_server p s xs) false t
        ∙ rest (sym (found-so p y xs false t) ∙ found)

-- ---- calls

-- its own is changed so, and that of another process stays
changed : (p q : ℕ) (xs : List Serving) (x : Serving) → serving p xs ≡ Some x → (b : Bool) → (q == p) ≡ b → (s : Server)
    → serving p (with_server q s xs) ≡ Some (if b then with_new s x else x)
changed p q xs x found true t s =
    subst (λ (r : ℕ). serving p (with_server r s xs) ≡ Some (with_new s x)) (sym (eqb-true q p t)) (own_changes p s xs x found)
changed p q xs x found false t s = others_stay p q s xs (λ e. true≢false (sym (eq-eqb q p (sym e)) ∙ t)) ∙ found

-- what is found of q, where it is p
found-of : (p q : ℕ) (xs : List Serving) (x : Serving) → serving p xs ≡ Some x → (q == p) ≡ true → serving q xs ≡ Some x
found-of p q xs x found t = subst (λ (r : ℕ). serving r xs ≡ Some x) (sym (eqb-true q p t)) found

module _ (p : ℕ) (xs : List Serving) (x : Serving) (found : serving p xs ≡ Some x) where
  reported-so : (q : ℕ) (n : Note) (b : Bool) → (q == p) ≡ b
      → serving p (after_noted q n xs) ≡ Some (if b then with_new (after_note x.place x.server n) x else x)
  reported-so q n true t =
      ap (λ (o : Option Serving). serving p (option_map_or (λ y. with_server q (after_note y.place y.server n) xs) o xs))
      (found-of p q xs x found t)
      ∙ changed p q xs x found true t (after_note x.place x.server n)
  reported-so q n false t = go (serving q xs)
    where
      go : (o : Option Serving) → serving p (option_map_or (λ y. with_server q (after_note y.place y.server n) xs) o xs) ≡ Some x
      go None = found
      go (Some y) = changed p q xs x found false t (after_note y.place y.server n)

  heard-so : (c : Cast) (here : List (List ℕ)) (q : ℕ) (line : List ℕ) (b : Bool) → (q == p) ≡ b
      → serving p (after_worded c here q line xs)
      ≡ Some (if b then option_map_or (λ w. with_new w.1 x) (worded_of c here p line x) x else x)
  heard-so c here q line true t =
      ap (λ (o : Option Serving). serving p (option_map_or (λ w. with_server q w.1 xs) (option_and_then (worded_of c here q line) o) xs))
      (found-of p q xs x found t)
      ∙ go (worded_of c here q line x)
      ∙ ap (λ (r : ℕ). Some (option_map_or (λ w. with_new w.1 x) (worded_of c here r line x) x)) (eqb-true q p t)
    where
      go : (o : Option (List ℕ × Server)) → serving p (option_map_or (λ w. with_server q w.1 xs) o xs)
          ≡ Some (option_map_or (λ w. with_new w.1 x) o x)
      go None = found
      go (Some w) = changed p q xs x found true t w.1
  heard-so c here q line false t = go (worded c here q line xs)
    where
      go : (o : Option (List ℕ × Server)) → serving p (option_map_or (λ w. with_server q w.1 xs) o xs) ≡ Some x
      go None = found
      go (Some w) = changed p q xs x found false t w.1

  -- one call
  call-so : (c : Cast) (shown : List Process) (call : Call) → call ≢ Serves
      → serving p (after_call xs c shown call) ≡ Some (after_own p c shown call x)
  call-so c shown (NotesOf q n) other = reported-so q n (q == p) refl
  call-so c shown (Words q line) other = heard-so c (here_of shown) q line (q == p) refl
  call-so c shown Serves other = absurd (other refl)
  call-so c shown (Binds port) other = found
  call-so c shown (Writes text) other = found
  call-so c shown Finishes other = found
  call-so c shown (SendsTo port datagram) other = found
  call-so c shown (Steps q e) other = found
  call-so c shown (Appends e) other = found
  call-so c shown (Asks q e notes above) other = found
  call-so c shown (ReceivesOn port) other = found
  call-so c shown Marks other = found
  call-so c shown ReadsLine other = found
  call-so c shown Rests other = found

pub own_calls_tell : OwnCallsTell
own_calls_tell p xs x [] found others = found
own_calls_tell p xs x (i ∷ h) found others =
    own_calls_tell p (after_call xs i.cast i.shown i.call) (after_own p i.cast i.shown i.call x) h
    (call-so p xs x found i.cast i.shown i.call others.0) others.1
