-- What a kit in its ranges has for its hosts.
use Rattle.std.proofs.Common.{◌≡◌, ℕ, ◌+◌, ◌==◌, Bool, true, false, true≢false, List, [], ◌∷◌, map, Option, None, Some, Result, Ok, Err, refl, sym, ap, ◌∙◌, subst, arith}
use Rattle.std.specs.Prelude.{◌≢◌, ◌↔◌, not, find, is_some, option_map, option_and_then, IfOk, IsSome, IsSomeAnd, IsTrue, MatchOption}
use Rattle.std.proofs.lemmas.Bool.{eqb-true}
use Rattle.byte_defs.specs.Members.{has}
use Rattle.signature_defs.specs.Schemes.{Scheme}
use Rattle.signature_defs.specs.Secrets.{Secret, Plain, Lms, Hss}
use Rattle.kit_defs.specs.Kits.{AreHosts, Host, IsHost, IsKit, IsSecret, Kit, others_than, roster_of}
use Rattle.sig_scheme.specs.declared.any_signer.AnySigner.{AnySigner}
use Rattle.sig_scheme.specs.Keys.{refusal_of}
use Rattle.sig_scheme.specs.Signers.{IsSignerOf}
use Rattle.sig_scheme.proofs.Refusals.{levels_not_refused, tree_not_refused}
use Rattle.node_defs.specs.Casts.{host_of, hosted_by, pair_of}

some_host : (g h : Host) → (let o : Option Host = Some g in o) ≡ Some h → g ≡ h
some_host g h e = cc

-- a host that is found has this number, and is in its ranges
found_in : (scheme : Scheme) (keys : List (ℕ × List ℕ)) (least : ℕ) (hosts : List Host) (p : ℕ) (h : Host)
    → AreHosts scheme keys least hosts → find (λ g. g.process == p) hosts ≡ Some h → IsHost scheme keys h × (h.process ≡ p)
found_in scheme keys least [] p h are e = absurd cc
found_in scheme keys least (g ∷ hosts) p h are e = go (found_in scheme keys (g.process + 1) hosts p h are.2) (g.process == p) refl e
  where
    go : (find (λ f. f.process == p) hosts ≡ Some h → IsHost scheme keys h × (h.process ≡ p)) → (b : Bool) → (g.process == p) ≡ b
        → find (λ f. f.process == p) (g ∷ hosts) ≡ Some h → IsHost scheme keys h × (h.process ≡ p)
    go rest true t found = subst (λ x. IsHost scheme keys x × (x.process ≡ p)) (some_host g h (rw t at found)) (are.1, eqb-true _ _ t)
    go rest false t found = rest (rw t at found)

pub host_is : (kit : Kit) (p : ℕ) (h : Host) → IsKit kit → host_of kit p ≡ Some h → IsHost kit.scheme kit.keys h × (h.process ≡ p)
host_is kit p h is e = found_in kit.scheme kit.keys 0 kit.hosts p h is.hosts e

-- ---- what is found by its number

-- something is found exactly where a number is this one
found_so : {A : Type 0} (number : A → ℕ) (p : ℕ) (xs : List A) → is_some (find (λ x. number x == p) xs) ≡ has (map number xs) p
found_so number p [] = refl
found_so number p (x ∷ xs) = go (found_so number p xs) (number x == p) refl
  where
    go : is_some (find (λ y. number y == p) xs) ≡ has (map number xs) p → (b : Bool) → (number x == p) ≡ b
        → is_some (find (λ y. number y == p) (x ∷ xs)) ≡ has (map number (x ∷ xs)) p
    go rest true e = rw e refl
    go rest false e = rw e rest

none_of : {A : Type 0} (o : Option A) → is_some o ≡ false → o ≡ None
none_of None e = refl
none_of (Some x) e = absurd (true≢false e)

mapped : {A B : Type 0} (f : A → B) (o : Option A) → is_some (option_map f o) ≡ is_some o
mapped f None = refl
mapped f (Some x) = refl

-- ---- whom a host shares a key with

-- nobody else is among the others
others_within : (p q : ℕ) (roster : List ℕ) → has roster q ≡ false → has (others_than p roster) q ≡ false
others_within p q [] e = refl
others_within p q (r ∷ roster) e = go (others_within p q roster) (r == q) refl (r == p) refl
  where
    go : (has roster q ≡ false → has (others_than p roster) q ≡ false) → (b : Bool) → (r == q) ≡ b → (c : Bool) → (r == p) ≡ c
        → has (others_than p (r ∷ roster)) q ≡ false
    go rest true same c there = absurd (true≢false (sym (rw same refl) ∙ e))
    go rest false other true there = rw there (rest (sym (rw other refl) ∙ e))
    go rest false other false there = rw (there, other) (rest (sym (rw other refl) ∙ e))

-- with nobody outside the roster
pub none_outside : (kit : Kit) (p q : ℕ) → IsKit kit → has (roster_of kit.keys) q ≡ false → pair_of kit p q ≡ None
none_outside kit p q is outside = go (host_of kit p) refl
  where
    go : (o : Option Host) → host_of kit p ≡ o → pair_of kit p q ≡ None
    go None e = ap (option_and_then (λ h. option_map (λ pair. pair.1) (find (λ pair. pair.0 == q) h.pairs))) e
    go (Some h) e =
        let are = (host_is kit p h is e).0.shared_with in
        let unfound : is_some (find (λ pair. pair.0 == q) h.pairs) ≡ false = found_so (λ pair. pair.0) q h.pairs
        ∙ ap (λ ps. has ps q) are ∙ others_within h.process q (roster_of kit.keys) outside in
        ap (option_and_then (λ h. option_map (λ pair. pair.1) (find (λ pair. pair.0 == q) h.pairs))) e
        ∙ ap (option_map (λ pair. pair.1)) (none_of (find (λ pair. pair.0 == q) h.pairs) unfound)

-- the others of a roster are in it
others-are : (p q : ℕ) (roster : List ℕ) → has roster q ≡ true → (q == p) ≡ false → has (others_than p roster) q ≡ true
others-are p q [] e other = e
others-are p q (r ∷ roster) e other = go (others-are p q roster) (r == q) refl (r == p) refl
  where
    go : (has roster q ≡ true → (q == p) ≡ false → has (others_than p roster) q ≡ true) → (b : Bool) → (r == q) ≡ b → (c : Bool)
        → (r == p) ≡ c → has (others_than p (r ∷ roster)) q ≡ true
    go rest true same true there =
        let P : ℕ → Type 0 = λ n. (n == p) ≡ true in absurd (true≢false (sym (subst P (eqb-true r q same) there) ∙ other))
    go rest true same false there = rw (there, same) refl
    go rest false differ true there = rw there (rest (sym (rw differ refl) ∙ e) other)
    go rest false differ false there = rw (there, differ) (rest (sym (rw differ refl) ∙ e) other)

-- ---- a hosted process

-- a hosted process has a host
pub record IsHosted (kit : Kit) (p : ℕ) : Type 0 where
  pub host : Host
  pub found : host_of kit p ≡ Some host
  pub is : IsHost kit.scheme kit.keys host
  pub number : host.process ≡ p

pub hosted : (kit : Kit) (p : ℕ) → IsKit kit → IsTrue (has (hosted_by kit) p) → IsHosted kit p
hosted kit p is among = go (host_of kit p) refl
  where
    go : (o : Option Host) → host_of kit p ≡ o → IsHosted kit p
    go None e = absurd (true≢false (sym among ∙ sym (found_so (λ h. h.process) p kit.hosts) ∙ ap is_some e))
    go (Some h) e =
        let both = host_is kit p h is e in
        record { host = h; found = e; is = both.0; number = both.1 }

-- it is in the roster
pub in_roster : (kit : Kit) (p : ℕ) → IsKit kit → IsTrue (has (hosted_by kit) p) → IsTrue (has (roster_of kit.keys) p)
in_roster kit p is among =
    let h = hosted kit p is among in
    subst (λ q. IsTrue (has (roster_of kit.keys) q)) h.number
    (sym (sym (ap is_some h.is.key) ∙ mapped (λ (k : ℕ × List ℕ). k.1) (find (λ k. k.0 == h.host.process) kit.keys)
    ∙ found_so (λ (k : ℕ × List ℕ). k.0) h.host.process kit.keys))

differs : (p q : ℕ) → q ≢ p → (q == p) ≡ false
differs p q other = grind arith

-- it shares a key with each other process of the roster
pub shared : (kit : Kit) (p q : ℕ) → IsKit kit → IsTrue (has (hosted_by kit) p) → IsTrue (has (roster_of kit.keys) q) → q ≢ p
    → IsSome (pair_of kit p q)
shared kit p q is among listed other =
    let h = hosted kit p is among in
    let there : has (others_than h.host.process (roster_of kit.keys)) q ≡ true = others-are h.host.process q (roster_of kit.keys) listed
    (ap (λ n. q == n) h.number ∙ differs p q other) in
    ap (λ (o : Option Host). is_some (option_and_then (λ g. option_map (λ pair. pair.1) (find (λ pair. pair.0 == q) g.pairs)) o)) h.found
    ∙ mapped (λ (pair : ℕ × List ℕ). pair.1) (find (λ pair. pair.0 == q) h.host.pairs)
    ∙ found_so (λ (pair : ℕ × List ℕ). pair.0) q h.host.pairs ∙ ap (λ ps. has ps q) h.is.shared_with ∙ there

-- its secret has a signer, where there is memory
not_refused : (s : Secret) → IsSecret s → refusal_of s ≡ None
not_refused (Plain key total) is = refl
not_refused (Lms code kind id seed) is = tree_not_refused code is.0 is.1
not_refused (Hss levels code kind id seed) is = levels_not_refused levels code kind is.0

pub signs : (kit : Kit) (p : ℕ) (h : IsHosted kit p) (s : Secret) → s ≡ h.host.secret → refusal_of s ≡ None
signs kit p h s same = subst (λ x. refusal_of x ≡ None) (sym same) (not_refused h.host.secret h.is.secret)

-- the secret that is found is its host's
pub secret-is : (kit : Kit) (p : ℕ) (h : IsHosted kit p) (s : Secret) → (let o : Option Secret = Some s in o)
    ≡ option_map (λ g. g.secret) (host_of kit p) → s ≡ h.host.secret
secret-is kit p h s e =
    let both : (let o : Option Secret = Some s in o) ≡ Some h.host.secret = e ∙ ap (option_map (λ g. g.secret)) h.found in cc

-- and its signer the host's
pub signer-is : {E : Type 0} (kit : Kit) (p : ℕ) (h : IsHosted kit p) (s : Secret) (r : Result AnySigner E) → s ≡ h.host.secret
    → IfOk r (IsSignerOf s) → IfOk r (λ signer. IsSomeAnd (host_of kit p) (λ host. IsSignerOf host.secret signer))
signer-is kit p h s (Ok signer) same made =
    let P : Option Host → Type 0 = λ o. IsSomeAnd o (λ host. IsSignerOf host.secret signer) in
    let Q : Secret → Type 0 = λ x. IsSignerOf x signer in
    subst P (sym h.found) (subst Q same made)
signer-is kit p h s (Err e) same made = tt

-- ---- a kit that hosts nobody

no_host : (hosts : List Host) → [] ≡ map (λ h. h.process) hosts → hosts ≡ []
no_host [] e = refl
no_host (h ∷ hosts) e = absurd cc

first-there : (p : ℕ) (left : List ℕ) → p ∷ left ≡ [] → ⊥
first-there p left e = cc

not-false : (b : Bool) → not b ≡ false → b ≡ true
not-false true e = refl
not-false false e = absurd (true≢false e)

pub nobody-is : (kit : Kit) (o : Option ℕ) (left : List ℕ) (b : Bool) → is_some o ≡ not b
    → MatchOption o ((hosted_by kit ≡ []) × (left ≡ [])) (λ p. hosted_by kit ≡ p ∷ left) → IsTrue b ↔ (kit.hosts ≡ [])
nobody-is kit None left b e first = (λ t. no_host kit.hosts (sym first.0), λ none. not-false b (sym e))
nobody-is kit (Some p) left b e first = (
  λ t. absurd (true≢false (e ∙ ap not t)),
  λ none. absurd (first-there p left (sym first ∙ ap (map (λ h. h.process)) none)),
)
