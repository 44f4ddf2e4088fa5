-- A line that passes the tests may be put behind those that stand.
use Rattle.std.proofs.Common.{◌≡◌, ◌≢◌, ℕ, zero, suc, ◌<◌, ◌≤◌, ◌==◌, nat_lt, ◌&&◌, ◌||◌, not, Bool, true, false, true≢false, codes, List, [], ◌∷◌, ◌++◌, length, get_or, Option, Some, None, is_some, option_map, Result, Ok, IsTrue, refl, sym, ap, subst, ◌∙◌, arith}
use Rattle.std.specs.Option.{is_none, unwrap_or}
use Rattle.std.specs.List.{AllByRecursion, list_any}
use Rattle.std.specs.Fmt.{decimal}
use Rattle.std.proofs.lemmas.Bool.{not-false, or_parts, ltb-false}
use Rattle.std.proofs.lemmas.List.Elements.{All-from_recursion}
use Rattle.std.proofs.lemmas.List.Quantifiers.{all_pairs_push}
use Rattle.byte_defs.specs.Fields.{◌>>=◌}
use Rattle.byte_defs.proofs.Fields.{bind_ok, ok_is}
use Rattle.byte_defs.specs.Members.{has}
use Rattle.signature_defs.specs.Schemes.{Scheme}
use Rattle.signature_defs.specs.Schemes as schemes
use Rattle.signature_defs.specs.Secrets.{Secret, Plain, Lms, Hss, scheme_of}
use Rattle.sig_scheme.specs.Keys.{refusal_of}
use Rattle.sig_scheme.proofs.Refusals.{levels_not_refused, tree_not_refused}
use Rattle.text_defs.specs.Words.{begin_with}
use Rattle.kit_defs.specs.Kits.{Host, KitLine, KitVersion, Version, SchemeIs, GroupIs, Key, Genesis, Port, PlainHost, LmsHost, HssHost, Pair, key_length, key_of, line_words, roster_of, secret_line}
use Rattle.kit_defs.specs.KitReading.{Draft, KitFault, has_genesis, host_above, host_stands, is_early, is_late, is_outside, is_repeated, lacks_port, line_by, listed_key, matching, may_be, may_of, next_pair, next_port, with_host, with_line, with_pair}
use Rattle.kit_defs.proofs.Lists.{each_fails, each_push, each_weaker, each_with}
use Rattle.text_defs.proofs.Choosing.{none_some, some_is}
use Rattle.kit_defs.proofs.LineShapes.{IsLine}
use Rattle.kit_defs.proofs.Versions.{scheme_is}
use Rattle.kit_defs.proofs.LineFound.{line_found}
use Rattle.kit_defs.proofs.Fresh.{IsFresh, fresh_found}
use Rattle.kit_defs.proofs.EarlySteps.{new_key, other_number}
use Rattle.kit_file.specs.Views.{AreRising}
use Rattle.kit_draft.specs.Drafts.{IsDraft, IsNumber}
use Rattle.kit_reading.specs.Additions.{CanAdd, Fits, IsOfTrees}

-- what holds of a key that stands
abbrev IsKeyIn : Option Scheme → ℕ × List ℕ → Type 0
IsKeyIn scheme k = IsNumber k.0 × (Some (length k.1) ≡ option_map key_length scheme)

-- what holds of a host that stands
abbrev IsHostIn : Host → Type 0
IsHostIn h = IsNumber h.process × AllByRecursion (λ p. IsNumber p.0) h.pairs

-- ---- schemes

is_reported : (o : Option Scheme) → is_none o ≡ false → (s : Scheme) × (o ≡ Some s)
is_reported None e = absurd (true≢false e)
is_reported (Some s) e = (s, refl)

not_reported : (o : Option Scheme) → is_some o ≡ false → o ≡ None
not_reported None e = refl
not_reported (Some s) e = absurd (true≢false e)

some_true : {A : Type 0} (o : Option A) → is_none o ≡ false → IsTrue (is_some o)
some_true None e = absurd (true≢false e)
some_true (Some a) e = refl

reported_scheme : (o : Option Scheme) → IsTrue (is_some o) → (s : Scheme) × (o ≡ Some s)
reported_scheme None e = absurd (true≢false (sym e))
reported_scheme (Some s) e = (s, refl)

no_key : (o : Option Scheme) (k : ℕ × List ℕ) → o ≡ None → IsKeyIn o k → {P : Type 0} → P
no_key o k none is = none_some (length k.1) (sym (ap (option_map key_length) none) ∙ sym is.1)

-- ---- keys

listed_size : (o : Option Scheme) (keys : List (ℕ × List ℕ)) (p : ℕ) → AllByRecursion (IsKeyIn o) keys → has (roster_of keys) p ≡ true
    → Some (length (unwrap_or (key_of keys p) [])) ≡ option_map key_length o
listed_size o [] p each e = absurd (true≢false (sym e))
listed_size o (k ∷ keys) p each e = by (k.0 == p) refl (listed_size o keys p each.1)
  where
    by : (b : Bool) → (k.0 == p) ≡ b
        → (has (roster_of keys) p ≡ true → Some (length (unwrap_or (key_of keys p) [])) ≡ option_map key_length o)
        → Some (length (unwrap_or (key_of (k ∷ keys) p) [])) ≡ option_map key_length o
    by true is later = rw is each.0.1
    by false is later = rw is (later (sym (ap (λ t. t || has (roster_of keys) p) is) ∙ e))

-- where a scheme is told, the kit is of no other
reported_only : (v : Option KitVersion) (s k : Scheme) → may_be v (Some s) k ≡ true → k ≡ s
reported_only None s k may = scheme_is s k may
reported_only (Some _) s k may = scheme_is s k may

size_of : (v : Option KitVersion) (o : Option Scheme) (k : Scheme) (n : ℕ) → may_be v o k ≡ true → Some n ≡ option_map key_length o
    → n ≡ key_length k
size_of v None k n may is = none_some n (sym is)
size_of v (Some s) k n may is = some_is n (key_length s) is ∙ ap key_length (sym (reported_only v s k may))

-- ---- pairs

module _ (pair : ℕ × List ℕ) where
  process_stays : (hs : List Host) (k : ℕ) (d : Host) → (get_or (with_pair pair hs) k d).process ≡ (get_or hs k d).process
  process_stays [] k d = refl
  process_stays (h ∷ []) zero d = refl
  process_stays (h ∷ []) (suc k) d = refl
  process_stays (h ∷ g ∷ hs) zero d = refl
  process_stays (h ∷ g ∷ hs) (suc k) d = process_stays (g ∷ hs) k d

  count_stays : (hs : List Host) → length (with_pair pair hs) ≡ length hs
  count_stays [] = refl
  count_stays (h ∷ []) = refl
  count_stays (h ∷ g ∷ hs) = ap suc (count_stays (g ∷ hs))

  still_rising : (hs : List Host) → AreRising hs → AreRising (with_pair pair hs)
  still_rising hs rising i j d below within =
      let inside : j < length hs = subst (λ n. j < n) (count_stays hs) within in
      let before : (get_or hs i d).process < (get_or hs j d).process = rising i j d below inside in
      rw (process_stays hs i d, process_stays hs j d) before

  still_numbered : (hs : List Host) → IsNumber pair.0 → AllByRecursion IsHostIn hs → AllByRecursion IsHostIn (with_pair pair hs)
  still_numbered [] small each = each
  still_numbered (h ∷ []) small each = ((each.0.0, each_push (λ p. IsNumber p.0) h.pairs pair each.0.1 small), tt)
  still_numbered (h ∷ g ∷ hs) small each = (each.0, still_numbered (g ∷ hs) small each.1)

-- ---- hosts

new_host : (p : ℕ) (rest : List (List ℕ)) (hs : List Host) → list_any (host_stands (codes "host" ∷ decimal p ∷ rest)) hs ≡ false
    → AllByRecursion (λ h. h.process ≢ p) hs
unfolding begin_with
new_host p rest hs e =
    each_weaker (λ h. host_stands (codes "host" ∷ decimal p ∷ rest) h ≡ false) (λ h. h.process ≢ p)
    (λ h no. other_number h.process p rest
    (or_parts (begin_with (codes "host" ∷ decimal h.process ∷ []) (codes "host" ∷ decimal p ∷ rest)) _ no).0)
    hs (each_fails (host_stands (codes "host" ∷ decimal p ∷ rest)) hs e)

below : (p : ℕ) (rest : List (List ℕ)) (d : Draft) → host_above d p ≡ false
    → list_any (host_stands (codes "host" ∷ decimal p ∷ rest)) d.hosts ≡ false → AllByRecursion (λ h. h.process < p) d.hosts
below p rest d in_time new =
    let low = each_weaker (λ h. nat_lt p h.process ≡ false) (λ h. h.process ≤ p)
    (λ h. ltb-false p h.process) d.hosts (each_fails (λ h. nat_lt p h.process) d.hosts in_time) in
    each_with (λ h. h.process ≤ p) (λ h. h.process ≢ p) (λ h. h.process < p)
    (λ h le ne. omega arith) d.hosts low (new_host p rest d.hosts new)

with_host_is : (d : Draft) (p : ℕ) (s : Secret) → IsDraft d → IsNumber p → AllByRecursion (λ h. h.process < p) d.hosts
    → IsDraft (with_host d p s)
with_host_is d p s ok small low =
    let new : Host = record { process = p; secret = s; pairs = [] } in
    record {
      reported_first = ok.reported_first;
      keys = ok.keys;
      ports = ok.ports;
      hosts = each_push IsHostIn d.hosts new ok.hosts (small, tt);
      rising = all_pairs_push (λ g h. g.process < h.process) d.hosts new ok.rising (All-from_recursion (λ h. h.process < p) d.hosts low);
    }

-- ---- the lines

-- what the tests of a host line say
listed : (d : Draft) (p : ℕ) → (has_genesis d && (not (has (roster_of d.keys) p) || false)) ≡ false
    → (lacks_port d || is_some (next_pair d)) ≡ false → has (roster_of d.keys) p ≡ true
listed d p inside due =
    let lacks = or_parts (lacks_port d) (is_some (next_pair d)) due in
    let no_genesis = or_parts (not (has_genesis d)) (is_some (next_port d)) lacks.0 in
    let stands : has_genesis d ≡ true = not-false _ no_genesis.0 in
    let outside : (not (has (roster_of d.keys) p) || false)
    ≡ false = sym (ap (λ b. b && (not (has (roster_of d.keys) p) || false)) stands) ∙ inside in
    not-false _ (or_parts (not (has (roster_of d.keys) p)) false outside).0

module _ (n : ℕ) (d : Draft) (ok : IsDraft d) where
  scheme_can : (s : Scheme) → IsFresh d (line_words (SchemeIs s)) → CanAdd n d (SchemeIs s)
  unfolding begin_with
  scheme_can s new =
      let and_true : (b : Bool) → (b && true) ≡ false → b ≡ false = λ b e. right b e in
      let none : d.scheme ≡ None = not_reported d.scheme (and_true (is_some d.scheme) new.scheme) in
      record {
        fits = tt;
        keeps = λ e t. subst IsDraft (ok_is _ e t) (record {
          reported_first = λ _. refl;
          keys = each_weaker (IsKeyIn d.scheme) (IsKeyIn (Some s)) (λ k is. no_key d.scheme k none is) d.keys ok.keys;
          ports = ok.ports;
          hosts = ok.hosts;
          rising = ok.rising;
        });
      }
    where
      right : (b : Bool) → (b && true) ≡ false → b ≡ false
      right true e = e
      right false e = e

  key_can : (p : ℕ) (key : List ℕ) → IsFresh d (line_words (Key p key)) → IsLine (may_of d) (Key p key) → is_late d (Key p key) ≡ false
      → is_early d (Key p key) ≡ false → CanAdd n d (Key p key)
  key_can p key new ranges in_time due =
      let reported = reported_scheme d.scheme (ok.reported_first (some_true d.group due)) in
      let late = or_parts (has_genesis d) (list_any (λ k. nat_lt p k.0) d.keys) in_time in
      let low = each_weaker (λ k. nat_lt p k.0 ≡ false) (λ k. k.0 ≤ p)
      (λ k. ltb-false p k.0) d.keys (each_fails (λ k. nat_lt p k.0) d.keys late.1) in
      let above = each_with (λ k. k.0 ≤ p) (λ k. k.0 ≢ p) (λ k. k.0 < p)
      (λ k le ne. omega arith) d.keys low (new_key d.keys p key new.keys) in
      let only : ranges.1.0 ≡ reported.0 = reported_only d.version reported.0 ranges.1.0
      (subst (λ o. may_be d.version o ranges.1.0 ≡ true) reported.1 ranges.1.1) in
      let size : length key ≡ key_length reported.0 = ranges.1.2.0 ∙ ap key_length only in
      let of_scheme : Some (length key)
      ≡ option_map key_length d.scheme = ap (λ (m : ℕ). Some m) size ∙ sym (ap (option_map key_length) reported.1) in
      record {
        fits = All-from_recursion (λ k. k.0 < p) d.keys above;
        keeps = λ e t. subst IsDraft (ok_is _ e t) (record {
          reported_first = ok.reported_first;
          keys = each_push (IsKeyIn d.scheme) d.keys (p, key) ok.keys (ranges.0, of_scheme);
          ports = ok.ports;
          hosts = ok.hosts;
          rising = ok.rising;
        });
      }

  plain_can : (p total : ℕ) → IsFresh d (line_words (PlainHost p total)) → IsLine (may_of d) (PlainHost p total)
      → is_outside d (PlainHost p total) ≡ false → is_late d (PlainHost p total) ≡ false → is_early d (PlainHost p total) ≡ false
      → CanAdd n d (PlainHost p total)
  plain_can p total new ranges inside in_time due = record {
    fits = size_of d.version d.scheme schemes.Plain _ ranges.1 (listed_size d.scheme d.keys p ok.keys (listed d p inside due));
    keeps = λ e t. subst IsDraft (ok_is _ e t)
        (with_host_is d p (Plain (listed_key d p) total) ok ranges.0 (below p _ d in_time new.hosts));
  }

  lms_can : (p code : ℕ) (kind : _) (id seed : List ℕ) → IsFresh d (line_words (LmsHost p code kind id seed))
      → IsLine (may_of d) (LmsHost p code kind id seed) → is_outside d (LmsHost p code kind id seed) ≡ false
      → is_late d (LmsHost p code kind id seed) ≡ false → is_early d (LmsHost p code kind id seed) ≡ false
      → CanAdd n d (LmsHost p code kind id seed)
  lms_can p code kind id seed new ranges inside in_time due = record {
    fits = (
      size_of d.version d.scheme schemes.Lms _ ranges.scheme_may (listed_size d.scheme d.keys p ok.keys (listed d p inside due)),
      ranges.least,
      ranges.most,
    );
    keeps = λ e t.
        let bound = bind_ok (matching n d p (Lms code kind id seed)) _ e t in
        subst IsDraft (ok_is _ e bound.2) (with_host_is d p (Lms code kind id seed) ok ranges.number (below p _ d in_time new.hosts));
  }

  hss_can : (p levels code : ℕ) (kind : _) (id seed : List ℕ) → IsFresh d (line_words (HssHost p levels code kind id seed))
      → IsLine (may_of d) (HssHost p levels code kind id seed) → is_outside d (HssHost p levels code kind id seed) ≡ false
      → is_late d (HssHost p levels code kind id seed) ≡ false → is_early d (HssHost p levels code kind id seed) ≡ false
      → CanAdd n d (HssHost p levels code kind id seed)
  hss_can p levels code kind id seed new ranges inside in_time due = record {
    fits = (
      size_of d.version d.scheme schemes.Hss _ ranges.scheme_may (listed_size d.scheme d.keys p ok.keys (listed d p inside due)),
      ranges.built,
    );
    keeps = λ e t.
        let bound = bind_ok (matching n d p (Hss levels code kind id seed)) _ e t in
        subst IsDraft (ok_is _ e bound.2)
        (with_host_is d p (Hss levels code kind id seed) ok ranges.number (below p _ d in_time new.hosts));
  }

  can : (said : KitLine) → IsFresh d (line_words said) → IsLine (may_of d) said → is_outside d said ≡ false → is_late d said ≡ false
      → is_early d said ≡ false → CanAdd n d said
  can (Version version) new ranges inside in_time due = record {
    fits = tt;
    keeps = λ e t. subst IsDraft (ok_is _ e t)
        (record { reported_first = ok.reported_first; keys = ok.keys; ports = ok.ports; hosts = ok.hosts; rising = ok.rising });
  }
  can (SchemeIs s) new ranges inside in_time due = scheme_can s new
  can (GroupIs group) new ranges inside in_time due = record {
    fits = tt;
    keeps = λ e t. subst IsDraft (ok_is _ e t)
        (record { reported_first = λ _. some_true d.scheme due; keys = ok.keys; ports = ok.ports; hosts = ok.hosts; rising = ok.rising });
  }
  can (Key p key) new ranges inside in_time due = key_can p key new ranges in_time due
  can (Genesis members) new ranges inside in_time due = record {
    fits = tt;
    keeps = λ e t. subst IsDraft (ok_is _ e t)
        (record { reported_first = ok.reported_first; keys = ok.keys; ports = ok.ports; hosts = ok.hosts; rising = ok.rising });
  }
  can (Port p port) new ranges inside in_time due = record {
    fits = tt;
    keeps = λ e t. subst IsDraft (ok_is _ e t)
        (record {
          reported_first = ok.reported_first;
          keys = ok.keys;
          ports = each_push (λ r. IsNumber r.0) d.ports (p, port) ok.ports ranges.0;
          hosts = ok.hosts;
          rising = ok.rising;
        });
  }
  can (PlainHost p total) new ranges inside in_time due = plain_can p total new ranges inside in_time due
  can (LmsHost p code kind id seed) new ranges inside in_time due = lms_can p code kind id seed new ranges inside in_time due
  can (HssHost p levels code kind id seed) new ranges inside in_time due = hss_can p levels code kind id seed new ranges inside in_time due
  can (Pair p q key) new ranges inside in_time due = record {
    fits = tt;
    keeps = λ e t. subst IsDraft (ok_is _ e t)
        (record {
          reported_first = ok.reported_first;
          keys = ok.keys;
          ports = ok.ports;
          hosts = still_numbered (q, key) d.hosts ranges.1 ok.hosts;
          rising = still_rising (q, key) d.hosts ok.rising;
        });
  }

  pub can_add : (words : List (List ℕ)) (said : KitLine) → is_repeated d words ≡ false → line_by (may_of d) words ≡ Some said
      → is_outside d said ≡ false → is_late d said ≡ false → is_early d said ≡ false → CanAdd n d said
  can_add words said new is inside in_time due =
      let found = line_found (may_of d) words said is in
      can said (fresh_found d (line_words said) (sym (ap (is_repeated d) found.0) ∙ new)) found.1 inside in_time due

-- ---- the draft with the line

abbrev pub ok : Draft → Result Draft KitFault
ok d = Ok d

module _ (d v : Draft) (is : v ≡ d) where
  pub keys_changed : (k : ℕ × List ℕ) (ks : List (ℕ × List ℕ)) → ks ≡ v.keys ++ k ∷ []
      → ok (record d { keys = d.keys ++ k ∷ [] }) ≡ ok (record v { keys = ks })
  keys_changed k ks e = ap (λ (x : Draft). ok (record x { keys = x.keys ++ k ∷ [] }))
      (sym is) ∙ ap (λ (l : List (ℕ × List ℕ)). ok (record v { keys = l })) (sym e)

  pub hosts_changed : (f : List Host → List Host) (hs : List Host) → hs ≡ f v.hosts
      → ok (record d { hosts = f d.hosts }) ≡ ok (record v { hosts = hs })
  hosts_changed f hs e = ap (λ (x : Draft). ok (record x { hosts = f x.hosts }))
      (sym is) ∙ ap (λ (l : List Host). ok (record v { hosts = l })) (sym e)

pub tree_taken : (n : ℕ) (d : Draft) (p : ℕ) (s : Secret) (nothing : Unit {0}) → IsOfTrees s → matching n d p s ≡ Ok nothing
    → with_line n d (secret_line p s) ≡ ok (with_host d p s)
tree_taken n d p (Plain key total) nothing trees same = absurd trees
tree_taken n d p (Lms code kind id seed) nothing trees same = ap
    (λ (r : Result (Unit {0}) KitFault). r >>= λ _. ok (with_host d p (Lms code kind id seed))) same
tree_taken n d p (Hss levels code kind id seed) nothing trees same = ap
    (λ (r : Result (Unit {0}) KitFault). r >>= λ _. ok (with_host d p (Hss levels code kind id seed))) same

-- what the line of a secret of trees needs is what its public key needs
pub fits_built : (d : Draft) (p : ℕ) (s : Secret) → IsOfTrees s → Fits d (secret_line p s) → refusal_of s ≡ None
fits_built d p (Plain key total) trees fits = absurd trees
fits_built d p (Lms code kind id seed) trees fits = tree_not_refused code fits.1 fits.2
fits_built d p (Hss levels code kind id seed) trees fits = levels_not_refused levels code kind fits.1

pub fits_size : (d : Draft) (p : ℕ) (s : Secret) → IsOfTrees s → Fits d (secret_line p s)
    → length (listed_key d p) ≡ key_length (scheme_of s)
fits_size d p (Plain key total) trees fits = absurd trees
fits_size d p (Lms code kind id seed) trees fits = fits.0
fits_size d p (Hss levels code kind id seed) trees fits = fits.0
