-- The lines of reply keys, the first of each process by rising numbers: `ask` reads the first key of each.
use Rattle.std.proofs.Common.{◌≡◌, ◌⊎◌, inl, inr, ℕ, ◌+◌, ◌≤◌, ◌==◌, Bool, true, false, List, [], ◌∷◌, ◌++◌, Option, Some, None, option_map, refl, sym, ap, subst, ◌∙◌, arith, append_assoc, append-nil}
use Rattle.std.specs.Prelude.{codes, filter_map, find, nat_lt, if◌then◌else◌}
use Rattle.std.specs.List.{cons_option, list_any}
use Rattle.std.proofs.lemmas.Bool.{eqb-true, lt-ltb, or_from}
use Rattle.byte_defs.specs.Choices.{and_then}
use Rattle.byte_defs.specs.Equality.{same_bytes}
use Rattle.byte_defs.specs.Members.{has}
use Rattle.signature_defs.specs.Schemes.{Scheme}
use Rattle.text_defs.specs.Words.{bytes_of, line_feed, process_of, words_of}
use Rattle.text_defs.proofs.Lines.{has_byte}
use Rattle.text_defs.proofs.Tests.{or_false, word_is}
use Rattle.text_defs.proofs.Choosing.{if_some, map_some}
use Rattle.kit_defs.specs.Kits.{AreKeys, Kit, key_length, roster_of}
use Rattle.store_defs.specs.Words.{listed_process}
use Rattle.store_defs.specs.Asking.{is_view, key_in, named_key, question_from, reply_key_by}
use Rattle.store_question_defs.specs.Lines.{Lines, first_key, first_line, key_said, with_process}
use Rattle.store_question_laws.proofs.Lines.{AreWithout, said_in, short_words}

abbrev pub Keys : Type 0
Keys = List (ℕ × List ℕ)

abbrev Named : Type 0
Named = Option (ℕ × List ℕ)

-- ---- a line, after other keys

-- the last process is below this one
abbrev last_below : Keys → ℕ → Bool
last_below [] p = true
last_below (k ∷ []) p = nat_lt k.0 p
last_below (k ∷ l ∷ more) p = last_below (l ∷ more) p

-- a key of a process, where it passes the test
abbrev key_if : Scheme → List ℕ → List ℕ → List ℕ → (ℕ → Bool) → Named
key_if scheme roster process key test = and_then (listed_process roster process) (λ p.
    if test p then option_map (λ k. (p, k)) (bytes_of (key_length scheme) key) else None)

by_last : (scheme : Scheme) (roster : List ℕ) (keys : Keys) (process key : List ℕ)
    → reply_key_by scheme roster keys (process ∷ key ∷ []) ≡ key_if scheme roster process key (last_below keys)
by_last scheme roster [] process key = refl
by_last scheme roster (k ∷ []) process key = refl
by_last scheme roster (k ∷ l ∷ more) process key = by_last scheme roster (l ∷ more) process key

module _ (scheme : Scheme) (roster : List ℕ) (k : ℕ × List ℕ) where
  -- the process is of the roster, and any test that it passes lets the key through
  passes : (process key : List ℕ) (o : Option ℕ) (test : ℕ → Bool)
      → and_then o (λ p. if true then option_map (λ key. (p, key)) (bytes_of (key_length scheme) key) else None) ≡ Some k → test k.0 ≡ true
      → and_then o (λ p. if test p then option_map (λ key. (p, key)) (bytes_of (key_length scheme) key) else None) ≡ Some k
  passes process key None test e is = absurd cc
  passes process key (Some p) test e is =
      let read = map_some (λ (b : List ℕ). (p, b)) (bytes_of (key_length scheme) key) k e in
      let same : k.0 ≡ p = sym (ap (λ (x : ℕ × List ℕ). x.0) read.2) in
      rw (sym (ap test same) ∙ is) e

  again : (keys : Keys) (words : Lines) → reply_key_by scheme roster [] words ≡ Some k → last_below keys k.0 ≡ true
      → reply_key_by scheme roster keys words ≡ Some k
  again keys [] e is = absurd cc
  again keys (process ∷ []) e is = absurd cc
  again keys (process ∷ key ∷ []) e is = by_last scheme roster keys process key ∙ passes process key (listed_process roster process) (last_below keys) e is
  again keys (process ∷ key ∷ more ∷ words) e is = absurd cc

  named_again : (keys : Keys) (words : Lines) → named_key scheme roster [] words ≡ Some k → last_below keys k.0 ≡ true
      → named_key scheme roster keys words ≡ Some k
  named_again keys [] e is = absurd cc
  named_again keys (word ∷ words) e is =
      let both = if_some (same_bytes word (codes "replykey")) (reply_key_by scheme roster [] words) k e in
      rw both.0 (again keys words both.1 is)

  no_view : (words : Lines) → named_key scheme roster [] words ≡ Some k → is_view words ≡ false
  no_view [] e = absurd cc
  no_view (word ∷ words) e =
      let both = if_some (same_bytes word (codes "replykey")) (reply_key_by scheme roster [] words) k e in
      ap (λ (w : List ℕ). same_bytes w (codes "view")) (word_is word (codes "replykey") both.0)

  listed : (o : Option ℕ) (f : ℕ → Named) → ((p : ℕ) → f p ≡ Some k → p ≡ k.0)
      → and_then (and_then o (λ p. if has roster p then Some p else None)) f ≡ Some k → has roster k.0 ≡ true
  listed None f own e = absurd cc
  listed (Some p) f own e = of (has roster p) refl e
    where
      of : (b : Bool) → has roster p ≡ b → and_then (let o : Option ℕ = if b then Some p else None in o) f ≡ Some k → has roster k.0 ≡ true
      of true is e = sym (ap (has roster) (own p e)) ∙ is
      of false is e = absurd cc

  of_roster : (words : Lines) → reply_key_by scheme roster [] words ≡ Some k → has roster k.0 ≡ true
  of_roster [] e = absurd cc
  of_roster (process ∷ []) e = absurd cc
  of_roster (process ∷ key ∷ []) e =
      listed (process_of process) (λ p. if true then option_map (λ b. (p, b)) (bytes_of (key_length scheme) key) else None)
      (λ p f. ap (λ (x : ℕ × List ℕ). x.0) (map_some (λ (b : List ℕ). (p, b)) (bytes_of (key_length scheme) key) k f).2) e
  of_roster (process ∷ key ∷ more ∷ words) e = absurd cc

  pub named_of_roster : (words : Lines) → named_key scheme roster [] words ≡ Some k → has roster k.0 ≡ true
  named_of_roster [] e = absurd cc
  named_of_roster (word ∷ words) e =
      of_roster words (if_some (same_bytes word (codes "replykey")) (reply_key_by scheme roster [] words) k e).1

-- ---- the first line of a process, and its key

module _ (kit : Kit) where
  record SaysKey (p : ℕ) (line : Option (List ℕ)) (key : Option (List ℕ)) : Type 0 where
    bytes : List ℕ
    said : List ℕ
    line_is : line ≡ Some bytes
    key_is : key ≡ Some said
    says : key_said kit bytes ≡ Some (p, said)
    feed : has_byte line_feed bytes ≡ false

  abbrev First : ℕ → Option (List ℕ) → Option (List ℕ) → Type 0
  First p line key = ((line ≡ None) × (key ≡ None)) ⊎ SaysKey p line key

  firsts : (lines : Lines) (p : ℕ) → AreWithout lines → First p (first_line kit lines p) (first_key kit lines p)
  firsts [] p none = inl (refl, refl)
  firsts (line ∷ lines) p none =
      let both = or_false (has_byte line_feed line) (list_any (has_byte line_feed) lines) none in
      of (firsts lines p both.1) both.0 (key_said kit line) refl
    where
      by_process : First p (first_line kit lines p) (first_key kit lines p) → has_byte line_feed line ≡ false → (k : ℕ × List ℕ)
          → key_said kit line ≡ Some k → (b : Bool) → (k.0 == p) ≡ b
          → First p
          (option_map (λ k. k.1) (let o : Option (ℕ × List ℕ) = if b then Some (k.0, line) else find (λ k. k.0 == p) (filter_map (with_process kit) lines) in o))
          (option_map (λ k. k.1) (let o : Option (ℕ × List ℕ) = if b then Some k else find (λ k. k.0 == p) (filter_map (key_said kit) lines) in o))
      by_process rest feed k is true own =
          let same : k.0 ≡ p = eqb-true k.0 p own in
          inr (record {
            bytes = line;
            said = k.1;
            line_is = refl;
            key_is = refl;
            says = is ∙ ap (λ (q : ℕ). let o : Named = Some (q, k.1) in o) same;
            feed = feed;
          })
      by_process rest feed k is false other = rest

      of : First p (first_line kit lines p) (first_key kit lines p) → has_byte line_feed line ≡ false → (o : Named) → key_said kit line ≡ o
          → First p (key_in (cons_option (option_map (λ k. (k.0, line)) o) (filter_map (with_process kit) lines)) p)
          (key_in (cons_option o (filter_map (key_said kit) lines)) p)
      of rest feed None is = rest
      of rest feed (Some k) is = by_process rest feed k is (k.0 == p) refl

  -- ---- all of them

  -- these processes rise from this one on
  abbrev Rise : ℕ → List ℕ → Type 0
  Rise least [] = Unit {0}
  Rise least (p ∷ ps) = (least ≤ p) × Rise (p + 1) ps

  pub roster_rises : (size least : ℕ) (keys : Keys) → AreKeys size least keys → Rise least (roster_of keys)
  roster_rises size least [] are = tt
  roster_rises size least (k ∷ keys) are = (are.0, roster_rises size (k.0 + 1) keys are.3)

  -- the keys are of processes below this one
  abbrev AreUnder : Keys → ℕ → Type 0
  AreUnder keys least = (p : ℕ) → least ≤ p → last_below keys p ≡ true

  last_is : (keys : Keys) (k : ℕ × List ℕ) (p : ℕ) → last_below (keys ++ k ∷ []) p ≡ nat_lt k.0 p
  last_is [] k p = refl
  last_is (l ∷ []) k p = refl
  last_is (l ∷ m ∷ more) k p = last_is (m ∷ more) k p

  under_more : (keys : Keys) (k : ℕ × List ℕ) → AreUnder (keys ++ k ∷ []) (k.0 + 1)
  under_more keys k = λ p above. last_is keys k p ∙ lt-ltb k.0 p (omega (arith, above))

  module _ (lines : Lines) (none : AreWithout lines) where
    abbrev line_of : ℕ → Option (List ℕ)
    line_of p = first_line kit lines p

    abbrev key_of : ℕ → Named
    key_of p = option_map (λ key. (p, key)) (first_key kit lines p)

    abbrev roster : List ℕ
    roster = roster_of kit.keys

    one_key : (n : ℕ) (keys : Keys) (line next : List ℕ) (more : Lines) (k : ℕ × List ℕ) → key_said kit line ≡ Some k
        → last_below keys k.0 ≡ true
        → question_from kit.scheme roster n keys (line ∷ next ∷ more) ≡ question_from kit.scheme roster (n + 1) (keys ++ k ∷ []) (next ∷ more)
    unfolding question_from
    one_key n keys line next more k says low =
        let words = said_in (named_key kit.scheme roster []) line k refl says in
        rw (
          short_words n line words.0,
          no_view kit.scheme roster k (words_of line) words.1,
          named_again kit.scheme roster k keys (words_of line) words.1 low,
        ) refl

    one_then : (n : ℕ) (keys : Keys) (line : List ℕ) (rest : Lines) (first : List ℕ) (more : Lines) (k : ℕ × List ℕ) → key_said kit line ≡ Some k
        → last_below keys k.0 ≡ true
        → question_from kit.scheme roster n keys (line ∷ (rest ++ first ∷ more))
        ≡ question_from kit.scheme roster (n + 1) (keys ++ k ∷ []) (rest ++ first ∷ more)
    one_then n keys line [] first more k says low = one_key n keys line first more k says low
    one_then n keys line (next ∷ rest) first more k says low = one_key n keys line next (rest ++ first ∷ more) k says low

    -- the keys are read, and then comes what is after them
    pub keys_asked : (ps : List ℕ) (least n : ℕ) (keys : Keys) (first : List ℕ) (more : Lines) → Rise least ps → AreUnder keys least
        → (m : ℕ) × (question_from kit.scheme roster n keys (filter_map line_of ps ++ first ∷ more)
        ≡ question_from kit.scheme roster m (keys ++ filter_map key_of ps) (first ∷ more))
    keys_asked [] least n keys first more rise under =
        (n, ap (λ (ks : Keys). question_from kit.scheme roster n ks (first ∷ more)) (sym (append-nil keys)))
    keys_asked (p ∷ ps) least n keys first more rise under =
        of (λ k ks u. keys_asked ps (p + 1) k ks first more rise.1 u) (line_of p) (first_key kit lines p) (firsts lines p none)
      where
        Again : Type 0
        Again = (n : ℕ) (keys : Keys) → AreUnder keys (p + 1)
            → (m : ℕ) × (question_from kit.scheme roster n keys (filter_map line_of ps ++ first ∷ more)
            ≡ question_from kit.scheme roster m (keys ++ filter_map key_of ps) (first ∷ more))

        Goal : Option (List ℕ) → Option (List ℕ) → Type 0
        Goal line key = (m : ℕ) × (question_from kit.scheme roster n keys (cons_option line (filter_map line_of ps) ++ first ∷ more)
            ≡ question_from kit.scheme roster m (keys ++ cons_option (option_map (λ key. (p, key)) key) (filter_map key_of ps)) (first ∷ more))

        some : (line key : List ℕ) → Again → key_said kit line ≡ Some (p, key) → Goal (Some line) (Some key)
        some line key again says =
            let rest = again (n + 1) (keys ++ (p, key) ∷ []) (under_more keys (p, key)) in (
              rest.0,
              one_then n keys line (filter_map line_of ps) first more (p, key) says (under p rise.0)
                  ∙ rest.1
                  ∙ ap (λ (ks : Keys). question_from kit.scheme roster rest.0 ks (first ∷ more))
                  (append_assoc keys ((p, key) ∷ []) (filter_map key_of ps)),
            )

        of : Again → (line key : Option (List ℕ)) → First p line key → Goal line key
        of again line key (inl is) =
            subst (λ (l : Option (List ℕ)). Goal l key) (sym is.0) (subst (λ (k : Option (List ℕ)). Goal None k) (sym is.1)
            (again n keys (λ q above. under q (omega (arith, above, rise.0)))))
        of again line key (inr s) =
            subst (λ (l : Option (List ℕ)). Goal l key) (sym s.line_is) (subst (λ (k : Option (List ℕ)). Goal (Some s.bytes) k) (sym s.key_is)
            (some s.bytes s.said again s.says))

    pub keys_without : (ps : List ℕ) → AreWithout (filter_map line_of ps)
    keys_without [] = refl
    keys_without (p ∷ ps) = of (keys_without ps) (line_of p) (first_key kit lines p) (firsts lines p none)
      where
        of : AreWithout (filter_map line_of ps) → (line key : Option (List ℕ)) → First p line key
            → AreWithout (cons_option line (filter_map line_of ps))
        of rest line key (inl is) = subst (λ (l : Option (List ℕ)). AreWithout (cons_option l (filter_map line_of ps))) (sym is.0) rest
        of rest line key (inr s) = subst (λ (l : Option (List ℕ)). AreWithout (cons_option l (filter_map line_of ps))) (sym s.line_is)
            (or_from (has_byte line_feed s.bytes) (list_any (has_byte line_feed) (filter_map line_of ps)) s.feed rest)
