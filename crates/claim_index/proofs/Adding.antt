-- A claim more: the bytes grow at their end, and so do the entries.
use Rattle.std.proofs.Common.{◌≡◌, ℕ, ◌+◌, ◌-◌, ◌≤◌, List, [], ◌∷◌, ◌++◌, length, take, drop, Option, Some, None, Bool, true, refl, sym, ap, ◌∙◌, subst, arith, append_assoc, length-append}
use Rattle.std.proofs.Math.Seq.{take-length}
use Rattle.std.specs.Prelude.{IsOk, Ok, slice_range, slice_set}
use Rattle.std.specs.Option.{option_map}
use Rattle.std.specs.List.{sum_by}
use Rattle.std.proofs.lemmas.List.Sums.{sum_by_push}
use Rattle.std.proofs.lemmas.List.{take-append-le, drop-append-le, length-drop, take_at, drop_at, map-append}
use Rattle.message_defs.specs.Spelling.{IsStatement, spelling}
use Rattle.message_defs.specs.Statements.{Statement, Claim, kind_number, slot_of}
use Rattle.message_defs.specs.Reading.{statement_of}
use Rattle.group_defs.specs.Views.{View}
use Rattle.group_defs.specs.Certified.{claim_on}
use Rattle.stmt_codec.proofs.Grammar.{spelling_again}
use Rattle.indexmap.specs.IndexMap.{IndexMap, insert_entry}
use Rattle.indexmap.proofs.CallerLemmas.{insert_entry-new}
use Rattle.claim_index.specs.declared.key.Key.{Key}
use Rattle.claim_index.specs.declared.index.Kept.{Kept}
use Rattle.claim_index.specs.declared.index.Filled.{Filled}
use Rattle.claim_index.specs.Keys.{key_of, same_key}
use Rattle.claim_index.specs.Kept.{claim_bytes, spelled, middle, past, statement_bytes, claim_with, claim_at, heard_in, IsKept, AreKept, AreNoted, IsIndex, IsMarkedIndex, pool_of}
use Rattle.claim_index.proofs.Found.{lookup_is_claim}
use Rattle.claim_index.proofs.Noted.{kind-below, one-noted}

-- ---- what stands there stays

range_stays : (bytes more : List ℕ) (i j : ℕ) → i ≤ j → j ≤ length bytes → slice_range (bytes ++ more) i j ≡ slice_range bytes i j
range_stays bytes more i j le within =
    let here : i ≤ length bytes = omega arith in
    let fits : j - i ≤ length (drop i bytes) = omega (arith, length-drop i bytes) in
    ap (take (j - i)) (drop-append-le i bytes more here) ∙ take-append-le (j - i) (drop i bytes) more fits

module _ (bytes more : List ℕ) where
  statement_stays : (k : Kept) → past k ≤ length bytes → statement_bytes (bytes ++ more) k ≡ statement_bytes bytes k
  statement_stays k within = range_stays bytes more k.start (k.start + k.said) (omega arith) (omega arith)

  claim_stays : (p : ℕ) (k : Kept) → past k ≤ length bytes → claim_with (bytes ++ more) p k ≡ claim_with bytes p k
  claim_stays p k within =
      let statement : statement_bytes (bytes ++ more) k ≡ statement_bytes bytes k = statement_stays k within in
      let signature : slice_range (bytes ++ more) (middle k) (past k)
      ≡ slice_range bytes (middle k) (past k) = range_stays bytes more (k.start + k.said) (k.start + k.said + k.signed)
      (omega arith) within in
      λ i. record { signer = p; statement = spelled (statement i); signature = signature i }

  kept_stays : (e : Key × Kept) → IsKept bytes e → IsKept (bytes ++ more) e
  kept_stays e kept =
      let same : statement_bytes bytes e.1 ≡ statement_bytes (bytes ++ more) e.1 = sym (statement_stays e.1 kept.within) in
      record {
        within = omega (arith, kept.within, length-append bytes more);
        readable = subst (λ b. IsOk (statement_of b)) same kept.readable;
        written = sym same ∙ kept.written ∙ ap (λ b. spelling (spelled b)) same;
        keyed = kept.keyed ∙ ap (λ b. key_of e.0.signer (slot_of (spelled b))) same;
      }

  pub are_kept : (es : List (Key × Kept)) → AreKept bytes es → AreKept (bytes ++ more) es
  are_kept [] kept = tt
  are_kept (e ∷ es) kept = (kept_stays e kept.0, are_kept es kept.1)

  pub heard_stays : (es : List (Key × Kept)) → AreKept bytes es → heard_in (bytes ++ more) es ≡ heard_in bytes es
  heard_stays [] kept = refl
  heard_stays (e ∷ es) kept = λ i. claim_stays e.0.signer e.1 kept.0.within i ∷ heard_stays es kept.1 i

-- ---- what comes

are_kept_push : (bytes : List ℕ) (es : List (Key × Kept)) (e : Key × Kept) → AreKept bytes es → IsKept bytes e
    → AreKept bytes (es ++ e ∷ [])
are_kept_push bytes [] e kept new = (new, tt)
are_kept_push bytes (x ∷ es) e kept new = (kept.0, are_kept_push bytes es e kept.1 new)

none-from_map : {A B : Type 0} (f : A → B) (o : Option A) → option_map f o ≡ None → o ≡ None
none-from_map f None e = refl
none-from_map f (Some a) e = absurd cc

spelled_again : (st : Statement) → IsStatement st → spelled (spelling st) ≡ st
spelled_again st fits = rw (spelling_again st fits, spelled) refl

module _ (bytes : List ℕ) (c : Claim) (k : Kept) (start : k.start ≡ length bytes) (said : k.said ≡ length (spelling c.statement))
    (signed : k.signed ≡ length c.signature) where
  abbrev now : List ℕ
  now = bytes ++ (spelling c.statement ++ c.signature)

  new_statement : statement_bytes now k ≡ spelling c.statement
  new_statement =
      let count : k.start + k.said - k.start ≡ length (spelling c.statement) = omega arith in
      ap (take (k.start + k.said - k.start)) (drop_at bytes (spelling c.statement ++ c.signature) k.start (sym start))
      ∙ take_at (spelling c.statement) c.signature (k.start + k.said - k.start) (sym count)

  new_signature : slice_range now (middle k) (past k) ≡ c.signature
  new_signature =
      let apart : now ≡ bytes ++ spelling c.statement ++ c.signature = sym (append_assoc bytes (spelling c.statement) c.signature) in
      let at : length (bytes ++ spelling c.statement) ≡ k.start + k.said = omega (arith, length-append bytes (spelling c.statement)) in
      let count : length c.signature ≡ k.start + k.said + k.signed - (k.start + k.said) = omega arith in
      ap (λ b. slice_range b (middle k) (past k)) apart
      ∙ ap (take (past k - middle k)) (drop_at (bytes ++ spelling c.statement) c.signature (k.start + k.said) at)
      ∙ ap (λ n. take n c.signature) (sym count) ∙ take-length c.signature

  new_claim : IsStatement c.statement → claim_at now (key_of c.signer (slot_of c.statement), k) ≡ c
  new_claim fits =
      let statement : spelled (statement_bytes now k) ≡ c.statement = ap spelled new_statement ∙ spelled_again c.statement fits in
      λ i. record { signer = c.signer; statement = statement i; signature = new_signature i }

  new_kept : IsStatement c.statement → IsKept now (key_of c.signer (slot_of c.statement), k)
  new_kept fits =
      let statement : c.statement ≡ spelled (statement_bytes now k) = sym (spelled_again c.statement fits) ∙ ap spelled
      (sym new_statement) in
      let read : statement_of (statement_bytes now k) ≡ Ok c.statement = ap statement_of new_statement ∙ spelling_again c.statement fits in
      record {
        within = omega (arith, length-append bytes (spelling c.statement ++ c.signature), length-append (spelling c.statement) c.signature);
        readable = rw read refl;
        written = new_statement ∙ ap spelling statement;
        keyed = ap (λ st. key_of c.signer (slot_of st)) statement;
      }

  -- its entry behind the others
  pub pushed_kept : (es : List (Key × Kept)) → AreKept bytes es → IsStatement c.statement
      → AreKept now (es ++ (key_of c.signer (slot_of c.statement), k) ∷ [])
  pushed_kept es kept fits = are_kept_push now es (key_of c.signer (slot_of c.statement), k)
      (are_kept bytes (spelling c.statement ++ c.signature) es kept) (new_kept fits)

  pub pushed_heard : (es : List (Key × Kept)) → AreKept bytes es → IsStatement c.statement
      → heard_in now (es ++ (key_of c.signer (slot_of c.statement), k) ∷ []) ≡ heard_in bytes es ++ c ∷ []
  pushed_heard es kept fits =
      map-append (claim_at now) es ((key_of c.signer (slot_of c.statement), k) ∷ [])
      ∙ (λ i. heard_stays bytes (spelling c.statement ++ c.signature) es kept i ++ new_claim fits i ∷ [])

  module _ {S : Type 0} (m : IndexMap Key Kept S) (kept : AreKept bytes m.entries) (fits : IsStatement c.statement)
      (fresh : claim_on (heard_in bytes m.entries) c.signer (slot_of c.statement) ≡ None) where
    grown : insert_entry same_key m.entries (key_of c.signer (slot_of c.statement)) k ≡ m.entries
        ++ (key_of c.signer (slot_of c.statement), k) ∷ []
    grown = insert_entry-new same_key m (key_of c.signer (slot_of c.statement)) k
        (none-from_map (claim_with bytes c.signer) _ (lookup_is_claim bytes m.entries kept c.signer (slot_of c.statement) ∙ fresh))

    pub all_kept : AreKept now (insert_entry same_key m.entries (key_of c.signer (slot_of c.statement)) k)
    all_kept = subst (AreKept now) (sym grown) (pushed_kept m.entries kept fits)

    pub all_heard : heard_in now (insert_entry same_key m.entries (key_of c.signer (slot_of c.statement)) k) ≡ heard_in bytes m.entries
        ++ c ∷ []
    all_heard = ap (heard_in now) grown ∙ pushed_heard m.entries kept fits

    pub all_filled : length bytes ≡ sum_by claim_bytes (heard_in bytes m.entries)
        → length now ≡ sum_by claim_bytes (heard_in now (insert_entry same_key m.entries (key_of c.signer (slot_of c.statement)) k))
    all_filled filled =
        let one_more = ap (sum_by claim_bytes) all_heard ∙ sum_by_push claim_bytes (heard_in bytes m.entries) c in
        omega (
          arith,
          filled,
          one_more,
          length-append bytes (spelling c.statement ++ c.signature),
          length-append (spelling c.statement) c.signature,
        )

    -- its kind is noted
    pub all_noted : (kinds : List Bool) (n : ℕ) → n ≡ kind_number c.statement → length kinds ≡ 12
        → AreNoted kinds (heard_in bytes m.entries)
        → AreNoted (slice_set kinds n true) (heard_in now (insert_entry same_key m.entries (key_of c.signer (slot_of c.statement)) k))
    all_noted kinds n is twelve noted = subst (AreNoted (slice_set kinds n true)) (sym all_heard)
        (one-noted kinds (heard_in bytes m.entries) c n (sym is) (omega (arith, is, twelve, kind-below c.statement)) noted)

    same_bytes : (n : ℕ) → n ≤ length bytes → take n now ≡ take n bytes
    same_bytes n le = take-append-le n bytes (spelling c.statement ++ c.signature) le

    same_entries : (n : ℕ) → n ≤ length m.entries
        → take n (insert_entry same_key m.entries (key_of c.signer (slot_of c.statement)) k) ≡ take n m.entries
    same_entries n le = ap (take n) grown ∙ take-append-le n m.entries ((key_of c.signer (slot_of c.statement), k) ∷ []) le

    -- what was there at the mark is there
    pub all_marked : (were kinds : List Bool) (f : Filled) → IsMarkedIndex bytes m.entries were f
        → IsIndex now (insert_entry same_key m.entries (key_of c.signer (slot_of c.statement)) k) kinds
        → IsMarkedIndex now (insert_entry same_key m.entries (key_of c.signer (slot_of c.statement)) k) kinds f
    all_marked were kinds f was is =
        let one_more = ap length grown ∙ length-append m.entries ((key_of c.signer (slot_of c.statement), k) ∷ []) in
        record {
          now = is;
          then = rw (same_bytes f.bytes was.few_bytes, same_entries f.claims was.few) was.then;
          few_bytes = omega (arith, was.few_bytes, length-append bytes (spelling c.statement ++ c.signature));
          few = omega (arith, was.few, one_more);
        }

    pub same_marked : (v : View) (f : Filled) → f.bytes ≤ length bytes → f.claims ≤ length m.entries
        → pool_of v (take f.bytes now) (take f.claims (insert_entry same_key m.entries (key_of c.signer (slot_of c.statement)) k))
        ≡ pool_of v (take f.bytes bytes) (take f.claims m.entries)
    same_marked v f few_bytes few = λ i. pool_of v (same_bytes f.bytes few_bytes i) (same_entries f.claims few i)
