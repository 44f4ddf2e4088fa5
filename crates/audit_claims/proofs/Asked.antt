-- What is known of a signature is what the rule says of it.
use Rattle.std.proofs.Common.{◌≡◌, ℕ, ◌+◌, List, [], ◌∷◌, ◌++◌, length, take, drop, Option, Some, None, Bool, true, false, refl, sym, ap, ◌∙◌, Bor}
use Rattle.std.specs.Prelude.{◌&&◌, ◌||◌, nat_lt, if◌then◌else◌, codes, IfSome, MatchOption, Result, Ok, Err}
use Rattle.std.proofs.lemmas.List.{drop_at, take-append-drop}
use Rattle.std.proofs.lemmas.Slice.Eq.{bytes_eq-Decides}
use Rattle.byte_defs.specs.Choices.{is_some_and}
use Rattle.byte_defs.specs.Equality.{same_bytes}
use Rattle.message_defs.specs.Statements.{Claim, Statement}
use Rattle.message_defs.specs.Spelling.{body, spelling}
use Rattle.message_defs.specs.Reading.{statement_of}
use Rattle.message_defs.specs.declared.FrameFault.{FrameFault}
use Rattle.group_defs.specs.Process.{Setting}
use Rattle.pool_laws.proofs.Tests.{and-first, and-second, some-and, some-same}
use Rattle.claim_hearing.specs.Hearing.{Shares}
use Rattle.claim_firsts.specs.Seen.{Saw}
use Rattle.claim_firsts.specs.First.{is_first}
use Rattle.claim_firsts.specs.Tables.{Table}
use Rattle.claim_firsts.proofs.First.{first-valid}
use Rattle.audit_claims.specs.Asked.{claim_by, claim_in, is_known, is_under, key_in, known_or_valid}
use Rattle.audit_claims.proofs.Frames.{same-valid}

-- ---- the rule answers the same

-- the claim has the signature that is asked about
signature-is : (bytes signature : List ℕ) (c : Claim) → claim_in bytes signature ≡ Some c → c.signature ≡ signature
signature-is [] signature c e = absurd cc
signature-is (signer ∷ bytes) signature c e = within (nat_lt signer 64) e
  where
    by : (r : Result Statement FrameFault) → claim_by signer signature r ≡ Some c → c.signature ≡ signature
    by (Ok st) is = ap (λ (d : Claim). d.signature) (sym (some-same (record { signer = signer; statement = st; signature = signature }) c is))
    by (Err fault) is = absurd cc

    within : (b : Bool) → (if b then claim_by signer signature (statement_of bytes) else None) ≡ Some c → c.signature ≡ signature
    within true is = by (statement_of bytes) is
    within false is = absurd cc

module _ (s : Setting) (valid : List ℕ → List ℕ → List ℕ → Bool) (group : List ℕ) (roster : List (ℕ × List ℕ))
    (shares : Shares s valid group roster) (claims own : List Claim) (t : Table) (saw : Saw s claims own t) where
  -- what is known is valid
  sound : (key bytes signature : List ℕ) → is_known group roster t key bytes signature ≡ true → valid key bytes signature ≡ true
  sound key bytes signature e =
      let at = some-and (claim_in (drop 20 bytes) signature) (λ c. is_under group roster key bytes c && is_first t c) e in
      let c = at.0 in
      let under = and-first (is_under group roster key bytes c) (is_first t c) at.2 in
      let bytes-are : bytes ≡ body group c.signer c.statement = (bytes_eq-Decides bytes (body group c.signer c.statement)).0
      (and-first (same_bytes bytes (body group c.signer c.statement)) (is_some_and (key_in roster c.signer) (same_bytes key)) under) in
      let keyed = some-and (key_in roster c.signer) (same_bytes key)
      (and-second (same_bytes bytes (body group c.signer c.statement)) (is_some_and (key_in roster c.signer) (same_bytes key)) under) in
      let key-is : key ≡ keyed.0 = (bytes_eq-Decides key keyed.0).0 keyed.2 in
      let whole : is_some_and (key_in roster c.signer) (λ k. valid k (body group c.signer c.statement) c.signature) ≡ true =
      same-valid s valid group roster shares c
      ∙ first-valid t c (and-second (is_under group roster key bytes c) (is_first t c) at.2) s claims own saw in
      ap (valid key bytes) (sym (signature-is (drop 20 bytes) signature c at.1))
      ∙ ap (λ b. valid key b c.signature) bytes-are
      ∙ ap (λ k. valid k (body group c.signer c.statement) c.signature) key-is
      ∙ sym (ap (λ o. is_some_and o (λ k. valid k (body group c.signer c.statement) c.signature)) keyed.1)
      ∙ whole

  alike : (key bytes signature : List ℕ) → known_or_valid valid group roster t key bytes signature ≡ valid key bytes signature
  alike key bytes signature = go (is_known group roster t key bytes signature) refl
    where
      go : (b : Bool) → is_known group roster t key bytes signature ≡ b → (b || valid key bytes signature) ≡ valid key bytes signature
      go true e = sym (sound key bytes signature e)
      go false e = refl

  pub known-is-valid : known_or_valid valid group roster t ≡ valid
  known-is-valid = λ i key bytes signature. alike key bytes signature i

  pub known-shares : Shares s (known_or_valid valid group roster t) group roster
  known-shares = record { rule = shares.rule ∙ sym known-is-valid; bound = shares.bound; keys = shares.keys }

-- ---- a body in parts

head-off : (first second bytes one two : List ℕ) → same_bytes (take (length first) bytes) first ≡ true → one ≡ drop (length first) bytes
    → same_bytes (take (length second) one) second ≡ true → two ≡ drop (length second) one → bytes ≡ first ++ (second ++ two)
head-off first second bytes one two e is f behind =
    let front : take (length first) bytes ≡ first = (bytes_eq-Decides (take (length first) bytes) first).0 e in
    let next : take (length second) one ≡ second = (bytes_eq-Decides (take (length second) one) second).0 f in
    let rest : one ≡ second ++ two = sym (take-append-drop (length second) one) ∙ (λ i. next i ++ sym behind i) in
    sym (take-append-drop (length first) bytes) ∙ (λ i. front i ++ (sym is ∙ rest) i)

-- what a second `strip_prefix` leaves
pub heads-off : (first second bytes one : List ℕ) → same_bytes (take (length first) bytes) first ≡ true → one ≡ drop (length first) bytes
    → (r : Option (Bor (List ℕ))) → MatchOption r (same_bytes (take (length second) one) second ≡ false)
    (λ x. (same_bytes (take (length second) one) second ≡ true) × (x.now ≡ drop (length second) one)
    × (length x.now + length second ≡ length one))
    → IfSome r (λ said. bytes ≡ first ++ (second ++ said.now))
heads-off first second bytes one e is None m = tt
heads-off first second bytes one e is (Some x) m = head-off first second bytes one x.now e is m.0 m.1

-- what comes after a head of 20 bytes
after-head : (group said bytes : List ℕ) → length group ≡ 16 → bytes ≡ codes "RPB1" ++ (group ++ said) → drop 20 bytes ≡ said
after-head group said bytes len is = ap (drop 20) is ∙ drop_at group said 16 len

pub after-heads : (group bytes : List ℕ) → length group ≡ 16 → (r : Option (Bor (List ℕ)))
    → IfSome r (λ said. bytes ≡ codes "RPB1" ++ (group ++ said.now)) → IfSome r (λ said. drop 20 bytes ≡ said.now)
after-heads group bytes len None is = tt
after-heads group bytes len (Some x) is = after-head group x.now bytes len is

-- ---- what is known

module _ (group : List ℕ) (roster : List (ℕ × List ℕ)) (t : Table) (key bytes signature : List ℕ) where
  abbrev known : Bool
  known = is_known group roster t key bytes signature

  pub unknown-head : ((said : List ℕ) → bytes ≡ codes "RPB1" ++ group ++ said → ⊥) → false ≡ known
  unknown-head other = go known refl
    where
      go : (b : Bool) → known ≡ b → false ≡ b
      go false e = refl
      go true e =
          let at = some-and (claim_in (drop 20 bytes) signature) (λ c. is_under group roster key bytes c && is_first t c) e in
          let c = at.0 in
          let under = and-first (is_under group roster key bytes c) (is_first t c) at.2 in
          absurd (other (c.signer ∷ spelling c.statement) ((bytes_eq-Decides bytes (body group c.signer c.statement)).0
          (and-first (same_bytes bytes (body group c.signer c.statement)) (is_some_and (key_in roster c.signer) (same_bytes key)) under)))

  pub unknown-claim : (said : List ℕ) → drop 20 bytes ≡ said → claim_in said signature ≡ None → false ≡ known
  unknown-claim said is none =
      sym (ap (λ o. is_some_and o (λ c. is_under group roster key bytes c && is_first t c)) (ap (λ b. claim_in b signature) is ∙ none))

  pub known-claim : (said : List ℕ) (c : Claim) → drop 20 bytes ≡ said → claim_in said signature ≡ Some c
      → bytes ≡ codes "RPB1" ++ group ++ said → said ≡ c.signer ∷ spelling c.statement
      → (is_some_and (key_in roster c.signer) (same_bytes key) && is_first t c) ≡ known
  known-claim said c is some whole spelled =
      let bytes-are : bytes ≡ body group c.signer c.statement = whole ∙ ap (λ r. codes "RPB1" ++ group ++ r) spelled in
      let same : same_bytes bytes (body group c.signer c.statement) ≡ true = (bytes_eq-Decides bytes (body group c.signer c.statement)).1 bytes-are in
      sym (ap (λ o. is_some_and o (λ c. is_under group roster key bytes c && is_first t c)) (ap (λ b. claim_in b signature) is ∙ some)
      ∙ ap (λ b. (b && is_some_and (key_in roster c.signer) (same_bytes key)) && is_first t c) same)
