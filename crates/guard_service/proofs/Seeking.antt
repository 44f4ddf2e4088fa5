-- Whom a frame shows, and the least of them that may be expelled.
use Rattle.std.proofs.Common.{◌≡◌, inl, inr, ℕ, zero, suc, ◌+◌, ◌-◌, ◌<◌, ◌≤◌, Bool, true, false, List, [], ◌∷◌, map, Option, Some, None, Result, Ok, Err, refl, sym, ap, ◌∙◌, subst, arith}
use Rattle.std.specs.Prelude.{◌&&◌, ◌||◌, ◌==◌, cond, filter, filter_map, find, if◌then◌else◌, not, nat_le, IfSome}
use Rattle.std.specs.Borrow.{Bor}
use Rattle.std.specs.List.{cons_option, list_any, range_with_len}
use Rattle.std.proofs.lemmas.Bool.{le-ltb, lt-ltb}
use Rattle.byte_defs.specs.Choices.{is_some_and}
use Rattle.byte_defs.specs.Members.{has}
use Rattle.byte_defs.proofs.Fields.{ok_is, refuse_ok}
use Rattle.message_defs.specs.declared.FrameFault.{FrameFault}
use Rattle.message_defs.specs.Limits.{last_number, most_places}
use Rattle.message_defs.specs.Claims.{claims_of, frame_said, said, said_by}
use Rattle.message_defs.specs.Frames.{FrameView, Bundle, Proof, Want, frame_of}
use Rattle.message_defs.specs.Statements.{Claim}
use Rattle.message_defs.specs.Updates.{Remove}
use Rattle.group_defs.specs.Views.{View, is_member}
use Rattle.group_defs.specs.Process.{Setting, Process}
use Rattle.group_defs.specs.Due.{is_perceived}
use Rattle.group_defs.specs.Events.{Hand}
use Rattle.group_defs.specs.Family.{claims_in}
use Rattle.member_events.specs.Below.{given}
use Rattle.member_events.specs.declared.events.Event as events
use Rattle.member_events.specs.declared.events.Event.TheVariants.{Frame}
use Rattle.member_events.specs.declared.events.Note.{Note}
use Rattle.frame_codec.specs.declared.groups.FrameView as code
use Rattle.frame_codec.specs.Views.{frame_view}
use Rattle.node_defs.specs.Casts.{handed}
use Rattle.node_service.specs.Answers.{IsAbove}
use Rattle.node_service.specs.Words.{event, note}
use Rattle.conviction_defs.specs.Convictions.{is_convicted}
use Rattle.guard_defs.specs.Guarding.{is_above, liar_of, may_expel, next_suspect}
use Rattle.guard_service.specs.Evidence.{claims_shown, first_of, is_called, is_named}
use Rattle.pool_laws.proofs.Members.{Mem}

-- ---- claims

-- what a frame says that can be read, and what it says of claims
said-claims : (at : ℕ) (f : FrameView) → claims_in (Hand at (said f (claims_of f))) ≡ given (claims_of f)
unfolding claims_of
said-claims at (Bundle gs) = go (claims_of (Bundle gs))
  where
    go : (r : Result (List Claim) FrameFault) → claims_in (Hand at (said (Bundle gs) r)) ≡ given r
    go (Ok cs) = refl
    go (Err fault) = refl
said-claims at (Proof gs) = go (claims_of (Proof gs))
  where
    go : (r : Result (List Claim) FrameFault) → claims_in (Hand at (said (Proof gs) r)) ≡ given r
    go (Ok cs) = refl
    go (Err fault) = refl
said-claims at (Want x k) = go (claims_of (Want x k)) refl
  where
    go : (r : Result (List Claim) FrameFault) → claims_of (Want x k) ≡ r → claims_in (Hand at (said (Want x k) r)) ≡ given r
    go (Ok cs) e =
        let a = refuse_ok (not (nat_le x last_number)) _ _ cs e in
        let b = refuse_ok (not (nat_le k most_places)) _ _ cs a.1 in
        ok_is [] cs b.1
    go (Err fault) e = refl

pub claims-read : (at : ℕ) (bytes : List ℕ) (frame : code.FrameView) → frame_of bytes ≡ Ok (frame_view frame)
    → claims_in (Hand at (frame_said bytes)) ≡ claims_shown (Some frame)
unfolding frame_said
claims-read at bytes frame e =
    ap (λ (r : Result FrameView FrameFault). claims_in (Hand at (said_by r))) e ∙ said-claims at (frame_view frame)

pub claims-unread : (at : ℕ) (bytes : List ℕ) (fault : FrameFault) → frame_of bytes ≡ Err fault
    → claims_in (Hand at (frame_said bytes)) ≡ claims_shown None
unfolding frame_said
claims-unread at bytes fault e = ap (λ (r : Result FrameView FrameFault). claims_in (Hand at (said_by r))) e

-- whom claims convict is a matter of the group, the roster and the rule of signatures
pub same-judge : (group : List ℕ) (roster : List (ℕ × List ℕ)) (valid : List ℕ → List ℕ → List ℕ → Bool) (s : Setting) (cs : List Claim)
    (q : ℕ) → group ≡ s.group → roster ≡ s.roster → valid ≡ s.valid
    → is_convicted (record { group = group; roster = roster; genesis = record { number = 0; members = [] }; valid = valid; signs = [] })
    cs q ≡ is_convicted s cs q
same-judge group roster valid s cs q g r v = λ i. is_convicted
    (record { group = g i; roster = r i; genesis = record { number = 0; members = [] }; valid = v i; signs = [] }) cs q

-- who may be expelled, by the process's own place
pub expellable-is : (now : Process) (q me : ℕ) (v : View) (perceived : Bool) → now.me ≡ me → now.pool.view ≡ v
    → is_perceived now (now.pool.view.number, Remove q) ≡ perceived
    → (not (q == me) && is_member v q && is_member v me && not perceived) ≡ may_expel now q
expellable-is now q me v perceived number view asked =
    sym (λ i. not (q == number i) && is_member (view i) q && is_member (view i) (number i) && not (asked i))

-- ---- notes

pub called : (notes : List Note) (q : ℕ) → has (filter_map liar_of (map note notes)) q ≡ list_any (λ n. is_called n q) notes
called [] q = refl
called (n ∷ ns) q = go (liar_of (note n)) (called ns q)
  where
    go : (o : Option ℕ) → has (filter_map liar_of (map note ns)) q ≡ list_any (λ n. is_called n q) ns
        → has (cons_option o (filter_map liar_of (map note ns))) q
        ≡ (is_some_and o (λ liar. liar == q) || list_any (λ n. is_called n q) ns)
    go None e = e
    go (Some liar) e = ap (λ (b : Bool). (liar == q) || b) e

-- ---- the first one

module _ {A : Type 0} where
  find-filter : (p t : A → Bool) (xs : List A) → find p (filter t xs) ≡ find (λ x. t x && p x) xs
  find-filter p t [] = refl
  find-filter p t (x ∷ xs) = go (t x) (find-filter p t xs)
    where
      go : (b : Bool) → find p (filter t xs) ≡ find (λ x. t x && p x) xs
          → find p (cond b (x ∷ filter t xs) (filter t xs)) ≡ cond (b && p x) (Some x) (find (λ x. t x && p x) xs)
      go true e = ap (λ (o : Option A). cond (p x) (Some x) o) e
      go false e = e

  find-same : (p r : A → Bool) (xs : List A) → ((x : A) → Mem x xs → p x ≡ r x) → find p xs ≡ find r xs
  find-same p r [] same = refl
  find-same p r (x ∷ xs) same = λ i. cond (same x (inl refl) i) (Some x) (find-same p r xs (λ y m. same y (inr m)) i)

range-from : (n a q : ℕ) → Mem q (range_with_len a n) → a ≤ q
range-from zero a q m = absurd m
range-from (suc n) a q (inl is) = omega (arith, is)
range-from (suc n) a q (inr m) = let le = range-from n (a + 1) q m in omega (arith, le)

-- those below the first number do not pass
find-from : (p : ℕ → Bool) (k a n m b : ℕ) → m ≡ k + n → b ≡ a + k → ((q : ℕ) → q < b → p q ≡ false)
    → find p (range_with_len a m) ≡ find p (range_with_len b n)
find-from p zero a n m b long start nay =
    let same : m ≡ n = omega (arith, long) in
    let here : a ≡ b = omega (arith, start) in
    λ i. find p (range_with_len (here i) (same i))
find-from p (suc k) a n zero b long start nay = absurd (omega (arith, long))
find-from p (suc k) a n (suc m) b long start nay =
    ap (λ (t : Bool). cond t (Some a) (find p (range_with_len (a + 1) m))) (nay a (omega (arith, start)))
    ∙ find-from p k (a + 1) n m b (omega (arith, long)) (omega (arith, start)) nay

-- ---- number after number

module _ (p : ℕ → Bool) where
  pub named-so : (q n : ℕ) (b : Bool) → q ≡ n → b ≡ p q → b ≡ true → Some q ≡ (if p n then Some n else None)
  named-so q n b is named so =
      ap (λ (k : ℕ). Some k) is
      ∙ sym (ap (λ (t : Bool). if t then Some n else None) (ap p (sym is) ∙ sym named ∙ so))

  pub not-named : (q n : ℕ) (b : Bool) → q ≡ n → b ≡ p q → b ≡ false → None ≡ (if p n then Some n else None)
  not-named q n b is named so = sym (ap (λ (t : Bool). if t then Some n else None) (ap p (sym is) ∙ sym named ∙ so))

  module _ (n : ℕ) where
    abbrev next : Option ℕ
    next = find p (range_with_len (n + 1) (64 - (n + 1)))

    starts : n < 64 → find p (range_with_len n (64 - n)) ≡ cond (p n) (Some n) next
    starts lt =
        let one : 64 - n ≡ suc (64 - (n + 1)) = omega (arith, lt) in
        ap (λ (k : ℕ). find p (range_with_len n k)) one

    pub passed-over : n < 64 → (if p n then Some n else None) ≡ None → next ≡ find p (range_with_len n (64 - n))
    passed-over lt e = sym (starts lt ∙ go (p n) e)
      where
        go : (b : Bool) → (if b then Some n else None) ≡ None → cond b (Some n) next ≡ next
        go true e = absurd cc
        go false e = refl

    pub found-there : (q : ℕ) → n < 64 → Some q ≡ (if p n then Some n else None) → Some q ≡ find p (range_with_len n (64 - n))
    found-there q lt e = go (p n) e ∙ sym (starts lt)
      where
        go : (b : Bool) → Some q ≡ (if b then Some n else None) → Some q ≡ cond b (Some n) next
        go true e = e
        go false e = absurd cc

    pub none-left : 64 ≤ n → None ≡ find p (range_with_len n (64 - n))
    none-left le =
        let no' : 64 - n ≡ 0 = omega (arith, le) in
        sym (ap (λ (k : ℕ). find p (range_with_len n k)) no')

below-last : (last : Option ℕ) (q : ℕ) → q < first_of last → is_above last q ≡ false
below-last None q lt = absurd (omega (arith, lt))
below-last (Some last) q lt = le-ltb last q (omega (arith, lt))

above-last : (last : Option ℕ) (q : ℕ) → first_of last ≤ q → is_above last q ≡ true
above-last None q le = refl
above-last (Some last) q le = lt-ltb last q (omega (arith, le))

pub is-above : (last : Option ℕ) (q : ℕ) → first_of last ≤ q → IsAbove last q
is-above None q le = tt
is-above (Some last) q le = omega (arith, le)

-- ---- tests

none-of : (shown may above : Bool) → above ≡ false → (shown && (above && may)) ≡ false
none-of true may above e = ap (λ (b : Bool). b && may) e
none-of false may above e = refl

one-order : (called convicted may above : Bool) → above ≡ true
    → ((convicted || called) && (above && may)) ≡ (may && (called || convicted))
one-order called convicted may above e = ap (λ (b : Bool). (convicted || called) && (b && may)) e ∙ go called convicted may
  where
    go : (called convicted may : Bool) → ((convicted || called) && may) ≡ (may && (called || convicted))
    go true true true = refl
    go true true false = refl
    go true false true = refl
    go true false false = refl
    go false true true = refl
    go false true false = refl
    go false false true = refl
    go false false false = refl

-- ---- whom to suspect next

module _ (s : Setting) (now : Process) (frame : Option code.FrameView) (notes : List Note) (last : Option ℕ) (cs : List Claim)
    (claims : cs ≡ claims_shown frame) where
  -- the frame shows the process
  abbrev shown : ℕ → Bool
  shown q = is_convicted s cs q || has (filter_map liar_of (map note notes)) q

  -- it does, and the process is above the last one and may be expelled
  abbrev wanted : ℕ → Bool
  wanted q = shown q && (is_above last q && may_expel now q)

  wanted-is : (q : ℕ) → first_of last ≤ q → wanted q ≡ is_named s frame notes now q
  wanted-is q le =
      (λ i. (is_convicted s (claims i) q || called notes q i) && (is_above last q && may_expel now q))
      ∙ one-order (list_any (λ n. is_called n q) notes) (is_convicted s (claims_shown frame) q) (may_expel now q) (is_above last q)
      (above-last last q le)

  least-is : (n : ℕ) → first_of last + n ≡ 64
      → find (may_expel now) (filter (is_above last) (filter shown (range_with_len 0 64)))
      ≡ find (is_named s frame notes now) (range_with_len (first_of last) n)
  least-is n long =
      find-filter (may_expel now) (is_above last) (filter shown (range_with_len 0 64))
      ∙ find-filter (λ q. is_above last q && may_expel now q) shown (range_with_len 0 64)
      ∙ find-from wanted (first_of last) 0 n 64 (first_of last) (sym long) (omega arith)
      (λ q lt. none-of (shown q) (may_expel now q) (is_above last q) (below-last last q lt))
      ∙ find-same wanted (is_named s frame notes now) (range_with_len (first_of last) n)
      (λ q m. wanted-is q (range-from n (first_of last) q m))

pub suspect-is : (s : Setting) (now : Process) (frame : Option code.FrameView) (notes : List Note) (last : Option ℕ) (at : ℕ)
    (bytes : List ℕ) (first : ℕ) (found : Option ℕ) → claims_in (Hand at (frame_said bytes)) ≡ claims_shown frame → first ≡ first_of last
    → first ≤ 64 → found ≡ find (is_named s frame notes now) (range_with_len first (64 - first))
    → found ≡ next_suspect s (Hand at (frame_said bytes)) (map note notes) now last
suspect-is s now frame notes last at bytes first found claims is le found-is =
    found-is
    ∙ ap (λ (k : ℕ). find (is_named s frame notes now) (range_with_len k (64 - k))) is
    ∙ sym (least-is s now frame notes last (claims_in (Hand at (frame_said bytes))) claims (64 - first_of last)
    (let there : first_of last ≤ 64 = subst (λ (k : ℕ). k ≤ 64) is le in omega (arith, there)))

-- the same of an event that is a frame
pub suspect-in : (s : Setting) (now : Process) (frame : Option code.FrameView) (notes : List Note) (last : Option ℕ) (e : events.Event)
    (from : ℕ) (bytes : Bor (List ℕ)) (first : ℕ) (found : Option ℕ) → e ≡ Frame from bytes
    → ((at : ℕ) → claims_in (Hand at (frame_said bytes.now)) ≡ claims_shown frame) → first ≡ first_of last → first ≤ 64
    → found ≡ find (is_named s frame notes now) (range_with_len first (64 - first))
    → found ≡ next_suspect s (handed (event e)) (map note notes) now last
suspect-in s now frame notes last e from bytes first found is claims first-is le found-is =
    subst (λ (e : events.Event). found ≡ next_suspect s (handed (event e)) (map note notes) now last) (sym is)
    (suspect-is s now frame notes last from bytes.now first found (claims from) first-is le found-is)

-- it is above the last one
pub found-above : (last found : Option ℕ) (first : ℕ) → first ≡ first_of last → IfSome found (λ q. first ≤ q) → IfSome found (IsAbove last)
found-above last None first is le = tt
found-above last (Some q) first is le = is-above last q (subst (λ (k : ℕ). k ≤ q) is le)
