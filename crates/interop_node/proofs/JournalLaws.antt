-- What is told of bytes as a journal, and that it is one thing.
use Rattle.std.proofs.Common.{◌≡◌, ◌≢◌, ℕ, ◌≤◌, List, [], ◌∷◌, ◌++◌, length, take, drop, Ok, Err, inl, inr, refl, sym, ap, subst, ◌∙◌, append_assoc, arith, length-append}
use Rattle.std.specs.Prelude.{codes}
use Rattle.std.specs.Fmt.{decimal}
use Rattle.std.specs.List.{flat_map, AllByRecursion}
use Rattle.std.proofs.lemmas.List.{drop_at}
use Rattle.byte_defs.proofs.Fields.{ok_is}
use Rattle.journal_defs.specs.declared.Version.{Version}
use Rattle.journal_defs.specs.declared.Version.TheVariants.{One, Two}
use Rattle.journal_defs.specs.Entries.{Entry, IsEntry, Reading}
use Rattle.journal_defs.specs.Journals.{BreaksAt, ReadsAs, behind_gate, batch_limit, magic, open_gate, record_at, record_bytes, up_to_gate}
use Rattle.journal_defs.proofs.Recording.{one_reading, record_is_read}
use Rattle.interop_node.specs.Journals.{BeginsAs, OneSaid, SaysOfJournal, SaysBroken, SaysEntries, SaysNothing, entry_words, header_of}

-- ---- records at one place

abbrev records : List Entry → List ℕ
records es = flat_map record_bytes es

abbrev done : Entry × List ℕ → Reading (Entry × List ℕ)
done x = Ok x

-- two records that stand at one place are of one entry, and the bytes behind them are the same
same_record : (e f : Entry) (left right : List ℕ) → open_gate ∷ (behind_gate e ++ left) ≡ open_gate ∷ (behind_gate f ++ right) → IsEntry e
    → IsEntry f → 1 ≤ length left → 1 ≤ length right → left ≡ right
same_record e f left right is e_is f_is some_left some_right =
    let tail : behind_gate e ++ left ≡ behind_gate f ++ right = cc in
    let both : done (e, left) ≡ done (f, right) = sym
    (record_is_read e left e_is some_left) ∙ ap record_at tail ∙ record_is_read f right f_is some_right in
    ap (λ (p : Entry × List ℕ). p.1) (ok_is (e, left) (f, right) both)

-- no entry and next gate stand behind this open gate
abbrev HasNoEntry : List ℕ → Type 0
HasNoEntry behind = (e : Entry) (gate : ℕ) (more : List ℕ) → IsEntry e → behind ≡ behind_gate e ++ gate ∷ more → ⊥

-- of bytes that are not none the first stands before the others
begun : (bytes : List ℕ) → 1 ≤ length bytes → (b : ℕ) × (more : List ℕ) × (bytes ≡ b ∷ more)
begun [] some = absurd (omega (arith, some))
begun (b ∷ more) some = (b, more, refl)

some_behind : (es : List Entry) (g : ℕ) (more : List ℕ) → 1 ≤ length (records es ++ g ∷ more)
some_behind es g more = omega (arith, length-append (records es) (g ∷ more))

next_record : (e : Entry) (es : List Entry) (more : List ℕ) → records (e ∷ es) ++ more ≡ open_gate ∷ (behind_gate e ++ (records es ++ more))
next_record e es more = ap (λ (l : List ℕ). open_gate ∷ l) (append_assoc (behind_gate e) (records es) more)

-- where an open gate has no entry behind it, no record stands
no_record : (e : Entry) (es : List Entry) (g : ℕ) (more behind : List ℕ) → HasNoEntry behind → IsEntry e
    → records (e ∷ es) ++ g ∷ more ≡ open_gate ∷ behind → ⊥
no_record e es g more behind none is same =
    let rest = records es ++ g ∷ more in
    let b = begun rest (some_behind es g more) in
    let whole : open_gate ∷ (behind_gate e ++ rest) ≡ open_gate ∷ behind = sym (next_record e es (g ∷ more)) ∙ same in
    let tail : behind_gate e ++ rest ≡ behind = cc in
    none e b.0 b.1 is (sym tail ∙ ap (λ (l : List ℕ). behind_gate e ++ l) b.2)

-- records up to a closed gate, and up to one that is open and has no entry behind it: not both
not_both : (es fs : List Entry) (g : ℕ) (u behind : List ℕ) → records es ++ g ∷ u ≡ records fs ++ open_gate ∷ behind → g ≢ open_gate
    → HasNoEntry behind → AllByRecursion IsEntry es → AllByRecursion IsEntry fs → ⊥
not_both [] [] g u behind e shut none es_are fs_are = shut cc
not_both [] (f ∷ fs) g u behind e shut none es_are fs_are = shut cc
not_both (x ∷ es) [] g u behind e shut none es_are fs_are = no_record x es g u behind none es_are.0 e
not_both (x ∷ es) (f ∷ fs) g u behind e shut none es_are fs_are =
    let whole = sym (next_record x es (g ∷ u)) ∙ e ∙ next_record f fs (open_gate ∷ behind) in
    let rest = same_record x f (records es ++ g ∷ u) (records fs ++ open_gate ∷ behind) whole es_are.0 fs_are.0 (some_behind es g u)
    (some_behind fs open_gate behind) in
    not_both es fs g u behind rest shut none es_are.1 fs_are.1

-- before two such gates stand as many bytes
one_break : (es fs : List Entry) (behind other : List ℕ) → records es ++ open_gate ∷ behind ≡ records fs ++ open_gate ∷ other
    → HasNoEntry behind → HasNoEntry other → AllByRecursion IsEntry es → AllByRecursion IsEntry fs → length behind ≡ length other
one_break [] [] behind other e none neither es_are fs_are = let same : behind ≡ other = cc in ap length same
one_break [] (f ∷ fs) behind other e none neither es_are fs_are = absurd (no_record f fs open_gate other behind none fs_are.0 (sym e))
one_break (x ∷ es) [] behind other e none neither es_are fs_are = absurd (no_record x es open_gate behind other neither es_are.0 e)
one_break (x ∷ es) (f ∷ fs) behind other e none neither es_are fs_are =
    let whole = sym (next_record x es (open_gate ∷ behind)) ∙ e ∙ next_record f fs (open_gate ∷ other) in
    let rest = same_record x f (records es ++ open_gate ∷ behind)
    (records fs ++ open_gate ∷ other) whole es_are.0 fs_are.0 (some_behind es open_gate behind) (some_behind fs open_gate other) in
    one_break es fs behind other rest none neither es_are.1 fs_are.1

-- ---- one thing is told

module _ (head bytes : List ℕ) where
  cut : (es fs : List Entry) (left right : List ℕ) → bytes ≡ up_to_gate head es ++ left → bytes ≡ up_to_gate head fs ++ right
      → records es ++ left ≡ records fs ++ right
  cut es fs left right a b =
      sym (drop_at head (records es ++ left) (length head) refl)
      ∙ ap (λ (l : List ℕ). drop (length head) l)
      (sym (append_assoc head (records es) left) ∙ sym a ∙ b ∙ append_assoc head (records fs) right)
      ∙ drop_at head (records fs ++ right) (length head) refl

  reads_or_breaks : (es : List Entry) (place : ℕ) → ReadsAs head bytes es → BreaksAt head bytes place → ⊥
  reads_or_breaks es place r b = not_both es b.entries r.gate r.unread b.behind
      (cut es b.entries (r.gate ∷ r.unread) (open_gate ∷ b.behind) r.parts b.parts) r.closed b.no_entry r.each b.each

  one_place : (p q : ℕ) → BreaksAt head bytes p → BreaksAt head bytes q → p ≡ q
  one_place p q a b =
      let same = one_break a.entries b.entries a.behind b.behind
      (cut a.entries b.entries (open_gate ∷ a.behind) (open_gate ∷ b.behind) a.parts b.parts) a.no_entry b.no_entry a.each b.each in
      omega (
        arith,
        same,
        a.where_it_is,
        b.where_it_is,
        ap length a.parts,
        ap length b.parts,
        length-append (up_to_gate head a.entries) (open_gate ∷ a.behind),
        length-append (up_to_gate head b.entries) (open_gate ∷ b.behind),
      )

-- the letter in which the two magics differ
abbrev fourth : List ℕ → ℕ
fourth (a ∷ b ∷ c ∷ d ∷ letters) = d
fourth _ = 0

one_version : (bytes : List ℕ) (v w : Version) → BeginsAs v bytes → BeginsAs w bytes → v ≡ w
one_version bytes v w a b = of v w (sym a.0 ∙ b.0)
  where
    of : (v w : Version) → magic v ≡ magic w → v ≡ w
    of One One is = refl
    of Two Two is = refl
    of One Two is = let letters : 49 ≡ 50 = ap fourth is in absurd (omega (arith, letters))
    of Two One is = let letters : 50 ≡ 49 = ap fourth is in absurd (omega (arith, letters))

pub one_said : OneSaid
one_said bytes x y (inl a) (inl b) =
    let version = one_version bytes a.version b.version a.begins b.begins in
    let entries = one_reading (header_of bytes) bytes a.entries b.entries a.reads b.reads in
    a.reported_is ∙ ap (λ (v : Version). (codes "journal " ++ decimal (batch_limit v)) ++ flat_map entry_words a.entries) version
    ∙ ap (λ (es : List Entry). (codes "journal " ++ decimal (batch_limit b.version)) ++ flat_map entry_words es) entries ∙ sym b.reported_is
one_said bytes x y (inl a) (inr (inl b)) = absurd (reads_or_breaks (header_of bytes) bytes a.entries b.place a.reads b.breaks)
one_said bytes x y (inl a) (inr (inr b)) = absurd (b.no_journal a.version a.begins)
one_said bytes x y (inr (inl a)) (inl b) = absurd (reads_or_breaks (header_of bytes) bytes b.entries a.place b.reads a.breaks)
one_said bytes x y (inr (inl a)) (inr (inl b)) = a.reported_is ∙ ap (λ (p : ℕ). codes "entry " ++ decimal p)
    (one_place (header_of bytes) bytes a.place b.place a.breaks b.breaks) ∙ sym b.reported_is
one_said bytes x y (inr (inl a)) (inr (inr b)) = absurd (b.no_journal a.version a.begins)
one_said bytes x y (inr (inr a)) (inl b) = absurd (a.no_journal b.version b.begins)
one_said bytes x y (inr (inr a)) (inr (inl b)) = absurd (a.no_journal b.version b.begins)
one_said bytes x y (inr (inr a)) (inr (inr b)) = a.reported_is ∙ sym b.reported_is
