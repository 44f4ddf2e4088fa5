-- One claim more, of a signer that had none on the slot.
use Rattle.std.proofs.Common.{cond, ◌≡◌, ℕ, ◌≤◌, ◌<◌, Bool, true, false, List, [], ◌∷◌, length, slice_get, Option, Some, None, refl, sym, ap, ◌∙◌, subst, arith}
use Rattle.std.specs.Prelude.{if◌then◌else◌, ◌&&◌, ◌||◌, ◌==◌, not, filter, option_map, is_some, nat_le, ◌≢◌}
use Rattle.std.specs.Option.{option_or}
use Rattle.std.proofs.lemmas.Bool.{leb-true, leb-false, eqb-true}
use Rattle.std.proofs.lemmas.List.Folds as folds
use Rattle.byte_defs.specs.Choices.{is_some_and}
use Rattle.byte_defs.specs.Members.{has}
use Rattle.byte_defs.specs.Orders.{sorted}
use Rattle.message_defs.specs.Statements.{Statement, Slot, Claim, slot_of, same_slot, same_statement}
use Rattle.group_defs.specs.Views.{IsView, quorum}
use Rattle.group_defs.specs.Process.{Pool}
use Rattle.group_defs.specs.Certified.{claim_on, heard_on, says, backers, is_certified, certified_on, number_of_members}
use Rattle.rp_base.specs.Pids.{put_once}
use Rattle.claim_index.proofs.Below.{is_certified-stays, heard_on-new, other_certified, certified-stays, none-stays, new-certified, Mem, filter-mem, list_any-mem, Pairs, all-pairs, slice_get-front, slice_get-last, same_slot-is, is-same_slot, same_statement-is, is-same_statement, mem-sorted, length-sorted, and-first, and-second, map-some, some-and, some-same}
use Rattle.claim_index.specs.Kept.{by_number, with_heard}
use Rattle.claim_index.specs.declared.key.SlotKey.{SlotKey}
use Rattle.claim_index.specs.Keys.{slot_key, same_slot_key}
use Rattle.claim_index.proofs.Keyed.{same_slot_key-is, is-same_slot_key, one_slot}
use Rattle.claim_index.proofs.Sets.{has-put_once}
use Rattle.slot_quorums.specs.declared.cell.Cell.{Cell}
use Rattle.slot_quorums.specs.Cells.{said_at, joining, speaks_otherwise, others, IsSilent, IsCell, IsOf}
use Rattle.slot_quorums.proofs.Joining.{with-one}

module _ (h : Pool) (c : Claim) (fresh : claim_on h.heard c.signer (slot_of c.statement) ≡ None) where
  abbrev g : Pool
  g = with_heard h c

  abbrev its : ℕ → Slot → Bool
  its p s = (c.signer == p) && same_slot (slot_of c.statement) s

  abbrev said : Claim → Statement
  said d = d.statement

  on-grown : (p : ℕ) (s : Slot) → claim_on g.heard p s ≡ option_or (claim_on h.heard p s) (if its p s then Some c else None)
  on-grown p s = folds.find-append (λ (d : Claim). (d.signer == p) && same_slot (slot_of d.statement) s) h.heard (c ∷ [])

  as-before : (p : ℕ) (s : Slot) → its p s ≡ false → heard_on g p s ≡ heard_on h p s
  as-before p s e = ap (option_map said)
      (on-grown p s ∙ ap (λ b. option_or (claim_on h.heard p s) (if b then Some c else None)) e ∙ or-none (claim_on h.heard p s))
    where
      or-none : (o : Option Claim) → option_or o None ≡ o
      or-none None = refl
      or-none (Some d) = refl

  -- ---- who speaks

  pub speaks-grown : (m : ℕ) → is_some (heard_on g m (slot_of c.statement))
      ≡ ((c.signer == m) || is_some (heard_on h m (slot_of c.statement)))
  speaks-grown m = ap (λ o. is_some (option_map said o))
      (on-grown m (slot_of c.statement)) ∙ ap
      (λ b. is_some (option_map said
      (option_or (claim_on h.heard m (slot_of c.statement)) (if (c.signer == m) && b then Some c else None))))
      (is-same_slot (slot_of c.statement) (slot_of c.statement) refl) ∙ go (claim_on h.heard m (slot_of c.statement)) (c.signer == m)
    where
      go : (o : Option Claim) (b : Bool)
          → is_some (option_map said (option_or o (if b && true then Some c else None))) ≡ (b || is_some (option_map said o))
      go None true = refl
      go None false = refl
      go (Some d) true = refl
      go (Some d) false = refl

  -- on another slot all is as before
  pub other-slot : (s : Slot) → (slot_of c.statement ≡ s → ⊥) → (m : ℕ) → heard_on g m s ≡ heard_on h m s
  other-slot s other m = as-before m s (go (c.signer == m) (same_slot (slot_of c.statement) s) refl)
    where
      go : (a b : Bool) → same_slot (slot_of c.statement) s ≡ b → (a && b) ≡ false
      go a true e = absurd (other (same_slot-is (slot_of c.statement) s e))
      go true false e = refl
      go false false e = refl

  -- ---- who says this, and who says something else

  pub same-says : (m : ℕ) → says g c.statement m ≡ ((c.signer == m) || says h c.statement m)
  same-says m = go (c.signer == m) refl
    where
      go : (b : Bool) → (c.signer == m) ≡ b → says g c.statement m ≡ (b || says h c.statement m)
      go true e =
          subst (λ p. says g c.statement p ≡ true) (eqb-true c.signer m e)
          (ap (λ o. is_some_and o (same_statement c.statement)) (heard_on-new h c fresh) ∙ is-same_statement c.statement c.statement refl)
      go false e = ap (λ o. is_some_and o (same_statement c.statement))
          (as-before m (slot_of c.statement) (ap (λ b. b && same_slot (slot_of c.statement) (slot_of c.statement)) e))

  pub not-before : says h c.statement c.signer ≡ false
  not-before = ap (λ o. is_some_and (option_map said o) (same_statement c.statement)) fresh

  pub other-says : (st : Statement) → (st ≡ c.statement → ⊥) → (m : ℕ) → says g st m ≡ says h st m
  other-says st other m = go (its m (slot_of st)) refl
    where
      unlike : (b : Bool) → same_statement st c.statement ≡ b → same_statement st c.statement ≡ false
      unlike true e = absurd (other (same_statement-is st c.statement e))
      unlike false e = e

      go : (b : Bool) → its m (slot_of st) ≡ b → says g st m ≡ says h st m
      go false e = ap (λ o. is_some_and o (same_statement st)) (as-before m (slot_of st) e)
      go true e =
          let signer : c.signer ≡ m = eqb-true c.signer m (and-first (c.signer == m) (same_slot (slot_of c.statement) (slot_of st)) e) in
          let slot : slot_of c.statement
          ≡ slot_of st = same_slot-is (slot_of c.statement) (slot_of st)
          (and-second (c.signer == m) (same_slot (slot_of c.statement) (slot_of st)) e) in
          let none : claim_on h.heard m (slot_of st) ≡ None = (λ i. claim_on h.heard (sym signer i) (sym slot i)) ∙ fresh in
          let now : claim_on g.heard m (slot_of st)
          ≡ Some c = on-grown m (slot_of st) ∙ (λ i. option_or (none i) (if e i then Some c else None)) in
          ap (λ o. is_some_and (option_map said o) (same_statement st)) now ∙ unlike (same_statement st c.statement) refl ∙ sym
          (ap (λ o. is_some_and (option_map said o) (same_statement st)) none)

  pub other-backers : (st : Statement) → (st ≡ c.statement → ⊥) → backers g st ≡ backers h st
  other-backers st other = λ i. filter (λ m. other-says st other m i) h.view.members

  pub here : said_at g (length h.heard) ≡ Some c.statement
  here = ap (option_map said) (slice_get-last h.heard c (length h.heard) refl)

  pub there-stays : (place : ℕ) (st : Statement) → said_at h place ≡ Some st → said_at g place ≡ Some st
  there-stays place st e =
      let d = map-some said (slice_get h.heard place) st e in
      ap (option_map said) (slice_get-front h.heard (c ∷ []) place d.0 d.1) ∙ ap Some d.2

  module _ (some : 1 ≤ number_of_members h) where
    -- ---- what is certified

    certified-if : Slot → Statement → Type 0
    certified-if s st = certified_on g s ≡ (if is_certified g st then Some st else None)

    -- where its content is certified only with a quorum of it, and none was before without
    pub this-certified : (is_certified g c.statement ≡ false → certified_on h (slot_of c.statement) ≡ None)
        → certified_on g (slot_of c.statement) ≡ (if is_certified g c.statement then Some c.statement else None)
    this-certified before = go (is_certified g c.statement) refl
      where
        go : (b : Bool) → is_certified g c.statement ≡ b → certified_on g (slot_of c.statement) ≡ (if b then Some c.statement else None)
        go true e = new-certified h c fresh some e
        go false e = none-stays h c fresh some (slot_of c.statement) (before e) (λ at is. let both : true ≡ false = sym is ∙ e in cc)

    -- of another content
    pub other-certified : (s : Slot) (st : Statement) → (st ≡ c.statement → ⊥)
        → certified_on h s ≡ (if is_certified h st then Some st else None)
        → (is_certified h st ≡ false → slot_of c.statement ≡ s → is_certified g c.statement ≡ true → ⊥)
        → certified_on g s ≡ (if is_certified g st then Some st else None)
    other-certified s st other e not = go (is_certified h st) refl ∙ ap (λ (b : Bool). if b then Some st else None)
        (sym (other_certified h c fresh st other))
      where
        go : (b : Bool) → is_certified h st ≡ b → certified_on g s ≡ (if b then Some st else None)
        go true is = certified-stays h c fresh some s st (e ∙ ap (λ (b : Bool). if b then Some st else None) is)
        go false is = none-stays h c fresh some s (e ∙ ap (λ (b : Bool). if b then Some st else None) is) (not is)

    unless : (b : Bool) (st : Statement) (o : Option Statement) → o ≡ (if b then Some st else None) → b ≡ false → o ≡ None
    unless b st o e f = e ∙ ap (λ (b : Bool). if b then Some st else None) f

    was-not : is_certified g c.statement ≡ false → is_certified h c.statement ≡ false
    was-not e = go (is_certified h c.statement) refl
      where
        go : (b : Bool) → is_certified h c.statement ≡ b → b ≡ false
        go true is = let now : is_certified g c.statement ≡ true = is_certified-stays h (c ∷ []) c.statement is in let both : true
            ≡ false = sym now ∙ e in cc
        go false is = refl

    -- ---- the cells

    -- another slot's
    pub other-of : (s : Slot) → (slot_of c.statement ≡ s → ⊥) → (o : Option Cell) → IsOf h s o → IsOf g s o
    other-of s other None is = record {
      speakers = λ m. other-slot s other m ∙ is.speakers m;
      certified = none-stays h c fresh some s is.certified (λ at _. other at);
    }
    other-of s other (Some cell) is =
        let unlike : is.said ≡ c.statement → ⊥ = λ same. other (sym (ap slot_of same) ∙ is.slot) in
        record {
          said = is.said;
          there = there-stays cell.place is.said is.there;
          slot = is.slot;
          backers = is.backers ∙ ap (sorted by_number) (sym (other-backers is.said unlike));
          speakers = λ m. is.speakers m ∙ ap is_some (sym (other-slot s other m));
          certified = other-certified s is.said unlike is.certified (λ _ at _. other at);
        }

    module _ (distinct : Pairs (λ m n. m ≢ n) h.view.members) where
      abbrev s : Slot
      s = slot_of c.statement

      joined-speakers : (ps : List ℕ) → ((m : ℕ) → has ps m ≡ is_some (heard_on h m s)) → (m : ℕ)
          → has (put_once c.signer ps) m ≡ is_some (heard_on g m s)
      joined-speakers ps are m = has-put_once c.signer m ps ∙ ap (λ b. (c.signer == m) || b) (are m) ∙ sym (speaks-grown m)

      -- the claim says what the cell has
      pub joins : (cell : Cell) → said_at g cell.place ≡ Some c.statement → cell.backers ≡ sorted by_number (backers h c.statement)
          → ((m : ℕ) → has cell.speakers m ≡ is_some (heard_on h m s))
          → (is_certified h c.statement ≡ false → certified_on h s ≡ None)
          → IsCell g s (joining cell c.signer (has h.view.members c.signer))
      joins cell there are speakers before = record {
        said = c.statement;
        there = there;
        slot = refl;
        backers = ap (λ ps. if has h.view.members c.signer then put_once c.signer ps else ps) are ∙ sym
            (with-one c.signer (says h c.statement) (says g c.statement) not-before same-says h.view.members distinct);
        speakers = joined-speakers cell.speakers speakers;
        certified = this-certified (λ e. before (was-not e));
      }

      nobody : (ms : List ℕ) → ((m : ℕ) → heard_on h m s ≡ None) → filter (says h c.statement) ms ≡ []
      nobody [] none = refl
      nobody (m ∷ ms) none = ap (λ o. if is_some_and o (same_statement c.statement) then m ∷ filter (says h c.statement) ms
          else filter (says h c.statement) ms) (none m) ∙ nobody ms none

      -- nobody spoke on the slot
      pub first : (cell : Cell) → cell.place ≡ length h.heard → cell.backers ≡ [] → cell.speakers ≡ [] → IsSilent h s
          → IsCell g s (joining cell c.signer (has h.view.members c.signer))
      first cell place none nobody_yet is =
          joins cell (ap (said_at g) place ∙ here) (none ∙ sym (ap (sorted by_number) (nobody h.view.members is.speakers)))
          (λ m. ap (λ ps. has ps m) nobody_yet ∙ sym (ap is_some (is.speakers m))) (λ _. is.certified)

      pub again : (cell : Cell) → (is : IsCell h s cell) → is.said ≡ c.statement
          → IsCell g s (joining cell c.signer (has h.view.members c.signer))
      again cell is same =
          joins cell (there-stays cell.place is.said is.there ∙ ap Some same)
          (is.backers ∙ ap (λ st. sorted by_number (backers h st)) same) is.speakers
          (λ e. is.certified ∙ ap (λ (b : Bool). if b then Some is.said else None) (ap (is_certified h) same ∙ e))

      -- ---- another content

      module _ (cell : Cell) (is : IsCell h s cell) (unlike : is.said ≡ c.statement → ⊥) where
        abbrev next : Cell
        next = joining cell c.signer false

        next-speakers : (m : ℕ) → has next.speakers m ≡ is_some (heard_on g m s)
        next-speakers m = joined-speakers cell.speakers is.speakers m

        -- who says this is none of those who say the cell's content
        apart : (m : ℕ) → has cell.backers m ≡ true → says g c.statement m ≡ true → ⊥
        apart m e f =
            let there = list_any-mem (λ q. q == m) cell.backers e in
            let same : there.0 ≡ m = eqb-true there.0 m there.2 in
            let backs : says h is.said m ≡ true = subst (λ q. says h is.said q ≡ true) same
            (filter-mem (says h is.said) h.view.members there.0
            (mem-sorted by_number (backers h is.said) there.0 (subst (Mem there.0) is.backers there.1))).1 in
            let one = some-and (heard_on g m (slot_of is.said)) (same_statement is.said) (other-says is.said unlike m ∙ backs) in
            let two = some-and (heard_on g m s) (same_statement c.statement) f in
            let both : one.0 ≡ two.0 = some-same one.0 two.0 (sym one.1 ∙ ap (heard_on g m) is.slot ∙ two.1) in
            unlike (same_statement-is is.said one.0 one.2 ∙ both ∙ sym (same_statement-is c.statement two.0 two.2))

        test-is : (m : ℕ) → (speaks_otherwise next m && says g c.statement m) ≡ says g c.statement m
        test-is m = go (has next.speakers m) refl (has cell.backers m) refl (says g c.statement m) refl
          where
            go : (a : Bool) → has next.speakers m ≡ a → (b : Bool) → has cell.backers m ≡ b → (d : Bool) → says g c.statement m ≡ d
                → ((a && not b) && d) ≡ d
            go a e b f false i = off a b
              where
                off : (a b : Bool) → ((a && not b) && false) ≡ false
                off true true = refl
                off true false = refl
                off false b = refl
            go a e true f true i = absurd (apart m f i)
            go true e false f true i = refl
            go false e false f true i =
                let two = some-and (heard_on g m s) (same_statement c.statement) i in
                let speaks : false ≡ true = sym e ∙ next-speakers m ∙ ap is_some two.1 in
                cc

        pub others-are : others next g c.statement ≡ sorted by_number (backers g c.statement)
        others-are = λ i. sorted by_number (filter (λ m. test-is m i) h.view.members)

        counts : length (others next g c.statement) ≡ length (backers g c.statement)
        counts = ap length others-are ∙ length-sorted by_number (backers g c.statement)

        count : length cell.backers ≡ length (backers h is.said)
        count = ap length is.backers ∙ length-sorted by_number (backers h is.said)

        -- no fewer say it
        pub replaces : length cell.backers ≤ length (others next g c.statement)
            → IsCell g s (record { place = length h.heard; backers = others next g c.statement; speakers = next.speakers })
        replaces few = record {
          said = c.statement;
          there = here;
          slot = refl;
          backers = others-are;
          speakers = next-speakers;
          certified = this-certified (λ e. is.certified ∙ ap (λ (b : Bool). if b then Some is.said else None)
              (fewer (is_certified h is.said) refl e));
        }
          where
            fewer : (b : Bool) → is_certified h is.said ≡ b → is_certified g c.statement ≡ false → b ≡ false
            fewer true e f = absurd (
                let one = leb-true (quorum (number_of_members h)) (length (backers h is.said)) e in
                let two = leb-false (quorum (number_of_members h)) (length (backers g c.statement)) f in
                omega (arith, few, counts, count, one, two))
            fewer false e f = refl

        -- fewer say it
        pub stays : length (others next g c.statement) < length cell.backers → IsCell g s next
        stays less = record {
          said = is.said;
          there = there-stays cell.place is.said is.there;
          slot = is.slot;
          backers = is.backers ∙ ap (sorted by_number) (sym (other-backers is.said unlike));
          speakers = next-speakers;
          certified = other-certified s is.said unlike is.certified (λ e at now.
              let one = leb-false (quorum (number_of_members h)) (length (backers h is.said)) e in
              let two = leb-true (quorum (number_of_members h)) (length (backers g c.statement)) now in
              omega (arith, less, counts, count, one, two));
        }

-- ---- in the pool with the claim

module _ (h : Pool) (c : Claim) (fresh : claim_on h.heard c.signer (slot_of c.statement) ≡ None) (k : Pool) (grown : k ≡ with_heard h c)
    (view : IsView k.view) where
  some_member : 1 ≤ number_of_members h
  some_member = subst (λ (k : Pool). 1 ≤ number_of_members k) grown view.some

  all_apart : Pairs (λ m n. m ≢ n) h.view.members
  all_apart = subst (λ (k : Pool). Pairs (λ m n. m ≢ n) k.view.members) grown (all-pairs (λ m n. m ≢ n) k.view.members view.distinct)

  abbrev at : Slot
  at = slot_of c.statement

  back : (cell : Cell) → IsCell (with_heard h c) at cell → IsCell k at cell
  back cell is = subst (λ (k : Pool). IsCell k at cell) (sym grown) is

  joined-is : (cell result : Cell) → result ≡ joining cell c.signer (has k.view.members c.signer)
      → result ≡ joining cell c.signer (has h.view.members c.signer)
  joined-is cell result e = e ∙ ap (λ (k : Pool). joining cell c.signer (has k.view.members c.signer)) grown

  -- the first that speaks on the slot
  pub starts : (cell result : Cell) → cell ≡ record { place = length h.heard; backers = []; speakers = [] }
      → result ≡ joining cell c.signer (has k.view.members c.signer) → IsSilent h at → IsCell k at result
  starts cell result empty e is =
      back result (subst (IsCell (with_heard h c) at) (sym (joined-is cell result e))
      (first h c fresh some_member all_apart cell (ap (λ (d : Cell). d.place) empty) (ap (λ (d : Cell). d.backers) empty)
      (ap (λ (d : Cell). d.speakers) empty) is))

  what-is-said : (cell : Cell) → (is : IsCell h at cell) → said_at k cell.place ≡ Some is.said
  what-is-said cell is = ap (λ (k : Pool). said_at k cell.place) grown ∙ there-stays h c fresh cell.place is.said is.there

  -- it says what the cell has
  pub goes_on : (cell result : Cell) → IsCell h at cell → is_some_and (said_at k cell.place) (same_statement c.statement) ≡ true
      → result ≡ joining cell c.signer (has k.view.members c.signer) → IsCell k at result
  goes_on cell result is says e =
      let same : c.statement ≡ is.said = same_statement-is c.statement is.said
      (ap (λ o. is_some_and o (same_statement c.statement)) (sym (what-is-said cell is)) ∙ says) in
      back result (subst (IsCell (with_heard h c) at) (sym (joined-is cell result e))
      (again h c fresh some_member all_apart cell is (sym same)))

  -- it says something else
  pub turns : (cell next result : Cell) (place : ℕ) → IsCell h at cell
      → is_some_and (said_at k cell.place) (same_statement c.statement) ≡ false → next ≡ joining cell c.signer false
      → place ≡ length h.heard
      → result ≡ (if nat_le (length next.backers) (length (others next k c.statement))
      then record { place = place; backers = others next k c.statement; speakers = next.speakers } else next) → IsCell k at result
  turns cell next result place is says e placed r =
      back result (subst (IsCell (with_heard h c) at) (sym (r ∙ (λ i. choice (e i) (grown i) (placed i))))
      (go (nat_le (length cell.backers) (length (others joined (with_heard h c) c.statement))) refl))
    where
      choice : Cell → Pool → ℕ → Cell
      choice next k place = if nat_le (length next.backers) (length (others next k c.statement))
          then record { place = place; backers = others next k c.statement; speakers = next.speakers } else next

      unlike : is.said ≡ c.statement → ⊥
      unlike same =
          let both : true ≡ false = sym (is-same_statement c.statement is.said (sym same)) ∙ ap
          (λ o. is_some_and o (same_statement c.statement)) (sym (what-is-said cell is)) ∙ says in cc

      joined : Cell
      joined = joining cell c.signer false

      go : (b : Bool) → nat_le (length cell.backers) (length (others (joining cell c.signer false) (with_heard h c) c.statement)) ≡ b
          → IsCell (with_heard h c) at (if b
          then record {
            place = length h.heard;
            backers = others (joining cell c.signer false) (with_heard h c) c.statement;
            speakers = put_once c.signer cell.speakers;
          } else joining cell c.signer false)
      go true f = replaces h c fresh some_member all_apart cell is unlike
          (leb-true (length cell.backers) (length (others (joining cell c.signer false) (with_heard h c) c.statement)) f)
      go false f = stays h c fresh some_member all_apart cell is unlike
          (leb-false (length cell.backers) (length (others (joining cell c.signer false) (with_heard h c) c.statement)) f)

  -- of all slots
  pub all_cells : (look look' : SlotKey → Option Cell) → ((s : Slot) → IsOf h s (look (slot_key s))) → (cell : Cell) → IsCell k at cell
      → ((key : SlotKey) → look' key ≡ cond (same_slot_key (slot_key at) key) (Some cell) (look key)) → (s : Slot)
      → IsOf k s (look' (slot_key s))
  all_cells look look' are cell is looks s = go (same_slot_key (slot_key at) (slot_key s)) refl
    where
      go : (b : Bool) → same_slot_key (slot_key at) (slot_key s) ≡ b → IsOf k s (look' (slot_key s))
      go true e =
          let same : at ≡ s = one_slot at s (same_slot_key-is (slot_key at) (slot_key s) e) in
          subst (IsOf k s) (sym (looks (slot_key s) ∙ ap (λ b. cond b (Some cell) (look (slot_key s))) e))
          (subst (λ t. IsCell k t cell) same is)
      go false e =
          subst (IsOf k s) (sym (looks (slot_key s) ∙ ap (λ b. cond b (Some cell) (look (slot_key s))) e))
          (subst (λ (k : Pool). IsOf k s (look (slot_key s))) (sym grown)
          (other-of h c fresh some_member s
          (λ same. let both : true ≡ false = sym (is-same_slot_key (slot_key at) (slot_key s) (ap slot_key same)) ∙ e in cc)
          (look (slot_key s)) (are s)))
