-- What the cells answer.
use Rattle.std.proofs.Common.{◌≡◌, ℕ, ◌-◌, ◌/◌, ◌≤◌, ◌<◌, Bool, true, false, List, [], ◌∷◌, map, length, Option, Some, None, refl, sym, ap, ◌∙◌, subst, arith}
use Rattle.std.specs.Prelude.{if◌then◌else◌, ◌&&◌, nat_le, filter}
use Rattle.std.specs.Option.{option_map}
use Rattle.std.specs.Map.{lookup}
use Rattle.std.proofs.lemmas.Bool.{le-leb, lt-leb, leb-true}
use Rattle.byte_defs.specs.Choices.{is_some_and}
use Rattle.message_defs.specs.Statements.{Statement, Slot, Claim, slot_of, same_statement}
use Rattle.group_defs.specs.Views.{quorum}
use Rattle.group_defs.specs.Process.{Pool}
use Rattle.group_defs.specs.Certified.{says, backers, is_certified, certified_on, number_of_members}
use Rattle.claim_index.proofs.Below.{one_certified, is-certified, heard-says, Mem, some-mem, filter-mem, mem-map, same_statement-is, is-same_statement, length-sorted, none-some}
use Rattle.claim_index.specs.declared.key.SlotKey.{SlotKey}
use Rattle.claim_index.specs.Keys.{slot_key, same_slot_key}
use Rattle.claim_index.specs.Kept.{by_number}
use Rattle.slot_quorums.specs.declared.cell.Cell.{Cell}
use Rattle.slot_quorums.specs.Cells.{said_at, IsSilent, IsCell, IsOf, AreCells, IsCertifiedBy}

module _ (h : Pool) (st said : Statement) (some : 1 ≤ number_of_members h) (at : slot_of said ≡ slot_of st) where
  positive : (n k : ℕ) → 1 ≤ n → n - (n - 1) / 3 ≤ k → 0 < k
  positive n k pos le = omega (arith, pos, le)

  -- where nothing is certified on its slot, a statement is not
  none-certified : certified_on h (slot_of st) ≡ None → is_certified h st ≡ false
  none-certified none = go (is_certified h st) refl
    where
      go : (b : Bool) → is_certified h st ≡ b → b ≡ false
      go true e =
          let enough = leb-true (quorum (number_of_members h)) (length (backers h st)) e in
          let backer = some-mem (backers h st) (positive (number_of_members h) (length (backers h st)) some enough) in
          let heard = heard-says h st backer.0 (filter-mem (says h st) h.view.members backer.0 backer.1).1 in
          let there : Mem st (map (λ (c : Claim). c.statement) h.heard) =
          subst (λ (x : Statement). Mem x (map (λ (c : Claim). c.statement) h.heard)) heard.3
          (mem-map (λ (c : Claim). c.statement) h.heard heard.0 heard.1) in
          absurd (none-some none (is-certified h some (slot_of st) st there refl e))
      go false e = refl

  -- two that differ are not both certified
  other-certified : same_statement st said ≡ false → is_certified h said ≡ true → (b : Bool) → is_certified h st ≡ b → b ≡ false
  other-certified e f true g =
      let same : st ≡ said = one_certified h st said some (sym at) g f in
      let both : true ≡ false = sym (is-same_statement st said same) ∙ e in cc
  other-certified e f false g = refl

  -- it is certified where this one is, the only one on the slot that may be, and is the same
  only-certified : certified_on h (slot_of st) ≡ (if is_certified h said then Some said else None)
      → (is_certified h said && same_statement st said) ≡ is_certified h st
  only-certified is = go (same_statement st said) refl (is_certified h said) refl
    where
      go : (s : Bool) → same_statement st said ≡ s → (b : Bool) → is_certified h said ≡ b → (b && s) ≡ is_certified h st
      go true e true f = sym f ∙ ap (is_certified h) (sym (same_statement-is st said e))
      go true e false f = sym f ∙ ap (is_certified h) (sym (same_statement-is st said e))
      go false e true f = sym (other-certified e f (is_certified h st) refl)
      go false e false f = sym (none-certified (is ∙ ap (λ (b : Bool). if b then Some said else None) f))

-- what is certified, by whether a quorum says the cell's content
shown : (h : Pool) (s : Slot) (cell : Cell) → (of : IsCell h s cell) → (b : Bool) → is_certified h of.said ≡ b
    → certified_on h s ≡ (if b then Some of.said else None)
shown h s cell of b e = of.certified ∙ ap (λ (b : Bool). if b then Some of.said else None) e

module _ (h : Pool) (es : List (SlotKey × Cell)) (are : AreCells h es) where
  found : (s : Slot) (key : SlotKey) (cell : Cell) → key ≡ slot_key s → Some cell ≡ lookup (same_slot_key key) es → IsCell h s cell
  found s key cell is e = subst (IsOf h s) (sym (e ∙ ap (λ k. lookup (same_slot_key k) es) is)) (are s)

  abbrev counts : (s : Slot) (cell : Cell) → (is : IsCell h s cell) → length cell.backers ≡ length (backers h is.said)
  counts s cell is = ap length is.backers ∙ length-sorted by_number (backers h is.said)

  -- its content is certified
  pub enough : (o : Option Slot) (key : SlotKey) (cell : Cell) → Some key ≡ option_map slot_key o
      → Some cell ≡ lookup (same_slot_key key) es → quorum (number_of_members h) ≤ length cell.backers → IsCertifiedBy h o (Some cell)
  enough None key cell is e le = absurd cc
  enough (Some s) key cell is e le =
      let same : key ≡ slot_key s = cc in
      let of : IsCell h s cell = found s key cell same e in
      let many : is_certified h of.said
      ≡ true = (let n = counts s cell of in le-leb (quorum (number_of_members h)) (length (backers h of.said)) (omega (arith, le, n))) in
      (of.said, shown h s cell of true many, of.there, of.backers)

  -- it is not, and so nothing is
  pub too_few : (o : Option Slot) (key : SlotKey) (cell : Cell) → Some key ≡ option_map slot_key o
      → Some cell ≡ lookup (same_slot_key key) es → length cell.backers < quorum (number_of_members h) → IsCertifiedBy h o None
  too_few None key cell is e lt = absurd cc
  too_few (Some s) key cell is e lt =
      let same : key ≡ slot_key s = cc in
      let of : IsCell h s cell = found s key cell same e in
      let few : is_certified h of.said
      ≡ false = (let n = counts s cell of in lt-leb (quorum (number_of_members h)) (length (backers h of.said)) (omega (arith, lt, n))) in
      shown h s cell of false few

  -- who says what the cell has
  pub count-is : (st : Statement) (cell : Cell) → Some cell ≡ lookup (same_slot_key (slot_key (slot_of st))) es
      → is_some_and (said_at h cell.place) (same_statement st) ≡ true → length cell.backers ≡ length (backers h st)
  count-is st cell e says =
      let of : IsCell h (slot_of st) cell = found (slot_of st) (slot_key (slot_of st)) cell refl e in
      let same : st ≡ of.said = same_statement-is st of.said (ap (λ o. is_some_and o (same_statement st)) (sym of.there) ∙ says) in
      counts (slot_of st) cell of ∙ ap (λ st. length (backers h st)) (sym same)

  -- whether this is certified
  pub certifies : (st : Statement) (cell : Cell) → 1 ≤ number_of_members h → Some cell ≡ lookup (same_slot_key (slot_key (slot_of st))) es
      → (nat_le (quorum (number_of_members h)) (length cell.backers) && is_some_and (said_at h cell.place) (same_statement st))
      ≡ is_certified h st
  certifies st cell some e =
      let of : IsCell h (slot_of st) cell = found (slot_of st) (slot_key (slot_of st)) cell refl e in
      (λ i. nat_le (quorum (number_of_members h)) (counts (slot_of st) cell of i) && is_some_and (of.there i) (same_statement st))
      ∙ only-certified h st of.said some of.slot of.certified

  -- and on a silent slot
  pub count-none : (st : Statement) → None ≡ lookup (same_slot_key (slot_key (slot_of st))) es → 0 ≡ length (backers h st)
  count-none st e = ap length (sym (nobody h.view.members))
    where
      silent : IsSilent h (slot_of st)
      silent = subst (IsOf h (slot_of st)) (sym e) (are (slot_of st))

      nobody : (ms : List ℕ) → filter (says h st) ms ≡ []
      nobody [] = refl
      nobody (m ∷ ms) = ap (λ o. if is_some_and o (same_statement st) then m ∷ filter (says h st) ms else filter (says h st) ms)
          (silent.speakers m) ∙ nobody ms

  pub certifies-none : (st : Statement) → 1 ≤ number_of_members h → None ≡ lookup (same_slot_key (slot_key (slot_of st))) es
      → false ≡ is_certified h st
  certifies-none st some e =
      let none = count-none st e in
      sym (lt-leb (quorum (number_of_members h)) (length (backers h st)) (few (number_of_members h) (length (backers h st)) some none))
    where
      few : (n k : ℕ) → 1 ≤ n → 0 ≡ k → k < n - (n - 1) / 3
      few n k pos none = omega (arith, pos, none)
