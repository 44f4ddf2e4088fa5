-- What each call of an append leaves.
use Rattle.std.proofs.Common.{◌≡◌, ℕ, ◌+◌, List, [], ◌∷◌, ◌++◌, length, take, drop, Option, Some, None, refl, sym, ap, subst, ◌∙◌}
use Rattle.std.specs.Option.{IfSome}
use Rattle.rp_base.specs.Disks.{Torn, Follows, Writes, Only}
use Rattle.journal_defs.specs.Entries.{Entry, IsEntry}
use Rattle.journal_defs.specs.Journals.{up_to_gate, open_gate, closed_gate}
use Rattle.journal_defs.specs.Crashes.{IsAtRest, IsOpening, IsImageOf, IsWithOrWithout, staged}
use Rattle.journal_defs.proofs.Crashing as laws
use Rattle.journal_disk.specs.Disks.{HasRest, HasStaged}

module _ (seen : Option (List ℕ)) (may_leave : List ℕ → Type 0) (head : List ℕ) (es : List Entry) (gate : ℕ)
    (r : HasRest seen may_leave head es gate) where
  -- before the first call
  pub rest_image : (c : List ℕ) → may_leave c → IsImageOf head c es
  rest_image c now = laws.at_rest_is_image head es c r.each (subst (IsAtRest head es) (sym (r.only c now)) r.rest)

  -- the first write, torn
  module _ (n : ℕ) (after : List ℕ → Type 0) (crash : Follows (Torn (gate + 1) n) may_leave after) where
    pub torn_rest : (c : List ℕ) → after c → IsAtRest head es c
    torn_rest c left =
        let from = crash c left in
        let old : IsAtRest head es from.0 = subst (IsAtRest head es) (sym (r.only from.0 from.1)) r.rest in
        laws.torn_behind_the_gate head es n from.0 c old (subst (λ (k : ℕ). Torn (k + 1) n from.0 c) r.place from.2)

    pub staging_image : (c : List ℕ) → after c → IsImageOf head c es
    staging_image c left = laws.at_rest_is_image head es c r.each (torn_rest c left)

  -- the first write, made and synced
  pub has_staged : (e : Entry) (bytes : List ℕ) (mid last : Option (List ℕ)) (after : List ℕ → Type 0) → IsEntry e → bytes ≡ staged e
      → Writes seen mid (gate + 1) bytes → last ≡ mid → IfSome mid (λ file. Only file after) → HasStaged last after head es e gate
  has_staged e bytes mid last after is spelled writes same only = by mid refl
      (subst (λ (o : Option (List ℕ)). Writes o mid (gate + 1) bytes) r.reported writes)
    where
      by : (m : Option (List ℕ)) → mid ≡ m → Writes (Some r.file) mid (gate + 1) bytes → HasStaged last after head es e gate
      by None m w = absurd (subst (λ (o : Option (List ℕ)). Writes (Some r.file) o (gate + 1) bytes) m w)
      by (Some new) m w =
          let k = length (up_to_gate head es) in
          let is_new = subst (λ (o : Option (List ℕ)). Writes (Some r.file) o (gate + 1) bytes) m w in
          let written : new ≡ take (k + 1) r.file ++ staged e ++ drop (k + 1 + length (staged e)) r.file =
          is_new ∙ ap (λ (b : List ℕ). take (gate + 1) r.file ++ b ++ drop (gate + 1 + length b) r.file) spelled ∙ ap
          (λ (g : ℕ). take (g + 1) r.file ++ staged e ++ drop (g + 1 + length (staged e)) r.file) r.place in
          let w2 = laws.written_behind_the_gate head es e r.file new r.rest written in
          record {
            file = new;
            reported = same ∙ m;
            more = w2.0;
            opening = record { gate = closed_gate; parts = w2.1 };
            place = r.place;
            only = subst (λ (o : Option (List ℕ)). IfSome o (λ file. Only file after)) m only;
            each = r.each;
            entry = is;
          }

module _ (seen : Option (List ℕ)) (may_leave : List ℕ → Type 0) (head : List ℕ) (es : List Entry) (e : Entry) (gate : ℕ)
    (s : HasStaged seen may_leave head es e gate) where
  pub staged_image : (c : List ℕ) → may_leave c → IsWithOrWithout head es e c
  staged_image c now = laws.opening_is_image head es e s.more c s.each s.entry
      (subst (IsOpening head es e s.more) (sym (s.only c now)) s.opening)

  -- the second write, torn
  module _ (after : List ℕ → Type 0) (crash : Follows (Torn gate 1) may_leave after) where
    pub opening_image : (c : List ℕ) → after c → IsWithOrWithout head es e c
    opening_image c left =
        let from = crash c left in
        let old : IsOpening head es e s.more from.0 = subst (IsOpening head es e s.more) (sym (s.only from.0 from.1)) s.opening in
        laws.opening_is_image head es e s.more c s.each s.entry
        (laws.torn_gate head es e s.more from.0 c old (subst (λ (k : ℕ). Torn k 1 from.0 c) s.place from.2))

  -- the second write, made and synced
  pub has_rest : (mid last : Option (List ℕ)) (after : List ℕ → Type 0) → Writes seen mid gate (open_gate ∷ []) → last ≡ mid
      → IfSome mid (λ file. Only file after) → HasRest last after head (es ++ e ∷ []) (gate + length (staged e))
  has_rest mid last after writes same only = by mid refl (subst (λ (o : Option (List ℕ)). Writes o mid gate (open_gate ∷ [])) s.reported writes)
    where
      by : (m : Option (List ℕ)) → mid ≡ m → Writes (Some s.file) mid gate (open_gate ∷ [])
          → HasRest last after head (es ++ e ∷ []) (gate + length (staged e))
      by None m w = absurd (subst (λ (o : Option (List ℕ)). Writes (Some s.file) o gate (open_gate ∷ [])) m w)
      by (Some new) m w =
          let k = length (up_to_gate head es) in
          let is_new = subst (λ (o : Option (List ℕ)). Writes (Some s.file) o gate (open_gate ∷ [])) m w in
          let written : new ≡ take k s.file ++ (open_gate ∷ [])
          ++ drop (k + 1) s.file = is_new ∙ ap (λ (g : ℕ). take g s.file ++ (open_gate ∷ []) ++ drop (g + 1) s.file) s.place in
          record {
            file = new;
            reported = same ∙ m;
            rest = laws.opened_to_rest head es e s.more s.file new s.opening written;
            place = ap (λ (g : ℕ). g + length (staged e)) s.place ∙ laws.next_place head es e;
            only = subst (λ (o : Option (List ℕ)). IfSome o (λ file. Only file after)) m only;
            each = laws.each_push es e s.each s.entry;
          }
