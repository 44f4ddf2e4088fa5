-- From the kit to the last journal.
use Rattle.std.proofs.Common.{◌≡◌, inl, inr, ℕ, ◌+◌, ◌-◌, List, [], ◌∷◌, ◌++◌, length, Option, None, Some, Result, Ok, Err, refl, sym, ap, subst, ◌∙◌, append_assoc, append-nil}
use Rattle.std.specs.Prelude.{IfSome}
use Rattle.std.proofs.KnownBytes.{Consumes-nil}
use Rattle.byte_defs.specs.Fields.{◌>>=◌}
use Rattle.kit_defs.specs.Kits.{Kit}
use Rattle.kit_defs.specs.KitReading.{KitFault}
use Rattle.input_defs.specs.Fronts.{Front, front_of}
use Rattle.front_laws.proofs.Fronts.{fronts_go_on}
use Rattle.line_input.specs.Places.{Ends, Leads, Settles}
use Rattle.line_input.proofs.Places.{ends_more, leads_more, settles_more}
use Rattle.kit_reading.specs.Fronts.{Begins, HasFault}
use Rattle.audit_defs.specs.Inputs.{Input, input_of, journals_at, most_bytes, most_journals}
use Rattle.audit_input.specs.Places.{Journals, Place, and_then, behind_journal, first_place, journals_from, place}

-- ---- journals, one after the other

none_before : (js : Journals) → js ≡ and_then [] js
none_before (Ok more) = refl
none_before (Err fault) = refl

both : (a b : List (List ℕ)) (js : Journals) → and_then a (and_then b js) ≡ and_then (a ++ b) js
both a b (Ok more) = ap (λ (all : List (List ℕ)). let r : Journals = Ok all in r) (sym (append_assoc a b more))
both a b (Err fault) = refl

-- these journals were read behind a place, and reading goes on at another one
abbrev pub Goes : Option (List ℕ) → Option (List ℕ) → Place → List (List ℕ) → Place → Type 0
Goes before now p journals q = Leads (journals_from p) before now (λ rest. and_then journals (journals_from q rest))

pub none_yet : (before : Option (List ℕ)) (p : Place) → Goes before before p [] p
none_yet before p = record { read = []; taken = Consumes-nil before; is = λ rest. none_before (journals_from p rest) }

module _ (before mid now : Option (List ℕ)) (p : Place) (journals : List (List ℕ)) (q : Place) (goes : Goes before mid p journals q) where
  pub one_more : (journal : List ℕ) (r : Place) → Leads (journals_from q) mid now (behind_journal journal r)
      → Goes before now p (journals ++ journal ∷ []) r
  one_more journal r next =
      let all = leads_more (journals_from p) (journals_from q) (and_then journals) before mid now goes (behind_journal journal r) next in
      record { read = all.read; taken = all.taken; is = λ rest. all.is rest ∙ both journals (journal ∷ []) (journals_from r rest) }

  pub no_more : Ends (journals_from q) mid now (Ok []) → Ends (journals_from p) before now (Ok journals)
  no_more ends =
      let all = ends_more (journals_from p) (journals_from q) (and_then journals) before mid now goes (Ok []) ends in
      record {
        read = all.read;
        taken = all.taken;
        ended = all.ended;
        is = all.is ∙ ap (λ (t : List (List ℕ)). let r : Journals = Ok t in r) (append-nil journals);
      }

  pub one_fails : (o : Option KitFault) → IfSome o (λ f. Settles (journals_from q) mid now (Err f))
      → IfSome o (λ f. Settles (journals_from p) before now (Err f))
  one_fails None h = tt
  one_fails (Some f) h = settles_more (journals_from p) (journals_from q) (and_then journals) before mid now goes (Err f) h

-- before the first journal
pub first_goes : (before : Option (List ℕ)) (first : ℕ) (ahead : List ℕ) (journals : List (List ℕ)) → journals ≡ []
    → Goes before before (first_place first ahead) journals (place 64 first 2147483648 ahead)
unfolding most_bytes
first_goes before first ahead journals none =
    subst (λ (js : List (List ℕ)). Goes before before (first_place first ahead) js (first_place first ahead)) (sym none)
    (none_yet before (first_place first ahead))

-- behind one journal more
pub next_goes : (before mid now : Option (List ℕ)) (p : Place) (journals : List (List ℕ)) (left n room : ℕ) (ahead next_ahead : List ℕ)
    → Goes before mid p journals (place left n room ahead) → (journal bytes : List ℕ) (more : List (List ℕ))
    → Leads (journals_from (place left n room ahead)) mid now (behind_journal journal (place (left - 1) (n + 1) (room - length journal) next_ahead))
    → bytes ≡ journal → more ≡ journals ++ journal ∷ [] → Goes before now p more (place (left - 1) (n + 1) (room - length bytes) next_ahead)
next_goes before mid now p journals left n room ahead next_ahead goes journal bytes more next is pushed =
    subst (λ (js : List (List ℕ)). Goes before now p js (place (left - 1) (n + 1) (room - length bytes) next_ahead)) (sym pushed)
    (subst (λ (b : List ℕ). Goes before now p (journals ++ journal ∷ []) (place (left - 1) (n + 1) (room - length b) next_ahead)) (sym is)
    (one_more before mid now p journals (place left n room ahead) goes journal (place (left - 1) (n + 1) (room - length journal) next_ahead) next))

-- ---- behind the kit

-- the input of this kit and these journals
abbrev with_kit : Kit → Journals → Result Input KitFault
with_kit kit js = js >>= λ journals. Ok (record { kit = kit; journals = journals })

-- what is read behind the kit
abbrev behind_front : Result Front KitFault → Result Input KitFault
behind_front r = r >>= λ front. with_kit front.kit (journals_at most_journals front.line most_bytes front.rest)

begun : (before now : Option (List ℕ)) (kit : Kit) (go : ℕ) (left : List ℕ) → Begins before now [] kit go left
    → Leads input_of before now (λ rest. with_kit kit (journals_from (first_place (go + 1) left) rest))
begun before now kit go left b = record {
  read = b.read.0;
  taken = b.read.1;
  is = λ rest.
      let more = fronts_go_on b.bytes rest (record { kit = kit; line = go + 1; rest = left }) b.is in
      ap (λ (t : List ℕ). input_of (t ++ rest)) (sym b.read.2)
      ∙ ap behind_front more;
}

-- the input begins with no kit
no_kit : (before now : Option (List ℕ)) (fault : KitFault) → HasFault before now [] fault → Settles input_of before now (Err fault)
no_kit before now fault h = record {
  read = h.read.0;
  taken = h.read.1;
  is = elim h.is [
    | inl each ↦ inl (λ rest. ap (λ (t : List ℕ). input_of (t ++ rest)) (sym h.read.2) ∙ refused (h.bytes ++ rest) (each rest))
    | inr over ↦ inr (over.0, ap input_of (sym h.read.2) ∙ refused h.bytes over.1)
  ];
}
  where
    refused : (bytes : List ℕ) → front_of bytes ≡ Err fault → input_of bytes ≡ Err fault
    refused bytes e = ap behind_front e

pub front_fails : (before now : Option (List ℕ)) (ahead : List ℕ) (o : Option KitFault) → ahead ≡ []
    → IfSome o (HasFault before now ahead) → IfSome o (λ f. Settles input_of before now (Err f))
front_fails before now ahead None is h = tt
front_fails before now ahead (Some f) is h = no_kit before now f (subst (λ (t : List ℕ). HasFault before now t f) is h)

module _ (before mid now : Option (List ℕ)) (kit : Kit) (go n : ℕ) (ahead left : List ℕ) (nothing_ahead : ahead ≡ [])
    (begins : Begins before mid ahead kit go left) (next : n ≡ go + 1) where
  front : Leads input_of before mid (λ rest. with_kit kit (journals_from (first_place n left) rest))
  front = subst (λ (m : ℕ). Leads input_of before mid (λ rest. with_kit kit (journals_from (first_place m left) rest))) (sym next)
      (begun before mid kit go left (subst (λ (t : List ℕ). Begins before mid t kit go left) nothing_ahead begins))

  pub all_read : (journals : List (List ℕ)) → Ends (journals_from (first_place n left)) mid now (Ok journals)
      → Ends input_of before now (Ok (record { kit = kit; journals = journals }))
  all_read journals ends = ends_more input_of (journals_from (first_place n left)) (with_kit kit) before mid now front (Ok journals) ends

  pub journals_fail : (o : Option KitFault) → IfSome o (λ f. Settles (journals_from (first_place n left)) mid now (Err f))
      → IfSome o (λ f. Settles input_of before now (Err f))
  journals_fail None h = tt
  journals_fail (Some f) h = settles_more input_of (journals_from (first_place n left)) (with_kit kit) before mid now front (Err f) h
