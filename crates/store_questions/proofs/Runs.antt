-- From the kit to the text.
use Rattle.std.proofs.Common.{◌≡◌, inl, inr, ℕ, ◌+◌, List, [], ◌++◌, Option, Some, None, Result, Ok, Err, refl, sym, ap, subst, ◌∙◌}
use Rattle.std.specs.Prelude.{IfSome}
use Rattle.byte_defs.specs.Fields.{◌>>=◌}
use Rattle.text_defs.specs.Words.{parts_of}
use Rattle.kit_defs.specs.Kits.{Kit}
use Rattle.kit_defs.specs.KitReading.{KitFault}
use Rattle.input_defs.specs.Fronts.{Front, front_of}
use Rattle.kit_reading.specs.Fronts.{Begins, HasFault}
use Rattle.front_laws.proofs.Fronts.{fronts_go_on}
use Rattle.line_input.specs.Places.{Ends, Leads, Settles}
use Rattle.line_input.proofs.Places.{ends_more, settles_more}
use Rattle.store_defs.specs.Asking.{most_replies}
use Rattle.store_question_defs.specs.Lines.{Lines}
use Rattle.store_question_defs.specs.Inputs.{ask_input, ask_text, lines_from}
use Rattle.store_questions.specs.Gathering.{PlainGathered, gathered_text, nothing_gathered}
use Rattle.store_questions.specs.Places.{gather_at, made_by, place, with_lines}
use Rattle.store_questions.proofs.Texts.{text_is}

module _ (payload : List ℕ) where
  abbrev by_front : Result Front KitFault → Result (List ℕ) KitFault
  by_front front = front >>= λ f. lines_from payload f.line most_replies (parts_of f.rest) >>= λ lines. Ok (ask_text f.kit payload lines)

  opened : (bytes : List ℕ) → ask_input payload bytes ≡ by_front (front_of bytes)
  unfolding ask_input
  opened bytes = refl

  by_lines : (kit : Kit) (r : Result Lines KitFault)
      → (r >>= λ lines. Ok (ask_text kit payload lines)) ≡ made_by kit (with_lines kit payload nothing_gathered r)
  by_lines kit (Ok lines) = ap (λ (t : List ℕ). let r : Result (List ℕ) KitFault = Ok t in r) (sym (text_is kit payload lines))
  by_lines kit (Err fault) = refl

  if_fault : (P Q : KitFault → Type 0) (o : Option KitFault) → ((f : KitFault) → P f → Q f) → IfSome o P → IfSome o Q
  if_fault P Q None each h = tt
  if_fault P Q (Some f) each h = each f h

  no_kit : (before now : Option (List ℕ)) (fault : KitFault) → HasFault before now [] fault → Settles (ask_input payload) before now (Err fault)
  no_kit before now fault h = record {
    read = h.read.0;
    taken = h.read.1;
    is = elim h.is [
      | inl each ↦ inl (λ rest. ap (λ (t : List ℕ). ask_input payload (t ++ rest)) (sym h.read.2) ∙ opened (h.bytes ++ rest) ∙ ap by_front (each rest))
      | inr over ↦ inr (over.0, ap (ask_input payload) (sym h.read.2) ∙ opened h.bytes ∙ ap by_front over.1)
    ];
  }

  -- an input that begins with no kit
  pub no_front : (before now : Option (List ℕ)) (ahead : List ℕ) (o : Option KitFault) → ahead ≡ [] → IfSome o (HasFault before now ahead)
      → IfSome o (λ f. Settles (ask_input payload) before now (Err f))
  no_front before now ahead o nothing h =
      if_fault (HasFault before now []) (λ f. Settles (ask_input payload) before now (Err f)) o (no_kit before now)
      (subst (λ (t : List ℕ). IfSome o (HasFault before now t)) nothing h)

  module _ (before mid : Option (List ℕ)) (ahead : List ℕ) (nothing : ahead ≡ []) (kit : Kit) (go first : ℕ) (left : List ℕ)
      (begins : Begins before mid ahead kit go left) (next : first ≡ go + 1) where
    -- a kit was read
    at_kit : Leads (ask_input payload) before mid (λ rest. made_by kit (gather_at (place kit payload first nothing_gathered left) rest))
    at_kit =
        let b : Begins before mid [] kit go left = subst (λ (t : List ℕ). Begins before mid t kit go left) nothing begins in
        record {
          read = b.read.0;
          taken = b.read.1;
          is = λ rest.
              let more = fronts_go_on b.bytes rest (record { kit = kit; line = go + 1; rest = left }) b.is in
              ap (λ (t : List ℕ). ask_input payload (t ++ rest)) (sym b.read.2)
              ∙ opened (b.bytes ++ rest) ∙ ap by_front more
              ∙ by_lines kit (lines_from payload (go + 1) most_replies (parts_of (left ++ rest)))
              ∙ ap (λ (n : ℕ). made_by kit (gather_at (place kit payload n nothing_gathered left) rest)) (sym next);
        }

    -- then a line with a fault
    pub no_lines : (now : Option (List ℕ)) (o : Option KitFault)
        → IfSome o (λ f. Settles (gather_at (place kit payload first nothing_gathered left)) mid now (Err f))
        → IfSome o (λ f. Settles (ask_input payload) before now (Err f))
    no_lines now o h = if_fault (λ f. Settles (gather_at (place kit payload first nothing_gathered left)) mid now (Err f))
        (λ f. Settles (ask_input payload) before now (Err f)) o
        (λ f s. settles_more (ask_input payload) (gather_at (place kit payload first nothing_gathered left)) (made_by kit) before mid now at_kit (Err f) s) h

    -- then all lines
    pub all_lines : (now : Option (List ℕ)) (g : PlainGathered) (text : List ℕ)
        → Ends (gather_at (place kit payload first nothing_gathered left)) mid now (Ok g) → text ≡ gathered_text kit g
        → Ends (ask_input payload) before now (Ok text)
    all_lines now g text ends is =
        subst (λ (t : List ℕ). Ends (ask_input payload) before now (Ok t)) (sym is)
        (ends_more (ask_input payload) (gather_at (place kit payload first nothing_gathered left)) (made_by kit) before mid now at_kit (Ok g) ends)
