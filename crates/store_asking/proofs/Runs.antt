-- From the kit to the answer.
use Rattle.std.proofs.Common.{◌≡◌, inl, inr, ℕ, ◌+◌, List, [], ◌∷◌, ◌++◌, Option, Some, None, Result, Ok, Err, refl, sym, ap, subst, ◌∙◌}
use Rattle.std.specs.Prelude.{IfSome}
use Rattle.byte_defs.specs.Fields.{◌>>=◌}
use Rattle.signature_defs.specs.Schemes.{is_valid}
use Rattle.text_defs.specs.Words.{parts_of}
use Rattle.group_defs.specs.Views.{View}
use Rattle.kit_defs.specs.Kits.{Kit, roster_of}
use Rattle.kit_defs.specs.KitReading.{KitFault}
use Rattle.input_defs.specs.Fronts.{Front, front_of}
use Rattle.kit_reading.specs.Fronts.{Begins, HasFault}
use Rattle.front_laws.proofs.Fronts.{fronts_go_on}
use Rattle.line_input.specs.Places.{Ends, Leads, Settles}
use Rattle.line_input.proofs.Places.{ends_by, ends_more, leads_more, settles_more}
use Rattle.store_defs.specs.Records.{Reply}
use Rattle.store_defs.specs.Votes.{Content, Vote, accepted, new_vote}
use Rattle.store_defs.specs.Asking.{Question, answer_text, answered, ask_output, asked, most_replies, question_from}
use Rattle.store_asking.specs.Places.{Found, found, found_for, found_of, key_place, question_at, replies_at, vote_at, vote_by, vote_place, with_replies}
use Rattle.store_asking.specs.Stops.{stop_text}

-- ---- the kit

-- the question by what the input begins with
abbrev asked_by : Result Front KitFault → Result (Kit × Question) KitFault
asked_by front = front >>= λ f. question_from f.kit.scheme (roster_of f.kit.keys) f.line [] (parts_of f.rest) >>= λ q. Ok (f.kit, q)

opened : (bytes : List ℕ) → asked bytes ≡ asked_by (front_of bytes)
unfolding asked
opened bytes = refl

with_kit : (payload : List ℕ) (kit : Kit) (r : Result Question KitFault) → found_of payload (r >>= λ q. Ok (kit, q)) ≡ found_for payload kit r
with_kit payload kit (Ok q) = refl
with_kit payload kit (Err fault) = refl

module _ (payload : List ℕ) (before mid : Option (List ℕ)) where
  -- a kit begins the input
  pub begun : (kit : Kit) (go : ℕ) (left : List ℕ) → Begins before mid [] kit go left
      → Leads (found payload) before mid (λ rest. found_for payload kit (question_at (key_place kit (go + 1) [] left) rest))
  begun kit go left b = record {
    read = b.read.0;
    taken = b.read.1;
    is = λ rest.
        let more = fronts_go_on b.bytes rest (record { kit = kit; line = go + 1; rest = left }) b.is in
        ap (λ (t : List ℕ). found payload (t ++ rest)) (sym b.read.2)
        ∙ ap (found_of payload) (opened (b.bytes ++ rest) ∙ ap asked_by more)
        ∙ with_kit payload kit (question_from kit.scheme (roster_of kit.keys) (go + 1) [] (parts_of (left ++ rest)));
  }

-- a kit with a fault
pub no_kit : (before now : Option (List ℕ)) (fault : KitFault) → HasFault before now [] fault → Settles asked before now (Err fault)
no_kit before now fault h = record {
  read = h.read.0;
  taken = h.read.1;
  is = elim h.is [
    | inl each ↦ inl (λ rest. ap (λ (t : List ℕ). asked (t ++ rest)) (sym h.read.2) ∙ opened (h.bytes ++ rest) ∙ ap asked_by (each rest))
    | inr over ↦ inr (over.0, ap asked (sym h.read.2) ∙ opened h.bytes ∙ ap asked_by over.1)
  ];
}

-- ---- the vote

-- what is found by the vote in the view of this number
abbrev pub found_by : ℕ → Result Vote KitFault → Result Found KitFault
found_by x (Ok vote) = Ok (x, accepted vote)
found_by x (Err fault) = Err fault

same_vote : (payload : List ℕ) (kit : Kit) (keys : List (ℕ × List ℕ)) (view : View) (r : Result (List Reply) KitFault)
    → found_for payload kit (with_replies keys view r) ≡ found_by view.number (vote_by kit keys (new_vote view payload) r)
same_vote payload kit keys view (Ok replies) = refl
same_vote payload kit keys view (Err fault) = refl

-- ---- the answer

-- what is written, and the status
abbrev output_of : Result Found KitFault → List ℕ × ℕ
output_of (Ok f) = (answer_text f.0 f.1, 0)
output_of (Err fault) = (stop_text fault, 7)

output_is : (payload bytes : List ℕ) → ask_output payload bytes ≡ output_of (found payload bytes)
unfolding ask_output
output_is payload bytes = of (asked bytes)
  where
    of : (r : Result (Kit × Question) KitFault) → (elim r [
      | Ok q ↦ (answer_text q.1.view.number (answered q.0 payload q.1), 0)
      | Err fault ↦ (stop_text fault, 7)
    ]) ≡ output_of (found_of payload r)
    of (Ok q) = refl
    of (Err fault) = refl

asks_nothing : (payload : List ℕ) (fault : KitFault) (r : Result (Kit × Question) KitFault) → found_of payload r ≡ Err fault → r ≡ Err fault
asks_nothing payload fault (Ok q) e = absurd cc
asks_nothing payload fault (Err other) e = cc

-- what settles what is found settles what is asked
pub faulty : (payload : List ℕ) (before now : Option (List ℕ)) (fault : KitFault) → Settles (found payload) before now (Err fault)
    → Settles asked before now (Err fault)
faulty payload before now fault s = record {
  read = s.read;
  taken = s.taken;
  is = elim s.is [
    | inl each ↦ inl (λ rest. asks_nothing payload fault (asked (s.read ++ rest)) (each rest))
    | inr over ↦ inr (over.0, asks_nothing payload fault (asked s.read) over.1)
  ];
}

-- ---- piece by piece

-- a kit was read, and its line `go` has this number
module _ (payload : List ℕ) (before mid : Option (List ℕ)) (kit : Kit) (go first : ℕ) (left : List ℕ) (begins : Begins before mid [] kit go left)
    (behind : first ≡ go + 1) where
  at_kit : Leads (found payload) before mid (λ rest. found_for payload kit (question_at (key_place kit first [] left) rest))
  at_kit = subst (λ (n : ℕ). Leads (found payload) before mid (λ rest. found_for payload kit (question_at (key_place kit n [] left) rest)))
      (sym behind) (begun payload before mid kit go left begins)

  -- then a line that says nothing
  pub no_question : (now : Option (List ℕ)) (fault : KitFault) → Settles (question_at (key_place kit first [] left)) mid now (Err fault)
      → Settles asked before now (Err fault)
  no_question now fault s = faulty payload before now fault
      (settles_more (found payload) (question_at (key_place kit first [] left)) (found_for payload kit) before mid now at_kit (Err fault) s)

  -- then reply keys and a view, in the line of this number
  module _ (then : Option (List ℕ)) (keys : List (ℕ × List ℕ)) (view : View) (line next : ℕ) (ahead : List ℕ) (vote : Vote)
      (asks : Leads (question_at (key_place kit first [] left)) mid then (λ rest. with_replies keys view (replies_at (line + 1) most_replies ahead rest)))
      (after : next ≡ line + 1) (nobody : vote ≡ new_vote view payload) where
    abbrev Voting : ℕ → Vote → Type 0
    Voting n v = Leads (found payload) before then (λ rest. found_by view.number (vote_at (vote_place kit keys n most_replies v ahead) rest))

    at_view : Voting next vote
    at_view =
        let leads = leads_more (found payload) (question_at (key_place kit first [] left)) (found_for payload kit) before mid then at_kit
        (λ rest. with_replies keys view (replies_at (line + 1) most_replies ahead rest)) asks in
        let made : Voting (line + 1) (new_vote view payload) = record {
          read = leads.read;
          taken = leads.taken;
          is = λ rest. leads.is rest ∙ same_vote payload kit keys view (replies_at (line + 1) most_replies ahead rest);
        } in
        subst (λ (v : Vote). Voting next v) (sym nobody) (subst (λ (n : ℕ). Voting n (new_vote view payload)) (sym after) made)

    -- then a line that is no reply
    pub no_vote : (now : Option (List ℕ)) (fault : KitFault)
        → Settles (vote_at (vote_place kit keys next most_replies vote ahead)) then now (Err fault) → Settles asked before now (Err fault)
    no_vote now fault s = faulty payload before now fault
        (settles_more (found payload) (vote_at (vote_place kit keys next most_replies vote ahead)) (found_by view.number) before then now at_view
        (Err fault) s)

    -- then replies, to the end
    pub all_voted : (now : Option (List ℕ)) (v : Vote) (text : List ℕ)
        → Ends (vote_at (vote_place kit keys next most_replies vote ahead)) then now (Ok v) → text ≡ answer_text view.number (accepted v)
        → Ends (ask_output payload) before now (text, 0)
    all_voted now v text ends written =
        let is = ends_more (found payload) (vote_at (vote_place kit keys next most_replies vote ahead)) (found_by view.number) before then now
        at_view (Ok v) ends in
        let answer = ends_by (ask_output payload) (found payload) output_of (output_is payload) before now (Ok (view.number, accepted v)) is in
        subst (λ (t : List ℕ). Ends (ask_output payload) before now (t, 0)) (sym written) answer

-- ---- what the calls tell

if_fault : (P Q : KitFault → Type 0) (o : Option KitFault) → ((f : KitFault) → P f → Q f) → IfSome o P → IfSome o Q
if_fault P Q None each h = tt
if_fault P Q (Some f) each h = each f h

-- an input that begins with no kit
pub no_front : (before now : Option (List ℕ)) (ahead : List ℕ) (o : Option KitFault) → ahead ≡ [] → IfSome o (HasFault before now ahead)
    → IfSome o (λ f. Settles asked before now (Err f))
no_front before now ahead o nothing h =
    if_fault (HasFault before now []) (λ f. Settles asked before now (Err f)) o (no_kit before now)
    (subst (λ (t : List ℕ). IfSome o (HasFault before now t)) nothing h)

module _ (payload : List ℕ) (before mid : Option (List ℕ)) (ahead : List ℕ) (nothing : ahead ≡ []) (kit : Kit) (go first : ℕ) (left : List ℕ)
    (begins : Begins before mid ahead kit go left) (behind : first ≡ go + 1) where
  begins_all : Begins before mid [] kit go left
  begins_all = subst (λ (t : List ℕ). Begins before mid t kit go left) nothing begins

  -- one that asks nothing behind its kit
  pub no_questions : (now : Option (List ℕ)) (o : Option KitFault)
      → IfSome o (λ f. Settles (question_at (key_place kit first [] left)) mid now (Err f)) → IfSome o (λ f. Settles asked before now (Err f))
  no_questions now o h =
      if_fault (λ f. Settles (question_at (key_place kit first [] left)) mid now (Err f)) (λ f. Settles asked before now (Err f)) o
      (no_question payload before mid kit go first left begins_all behind now) h

  module _ (then : Option (List ℕ)) (keys : List (ℕ × List ℕ)) (view : View) (line next : ℕ) (ahead_then : List ℕ) (vote : Vote)
      (asks : Leads (question_at (key_place kit first [] left)) mid then
      (λ rest. with_replies keys view (replies_at (line + 1) most_replies ahead_then rest)))
      (after : next ≡ line + 1) (nobody : vote ≡ new_vote view payload) (now : Option (List ℕ)) where
    -- one with a line that is no reply
    pub no_votes : (o : Option KitFault)
        → IfSome o (λ f. Settles (vote_at (vote_place kit keys next most_replies vote ahead_then)) then now (Err f))
        → IfSome o (λ f. Settles asked before now (Err f))
    no_votes o h =
        if_fault (λ f. Settles (vote_at (vote_place kit keys next most_replies vote ahead_then)) then now (Err f))
        (λ f. Settles asked before now (Err f)) o
        (no_vote payload before mid kit go first left begins_all behind then keys view line next ahead_then vote asks after nobody now) h

    -- one that is answered
    pub is_answered : (v : Vote) (x : ℕ) (o : Option Content) (text : List ℕ)
        → Ends (vote_at (vote_place kit keys next most_replies vote ahead_then)) then now (Ok v) → x ≡ view.number → o ≡ accepted v
        → text ≡ answer_text x o → Ends (ask_output payload) before now (text, 0)
    is_answered v x o text ends number content written =
        all_voted payload before mid kit go first left begins_all behind then keys view line next ahead_then vote asks after nobody now v text ends
        (written ∙ (λ i. answer_text (number i) (content i)))
