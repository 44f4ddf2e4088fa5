-- One line with a reply, and the vote from there on.
use Rattle.std.proofs.Common.{◌≡◌, inl, inr, ℕ, ◌+◌, ◌-◌, ◌<◌, ◌≤◌, ◌==◌, Bool, true, false, List, [], ◌∷◌, ◌++◌, length, Option, None, Some, Result, Ok, Err, refl, sym, ap, subst, ◌∙◌, arith}
use Rattle.std.specs.Prelude.{IfSome, if◌then◌else◌}
use Rattle.std.specs.Option.{ok_or}
use Rattle.std.proofs.lemmas.Bool.{eqb-true}
use Rattle.byte_defs.specs.Fields.{◌>>=◌, refuse_if}
use Rattle.signature_defs.specs.Schemes.{Scheme, is_valid}
use Rattle.text_defs.specs.Words.{parts_of, words_of}
use Rattle.kit_defs.specs.Kits.{Kit}
use Rattle.kit_defs.specs.KitReading.{KitFault, Line, most_line_bytes}
use Rattle.store_defs.specs.Records.{Reply, reply_of}
use Rattle.store_defs.specs.Votes.{Vote, offered, vote_after}
use Rattle.store_defs.specs.Asking.{key_in, line_words, replies_from, reply_by}
use Rattle.line_input.specs.Places.{Ends, Leads, Settles}
use Rattle.line_input.specs.Taking.{Answered, Taken}
use Rattle.line_input.specs.declared.lines.Next.{Next}
use Rattle.line_input.specs.declared.lines.Next.TheVariants as nexts
use Rattle.store_asking.specs.Lines.{line_voted, reply_in, reported_by, vote_with, voted}
use Rattle.store_asking.specs.Places.{vote_at, vote_by, vote_place}
use Rattle.line_laws.proofs.Parts.{parts_some}
use Rattle.store_asking.proofs.Reported.{reply_is_reported, reply_reported}
use Rattle.line_laws.proofs.Read.{input_ends, is_short, line_leads, no_line_settles}
use Rattle.store_asking.proofs.Questions.{long_words, short_words}

abbrev Words : Type 0
Words = List (List ℕ)

module _ (kit : Kit) (keys : List (ℕ × List ℕ)) (n left : ℕ) (vote : Vote) where
  abbrev F : Words → Result Vote KitFault
  F parts = vote_by kit keys vote (replies_from n left parts)

  -- the vote after a line, and those behind it
  abbrev then_votes : Result Vote KitFault → Words → Result Vote KitFault
  then_votes (Ok v) parts = vote_by kit keys v (replies_from (n + 1) (left - 1) parts)
  then_votes (Err fault) parts = Err fault

  by_others : (r : Reply) (others : Result (List Reply) KitFault)
      → vote_by kit keys vote (others >>= λ rs. Ok (r ∷ rs)) ≡ vote_by kit keys (voted kit keys vote r) others
  unfolding vote_after
  by_others r (Ok rs) = refl
  by_others r (Err fault) = refl

  by_reply : (o : Option Reply) (parts : Words)
      → vote_by kit keys vote (ok_or o (Line n) >>= λ r. replies_from (n + 1) (left - 1) parts >>= λ rs. Ok (r ∷ rs))
      ≡ then_votes (vote_with kit keys n vote o) parts
  by_reply None parts = refl
  by_reply (Some r) parts = by_others r (replies_from (n + 1) (left - 1) parts)

  counts : (line next : List ℕ) (others : Words) → length line ≤ most_line_bytes → (left == 0) ≡ false
      → F (line ∷ next ∷ others) ≡ then_votes (line_voted kit keys n vote line) (next ∷ others)
  unfolding replies_from
  counts line next others few some = rw (short_words n line few, some) (by_reply (reply_by (words_of line)) (next ∷ others))

  one_too_many : (line next : List ℕ) (others : Words) → length line ≤ most_line_bytes → (left == 0) ≡ true
      → F (line ∷ next ∷ others) ≡ Err (Line n)
  unfolding replies_from
  one_too_many line next others few none = rw (short_words n line few, none) refl

  too_long : (line next : List ℕ) (others : Words) → most_line_bytes < length line → F (line ∷ next ∷ others) ≡ Err (Line n)
  unfolding replies_from
  too_long line next others many = rw (long_words n line many) refl

  some_left : (rest : List ℕ) → 0 < length rest → F (rest ∷ []) ≡ Err (Line n)
  unfolding replies_from
  some_left rest some = of (length rest == 0) refl
    where
      of : (t : Bool) → (length rest == 0) ≡ t → vote_by kit keys vote (if t then Ok [] else Err (Line n)) ≡ Err (Line n)
      of true e = absurd (omega (arith, eqb-true (length rest) 0 e, some))
      of false e = refl

  all_counted : F ([] ∷ []) ≡ Ok vote
  unfolding replies_from vote_after
  all_counted = refl

-- ---- a reply that was told

-- the bytes are no reply
pub no_record : (kit : Kit) (keys : List (ℕ × List ℕ)) (n p : ℕ) (bytes : List ℕ) (vote : Vote) → reply_of bytes ≡ Err tt
    → vote_with kit keys n vote (reply_in p bytes) ≡ Err (Line n)
no_record kit keys n p bytes vote none = rw none refl

-- or another signer's
pub other_signer : (kit : Kit) (keys : List (ℕ × List ℕ)) (n p : ℕ) (bytes : List ℕ) (vote : Vote) (r : Reply) → reply_of bytes ≡ Ok r
    → (r.signer == p) ≡ false → vote_with kit keys n vote (reply_in p bytes) ≡ Err (Line n)
other_signer kit keys n p bytes vote r is other = rw is (rw other refl)

offered_so : (kit : Kit) (keys : List (ℕ × List ℕ)) (scheme : Scheme) (group : List ℕ) (key : Option (List ℕ)) (vote : Vote) (r : Reply)
    → scheme ≡ kit.scheme → group ≡ kit.group → key ≡ key_in keys r.signer
    → offered (is_valid scheme) group (λ _. key) vote r ≡ voted kit keys vote r
offered_so kit keys scheme group key vote r s g k = λ i. offered (is_valid (s i)) (g i) (λ _. k i) vote r

-- it was offered
pub counted_reported : (kit : Kit) (keys : List (ℕ × List ℕ)) (n p : ℕ) (bytes : List ℕ) (vote new : Vote) (scheme : Scheme) (group : List ℕ)
    (key : Option (List ℕ)) (r : Reply) → reply_of bytes ≡ Ok r → (r.signer == p) ≡ true → scheme ≡ kit.scheme → group ≡ kit.group
    → key ≡ key_in keys r.signer → new ≡ offered (is_valid scheme) group (λ _. key) vote r
    → vote_with kit keys n vote (reply_in p bytes) ≡ Ok new
counted_reported kit keys n p bytes vote new scheme group key r is own s g k made =
    rw is (rw own (ap (λ (v : Vote). let o : Result Vote KitFault = Ok v in o) (sym (made ∙ offered_so kit keys scheme group key vote r s g k))))

-- the line tells none
pub none_reported : (kit : Kit) (keys : List (ℕ × List ℕ)) (n : ℕ) (vote : Vote) (line : List ℕ) → None ≡ reported_by (words_of line)
    → line_voted kit keys n vote line ≡ Err (Line n)
none_reported kit keys n vote line none = ap (vote_with kit keys n vote) (reply_is_reported (words_of line) ∙ ap reply_reported (sym none))

pub some_reported : (kit : Kit) (keys : List (ℕ × List ℕ)) (n p : ℕ) (bytes : List ℕ) (vote : Vote) (line : List ℕ)
    → Some (p, bytes) ≡ reported_by (words_of line) → line_voted kit keys n vote line ≡ vote_with kit keys n vote (reply_in p bytes)
some_reported kit keys n p bytes vote line some = ap (vote_with kit keys n vote) (reply_is_reported (words_of line) ∙ ap reply_reported (sym some))

-- a reply may still come
pub may_come : (left : ℕ) → (left ≡ 0 → ⊥) → (left == 0) ≡ false
may_come left some = of (left == 0) refl
  where
    of : (t : Bool) → (left == 0) ≡ t → (left == 0) ≡ false
    of true e = absurd (some (eqb-true left 0 e))
    of false e = e

-- ---- what a read tells

module _ (kit : Kit) (keys : List (ℕ × List ℕ)) (n left : ℕ) (vote : Vote) (ahead : List ℕ) (before now : Option (List ℕ)) (l : Taken)
    (next : Next) (a : Answered most_line_bytes before now ahead l next) where
  -- the input has ended
  pub ended : next ≡ nexts.End → Ends (vote_at (vote_place kit keys n left vote ahead)) before now (Ok vote)
  ended is =
      let e = input_ends (F kit keys n left vote) most_line_bytes ahead before now l (subst (Answered most_line_bytes before now ahead l) is a) in
      record { read = e.read; taken = e.taken; ended = e.ended; is = e.is ∙ all_counted kit keys n left vote }

  -- no line comes
  pub broken : next ≡ nexts.Broken → Settles (vote_at (vote_place kit keys n left vote ahead)) before now (Err (Line n))
  broken is = no_line_settles (F kit keys n left vote) most_line_bytes ahead before now l (Err (Line n))
      (λ line first others many. too_long kit keys n left vote line first others many)
      (λ rest some. some_left kit keys n left vote rest some)
      (subst (Answered most_line_bytes before now ahead l) is a)

  module _ (is : next ≡ nexts.Line) where
    taken_line : Answered most_line_bytes before now ahead l nexts.Line
    taken_line = subst (Answered most_line_bytes before now ahead l) is a

    few : length l.line ≤ most_line_bytes
    few = is_short most_line_bytes taken_line.bytes l.line l.ahead taken_line.takes

    -- one line too many comes
    pub none_left : (left == 0) ≡ true → Settles (vote_at (vote_place kit keys n left vote ahead)) before now (Err (Line n))
    none_left none =
        let leads = line_leads (F kit keys n left vote) most_line_bytes ahead before now l taken_line in
        record {
          read = leads.read;
          taken = leads.taken;
          is = inl (λ rest.
              let some = parts_some (l.ahead ++ rest) in
              leads.is rest ∙ ap (λ (ps : Words). F kit keys n left vote (l.line ∷ ps)) some.2
              ∙ one_too_many kit keys n left vote l.line some.0 some.1 few none);
        }

    module _ (line : List ℕ) (this : line ≡ l.line) (some_may : (left == 0) ≡ false) where
      goes_on : (rest : List ℕ) → F kit keys n left vote (l.line ∷ parts_of (l.ahead ++ rest))
          ≡ then_votes kit keys n left vote (line_voted kit keys n vote line) (parts_of (l.ahead ++ rest))
      goes_on rest =
          let some = parts_some (l.ahead ++ rest) in
          ap (λ (ps : Words). F kit keys n left vote (l.line ∷ ps)) some.2
          ∙ counts kit keys n left vote l.line some.0 some.1 few some_may
          ∙ ap (λ (ps : Words). then_votes kit keys n left vote (line_voted kit keys n vote l.line) ps) (sym some.2)
          ∙ ap (λ (t : List ℕ). then_votes kit keys n left vote (line_voted kit keys n vote t) (parts_of (l.ahead ++ rest))) (sym this)

      -- its reply was offered
      pub counted : (v : Vote) (m fewer : ℕ) → line_voted kit keys n vote line ≡ Ok v → m ≡ n + 1 → fewer ≡ left - 1
          → Leads (vote_at (vote_place kit keys n left vote ahead)) before now (vote_at (vote_place kit keys m fewer v l.ahead))
      counted v m fewer says next_number one_less =
          let leads = line_leads (F kit keys n left vote) most_line_bytes ahead before now l taken_line in
          record {
            read = leads.read;
            taken = leads.taken;
            is = λ rest. leads.is rest ∙ goes_on rest
                ∙ ap (λ (r : Result Vote KitFault). then_votes kit keys n left vote r (parts_of (l.ahead ++ rest))) says
                ∙ (λ i. vote_by kit keys v (replies_from (sym next_number i) (sym one_less i) (parts_of (l.ahead ++ rest))));
          }

      -- it has no reply
      pub uncounted : (f : KitFault) → line_voted kit keys n vote line ≡ Err f
          → Settles (vote_at (vote_place kit keys n left vote ahead)) before now (Err f)
      uncounted f says =
          let leads = line_leads (F kit keys n left vote) most_line_bytes ahead before now l taken_line in
          record {
            read = leads.read;
            taken = leads.taken;
            is = inl (λ rest. leads.is rest ∙ goes_on rest
                ∙ ap (λ (r : Result Vote KitFault). then_votes kit keys n left vote r (parts_of (l.ahead ++ rest))) says);
          }

      pub uncounted_if : (o : Option KitFault) → IfSome o (λ f. line_voted kit keys n vote line ≡ Err f)
          → IfSome o (λ f. Settles (vote_at (vote_place kit keys n left vote ahead)) before now (Err f))
      uncounted_if None says = tt
      uncounted_if (Some f) says = uncounted f says
