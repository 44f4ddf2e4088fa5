-- One line before the replies, and the question from there on.
use Rattle.std.proofs.Common.{◌≡◌, inl, inr, ℕ, ◌+◌, ◌<◌, ◌≤◌, Bool, true, false, List, [], ◌∷◌, ◌++◌, length, Option, None, Some, option_map, Result, Ok, Err, refl, sym, ap, subst, ◌∙◌, arith}
use Rattle.std.specs.Prelude.{IfSome, if◌then◌else◌, nat_lt}
use Rattle.std.specs.Option.{ok_or}
use Rattle.std.proofs.lemmas.Bool.{le-ltb, lt-ltb}
use Rattle.byte_defs.specs.Fields.{◌>>=◌}
use Rattle.signature_defs.specs.Schemes.{Scheme}
use Rattle.text_defs.specs.Words.{parts_of, words_of}
use Rattle.group_defs.specs.Views.{View}
use Rattle.kit_defs.specs.Kits.{Kit, roster_of}
use Rattle.kit_defs.specs.KitReading.{KitFault, Line, most_line_bytes}
use Rattle.store_defs.specs.Records.{Reply}
use Rattle.store_defs.specs.Services.{behind_first}
use Rattle.store_defs.specs.Asking.{Question, is_view, line_words, most_replies, named_key, question_from, replies_from, view_by}
use Rattle.line_input.specs.Places.{Leads, Settles}
use Rattle.line_input.specs.Taking.{Answered, Taken}
use Rattle.line_input.specs.declared.lines.Next.{Next}
use Rattle.line_input.specs.declared.lines.Next.TheVariants as nexts
use Rattle.store_asking.specs.Lines.{PlainSaid, Key, Of, said_by, with_key}
use Rattle.store_asking.specs.Places.{KeyPlace, key_place, question_at, question_behind, replies_at, with_replies}
use Rattle.line_laws.proofs.Parts.{parts_some}
use Rattle.line_laws.proofs.Read.{input_ends, is_short, line_leads, no_line_settles, read_more}

-- ---- the words of a line

abbrev Words : Type 0
Words = List (List ℕ)

if_short : (most n size : ℕ) (words : Words) → size ≤ most
    → (let r : Result Words KitFault = if nat_lt most size then Err (Line n) else Ok words in r) ≡ Ok words
if_short most n size words few = rw (le-ltb most size few) refl

if_long : (most n size : ℕ) (words : Words) → most < size
    → (let r : Result Words KitFault = if nat_lt most size then Err (Line n) else Ok words in r) ≡ Err (Line n)
if_long most n size words many = rw (lt-ltb most size many) refl

pub short_words : (n : ℕ) (line : List ℕ) → length line ≤ most_line_bytes → line_words n line ≡ Ok (words_of line)
short_words n line few = if_short most_line_bytes n (length line) (words_of line) few

pub long_words : (n : ℕ) (line : List ℕ) → most_line_bytes < length line → line_words n line ≡ Err (Line n)
long_words n line many = if_long most_line_bytes n (length line) (words_of line) many

-- ---- the question behind a line

module _ (scheme : Scheme) (roster : List ℕ) (n : ℕ) (keys : List (ℕ × List ℕ)) where
  -- behind what a line says
  abbrev behind_said : Option PlainSaid → Words → Result Question KitFault
  behind_said None parts = Err (Line n)
  behind_said (Some (Key p key)) parts = question_from scheme roster (n + 1) (keys ++ (p, key) ∷ []) parts
  behind_said (Some (Of view)) parts = with_replies keys view (replies_from (n + 1) most_replies parts)

  by_replies : (view : View) (r : Result (List Reply) KitFault)
      → (r >>= λ replies. Ok (record { keys = keys; view = view; replies = replies })) ≡ with_replies keys view r
  by_replies view (Ok replies) = refl
  by_replies view (Err fault) = refl

  by_view : (o : Option View) (parts : Words)
      → (ok_or o (Line n) >>= (λ view. replies_from (n + 1) most_replies parts
      >>= (λ replies. Ok (record { keys = keys; view = view; replies = replies })))) ≡ behind_said (option_map Of o) parts
  by_view None parts = refl
  by_view (Some view) parts = by_replies view (replies_from (n + 1) most_replies parts)

  by_key : (o : Option (ℕ × List ℕ)) (parts : Words)
      → (ok_or o (Line n) >>= (λ key. question_from scheme roster (n + 1) (keys ++ key ∷ []) parts)) ≡ behind_said (option_map with_key o) parts
  by_key None parts = refl
  by_key (Some k) parts = refl

  by_word : (b : Bool) (v : Option View) (k : Option (ℕ × List ℕ)) (parts : Words)
      → (if b then (ok_or v (Line n) >>= (λ view. replies_from (n + 1) most_replies parts
      >>= (λ replies. Ok (record { keys = keys; view = view; replies = replies }))))
      else (ok_or k (Line n) >>= (λ key. question_from scheme roster (n + 1) (keys ++ key ∷ []) parts)))
      ≡ behind_said (if b then option_map Of v else option_map with_key k) parts
  by_word true v k parts = by_view v parts
  by_word false v k parts = by_key k parts

  said_next : (line next : List ℕ) (others : Words) → length line ≤ most_line_bytes
      → question_from scheme roster n keys (line ∷ next ∷ others) ≡ behind_said (said_by scheme roster keys (words_of line)) (next ∷ others)
  unfolding question_from
  said_next line next others few =
      rw (short_words n line few) (by_word (is_view (words_of line)) (view_by (behind_first (words_of line)))
      (named_key scheme roster keys (words_of line)) (next ∷ others))

  too_long : (line next : List ℕ) (others : Words) → most_line_bytes < length line
      → question_from scheme roster n keys (line ∷ next ∷ others) ≡ Err (Line n)
  unfolding question_from
  too_long line next others many = rw (long_words n line many) refl

  one_left : (rest : List ℕ) → question_from scheme roster n keys (rest ∷ []) ≡ Err (Line n)
  unfolding question_from
  one_left rest = refl

  said_then : (line : List ℕ) (parts : Words) (first : List ℕ) (others : Words) → parts ≡ first ∷ others → length line ≤ most_line_bytes
      → question_from scheme roster n keys (line ∷ parts) ≡ behind_said (said_by scheme roster keys (words_of line)) parts
  said_then line parts first others is few =
      ap (λ (ps : Words). question_from scheme roster n keys (line ∷ ps)) is ∙ said_next line first others few
      ∙ ap (behind_said (said_by scheme roster keys (words_of line))) (sym is)

-- what a line says in a kit's group
pub said_in_kit : (kit : Kit) (keys : List (ℕ × List ℕ)) (line : List ℕ) (said : Option PlainSaid) (scheme : Scheme) (roster : List (ℕ × List ℕ))
    → scheme ≡ kit.scheme → roster ≡ kit.keys → said ≡ said_by scheme (roster_of roster) keys (words_of line)
    → said ≡ said_by kit.scheme (roster_of kit.keys) keys (words_of line)
said_in_kit kit keys line said scheme roster s r so = so ∙ (λ i. said_by (s i) (roster_of (r i)) keys (words_of line))

-- ---- what a read tells

module _ (kit : Kit) (n : ℕ) (keys : List (ℕ × List ℕ)) (ahead : List ℕ) (before now : Option (List ℕ)) (l : Taken) (next : Next)
    (a : Answered most_line_bytes before now ahead l next) where
  abbrev F : Words → Result Question KitFault
  F = question_from kit.scheme (roster_of kit.keys) n keys

  same_behind : (said : PlainSaid) (rest : List ℕ)
      → behind_said kit.scheme (roster_of kit.keys) n keys (Some said) (parts_of (l.ahead ++ rest))
      ≡ question_behind kit n keys l.ahead said rest
  same_behind (Key p key) rest = refl
  same_behind (Of view) rest = refl

  -- the input has ended before the view
  pub ended : next ≡ nexts.End → Settles (question_at (key_place kit n keys ahead)) before now (Err (Line n))
  ended is =
      let e = input_ends F most_line_bytes ahead before now l (subst (Answered most_line_bytes before now ahead l) is a) in
      record {
        read = e.read;
        taken = e.taken;
        is = inr (e.ended, e.is ∙ one_left kit.scheme (roster_of kit.keys) n keys []);
      }

  -- no line comes
  pub broken : next ≡ nexts.Broken → Settles (question_at (key_place kit n keys ahead)) before now (Err (Line n))
  broken is = no_line_settles F most_line_bytes ahead before now l (Err (Line n))
      (λ line first others many. too_long kit.scheme (roster_of kit.keys) n keys line first others many)
      (λ rest some. one_left kit.scheme (roster_of kit.keys) n keys rest)
      (subst (Answered most_line_bytes before now ahead l) is a)

  module _ (is : next ≡ nexts.Line) (line : List ℕ) (this : line ≡ l.line) where
    taken_line : Answered most_line_bytes before now ahead l nexts.Line
    taken_line = subst (Answered most_line_bytes before now ahead l) is a

    goes_on : (o : Option PlainSaid) → o ≡ said_by kit.scheme (roster_of kit.keys) keys (words_of line) → (rest : List ℕ)
        → F (l.line ∷ parts_of (l.ahead ++ rest))
        ≡ behind_said kit.scheme (roster_of kit.keys) n keys o (parts_of (l.ahead ++ rest))
    goes_on o says rest =
        let some = parts_some (l.ahead ++ rest) in
        said_then kit.scheme (roster_of kit.keys) n keys l.line (parts_of (l.ahead ++ rest)) some.0 some.1 some.2
        (is_short most_line_bytes taken_line.bytes l.line l.ahead taken_line.takes)
        ∙ ap (λ (o : Option PlainSaid). behind_said kit.scheme (roster_of kit.keys) n keys o (parts_of (l.ahead ++ rest)))
        (sym (says ∙ ap (λ (t : List ℕ). said_by kit.scheme (roster_of kit.keys) keys (words_of t)) this))

    -- a line says this
    pub says : (said : PlainSaid) → Some said ≡ said_by kit.scheme (roster_of kit.keys) keys (words_of line)
        → Leads (question_at (key_place kit n keys ahead)) before now (question_behind kit n keys l.ahead said)
    says said reported =
        let leads = line_leads F most_line_bytes ahead before now l taken_line in
        record {
          read = leads.read;
          taken = leads.taken;
          is = λ rest. leads.is rest ∙ goes_on (Some said) reported rest ∙ same_behind said rest;
        }

    -- a line says nothing
    pub says_none : None ≡ said_by kit.scheme (roster_of kit.keys) keys (words_of line)
        → Settles (question_at (key_place kit n keys ahead)) before now (Err (Line n))
    says_none reported =
        let leads = line_leads F most_line_bytes ahead before now l taken_line in
        record {
          read = leads.read;
          taken = leads.taken;
          is = inl (λ rest. leads.is rest ∙ goes_on None reported rest);
        }

-- ---- from one line to the next

module _ (kit : Kit) (first : KeyPlace) (n : ℕ) (keys : List (ℕ × List ℕ)) (ahead ahead_then : List ℕ) (before mid now : Option (List ℕ))
    (said : PlainSaid) (so_far : Leads (question_at first) before mid (question_at (key_place kit n keys ahead)))
    (says_so : Leads (question_at (key_place kit n keys ahead)) mid now (question_behind kit n keys ahead_then said)) where
  all_read : Leads (question_at first) before now (question_behind kit n keys ahead_then said)
  all_read = read_more (question_at first) (question_at (key_place kit n keys ahead)) (question_behind kit n keys ahead_then said) before mid now
      so_far says_so

  -- a further reply key
  pub more_keys : (p m : ℕ) (key : List ℕ) (more : List (ℕ × List ℕ)) → said ≡ Key p key → more ≡ keys ++ (p, key) ∷ [] → m ≡ n + 1
      → Leads (question_at first) before now (question_at (key_place kit m more ahead_then))
  more_keys p m key more is added next_number =
      let reported : Leads (question_at first) before now (question_behind kit n keys ahead_then (Key p key)) =
      subst (λ (s : PlainSaid). Leads (question_at first) before now (question_behind kit n keys ahead_then s)) is all_read in
      subst (λ (k : ℕ). Leads (question_at first) before now (question_at (key_place kit k more ahead_then))) (sym next_number)
      (subst (λ (ks : List (ℕ × List ℕ)). Leads (question_at first) before now (question_at (key_place kit (n + 1) ks ahead_then))) (sym added) reported)

  -- the view
  pub the_view : (view : View) → said ≡ Of view
      → Leads (question_at first) before now (λ rest. with_replies keys view (replies_at (n + 1) most_replies ahead_then rest))
  the_view view is = subst (λ (s : PlainSaid). Leads (question_at first) before now (question_behind kit n keys ahead_then s)) is all_read
