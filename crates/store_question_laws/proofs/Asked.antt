-- What is made of an input asks the question that its lines make.
use Rattle.std.proofs.Common.{◌≡◌, ℕ, ◌+◌, ◌≤◌, true, false, List, [], ◌∷◌, ◌++◌, length, Option, Some, None, Result, Ok, refl, sym, ap, ◌∙◌, append_assoc, reverse}
use Rattle.std.specs.Prelude.{filter, filter_map, is_some, nat_lt}
use Rattle.std.specs.List.{list_any}
use Rattle.std.specs.Option.{unwrap_or}
use Rattle.std.proofs.lemmas.Bool.{or_from}
use Rattle.std.proofs.lemmas.List.Folds.{list_any-append}
use Rattle.byte_defs.specs.Choices.{and_then}
use Rattle.byte_defs.specs.Fields.{◌>>=◌}
use Rattle.text_defs.specs.Words.{line_feed, parts_of, words_of}
use Rattle.text_defs.proofs.Lines.{has_byte, parts_of_lines}
use Rattle.text_defs.proofs.Choosing.{if_some}
use Rattle.group_defs.specs.Views.{View}
use Rattle.kit_defs.specs.Kits.{IsKit, Kit, key_length, roster_of}
use Rattle.kit_defs.specs.KitReading.{KitFault, most_line_bytes}
use Rattle.input_defs.specs.Fronts.{Front, front_of, front_text}
use Rattle.store_defs.specs.Records.{Reply}
use Rattle.store_defs.specs.Services.{behind_first}
use Rattle.store_defs.specs.Asking.{asked, is_view, most_replies, question_from, replies_from, view_by}
use Rattle.store_question_defs.specs.Lines.{Lines, first_line, first_view, is_reply, last_view, named_view, question_lines, question_of, says_view, view_line, view_of, view_said}
use Rattle.store_question_defs.specs.Inputs.{ask_input, ask_text, lines_from, text_of}
use Rattle.store_question_defs.specs.Laws.{QuestionIsAsked}
use Rattle.store_question_laws.proofs.Kits.{begun}
use Rattle.store_question_laws.proofs.Lines.{AreWithout, bind_is, filter_without, line_found, lines_read, ok_is, reverse_without, said_in, short_words}
use Rattle.store_question_laws.proofs.Keys.{Keys, keys_asked, keys_without, roster_rises}
use Rattle.store_question_laws.proofs.FirstViews.{first_is_view, first_read, first_short, first_without}
use Rattle.store_question_laws.proofs.Replies.{replies_asked}

-- ---- the view

record IsViewLine (line : List ℕ) (view : View) : Type 0 where
  short : nat_lt most_line_bytes (length line) ≡ false
  named : is_view (words_of line) ≡ true
  read : view_by (behind_first (words_of line)) ≡ Some view
  feed : has_byte line_feed line ≡ false

some_of : (o : Option View) → is_some o ≡ true → (v : View) × (o ≡ Some v)
some_of None e = absurd cc
some_of (Some v) e = (v, refl)

module _ (kit : Kit) (is : IsKit kit) (lines : Lines) (none : AreWithout lines) where
  abbrev first : View
  first = record { number = 0; members = kit.genesis }

  the_view : IsViewLine (view_line kit lines) (view_of kit lines)
  the_view = of (last_view lines) refl
    where
      of : (o : Option (List ℕ)) → last_view lines ≡ o → IsViewLine (unwrap_or o (first_view kit)) (unwrap_or (and_then o view_said) first)
      of None e = record {
        short = first_short kit is;
        named = first_is_view kit is;
        read = first_read kit is;
        feed = first_without kit is;
      }
      of (Some line) e =
          let found = line_found says_view (reverse lines) line (reverse_without lines none) e in
          let says = some_of (view_said line) found.0 in
          let words = said_in named_view line says.0 refl says.1 in
          let both = if_some (is_view (words_of line)) (view_by (behind_first (words_of line))) says.0 words.1 in
          let same : unwrap_or (view_said line) first ≡ says.0 = ap (λ (o : Option View). unwrap_or o first) says.1 in
          record {
            short = words.0;
            named = both.0;
            read = both.1 ∙ ap (λ (v : View). let o : Option View = Some v in o) (sym same);
            feed = found.1;
          }

  -- the line of a view, and what comes after it
  view_then : (n : ℕ) (keys : Keys) (line next : List ℕ) (more : Lines) (view : View) → IsViewLine line view
      → question_from kit.scheme (roster_of kit.keys) n keys (line ∷ next ∷ more)
      ≡ (replies_from (n + 1) most_replies (next ∷ more) >>= λ replies. Ok (record { keys = keys; view = view; replies = replies }))
  unfolding question_from
  view_then n keys line next more view v = rw (short_words n line v.short, v.named, v.read) refl

  view_asked : (n : ℕ) (keys : Keys) (line : List ℕ) (rest : Lines) (view : View) → IsViewLine line view
      → question_from kit.scheme (roster_of kit.keys) n keys (line ∷ (rest ++ [] ∷ []))
      ≡ (replies_from (n + 1) most_replies (rest ++ [] ∷ []) >>= λ replies. Ok (record { keys = keys; view = view; replies = replies }))
  view_asked n keys line [] view v = view_then n keys line [] [] view v
  view_asked n keys line (next ∷ rest) view v = view_then n keys line next (rest ++ [] ∷ []) view v

  -- ---- all lines

  module _ (payload : List ℕ) (few : length (filter (is_reply payload) lines) ≤ most_replies) where
    abbrev key_part : Lines
    key_part = filter_map (first_line kit lines) (roster_of kit.keys)

    abbrev reply_part : Lines
    reply_part = filter (is_reply payload) lines

    all_without : AreWithout (question_lines kit payload lines)
    all_without =
        list_any-append (has_byte line_feed) key_part (view_line kit lines ∷ reply_part)
        ∙ or_from (list_any (has_byte line_feed) key_part) (list_any (has_byte line_feed) (view_line kit lines ∷ reply_part))
        (keys_without kit lines none (roster_of kit.keys))
        (or_from (has_byte line_feed (view_line kit lines)) (list_any (has_byte line_feed) reply_part) the_view.feed
        (filter_without (is_reply payload) lines none))

    question_asked : (n : ℕ)
        → question_from kit.scheme (roster_of kit.keys) n [] (parts_of (text_of (question_lines kit payload lines))) ≡ Ok (question_of kit payload lines)
    question_asked n =
        let keys = keys_asked kit lines none (roster_of kit.keys) 0 n [] (view_line kit lines) (reply_part ++ [] ∷ [])
        (roster_rises kit (key_length kit.scheme) 0 kit.keys is.keys) (λ p above. refl) in
        ap (question_from kit.scheme (roster_of kit.keys) n []) (parts_of_lines (question_lines kit payload lines) all_without
        ∙ append_assoc key_part (view_line kit lines ∷ reply_part) ([] ∷ []))
        ∙ keys.1
        ∙ view_asked keys.0 (question_of kit payload lines).keys (view_line kit lines) reply_part (view_of kit lines) the_view
        ∙ ap (λ (r : Result (List Reply) KitFault). r >>= λ replies.
        Ok (record { keys = (question_of kit payload lines).keys; view = view_of kit lines; replies = replies }))
        (replies_asked payload lines (keys.0 + 1) most_replies few)

    text_asked : (f : Front) → f.kit ≡ kit → ((rest : List ℕ) → front_of (front_text kit ++ rest) ≡ Ok (record f { rest = rest }))
        → asked (ask_text kit payload lines) ≡ Ok (kit, question_of kit payload lines)
    unfolding asked
    text_asked f same again = rw (again (text_of (question_lines kit payload lines)), same, question_asked f.line) refl

pub question_is_asked : QuestionIsAsked
unfolding ask_input
question_is_asked payload input text e =
    let front = bind_is (front_of input) (λ f. lines_from payload f.line most_replies (parts_of f.rest)
    >>= λ lines. Ok (ask_text f.kit payload lines)) text e in
    let lines = bind_is (lines_from payload front.0.line most_replies (parts_of front.0.rest)) (λ lines. Ok (ask_text front.0.kit payload lines))
    text front.2 in
    let same : ask_text front.0.kit payload lines.0 ≡ text = ok_is (ask_text front.0.kit payload lines.0) text lines.2 in
    let start = begun input front.0 front.1 in
    let read = lines_read payload front.0.rest front.0.line lines.0 lines.1 in
    record {
      front = front.0;
      lines = lines.0;
      kit_is = front.1;
      spelled = start.spelled;
      lines_are = lines.1;
      text_is = sym same;
      asks = ap asked (sym same) ∙ text_asked front.0.kit start.kit lines.0 read.0 payload read.1 front.0 refl start.again;
    }
