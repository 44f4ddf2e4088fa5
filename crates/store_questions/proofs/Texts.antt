-- What is gathered of all lines is what is picked of them.
use Rattle.std.proofs.Common.{◌≡◌, ℕ, Bool, true, false, List, [], ◌∷◌, ◌++◌, Option, None, Some, refl, sym, ap, ◌∙◌, append_assoc, append-nil, reverse}
use Rattle.std.specs.Prelude.{cond, filter, filter_map, find, if◌then◌else◌, option_to_list}
use Rattle.std.specs.List.{cons_option}
use Rattle.std.specs.Option.{option_or, unwrap_or}
use Rattle.std.proofs.lemmas.Grind.{flat_map-append}
use Rattle.std.proofs.lemmas.List.{reverse-append}
use Rattle.std.proofs.lemmas.List.Folds.{find-append}
use Rattle.text_defs.specs.Words.{line_feed}
use Rattle.kit_defs.specs.Kits.{Kit, roster_of}
use Rattle.input_defs.specs.Fronts.{front_text}
use Rattle.store_defs.specs.Asking.{key_in}
use Rattle.store_question_defs.specs.Lines.{Lines, first_line, first_view, is_reply, key_lines, last_view, says_view, view_line, with_process}
use Rattle.store_question_defs.specs.Inputs.{ask_text, text_of}
use Rattle.store_questions.specs.Gathering.{PlainGathered, after_lines, gathered_text, nothing_gathered, with_line}

module _ (kit : Kit) (payload : List ℕ) where
  abbrev after : PlainGathered → Lines → PlainGathered
  after g lines = after_lines kit payload g lines

  one_key : {A : Type 0} (ks : List A) (o : Option A) (rest : List A) → (ks ++ option_to_list o) ++ rest ≡ ks ++ cons_option o rest
  one_key ks None rest = ap (λ xs. xs ++ rest) (append-nil ks)
  one_key ks (Some k) rest = append_assoc ks (k ∷ []) rest

  keys_are : (lines : Lines) (g : PlainGathered) → (after g lines).keys ≡ g.keys ++ key_lines kit lines
  unfolding after_lines
  keys_are [] g = sym (append-nil g.keys)
  keys_are (line ∷ lines) g = keys_are lines (with_line kit payload g line) ∙ one_key g.keys (with_process kit line) (key_lines kit lines)

  or_more : (a : Option (List ℕ)) (b : Bool) (line : List ℕ) (v : Option (List ℕ))
      → option_or a (if b then Some line else v) ≡ option_or (option_or a (let o : Option (List ℕ) = cond b (Some line) None in o)) v
  or_more None true line v = refl
  or_more None false line v = refl
  or_more (Some x) true line v = refl
  or_more (Some x) false line v = refl

  view_is : (lines : Lines) (g : PlainGathered) → (after g lines).view ≡ option_or (last_view lines) g.view
  unfolding after_lines
  view_is [] g = refl
  view_is (line ∷ lines) g =
      view_is lines (with_line kit payload g line)
      ∙ or_more (last_view lines) (says_view line) line g.view
      ∙ ap (λ (o : Option (List ℕ)). option_or o g.view)
      (sym (find-append says_view (reverse lines) (line ∷ [])) ∙ ap (find says_view) (sym (reverse-append (line ∷ []) lines)))

  one_reply : (b : Bool) (old line : List ℕ) (rest : Lines)
      → (if b then old ++ (line ++ line_feed ∷ []) else old) ++ text_of rest ≡ old ++ text_of (cond b (line ∷ rest) rest)
  one_reply true old line rest = append_assoc old (line ++ line_feed ∷ []) (text_of rest)
  one_reply false old line rest = refl

  replies_are : (lines : Lines) (g : PlainGathered) → (after g lines).replies ≡ g.replies ++ text_of (filter (is_reply payload) lines)
  unfolding after_lines
  replies_are [] g = sym (append-nil g.replies)
  replies_are (line ∷ lines) g = replies_are lines (with_line kit payload g line)
      ∙ one_reply (is_reply payload line) g.replies line (filter (is_reply payload) lines)

  or_none : (o : Option (List ℕ)) → option_or o None ≡ o
  or_none None = refl
  or_none (Some x) = refl

  -- the text of what was gathered
  pub text_is : (lines : Lines) → gathered_text kit (after nothing_gathered lines) ≡ ask_text kit payload lines
  text_is lines =
      (λ i. front_text kit ++ (text_of (filter_map (key_in (keys_are lines nothing_gathered i)) (roster_of kit.keys))
      ++ ((unwrap_or (view_is lines nothing_gathered i) (first_view kit) ++ line_feed ∷ []) ++ replies_are lines nothing_gathered i)))
      ∙ ap (λ (o : Option (List ℕ)). front_text kit ++ (text_of (filter_map (first_line kit lines) (roster_of kit.keys))
      ++ ((unwrap_or o (first_view kit) ++ line_feed ∷ []) ++ text_of (filter (is_reply payload) lines)))) (or_none (last_view lines))
      ∙ ap (λ (t : List ℕ). front_text kit ++ t)
      (sym (flat_map-append (λ (line : List ℕ). line ++ line_feed ∷ []) (filter_map (first_line kit lines) (roster_of kit.keys))
      (view_line kit lines ∷ filter (is_reply payload) lines)))
