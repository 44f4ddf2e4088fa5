-- The lines of replies: `ask` reads each of them.
use Rattle.std.proofs.Common.{◌≡◌, ℕ, ◌+◌, ◌-◌, ◌≤◌, ◌==◌, false, List, [], ◌∷◌, ◌++◌, length, Option, Some, None, Result, Ok, refl, ap, ◌∙◌, arith}
use Rattle.std.specs.Prelude.{cond, filter, filter_map, is_some, nat_lt, if◌then◌else◌}
use Rattle.std.specs.List.{cons_option}
use Rattle.std.proofs.lemmas.Bool.{ne_eqb}
use Rattle.byte_defs.specs.Equality.{same_bytes}
use Rattle.byte_defs.specs.Fields.{◌>>=◌}
use Rattle.text_defs.specs.Words.{words_of}
use Rattle.text_defs.proofs.Choosing.{if_some, then_some, some_is}
use Rattle.kit_defs.specs.KitReading.{KitFault, most_line_bytes}
use Rattle.store_defs.specs.Records.{Reply}
use Rattle.store_defs.specs.Asking.{replies_from, reply_by}
use Rattle.store_question_defs.specs.Lines.{Lines, is_reply, reply_in, reply_said}
use Rattle.store_question_laws.proofs.Lines.{said_in, short_words}

module _ (payload : List ℕ) where
  -- what a line says is read of its words
  reply_read : (line : List ℕ) (r : Reply) → reply_said payload line ≡ Some r
      → (nat_lt most_line_bytes (length line) ≡ false) × (reply_by (words_of line) ≡ Some r)
  reply_read line r e =
      let found = then_some (λ (r : Reply). if same_bytes r.payload payload then Some r else None) (reply_in line) r e in
      let own = some_is found.0 r (if_some (same_bytes found.0.payload payload) (Some found.0) r found.2).1 in
      said_in reply_by line r refl (found.1 ∙ ap (λ (r : Reply). let o : Option Reply = Some r in o) own)

  one_reply : (n left : ℕ) (line next : List ℕ) (more : Lines) (r : Reply) → reply_said payload line ≡ Some r → 1 ≤ left
      → replies_from n left (line ∷ next ∷ more) ≡ (replies_from (n + 1) (left - 1) (next ∷ more) >>= λ others. Ok (r ∷ others))
  unfolding replies_from
  one_reply n left line next more r says some =
      let read = reply_read line r says in
      let may : (left == 0) ≡ false = ne_eqb left 0 (λ e. omega (arith, e, some)) in
      rw (short_words n line read.0, may, read.1) refl

  one_then : (n left : ℕ) (line : List ℕ) (rest : Lines) (r : Reply) → reply_said payload line ≡ Some r → 1 ≤ left
      → replies_from n left (line ∷ (rest ++ [] ∷ [])) ≡ (replies_from (n + 1) (left - 1) (rest ++ [] ∷ []) >>= λ others. Ok (r ∷ others))
  one_then n left line [] r says some = one_reply n left line [] [] r says some
  one_then n left line (next ∷ rest) r says some = one_reply n left line next (rest ++ [] ∷ []) r says some

  abbrev picked : Lines → Lines
  picked lines = filter (is_reply payload) lines

  pub replies_asked : (lines : Lines) (n left : ℕ) → length (picked lines) ≤ left
      → replies_from n left (picked lines ++ [] ∷ []) ≡ Ok (filter_map (reply_said payload) lines)
  unfolding replies_from
  replies_asked [] n left few = refl
  replies_asked (line ∷ lines) n left few = of (λ m k f. replies_asked lines m k f) (reply_said payload line) refl few
    where
      Again : Type 0
      Again = (n left : ℕ) → length (picked lines) ≤ left → replies_from n left (picked lines ++ [] ∷ []) ≡ Ok (filter_map (reply_said payload) lines)

      of : Again → (o : Option Reply) → reply_said payload line ≡ o
          → length (let ls : Lines = cond (is_some o) (line ∷ picked lines) (picked lines) in ls) ≤ left
          → replies_from n left (cond (is_some o) (line ∷ picked lines) (picked lines) ++ [] ∷ [])
          ≡ Ok (cons_option o (filter_map (reply_said payload) lines))
      of again None says few = again n left few
      of again (Some r) says few =
          one_then n left line (picked lines) r says (omega (arith, few))
          ∙ ap (λ (x : Result (List Reply) KitFault). x >>= λ others. Ok (r ∷ others)) (again (n + 1) (left - 1) (omega (arith, few)))
