use Rattle.std.proofs.Common.{◌≡◌, ◌∷◌, List, ℕ, map, ap, subst, sym, ◌∙◌}
use Rattle.std.specs.Prelude.{string_bytes}
use Rattle.text_defs.specs.Words.{Spells}
use Rattle.command_line.proofs.PayloadWords.{first_spells}
use Rattle.command_line.proofs.payloads.spelled_by.Goals as goal

pub returns-in-Some : goal.returns-in-Some
returns-in-Some c =
    let split : c.args.words.now ≡ c.in-Some.word.now ∷ c.in-Some.field-0-1.now = c.in-Some.ensures.cases.0 in
    λ payload fits spelled.
    c.spelled.ensures payload
    (subst (λ (w : List ℕ). Spells w payload) (sym c.as_bytes.ensures.value)
    (first_spells (string_bytes c.in-Some.word.now) (map string_bytes c.in-Some.field-0-1.now) payload fits
    (sym (ap (map string_bytes) split) ∙ spelled)))
