-- One spelling for one statement, and one body for one group, signer and statement.
use Rattle.std.proofs.Common.{◌≡◌, ℕ, List, [], ◌∷◌, ◌++◌, length, take, drop, sym, ap, ◌∙◌}
use Rattle.std.proofs.lemmas.List.{take_at, drop_at, append_cancel_left}
use Rattle.byte_defs.proofs.Fields.{ok_is}
use Rattle.message_defs.specs.declared.FrameFault.{FrameFault}
use Rattle.message_defs.specs.Statements.{Statement}
use Rattle.message_defs.specs.Spelling.{IsStatement, spelling, body}
use Rattle.message_defs.specs.Reading.{statement_of}
use Rattle.statements.proofs.Grammar.{spelling_again}

pub same_statement : (a b : Statement) → IsStatement a → IsStatement b → spelling a ≡ spelling b → a ≡ b
same_statement a b p q e = ok_is {E = FrameFault} a b (sym (spelling_again a p) ∙ ap statement_of e ∙ spelling_again b q)

-- fronts of one length
fronts : (g h s t : List ℕ) (n : ℕ) → length g ≡ n → length h ≡ n → g ++ s ≡ h ++ t → (g ≡ h) × (s ≡ t)
fronts g h s t n lg lh e = (
  sym (take_at g s n lg) ∙ ap (λ (x : List ℕ). take n x) e ∙ take_at h t n lh,
  sym (drop_at g s n lg) ∙ ap (λ (x : List ℕ). drop n x) e ∙ drop_at h t n lh,
)

heads : (p q : ℕ) (s t : List ℕ) → p ∷ s ≡ q ∷ t → (p ≡ q) × (s ≡ t)
heads p q s t e = (cc, cc)

pub same_body : (g h : List ℕ) (p q : ℕ) (a b : Statement) → length g ≡ 16 → length h ≡ 16 → IsStatement a → IsStatement b
    → body g p a ≡ body h q b → (g ≡ h) × (p ≡ q) × (a ≡ b)
same_body g h p q a b lg lh fa fb e =
    let behind = append_cancel_left (82 ∷ 80 ∷ 66 ∷ 49 ∷ []) (g ++ (p ∷ spelling a)) (h ++ (q ∷ spelling b)) e in
    let parts = fronts g h (p ∷ spelling a) (q ∷ spelling b) 16 lg lh behind in
    let ends = heads p q (spelling a) (spelling b) parts.1 in
    (parts.0, ends.0, same_statement a b fa fb ends.1)
