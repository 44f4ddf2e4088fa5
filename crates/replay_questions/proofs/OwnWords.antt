-- A claim is a player's own word exactly where it is its process's.
use Rattle.std.proofs.Common.{◌≡◌, Bool, ◌==◌, ◌&&◌, ◌||◌, not, List, [], ◌∷◌, map, Result, Ok, Err, refl, sym, ap, ◌∙◌, inl, inr}
use Rattle.std.specs.Prelude.{All}
use Rattle.std.specs.List.{list_any, list_all, AllByRecursion}
use Rattle.std.specs.Str.{bytes_eq}
use Rattle.std.proofs.lemmas.Bool.Decides.{same_from_decides}
use Rattle.std.proofs.lemmas.Slice.Eq.{bytes_eq-Decides}
use Rattle.message_defs.specs.declared.FrameFault.{FrameFault}
use Rattle.message_defs.specs.Statements.{Statement, Claim, same_statement}
use Rattle.message_defs.specs.Spelling.{IsStatement, IsClaim, spelling}
use Rattle.message_defs.specs.Reading.{statement_of}
use Rattle.statements.proofs.Grammar.{spelling_again}
use Rattle.pool_laws.proofs.Members.{Mem, All-mem}
use Rattle.pool_laws.proofs.Slots.{same_statement-is, is-same_statement}
use Rattle.group_defs.specs.Process.{Setting, Process}
use Rattle.group_defs.specs.Family.{end_of, statements_of}
use Rattle.safety_laws.proofs.Quorums.{me-end_of}
use Rattle.replay_defs.specs.Schedules.{Header}
use Rattle.replay_defs.specs.Worlds as plain
use Rattle.replay_defs.specs.Worlds.{setting_of, correct_of}
use Rattle.sig_scheme.specs.Signers.{used}
use Rattle.sig_scheme.specs.declared.any_signer.AnySigner.{AnySigner}
use Rattle.said_index.specs.Said.{is_said}
use Rattle.replay_world.specs.Cast.{Core, IsCore, Player, Plays, ArePlayers}
use Rattle.replay_world.specs.Worlds.{IsRun}
use Rattle.replay_questions.specs.Owned.{is_word_of}
use Rattle.replay_questions.specs.Words.{says}

-- ---- statements in their ranges are equal where they are spelled alike

-- what was read, or else this one
abbrev read_or : Statement → Result Statement FrameFault → Statement
read_or other (Ok st) = st
read_or other (Err fault) = other

spelled_same : (a b : Statement) → IsStatement a → IsStatement b → bytes_eq (spelling a) (spelling b) ≡ same_statement a b
spelled_same a b one other =
    same_from_decides {P = spelling a ≡ spelling b} (bytes_eq (spelling a) (spelling b)) (same_statement a b)
    (bytes_eq-Decides (spelling a) (spelling b)) (
      λ e. ap spelling (same_statement-is a b e),
      λ e. is-same_statement a b (sym (ap (read_or a) (spelling_again a one)) ∙
          (ap (λ bytes. read_or a (statement_of bytes)) e ∙ ap (read_or a) (spelling_again b other))),
    )

said_same : (st : Statement) (cs : List Claim) → IsStatement st → ((c : Claim) → Mem c cs → IsClaim c)
    → list_any (λ c. bytes_eq (spelling st) (spelling c.statement)) cs ≡ list_any (same_statement st) (map (λ c. c.statement) cs)
said_same st [] fits each = refl
said_same st (c ∷ cs) fits each = λ i. spelled_same st c.statement fits (each c (inl refl)).1 i
    || said_same st cs fits (λ d m. each d (inr m)) i

-- ---- what a process signed is in range

core_said : (s : Setting) (p : Process) (core : Core AnySigner) → IsCore used s p core → All IsClaim p.signed
unfolding IsCore
core_said s p core is = is.keyless.state.lawful.said

-- ---- players

-- the player is not the signer, or said the statement
abbrev pub says_own : Claim → Player → Bool
says_own c p = says c.signer (spelling c.statement) p

module _ (h : Header) (c : Claim) (fits : IsStatement c.statement) where
  word_same : (p : Player) (d : plain.Player) → Plays (setting_of h) p d → IsRun h d
      → says_own c p ≡ is_word_of c (end_of (setting_of h) (correct_of h d))
  word_same p d plays ran =
      let me : p.process ≡ (end_of (setting_of h) (correct_of h d)).me = plays.process ∙ sym (me-end_of (setting_of h) (correct_of h d)) in
      let said : is_said (spelling c.statement) p.said ≡ list_any (same_statement c.statement) (statements_of d.now) =
      plays.said (spelling c.statement) ∙ said_same c.statement d.now.signed fits
      (λ e m. All-mem IsClaim d.now.signed e (core_said (setting_of h) d.now p.core plays.core.is) m) in
      let there : is_said (spelling c.statement) p.said
      ≡ list_any (same_statement c.statement) (statements_of (end_of (setting_of h) (correct_of h d))) =
      said ∙ ap (λ (q : Process). list_any (same_statement c.statement) (statements_of q)) ran in
      λ i. not (me i == c.signer) || there i

  pub words_same : (ps : List Player) (ds : List plain.Player) → ArePlayers (setting_of h) ps ds → AllByRecursion (IsRun h) ds
      → list_all (says_own c) ps ≡ list_all (is_word_of c) (map (end_of (setting_of h)) (map (correct_of h) ds))
  words_same [] [] are ran = refl
  words_same (p ∷ ps) (d ∷ ds) are ran = λ i. word_same p d are.0 ran.0 i && words_same ps ds are.1 ran.1 i
  words_same [] (d ∷ ds) are ran = absurd are
  words_same (p ∷ ps) [] are ran = absurd are
