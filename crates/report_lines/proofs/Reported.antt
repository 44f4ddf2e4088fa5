-- The lines of a process, from what it stands as.
use Rattle.std.proofs.Common.{◌≡◌, ◌==◌, ℕ, List, [], ◌∷◌, ◌++◌, map, length, Option, Some, None, Bool, true, false, codes, refl, sym, ap, ◌∙◌, append_assoc, sum}
use Rattle.std.specs.Prelude.{if◌then◌else◌, option_and_then}
use Rattle.std.specs.List.{flat_map, join_with_byte, enumerate_from}
use Rattle.std.specs.Fmt.{decimal}
use Rattle.std.proofs.lemmas.List.{length-map}
use Rattle.byte_defs.specs.Members.{has}
use Rattle.text_defs.specs.Words.{space, line_text}
use Rattle.message_defs.specs.Updates.{Value}
use Rattle.group_defs.specs.Process.{Process, liars_of, places_in}
use Rattle.group_defs.specs.Settle.{phase_of}
use Rattle.group_defs.specs.Accounts as reported
use Rattle.group_defs.specs.Accounts.{account_of}
use Rattle.replay_defs.specs.Reports.{process_line, view_line, message_lines, liar_line, spent_line, halted_line, block}
use Rattle.accounts.specs.Views.{account}
use Rattle.view_phases.specs.Phases.{word}
use Rattle.report_lines.specs.declared.process_report.ProcessReport.{ProcessReport}
use Rattle.report_lines.specs.Phases.{phase_name}
use Rattle.report_lines.specs.AsReported.{IsAsReported, halted_text}
use Rattle.report_lines.proofs.Pieces.{behind}

pub lengths-same : {A B X : Type 0} (inner : X → List A) (f : A → B) (xs : List X)
    → map length (map (λ x. map f (inner x)) xs) ≡ map (λ x. length (inner x)) xs
lengths-same inner f [] = refl
lengths-same inner f (x ∷ xs) = λ i. length-map (inner x) f i ∷ lengths-same inner f xs i

module _ (t : ProcessReport) (p : Process) (so : IsAsReported t p) where
  abbrev of : reported.Account
  of = account t.account.now

  phase-is : phase_name (phase_of p) ≡ phase_name (word t.phase)
  phase-is = ap phase_name so.phase

  abbrev line : reported.Account → List ℕ → ℕ → List ℕ
  line a w n = line_text (codes "process" ∷ decimal a.me ∷ w ∷ decimal (length a.views) ∷ decimal (sum (map length a.delivered)) ∷ decimal n
      ∷ [])

  -- the first line, in two pieces
  pub process-written : (views delivered : ℕ) (before one new : List ℕ) → views ≡ length of.views
      → delivered ≡ sum (map length of.delivered)
      → one ≡ before ++ join_with_byte space (codes "process" ∷ decimal of.me ∷ phase_name (word t.phase) ∷ [])
      → new ≡ one ++ space ∷ line_text (decimal views ∷ decimal delivered ∷ decimal t.signed ∷ []) → new ≡ before ++ process_line p
  process-written views delivered before one new v d e f =
      let w : List ℕ = phase_name (word t.phase) in
      let name : List ℕ = join_with_byte space (codes "process" ∷ decimal of.me ∷ w ∷ []) in
      let counts : ℕ → ℕ → List ℕ = λ m n. space ∷ line_text (decimal m ∷ decimal n ∷ decimal t.signed ∷ []) in
      let whole : name ++ counts (length of.views) (sum (map length of.delivered)) ≡ line of w t.signed = simp append_assoc in
      let is : line of w t.signed ≡ process_line p =
      ap (λ (a : reported.Account). line a w t.signed) (sym so.account)
      ∙ ap (λ (w : List ℕ). line (account_of p) w t.signed) (sym phase-is)
      ∙ ap (line (account_of p) (phase_name (phase_of p))) (sym so.signed) in
      behind before name (counts views delivered) one new e f
      ∙ ap (λ (n : ℕ). before ++ (name ++ counts n delivered)) v
      ∙ ap (λ (n : ℕ). before ++ (name ++ counts (length of.views) n)) d
      ∙ ap (λ (t : List ℕ). before ++ t) (whole ∙ is)

  views-are : flat_map (view_line of.me) of.views ≡ flat_map (view_line p.me) (account_of p).views
  views-are = ap (λ (a : reported.Account). flat_map (view_line a.me) a.views) (sym so.account)

  deliveries-are : flat_map (message_lines of.me) (enumerate_from 0 of.delivered)
      ≡ flat_map (message_lines p.me) (enumerate_from 0 (account_of p).delivered)
  deliveries-are = ap (λ (a : reported.Account). flat_map (message_lines a.me) (enumerate_from 0 a.delivered)) (sym so.account)

  me-is : of.me ≡ p.me
  me-is = sym (ap (λ (a : reported.Account). a.me) so.account)

  liars-are : flat_map (liar_line of.me) t.liars ≡ flat_map (liar_line p.me) (liars_of p)
  liars-are = ap (λ (n : ℕ). flat_map (liar_line n) t.liars) me-is ∙ ap (flat_map (liar_line p.me)) (sym so.liars)

  abbrev spent_text : Bool → ℕ → List ℕ
  spent_text spent n = if spent then line_text (codes "spent" ∷ decimal n ∷ []) else []

  spent-is : (keys_spent : List ℕ) (spent : Bool) → has keys_spent p.me ≡ spent → spent_text spent of.me ≡ spent_line keys_spent p.me
  spent-is keys_spent spent e = ap (spent_text spent) me-is ∙ ap (λ (b : Bool). spent_text b p.me) (sym e)

  halted-said : halted_line p ≡ halted_text p.me
      (option_and_then (λ d. if p.halted then Some (places_in p.delivered, d.1.cut) else None) p.decision)
  halted-said = go p.decision p.halted
    where
      go : (o : Option (ℕ × Value)) (b : Bool)
          → (elim o [
            | None ↦ []
            | Some d ↦ if b
                then line_text (codes "halted" ∷ decimal p.me ∷ decimal (places_in p.delivered) ∷ decimal d.1.cut ∷ []) else []
          ])
          ≡ halted_text p.me (option_and_then (λ d. if b then Some (places_in p.delivered, d.1.cut) else None) o)
      go None b = refl
      go (Some d) true = refl
      go (Some d) false = refl

  halted-is : halted_text of.me t.halted ≡ halted_line p
  halted-is = ap (λ (n : ℕ). halted_text n t.halted) me-is ∙ ap (halted_text p.me) (sym so.halted) ∙ sym halted-said

  -- the block, in six pieces
  pub block-written : (keys_spent : List ℕ) (spent : Bool) → has keys_spent p.me ≡ spent → (before one two three four five new : List ℕ)
      → one ≡ before ++ process_line p → two ≡ one ++ flat_map (view_line of.me) of.views
      → three ≡ two ++ flat_map (message_lines of.me) (enumerate_from 0 of.delivered) → four ≡ three ++ flat_map (liar_line of.me) t.liars
      → five ≡ four ++ spent_text spent of.me → new ≡ five ++ halted_text of.me t.halted → new ≡ before ++ block keys_spent p
  block-written keys_spent spent has_it before one two three four five new e f g h k l =
      let second = behind before (process_line p)
      (flat_map (view_line p.me) (account_of p).views) one two e (f ∙ ap (λ (t : List ℕ). one ++ t) views-are) in
      let third = behind before _ (flat_map (message_lines p.me) (enumerate_from 0 (account_of p).delivered)) two three second
      (g ∙ ap (λ (t : List ℕ). two ++ t) deliveries-are) in
      let fourth = behind before _ (flat_map (liar_line p.me) (liars_of p)) three four third (h ∙ ap (λ (t : List ℕ). three ++ t) liars-are) in
      let fifth = behind before _ (spent_line keys_spent p.me) four five fourth
      (k ∙ ap (λ (t : List ℕ). four ++ t) (spent-is keys_spent spent has_it)) in
      behind before _ (halted_line p) five new fifth (l ∙ ap (λ (t : List ℕ). five ++ t) halted-is)
