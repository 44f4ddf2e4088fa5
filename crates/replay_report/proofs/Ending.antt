-- The lines of a report, one after the other.
use Rattle.std.proofs.Common.{◌≡◌, ℕ, Bool, true, false, List, ◌++◌, map, length, codes, sym, ap, ◌∙◌, append_assoc}
use Rattle.std.specs.List.{flat_map}
use Rattle.std.proofs.lemmas.List.{length-map}
use Rattle.group_defs.specs.Family.{Family, ends}
use Rattle.replay_defs.specs.Schedules.{Header}
use Rattle.replay_defs.specs.Worlds.{World, family_of}
use Rattle.replay_defs.specs.Reports.{answer_line, answer_lines, head_lines, refused_count, refused_line, process_line, block, report_by}
use Rattle.report_lines.specs.declared.answers.Answers.{Answers}
use Rattle.replay_questions.specs.Runs.{World as CodeWorld}
use Rattle.replay_questions.specs.Worlds.{refused}
use Rattle.replay_questions.specs.Worlds.{Shows}
use Rattle.replay_report.specs.Answered.{AreAnswers}
use Rattle.replay_report.specs.Lines.{middle_lines}
use Rattle.replay_report.proofs.Questions.{written_of_ends}

-- ---- the lines in the middle

pub short_written : (h : Header) (w : CodeWorld) (v : World) (before one new : List ℕ) → Shows h w v → one ≡ before ++ refused_count v
    → new ≡ one ++ flat_map (λ c. process_line c.now) v.players
    → new ≡ before ++ middle_lines true v (family_of h v)
short_written h w v before one new shows first second =
    second ∙ ((λ i. first i ++ written_of_ends process_line h v.players shows.ran i) ∙ append_assoc before (refused_count v)
    (flat_map process_line (ends (family_of h v))))

pub long_written : (h : Header) (w : CodeWorld) (v : World) (before one new : List ℕ) → Shows h w v
    → one ≡ before ++ flat_map refused_line (map refused w.refused.items)
    → new ≡ one ++ flat_map (λ c. block w.spent.items c.now) v.players → new ≡ before ++ middle_lines false v (family_of h v)
long_written h w v before one new shows first second =
    second
    ∙ ((λ i. first i ++ flat_map (λ c. block (shows.spent i) c.now) v.players)
    ∙ ((λ i. (before ++ flat_map refused_line (shows.refused i)) ++ written_of_ends (block v.spent) h v.players shows.ran i)
    ∙ append_assoc before (flat_map refused_line v.refused) (flat_map (block v.spent) (ends (family_of h v)))))

-- how many were refused
pub refused_many : (h : Header) (w : CodeWorld) (v : World) → Shows h w v → length v.refused ≡ length w.refused.items
refused_many h w v shows = ap length (sym shows.refused) ∙ length-map w.refused.items refused

-- ---- the whole

pub report_written : (short : Bool) (v : World) (f : Family) (a : Answers) (one two out : List ℕ) → AreAnswers f a → one ≡ head_lines v
    → two ≡ one ++ middle_lines short v f
    → out ≡ two ++ (answer_line (codes "honest") a.honest ++ answer_line (codes "bounded") a.bounded ++ answer_line (codes "agree") a.agree
    ++ answer_line (codes "sound") a.sound)
    → out ≡ report_by short v f
report_written short v f a one two out are first second third = all ∙ go short
  where
    all : out ≡ (head_lines v ++ middle_lines short v f) ++ answer_lines f
    all =
        third
        ∙ ((λ i. second i ++ (answer_line (codes "honest") (are.honest i) ++ answer_line (codes "bounded") (are.bounded i)
        ++ answer_line (codes "agree") (are.agree i) ++ answer_line (codes "sound") (are.sound i)))
        ∙ ap (λ t. (t ++ middle_lines short v f) ++ answer_lines f) first)

    go : (b : Bool) → (head_lines v ++ middle_lines b v f) ++ answer_lines f ≡ report_by b v f
    go true = ap (λ t. t ++ answer_lines f) (sym (append_assoc (head_lines v) (refused_count v) (flat_map process_line (ends f))))
    go false = ap (λ t. t ++ answer_lines f)
        (sym (append_assoc (head_lines v) (flat_map refused_line v.refused) (flat_map (block v.spent) (ends f))))
