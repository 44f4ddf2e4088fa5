-- The ports and the lines of hosted processes, one after the other by rising number.
use Rattle.std.proofs.Common.{◌≡◌, ℕ, List, [], ◌∷◌, ◌++◌, sym, ap, subst, append_assoc, ◌∙◌}
use Rattle.std.specs.List.{flat_map}
use Rattle.std.proofs.lemmas.List.{append-nil}
use Rattle.group_defs.specs.Process.{Process}
use Rattle.node_defs.specs.Lines.{host_line}
use Rattle.node_traces.specs.Outside.{LinkSeen, LinkFailed}
use Rattle.opening_laws.specs.Opening.{FailsAtOne}
use Rattle.restored_hosts.specs.Below.{Counts, count_in}
use Rattle.restored_hosts.proofs.Below.{IsAmong}

-- ---- their ports

-- the first are bound, and then the link fails at the next one
pub fails-at : (all left old : List ℕ) (p : ℕ) (k j l : LinkSeen) → old ≡ p ∷ left → IsAmong all old → j ≡ k → LinkFailed j l
    → FailsAtOne all k l
fails-at all left old p k j l steps among still failed = record {
  first = among.done;
  process = p;
  others = left;
  parts = among.splits ∙ ap (λ ps. among.done ++ ps) steps;
  failed = subst (λ (x : LinkSeen). LinkFailed x l) still failed;
}

-- ---- their lines

abbrev pub lines_of : (ℕ → Process) → Counts → List ℕ → List ℕ
lines_of now counts ps = flat_map (λ p. host_line (now p) (count_in counts p)) ps

-- one line more
pub one-reported : (now : ℕ → Process) (counts : Counts) (p : ℕ) (left old text new : List ℕ) (all : List ℕ) → old ≡ p ∷ left
    → text ++ lines_of now counts old ≡ all → new ≡ text ++ host_line (now p) (count_in counts p)
    → new ++ lines_of now counts left ≡ all
one-reported now counts p left old text new all steps before reported =
    ap (λ t. t ++ lines_of now counts left) reported
    ∙ append_assoc text (host_line (now p) (count_in counts p)) (lines_of now counts left)
    ∙ ap (λ ps. text ++ lines_of now counts ps) (sym steps) ∙ before

pub all-reported : (now : ℕ → Process) (counts : Counts) (left text all : List ℕ) → left ≡ [] → text ++ lines_of now counts left ≡ all → text ≡ all
all-reported now counts left text all none before =
    sym (append-nil text) ∙ ap (λ ps. text ++ lines_of now counts ps) (sym none) ∙ before
