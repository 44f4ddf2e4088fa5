-- What is known of the parts of a state of some process.
use Rattle.std.proofs.Common.{◌≡◌, List, drop, map, Some, sym, ap, ◌∙◌, subst}
use Rattle.std.specs.List.{AllByRecursion, AllByRecursion-prop}
use Rattle.std.proofs.Props.{props}
use Rattle.std.proofs.lemmas.List.Elements.{recursion_from_All}
use Rattle.message_defs.specs.Statements.{Claim}
use Rattle.message_defs.specs.Spelling.{IsClaim}
use Rattle.message_defs.specs.Packing.{Signed}
use Rattle.group_defs.specs.Process.{Setting, Pool, Left, Process}
use Rattle.image_defs.specs.Images.{left_by}
use Rattle.state_image.specs.States.{IsRanged, IsStateOf, ProcessState, claims_of}
use Rattle.member_settling.proofs.Below.{claims-once, statement-once}
use Rattle.state_image.specs.Commits.{claims_as}
use Rattle.state_image.specs.Ranges.{ArePairsRanged, IsCommit}
use Rattle.state_image.proofs.Walks.{all-parts}
use Rattle.state_image.proofs.Read.{all-commits, all-left}

pub pairs-once : (pairs : List (Claim × Claim)) → IsProp (ArePairsRanged pairs)
pairs-once pairs = AllByRecursion-prop (λ (pair : Claim × Claim). IsClaim pair.0 × IsClaim pair.1)
    (λ pair. hlevel (props, statement-once)) pairs

pub commits-once : (commits : List (List Signed)) → IsProp (AllByRecursion (λ cs. IsCommit (claims_as cs)) commits)
commits-once commits = AllByRecursion-prop (λ (cs : List Signed). IsCommit (claims_as cs)) (λ cs. hlevel (props, claims-once)) commits

module _ (s : Setting) (p : Process) (st : ProcessState) (ok : IsStateOf s p st) where
  -- what is signed is in range
  pub signed-parts : AllByRecursion IsClaim (claims_of st.said_before.items) × AllByRecursion IsClaim (drop st.said_from st.said.claims)
  signed-parts = all-parts IsClaim (claims_of st.said_before.items) (drop st.said_from st.said.claims)
      (subst (AllByRecursion IsClaim) ok.signed.whole (recursion_from_All IsClaim p.signed ok.lawful.said))

  pub previous-ranged : (h : Pool) → st.archive.previous ≡ Some h → IsRanged h
  previous-ranged h e = recursion_from_All IsClaim h.heard (ok.ranged.previous_ranged h (ok.kept.previous ∙ e))

  pub pairs-ranged : ArePairsRanged st.conflicts.pairs
  pairs-ranged = subst ArePairsRanged ok.pairs
      (recursion_from_All (λ (pair : Claim × Claim). IsClaim pair.0 × IsClaim pair.1) p.conflicts ok.ranged.pairs_ranged)

  pub commits-ranged : AllByRecursion (λ cs. IsCommit (claims_as cs)) st.archive.commits
  commits-ranged = subst (AllByRecursion (λ (cs : List Signed). IsCommit (claims_as cs))) ok.kept.commits
      (all-commits p.left ok.ranged.commits_ranged ok.ranged.commits_few)

  -- the views that were left are left by what their commit certificates say
  pub left-by : map (λ (cs : List Signed). left_by (claims_as cs)) st.archive.commits ≡ map (λ (l : Left). left_by l.commit) p.left
  left-by = ap (map (λ (cs : List Signed). left_by (claims_as cs))) (sym ok.kept.commits) ∙ all-left p.left ok.ranged.commits_ranged
