use Rattle.std.proofs.Common.{◌≡◌, ◌∙◌, ℕ, [], slice_index_or, subst, sym, inl, inr, arith}
use Rattle.sha2.specs.Sha256.{digest_bytes}
use Rattle.lms_chains.specs.Walks.{end_of}
use Rattle.lms_chains.proofs.Placed.{marked}
use Rattle.lms_chains.proofs.by_length.walk_and_note.Goals as goal

pub returns : goal.returns
returns c = λ i low noted.
    let right : ℕ → Type 0 = λ k. slice_index_or c.walk_into.new.ends k []
    ≡ end_of (digest_bytes c.args.key.now 5) c.args.steps.now.from c.args.steps.now.to c.args.starts.now k in
    let there = c.walk_into.ensures.there in
    elim (marked _ _ i noted) [
      | inl d ↦ subst right (sym (d ∙ c.from-4.ensures)) (there 3 (omega arith))
      | inr noted ↦ elim (marked _ _ i noted) [
        | inl d ↦ subst right (sym (d ∙ c.from-3.ensures)) (there 2 (omega arith))
        | inr noted ↦ elim (marked _ _ i noted) [
          | inl d ↦ subst right (sym (d ∙ c.from-2.ensures)) (there 1 (omega arith))
          | inr noted ↦ elim (marked _ _ i noted) [
            | inl d ↦ subst right (sym (d ∙ c.from.ensures)) (there 0 (omega arith))
            | inr noted ↦ c.walk_into.ensures.kept i (c.requires.sound i low noted)
          ]
        ]
      ]
    ]
