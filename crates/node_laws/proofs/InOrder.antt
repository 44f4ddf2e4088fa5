-- What processes sign is what their keys sign with the numbers 0, 1, 2 and so on.
use Rattle.std.proofs.Common.{arith, ◌≡◌, ℕ, ◌+◌, List, [], ◌∷◌, ◌++◌, length, Bool, true, false, refl, sym, ap, ◌∙◌, subst, Option, Some, None}
use Rattle.std.specs.Prelude.{◌==◌, if◌then◌else◌, IsTrue}
use Rattle.byte_defs.specs.Members.{has}
use Rattle.message_defs.specs.Statements.{Claim}
use Rattle.group_defs.specs.Process.{Process}
use Rattle.group_defs.specs.Events.{after, run}
use Rattle.journal_defs.specs.Entries.{Event, Entry}
use Rattle.node_defs.specs.Casts.{Cast, from_start, live, outcome_of, entry_for, entries_of, taken_up, turns_from}
use Rattle.node_defs.specs.Nodes.{Node, Snapper, with_turn}
use Rattle.node_defs.specs.Lives.{Found, Run, fresh, with_or_without, leaves, opened_in, last_of, lives, FitsFrom, AreHosted, SignsValidly, IsSound, IsOpened, AreMade, KeysSignInOrder}
use Rattle.node_laws.proofs.Soundness.{bears, turn-processes}
use Rattle.node_laws.proofs.Openings.{opens_sound}
use Rattle.node_laws.proofs.Made.{turn-makes, made-append}
use Rattle.node_laws.proofs.Fitting.{Keeps, run-keeps, left-fits, from-start, start-numbered, one-life}

module _ (c : Cast) (snap : Snapper) where
  -- each process has signed what its key signs in order
  abbrev IsMade : List Entry → Type 0
  IsMade es = (p : ℕ) → AreMade c.setting (c.signer p) p 0 (taken_up c.setting (from-start c p) (entries_of p es)).signed

  made-more : (n : Node) → IsSound c (from-start c) n → (p : ℕ) (e : Event) → IsTrue (has c.hosted p) → IsMade n.kept
      → IsMade (n.kept ++ entry_for c (n.now p) e ∷ [])
  made-more n s p e hosted made q =
      subst (λ (x : Process). AreMade c.setting (c.signer q) q 0 x.signed)
      (turn-processes c snap (from-start c) (start-numbered c) n s (Some (p, e)) q) (go (q == p))
    where
      before : AreMade c.setting (c.signer q) q 0 (n.now q).signed
      before = subst (λ (x : Process). AreMade c.setting (c.signer q) q 0 x.signed) (sym (s.processes q)) (made q)

      me : (n.now q).me ≡ q
      me = bears c snap (from-start c) (start-numbered c) n s q

      go : (b : Bool) → AreMade c.setting (c.signer q) q 0 (if b then after c.setting (n.now q) (live c (n.now q) e) else n.now q).signed
      go false = before
      go true =
          let turn = turn-makes c.setting (n.now q) (live c (n.now q) e) in
          subst (AreMade c.setting (c.signer q) q 0) (sym turn.after)
          (made-append c.setting (c.signer q) q 0 (n.now q).signed (outcome_of c (n.now q) e).signed before
          (subst (λ k. AreMade c.setting (c.signer q) q k (outcome_of c (n.now q) e).signed) (let z : length (n.now q).signed ≡ 0 + length (n.now q).signed = omega arith in z)
          (subst (λ m. AreMade c.setting (c.signer m) m (length (n.now q).signed) (outcome_of c (n.now q) e).signed) me turn.made)))

  lives-made : (f : Found) (rs : List Run) → SignsValidly c → ((b : Bool) → FitsFrom c (from-start c) (with_or_without f b))
      → ((b : Bool) → IsMade (with_or_without f b)) → (b : Bool) → IsMade (with_or_without (lives c snap f rs) b)
  unfolding lives
  lives-made f [] valid fits made b = made b
  lives-made f (r ∷ rs) valid fits made b =
      let o = opens_sound c (from_start c) r.lines (with_or_without f r.with_more) (fits r.with_more) in
      let k = run-keeps c snap (from-start c) (start-numbered c) IsMade made-more (opened_in c f r) r.answers (record {
        sound = o.sound;
        fits = subst IsMade (sym o.kept) (made r.with_more);
        hosted = subst (AreHosted c) (sym o.tasks) tt;
      }) in
      lives-made (leaves c f (last_of c snap f r)) rs valid (one-life c snap f r valid fits).fits
      (left-fits c snap (from-start c) (start-numbered c) IsMade made-more f (last_of c snap f r) k made) b

pub keys_sign_in_order : KeysSignInOrder
unfolding turns_from run
keys_sign_in_order c snap rs b p valid = lives-made c snap fresh rs valid (λ b. none b) (λ b q. empty b q) b p
  where
    none : (b : Bool) → FitsFrom c (from-start c) (with_or_without fresh b)
    none true = tt
    none false = tt

    empty : (b : Bool) (q : ℕ)
        → AreMade c.setting (c.signer q) q 0 (taken_up c.setting (from-start c q) (entries_of q (with_or_without fresh b))).signed
    empty true q = tt
    empty false q = tt
