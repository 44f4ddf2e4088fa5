-- What is written of a process's views is read as a chain of them.
use Rattle.std.proofs.Common.{◌≡◌, inl, inr, ℕ, zero, suc, List, [], ◌∷◌, ◌++◌, map, take, Option, Ok, refl, sym, ap, ◌∙◌, subst}
use Rattle.std.specs.Prelude.{All, Contains, IsTrue, flat_map}
use Rattle.std.specs.List.{AllZip}
use Rattle.kit_defs.specs.Kits.{IsKit, Kit}
use Rattle.group_defs.specs.Views.{IsView}
use Rattle.group_defs.specs.Process.{Left, Process, Setting}
use Rattle.group_defs.specs.Hearing.{is_valid}
use Rattle.group_defs.specs.Family.{Correct, end_of, ends}
use Rattle.input_defs.specs.Fronts.{Front}
use Rattle.chain_text_defs.specs.Chains as chains
use Rattle.pool_laws.proofs.Members.{All-mem, Contains-mem, Mem, map-mem, mem-All}
use Rattle.audit_defs.specs.Players.{Player, setting_of}
use Rattle.audit_defs.specs.Audits.{Audited, audited}
use Rattle.audit_defs.specs.Laws.{IsOfListed}
use Rattle.audit_core.proofs.OfListed.{audit_is_of_listed}
use Rattle.audit_core.specs.Walks.{Walk}
use Rattle.audit_core.specs.Ends.{HasCome}
use Rattle.proof_defs.specs.Lines.{lines_of, proofs_text}
use Rattle.proof_defs.specs.Laws.{Began, HasFrame}
use Rattle.proof_laws.proofs.Chains.{lines_are_a_chain}
use Rattle.proof_lines.specs.Seen.{CanTravel}
use Rattle.proof_lines.specs.Taken.{ChainTakes, IsOneFrame}

-- ---- the text

-- the lines of the processes at the end of a walk are those of the family
text-of : (cs : List Player) → flat_map (λ (c : Player). lines_of c.now) cs ≡ flat_map lines_of (map (λ (c : Player). c.now) cs)
text-of [] = refl
text-of (c ∷ cs) = ap (λ (t : List ℕ). lines_of c.now ++ t) (text-of cs)

pub text-is : (a : Audited) (w : Walk) (come : HasCome a w) (text : List ℕ) → text ≡ flat_map (λ (c : Player). lines_of c.now) come.players
    → text ≡ proofs_text a
text-is a w come text is = is ∙ text-of come.players ∙ ap (flat_map lines_of) come.ends

-- ---- the chain

mem-take : {A : Type 0} (n : ℕ) (xs : List A) (x : A) → Mem x (take n xs) → Mem x xs
mem-take zero xs x none = absurd none
mem-take (suc n) [] x none = absurd none
mem-take (suc n) (y ∷ ys) x (inl same) = inl same
mem-take (suc n) (y ∷ ys) x (inr m) = inr (mem-take n ys x m)

module _ (kit : Kit) (listed : List ℕ) (journals : List (List ℕ)) (a : Audited) (k : IsKit kit) (is : audited kit listed journals ≡ Ok a) where
  of : IsOfListed kit listed a
  of = audit_is_of_listed kit listed journals a is

  began : (s : Setting) → s ≡ a.family.setting → (p : Process) → Mem p (ends a.family) → Began s p
  began s same p m =
      let c = map-mem (end_of a.family.setting) a.family.correct p m in
      subst (λ (t : Setting). Began t p) (sym same) (record {
        me = c.0.me;
        batch_limit = c.0.batch_limit;
        turns = c.0.turns;
        is = c.2;
        genesis = subst (λ (t : Setting). IsView t.genesis) (sym of.setting) (record { some = k.some; few = k.most; distinct = k.distinct });
        valid = subst (λ (t : Setting). All (λ c. IsTrue (is_valid t c)) p.signed) (sym of.setting)
            (All-mem (λ (q : Process). All (λ c. IsTrue (is_valid (setting_of kit) c)) q.signed) (ends a.family) p of.valid m);
      })

  has-frames : (p : Process) (n : ℕ) → All CanTravel p.left → All IsOneFrame (take n p.left) → All HasFrame (take n p.left)
  has-frames p n can one = mem-All HasFrame (take n p.left) (λ l m.
      let frame = All-mem IsOneFrame (take n p.left) l one m in
      let travels = All-mem CanTravel p.left l can (mem-take n p.left l m) in
      record { frame = frame.0; one = frame.1; claims = travels.claims; bytes = travels.bytes frame.0 frame.1 })

  pub chain-takes : (w : Walk) (come : HasCome a w) → All (λ (c : Player). All CanTravel c.now.left) come.players → ChainTakes a
  chain-takes w come can front f p n read none same there few one =
      let m = Contains-mem (ends a.family) p there in
      let c = map-mem (λ (c : Player). c.now) come.players p (subst (λ (ps : List Process). Mem p ps) (sym come.ends) m) in
      let travels : All CanTravel p.left = subst (λ (q : Process). All CanTravel q.left) c.2
      (All-mem (λ (c : Player). All CanTravel c.now.left) come.players c.0 can c.1) in
      lines_are_a_chain front f p n read none (began (chains.setting_of f.kit) same p m) few (has-frames p n travels one)
