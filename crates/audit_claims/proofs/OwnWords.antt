-- Own claims seen one after another.
use Rattle.std.proofs.Common.{◌≡◌, inl, List, [], ◌∷◌, ◌++◌, map, true, refl, sym, ap, subst, ◌∙◌}
use Rattle.std.specs.Prelude.{All}
use Rattle.std.specs.List.{list_all}
use Rattle.std.proofs.lemmas.List.{append-nil, append_assoc}
use Rattle.message_defs.specs.Packing.{Signed, signed_of}
use Rattle.message_defs.specs.Spelling.{IsStatement}
use Rattle.message_defs.specs.Statements.{Claim}
use Rattle.group_defs.specs.Process.{Setting}
use Rattle.group_defs.specs.Hearing.{is_valid}
use Rattle.pool_laws.proofs.Members.{Mem, All-mem, list_all-mem, mem-behind}
use Rattle.stmt_codec.specs.declared.own.OwnClaim.{OwnClaim}
use Rattle.stmt_codec.specs.Views.{signed}
use Rattle.claim_firsts.specs.Tables.{Table}
use Rattle.claim_firsts.specs.Seen.{Saw}

-- the first of the claims were seen, and the others are left
pub record Underway (s : Setting) (before own said : List Claim) (xs : List OwnClaim) (t : Table) : Type 0 where
  pub front : List Claim
  pub left : List Claim
  pub parts : front ++ left ≡ said
  pub rest : map signed_of left ≡ map signed xs
  pub saw : Saw s (before ++ front) (own ++ front) t

pub none-seen : (s : Setting) (before own said : List Claim) (xs : List OwnClaim) (t : Table) → map signed_of said ≡ map signed xs
    → Saw s before own t → Underway s before own said xs t
none-seen s before own said xs t e saw = record {
  front = [];
  left = said;
  parts = refl;
  rest = e;
  saw = subst (λ cs. Saw s cs (own ++ []) t) (sym (append-nil before)) (subst (λ cs. Saw s before cs t) (sym (append-nil own)) saw);
}

module _ (s : Setting) (before own said : List Claim) (x : OwnClaim) (xs : List OwnClaim) (old new : Table)
    (range : All (λ (c : Claim). IsStatement c.statement) said) (valid : list_all (is_valid s) said ≡ true)
    (sees : (claims words : List Claim) (c : Claim) → Saw s claims words old → IsStatement c.statement → signed x ≡ signed_of c
    → is_valid s c ≡ true → Saw s (claims ++ c ∷ []) (words ++ c ∷ []) new) where
  one-of : (front left : List Claim) → front ++ left ≡ said → map signed_of left ≡ signed x ∷ map signed xs
      → Saw s (before ++ front) (own ++ front) old → Underway s before own said xs new
  one-of front [] parts rest saw = absurd cc
  one-of front (c ∷ cs) parts rest saw =
      let same : signed_of c ≡ signed x = cc in
      let others : map signed_of cs ≡ map signed xs = cc in
      let there : Mem c said = subst (Mem c) parts (mem-behind front (c ∷ cs) c (inl refl)) in
      let seen = sees (before ++ front) (own ++ front) c saw (All-mem (λ (c : Claim). IsStatement c.statement) said c range there) (sym same)
      (list_all-mem (is_valid s) said c valid there) in
      record {
        front = front ++ c ∷ [];
        left = cs;
        parts = append_assoc front (c ∷ []) cs ∙ parts;
        rest = others;
        saw = subst (λ ds. Saw s ds (own ++ (front ++ c ∷ [])) new) (append_assoc before front (c ∷ []))
            (subst (λ ds. Saw s ((before ++ front) ++ c ∷ []) ds new) (append_assoc own front (c ∷ [])) seen);
      }

  pub one-seen : (ys : List OwnClaim) → ys ≡ x ∷ xs → Underway s before own said ys old → Underway s before own said xs new
  one-seen ys e u = one-of u.front u.left u.parts (u.rest ∙ ap (map signed) e) u.saw

pub all-said : (s : Setting) (before own said : List Claim) (xs : List OwnClaim) (t : Table) → xs ≡ [] → Underway s before own said xs t
    → Saw s (before ++ said) (own ++ said) t
all-said s before own said xs t none u = subst (λ cs. Saw s (before ++ cs) (own ++ cs) t) whole u.saw
  where
    no-left : (left : List Claim) → map signed_of left ≡ [] → left ≡ []
    no-left [] e = refl
    no-left (c ∷ cs) e = absurd cc

    whole : u.front ≡ said
    whole = sym (append-nil u.front) ∙ ap (λ cs. u.front ++ cs) (sym (no-left u.left (u.rest ∙ ap (map signed) none))) ∙ u.parts
