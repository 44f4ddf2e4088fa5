-- Signing puts claims of the current view behind those that are signed.
use Rattle.std.proofs.Common.{◌≡◌, ℕ, zero, suc, List, [], ◌∷◌, ◌++◌, Option, None, Some, Bool, true, false, refl, sym, ap, ◌∙◌, subst}
use Rattle.std.specs.Prelude.{All, is_some}
use Rattle.std.proofs.lemmas.List.{append-nil, append_assoc}
use Rattle.message_defs.specs.Updates.{Value}
use Rattle.message_defs.specs.Statements.{Statement, Claim, view_of}
use Rattle.group_defs.specs.Process.{Kind, Setting, Process}
use Rattle.group_defs.specs.Due.{least_due, may_sign, offers}
use Rattle.group_defs.specs.Signing.{Signer, Signing, own_claim, signs, sign_kind, sign_kinds, sign_all}
use Rattle.std.proofs.lemmas.List.Elements.{All-nil, All-cons, All-append}
use Rattle.pool_laws.proofs.Members.{filter-mem}
use Rattle.rule_laws.proofs.LeastIsDue.{least_due-passes}
use Rattle.safety_laws.proofs.MaySign.{signing-view}
use Rattle.event_laws.specs.Parts.{HasSigned, SigningLeaves}

signs-none : (p : Process) → HasSigned p p
signs-none p = record {
  rest = refl;
  more = [];
  signed = sym (append-nil p.signed);
  here = All-nil (λ (c : Claim). view_of c.statement ≡ p.pool.view.number);
}

signs-one : (s : Setting) (signer : Signer) (kind : Kind) (p : Process) (st : Statement) → least_due s p kind ≡ Some st
    → HasSigned p (signs s signer p st)
signs-one s signer kind p st e = record {
  rest = refl;
  more = own_claim s signer p st ∷ [];
  signed = refl;
  here = All-cons (λ (c : Claim). view_of c.statement ≡ p.pool.view.number)
      (own_claim s signer p st) [] (signing-view s p st (filter-mem (may_sign s p) (offers kind s p) st (least_due-passes s p kind st e)).1)
      (All-nil (λ (c : Claim). view_of c.statement ≡ p.pool.view.number));
}

signs-both : (p q r : Process) → HasSigned p q → HasSigned q r → HasSigned p r
signs-both p q r a b = record {
  rest = b.rest ∙ ap (λ (x : Process). record x { pool = record { view = x.pool.view; heard = r.pool.heard }; signed = r.signed }) a.rest;
  more = a.more ++ b.more;
  signed = b.signed ∙ ap (λ cs. cs ++ b.more) a.signed ∙ append_assoc p.signed a.more b.more;
  here = All-append (λ (c : Claim). view_of c.statement ≡ p.pool.view.number) a.more b.more a.here
      (subst (λ (x : Process). All (λ (c : Claim). view_of c.statement ≡ x.pool.view.number) b.more) a.rest b.here);
}

of-kind : (s : Setting) (signer : Signer) (kind : Kind) (left : ℕ) (p : Process) → HasSigned p (sign_kind s signer kind left p).now
unfolding sign_kind
of-kind s signer kind zero p = signs-none p
of-kind s signer kind (suc left) p = go (least_due s p kind) refl (of-kind s signer kind left)
  where
    go : (o : Option Statement) → least_due s p kind ≡ o → ((q : Process) → HasSigned q (sign_kind s signer kind left q).now)
        → let it : Signing = elim o [
          | None ↦ record { now = p; left = suc left; spent = false }
          | Some st ↦ sign_kind s signer kind left
              (signs s signer p st)
        ] in HasSigned p it.now
    go None e more = signs-none p
    go (Some st) e more = signs-both p (signs s signer p st) _ (signs-one s signer kind p st e) (more (signs s signer p st))

of-kinds : (s : Setting) (signer : Signer) (ks : List Kind) (left : ℕ) (p : Process) → HasSigned p (sign_kinds s signer ks left p).now
unfolding sign_kinds
of-kinds s signer [] left p = signs-none p
of-kinds s signer (kind ∷ ks) left p =
    let one : Signing = sign_kind s signer kind left p in
    let first : HasSigned p one.now = of-kind s signer kind left p in
    go one.spent one first (signs-both p one.now _ first (of-kinds s signer ks one.left one.now))
  where
    go : (b : Bool) (one : Signing) → HasSigned p one.now → HasSigned p (sign_kinds s signer ks one.left one.now).now
        → let it : Signing = elim b [ true ↦ one | false ↦ sign_kinds s signer ks one.left one.now ] in HasSigned p it.now
    go true one here there = here
    go false one here there = there

pub signing_leaves : SigningLeaves
unfolding sign_all
signing_leaves s signer left p = go p.decision
  where
    go : (o : Option (ℕ × Value)) → let it : Signing = elim o [
      | None ↦ sign_kinds s signer s.signs left p
      | Some d ↦ record {
        now = p;
        left = left;
        spent = false;
      }
    ] in HasSigned p it.now
    go None = of-kinds s signer s.signs left p
    go (Some d) = signs-none p
