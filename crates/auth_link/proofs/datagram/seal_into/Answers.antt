use Rattle.std.proofs.Common.{◌≡◌, ℕ, ◌+◌, List, ◌++◌, length, take, drop, sym, ◌∙◌, ap, arith, append_assoc, length-append}
use Rattle.std.proofs.lemmas.List.{take_at, drop_at, drop-drop}
use Rattle.std.proofs.Common.{Option, subst, rules}
use Rattle.std.specs.Prelude.{IfSome}
use Rattle.link_defs.specs.Hmac.{hmac}
use Rattle.link_defs.specs.Datagrams.{tagged, sealed}
use Rattle.auth_link.specs.Opening.{sent_by}
use Rattle.auth_link.proofs.datagram.seal_into.Goals as goal

sealed_front : (body tag more : List ℕ) (n : ℕ) → length body ≡ 22 + n → length tag ≡ 32
    → take (n + 54) (body ++ (tag ++ more)) ≡ body ++ tag
sealed_front body tag more n b t =
    ap (λ (l : List ℕ). take (n + 54) l) (sym (append_assoc body tag more)) ∙ take_at (body ++ tag) more (n + 54)
    (omega (arith, length-append body tag))

sealed_behind : (body old tag rest : List ℕ) (n : ℕ) → length body ≡ 22 + n → length old ≡ 22 + n → length tag ≡ 32
    → drop (n + 54) (body ++ (tag ++ drop (length tag) rest)) ≡ drop (n + 54) (old ++ rest)
sealed_behind body old tag rest n b o t =
    ap (λ (l : List ℕ). drop (n + 54) l) (sym (append_assoc body tag (drop (length tag) rest)))
    ∙ drop_at (body ++ tag) (drop (length tag) rest) (n + 54) (omega (arith, length-append body tag))
    ∙ ap (λ (k : ℕ). drop k rest) t
    ∙ ap (λ (l : List ℕ). drop 32 l) (sym (drop_at old rest (22 + n) o))
    ∙ drop-drop 32 (22 + n) (old ++ rest)
    ∙ ap (λ (k : ℕ). drop k (old ++ rest)) same
  where
    same : 22 + n + 32 ≡ n + 54
    same = omega arith

pub returns-clause-sealed : goal.returns-clause-sealed
returns-clause-sealed c =
    let n = length c.args.frame.now in
    let body = c.tagged_into.new.out in
    let tag = c.hmac-tag.result in
    let body_len : length body ≡ 22 + n = omega (arith, c.tagged_into.auto.out, c.split_at_mut-body.ensures.front_len) in
    let tag_len : length tag ≡ 32 = c.hmac-tag.ensures.length in
    let cut : take (n + 54) (body ++ c.put_front.new.out) ≡ body ++ tag =
    ap (λ (l : List ℕ). take (n + 54) (body ++ l)) c.put_front.ensures ∙ sealed_front body tag _ n body_len tag_len in
    let tag_is : tag ≡ hmac c.in-Some.key.now (tagged (sent_by c.args.keys.now c.args.to c.args.frame.now)) =
    c.hmac-tag.ensures.value ∙ ap (λ (l : List ℕ). hmac c.in-Some.key.now l) c.tagged_into.ensures in
    subst (λ (o : Option (List ℕ)). IfSome o
    (λ key. take (n + 54) (body ++ c.put_front.new.out) ≡ sealed key (sent_by c.args.keys.now c.args.to c.args.frame.now)))
    c.in-Some.ensures
    (cut ∙ ap (λ (l : List ℕ). l ++ tag) c.tagged_into.ensures ∙ ap
    (λ (l : List ℕ). tagged (sent_by c.args.keys.now c.args.to c.args.frame.now) ++ l) tag_is)

pub returns-clause-behind : goal.returns-clause-behind
returns-clause-behind c =
    let n = length c.args.frame.now in
    let body = c.tagged_into.new.out in
    let tag = c.hmac-tag.result in
    let body_len : length body ≡ 22 + n = omega (arith, c.tagged_into.auto.out, c.split_at_mut-body.ensures.front_len) in
    let tag_len : length tag ≡ 32 = c.hmac-tag.ensures.length in
    ap (λ (l : List ℕ). drop (n + 54)
    (body ++ l)) c.put_front.ensures ∙ sealed_behind body c.split_at_mut-body.result.0.now tag c.split_at_mut-body.result.1.now n body_len
    c.split_at_mut-body.ensures.front_len tag_len ∙ search rules
