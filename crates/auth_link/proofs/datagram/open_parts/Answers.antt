use Rattle.std.proofs.Common.{◌≡◌, ◌∙◌, ap, List, ℕ, false, not, eqb, take, drop, Some, sym, get_or, rules}
use Rattle.byte_defs.specs.Equality.{same_bytes}
use Rattle.link_defs.specs.Hmac.{hmac}
use Rattle.link_defs.specs.Datagrams.{opened_parts, magic}
use Rattle.link_defs.proofs.Opening.{all_pass, passes_eq, ok}
use Rattle.auth_link.specs.Keys.{pair_key}
use Rattle.auth_link.proofs.datagram.open_parts.Goals as goal

pub returns : goal.returns
unfolding opened_parts
returns c =
    let t = c.args.tagged.now in
    let e : pair_key c.args.keys.now (get_or t 20 0)
    ≡ Some c.in-Some-key.key.now = ap (λ (p : ℕ). pair_key c.args.keys.now p) (sym c.in-Some.ensures.value) ∙ sym c.in-Some-key.ensures in
    let m : not (same_bytes (take 4 t) magic) ≡ false = search rules in
    let g : not (same_bytes (take 16 (drop 4 t)) c.args.keys.now.group) ≡ false = search rules in
    let n : not (eqb (get_or t 21 0) c.args.keys.now.me) ≡ false = passes_eq _ _ (c.if-tagged-get.false ∙ c.get.ensures.value) in
    let b : not (same_bytes c.args.tag.now (hmac c.in-Some-key.key.now t)) ≡ false = search rules in
    all_pass _ _ _ _ c.in-Some-key.key.now (λ k. not (same_bytes c.args.tag.now (hmac k t)))
    (get_or t 20 0, drop 22 t) m g n e b ∙ ap (λ (p : ℕ × List ℕ). ok p)
    (λ i. (sym c.in-Some.ensures.value i, sym c.split_at.ensures.back i))
