-- The image of its parts, and all of its bytes.
use Rattle.std.proofs.Common.{◌≡◌, ℕ, ◌+◌, ltb, List, [], ◌++◌, length, Result, Ok, Err, refl, sym, ap, subst, ◌∙◌, append_assoc, arith}
use Rattle.std.proofs.lemmas.Bool.{ltb-false}
use Rattle.std.proofs.lemmas.List.{append-nil, nil_from_length}
use Rattle.byte_defs.proofs.Fields.{IsBytes, Takes, Takes-then, bind_ok, refuse_ok, ok_is}
use Rattle.image_defs.specs.Images.{Image}
use Rattle.snapshot_defs.specs.declared.Version.{Version}
use Rattle.snapshot_defs.specs.Reading.{reported_at, claimed_at, settled_at, image_at, whole_at, placed, image_in}
use Rattle.snapshot_defs.specs.Spelling.{reported_bytes, claimed_bytes, settled_bytes, spelled}
use Rattle.snapshot_defs.specs.Ranges.{IsImage}
use Rattle.snapshot_defs.specs.Laws.{ReadIsSpelled, SpelledIsRead}
use Rattle.snapshot_laws.proofs.Parts.{Reported, IsReported, reported_text, reported_is, Claimed, IsClaimed, claimed_text, claimed_is, Settled, IsSettled, settled_text, settled_is}

abbrev image_by : Reported → Claimed → Settled → Image
image_by t c s = record {
  me = t.0;
  left = t.1.0;
  perceived = t.1.1.0;
  accepted = t.1.1.1;
  signed = c.0;
  previous = c.1.0;
  heard = c.1.1.0;
  conflicts = c.1.1.1;
  delivered = s.0;
  decision = s.1.0;
  halted = s.1.1;
}

abbrev reported_of : Image → Reported
reported_of i = (i.me, (i.left, (i.perceived, i.accepted)))

abbrev claimed_of : Image → Claimed
claimed_of i = (i.signed, (i.previous, (i.heard, i.conflicts)))

abbrev settled_of : Image → Settled
settled_of i = (i.delivered, (i.decision, i.halted))

module _ (v : Version) where
  is_image : (t : Reported) (c : Claimed) (s : Settled) → IsReported t → IsClaimed c → IsSettled v (length t.1.0 + 1) s → IsImage v (image_by t c s)
  is_image t c s reported claimed settled = record {
    me = reported.0;
    views = reported.1.0.0;
    left = reported.1.0.1;
    perceived = reported.1.1.0.0;
    perceived_rise = reported.1.1.0.1;
    accepted = reported.1.1.1;
    signed = claimed.0;
    previous = claimed.1.0;
    heard = claimed.1.1.0;
    few = claimed.1.1.1.0.0;
    conflicts = claimed.1.1.1.0.1;
    conflicts_rise = claimed.1.1.1.1;
    lists = settled.0.0;
    delivered = settled.0.1;
    decision = settled.1.0;
  }

  image_takes : (bytes : List ℕ) (x : Image × List ℕ) → IsBytes bytes → image_at v bytes ≡ Ok x
      → Takes bytes (spelled v x.0) x.1 × IsImage v x.0
  unfolding image_at spelled
  image_takes bytes x fits e =
      let a = bind_ok (reported_at bytes) _ x e in
      let b = bind_ok (claimed_at a.0.1) _ x a.2 in
      let c = bind_ok (settled_at v (length a.0.0.1.0 + 1) b.0.1) _ x b.2 in
      let p = reported_is.takes bytes a.0 fits a.1 in
      let q = claimed_is.takes a.0.1 b.0 p.0.rest_fits b.1 in
      let r = (settled_is v (length a.0.0.1.0 + 1)).takes b.0.1 c.0 q.0.rest_fits c.1 in
      let more = Takes-then a.0.1 (claimed_text b.0.0) b.0.1 (settled_text v c.0.0) c.0.1 q.0 r.0 in
      let all = Takes-then bytes (reported_text a.0.0) a.0.1 (claimed_text b.0.0 ++ settled_text v c.0.0) c.0.1 p.0 more in
      let made : Image × List ℕ = (image_by a.0.0 b.0.0 c.0.0, c.0.1) in
      subst (λ (y : Image × List ℕ). Takes bytes (spelled v y.0) y.1 × IsImage v y.0) {x = made} {y = x} (ok_is made x c.2)
      (all, is_image a.0.0 b.0.0 c.0.0 p.1 q.1 r.1)

  image_again : (i : Image) (rest : List ℕ) → IsImage v i → image_at v (spelled v i ++ rest) ≡ Ok (i, rest)
  unfolding image_at spelled
  image_again i rest is =
      let reported : IsReported (reported_of i) = (is.me, ((is.views, is.left), ((is.perceived, is.perceived_rise), is.accepted))) in
      let claimed : IsClaimed (claimed_of i) = (is.signed, (is.previous, (is.heard, ((is.few, is.conflicts), is.conflicts_rise)))) in
      let settled : IsSettled v (length i.left + 1) (settled_of i) = ((is.lists, is.delivered), (is.decision, tt)) in
      rw (
        append_assoc (reported_bytes i) (claimed_bytes i ++ settled_bytes v i) rest,
        reported_is.again (reported_of i) ((claimed_bytes i ++ settled_bytes v i) ++ rest) reported,
        append_assoc (claimed_bytes i) (settled_bytes v i) rest,
        claimed_is.again (claimed_of i) (settled_bytes v i ++ rest) claimed,
        (settled_is v (length i.left + 1)).again (settled_of i) rest settled,
      ) refl

-- ---- all of the bytes

placed_ok : (size : ℕ) (r : Result Image ℕ) (i : Image) → placed size r ≡ Ok i → r ≡ Ok i
placed_ok size (Ok j) i e = e
placed_ok size (Err left) i e = absurd cc

pub read_is_spelled : ReadIsSpelled
unfolding image_in whole_at
read_is_spelled v bytes i fits e =
    let a = bind_ok (image_at v bytes) _ i (placed_ok (length bytes) _ i e) in
    let r = refuse_ok (ltb 0 (length a.0.1)) (length a.0.1) _ i a.2 in
    let p = image_takes v bytes a.0 fits a.1 in
    let none : a.0.1 ≡ [] = nil_from_length a.0.1 (omega (arith, ltb-false _ _ r.0)) in
    let whole : bytes ≡ spelled v a.0.0 = p.0.parts ∙ ap (λ (l : List ℕ). spelled v a.0.0 ++ l) none ∙ append-nil (spelled v a.0.0) in
    subst (λ (j : Image). IsImage v j × (bytes ≡ spelled v j)) (ok_is a.0.0 i r.1) (p.1, whole)

pub spelled_is_read : SpelledIsRead
unfolding image_in whole_at
spelled_is_read v i is =
    let e : image_at v (spelled v i) ≡ Ok (i, []) = ap (image_at v) (sym (append-nil (spelled v i))) ∙ image_again v i [] is in
    rw e refl
