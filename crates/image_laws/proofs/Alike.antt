-- Processes that are alike take in an event alike.
use Rattle.std.proofs.Common.{◌≡◌, ◌≢◌, ℕ, List, [], ◌∷◌, ◌++◌, Bool, true, false, Option, Some, None, refl, sym, ap, ◌∙◌, subst}
use Rattle.std.specs.Prelude.{if◌then◌else◌, ◌==◌, ◌&&◌}
use Rattle.std.specs.List.{list_any}
use Rattle.std.proofs.lemmas.Bool.{eq-eqb, eqb-true, false≢true}
use Rattle.std.proofs.lemmas.List.{append-nil, append_assoc}
use Rattle.byte_defs.specs.Orders.{put}
use Rattle.message_defs.specs.Updates.{Update, Remove, Add, Renew}
use Rattle.message_defs.specs.Claims.{Claims, Wants, Faulty}
use Rattle.message_defs.specs.Statements.{Claim, slot_of, same_slot}
use Rattle.group_defs.specs.Process.{Setting, Process}
use Rattle.group_defs.specs.Certified.{claim_on}
use Rattle.group_defs.specs.Hearing.{Verdict, Old, Early, Stranger, OutOfWindow, Known, Unsigned, Conflict, Heard, verdict, with_verdict, kept_conflicts, hear, hear_all}
use Rattle.group_defs.specs.Events.{Event, Submit, Hand, Suspect, Join, RenewView, Tick, perceives, take_in}
use Rattle.pool_laws.proofs.Members.{Mem, All-mem, mem-All, mem-list_any, each-snoc, find-is}
use Rattle.pool_laws.proofs.Places.{all-pairs, pairs-all, pairs-snoc}
use Rattle.pool_laws.proofs.Tests.{and-first}
use Rattle.image_defs.specs.Images.{conflict_key, by_signer}
use Rattle.image_laws.specs.Alike.{OnePairEach}
use Rattle.image_laws.proofs.BySigner.{Others, by_signer-snoc, any-by_signer}
use Rattle.image_laws.proofs.Hearing.{asks-pairs}
use Rattle.image_laws.proofs.Holding.{holding, verdict-same, perceives-same}

-- ---- one pair of each signer

abbrev pub IsOne : Claim × Claim → Type 0
IsOne e = e.0.signer ≡ e.1.signer

one-more : (es : List (Claim × Claim)) (e : Claim × Claim) → OnePairEach es → IsOne e → ((d : Claim × Claim) → Mem d es → Others d e)
    → OnePairEach (es ++ e ∷ [])
one-more es e ones one other = record {
  of_one = mem-All IsOne (es ++ e ∷ []) (each-snoc IsOne es e (λ d m. All-mem IsOne es d ones.of_one m) one);
  one_each = pairs-all Others (es ++ e ∷ []) (pairs-snoc Others es e (all-pairs Others es ones.one_each) other);
}

-- a signer of which there is no pair is another
new-signer : (es : List (Claim × Claim)) (n : ℕ) → OnePairEach es → list_any (λ (e : Claim × Claim). e.1.signer == n) es ≡ false
    → (d : Claim × Claim) → Mem d es → d.0.signer ≢ n
new-signer es n ones none d m = λ same. false≢true
    (sym none ∙ mem-list_any (λ (e : Claim × Claim). e.1.signer == n) es d m
    (eq-eqb d.1.signer n (sym (All-mem IsOne es d ones.of_one m) ∙ same)))

-- ---- what the same change adds

-- the pairs that one list gained, the other gained too
pub record Gained (p : Process) (cs : List (Claim × Claim)) (p' q' : Process) : Type 0 where
  pub news : List (Claim × Claim)
  pub first : p'.conflicts ≡ p.conflicts ++ news
  pub second : q' ≡ holding (cs ++ news) p'
  pub pairs : by_signer (cs ++ news) ≡ by_signer (p.conflicts ++ news)
  pub one_each : OnePairEach (p.conflicts ++ news)
  pub other_each : OnePairEach (cs ++ news)

-- with these conflicts it is alike
pub record HoldsAlike (p : Process) (cs : List (Claim × Claim)) : Type 0 where
  pub pairs : by_signer cs ≡ by_signer p.conflicts
  pub one_each : OnePairEach p.conflicts
  pub other_each : OnePairEach cs

gains-nothing : (p : Process) (cs : List (Claim × Claim)) (p' : Process) → p'.conflicts ≡ p.conflicts → HoldsAlike p cs → Gained p cs p' (holding cs p')
gains-nothing p cs p' same is = record {
  news = [];
  first = same ∙ sym (append-nil p.conflicts);
  second = ap (λ ds. holding ds p') (sym (append-nil cs));
  pairs = ap by_signer (append-nil cs) ∙ is.pairs ∙ ap by_signer (sym (append-nil p.conflicts));
  one_each = subst OnePairEach (sym (append-nil p.conflicts)) is.one_each;
  other_each = subst OnePairEach (sym (append-nil cs)) is.other_each;
}

-- ---- hearing

module _ (s : Setting) where
  -- the pair of a signer of which there is none
  new-pair : (p : Process) (cs : List (Claim × Claim)) (e : Claim × Claim) → IsOne e
      → list_any (λ (d : Claim × Claim). d.1.signer == e.1.signer) p.conflicts ≡ false
      → list_any (λ (d : Claim × Claim). d.1.signer == e.1.signer) cs ≡ false → HoldsAlike p cs
      → Gained p cs (record p { conflicts = p.conflicts ++ e ∷ [] }) (holding (cs ++ e ∷ []) p)
  new-pair p cs e one none none' is =
      let other : (d : Claim × Claim) → Mem d p.conflicts → Others d e
      = λ d m same. new-signer p.conflicts e.1.signer is.one_each none d m (same ∙ one) in
      let other' : (d : Claim × Claim) → Mem d cs → Others d e
      = λ d m same. new-signer cs e.1.signer is.other_each none' d m (same ∙ one) in
      record {
        news = e ∷ [];
        first = refl;
        second = refl;
        pairs = by_signer-snoc cs e other' ∙ ap (put conflict_key e) is.pairs ∙ sym (by_signer-snoc p.conflicts e other);
        one_each = one-more p.conflicts e is.one_each one other;
        other_each = one-more cs e is.other_each one other';
      }

  conflict-alike : (p : Process) (cs : List (Claim × Claim)) (c : Claim) → HoldsAlike p cs
      → Gained p cs (record p { conflicts = kept_conflicts p c }) (holding (kept_conflicts (holding cs p) c) p)
  conflict-alike p cs c is = go (there p.conflicts) (there cs) same refl
    where
      there : List (Claim × Claim) → Bool
      there es = list_any (λ (d : Claim × Claim). d.1.signer == c.signer) es

      same : there cs ≡ there p.conflicts
      same = sym (any-by_signer (λ (d : Claim × Claim). d.1.signer == c.signer) cs) ∙ ap there is.pairs
          ∙ any-by_signer (λ (d : Claim × Claim). d.1.signer == c.signer) p.conflicts

      at : Option Claim
      at = claim_on p.pool.heard c.signer (slot_of c.statement)

      more : Option Claim → List (Claim × Claim)
      more o = elim o [ None ↦ [] | Some first ↦ (first, c) ∷ [] ]

      added : (o : Option Claim) → at ≡ o → there p.conflicts ≡ false → there cs ≡ false
          → Gained p cs (record p { conflicts = p.conflicts ++ more o }) (holding (cs ++ more o) p)
      added None e none none' = subst (λ ds. Gained p cs (record p { conflicts = ds }) (holding (cs ++ []) p)) (sym (append-nil p.conflicts))
          (subst (λ ds. Gained p cs p (holding ds p)) (sym (append-nil cs)) (gains-nothing p cs p refl is))
      added (Some first) e none none' =
          let found = find-is (λ (d : Claim). (d.signer == c.signer) && same_slot (slot_of d.statement) (slot_of c.statement)) p.pool.heard first e in
          new-pair p cs (first, c) (eqb-true first.signer c.signer (and-first _ _ found.1)) none none' is

      go : (b b' : Bool) → b' ≡ b → there p.conflicts ≡ b
          → Gained p cs (record p { conflicts = if b then p.conflicts else p.conflicts ++ more at }) (holding (if b' then cs else cs ++ more at) p)
      go true true e known = gains-nothing p cs p refl is
      go false false e known = added at refl known (same ∙ known)
      go true false e known = absurd (false≢true e)
      go false true e known = absurd (false≢true (sym e))

  verdict-alike : (v : Verdict) (p : Process) (cs : List (Claim × Claim)) (c : Claim) → HoldsAlike p cs
      → Gained p cs (with_verdict v p c) (with_verdict v (holding cs p) c)
  verdict-alike Heard p cs c is = gains-nothing p cs (with_verdict Heard p c) refl is
  verdict-alike Conflict p cs c is = conflict-alike p cs c is
  verdict-alike Old p cs c is = gains-nothing p cs p refl is
  verdict-alike Early p cs c is = gains-nothing p cs p refl is
  verdict-alike Stranger p cs c is = gains-nothing p cs p refl is
  verdict-alike OutOfWindow p cs c is = gains-nothing p cs p refl is
  verdict-alike Known p cs c is = gains-nothing p cs p refl is
  verdict-alike Unsigned p cs c is = gains-nothing p cs p refl is

  hear-alike : (p : Process) (cs : List (Claim × Claim)) (c : Claim) → HoldsAlike p cs → Gained p cs (hear s p c) (hear s (holding cs p) c)
  hear-alike p cs c is = subst (λ v. Gained p cs (hear s p c) (with_verdict v (holding cs p) c)) (sym (verdict-same s cs p c))
      (verdict-alike (verdict s p c) p cs c is)

  -- one change after the other
  both : (p : Process) (cs : List (Claim × Claim)) (p1 q1 p2 q2 : Process) (one : Gained p cs p1 q1) → Gained p1 (cs ++ one.news) p2 q2
      → Gained p cs p2 q2
  both p cs p1 q1 p2 q2 one two =
      let whole : p1.conflicts ++ two.news ≡ p.conflicts ++ (one.news ++ two.news)
      = ap (λ ds. ds ++ two.news) one.first ∙ append_assoc p.conflicts one.news two.news in
      let whole' : (cs ++ one.news) ++ two.news ≡ cs ++ (one.news ++ two.news) = append_assoc cs one.news two.news in
      record {
        news = one.news ++ two.news;
        first = two.first ∙ whole;
        second = two.second ∙ ap (λ ds. holding ds p2) whole';
        pairs = ap by_signer (sym whole') ∙ two.pairs ∙ ap by_signer whole;
        one_each = subst OnePairEach whole two.one_each;
        other_each = subst OnePairEach whole' two.other_each;
      }

  -- alike after it too
  pub still : (p : Process) (cs : List (Claim × Claim)) (p' q' : Process) (g : Gained p cs p' q') → HoldsAlike p' (cs ++ g.news)
  still p cs p' q' g = record {
    pairs = g.pairs ∙ ap by_signer (sym g.first);
    one_each = subst OnePairEach (sym g.first) g.one_each;
    other_each = g.other_each;
  }

  all-alike : (claims : List Claim) (p : Process) (cs : List (Claim × Claim)) → HoldsAlike p cs
      → Gained p cs (hear_all s p claims) (hear_all s (holding cs p) claims)
  unfolding hear_all
  all-alike [] p cs is = gains-nothing p cs p refl is
  all-alike (c ∷ claims) p cs is =
      let one = hear-alike p cs c is in
      both p cs (hear s p c) (hear s (holding cs p) c) (hear_all s (hear s p c) claims) (hear_all s (hear s (holding cs p) c) claims) one
      (subst (λ q. Gained (hear s p c) (cs ++ one.news) (hear_all s (hear s p c) claims) (hear_all s q claims)) (sym one.second)
      (all-alike claims (hear s p c) (cs ++ one.news) (still p cs (hear s p c) (hear s (holding cs p) c) one)))

  -- ---- taking in

  perceives-alike : (p : Process) (cs : List (Claim × Claim)) (u : Update) → HoldsAlike p cs → Gained p cs (perceives p u) (perceives (holding cs p) u)
  perceives-alike p cs u is = subst (Gained p cs (perceives p u)) (sym (perceives-same s cs p u)) (gains-nothing p cs (perceives p u) (asks-pairs p u) is)

  pub taking-alike : (p : Process) (cs : List (Claim × Claim)) (e : Event) → HoldsAlike p cs
      → Gained p cs (take_in s p e) (take_in s (holding cs p) e)
  taking-alike p cs (Submit payload) is = gains-nothing p cs (take_in s p (Submit payload)) refl is
  taking-alike p cs (Hand from (Claims claims)) is = all-alike claims p cs is
  taking-alike p cs (Hand from (Wants x k)) is = gains-nothing p cs p refl is
  taking-alike p cs (Hand from (Faulty fault)) is = gains-nothing p cs p refl is
  taking-alike p cs (Suspect q) is = perceives-alike p cs (Remove q) is
  taking-alike p cs (Join q) is = perceives-alike p cs (Add q) is
  taking-alike p cs RenewView is = perceives-alike p cs Renew is
  taking-alike p cs Tick is = gains-nothing p cs p refl is
