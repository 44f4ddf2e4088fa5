-- Processes that are alike go on alike, and answer the same.
use Rattle.std.proofs.Common.{◌≡◌, ◌-◌, List, [], ◌∷◌, ◌++◌, length, map, drop, false, Option, Some, None, refl, sym, ap, ◌∙◌, subst}
use Rattle.std.specs.Prelude.{nat_lt}
use Rattle.std.specs.Option.{option_map_or}
use Rattle.std.proofs.Math.Seq.{drop-append_seam}
use Rattle.message_defs.specs.Statements.{Claim}
use Rattle.group_defs.specs.Process.{Setting, Process, places_in, start}
use Rattle.group_defs.specs.Signing.{Signing, sign_all}
use Rattle.group_defs.specs.Settle.{decide, deliver, leave, settle}
use Rattle.group_defs.specs.Sending.{Bundle, others, unless_empty}
use Rattle.group_defs.specs.Events.{Turn, EventFault, Note, Delivers, Installs, Liar, Spent, Halts, Outcome, refusal, take_in, signing, after, run, is_tick, answers, note_if, notes, answered, outcome}
use Rattle.event_laws.proofs.Signed.{signing_leaves}
use Rattle.event_laws.proofs.Settled.{settling_leaves}
use Rattle.pool_laws.proofs.Members.{All-mem, mem-All}
use Rattle.pool_laws.proofs.Places.{all-pairs, pairs-all}
use Rattle.image_defs.specs.Images.{image_of, by_signer}
use Rattle.image_laws.specs.Alike.{OnePairEach, IsAlike, RunsPairOnce, InOrderIsAlike, RestoredIsAlike, outcomes, TurnIsAlike, TurnsAreAlike, RunsAreAlike, ImagesAreSame, PairsAreFound}
use Rattle.image_laws.proofs.BySigner.{Others, each-by_signer, signers-up, up-by_signer, up-pairs, pair-of, pair-by_signer}
use Rattle.image_laws.proofs.Holding.{holding, held, refuses-same, signing-same, delivering-same, leaving-same, bundle-same, answers-same}
use Rattle.image_laws.proofs.Alike.{IsOne, Gained, HoldsAlike, taking-alike, still}
use Rattle.image_laws.proofs.Restoring.{process_is_restored}

-- ---- one turn

holds-moved : (p q : Process) (cs : List (Claim × Claim)) → q.conflicts ≡ p.conflicts → HoldsAlike p cs → HoldsAlike q cs
holds-moved p q cs same is = record {
  pairs = is.pairs ∙ ap by_signer (sym same);
  one_each = subst OnePairEach (sym same) is.one_each;
  other_each = is.other_each;
}

holds-is : (p : Process) (cs : List (Claim × Claim)) → HoldsAlike p cs → IsAlike p (holding cs p)
holds-is p cs is = record { rest = refl; pairs = is.pairs; one_each = is.one_each; other_each = is.other_each }

module _ (s : Setting) (p : Process) (cs : List (Claim × Claim)) (t : Turn) (is : HoldsAlike p cs) where
  taken : Gained p cs (take_in s p t.event) (take_in s (holding cs p) t.event)
  taken = taking-alike s p cs t.event is

  abbrev more : List (Claim × Claim)
  more = cs ++ taken.news

  abbrev one : Signing
  one = signing s p t

  -- delivered, and left
  abbrev done : Process
  done = deliver (decide s one.now)

  abbrev last : Process
  last = leave done

  signed-same : signing s (holding cs p) t ≡ held s more one
  signed-same = ap (sign_all s t.signer t.allowance) taken.second ∙ signing-same s more t.signer t.allowance (take_in s p t.event)

  done-same : deliver (decide s (holding more one.now)) ≡ holding more done
  done-same = delivering-same s more (decide s one.now)

  last-same : leave (deliver (decide s (holding more one.now))) ≡ holding more last
  last-same = ap leave done-same ∙ leaving-same s more done

  last-conflicts : last.conflicts ≡ (take_in s p t.event).conflicts
  unfolding settle
  last-conflicts =
      let left : (settle s one.now).conflicts ≡ one.now.conflicts = (settling_leaves s one.now).conflicts in
      left ∙ ap (λ (q : Process). q.conflicts) (signing_leaves s t.signer t.allowance (take_in s p t.event)).rest

  -- the process

  settled-alike : IsAlike (settle s one.now) (settle s (signing s (holding cs p) t).now)
  unfolding settle
  settled-alike = subst (IsAlike last) (sym (ap (λ (x : Signing). settle s x.now) signed-same ∙ last-same))
      (holds-is last more (holds-moved (take_in s p t.event) last more last-conflicts
      (still s p cs (take_in s p t.event) (take_in s (holding cs p) t.event) taken)))

  after-alike : IsAlike (after s p t) (after s (holding cs p) t)
  unfolding after
  after-alike = subst (λ o. IsAlike (by p (refusal s p t.event)) (by (holding cs p) o)) (sym (refuses-same s cs p t.event))
      (go (refusal s p t.event))
    where
      by : Process → Option EventFault → Process
      by x o = elim o [ None ↦ settle s (signing s x t).now | Some fault ↦ x ]

      go : (o : Option EventFault) → IsAlike (by p o) (by (holding cs p) o)
      go None = settled-alike
      go (Some fault) = holds-is p cs is

  -- the outcome

  -- the notes, where these pairs are new
  abbrev reported : List (Claim × Claim) → List Note
  reported ds =
      map (Delivers p.pool.view.number) (drop (length p.delivered) done.delivered)
      ++ note_if (nat_lt (length p.left) (length last.left)) (Installs last.pool.view)
      ++ map (λ pair. Liar pair.1.signer) ds
      ++ note_if one.spent Spent
      ++ note_if last.halted (Halts (places_in last.delivered) (option_map_or (λ d. d.1.cut) last.decision 0))

  news-same : drop (length cs) more ≡ drop (length p.conflicts) last.conflicts
  news-same = drop-append_seam cs taken.news ∙ sym (drop-append_seam p.conflicts taken.news)
      ∙ ap (drop (length p.conflicts)) (sym (last-conflicts ∙ taken.first))

  notes-same : notes (holding cs p) (held s more one) (deliver (decide s (holding more one.now))) (leave (deliver (decide s (holding more one.now))))
      ≡ notes p one done last
  notes-same = (λ i. notes (holding cs p) (held s more one) (done-same i) (last-same i)) ∙ ap reported news-same

  sent-same : answers s (leave (deliver (decide s (holding more one.now)))) t.event ≡ answers s last t.event
  sent-same = ap (λ x. answers s x t.event) last-same ∙ answers-same s more last t.event

  answered-same : answered s (holding cs p) t (held s more one) ≡ answered s p t one
  answered-same = λ i. record {
    verdict = None;
    heard = length (taken.second i).pool.heard - length p.pool.heard;
    signed = drop (length p.signed) one.now.signed;
    spent = one.spent;
    sends = unless_empty (bundle-same s cs (is_tick t.event) p (holding more one.now) i) Bundle (others p p.pool.view) ++ sent-same i;
    notes = notes-same i;
  }

  outcome-same : outcome s (holding cs p) t ≡ outcome s p t
  outcome-same = ap (by (holding cs p)) (refuses-same s cs p t.event) ∙ go (refusal s p t.event)
    where
      by : Process → Option EventFault → Outcome
      by x o = elim o [
        | None ↦ answered s x t (signing s x t)
        | Some fault ↦ record { verdict = Some fault; heard = 0; signed = []; spent = false; sends = []; notes = [] }
      ]

      go : (o : Option EventFault) → by (holding cs p) o ≡ by p o
      go None = ap (answered s (holding cs p) t) signed-same ∙ answered-same
      go (Some fault) = refl

-- ---- turns

pub turns_are_alike : TurnsAreAlike
turns_are_alike s p q t is =
    let holds : HoldsAlike p q.conflicts = record { pairs = is.pairs; one_each = is.one_each; other_each = is.other_each } in
    subst (λ (x : Process). TurnIsAlike s p x t) (sym is.rest)
    (record { after_it = after-alike s p q.conflicts t holds; answers = outcome-same s p q.conflicts t holds })

pub runs_are_alike : RunsAreAlike
unfolding run outcomes
runs_are_alike s p q [] is = record { after_them = is; answers = refl }
runs_are_alike s p q (t ∷ turns) is =
    let one = turns_are_alike s p q t is in
    let rest = runs_are_alike s (after s p t) (after s q t) turns one.after_it in
    record { after_them = rest.after_them; answers = λ i. one.answers i ∷ rest.answers i }

-- ---- what is alike

itself : (p : Process) → OnePairEach p.conflicts → IsAlike p p
itself p ones = record { rest = refl; pairs = refl; one_each = ones; other_each = ones }

none-each : OnePairEach []
none-each = record { of_one = mem-All IsOne [] (λ e m. absurd m); one_each = pairs-all Others [] (λ i j a b lt at_i at_j. absurd cc) }

pub runs_pair_once : RunsPairOnce
runs_pair_once s me limit turns = (runs_are_alike s (start s me limit) (start s me limit) turns (itself (start s me limit) none-each)).after_them.one_each

pub in_order_is_alike : InOrderIsAlike
in_order_is_alike p ones =
    let up = signers-up p.conflicts (all-pairs Others p.conflicts ones.one_each) in
    record {
      rest = refl;
      pairs = up-by_signer (by_signer p.conflicts) up;
      one_each = ones;
      other_each = record {
        of_one = mem-All IsOne (by_signer p.conflicts) (each-by_signer IsOne p.conflicts (λ e m. All-mem IsOne p.conflicts e ones.of_one m));
        one_each = pairs-all Others (by_signer p.conflicts) (up-pairs (by_signer p.conflicts) up);
      };
    }

pub restored_is_alike : RestoredIsAlike
restored_is_alike s me limit turns view =
    subst (IsAlike (run s (start s me limit) turns)) (sym (process_is_restored s me limit turns view))
    (in_order_is_alike (run s (start s me limit) turns) (runs_pair_once s me limit turns))

-- ---- what is said of them

pub images_are_same : ImagesAreSame
images_are_same p q is = ap image_of is.rest ∙ ap (λ ds. record (image_of p) { conflicts = ds }) is.pairs

pub pairs_are_found : PairsAreFound
pairs_are_found p q n is =
    sym (pair-by_signer n q.conflicts (all-pairs Others q.conflicts is.other_each.one_each)) ∙ ap (pair-of n) is.pairs
    ∙ pair-by_signer n p.conflicts (all-pairs Others p.conflicts is.one_each.one_each)
