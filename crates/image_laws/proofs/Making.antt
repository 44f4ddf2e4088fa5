-- Runs make processes that fit, and their images are kept.
use Rattle.std.proofs.Common.{◌≡◌, ◌≤◌, ℕ, List, [], ◌∷◌, ◌++◌, refl, sym, ap, subst, arith}
use Rattle.std.specs.Prelude.{All, IsTrue}
use Rattle.message_defs.specs.Statements.{Claim}
use Rattle.group_defs.specs.Views.{IsView}
use Rattle.group_defs.specs.Process.{Setting, Process, places_in, start}
use Rattle.group_defs.specs.Hearing.{is_valid}
use Rattle.group_defs.specs.Family.{claims_in, handed_to}
use Rattle.group_defs.specs.Events.{Turn, after, run}
use Rattle.pool_laws.proofs.Members.{Mem, All-mem, mem-All, mem-append, mem-behind}
use Rattle.safety_laws.proofs.Induction.{Keeps, AreFrom, after-keeps}
use Rattle.image_defs.specs.Images.{image_of, process_of, by_signer, in_order}
use Rattle.image_defs.specs.Kept.{IsKeptProcess}
use Rattle.image_laws.specs.Keeping.{InRange, LeftFits, HeardFits, DecisionFits}
use Rattle.image_laws.specs.Made.{Fits, RunsFit, ImagesAreKept}
use Rattle.image_laws.proofs.Restoring.{process_is_restored}
use Rattle.image_laws.proofs.Leaving.{left_is_kept}
use Rattle.image_laws.proofs.Placing.{all-deliveries, nothing-stands}
use Rattle.message_defs.specs.Limits.{most_places}
use Rattle.group_defs.specs.Accounts.{IsByPlace}
use Rattle.image_laws.proofs.BySigner.{Others, each-by_signer, signers-up, up-pairs}
use Rattle.pool_laws.proofs.Places.{all-pairs, pairs-all}
use Rattle.image_laws.proofs.Hearing.{IsPair, heard_is_kept, heard-is, heard-was, is-heard, moved, moved-before, was-heard}
use Rattle.image_laws.proofs.Signing.{signed_is_kept}
use Rattle.image_laws.proofs.Placing.{placed_is_kept}
use Rattle.image_laws.proofs.Deciding.{decision_is_kept}
use Rattle.image_laws.proofs.Accepting.{accepted_is_kept}
use Rattle.image_laws.proofs.Perceiving.{perceived_is_kept}

-- ---- what was signed stays signed

stays-signed : (s : Setting) (from : List Claim) (c : Claim) → Keeps s from (λ p. Mem c p.signed)
stays-signed s from c = record {
  accepts = λ p payload ok. ok;
  perceives = λ p e ok. ok;
  hears = λ p d m e ok. ok;
  doubts = λ p conflicts ok. ok;
  signs = λ p signer st next none ok. mem-append p.signed _ c ok;
  decides = λ p ok. ok;
  delivers = λ p ds member room e ok. ok;
  installs = λ p d decided whole ok. ok;
  halts = λ p d decided member ok. ok;
}

signed-after : (s : Setting) (p : Process) (t : Turn) (c : Claim) → Mem c p.signed → Mem c (after s p t).signed
signed-after s p t c m = after-keeps s (claims_in t.event) (λ q. Mem c q.signed) (stays-signed s (claims_in t.event) c) t (unfold AreFrom in λ d n. n) p m

signed-run : (s : Setting) (p : Process) (turns : List Turn) (c : Claim) → Mem c p.signed → Mem c (run s p turns).signed
unfolding run
signed-run s p [] c m = m
signed-run s p (t ∷ turns) c m = signed-run s (after s p t) turns c (signed-after s p t c m)

-- ---- runs

one-fits : (s : Setting) (p : Process) (t : Turn) → All (λ c. IsTrue (is_valid s c)) (after s p t).signed
    → All (λ c. InRange c.statement) (claims_in t.event) → Fits s p → Fits s (after s p t)
one-fits s p t valid handed fits = record {
  left = left_is_kept s p t valid fits.heard fits.decision fits.left;
  heard = heard_is_kept s p t valid fits.heard;
  signed = signed_is_kept s p t valid fits.signed;
  placed = placed_is_kept s p t handed fits.placed;
  decision = decision_is_kept s p t fits.decision;
  accepted = accepted_is_kept s p t fits.accepted;
  perceived = perceived_is_kept s p t fits.perceived;
}

pub runs_fit : RunsFit
unfolding run
runs_fit s p [] valid handed fits = fits
runs_fit s p (t ∷ turns) valid handed fits =
    runs_fit s (after s p t) turns valid
    (mem-All (λ (c : Claim). InRange c.statement) (handed_to turns)
    (λ c m. All-mem (λ (c : Claim). InRange c.statement) (claims_in t.event ++ handed_to turns) c handed (mem-behind (claims_in t.event) (handed_to turns) c m)))
    (one-fits s p t
    (mem-All (λ (c : Claim). IsTrue (is_valid s c)) (after s p t).signed
    (λ c m. All-mem (λ (c : Claim). IsTrue (is_valid s c)) (run s (after s p t) turns).signed c valid (signed-run s (after s p t) turns c m)))
    (mem-All (λ (c : Claim). InRange c.statement) (claims_in t.event)
    (λ c m. All-mem (λ (c : Claim). InRange c.statement) (claims_in t.event ++ handed_to turns) c handed (mem-append (claims_in t.event) (handed_to turns) c m)))
    fits)

-- ---- a process that starts

none-of : {A : Type 0} (P : A → Type 0) → All P []
none-of P = mem-All P [] (λ x m. absurd m)

starts-fit : (s : Setting) (me limit : ℕ) → IsView s.genesis → Fits s (start s me limit)
starts-fit s me limit view = record {
  left = record { left = tt; last = tt; none_before = λ e. refl; current = refl; view = view };
  heard = record {
    heard = is-heard s (start s me limit) (record {
      view = λ c m. absurd m;
      known = λ c m. absurd m;
      within = λ c m. absurd m;
      valid = λ c m. absurd m;
      once = λ i j a b lt at. absurd cc;
    });
    was_heard = tt;
    conflicts = none-of _;
    one_each = λ i j d lt far. absurd (omega (arith, far));
  };
  signed = record { own = none-of _; once = λ i j d lt far. absurd (omega (arith, far)); heard_own = none-of _ };
  placed = record {
    by_place = all-deliveries IsByPlace (start s me limit) (λ l m. absurd m) nothing-stands.0;
    few_places = all-deliveries (λ ds. places_in ds ≤ most_places) (start s me limit) (λ l m. absurd m) nothing-stands.1;
    outside = λ e. refl;
    placed = λ k lt. absurd (omega (arith, lt));
    paid = none-of _;
    in_range = none-of _;
  };
  decision = record { decided = λ d e. absurd cc; halted = ((λ e. absurd cc), λ x. absurd cc) };
  accepted = record { short = none-of _; backlog = omega arith };
  perceived = none-of _;
}

-- how the views were left asks nothing of what is handed over
lefts-run : (s : Setting) (p : Process) (turns : List Turn) → All (λ c. IsTrue (is_valid s c)) (run s p turns).signed → HeardFits s p
    → DecisionFits s p → LeftFits s p → LeftFits s (run s p turns)
unfolding run
lefts-run s p [] valid heard decision left = left
lefts-run s p (t ∷ turns) valid heard decision left =
    let one : All (λ c. IsTrue (is_valid s c)) (after s p t).signed = mem-All (λ (c : Claim). IsTrue (is_valid s c)) (after s p t).signed
    (λ c m. All-mem (λ (c : Claim). IsTrue (is_valid s c)) (run s (after s p t) turns).signed c valid (signed-run s (after s p t) turns c m)) in
    lefts-run s (after s p t) turns valid (heard_is_kept s p t one heard) (decision_is_kept s p t decision) (left_is_kept s p t one heard decision left)

pub lefts-fit : (s : Setting) (me limit : ℕ) (turns : List Turn) → IsView s.genesis
    → All (λ c. IsTrue (is_valid s c)) (run s (start s me limit) turns).signed → LeftFits s (run s (start s me limit) turns)
lefts-fit s me limit turns view valid =
    let first = starts-fit s me limit view in lefts-run s (start s me limit) turns valid first.heard first.decision first.left

-- ---- images

-- the process that the image gives, with the batch limit that images are judged by
abbrev given : Process → Process
given p = record (in_order p) { batch_limit = 1 }

-- the image goes by nothing but the batch limit and the order of conflicts beyond the process
kept-of : (s : Setting) (p : Process) → Fits s p → IsKeptProcess s (image_of p) (given p)
kept-of s p fits = record {
  left = fits.left.left;
  last = fits.left.last;
  none_before = fits.left.none_before;
  heard = is-heard s (given p) (moved s p (given p) refl refl (heard-is s p fits.heard.heard));
  was_heard = was-heard s (given p) p.previous (moved-before s p (given p) refl refl (heard-was s p p.previous fits.heard.was_heard));
  conflicts = mem-All (IsPair s) (by_signer p.conflicts)
      (each-by_signer (IsPair s) p.conflicts (λ e m. All-mem (IsPair s) p.conflicts e fits.heard.conflicts m));
  one_each = pairs-all Others (by_signer p.conflicts)
      (up-pairs (by_signer p.conflicts) (signers-up p.conflicts (all-pairs Others p.conflicts fits.heard.one_each)));
  own = fits.signed.own;
  signed_once = fits.signed.once;
  heard_own = fits.signed.heard_own;
  by_place = fits.placed.by_place;
  few_places = fits.placed.few_places;
  outside = fits.placed.outside;
  placed = fits.placed.placed;
  paid = fits.placed.paid;
  decided = fits.decision.decided;
  halted = fits.decision.halted;
  short = fits.accepted.short;
  backlog = fits.accepted.backlog;
  perceived = fits.perceived;
}

pub images_are_kept : ImagesAreKept
images_are_kept s me limit turns view valid handed =
    let p : Process = run s (start s me limit) turns in
    let fits = runs_fit s (start s me limit) turns valid handed (starts-fit s me limit view) in
    let same : process_of s 1 (image_of (run s (start s me limit) turns)) ≡ given (run s (start s me limit) turns)
    = ap (λ (q : Process). record q { batch_limit = 1 }) (process_is_restored s me limit turns view) in
    subst (IsKeptProcess s (image_of (run s (start s me limit) turns))) (sym same) (kept-of s (run s (start s me limit) turns) fits)
