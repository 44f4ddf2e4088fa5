-- The claims that frames say are in range.
use Rattle.std.proofs.Common.{◌≡◌, ℕ, ◌==◌, Bool, true, false, List, [], ◌∷◌, length, Result, Ok, Err, refl, subst}
use Rattle.std.specs.Prelude.{All, nat_lt, not, if◌then◌else◌}
use Rattle.std.specs.List.{AllByRecursion}
use Rattle.std.specs.Int.{w8, w16}
use Rattle.std.proofs.lemmas.List.Elements.{All-append, All-from_recursion}
use Rattle.byte_defs.specs.Fields.{number_at}
use Rattle.byte_defs.proofs.Fields.{bind_ok, refuse_ok, ok_is}
use Rattle.message_defs.specs.Limits.{most_frame_bytes}
use Rattle.message_defs.specs.declared.FrameFault.{FrameFault}
use Rattle.message_defs.specs.declared.FrameFault.TheVariants as faults
use Rattle.message_defs.specs.Statements.{Claim}
use Rattle.message_defs.specs.Spelling.{IsClaim}
use Rattle.message_defs.specs.Frames.{Group, FrameView, Bundle, Proof, Want, all_groups, frame_of, groups_as, groups_at, want_at}
use Rattle.message_defs.specs.Claims as claims
use Rattle.message_defs.specs.Claims.{claims_of, claims_of_groups, frame_said, in_bundle, in_proof, said, said_by}
use Rattle.frame_codec.specs.Views.{items_of}
use Rattle.stmt_codec.proofs.Fits.{HaveShort, groups_fit, groups_have_short}
use Rattle.group_defs.specs.Process.{Setting, Process}
use Rattle.group_defs.specs.Events.{Hand, after}
use Rattle.group_defs.specs.Family.{claims_in, handed_to}
use Rattle.journal_defs.specs.Entries.{Event, Submit, Frame, Suspect, Join, Renew, Tick, Entry}
use Rattle.node_defs.specs.Casts.{handed, kept_turn, turns_from}

-- ---- groups

groups-short : (bytes : List ℕ) (gs : List Group) → all_groups bytes ≡ Ok gs → HaveShort gs
unfolding all_groups
groups-short bytes gs e =
    let count = bind_ok (number_at faults.Short w8 bytes) _ gs e in
    let some = refuse_ok (count.0.0 == 0) faults.Count _ gs count.2 in
    let groups = bind_ok (groups_at count.0.0 count.0.1) _ gs some.1 in
    let whole = refuse_ok (not (length groups.0.1 == 0)) faults.Trailing _ gs groups.2 in
    subst HaveShort (ok_is groups.0.0 gs whole.1)
    (subst (λ (r : Result (List Group × List ℕ) FrameFault). HaveShort (items_of r)) groups.1 (groups_have_short count.0.0 count.0.1))

-- the groups of a frame, if it has groups, have short signatures
abbrev AreShort : FrameView → Type 0
AreShort (Bundle gs) = HaveShort gs
AreShort (Proof gs) = HaveShort gs
AreShort (Want x k) = Unit {0}

as-bundle : (r : Result (List Group) FrameFault) (f : FrameView) → ((gs : List Group) → r ≡ Ok gs → HaveShort gs) → groups_as Bundle r ≡ Ok f
    → AreShort f
as-bundle r f short e = let gs = bind_ok r (λ gs. Ok (Bundle gs)) f e in subst AreShort (ok_is (Bundle gs.0) f gs.2) (short gs.0 gs.1)

as-proof : (r : Result (List Group) FrameFault) (f : FrameView) → ((gs : List Group) → r ≡ Ok gs → HaveShort gs) → groups_as Proof r ≡ Ok f
    → AreShort f
as-proof r f short e = let gs = bind_ok r (λ gs. Ok (Proof gs)) f e in subst AreShort (ok_is (Proof gs.0) f gs.2) (short gs.0 gs.1)

want-short : (f : FrameView) (bytes : List ℕ) → want_at bytes ≡ Ok f → AreShort f
unfolding want_at
want-short f bytes e =
    let view = bind_ok (number_at faults.Short w16 bytes) _ f e in
    let place = bind_ok (number_at faults.Short w16 view.0.1) _ f view.2 in
    let whole = refuse_ok (not (length place.0.1 == 0)) faults.Trailing _ f place.2 in
    subst AreShort (ok_is (Want view.0.0 place.0.0) f whole.1) tt

by-kind : (kind : ℕ) (bytes : List ℕ) (f : FrameView) → (if kind == 1 then groups_as Bundle (all_groups bytes) else
    (if kind == 2 then groups_as Proof (all_groups bytes) else (if kind == 3 then want_at bytes else Err faults.Kind))) ≡ Ok f → AreShort f
by-kind kind bytes f = go (kind == 1) (kind == 2) (kind == 3)
  where
    go : (one two three : Bool) → (if one then groups_as Bundle (all_groups bytes) else
        (if two then groups_as Proof (all_groups bytes) else (if three then want_at bytes else Err faults.Kind))) ≡ Ok f → AreShort f
    go true two three e = as-bundle (all_groups bytes) f (groups-short bytes) e
    go false true three e = as-proof (all_groups bytes) f (groups-short bytes) e
    go false false true e = want-short f bytes e
    go false false false e = absurd cc

frame-short : (bytes : List ℕ) (f : FrameView) → frame_of bytes ≡ Ok f → AreShort f
unfolding frame_of
frame-short bytes f e =
    let few = refuse_ok (nat_lt most_frame_bytes (length bytes)) faults.Length _ f e in
    let version = bind_ok (number_at faults.Short w8 bytes) _ f few.1 in
    let one = refuse_ok (not (version.0.0 == 1)) faults.Version _ f version.2 in
    let kind = bind_ok (number_at faults.Short w8 version.0.1) _ f one.1 in
    by-kind kind.0.0 kind.0.1 f kind.2

-- ---- claims

said-in-range : (f : FrameView) (r : Result (List Claim) FrameFault) (cs : List Claim) → AreShort f → claims_of f ≡ r
    → said f r ≡ claims.Claims cs → AllByRecursion IsClaim cs
unfolding claims_of
said-in-range (Bundle gs) (Ok ds) cs short e is =
    let same : ds ≡ cs = cc in subst (λ (xs : List Claim). AllByRecursion IsClaim xs) same (groups_fit in_bundle gs ds short e)
said-in-range (Proof gs) (Ok ds) cs short e is =
    let same : ds ≡ cs = cc in subst (λ (xs : List Claim). AllByRecursion IsClaim xs) same (groups_fit in_proof gs ds short e)
said-in-range (Want x k) (Ok ds) cs short e is = absurd cc
said-in-range (Bundle gs) (Err fault) cs short e is = absurd cc
said-in-range (Proof gs) (Err fault) cs short e is = absurd cc
said-in-range (Want x k) (Err fault) cs short e is = absurd cc

frame-in-range : (bytes : List ℕ) (cs : List Claim) → frame_said bytes ≡ claims.Claims cs → AllByRecursion IsClaim cs
unfolding frame_said
frame-in-range bytes cs = go (frame_of bytes) refl
  where
    go : (r : Result FrameView FrameFault) → frame_of bytes ≡ r → said_by r ≡ claims.Claims cs → AllByRecursion IsClaim cs
    go (Ok f) e is = said-in-range f (claims_of f) cs (frame-short bytes f e) refl is
    go (Err fault) e is = absurd cc

-- of what is handed over
event-in-range : (e : Event) → AllByRecursion IsClaim (claims_in (handed e))
event-in-range (Submit payload) = tt
event-in-range (Frame from bytes) = go (frame_said bytes) refl
  where
    go : (s : claims.Frame) → frame_said bytes ≡ s → AllByRecursion IsClaim (claims_in (Hand from s))
    go (claims.Claims cs) is = frame-in-range bytes cs is
    go (claims.Wants x k) is = tt
    go (claims.Faulty fault) is = tt
event-in-range (Suspect q) = tt
event-in-range (Join q) = tt
event-in-range Renew = tt
event-in-range Tick = tt

pub handed-in-range : (e : Event) → All IsClaim (claims_in (handed e))
handed-in-range e = All-from_recursion IsClaim (claims_in (handed e)) (event-in-range e)

-- whatever the entries, what the process was handed is in range
pub kept-in-range : (s : Setting) (p : Process) (es : List Entry) → All IsClaim (handed_to (turns_from s p es))
unfolding turns_from
kept-in-range s p [] = All-from_recursion IsClaim [] tt
kept-in-range s p (e ∷ es) =
    All-append IsClaim (claims_in (handed e.event)) (handed_to (turns_from s (after s p (kept_turn p e)) es)) (handed-in-range e.event)
    (kept-in-range s (after s p (kept_turn p e)) es)
