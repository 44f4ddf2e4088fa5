-- A frame that is read is spelled so, and what is spelled so is read.
use Rattle.std.proofs.Common.{◌≡◌, ℕ, zero, suc, ◌+◌, ◌<◌, ◌≤◌, Bool, true, false, not, ltb, eqb, List, [], ◌∷◌, ◌++◌, length, Result, Ok, Err, refl, sym, ap, subst, ◌∙◌, append_assoc, arith}
use Rattle.std.specs.Prelude.{if◌then◌else◌, IfOk}
use Rattle.std.specs.List.{flat_map, AllByRecursion}
use Rattle.std.specs.Int.{w8, w16}
use Rattle.std.proofs.lemmas.Bool.{ltb-false, le-ltb, eqb-true}
use Rattle.std.proofs.lemmas.List.{append-nil, nil_from_length}
use Rattle.std.proofs.lemmas.List.Concat.{flat_map-cons}
use Rattle.message_defs.specs.declared.FrameFault.{FrameFault}
use Rattle.message_defs.specs.declared.FrameFault.TheVariants as faults
use Rattle.byte_defs.specs.Fields.{◌>>=◌, number_at, bytes_at, refuse_if, two_bytes, text}
use Rattle.byte_defs.specs.Reads.{Gives}
use Rattle.byte_defs.proofs.Fields.{IsBytes, bind_ok, refuse_ok, ok_is, Takes, Takes-then, byte_takes, byte_again, short_takes, short_again, bytes_takes, bytes_again, is_some, not_zero, not_false}
use Rattle.message_defs.specs.Frames.{Group, FrameView, Bundle, Proof, Want, signature_bytes, group_bytes, groups_bytes, frame_bytes, AreSignatures, IsGroup, AreGroups, HasParts, IsFrame, signature_at, signatures_at, group_at, groups_at, all_groups, want_at, groups_as, frame_of}
use Rattle.frame_codec.specs.declared.groups.FrameView as code
use Rattle.frame_codec.specs.Views.{frame_view}

-- ---- a signature

abbrev IsSignature : ℕ → ℕ × List ℕ → Type 0
IsSignature least s = (least ≤ s.0) × (s.0 < 256) × (length s.1 ≤ 16384)

-- behind the signature's length, and behind its signer
abbrev signature_rest : ℕ → ℕ × List ℕ → Result ((ℕ × List ℕ) × List ℕ) FrameFault
signature_rest signer len = bytes_at faults.Length len.0 len.1 >>= λ t. Ok ((signer, t.0), t.1)

abbrev signer_rest : ℕ × List ℕ → Result ((ℕ × List ℕ) × List ℕ) FrameFault
signer_rest signer = number_at faults.Short w16 signer.1 >>= λ len. refuse_if
    (ltb 16384 len.0) faults.Length >>= λ _. signature_rest signer.0 len

signature_takes : (least : ℕ) (bytes : List ℕ) (x : (ℕ × List ℕ) × List ℕ) → IsBytes bytes → signature_at least bytes ≡ Ok x
    → Takes bytes (signature_bytes x.0) x.1 × IsSignature least x.0
unfolding signature_at
signature_takes least bytes x fits e =
    let a = bind_ok (number_at faults.Short w8 bytes)
    (λ signer. refuse_if (ltb signer.0 least) faults.Unordered >>= λ _. signer_rest signer) x e in
    let g = refuse_ok (ltb a.0.0 least) faults.Unordered (λ _. signer_rest a.0) x a.2 in
    let b = bind_ok (number_at faults.Short w16 a.0.1)
    (λ len. refuse_if (ltb 16384 len.0) faults.Length >>= λ _. signature_rest a.0.0 len) x g.1 in
    let h = refuse_ok (ltb 16384 b.0.0) faults.Length (λ _. signature_rest a.0.0 b.0) x b.2 in
    let c = bind_ok (bytes_at faults.Length b.0.0 b.0.1) (λ t. Ok ((a.0.0, t.0), t.1)) x h.1 in
    let t0 = byte_takes faults.Short bytes a.0.0 a.0.1 fits a.1 in
    let t1 = short_takes faults.Short a.0.1 b.0.0 b.0.1 t0.0.rest_fits b.1 in
    let t2 = bytes_takes faults.Length b.0.0 b.0.1 c.0.0 c.0.1 t1.0.rest_fits c.1 in
    let spelled : Takes a.0.1 (text c.0.0) c.0.1 = rw t2.1 (Takes-then a.0.1 (two_bytes b.0.0) b.0.1 c.0.0 c.0.1 t1.0 t2.0) in
    let whole = Takes-then bytes (a.0.0 ∷ []) a.0.1 (text c.0.0) c.0.1 t0.0 spelled in
    let made : (ℕ × List ℕ) × List ℕ = ((a.0.0, c.0.0), c.0.1) in
    let low : least ≤ a.0.0 = ltb-false _ _ g.0 in
    let short : length c.0.0 ≤ 16384 = omega (arith, ltb-false 16384 b.0.0 h.0, t2.1) in
    subst (λ (y : (ℕ × List ℕ) × List ℕ). Takes bytes (signature_bytes y.0) y.1 × IsSignature least y.0) {x = made} {y = x}
    (ok_is made x c.2) (whole, (low, t0.1, short))

signature_again : (least : ℕ) (s : ℕ × List ℕ) (rest : List ℕ) → IsSignature least s
    → signature_at least (signature_bytes s ++ rest) ≡ Ok (s, rest)
unfolding signature_at
signature_again least s rest fits =
    let ordered : ltb s.0 least ≡ false = le-ltb _ _ fits.0 in
    let short : ltb 16384 (length s.1) ≡ false = le-ltb _ _ fits.2 in
    ap (λ (t : List ℕ). signature_at least (s.0 ∷ t)) (append_assoc (two_bytes (length s.1)) s.1 rest)
    ∙ rw (
      byte_again faults.Short s.0 (two_bytes (length s.1) ++ (s.1 ++ rest)),
      ordered,
      short_again faults.Short (length s.1) (s.1 ++ rest) (omega (arith, fits.2)),
      short,
      bytes_again faults.Length s.1 rest,
    ) refl

-- ---- signatures

signatures_take : (n least : ℕ) (bytes : List ℕ) (x : List (ℕ × List ℕ) × List ℕ) → IsBytes bytes → signatures_at n least bytes ≡ Ok x
    → Takes bytes (flat_map signature_bytes x.0) x.1 × (length x.0 ≡ n) × AreSignatures least x.0
unfolding signatures_at
signatures_take zero least bytes x fits e =
    subst (λ (y : List (ℕ × List ℕ) × List ℕ). Takes bytes (flat_map signature_bytes y.0) y.1 × (length y.0 ≡ 0)
    × AreSignatures least y.0) {x = ([], bytes)} {y = x} (ok_is ([], bytes) x e) (record { parts = refl; rest_fits = fits }, refl, tt)
signatures_take (suc n) least bytes x fits e =
    let a = bind_ok (signature_at least bytes)
    (λ first. signatures_at n (first.0.0 + 1) first.1 >>= λ others. Ok (first.0 ∷ others.0, others.1)) x e in
    let b = bind_ok (signatures_at n (a.0.0.0 + 1) a.0.1) (λ others. Ok (a.0.0 ∷ others.0, others.1)) x a.2 in
    let first = signature_takes least bytes a.0 fits a.1 in
    let others = signatures_take n (a.0.0.0 + 1) a.0.1 b.0 first.0.rest_fits b.1 in
    let both = Takes-then bytes (signature_bytes a.0.0) a.0.1 (flat_map signature_bytes b.0.0) b.0.1 first.0 others.0 in
    let made : List (ℕ × List ℕ) × List ℕ = (a.0.0 ∷ b.0.0, b.0.1) in
    subst (λ (y : List (ℕ × List ℕ) × List ℕ). Takes bytes (flat_map signature_bytes y.0) y.1 × (length y.0 ≡ suc n)
    × AreSignatures least y.0) {x = made} {y = x} (ok_is made x b.2)
    (rw flat_map-cons both, ap suc others.1, (first.1.0, first.1.1, first.1.2, others.2))

signatures_again : (least : ℕ) (ss : List (ℕ × List ℕ)) (rest : List ℕ) → AreSignatures least ss
    → signatures_at (length ss) least (flat_map signature_bytes ss ++ rest) ≡ Ok (ss, rest)
unfolding signatures_at
signatures_again least [] rest fits = refl
signatures_again least (s ∷ ss) rest fits =
    let regrouped : flat_map signature_bytes (s ∷ ss) ++ rest ≡ signature_bytes s
    ++ (flat_map signature_bytes ss ++ rest) = ap (λ (t : List ℕ). t ++ rest)
    (flat_map-cons signature_bytes s ss) ∙ append_assoc (signature_bytes s) (flat_map signature_bytes ss) rest in
    ap (signatures_at (suc (length ss)) least) regrouped ∙ rw (
      signature_again least s (flat_map signature_bytes ss ++ rest) (fits.0, fits.1, fits.2),
      signatures_again (s.0 + 1) ss rest fits.3,
    ) refl

-- ---- a group

-- behind the count, and behind the statement
abbrev count_rest : List ℕ → ℕ × List ℕ → Result (Group × List ℕ) FrameFault
count_rest statement count = signatures_at count.0 0 count.1 >>= λ sigs. Ok (record { statement = statement; signatures = sigs.0 }, sigs.1)

abbrev counted : List ℕ → ℕ × List ℕ → Result (Group × List ℕ) FrameFault
counted statement count = refuse_if (eqb count.0 0) faults.Count >>= λ _. refuse_if
    (ltb 16 count.0) faults.Count >>= λ _. count_rest statement count

abbrev statement_rest : List ℕ × List ℕ → Result (Group × List ℕ) FrameFault
statement_rest t = number_at faults.Short w8 t.1 >>= counted t.0

group_takes : (bytes : List ℕ) (x : Group × List ℕ) → IsBytes bytes → group_at bytes ≡ Ok x
    → Takes bytes (group_bytes x.0) x.1 × IsGroup x.0
unfolding group_at
group_takes bytes x fits e =
    let a = bind_ok (number_at faults.Short w16 bytes) (λ len. bytes_at faults.Length len.0 len.1 >>= statement_rest) x e in
    let b = bind_ok (bytes_at faults.Length a.0.0 a.0.1) statement_rest x a.2 in
    let c = bind_ok (number_at faults.Short w8 b.0.1) (counted b.0.0) x b.2 in
    let g = refuse_ok (eqb c.0.0 0) faults.Count (λ _. refuse_if (ltb 16 c.0.0) faults.Count >>= λ _. count_rest b.0.0 c.0) x c.2 in
    let h = refuse_ok (ltb 16 c.0.0) faults.Count (λ _. count_rest b.0.0 c.0) x g.1 in
    let d = bind_ok (signatures_at c.0.0 0 c.0.1) (λ sigs. Ok (record { statement = b.0.0; signatures = sigs.0 }, sigs.1)) x h.1 in
    let t0 = short_takes faults.Short bytes a.0.0 a.0.1 fits a.1 in
    let t1 = bytes_takes faults.Length a.0.0 a.0.1 b.0.0 b.0.1 t0.0.rest_fits b.1 in
    let t2 = byte_takes faults.Short b.0.1 c.0.0 c.0.1 t1.0.rest_fits c.1 in
    let t3 = signatures_take c.0.0 0 c.0.1 d.0 t2.0.rest_fits d.1 in
    let statement : Takes bytes (text b.0.0) b.0.1 = rw t1.1 (Takes-then bytes (two_bytes a.0.0) a.0.1 b.0.0 b.0.1 t0.0 t1.0) in
    let sigs : Takes b.0.1 (length d.0.0 ∷ flat_map signature_bytes d.0.0) d.0.1 = rw t3.1
    (Takes-then b.0.1 (c.0.0 ∷ []) c.0.1 (flat_map signature_bytes d.0.0) d.0.1 t2.0 t3.0) in
    let whole = Takes-then bytes (text b.0.0) b.0.1 (length d.0.0 ∷ flat_map signature_bytes d.0.0) d.0.1 statement sigs in
    let made : Group × List ℕ = (record { statement = b.0.0; signatures = d.0.0 }, d.0.1) in
    let fine : IsGroup made.0 = record {
      statement = omega (arith, t1.1, t0.1);
      some = omega (arith, t3.1, not_zero c.0.0 g.0);
      few = omega (arith, t3.1, ltb-false 16 c.0.0 h.0);
      signatures = t3.2;
    } in
    subst (λ (y : Group × List ℕ). Takes bytes (group_bytes y.0) y.1 × IsGroup y.0) {x = made} {y = x} (ok_is made x d.2) (whole, fine)

group_again : (g : Group) (rest : List ℕ) → IsGroup g → group_at (group_bytes g ++ rest) ≡ Ok (g, rest)
unfolding group_at
group_again g rest fits =
    let after : List ℕ = flat_map signature_bytes g.signatures ++ rest in
    let regrouped : group_bytes g ++ rest ≡ two_bytes (length g.statement) ++ (g.statement ++ (length g.signatures ∷ after)) =
    append_assoc (text g.statement) (length g.signatures ∷ flat_map signature_bytes g.signatures) rest
    ∙ append_assoc (two_bytes (length g.statement)) g.statement (length g.signatures ∷ after) in
    let some : eqb (length g.signatures) 0 ≡ false = is_some (length g.signatures) fits.some in
    let few : ltb 16 (length g.signatures) ≡ false = le-ltb _ _ fits.few in
    ap group_at regrouped ∙ rw (
      short_again faults.Short (length g.statement) (g.statement ++ (length g.signatures ∷ after)) fits.statement,
      bytes_again faults.Length g.statement (length g.signatures ∷ after),
      byte_again faults.Short (length g.signatures) after,
      some,
      few,
      signatures_again 0 g.signatures rest fits.signatures,
    ) refl

-- ---- groups

pub groups_take : (n : ℕ) (bytes : List ℕ) (x : List Group × List ℕ) → IsBytes bytes → groups_at n bytes ≡ Ok x
    → Takes bytes (flat_map group_bytes x.0) x.1 × (length x.0 ≡ n) × AllByRecursion IsGroup x.0
unfolding groups_at
groups_take zero bytes x fits e =
    subst (λ (y : List Group × List ℕ). Takes bytes (flat_map group_bytes y.0) y.1 × (length y.0 ≡ 0)
    × AllByRecursion IsGroup y.0) {x = ([], bytes)} {y = x} (ok_is ([], bytes) x e) (record { parts = refl; rest_fits = fits }, refl, tt)
groups_take (suc n) bytes x fits e =
    let a = bind_ok (group_at bytes) (λ first. groups_at n first.1 >>= λ others. Ok (first.0 ∷ others.0, others.1)) x e in
    let b = bind_ok (groups_at n a.0.1) (λ others. Ok (a.0.0 ∷ others.0, others.1)) x a.2 in
    let first = group_takes bytes a.0 fits a.1 in
    let others = groups_take n a.0.1 b.0 first.0.rest_fits b.1 in
    let both = Takes-then bytes (group_bytes a.0.0) a.0.1 (flat_map group_bytes b.0.0) b.0.1 first.0 others.0 in
    let made : List Group × List ℕ = (a.0.0 ∷ b.0.0, b.0.1) in
    subst (λ (y : List Group × List ℕ). Takes bytes (flat_map group_bytes y.0) y.1 × (length y.0 ≡ suc n)
    × AllByRecursion IsGroup y.0) {x = made} {y = x} (ok_is made x b.2) (rw flat_map-cons both, ap suc others.1, (first.1, others.2))

pub groups_again : (gs : List Group) (rest : List ℕ) → AllByRecursion IsGroup gs
    → groups_at (length gs) (flat_map group_bytes gs ++ rest) ≡ Ok (gs, rest)
unfolding groups_at
groups_again [] rest fits = refl
groups_again (g ∷ gs) rest fits =
    let regrouped : flat_map group_bytes (g ∷ gs) ++ rest ≡ group_bytes g
    ++ (flat_map group_bytes gs ++ rest) = ap (λ (t : List ℕ). t ++ rest) (flat_map-cons group_bytes g gs) ∙ append_assoc (group_bytes g)
    (flat_map group_bytes gs) rest in
    ap (groups_at (suc (length gs))) regrouped ∙ rw
    (group_again g (flat_map group_bytes gs ++ rest) fits.0, groups_again gs rest fits.1) refl

-- ---- all of the bytes

-- the count, and the groups to the end
all_take : (bytes : List ℕ) (gs : List Group) → IsBytes bytes → all_groups bytes ≡ Ok gs → AreGroups gs × (bytes ≡ groups_bytes gs)
unfolding all_groups
all_take bytes gs fits e =
    let c = bind_ok (number_at faults.Short w8 bytes)
    (λ count. refuse_if (eqb count.0 0) faults.Count >>= λ _. groups_at count.0 count.1 >>= λ groups. refuse_if
    (not (eqb (length groups.1) 0)) faults.Trailing >>= λ _. Ok groups.0) gs e in
    let g = refuse_ok (eqb c.0.0 0) faults.Count
    (λ _. groups_at c.0.0 c.0.1 >>= λ groups. refuse_if (not (eqb (length groups.1) 0)) faults.Trailing >>= λ _. Ok groups.0) gs c.2 in
    let d = bind_ok (groups_at c.0.0 c.0.1)
    (λ groups. refuse_if (not (eqb (length groups.1) 0)) faults.Trailing >>= λ _. Ok groups.0) gs g.1 in
    let h = refuse_ok (not (eqb (length d.0.1) 0)) faults.Trailing (λ _. Ok d.0.0) gs d.2 in
    let t0 = byte_takes faults.Short bytes c.0.0 c.0.1 fits c.1 in
    let t1 = groups_take c.0.0 c.0.1 d.0 t0.0.rest_fits d.1 in
    let whole = (Takes-then bytes (c.0.0 ∷ []) c.0.1 (flat_map group_bytes d.0.0) d.0.1 t0.0 t1.0).parts in
    let nothing : d.0.1 ≡ [] = nil_from_length d.0.1 (eqb-true _ _ (not_false _ h.0)) in
    let spelled : bytes ≡ groups_bytes d.0.0 = whole ∙ ap
    (λ (r : List ℕ). (c.0.0 ∷ flat_map group_bytes d.0.0) ++ r) nothing ∙ append-nil _ ∙ ap (λ (n : ℕ). n ∷ flat_map group_bytes d.0.0)
    (sym t1.1) in
    let fine : AreGroups d.0.0 = record { some = omega (arith, t1.1, not_zero c.0.0 g.0); few = omega (arith, t1.1, t0.1); each = t1.2 } in
    subst (λ (v : List Group). AreGroups v × (bytes ≡ groups_bytes v)) {x = d.0.0} {y = gs} (ok_is d.0.0 gs h.1) (fine, spelled)

all_again : (gs : List Group) → AreGroups gs → all_groups (groups_bytes gs) ≡ Ok gs
unfolding all_groups
all_again gs fits =
    let rest : List ℕ = flat_map group_bytes gs in
    let some : eqb (length gs) 0 ≡ false = is_some (length gs) fits.some in
    let read : groups_at (length gs) rest
    ≡ Ok (gs, []) = ap (groups_at (length gs)) (sym (append-nil rest)) ∙ groups_again gs [] fits.each in
    rw (byte_again faults.Short (length gs) rest, some, read) refl

want_takes : (bytes : List ℕ) (f : FrameView) → IsBytes bytes → want_at bytes ≡ Ok f → HasParts f × (1 ∷ 3 ∷ bytes ≡ frame_bytes f)
unfolding want_at
want_takes bytes f fits e =
    let a = bind_ok (number_at faults.Short w16 bytes)
    (λ view. number_at faults.Short w16 view.1 >>= λ place. refuse_if (not (eqb (length place.1) 0)) faults.Trailing >>= λ _. Ok
    (Want view.0 place.0)) f e in
    let b = bind_ok (number_at faults.Short w16 a.0.1)
    (λ place. refuse_if (not (eqb (length place.1) 0)) faults.Trailing >>= λ _. Ok (Want a.0.0 place.0)) f a.2 in
    let h = refuse_ok (not (eqb (length b.0.1) 0)) faults.Trailing (λ _. Ok (Want a.0.0 b.0.0)) f b.2 in
    let t0 = short_takes faults.Short bytes a.0.0 a.0.1 fits a.1 in
    let t1 = short_takes faults.Short a.0.1 b.0.0 b.0.1 t0.0.rest_fits b.1 in
    let whole = (Takes-then bytes (two_bytes a.0.0) a.0.1 (two_bytes b.0.0) b.0.1 t0.0 t1.0).parts in
    let nothing : b.0.1 ≡ [] = nil_from_length b.0.1 (eqb-true _ _ (not_false _ h.0)) in
    let spelled : bytes ≡ two_bytes a.0.0
    ++ two_bytes b.0.0 = whole ∙ ap (λ (r : List ℕ). (two_bytes a.0.0 ++ two_bytes b.0.0) ++ r) nothing ∙ append-nil _ in
    subst (λ (v : FrameView). HasParts v × (1 ∷ 3 ∷ bytes ≡ frame_bytes v)) {x = (Want a.0.0 b.0.0)} {y = f}
    (ok_is (Want a.0.0 b.0.0) f h.1) ((t0.1, t1.1), ap (λ (t : List ℕ). 1 ∷ 3 ∷ t) spelled)

want_reads : (x k : ℕ) (place : List ℕ) → x < 65536 → number_at faults.Short w16 place ≡ Ok (k, [])
    → want_at (two_bytes x ++ place) ≡ Ok (Want x k)
unfolding want_at
want_reads x k place lt read = rw (short_again faults.Short x place lt, read) refl

want_again : (x k : ℕ) → x < 65536 → k < 65536 → want_at (two_bytes x ++ two_bytes k) ≡ Ok (Want x k)
want_again x k view place = want_reads x k (two_bytes k) view (short_again faults.Short k [] place)

-- ---- the whole frame

groups_as_take : (kind : List Group → FrameView) (n : ℕ) (bytes : List ℕ) (f : FrameView)
    → ((gs : List Group) → AreGroups gs → HasParts (kind gs)) → ((gs : List Group) → 1 ∷ n ∷ groups_bytes gs ≡ frame_bytes (kind gs))
    → IsBytes bytes → groups_as kind (all_groups bytes) ≡ Ok f → HasParts f × (1 ∷ n ∷ bytes ≡ frame_bytes f)
groups_as_take kind n bytes f parts spells fits e =
    let a = bind_ok (all_groups bytes) (λ gs. Ok (kind gs)) f e in
    let t = all_take bytes a.0 fits a.1 in
    subst (λ (v : FrameView). HasParts v × (1 ∷ n ∷ bytes ≡ frame_bytes v)) {x = (kind a.0)} {y = f} (ok_is (kind a.0) f a.2)
    (parts a.0 t.0, ap (λ (r : List ℕ). 1 ∷ n ∷ r) t.1 ∙ spells a.0)

abbrev of_kind : Bool → Bool → Bool → List ℕ → Result FrameView FrameFault
of_kind bundle proof want bytes =
    if bundle then groups_as Bundle (all_groups bytes) else
    (if proof then groups_as Proof (all_groups bytes) else
    (if want then want_at bytes else Err faults.Kind))

of_kind_takes : (bundle proof want : Bool) (n : ℕ) (bytes : List ℕ) (f : FrameView) → (bundle ≡ true → n ≡ 1) → (proof ≡ true → n ≡ 2)
    → (want ≡ true → n ≡ 3)
    → IsBytes bytes → of_kind bundle proof want bytes ≡ Ok f → HasParts f × (1 ∷ n ∷ bytes ≡ frame_bytes f)
of_kind_takes true proof want n bytes f one two three fits e = rw (one refl)
    (groups_as_take Bundle 1 bytes f (λ gs h. h) (λ gs. refl) fits e)
of_kind_takes false true want n bytes f one two three fits e = rw (two refl)
    (groups_as_take Proof 2 bytes f (λ gs h. h) (λ gs. refl) fits e)
of_kind_takes false false true n bytes f one two three fits e = rw (three refl) (want_takes bytes f fits e)
of_kind_takes false false false n bytes f one two three fits e = absurd cc

abbrev kind_rest : ℕ × List ℕ → Result FrameView FrameFault
kind_rest kind = of_kind (eqb kind.0 1) (eqb kind.0 2) (eqb kind.0 3) kind.1

abbrev version_rest : ℕ × List ℕ → Result FrameView FrameFault
version_rest version = refuse_if (not (eqb version.0 1)) faults.Version >>= λ _. number_at faults.Short w8 version.1 >>= kind_rest

pub frame_takes : (bytes : List ℕ) (f : FrameView) → IsBytes bytes → frame_of bytes ≡ Ok f → IsFrame f × (bytes ≡ frame_bytes f)
unfolding frame_of
frame_takes bytes f fits e =
    let s = refuse_ok (ltb 61000 (length bytes)) faults.Length (λ _. number_at faults.Short w8 bytes >>= version_rest) f e in
    let a = bind_ok (number_at faults.Short w8 bytes) version_rest f s.1 in
    let g = refuse_ok (not (eqb a.0.0 1)) faults.Version (λ _. number_at faults.Short w8 a.0.1 >>= kind_rest) f a.2 in
    let b = bind_ok (number_at faults.Short w8 a.0.1) kind_rest f g.1 in
    let t0 = byte_takes faults.Short bytes a.0.0 a.0.1 fits a.1 in
    let t1 = byte_takes faults.Short a.0.1 b.0.0 b.0.1 t0.0.rest_fits b.1 in
    let version : a.0.0 ≡ 1 = eqb-true _ _ (not_false _ g.0) in
    let rest = of_kind_takes (eqb b.0.0 1) (eqb b.0.0 2) (eqb b.0.0 3) b.0.0 b.0.1 f (eqb-true _ _) (eqb-true _ _)
    (eqb-true _ _) t1.0.rest_fits b.2 in
    let whole : bytes ≡ frame_bytes f = (Takes-then bytes (a.0.0 ∷ []) a.0.1 (b.0.0 ∷ []) b.0.1 t0.0 t1.0).parts ∙ ap
    (λ (v : ℕ). v ∷ b.0.0 ∷ b.0.1) version ∙ rest.1 in
    (record { parts = rest.0; size = subst (λ (t : List ℕ). length t ≤ 61000) whole (ltb-false _ _ s.0) }, whole)

pub frame_again : (f : FrameView) → IsFrame f → frame_of (frame_bytes f) ≡ Ok f
unfolding frame_of
frame_again (Bundle gs) fits =
    let size : ltb 61000 (length (frame_bytes (Bundle gs))) ≡ false = le-ltb _ _ fits.size in
    rw (size, byte_again faults.Short 1 (1 ∷ groups_bytes gs), byte_again faults.Short 1 (groups_bytes gs), all_again gs fits.parts) refl
frame_again (Proof gs) fits =
    let size : ltb 61000 (length (frame_bytes (Proof gs))) ≡ false = le-ltb _ _ fits.size in
    rw (size, byte_again faults.Short 1 (2 ∷ groups_bytes gs), byte_again faults.Short 2 (groups_bytes gs), all_again gs fits.parts) refl
frame_again (Want x k) fits = want_again x k fits.parts.0 fits.parts.1

pub is_found : (bytes : List ℕ) (r : Result code.FrameView FrameFault) → IsBytes bytes → Gives frame_view r (frame_of bytes)
    → IfOk r (λ f. IsFrame (frame_view f) × (bytes ≡ frame_bytes (frame_view f)))
is_found bytes (Ok f) fits given = frame_takes bytes (frame_view f) fits given
is_found bytes (Err e) fits given = tt
