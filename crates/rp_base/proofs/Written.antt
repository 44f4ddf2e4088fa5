-- Known bytes over several writes.
use Rattle.std.proofs.Common.{◌≡◌, ℕ, ◌≤◌, List, [], ◌++◌, length, take, drop, Option, sym, ap, ◌∙◌, append_assoc, arith, length-append}
use Rattle.std.proofs.KnownBytes.{Appends-trans, Appends-kept}
use Rattle.std.proofs.lemmas.List.{take-append-drop, append-nil}
use Rattle.std.proofs.Math.Seq.{take-append_seam}
use Rattle.std.specs.Io.KnownBytes.{Appends, Keeps}
use Rattle.rp_base.specs.Streams.{AppendsPrefix}

-- so much of the bytes is written, and this is the rest
abbrev pub IsWritten : Option (List ℕ) → Option (List ℕ) → List ℕ → List ℕ → Type 0
IsWritten old now bytes rest = (prefix : List ℕ) × (bytes ≡ prefix ++ rest) × Appends old now prefix

pub written_more : (old now new : Option (List ℕ)) (bytes rest after : List ℕ) (n : ℕ) → IsWritten old now bytes rest
    → Appends now new (take n rest) → after ≡ drop n rest → IsWritten old new bytes after
written_more old now new bytes rest after n so_far more e =
    let prefix = so_far.0 in
    let whole : bytes ≡ (prefix ++ take n rest)
    ++ after = so_far.1 ∙ ap (λ (t : List ℕ). prefix ++ t)
    (sym (take-append-drop n rest)) ∙ sym (append_assoc prefix (take n rest) (drop n rest)) ∙ ap
    (λ (t : List ℕ). (prefix ++ take n rest) ++ t) (sym e) in
    (prefix ++ take n rest, whole, Appends-trans old now new prefix (take n rest) so_far.2 more)

pub part_written : (old now new : Option (List ℕ)) (bytes rest : List ℕ) → IsWritten old now bytes rest → Keeps now new
    → AppendsPrefix old new bytes
part_written old now new bytes rest so_far kept =
    let prefix : take (length so_far.0) bytes ≡ so_far.0 = ap (take (length so_far.0)) so_far.1 ∙ take-append_seam so_far.0 rest in
    let within : length so_far.0 ≤ length bytes = omega (arith, ap length so_far.1, length-append so_far.0 rest) in
    (length so_far.0, within, rw prefix (Appends-kept old now new so_far.0 so_far.2 kept))

pub all_written : (old now : Option (List ℕ)) (bytes rest : List ℕ) → rest ≡ [] → IsWritten old now bytes rest → Appends old now bytes
all_written old now bytes rest e so_far =
    let whole : bytes ≡ so_far.0 = so_far.1 ∙ ap (λ (t : List ℕ). so_far.0 ++ t) e ∙ append-nil so_far.0 in
    rw whole so_far.2
