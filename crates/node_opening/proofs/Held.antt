-- What the disk held as a journal was started on it, and what it holds after that.
use Rattle.std.proofs.Common.{◌≡◌, ◌≢◌, inl, inr, ℕ, List, [], ◌∷◌, ◌++◌, length, Option, None, Some, Err, refl, sym, subst, arith, length-append}
use Rattle.std.specs.Prelude.{IfSome, IsSome}
use Rattle.std.specs.Option.{IsSomeAnd}
use Rattle.std.specs.Int.{w64, to_be_bytes}
use Rattle.rp_base.specs.Pids.{mask_of}
use Rattle.kit_defs.specs.Kits.{Kit}
use Rattle.journal_defs.specs.declared.Version.{Version}
use Rattle.journal_defs.specs.declared.Version.TheVariants.{One, Two}
use Rattle.journal_defs.specs.Entries.{Entry}
use Rattle.journal_defs.specs.Journals.{Header, ReadsAs, LieBefore, closed_gate, header_bytes}
use Rattle.journal_defs.specs.Crashes.{IsAtRest}
use Rattle.journal_defs.proofs.Crashing.{not_open}
use Rattle.journal_defs.proofs.Recording.{one_reading}
use Rattle.journal_disk.specs.Disks.{HasRest, StaysUntold}
use Rattle.journal_disk.proofs.Reported.{reported}
use Rattle.journal_rp.specs.declared.fault.JournalFault.{JournalFault}
use Rattle.journal_rp.specs.declared.fault.JournalFault.TheVariants.{DiskFault, NotAJournal, Entry as NoEntry, Other, Full, NoMemory}
use Rattle.journal_rp.specs.Answers.{HasCauses, IfNotAJournal, of_start}
use Rattle.journal_rp.specs.Headers.{IsJournal}
use Rattle.node_defs.specs.Lines.{Stop}
use Rattle.node_defs.specs.Casts.{cast_of}
use Rattle.restored_hosts.specs.Below.{stop_of_fault, SnapSaid}
use Rattle.node_opening.specs.Holding.{HoldsAs, IsBegun, header_in}
use Rattle.node_opening.specs.Reading.{Unread, no_disk, no_header}

-- a journal that every crash leaves at rest has its entries before its gate
rest-stands : (seen : Option (List ℕ)) (may_leave : List ℕ → Type 0) (head : List ℕ) (es : List Entry) (gate : ℕ)
    → HasRest seen may_leave head es gate → IfSome seen (λ file. LieBefore head file es gate)
rest-stands seen may_leave head es gate has = subst (λ (o : Option (List ℕ)). IfSome o (λ file. LieBefore head file es gate)) (sym has.reported)
    (record {
      rest = closed_gate ∷ has.rest.behind;
      parts = has.rest.parts;
      goes_on = omega arith;
      where_it_is = has.place;
      each = has.each;
    })

rest-there : (seen : Option (List ℕ)) (may_leave : List ℕ → Type 0) (head : List ℕ) (gate : ℕ) → HasRest seen may_leave head [] gate
    → IfSome seen (IsAtRest head [])
rest-there seen may_leave head gate has = subst (λ (o : Option (List ℕ)). IfSome o (IsAtRest head [])) (sym has.reported) has.rest

-- and reads as them alone
rest-reads : (seen : Option (List ℕ)) (may_leave : List ℕ → Type 0) (head : List ℕ) (es fs : List Entry) (gate : ℕ)
    → HasRest seen may_leave head es gate → IfSome seen (λ file. ReadsAs head file fs) → fs ≡ es
rest-reads seen may_leave head es fs gate has reads =
    one_reading head has.file fs es (subst (λ (o : Option (List ℕ)). IfSome o (λ file. ReadsAs head file fs)) has.reported reads)
    (record { gate = closed_gate; unread = has.rest.behind; parts = has.rest.parts; closed = not_open; each = has.each })

some-of : (o : Option (List ℕ)) (file : List ℕ) → o ≡ Some file → IsSome o
some-of o file is = subst (λ (p : Option (List ℕ)). IsSome p) (sym is) refl

module _ (kit : Kit) (v : Version) (old new : Option (List ℕ)) (may_leave : List ℕ → Type 0) (gate : ℕ)
    (begun : IsSomeAnd old (λ file. file ≡ []) → HasRest new may_leave (header_bytes Two (header_in kit)) [] gate)
    (only_read : IsSomeAnd old (λ file. file ≢ []) → new ≡ old) where
  pub started-tells : IsSome old → IsSome new
  started-tells some = go old begun only_read some
    where
      go : (o : Option (List ℕ)) → (IsSomeAnd o (λ file. file ≡ []) → HasRest new may_leave (header_bytes Two (header_in kit)) [] gate)
          → (IsSomeAnd o (λ file. file ≢ []) → new ≡ o) → IsSome o → IsSome new
      go None empty same is = absurd cc
      go (Some []) empty same is = let has = empty refl in some-of new has.file has.reported
      go (Some (b ∷ bs)) empty same is = some-of new (b ∷ bs) (same (λ e. cc))

  module _ (untold : StaysUntold old new) (kind : IsSomeAnd old (λ file. file ≡ []) → v ≡ Two) where
    rests : IsSomeAnd old (λ file. file ≡ []) → HasRest new may_leave (cast_of kit v).header [] gate
    rests empty = subst (λ (w : Version). HasRest new may_leave (header_bytes w (header_in kit)) [] gate) (sym (kind empty)) (begun empty)

    pub started-stands : IfSome old (λ file. file ≢ [] → LieBefore (cast_of kit v).header file [] gate)
        → IfSome new (λ file. LieBefore (cast_of kit v).header file [] gate)
    started-stands first = go old untold rests only_read first
      where
        go : (o : Option (List ℕ)) → StaysUntold o new → (IsSomeAnd o (λ file. file ≡ []) → HasRest new may_leave (cast_of kit v).header [] gate)
            → (IsSomeAnd o (λ file. file ≢ []) → new ≡ o)
            → IfSome o (λ file. file ≢ [] → LieBefore (cast_of kit v).header file [] gate)
            → IfSome new (λ file. LieBefore (cast_of kit v).header file [] gate)
        go None none empty same there =
            subst (λ (o : Option (List ℕ)). IfSome o (λ file. LieBefore (cast_of kit v).header file [] gate)) (sym none) tt
        go (Some []) none empty same there = rest-stands new may_leave (cast_of kit v).header [] gate (empty refl)
        go (Some (b ∷ bs)) none empty same there =
            subst (λ (o : Option (List ℕ)). IfSome o (λ file. LieBefore (cast_of kit v).header file [] gate)) (sym (same (λ e. cc)))
            (there (λ e. cc))

    pub started-holds : (es : List Entry) → IfSome new (λ file. ReadsAs (cast_of kit v).header file es) → HoldsAs kit v es old
    started-holds es reads = go old rests kind only_read
      where
        go : (o : Option (List ℕ)) → (IsSomeAnd o (λ file. file ≡ []) → HasRest new may_leave (cast_of kit v).header [] gate)
            → (IsSomeAnd o (λ file. file ≡ []) → v ≡ Two) → (IsSomeAnd o (λ file. file ≢ []) → new ≡ o) → HoldsAs kit v es o
        go None empty two same = tt
        go (Some []) empty two same = inl (record {
          empty = refl;
          none = rest-reads new may_leave (cast_of kit v).header [] es gate (empty refl) reads;
          kind = two refl;
        })
        go (Some (b ∷ bs)) empty two same =
            inr (subst (λ (o : Option (List ℕ)). IfSome o (λ file. ReadsAs (cast_of kit v).header file es)) (same (λ e. cc)) reads)

-- ---- what a start tells

pub record IsStarted (v : Version) (h : Header) (old new : Option (List ℕ)) (may_leave : List ℕ → Type 0) (gate : ℕ) : Type 0 where
  pub begun : IsSomeAnd old (λ file. file ≡ []) → HasRest new may_leave (header_bytes Two h) [] gate
  pub kind : IsSomeAnd old (λ file. file ≡ []) → v ≡ Two
  pub first : IfSome old (λ file. file ≢ [] → LieBefore (header_bytes v h) file [] gate)
  pub only_read : IsSomeAnd old (λ file. file ≢ []) → new ≡ old
  pub untold : StaysUntold old new

pub begun-so : (kit : Kit) (v : Version) (h : Header) (old new : Option (List ℕ)) (may_leave : List ℕ → Type 0) (gate : ℕ)
    → h ≡ header_in kit → IsStarted v h old new may_leave gate → gate ≡ length (cast_of kit v).header → IsBegun kit v old new gate
begun-so kit v h old new may_leave gate same started place =
    let s = subst (λ (g : Header). IsStarted v g old new may_leave gate) same started in
    record {
      stands = started-stands kit v old new may_leave gate s.begun s.only_read s.untold s.kind s.first;
      holds = started-holds kit v old new may_leave gate s.begun s.only_read s.untold s.kind;
      fresh = λ empty. rest-there new may_leave (cast_of kit v).header gate
          (rests kit v old new may_leave gate s.begun s.only_read s.untold s.kind empty);
      kind = s.kind;
      same = s.only_read;
      tells = started-tells kit v old new may_leave gate s.begun s.only_read;
      untold = s.untold;
      place = place;
    }

-- why a journal was not started
pub not-started : (T : Type 0) (kit : Kit) (by : Option SnapSaid) (lines before now : ℕ) (held : Option (List ℕ)) (h : Header) (fault : JournalFault) (why : Stop)
    → h ≡ header_in kit
    → IfNotAJournal {T = T} (Err fault) (IfSome held (λ file. (file ≢ []) × ((v : Version) → ¬ IsJournal v h file)))
    → HasCauses {T = T} of_start before now (Err fault) → why ≡ stop_of_fault fault → Unread kit by lines held why
not-started T kit by lines before now held h fault why same other causes is = subst (Unread kit by lines held) (sym is) (go fault other causes)
  where
    go : (f : JournalFault) → IfNotAJournal {T = T} (Err f) (IfSome held (λ file. (file ≢ []) × ((v : Version) → ¬ IsJournal v h file)))
        → HasCauses {T = T} of_start before now (Err f) → Unread kit by lines held (stop_of_fault f)
    go DiskFault there cause = no_disk
    go NotAJournal there cause = no_header (reported held (λ file is. record {
      some = is.0;
      neither = λ v. subst (λ (g : Header). ¬ IsJournal v g file) same (is.1 v);
    }) there)
    go (NoEntry place) there cause = absurd cc
    go (Other place) there cause = absurd cc
    go (Full whole entry) there cause = absurd cc
    go NoMemory there cause = absurd cc

-- ---- lengths

-- a header is as long as its parts
pub header-long : (h : Header) → length h.group ≡ 16 → length h.digest ≡ 32 → (v : Version) → length (header_bytes v h) ≡ 60
header-long h group digest One = omega (arith, length-append h.group (to_be_bytes w64 (mask_of h.hosted) ++ h.digest), group, digest)
header-long h group digest Two = omega (arith, length-append h.group (to_be_bytes w64 (mask_of h.hosted) ++ h.digest), group, digest)
