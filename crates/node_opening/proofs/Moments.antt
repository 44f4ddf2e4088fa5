-- What a crash leaves of the journal as a node opens, at any moment.
use Rattle.std.proofs.Common.{◌≡◌, ◌≢◌, ⊎_elim, inl, inr, ℕ, List, [], ◌∷◌, ◌++◌, length, get_or, Option, None, Some, refl, sym, ap, subst, arith, length-append, ◌∙◌}
use Rattle.std.specs.Prelude.{IfSome, IsSome}
use Rattle.std.specs.Option.{IsSomeAnd}
use Rattle.kit_defs.specs.Kits.{Kit}
use Rattle.journal_defs.specs.declared.Version.{Version}
use Rattle.journal_defs.specs.declared.Version.TheVariants.{One, Two}
use Rattle.journal_defs.specs.Entries.{Entry}
use Rattle.journal_defs.specs.Journals.{Header, header_bytes, up_to_gate}
use Rattle.journal_defs.specs.Crashes.{Survives}
use Rattle.journal_disk.specs.Disks.{EndsAt, LeavesOnly, LeavesStaged, OnlyReads}
use Rattle.journal_disk.proofs.Moments.{weaker}
use Rattle.journal_disk.proofs.OnceRead.{reads_before}
use Rattle.journal_disk.proofs.Shutting.{fewer_stand, found_images}
use Rattle.node_defs.specs.Casts.{cast_of}
use Rattle.restored_hosts.specs.Below.{SnapSaid}
use Rattle.node_opening.specs.Begins.{head_in}
use Rattle.node_opening.specs.Holding.{header_in}

-- one file begins with the header of one kind alone
one-kind : (h : Header) (v w : Version) (es fs : List Entry) (xs ys : List ℕ)
    → up_to_gate (header_bytes v h) es ++ xs ≡ up_to_gate (header_bytes w h) fs ++ ys → v ≡ w
one-kind h One One es fs xs ys e = refl
one-kind h One Two es fs xs ys e = let differ : 49 ≡ 50 = ap (λ (l : List ℕ). get_or l 3 0) e in absurd (omega (arith, differ))
one-kind h Two One es fs xs ys e = let differ : 50 ≡ 49 = ap (λ (l : List ℕ). get_or l 3 0) e in absurd (omega (arith, differ))
one-kind h Two Two es fs xs ys e = refl

-- an image that a run may find begins with these bytes and the entries
pub record HasFront (head : List ℕ) (es : List Entry) (image : List ℕ) : Type 0 where
  gate : ℕ
  behind : List ℕ
  parts : image ≡ up_to_gate head es ++ gate ∷ behind

front-of : (head : List ℕ) (es : List Entry) (images : List ℕ → Type 0) → Survives head es images → (image : List ℕ) → images image
    → HasFront head es image
front-of head es images stands image now = ⊎_elim
    (λ rest. record { gate = 0; behind = (rest image now).behind; parts = (rest image now).parts })
    (λ staged. record { gate = (staged.2 image now).1.gate; behind = _; parts = (staged.2 image now).1.parts })
    stands.all

-- ---- a disk that is only read, and then its journal is finished

module _ {D : Type 0} (seen : D → Option (List ℕ)) (may_leave : D → List ℕ → Type 0) (moment : D → ℕ) (left_since : D → ℕ → List ℕ → Type 0)
    (head : List ℕ) (es : List Entry) (old : D) (image : IfSome (seen old) (may_leave old)) (some : IsSome (seen old))
    (stands : Survives head es (may_leave old)) where
  pub front-there : (file : List ℕ) → seen old ≡ Some file → HasFront head es file
  front-there file reported = front-of head es (may_leave old) stands file
      (subst (λ (o : Option (List ℕ)). IfSome o (may_leave old)) reported image)

  pub not-empty : IsSomeAnd (seen old) (λ file. file ≢ [])
  not-empty = go (seen old) refl some
    where
      go : (o : Option (List ℕ)) → seen old ≡ o → IsSome o → IsSomeAnd o (λ file. file ≢ [])
      go None reported is = absurd cc
      go (Some file) reported is =
          let front = front-there file reported in
          λ e. absurd (omega (arith, ap length front.parts, ap length e, length-append (up_to_gate head es) (front.gate ∷ front.behind)))

  -- as long as the disk is only read
  pub read-moments : (new : D)
      → (IsSomeAnd (seen old) (λ file. file ≢ []) → OnlyReads seen may_leave moment left_since old new)
      → LeavesOnly moment left_since old new (LeavesStaged head es (may_leave old))
  read-moments new only = weaker moment left_since old new (may_leave old) (LeavesStaged head es (may_leave old))
      (found_images head es (may_leave old) stands) (only not-empty).moments

  pub read-stands : (new : D)
      → (IsSomeAnd (seen old) (λ file. file ≢ []) → OnlyReads seen may_leave moment left_since old new)
      → Survives head es (may_leave new)
  read-stands new only = fewer_stand head es (may_leave old) (may_leave new) (λ c now. ((only not-empty).images c).0 now) stands

  -- and as its journal is finished
  module _ (mid new : D) (only : IsSomeAnd (seen old) (λ file. file ≢ []) → OnlyReads seen may_leave moment left_since old mid)
      (gate : ℕ) (fs : List Entry) (ending : seen mid ≡ seen old → EndsAt (seen mid) head fs gate) where
    pub finish-stands : ((front : List ℕ) (gs hs : List Entry) → Survives front gs (may_leave mid) → EndsAt (seen mid) front hs gate
        → Survives front gs (may_leave new)) → Survives head es (may_leave new)
    finish-stands then = then head es fs (read-stands mid only) (ending (only not-empty).reads)

    pub finish-moments : ((front : List ℕ) (gs hs : List Entry) → Survives front gs (may_leave mid) → EndsAt (seen mid) front hs gate
        → LeavesOnly moment left_since mid new (LeavesStaged front gs (may_leave mid)))
        → LeavesOnly moment left_since old new (LeavesStaged head es (may_leave old))
    finish-moments any =
        let read = only not-empty in
        reads_before seen may_leave moment left_since old mid new (LeavesStaged head es (may_leave old)) read
        (found_images head es (may_leave old) stands)
        (weaker moment left_since mid new (LeavesStaged head es (may_leave mid)) (LeavesStaged head es (may_leave old))
        (λ c left. ⊎_elim (λ without. inl without) (λ with. inr (with.0, λ d now. with.1 d ((read.images d).1 now), with.2)) left)
        (any head es fs (read-stands mid only) (ending read.reads)))

-- The entries end so in the journal that was read. What the run found begins with the same bytes: by a header of the same kind, or as the file
-- does.
pub ends-so : (kit : Kit) (s : Option SnapSaid) (v w : Version) (es fs : List Entry) (gate : ℕ) (old mid : Option (List ℕ))
    → ((file : List ℕ) → old ≡ Some file → HasFront (head_in (cast_of kit v) s old) es file)
    → (IsSome mid → EndsAt mid (head_in (cast_of kit w) s mid) fs gate) → IsSome old → mid ≡ old
    → EndsAt mid (head_in (cast_of kit v) s old) fs gate
ends-so kit s v w es fs gate old mid front ending some same = go s front ending
  where
    ended : (b : Option SnapSaid) → (IsSome mid → EndsAt mid (head_in (cast_of kit w) b mid) fs gate)
        → EndsAt mid (head_in (cast_of kit w) b mid) fs gate
    ended b ends = ends (subst (λ (o : Option (List ℕ)). IsSome o) (sym same) some)

    heads : (t : SnapSaid) (o : Option (List ℕ)) → head_in (cast_of kit w) (Some t) o ≡ head_in (cast_of kit v) (Some t) o
    heads t None = refl
    heads t (Some file) = refl

    go : (b : Option SnapSaid) → ((file : List ℕ) → old ≡ Some file → HasFront (head_in (cast_of kit v) b old) es file)
        → (IsSome mid → EndsAt mid (head_in (cast_of kit w) b mid) fs gate) → EndsAt mid (head_in (cast_of kit v) b old) fs gate
    go None before ends =
        let there = ended None ends in
        let first = before there.file (sym same ∙ there.reported) in
        let kind : w ≡ v = one-kind (header_in kit) w v fs es (there.reads.gate ∷ there.reads.unread) (first.gate ∷ first.behind)
        (sym there.reads.parts ∙ first.parts) in
        subst (λ (u : Version). EndsAt mid (cast_of kit u).header fs gate) kind there
    go (Some t) before ends = subst (λ (l : List ℕ). EndsAt mid l fs gate)
        (heads t mid ∙ ap (λ (o : Option (List ℕ)). head_in (cast_of kit v) (Some t) o) same) (ended (Some t) ends)
