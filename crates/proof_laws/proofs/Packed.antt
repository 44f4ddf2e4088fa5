-- Claims of one Ready by rising signers that fit into one frame are one group of it, and are read of it again.
use Rattle.std.proofs.Common.{◌≡◌, ◌≢◌, inl, inr, ℕ, zero, suc, ◌+◌, ◌<◌, ◌≤◌, List, [], ◌∷◌, ◌++◌, length, map, Bool, true, false, Option, Some, None, Result, Ok, Err, refl, sym, ap, ◌∙◌, subst, arith, append_assoc, length-append}
use Rattle.std.specs.Prelude.{if◌then◌else◌, nat_lt, ◌&&◌}
use Rattle.std.specs.List.{last_or}
use Rattle.std.specs.List.Sorted.{IsStrictlyIncreasing}
use Rattle.std.proofs.lemmas.Bool.{le-ltb, lt-ltb}
use Rattle.std.proofs.lemmas.Slice.Eq.{bytes_eq-Decides}
use Rattle.byte_defs.specs.Choices.{is_some_and}
use Rattle.byte_defs.specs.Equality.{same_bytes}
use Rattle.byte_defs.specs.Fields.{◌>>=◌, refuse_if}
use Rattle.message_defs.specs.Limits.{most_frame_bytes, most_members}
use Rattle.message_defs.specs.declared.FrameFault.{FrameFault}
use Rattle.message_defs.specs.declared.FrameFault.TheVariants.{Range}
use Rattle.message_defs.specs.Statements.{Statement, Claim}
use Rattle.message_defs.specs.Spelling.{IsClaim, spelling}
use Rattle.message_defs.specs.Frames.{AreSignatures, Group, IsGroup}
use Rattle.message_defs.specs.Packing.{add, fits, group_of, joins, pack, pack_from, signed_of, with_signature}
use Rattle.message_defs.specs.Claims.{claims_on}
use Rattle.pool_laws.proofs.Members.{Mem, mem-map}
use Rattle.chain_laws.proofs.Commits.{rising-above, rising-tail}

-- ---- one group

-- who signed, each with the signature
abbrev pub signatures_of : List Claim → List (ℕ × List ℕ)
signatures_of cs = map (λ c. (c.signer, c.signature)) cs

pub as-many : (cs : List Claim) → length (signatures_of cs) ≡ length cs
as-many [] = refl
as-many (c ∷ cs) = ap suc (as-many cs)

-- these signatures of these bytes
abbrev pub group : List ℕ → List (ℕ × List ℕ) → Group
group bytes ss = record { statement = bytes; signatures = ss }

last-signer : (o : Option ℕ) (before : List (ℕ × List ℕ)) (last : ℕ × List ℕ) → last_or o (map (λ s. s.0) (before ++ last ∷ [])) ≡ Some last.0
last-signer o [] last = refl
last-signer o (s ∷ before) last = last-signer (Some s.0) before last

-- a claim of the same bytes by a higher signer joins them, where there is room
joins-it : (bytes : List ℕ) (before : List (ℕ × List ℕ)) (last : ℕ × List ℕ) (c : Claim) → spelling c.statement ≡ bytes
    → length before + 1 < most_members → last.0 < c.signer → joins (group bytes (before ++ last ∷ [])) (signed_of c) ≡ true
joins-it bytes before last c same room above =
    both (same_bytes bytes (spelling c.statement)) (nat_lt (length (before ++ last ∷ [])) most_members)
    (is_some_and (last_or None (map (λ s. s.0) (before ++ last ∷ []))) (λ signer. nat_lt signer c.signer))
    (subst (λ (t : List ℕ). same_bytes t (spelling c.statement) ≡ true) same (same-is (spelling c.statement)))
    (lt-ltb (length (before ++ last ∷ [])) most_members (let long = length-append before (last ∷ []) in omega (arith, long, room)))
    (ap (λ (o : Option ℕ). is_some_and o (λ signer. nat_lt signer c.signer)) (last-signer None before last) ∙ lt-ltb last.0 c.signer above)
  where
    same-is : (t : List ℕ) → same_bytes t t ≡ true
    same-is t = (bytes_eq-Decides t t).1 refl

    both : (a b d : Bool) → a ≡ true → b ≡ true → d ≡ true → (a && b && d) ≡ true
    both a b d x y z = (λ i. x i && y i && z i)

-- ---- one frame

-- some frame is packed
some-frame : (gs : List Group) (cs : List Claim) → pack_from gs (map signed_of cs) ≢ []
some-frame gs [] = λ e. cc
some-frame gs (c ∷ cs) = go (fits most_frame_bytes (add gs (signed_of c))) (some-frame (add gs (signed_of c)) cs)
  where
    go : (b : Bool) → pack_from (add gs (signed_of c)) (map signed_of cs) ≢ []
        → (if b then pack_from (add gs (signed_of c)) (map signed_of cs) else gs ∷ pack_from (group_of (signed_of c) ∷ []) (map signed_of cs)) ≢ []
    go true some = some
    go false some = λ e. cc

only-one : (gs hs : List Group) → gs ∷ [] ≡ hs ∷ [] → gs ≡ hs
only-one gs hs e = cc

rest-none : (gs hs : List Group) (more : List (List Group)) → gs ∷ more ≡ hs ∷ [] → more ≡ []
rest-none gs hs more e = cc

module _ (bytes : List ℕ) where
  -- a group and further claims, where no second frame is begun: the claims' signatures stand in the group
  packed-from : (before : List (ℕ × List ℕ)) (last : ℕ × List ℕ) (cs : List Claim) (hs : List Group)
      → ((c : Claim) → Mem c cs → spelling c.statement ≡ bytes) → IsStrictlyIncreasing (last.0 ∷ map (λ (c : Claim). c.signer) cs)
      → length before + suc (length cs) ≤ most_members
      → pack_from (group bytes (before ++ last ∷ []) ∷ []) (map signed_of cs) ≡ hs ∷ []
      → hs ≡ group bytes (before ++ last ∷ signatures_of cs) ∷ []
  packed-from before last [] hs same rising few e = sym (only-one (group bytes (before ++ last ∷ []) ∷ []) hs e)
  packed-from before last (c ∷ cs) hs same rising few e =
      go (fits most_frame_bytes (add (group bytes (before ++ last ∷ []) ∷ []) (signed_of c))) e
      (packed-from (before ++ last ∷ []) next cs hs (λ d m. same d (inr m)) (rising-tail last.0 (map (λ (c : Claim). c.signer) (c ∷ cs)) rising)
      (let long = length-append before (last ∷ []) in omega (arith, long, few)))
    where
      next : ℕ × List ℕ
      next = (c.signer, c.signature)

      above : last.0 < c.signer
      above = rising-above last.0 (map (λ (c : Claim). c.signer) (c ∷ cs)) rising c.signer (inl refl)

      added : add (group bytes (before ++ last ∷ []) ∷ []) (signed_of c) ≡ group bytes ((before ++ last ∷ []) ++ next ∷ []) ∷ []
      added = ap (λ b. if b then with_signature (group bytes (before ++ last ∷ [])) (signed_of c) ∷ []
          else group bytes (before ++ last ∷ []) ∷ group_of (signed_of c) ∷ [])
          (joins-it bytes before last c (same c (inl refl)) (omega (arith, few)) above)

      go : (b : Bool) → (if b then pack_from (add (group bytes (before ++ last ∷ []) ∷ []) (signed_of c)) (map signed_of cs)
          else (group bytes (before ++ last ∷ []) ∷ []) ∷ pack_from (group_of (signed_of c) ∷ []) (map signed_of cs)) ≡ hs ∷ []
          → (pack_from (group bytes ((before ++ last ∷ []) ++ next ∷ []) ∷ []) (map signed_of cs) ≡ hs ∷ []
          → hs ≡ group bytes ((before ++ last ∷ []) ++ next ∷ signatures_of cs) ∷ [])
          → hs ≡ group bytes (before ++ last ∷ signatures_of (c ∷ cs)) ∷ []
      go true e again =
          again (ap (λ gs. pack_from gs (map signed_of cs)) (sym added) ∙ e)
          ∙ ap (λ ss. group bytes ss ∷ []) (append_assoc before (last ∷ []) (next ∷ signatures_of cs))
      go false e again = absurd (some-frame (group_of (signed_of c) ∷ []) cs (rest-none (group bytes (before ++ last ∷ []) ∷ []) hs
          (pack_from (group_of (signed_of c) ∷ []) (map signed_of cs)) e))

  -- all of them
  pub packed-one : (cs : List Claim) (hs : List Group) → ((c : Claim) → Mem c cs → spelling c.statement ≡ bytes)
      → IsStrictlyIncreasing (map (λ (c : Claim). c.signer) cs) → length cs ≤ most_members → pack cs ≡ hs ∷ []
      → hs ≡ group bytes (signatures_of cs) ∷ []
  packed-one [] hs same rising few e = absurd cc
  packed-one (c ∷ cs) hs same rising few e = packed-from [] (c.signer, c.signature) cs hs (λ d m. same d (inr m)) rising (omega (arith, few))
      (ap (λ (t : List ℕ). pack_from (group t ((c.signer, c.signature) ∷ []) ∷ []) (map signed_of cs)) (sym (same c (inl refl))) ∙ e)

-- ---- read again

-- rising signers and short signatures are those of a group
pub are-signatures : (least : ℕ) (cs : List Claim) → ((c : Claim) → Mem c cs → IsClaim c × (least ≤ c.signer))
    → IsStrictlyIncreasing (map (λ (c : Claim). c.signer) cs) → AreSignatures least (signatures_of cs)
are-signatures least [] each rising = tt
are-signatures least (c ∷ cs) each rising =
    let is = each c (inl refl) in (
      is.1,
      omega (arith, is.0.0),
      is.0.2,
      are-signatures (c.signer + 1) cs (λ d m. ((each d (inr m)).0, (let up = above d m in omega (arith, up))))
          (rising-tail c.signer (map (λ (c : Claim). c.signer) cs) rising),
    )
  where
    above : (d : Claim) → Mem d cs → c.signer < d.signer
    above d m = rising-above c.signer (map (λ (c : Claim). c.signer) cs) rising d.signer (mem-map (λ (c : Claim). c.signer) cs d m)

-- the claims of a statement's signatures
pub claims-again : (st : Statement) (cs : List Claim) → ((c : Claim) → Mem c cs → (c.statement ≡ st) × (c.signer ≤ 63))
    → claims_on st (signatures_of cs) ≡ Ok cs
unfolding claims_on
claims-again st [] each = refl
claims-again st (c ∷ cs) each =
    let here = each c (inl refl) in
    let more : claims_on st (signatures_of cs) ≡ Ok cs = claims-again st cs (λ d m. each d (inr m)) in
    ap (λ (b : Bool). refuse_if b Range >>= λ u. claims_on st (signatures_of cs) >>= λ others.
    Ok (record { signer = c.signer; statement = st; signature = c.signature } ∷ others)) (le-ltb 63 c.signer here.1)
    ∙ ap (λ (r : Result (List Claim) FrameFault). r >>= λ others.
    Ok (record { signer = c.signer; statement = st; signature = c.signature } ∷ others)) more
    ∙ ap (λ (x : Statement). let r : Result (List Claim) FrameFault = Ok (record { signer = c.signer; statement = x; signature = c.signature } ∷ cs) in r)
    (sym here.0)
