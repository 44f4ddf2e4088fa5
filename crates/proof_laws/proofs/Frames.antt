-- The one frame of a commit certificate is read as it, so it shows what the certificate shows.
use Rattle.std.proofs.Common.{◌≡◌, inl, inr, ℕ, zero, suc, ◌+◌, ◌<◌, ◌≤◌, List, [], ◌∷◌, ◌++◌, length, map, Some, Result, Ok, Err, refl, sym, ap, ◌∙◌, subst, arith, slice_get, length-append}
use Rattle.std.specs.Prelude.{IsTrue, All}
use Rattle.std.specs.List.Sorted.{IsStrictlyIncreasing}
use Rattle.std.proofs.lemmas.List.{append-nil}
use Rattle.byte_defs.specs.Fields.{◌>>=◌, refuse_if, text, two_bytes}
use Rattle.byte_defs.proofs.Fields.{byte_again}
use Rattle.message_defs.specs.Limits.{most_frame_bytes, most_members}
use Rattle.message_defs.specs.Updates.{Value}
use Rattle.message_defs.specs.Statements.{Statement, Ready, Claim}
use Rattle.message_defs.specs.Spelling.{IsClaim, IsStatement, spelling, value_bytes}
use Rattle.message_defs.specs.declared.FrameFault.{FrameFault}
use Rattle.message_defs.specs.declared.FrameFault.TheVariants as faults
use Rattle.message_defs.specs.Reading.{content_at, statement_in, statement_of}
use Rattle.message_defs.specs.Frames.{AreGroups, FrameView, Group, IsFrame, Proof, frame_bytes, frame_of}
use Rattle.message_defs.specs.Packing.{pack}
use Rattle.message_defs.specs.Claims.{claims_of, claims_of_group, claims_of_groups, claims_on, in_proof}
use Rattle.frame_codec.proofs.Grammar.{frame_again}
use Rattle.statements.proofs.Grammar.{spelling_again}
use Rattle.length_laws.proofs.Spelled.{statements_are_short}
use Rattle.letter_laws.proofs.Frames.{proof-fits}
use Rattle.pool_laws.proofs.Members.{All-mem, Mem}
use Rattle.group_defs.specs.Views.{View, IsView, is_member, next_view, quorum}
use Rattle.group_defs.specs.Process.{Delivered, Left, Process, Setting, deliveries_of, start, views_of}
use Rattle.group_defs.specs.Events.{run}
use Rattle.group_defs.specs.Hearing.{is_valid}
use Rattle.group_defs.specs.Sending as sending
use Rattle.image_defs.specs.Images.{LeftView, left_by, lefts_from, other_lists, first_list}
use Rattle.image_defs.specs.Kept.{AreLeft, IsLeft}
use Rattle.image_laws.proofs.Making.{lefts-fit}
use Rattle.image_laws.proofs.Restoring.{process_is_restored}
use Rattle.chain_defs.specs.Advance.{advance, proof_by, proof_of, proof_said, shows}
use Rattle.chain_defs.specs.declared.ChainFault.{ChainFault}
use Rattle.chain_laws.proofs.Commits.{commit_shows, follows}
use Rattle.proof_defs.specs.Lines.{proof_frames}
use Rattle.proof_defs.specs.Laws.{Began, FrameShows, HasFrame}
use Rattle.proof_laws.proofs.Packed.{are-signatures, as-many, claims-again, group, packed-one, signatures_of}

-- ---- a certificate

-- the claims of one Ready by rising signers, each in range
record IsOfReady (st : Statement) (cs : List Claim) : Type 0 where
  some : 0 < length cs
  few : length cs ≤ most_members
  rising : IsStrictlyIncreasing (map (λ (c : Claim). c.signer) cs)
  each : (c : Claim) → Mem c cs → IsClaim c × (c.statement ≡ st)

-- the view by which a process left, and how
record LeftSo (s : Setting) (l : Left) : Type 0 where
  how : LeftView
  view : IsView l.view
  is : IsLeft s l.view how
  commit : how.commit ≡ l.commit

some-left : (a b : Left) → (let o = Some a in o) ≡ Some b → a ≡ b
some-left a b e = cc

left-so : (s : Setting) (v : View) (ls : List LeftView) (ds : List (List Delivered)) → IsView v → AreLeft s v ls → (i : ℕ) (l : Left)
    → slice_get (lefts_from v ls ds) i ≡ Some l → LeftSo s l
left-so s v [] ds view are i l at = absurd cc
left-so s v (x ∷ ls) ds view are zero l at =
    subst (LeftSo s) (some-left (record { view = v; delivered = first_list ds; commit = x.commit }) l at)
    (record { how = x; view = view; is = are.0; commit = refl })
left-so s v (x ∷ ls) ds view are (suc i) l at =
    left-so s (next_view v x.value.update) ls (other_lists ds) (follows s v x view are.0) are.1 i l at

began-left : (s : Setting) (p : Process) (i : ℕ) (l : Left) → Began s p → slice_get p.left i ≡ Some l → LeftSo s l
began-left s p i l b at =
    let q : Process = run s (start s b.me b.batch_limit) b.turns in
    let valid = subst (λ (p : Process). All (λ c. IsTrue (is_valid s c)) p.signed) (sym b.is) b.valid in
    let fits = lefts-fit s b.me b.batch_limit b.turns b.genesis valid in
    let restored = process_is_restored s b.me b.batch_limit b.turns b.genesis in
    left-so s s.genesis (map (λ l. left_by l.commit) q.left) (deliveries_of q) b.genesis fits.left i l
    (ap (λ (r : Process). slice_get r.left i) restored ∙ ap (λ (r : Process). slice_get r.left i) b.is ∙ at)

of-ready : (s : Setting) (l : Left) (so : LeftSo s l) → All IsClaim l.commit
    → IsOfReady (Ready l.view.number so.how.rank so.how.value) l.commit
of-ready s l so ranged = record {
  some = subst (λ (cs : List Claim). 0 < length cs) so.commit (at-least (length l.view.members) (length so.how.commit) so.view.some so.is.many);
  few = subst (λ (cs : List Claim). length cs ≤ most_members) so.commit
      (at-most (length l.view.members) (length so.how.commit) so.view.few so.is.many);
  rising = subst (λ (cs : List Claim). IsStrictlyIncreasing (map (λ (c : Claim). c.signer) cs)) so.commit so.is.rising;
  each = λ c m. (
    All-mem IsClaim l.commit c ranged m,
    (All-mem (λ (c : Claim). IsTrue (is_member l.view c.signer)
        × (c.statement ≡ Ready l.view.number so.how.rank so.how.value) × IsTrue (is_valid s c)) so.how.commit c so.is.each
        (subst (λ (cs : List Claim). Mem c cs) (sym so.commit) m)).1,
  );
}
  where
    at-least : (n k : ℕ) → 1 ≤ n → k ≡ quorum n → 0 < k
    at-least n k some many = omega (arith, some, many)

    at-most : (n k : ℕ) → n ≤ 16 → k ≡ quorum n → k ≤ 16
    at-most n k few many = omega (arith, few, many)

-- ---- its frame

-- a Ready may stand in a Proof: the bytes behind its kind's number tell it, whatever a frame carries
by-content : (rest : List ℕ) → statement_of (11 ∷ rest) ≡ content_at 11 rest
unfolding statement_of statement_in
by-content rest = rw (byte_again faults.Statement 11 rest) refl

in-proof : (rest : List ℕ) → statement_in in_proof (11 ∷ rest) ≡ content_at 11 rest
unfolding statement_in
in-proof rest = rw (byte_again faults.Statement 11 rest) refl

ready-again : (x r : ℕ) (v : Value) → IsStatement (Ready x r v) → statement_in in_proof (spelling (Ready x r v)) ≡ Ok (Ready x r v)
ready-again x r v is =
    let rest : List ℕ = two_bytes x ++ r ∷ value_bytes v in
    in-proof rest ∙ sym (by-content rest) ∙ spelling_again (Ready x r v) is

module _ (x r : ℕ) (v : Value) (cs : List Claim) (of : IsOfReady (Ready x r v) cs) where
  abbrev st : Statement
  st = Ready x r v

  abbrev one : Group
  one = group (spelling st) (signatures_of cs)

  in-range : IsStatement st
  in-range = go cs of.some of.each
    where
      go : (ds : List Claim) → 0 < length ds → ((c : Claim) → Mem c ds → IsClaim c × (c.statement ≡ st)) → IsStatement st
      go [] some each = absurd (omega (arith, some))
      go (d ∷ ds) some each = let here = each d (inl refl) in subst IsStatement here.1 here.0.1

  groups : (hs : List Group) → pack cs ≡ hs ∷ [] → hs ≡ one ∷ []
  groups hs e = packed-one (spelling st) cs hs (λ c m. ap spelling (of.each c m).1) of.rising of.few e

  claims-read : claims_of (Proof (one ∷ [])) ≡ Ok cs
  unfolding claims_of claims_of_groups claims_of_group
  claims-read =
      ap (λ (r : Result Statement FrameFault). (r >>= λ st. claims_on st (signatures_of cs)) >>= λ first. Ok (first ++ [])) (ready-again x r v in-range)
      ∙ ap (λ (r : Result (List Claim) FrameFault). r >>= λ first. Ok (first ++ []))
      (claims-again st cs (λ c m. ((of.each c m).1, (of.each c m).0.0)))
      ∙ ap (λ (xs : List Claim). let r : Result (List Claim) FrameFault = Ok xs in r) (append-nil cs)

  are-groups : AreGroups (one ∷ [])
  are-groups = record {
    some = omega arith;
    few = omega arith;
    each = (
      record {
        statement = let short = statements_are_short st in-range in omega (arith, short);
        some = let long = as-many cs in omega (arith, long, of.some);
        few = let long = as-many cs in omega (arith, long, of.few);
        signatures = are-signatures 0 cs (λ c m. ((of.each c m).0, omega arith)) of.rising;
      },
      tt,
    );
  }

  -- the bytes of the one frame are a Proof of these claims
  said-again : (frame : List ℕ) → sending.frames_of (sending.Proof cs) ≡ frame ∷ [] → proof_said frame ≡ Ok cs
  unfolding proof_said
  said-again frame e =
      ap (λ (t : List ℕ). proof_by (frame_of t)) is
      ∙ ap proof_by (frame_again (Proof (one ∷ [])) (record { parts = are-groups; size = size }))
      ∙ ap (proof_of (Proof (one ∷ []))) claims-read
    where
      packed : (hs : List Group) × (pack cs ≡ hs ∷ []) × (frame_bytes (Proof hs) ≡ frame)
      packed = go (pack cs) refl e
        where
          go : (ps : List (List Group)) → pack cs ≡ ps → map (λ gs. frame_bytes (Proof gs)) ps ≡ frame ∷ []
              → (hs : List Group) × (pack cs ≡ hs ∷ []) × (frame_bytes (Proof hs) ≡ frame)
          go [] at e = absurd cc
          go (hs ∷ []) at e = (hs, at, cc)
          go (hs ∷ gs ∷ ps) at e = absurd cc

      is : frame ≡ frame_bytes (Proof (one ∷ []))
      is = sym packed.2 ∙ ap (λ (hs : List Group). frame_bytes (Proof hs)) (groups packed.0 packed.1)

      size : length (frame_bytes (Proof (one ∷ []))) ≤ most_frame_bytes
      size = subst (λ (t : List ℕ). length t ≤ most_frame_bytes) is
          (proof-fits cs (λ c m. (of.each c m).0) frame (subst (λ (fs : List (List ℕ)). Mem frame fs) (sym e) (inl refl)))

-- a frame has bytes
pub frame-some : (cs : List Claim) (frame : List ℕ) → sending.frames_of (sending.Proof cs) ≡ frame ∷ [] → 0 < length frame
frame-some cs frame e = go (pack cs) e
  where
    go : (ps : List (List Group)) → map (λ gs. frame_bytes (Proof gs)) ps ≡ frame ∷ [] → 0 < length frame
    go [] e = absurd cc
    go (hs ∷ ps) e = let is : frame_bytes (Proof hs) ≡ frame = cc in subst (λ (t : List ℕ). 0 < length t) is (omega arith)

-- ---- the law

pub frame_shows : FrameShows
unfolding advance
frame_shows s p i l w b at next has =
    let so = began-left s p i l b at in
    let valid = subst (λ (p : Process). All (λ c. IsTrue (is_valid s c)) p.signed) (sym b.is) b.valid in
    let shown : shows s l.view l.commit ≡ Ok w = commit_shows s b.me b.batch_limit b.turns b.genesis valid i l w
    (ap (λ (r : Process). slice_get r.left i) b.is ∙ at) (ap (λ (r : Process). slice_get (views_of r) (i + 1)) b.is ∙ next) in
    ap (λ (r : Result (List Claim) ChainFault). r >>= shows s l.view)
    (said-again l.view.number so.how.rank so.how.value l.commit (of-ready s l so has.claims) has.frame has.one)
    ∙ shown
