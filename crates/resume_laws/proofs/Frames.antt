-- What the bytes of a frame claim is in range, whatever the bytes.
use Rattle.std.proofs.Common.{◌≡◌, ℕ, Bool, List, [], ◌∷◌, ◌++◌, Result, Ok, Err, refl, subst, inl, inr}
use Rattle.std.specs.Prelude.{All, nat_lt}
use Rattle.byte_defs.proofs.Fields.{bind_ok, refuse_ok, ok_is}
use Rattle.pool_laws.proofs.Members.{Mem, mem-All, append-mem}
use Rattle.message_defs.specs.Limits.{last_process}
use Rattle.message_defs.specs.declared.FrameFault.{FrameFault}
use Rattle.message_defs.specs.declared.FrameFault.TheVariants as faults
use Rattle.message_defs.specs.Statements.{Statement, Init, Echo, Order, Place, Keep, Notify, End, Last, Suggest, Ack, Ready, Claim}
use Rattle.message_defs.specs.Spelling.{IsStatement}
use Rattle.message_defs.specs.Reading.{statement_in}
use Rattle.message_defs.specs.Frames.{Group, FrameView, Bundle, Proof, Want, frame_of}
use Rattle.message_defs.specs.Claims as claims
use Rattle.message_defs.specs.Claims.{claims_on, claims_of_group, claims_of_groups, claims_of, frame_said, in_bundle, in_proof, said, said_by}
use Rattle.statements.proofs.Grammar.{statement_takes}
use Rattle.group_defs.specs.Process.{Setting, Process}
use Rattle.group_defs.specs.Events.{Hand, after}
use Rattle.group_defs.specs.Family.{claims_in, handed_to}
use Rattle.image_laws.specs.Keeping.{InRange}
use Rattle.journal_defs.specs.Entries.{Event, Submit, Frame, Suspect, Join, Renew, Tick, Entry}
use Rattle.node_defs.specs.Casts.{handed, kept_turn, turns_from}

-- each of these claims is in range
abbrev AreIn : List Claim → Type 0
AreIn cs = (c : Claim) → Mem c cs → InRange c.statement

none-in : AreIn []
none-in c m = absurd m

in-both : (cs ds : List Claim) → AreIn cs → AreIn ds → AreIn (cs ++ ds)
in-both cs ds one two c m = elim (append-mem cs ds c m) [ inl here ↦ one c here | inr there ↦ two c there ]

-- a statement that has a spelling is
statement-in : (st : Statement) → IsStatement st → InRange st
statement-in (Order x k b) is = is.1
statement-in (Place x k b) is = (is.1, is.2.some, is.2.few)
statement-in (Init x l payload) is = tt
statement-in (Echo x m payload) is = tt
statement-in (Keep x k b) is = tt
statement-in (Notify x u) is = tt
statement-in (End x k) is = tt
statement-in (Last x r ready) is = tt
statement-in (Suggest x r v) is = tt
statement-in (Ack x r v) is = tt
statement-in (Ready x r v) is = tt

on-in : (st : Statement) (signatures : List (ℕ × List ℕ)) (cs : List Claim) → InRange st → claims_on st signatures ≡ Ok cs → AreIn cs
unfolding claims_on
on-in st [] cs is e = subst AreIn (ok_is [] cs e) none-in
on-in st (s ∷ more) cs is e =
    let known = refuse_ok (nat_lt last_process s.0) faults.Range _ cs e in
    let others = bind_ok (claims_on st more) _ cs known.1 in
    let one : Claim = record { signer = s.0; statement = st; signature = s.1 } in
    subst AreIn (ok_is (one ∷ others.0) cs others.2)
    (in-both (one ∷ []) others.0 (λ c m. elim m [ inl same ↦ subst (λ (d : Claim). InRange d.statement) same is | inr no' ↦ absurd no' ])
    (on-in st more others.0 is others.1))

module _ (carries : ℕ → Bool) where
  group-in : (g : Group) (cs : List Claim) → claims_of_group carries g ≡ Ok cs → AreIn cs
  unfolding claims_of_group
  group-in g cs e =
      let st = bind_ok (statement_in carries g.statement) _ cs e in
      on-in st.0 g.signatures cs (statement-in st.0 (statement_takes carries g.statement st.0 st.1).0) st.2

  groups-in : (gs : List Group) (cs : List Claim) → claims_of_groups carries gs ≡ Ok cs → AreIn cs
  unfolding claims_of_groups
  groups-in [] cs e = subst AreIn (ok_is [] cs e) none-in
  groups-in (g ∷ gs) cs e =
      let first = bind_ok (claims_of_group carries g) _ cs e in
      let others = bind_ok (claims_of_groups carries gs) _ cs first.2 in
      subst AreIn (ok_is (first.0 ++ others.0) cs others.2)
      (in-both first.0 others.0 (group-in g first.0 first.1) (groups-in gs others.0 others.1))

-- ---- what is handed over

said-in : (f : FrameView) (r : Result (List Claim) FrameFault) (cs : List Claim) → claims_of f ≡ r → said f r ≡ claims.Claims cs → AreIn cs
unfolding claims_of
said-in (Bundle gs) (Ok ds) cs e is = let same : ds ≡ cs = cc in subst AreIn same (groups-in in_bundle gs ds e)
said-in (Proof gs) (Ok ds) cs e is = let same : ds ≡ cs = cc in subst AreIn same (groups-in in_proof gs ds e)
said-in (Want x k) (Ok ds) cs e is = absurd cc
said-in (Bundle gs) (Err fault) cs e is = absurd cc
said-in (Proof gs) (Err fault) cs e is = absurd cc
said-in (Want x k) (Err fault) cs e is = absurd cc

frame-in : (bytes : List ℕ) (cs : List Claim) → frame_said bytes ≡ claims.Claims cs → AreIn cs
unfolding frame_said
frame-in bytes cs is = go (frame_of bytes) is
  where
    go : (r : Result FrameView FrameFault) → said_by r ≡ claims.Claims cs → AreIn cs
    go (Ok f) is = said-in f (claims_of f) cs refl is
    go (Err fault) is = absurd cc

event-in : (e : Event) → AreIn (claims_in (handed e))
event-in (Submit payload) = none-in
event-in (Frame from bytes) = go (frame_said bytes) refl
  where
    go : (s : claims.Frame) → frame_said bytes ≡ s → AreIn (claims_in (Hand from s))
    go (claims.Claims cs) is = frame-in bytes cs is
    go (claims.Wants x k) is = none-in
    go (claims.Faulty fault) is = none-in
event-in (Suspect q) = none-in
event-in (Join q) = none-in
event-in Renew = none-in
event-in Tick = none-in

entries-in : (s : Setting) (p : Process) (es : List Entry) → AreIn (handed_to (turns_from s p es))
unfolding turns_from
entries-in s p [] = none-in
entries-in s p (e ∷ es) = in-both (claims_in (handed e.event)) (handed_to (turns_from s (after s p (kept_turn p e)) es)) (event-in e.event)
    (entries-in s (after s p (kept_turn p e)) es)

-- whatever the entries, what they hand over is in range
pub handed-in : (s : Setting) (p : Process) (es : List Entry) → All (λ c. InRange c.statement) (handed_to (turns_from s p es))
handed-in s p es = mem-All (λ (c : Claim). InRange c.statement) (handed_to (turns_from s p es)) (entries-in s p es)
