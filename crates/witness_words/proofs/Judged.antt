-- From the kit to the last line of evidence.
use Rattle.std.proofs.Common.{◌≡◌, inl, inr, ℕ, ◌+◌, List, [], ◌∷◌, ◌++◌, Option, Result, Ok, Err, refl, sym, ap, subst, ◌∙◌, append_assoc}
use Rattle.std.specs.Prelude.{IfSome}
use Rattle.byte_defs.specs.Fields.{◌>>=◌}
use Rattle.signature_defs.specs.Schemes as schemes
use Rattle.kit_defs.specs.Kits.{Kit}
use Rattle.kit_defs.specs.KitReading as kits
use Rattle.input_defs.specs.Fronts.{Front, front_of}
use Rattle.front_laws.proofs.Fronts.{fronts_go_on}
use Rattle.message_defs.specs.declared.FrameFault.{FrameFault}
use Rattle.message_defs.specs.Statements.{Claim}
use Rattle.stmt_codec.specs.Cursor.{given}
use Rattle.claim_pool.specs.Settings.{as_setting}
use Rattle.conviction_defs.specs.Convictions.{is_convicted}
use Rattle.line_input.specs.Places.{Ends, Leads, Settles}
use Rattle.line_input.proofs.Places.{ends_more, leads_more, settles_more}
use Rattle.kit_reading.specs.declared.faults.KitFault.{KitFault}
use Rattle.kit_reading.specs.declared.faults.KitFault.TheVariants as kit_faults
use Rattle.kit_reading.specs.declared.fronts.FrontFault.{FrontFault}
use Rattle.kit_reading.specs.declared.fronts.FrontFault.TheVariants as fronts
use Rattle.kit_reading.specs.Faults.{fault_of}
use Rattle.kit_reading.specs.Fronts.{Begins, HasFault, front_fault}
use Rattle.audit_defs.specs.Players.{setting_of}
use Rattle.witness_defs.specs.Lines.{Evidence}
use Rattle.witness_defs.specs.Judging.{Judged, NoInput, Refusal, if_read, judged, judged_behind}
use Rattle.audit_input.specs.declared.stops.Fault.{Fault}
use Rattle.audit_input.specs.declared.stops.Stop.TheVariants.{Input}
use Rattle.witness_words.specs.Places.{Place, Refuses, ReportsAs, Verdict, and_then, behind, judged_from, place}
use Rattle.witness_words.specs.Running.{Takes}
use Rattle.audit_input.specs.Stops.{fault_line, fault_status, of_front, of_kit}

-- ---- whom a frame convicts

-- conviction asks nothing else of a setting
same_conviction : (kit : Kit) (claims : List Claim) (q : ℕ)
    → is_convicted (as_setting (schemes.is_valid kit.scheme) kit.group kit.keys) claims q ≡ is_convicted (setting_of kit) claims q
same_conviction kit claims q = refl

by_kit : (kit : Kit) (scheme : schemes.Scheme) (group : List ℕ) (roster : List (ℕ × List ℕ)) (claims : List Claim) (q : ℕ)
    → scheme ≡ kit.scheme → group ≡ kit.group → roster ≡ kit.keys
    → is_convicted (as_setting (schemes.is_valid scheme) group roster) claims q
    ≡ is_convicted (as_setting (schemes.is_valid kit.scheme) kit.group kit.keys) claims q
by_kit kit scheme group roster claims q s g k = λ i. is_convicted (as_setting (schemes.is_valid (s i)) (g i) (k i)) claims q

given-is : (r : Result (List Claim) FrameFault) → given r ≡ if_read r
given-is (Ok cs) = refl
given-is (Err fault) = refl

-- ---- behind the kit

-- this evidence was taken, and what else is taken
abbrev pub with_taken : Kit → List Evidence → Verdict → Result Judged Refusal
with_taken kit es v = and_then es v >>= λ all. Ok (record { kit = kit; evidence = all })

-- a kit was read and some lines, whose evidence was taken, and judging goes on at this place
abbrev pub Reaches : Option (List ℕ) → Option (List ℕ) → List Evidence → Place → Type 0
Reaches before now es p = Leads judged before now (λ rest. with_taken p.kit es (judged_from p rest))

abbrev opened : Result Front kits.KitFault → Result Judged Refusal
opened (Err fault) = Err (NoInput fault)
opened (Ok f) = judged_behind f

judged-opened : (bytes : List ℕ) → judged bytes ≡ opened (front_of bytes)
unfolding judged
judged-opened bytes = of (front_of bytes)
  where
    of : (r : Result Front kits.KitFault)
        → (let x : Result Judged Refusal = elim r [ Err fault ↦ Err (NoInput fault) | Ok f ↦ judged_behind f ] in x) ≡ opened r
    of (Err fault) = refl
    of (Ok f) = refl

none-taken : (kit : Kit) (v : Verdict) → (v >>= λ es. Ok (record { kit = kit; evidence = es })) ≡ with_taken kit [] v
none-taken kit (Ok es) = refl
none-taken kit (Err why) = refl

begun : (before now : Option (List ℕ)) (kit : Kit) (go : ℕ) (left : List ℕ) → Begins before now [] kit go left
    → Reaches before now [] (place kit (go + 1) left)
begun before now kit go left b = record {
  read = b.read.0;
  taken = b.read.1;
  is = λ rest.
      let more = fronts_go_on b.bytes rest (record { kit = kit; line = go + 1; rest = left }) b.is in
      ap (λ (t : List ℕ). judged (t ++ rest)) (sym b.read.2) ∙ judged-opened (b.bytes ++ rest) ∙ ap opened more
      ∙ none-taken kit (judged_from (place kit (go + 1) left) rest);
}

pub first_stands : (before now : Option (List ℕ)) (kit : Kit) (go n : ℕ) (ahead left : List ℕ) → ahead ≡ [] → Begins before now ahead kit go left
    → n ≡ go + 1 → Reaches before now [] (place kit n left)
first_stands before now kit go n ahead left none begins next =
    subst (λ (m : ℕ). Reaches before now [] (place kit m left)) (sym next)
    (begun before now kit go left (subst (λ (t : List ℕ). Begins before now t kit go left) none begins))

-- ---- no kit

module _ (before now : Option (List ℕ)) where
  no_kit : (fault : kits.KitFault) → HasFault before now [] fault → Settles judged before now (Err (NoInput fault))
  no_kit fault h = record {
    read = h.read.0;
    taken = h.read.1;
    is = elim h.is [
      | inl each ↦ inl (λ rest. ap (λ (t : List ℕ). judged (t ++ rest)) (sym h.read.2) ∙ refused (h.bytes ++ rest) (each rest))
      | inr over ↦ inr (over.0, ap judged (sym h.read.2) ∙ refused h.bytes over.1)
    ];
  }
    where
      refused : (bytes : List ℕ) → front_of bytes ≡ Err fault → judged bytes ≡ Err (NoInput fault)
      refused bytes e = judged-opened bytes ∙ ap opened e

  is : (a b : Fault) → Input a ≡ Input b → a ≡ b
  is a b e = cc

  tells : (why : kits.KitFault) (reported fault : Fault) → HasFault before now [] why → ReportsAs reported (NoInput why) → reported ≡ fault
      → Refuses judged before now fault
  tells why reported fault h says same = record {
    why = NoInput why;
    is = no_kit why h;
    reported = (says.0 ∙ ap fault_line same, sym (ap fault_status same) ∙ says.1);
  }

  kit_reported : (k : KitFault) (fault : Fault) → of_kit k ≡ Input fault → IfSome (fault_of k) (HasFault before now []) → Refuses judged before now fault
  kit_reported (kit_faults.Line n) fault e h = tells (kits.Line n) _ fault h (refl, refl) (is _ fault e)
  kit_reported (kit_faults.Repeated n) fault e h = tells (kits.Repeated n) _ fault h (refl, refl) (is _ fault e)
  kit_reported (kit_faults.Missing n) fault e h = tells (kits.Missing n) _ fault h (refl, refl) (is _ fault e)
  kit_reported (kit_faults.KeyMismatch n made listed) fault e h = tells (kits.KeyMismatch n _ _) _ fault h (refl, refl) (is _ fault e)
  kit_reported kit_faults.NoMemory fault e h = absurd cc

  pub no_front : (ahead : List ℕ) (f : FrontFault) (fault : Fault) → ahead ≡ [] → of_front f ≡ Input fault
      → IfSome (front_fault f) (HasFault before now ahead) → Refuses judged before now fault
  no_front ahead fronts.Read fault none e h = absurd cc
  no_front ahead (fronts.Kit k) fault none e h =
      kit_reported k fault e (subst (λ (t : List ℕ). IfSome (fault_of k) (HasFault before now t)) none h)

-- ---- one line more

both : (kit : Kit) (e : Evidence) (es : List Evidence) (v : Verdict) → with_taken kit es (and_then (e ∷ []) v) ≡ with_taken kit (es ++ e ∷ []) v
both kit e es (Err why) = refl
both kit e es (Ok more) = ap (λ (all : List Evidence). let r : Result Judged Refusal = Ok (record { kit = kit; evidence = all }) in r)
    (sym (append_assoc es (e ∷ []) more))

module _ (before mid now : Option (List ℕ)) (kit : Kit) (n : ℕ) (ahead : List ℕ)
    (stands : (es : List Evidence) × Reaches before mid es (place kit n ahead)) where
  pub stands_more : (m : ℕ) (left : List ℕ)
      → (e : Evidence) × Leads (judged_from (place kit n ahead)) mid now (behind e (place kit m left))
      → (es : List Evidence) × Reaches before now es (place kit m left)
  stands_more m left next =
      let all = leads_more judged (judged_from (place kit n ahead)) (with_taken kit stands.0) before mid now stands.1
      (behind next.0 (place kit m left)) next.1 in (
        stands.0 ++ next.0 ∷ [],
        record {
          read = all.read;
          taken = all.taken;
          is = λ rest. all.is rest ∙ both kit next.0 stands.0 (judged_from (place kit m left) rest);
        },
      )

  pub all_taken : Ends (judged_from (place kit n ahead)) mid now (Ok []) → Takes before now
  all_taken ends = record {
    judged = record { kit = kit; evidence = stands.0 ++ [] };
    all = ends_more judged (judged_from (place kit n ahead)) (with_taken kit stands.0) before mid now stands.1 (Ok []) ends;
  }

  pub one_refused : (fault : Fault) → Refuses (judged_from (place kit n ahead)) mid now fault → Refuses judged before now fault
  one_refused fault r = record {
    why = r.why;
    is = settles_more judged (judged_from (place kit n ahead)) (with_taken kit stands.0) before mid now stands.1 (Err r.why) r.is;
    reported = r.reported;
  }
