-- Each change keeps a process lawful.
use Rattle.std.proofs.Common.{◌≡◌, ◌⊎◌, inl, inr, ℕ, ◌+◌, ◌≤◌, List, [], ◌∷◌, ◌++◌, Bool, true, false, refl, sym, subst, arith}
use Rattle.std.specs.Prelude.{if◌then◌else◌, length, is_some, All, IsTrue}
use Rattle.message_defs.specs.Limits.{most_payload_bytes}
use Rattle.message_defs.specs.Statements.{Statement, Claim, view_of, slot_of}
use Rattle.message_defs.specs.Spelling.{IsClaim, IsStatement, IsUpdate}
use Rattle.message_defs.specs.Updates.{Update}
use Rattle.group_defs.specs.Views.{IsView}
use Rattle.group_defs.specs.Process.{Setting, Process}
use Rattle.group_defs.specs.Certified.{heard_on}
use Rattle.group_defs.specs.Hearing.{Verdict, Old, Early, Stranger, OutOfWindow, Known, Unsigned, Conflict, Heard, verdict, with_verdict}
use Rattle.group_defs.specs.Signing.{Signer, own_claim, signs}
use Rattle.group_defs.specs.Laws.{IsOfView}
use Rattle.rule_laws.specs.Heard.{IsPool}
use Rattle.pool_laws.proofs.Members.{All-mem, Mem, each-snoc, mem-All}
use Rattle.safety_laws.proofs.MaySign.{signing-member, signing-view}
use Rattle.safety_laws.proofs.OfTheView.{verdict-of-view, members-all, named}
use Rattle.member_laws.specs.Lawful.{IsLawful, StartIsLawful, HearingIsLawful, SigningIsLawful, AcceptingIsLawful, InstallingIsLawful}

-- one more at the end
all-snoc : {A : Type 0} (P : A → Type 0) (xs : List A) (x : A) → All P xs → P x → All P (xs ++ x ∷ [])
all-snoc P xs x all one = mem-All P (xs ++ x ∷ []) (each-snoc P xs x (λ y m. All-mem P xs y all m) one)

-- what holds of all follows from what holds of all
all-map : {A : Type 0} (P Q : A → Type 0) (xs : List A) → ((x : A) → P x → Q x) → All P xs → All Q xs
all-map P Q xs f all = mem-All Q xs (λ y m. f y (All-mem P xs y all m))

none : {A : Type 0} (P : A → Type 0) → All P []
none P = mem-All P [] (λ x m. absurd m)

pub start_is_lawful : StartIsLawful
start_is_lawful s me limit few number view = record {
  number = number;
  pool = record { view = view; of_view = none (IsOfView s.genesis); in_range = none IsClaim };
  own = none (λ (c : Claim). c.signer ≡ me);
  past = none (λ (c : Claim). view_of c.statement ≤ s.genesis.number);
  said = none IsClaim;
  short = none (λ (b : List ℕ). length b ≤ most_payload_bytes);
  batches = few;
  asked = none (λ (e : ℕ × Update). IsUpdate e.1);
}

pub hearing_is_lawful : HearingIsLawful
hearing_is_lawful s p c range ok = go (verdict s p c) refl
  where
    go : (v : Verdict) → verdict s p c ≡ v → IsLawful (with_verdict v p c)
    go Heard e = record {
      number = ok.number;
      pool = record {
        view = ok.pool.view;
        of_view = all-snoc (IsOfView p.pool.view) p.pool.heard c ok.pool.of_view (verdict-of-view s p c e);
        in_range = all-snoc IsClaim p.pool.heard c ok.pool.in_range range;
      };
      own = ok.own;
      past = ok.past;
      said = ok.said;
      short = ok.short;
      batches = ok.batches;
      asked = ok.asked;
    }
    go Conflict e = record {
      number = ok.number;
      pool = ok.pool;
      own = ok.own;
      past = ok.past;
      said = ok.said;
      short = ok.short;
      batches = ok.batches;
      asked = ok.asked;
    }
    go Old e = ok
    go Early e = ok
    go Stranger e = ok
    go OutOfWindow e = ok
    go Known e = ok
    go Unsigned e = ok

pub signing_is_lawful : SigningIsLawful
signing_is_lawful s signer p st may range ok = record {
  number = ok.number;
  pool = record { view = ok.pool.view; of_view = of_view here; in_range = in_range here };
  own = all-snoc (λ (c : Claim). c.signer ≡ p.me) p.signed own ok.own refl;
  past = all-snoc (λ (c : Claim). view_of c.statement ≤ p.pool.view.number) p.signed own ok.past
      (let e = signing-view s p st may in omega (arith, e));
  said = all-snoc IsClaim p.signed own ok.said range;
  short = ok.short;
  batches = ok.batches;
  asked = ok.asked;
}
  where
    own : Claim
    own = own_claim s signer p st

    here : Bool
    here = is_some (heard_on p.pool p.me (slot_of st))

    of-view : IsOfView p.pool.view own
    of-view = record {
      number = signing-view s p st may;
      signer = signing-member s p st may;
      senders = members-all p.pool.view _ (named s p (λ c m. All-mem (IsOfView p.pool.view) p.pool.heard c ok.pool.of_view m) st may);
    }

    of_view : (b : Bool) → All (IsOfView p.pool.view) (if b then p.pool.heard else p.pool.heard ++ own ∷ [])
    of_view true = ok.pool.of_view
    of_view false = all-snoc (IsOfView p.pool.view) p.pool.heard own ok.pool.of_view of-view

    in_range : (b : Bool) → All IsClaim (if b then p.pool.heard else p.pool.heard ++ own ∷ [])
    in_range true = ok.pool.in_range
    in_range false = all-snoc IsClaim p.pool.heard own ok.pool.in_range range

pub accepting_is_lawful : AcceptingIsLawful
accepting_is_lawful p payload short ok = record {
  number = ok.number;
  pool = ok.pool;
  own = ok.own;
  past = ok.past;
  said = ok.said;
  batches = ok.batches;
  asked = ok.asked;
  short = all-snoc (λ (b : List ℕ). length b ≤ most_payload_bytes) p.accepted payload ok.short short;
}

pub installing_is_lawful : InstallingIsLawful
installing_is_lawful p d number view ok = record {
  number = number;
  pool = record { view = view; of_view = none (IsOfView _); in_range = none IsClaim };
  own = ok.own;
  past = all-map (λ (c : Claim). view_of c.statement ≤ p.pool.view.number)
      (λ (c : Claim). view_of c.statement ≤ p.pool.view.number + 1) p.signed (λ c le. omega (arith, le)) ok.past;
  said = ok.said;
  short = ok.short;
  batches = ok.batches;
  asked = ok.asked;
}
