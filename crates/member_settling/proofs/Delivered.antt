-- The state of a process that has delivered one place more.
use Rattle.std.proofs.Common.{◌≡◌, ℕ, ◌<◌, List, [], ◌∷◌, ◌++◌, map, Option, Some, None, true, refl, sym, ap, ◌∙◌, subst, arith}
use Rattle.std.specs.Option.{option_map_or}
use Rattle.message_defs.specs.Updates.{Value}
use Rattle.message_defs.specs.Statements.{Batch}
use Rattle.group_defs.specs.Process as defs
use Rattle.group_defs.specs.Process.{Setting, Process, Left, places_in}
use Rattle.group_defs.specs.Certified.{fixed_length}
use Rattle.group_defs.specs.Settle.{delivery, limit}
use Rattle.group_defs.specs.Events.{Delivers}
use Rattle.group_defs.specs.Accounts.{Account, account_of}
use Rattle.own_place.specs.declared.own.Own.{Own}
use Rattle.member_state.specs.Below.{Phase, IsIn, IsLawful, OnePlaceMore}
use Rattle.member_state.specs.Phases as phases
use Rattle.accounts.specs.declared.account.Account as code
use Rattle.accounts.specs.Views.{account}
use Rattle.member_state.proofs.Below.{delivering_counts_own}
use Rattle.member_state.specs.declared.state.ProcessState.{ProcessState}
use Rattle.member_events.specs.declared.events.Note as notes
use Rattle.member_state.specs.Events.{note}
use Rattle.member_state.specs.States.{IsStateOf}
use Rattle.member_settling.specs.Reported.{ArePutLast}
use Rattle.member_settling.specs.Steps as steps
use Rattle.member_settling.specs.Steps.{ComesNext}
use Rattle.member_settling.proofs.Bounded.{IsNext, delivering-bounded, is-next}
use Rattle.pool_laws.proofs.Tests.{none-some}
use Rattle.member_settling.proofs.Changed.{halted-decided}
use Rattle.member_settling.proofs.Phases.{halted}

-- who has halted may deliver nothing more
stopped : (p : Process) (d : ℕ × Value) → p.decision ≡ Some d → d.1.cut < places_in p.delivered → places_in p.delivered < limit p → ⊥
stopped p d e beyond below =
    let cut : limit p ≡ d.1.cut = ap (λ o. option_map_or (λ (d : ℕ × Value). d.1.cut) o (fixed_length p.pool)) e in
    omega (arith, cut, beyond, below)

module _ (p : Process) (ds : List defs.Delivered) where
  abbrev pub further : Process
  further = record p { delivered = p.delivered ++ ds }

  lawful-so : IsLawful p → IsLawful further
  lawful-so ok = record {
    number = ok.number;
    pool = ok.pool;
    own = ok.own;
    past = ok.past;
    said = ok.said;
    short = ok.short;
    batches = ok.batches;
    asked = ok.asked;
  }

  phase-so : (phase : Phase) → (p.halted ≡ true → ⊥) → IsIn phase p → IsIn phase further
  phase-so (phases.Observing o) on is = is
  phase-so (phases.OpenView o) on is = is
  phase-so (phases.ClosingView c) on is = record { phase = is.phase; length = is.length }
  phase-so (phases.DecidedView d) on is = record { phase = is.phase; decision = is.decision }
  phase-so (phases.HaltedView h) on is = absurd (on (halted p is.phase))

  -- what is told of it
  pub account-so : (a b : Account) → account_of p ≡ a → b ≡ record a { delivered = b.delivered }
      → b.delivered ≡ map (λ (v : Left). v.delivered) p.left ++ (p.delivered ++ ds) ∷ [] → account_of further ≡ b
  account-so a b is rest now =
      let same : account_of further ≡ record a { delivered = b.delivered } = λ i. record {
        me = (is i).me;
        views = (is i).views;
        delivered = sym now i;
        accepted = (is i).accepted;
        perceived = (is i).perceived;
      } in
      same ∙ sym rest

  pub delivers-state : (s : Setting) (st : ProcessState) (own : Own) (reported : code.Account) → IsStateOf s p st → (next : IsNext p ds)
      → places_in p.delivered < limit p
      → OnePlaceMore p.pool.view next.batch p.delivered st.own own → account_of further ≡ account reported
      → IsStateOf s further (record st { own = own; account = reported })
  delivers-state s st own reported ok next below more tells = record {
    lawful = lawful-so ok.lawful;
    bounded = delivering-bounded p ds next ok.bounded;
    number = ok.number;
    some = ok.some;
    decided = λ d e. let by = ok.decided d e in record { certified = by.certified; possible = by.possible };
    each = ok.each;
    asked_for = ok.asked_for;
    halted_member = ok.halted_member;
    halted_beyond = λ stops d e. (let lt = ok.halted_beyond stops d e in let places = next.more in omega (arith, lt, places));
    ranged = ok.ranged;
    limit = ok.limit;
    place = delivering_counts_own s p st.pool.pool st.own own next.batch ds next.some next.delivers more ok.place;
    phase = phase-so st.phase on ok.phase;
    asked = ok.asked;
    said = ok.said;
    signed = ok.signed;
    pairs = ok.pairs;
    kept = record { numbers = ok.kept.numbers; previous = ok.kept.previous; commits = ok.kept.commits };
    account = tells;
  }
    where
      on : p.halted ≡ true → ⊥
      on stops = go p.decision refl
        where
          go : (o : Option (ℕ × Value)) → p.decision ≡ o → ⊥
          go (Some d) e = stopped p d e (ok.halted_beyond stops d e) below
          go None e = (let was = halted-decided st.phase p ok.phase stops in none-some e was.1)

-- the next place is put, counted and told
pub place-delivered : (s : Setting) (p : Process) (st : ProcessState) → IsStateOf s p st
    → (ds : List defs.Delivered) (b : Batch) (own : Own) (reported : code.Account) (was now : List notes.Note) → ComesNext p ds b
    → OnePlaceMore st.pool.pool.view b p.delivered st.own own
    → account reported ≡ record (account st.account) { delivered = (account reported).delivered }
    → (delivery st.pool.pool st.own.delivered b ≡ Some ds → (before : List (List defs.Delivered)) (last : List defs.Delivered)
    → (account st.account).delivered ≡ before ++ last ∷ []
    → ArePutLast st.pool.pool.view.number ds before last (account reported).delivered was now)
    → steps.Delivers s p (record p { delivered = p.delivered ++ ds }) (record st { own = own; account = reported }) was now
place-delivered s p st ok ds b own reported was now comes more rest puts =
    let next = is-next p ds ok.lawful.pool comes.delivers in
    let batch : next.batch ≡ b = sym next.names ∙ comes.batch in
    let moved : delivery p.pool (places_in p.delivered) next.batch
    ≡ delivery st.pool.pool st.own.delivered b = λ i. delivery (ok.place.pool i) (ok.place.delivered.places i) (batch i) in
    let put = puts (sym moved ∙ next.delivers)
    (map (λ (v : Left). v.delivered) p.left) p.delivered (sym (ap (λ (a : Account). a.delivered) ok.account)) in
    let counted : OnePlaceMore p.pool.view next.batch p.delivered st.own own = subst
    (λ c. OnePlaceMore p.pool.view c p.delivered st.own own) (sym batch)
    (subst (λ (h : defs.Pool). OnePlaceMore h.view b p.delivered st.own own) (sym ok.place.pool) more) in
    record {
      state = delivers-state p ds s st own reported ok next comes.below counted
          (account-so p ds (account st.account) (account reported) ok.account rest put.delivered);
      reported = record {
        more = ds;
        delivered = refl;
        reported = subst (λ (h : defs.Pool). map note now ≡ map note was ++ map (Delivers h.view.number) ds) (sym ok.place.pool) put.reported;
      };
    }
