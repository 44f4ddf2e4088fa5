-- The steps of a process in a run are a run of it that serves, and so the laws of the store hold of what its service answered.
use Rattle.std.proofs.Common.{◌≡◌, ℕ, List, [], ◌∷◌, ◌++◌, refl, sym, ap, ◌∙◌, subst, Option, Some, None}
use Rattle.std.specs.Prelude.{All, Contains}
use Rattle.std.proofs.lemmas.List.{append_assoc}
use Rattle.kit_defs.specs.Kits.{Host}
use Rattle.group_defs.specs.Process.{Process, Setting, start}
use Rattle.group_defs.specs.Accounts.{IsPrefixOf, group_of}
use Rattle.group_defs.specs.Events.{Turn, run}
use Rattle.group_defs.specs.Family.{Correct, accounts, end_of, ends}
use Rattle.pool_laws.proofs.Members.{All-mem, Contains-mem, Mem, mem-All}
use Rattle.journal_defs.specs.Entries.{Entry}
use Rattle.safety_laws.proofs.CertifiedIsBacked.{one-of-number}
use Rattle.safety_laws.proofs.Quorums.{in-ends}
use Rattle.node_defs.specs.Casts.{entries_of, from_start, setting_of, taken_up, turns_from}
use Rattle.node_laws.proofs.Entries.{entries-append}
use Rattle.store_defs.specs.Laws.{IsAnswerOf, IsOwnReply, MadeReply, MadeState, ServicePremises, Services}
use Rattle.store_defs.specs.Records.{Reply, StateRecord, reply_body, state_body}
use Rattle.store_defs.specs.Services.{place_of}
use Rattle.store_defs.specs.Stores.{Store, store_after}
use Rattle.store_defs.specs.Holding.{payloads_of, store_below}
use Rattle.store_defs.specs.Votes.{content_of}
use Rattle.store_defs.specs.Words.{State}
use Rattle.store_laws.proofs.Leaves.{one_reply_per_leaf, one_state_per_leaf}
use Rattle.store_laws.proofs.Answers.{accepted_is_answer, reply_is_answer}
use Rattle.following_laws.specs.Runs as runs
use Rattle.following_laws.specs.Runs.{Moment, TakesWord, ServedRun, Step, WritesReply, WritesState, begin, reached, turns_in}
use Rattle.following_laws.proofs.Running.{run_gives, run_holds, run_replies, runs_give_once, runs_reply_once}
use Rattle.store_service.specs.Service.{AreServed}
use Rattle.serve_laws.specs.Runs.{NodeRun, at, cast, first, last, opened, process_of, steps, turns_of}
use Rattle.serve_laws.specs.Reported.{Gave, Replied}
use Rattle.serve_laws.specs.Laws.{AcceptedAreAnswers, HistoriesServe, IsOneOf, IsServedRun, IsWritten, RepliesAreAnswers, RepliesAreMade, RepliesOnce, RunsAreServed, StatesAreMade, StatesOnce, StoreLaws, StoresHold, WroteIt}
use Rattle.serve_laws.proofs.Along.{turns-join}
use Rattle.serve_laws.proofs.Opened.{opened-sound}
use Rattle.serve_laws.proofs.Telling.{run-turns, runs_tell}

-- ---- the run

module _ (sv : Services) (r : NodeRun) (h : Host) (later : List Entry) (one : IsOneOf sv r h later) where
  abbrev s : Setting
  s = setting_of r.kit

  abbrev from : Process
  from = start (setting_of r.kit) h.process (cast r).batch_limit

  abbrev earlier : List Turn
  earlier = turns_of r h (opened r).kept

  abbrev behind : List Turn
  behind = turns_from (setting_of r.kit) (taken_up (setting_of r.kit) (start (setting_of r.kit) h.process (cast r).batch_limit)
      (entries_of h.process (last r).kept)) (entries_of h.process later)

  parts : (process_of r h later).turns ≡ earlier ++ (turns_in (steps r h) ++ behind)
  parts =
      ap (turns_from s from) (entries-append h.process (last r).kept later)
      ∙ turns-join s from (entries_of h.process (last r).kept) (entries_of h.process later)
      ∙ ap (λ (ts : List Turn). ts ++ behind) (run-turns r h one.kit one.host one.served)
      ∙ append_assoc earlier (turns_in (steps r h)) behind

  begun-so : run s from earlier ≡ (opened r).now h.process
  begun-so = sym ((opened-sound (cast r) (from_start (cast r)) r.lines r.found).processes h.process)

  -- what is so of the kit's setting and of the process as the node has opened is so of the family's and of the process as its turns tell
  of-family : (P : Setting → Moment → Type 0) → P (setting_of r.kit) (first r h)
      → P sv.family.setting (begin (run sv.family.setting (start sv.family.setting h.process (cast r).batch_limit) earlier))
  of-family P so = subst (λ (t : Setting). P t (begin (run t (start t h.process (cast r).batch_limit) earlier))) (sym one.setting)
      (subst (λ (p : Process). P (setting_of r.kit) (begin p)) (sym begun-so) so)

  pub served : ServedRun sv (process_of r h later) (place_of r.kit h) (steps r h)
  served = record {
    me = refl;
    group = ap (λ (t : Setting). t.group) (sym one.setting);
    earlier = earlier;
    later = behind;
    turns = parts;
    joinings = of-family (λ t m0. (front : List Step) (bytes : List ℕ) → IsPrefixOf (front ++ TakesWord (State bytes) ∷ []) (steps r h)
        → let m = reached t (place_of r.kit h) m0 (front ++ TakesWord (State bytes) ∷ []) in
        Contains (sv.joinings h.process) (record { view = m.process.pool.view; offered = m.offered })) one.joinings;
  }

  begins-so : runs.first served ≡ first r h
  unfolding served
  begins-so = ap begin (subst (λ (t : Setting). run t (start t h.process (cast r).batch_limit) earlier ≡ (opened r).now h.process)
      (sym one.setting) begun-so)

  zeroth : sv.family.setting.genesis.number ≡ 0
  zeroth = ap (λ (t : Setting). t.genesis.number) one.setting

  -- a reply of the run, as one of the family's setting
  pub family-reply : (leaf : ℕ) (reply : Reply) → Replied r h leaf reply
      → WritesReply sv.family.setting (place_of r.kit h) (runs.first served) (steps r h) leaf reply
  unfolding served
  family-reply leaf reply w = of-family (λ t m0. WritesReply t (place_of r.kit h) m0 (steps r h) leaf reply) w.writes

  pub family-state : (given : StateRecord) → Gave r h given
      → WritesState sv.family.setting (place_of r.kit h) (runs.first served) (steps r h) given
  unfolding served
  family-state given w = of-family (λ t m0. WritesState t (place_of r.kit h) m0 (steps r h) given) w.writes

  pub served-run : IsServedRun sv r h later
  served-run = record { run = served; begins = begins-so }

  pub made-reply : (leaf : ℕ) (reply : Reply) → Replied r h leaf reply
      → MadeReply sv (end_of sv.family.setting (process_of r h later)) leaf reply
  made-reply leaf reply w =
      run_replies sv (process_of r h later) (place_of r.kit h) (steps r h) served leaf reply zeroth (family-reply leaf reply w)

  pub made-state : (given : StateRecord) → Gave r h given → MadeState sv (end_of sv.family.setting (process_of r h later)) given
  made-state given w =
      run_gives sv (process_of r h later) (place_of r.kit h) (steps r h) served given zeroth (family-state given w)

  pub answered : (leaf : ℕ) (reply : Reply) → ServicePremises sv → Replied r h leaf reply
      → IsAnswerOf (accounts sv.family) reply.view reply.payload (content_of reply)
  answered leaf reply premises w =
      All-mem (λ p. (leaf : ℕ) (r : Reply) → MadeReply sv p leaf r → IsAnswerOf (accounts sv.family) r.view r.payload (content_of r))
      (ends sv.family) (end_of sv.family.setting (process_of r h later)) (reply_is_answer sv premises)
      (in-ends sv.family (process_of r h later) (Contains-mem sv.family.correct (process_of r h later) one.correct))
      leaf reply (made-reply leaf reply w)

  -- and what is so of the family's setting and of the process as its turns tell is so of those of the run
  of-run : (P : Setting → Moment → Type 0)
      → P sv.family.setting (begin (run sv.family.setting (start sv.family.setting h.process (cast r).batch_limit) earlier))
      → P (setting_of r.kit) (first r h)
  of-run P so = subst (λ (p : Process). P (setting_of r.kit) (begin p)) begun-so
      (subst (λ (t : Setting). P t (begin (run t (start t h.process (cast r).batch_limit) earlier))) one.setting so)

  pub store-held : ServicePremises sv → (front rest : List Step) (store : Store) → steps r h ≡ front ++ rest
      → (at r h front).server.store ≡ Some store
      → store ≡ store_after (store_below (group_of (accounts sv.family)) (at r h front).process.pool.view.number)
      (payloads_of (at r h front).process.delivered)
  unfolding reached served
  store-held premises = of-run (λ t m0. (front rest : List Step) (store : Store) → steps r h ≡ front ++ rest
      → (reached t (place_of r.kit h) m0 front).server.store ≡ Some store
      → store ≡ store_after (store_below (group_of (accounts sv.family)) (reached t (place_of r.kit h) m0 front).process.pool.view.number)
      (payloads_of (reached t (place_of r.kit h) m0 front).process.delivered))
      (λ front rest store split has.
      run_holds sv (process_of r h later) (place_of r.kit h) (steps r h) front rest served store premises one.correct split has)

-- ---- by name

pub runs_are_served : RunsAreServed
runs_are_served sv r h later one = served-run sv r h later one

pub replies_are_made : RepliesAreMade
replies_are_made sv r h later leaf reply one w = made-reply sv r h later one leaf reply w

pub states_are_made : StatesAreMade
states_are_made sv r h later given one w = made-state sv r h later one given w

pub replies_are_answers : RepliesAreAnswers
replies_are_answers sv r h later leaf reply premises one w = answered sv r h later one leaf reply premises w

pub stores_hold : StoresHold
stores_hold sv r h later front rest store premises one split has = store-held sv r h later one premises front rest store split has

-- the two runs are of one process of the family
same-process : (sv : Services) (r r' : NodeRun) (h h' : Host) (later later' : List Entry) → ServicePremises sv → IsOneOf sv r h later
    → IsOneOf sv r' h' later' → h.process ≡ h'.process → process_of r h later ≡ process_of r' h' later'
same-process sv r r' h h' later later' premises one two same =
    one-of-number sv.family premises.family.rising (process_of r h later) (process_of r' h' later')
    (Contains-mem sv.family.correct (process_of r h later) one.correct)
    (Contains-mem sv.family.correct (process_of r' h' later') two.correct) same

pub replies_once : RepliesOnce
replies_once sv r r' h h' later later' group leaf reply reply' premises one two same w w' =
    let c : Correct = process_of r' h' later' in
    All-mem
    (λ p. (leaf : ℕ) (r s : Reply) → MadeReply sv p leaf r → MadeReply sv p leaf s → reply_body group r ≡ reply_body group s)
    (ends sv.family) (end_of sv.family.setting c) (one_reply_per_leaf sv group premises)
    (in-ends sv.family c (Contains-mem sv.family.correct c two.correct)) leaf reply reply'
    (subst (λ (d : Correct). MadeReply sv (end_of sv.family.setting d) leaf reply)
    (same-process sv r r' h h' later later' premises one two same) (made-reply sv r h later one leaf reply w))
    (made-reply sv r' h' later' two leaf reply' w')

pub states_once : StatesOnce
states_once sv r r' h h' later later' group given given' premises one two same w w' view =
    let c : Correct = process_of r' h' later' in
    All-mem
    (λ p. (r s : StateRecord) → MadeState sv p r → MadeState sv p s → r.view ≡ s.view → state_body group r ≡ state_body group s)
    (ends sv.family) (end_of sv.family.setting c) (one_state_per_leaf sv group premises)
    (in-ends sv.family c (Contains-mem sv.family.correct c two.correct)) given given'
    (subst (λ (d : Correct). MadeState sv (end_of sv.family.setting d) given)
    (same-process sv r r' h h' later later' premises one two same) (made-state sv r h later one given w))
    (made-state sv r' h' later' two given' w') view

pub accepted_are_answers : AcceptedAreAnswers
accepted_are_answers sv keys v payload replies c premises installed written e =
    accepted_is_answer sv keys v payload replies c premises installed (mem-All (IsOwnReply sv keys) replies own) e
  where
    own : (reply : Reply) → Mem reply replies → IsOwnReply sv keys reply
    own reply m signed = mem-All (λ p. p.me ≡ reply.signer → (leaf : ℕ) × MadeReply sv p leaf reply) (ends sv.family) (λ p there me.
        let w : WroteIt sv p reply = All-mem (λ (p : Process). p.me ≡ reply.signer → WroteIt sv p reply) (ends sv.family) p
        (All-mem (IsWritten sv keys) replies reply written m signed) there me in (
          w.leaf,
          subst (λ (q : Process). MadeReply sv q w.leaf reply) (sym w.process) (made-reply sv w.run w.host w.later w.one w.leaf reply w.replied),
        ))

-- ---- of a history

pub store_laws : (sv : Services) (r : NodeRun) (h : Host) (later : List Entry) → ServicePremises sv → IsOneOf sv r h later
    → StoreLaws sv r h later
store_laws sv r h later premises one = record {
  served_run = served-run sv r h later one;
  reply_is_answer = λ leaf reply w. answered sv r h later one leaf reply premises w;
  one_reply_per_leaf = λ r' h' later' group leaf reply reply' two same w w'.
      replies_once sv r r' h h' later later' group leaf reply reply' premises one two same w w';
  one_state_per_leaf = λ r' h' later' group given given' two same w w' view.
      states_once sv r r' h h' later later' group given given' premises one two same w w' view;
  joiners_hold_the_store = λ front rest store split has. store-held sv r h later one premises front rest store split has;
}

pub histories_serve : HistoriesServe
histories_serve asked served = record {
  served = served;
  tells = λ r h same kit host. runs_tell r h kit host (subst (AreServed None) (sym same) served);
  laws = λ sv r h later same premises one. store_laws sv r h later premises one;
}
