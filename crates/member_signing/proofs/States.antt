-- The state of a process that has signed one statement more.
use Rattle.std.proofs.Common.{◌≡◌, [], ◌∷◌, ◌++◌, arith, length, drop, Bool, true, Some, None, sym, ◌∙◌, ap, subst}
use Rattle.std.specs.Prelude.{◌==◌, if◌then◌else◌}
use Rattle.std.proofs.lemmas.Bool.{eq-eqb}
use Rattle.std.proofs.lemmas.List.{append_assoc, drop-append-le, length-append}
use Rattle.std.proofs.lemmas.List.Elements.{filter-append}
use Rattle.message_defs.specs.Statements.{Statement, Claim, view_of, slot_of}
use Rattle.message_defs.specs.Spelling.{IsClaim}
use Rattle.group_defs.specs.Process.{Setting, Pool, Process}
use Rattle.group_defs.specs.Due.{may_sign}
use Rattle.group_defs.specs.Signing.{Signer, own_claim, signs}
use Rattle.rule_laws.proofs.Signable.{may-parts}
use Rattle.own_place.specs.declared.own.Own.{Own}
use Rattle.own_place.specs.Owns.{IsOwnOf}
use Rattle.own_place.specs.Signed.{Signed}
use Rattle.claim_index.specs.Keys.{slot_key, same_slot_key}
use Rattle.std.specs.List.{list_any}
use Rattle.claim_lists.specs.Pairs.{Pairing}
use Rattle.member_state.specs.Below.{IsIn}
use Rattle.member_state.specs.Parts.{Keeps, has_update}
use Rattle.accounts.specs.Views.{account}
use Rattle.member_state.proofs.Below.{signing_is_lawful}
use Rattle.member_state.specs.States.{IsStateOf, IsSigned, claims_of, signed_here}
use Rattle.member_state.specs.declared.state.ProcessState.{ProcessState}

-- the claim stands behind those that were signed in the view
said-more : (s : Setting) (signer : Signer) (p : Process) (st : Statement) → may_sign s p st ≡ true
    → signed_here (signs s signer p st) ≡ signed_here p ++ own_claim s signer p st ∷ []
said-more s signer p st may =
    filter-append (λ (c : Claim). view_of c.statement == p.pool.view.number) p.signed (own_claim s signer p st ∷ [])
    ∙ ap (λ (b : Bool). signed_here p ++ (if b then own_claim s signer p st ∷ [] else []))
    (eq-eqb (view_of st) p.pool.view.number (may-parts s p st may).current)

-- what signing one statement makes of the parts of a state
pub record Puts (p : Process) (c : Claim) (old new : ProcessState) : Type 0 where
  pub limit : new.batch_limit ≡ old.batch_limit
  pub perceived : new.perceived ≡ old.perceived
  pub said : new.said.claims ≡ old.said.claims ++ c ∷ []
  pub said_from : new.said_from ≡ old.said_from
  pub said_before : new.said_before ≡ old.said_before
  pub conflicts : new.conflicts ≡ old.conflicts
  pub archive : new.archive ≡ old.archive
  pub account : new.account ≡ old.account

-- the claim stands behind all that were signed
signed-more : (p : Process) (c : Claim) (old new : ProcessState)
    → IsSigned p.signed old.said_before.items old.said_from old.said.claims → Puts p c old new
    → IsSigned (p.signed ++ c ∷ []) new.said_before.items new.said_from new.said.claims
signed-more p c old new is puts = record {
  few =
      (let from = puts.said_from in
      let long = ap length puts.said ∙ length-append old.said.claims (c ∷ []) in
      let few = is.few in
      omega (arith, from, long, few));
  whole =
      ap (λ cs. cs ++ c ∷ []) is.whole
      ∙ append_assoc (claims_of old.said_before.items) (drop old.said_from old.said.claims) (c ∷ [])
      ∙ ap (λ cs. claims_of old.said_before.items ++ cs) (sym (drop-append-le old.said_from old.said.claims (c ∷ []) is.few))
      ∙ (λ i. claims_of (sym puts.said_before i).items ++ drop (sym puts.said_from i) (sym puts.said i));
}

-- so the state is that of the process which has signed it
pub signed-state : (s : Setting) (signer : Signer) (p : Process) (st : Statement) (old new : ProcessState) → IsStateOf s p old
    → may_sign s p st ≡ true → p.decision ≡ None → IsClaim (own_claim s signer p st)
    → Puts p (own_claim s signer p st) old new → IsOwnOf s (signs s signer p st) new.pool.pool new.own → IsIn new.phase (signs s signer p st)
    → IsStateOf s (signs s signer p st) new
signed-state s signer p st old new is may undecided range puts tells phase = record {
  lawful = signing_is_lawful s signer p st may range is.lawful;
  bounded = record { now = is.bounded.now; before = is.bounded.before; backlog = is.bounded.backlog };
  number = is.number;
  some = is.some;
  decided = λ d e. absurd (let no-such : None ≡ Some d = sym undecided ∙ e in cc);
  each = is.each;
  asked_for = is.asked_for;
  halted_member = is.halted_member;
  halted_beyond = is.halted_beyond;
  ranged = is.ranged;
  limit = is.limit ∙ sym puts.limit;
  place = tells;
  phase = phase;
  asked = λ u. is.asked u ∙ ap (λ set. has_update set u) (sym puts.perceived);
  said = said-more s signer p st may ∙ ap (λ cs. cs ++ own_claim s signer p st ∷ []) is.said ∙ sym puts.said;
  signed = signed-more p (own_claim s signer p st) old new is.signed puts;
  pairs = is.pairs ∙ ap (λ (cs : Pairing). cs.pairs) (sym puts.conflicts);
  kept = subst (λ a. Keeps a (signs s signer p st)) (sym puts.archive)
      (record { numbers = is.kept.numbers; previous = is.kept.previous; commits = is.kept.commits });
  account = is.account ∙ ap account (sym puts.account);
}

-- ---- the own place with more room

-- whose place it is does not depend on the room that is left
pub tells-roomier : (s : Setting) (p : Process) (h : Pool) (own : Own) (signed : Signed) → signed.slots ≡ own.signed.slots → IsOwnOf s p h own
    → IsOwnOf s p h (record own { signed = signed })
tells-roomier s p h own signed same tells = record {
  pool = tells.pool;
  number = tells.number;
  position = tells.position;
  keys = tells.keys;
  signed = record {
    slots = λ st here. tells.signed.slots st here ∙ ap (list_any (same_slot_key (slot_key (slot_of st)))) (sym same);
    end = tells.signed.end;
    greatest = tells.signed.greatest;
    last_ready = tells.signed.last_ready;
    how_many = tells.signed.how_many;
    names = tells.signed.names;
  };
  delivered = record { places = tells.delivered.places; counts = tells.delivered.counts };
  before = tells.before;
}
