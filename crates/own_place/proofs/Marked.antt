-- Whose place it is, the room that it has does not matter.
use Rattle.std.proofs.Common.{◌≡◌, ◌∙◌, sym, ap, subst}
use Rattle.std.specs.List.{list_any}
use Rattle.byte_defs.specs.Members.{has}
use Rattle.message_defs.specs.Statements.{slot_of}
use Rattle.group_defs.specs.Process.{Setting, Pool, Process}
use Rattle.claim_index.specs.Statements.{report}
use Rattle.claim_index.specs.Keys.{slot_key, same_slot_key}
use Rattle.own_place.specs.declared.own.Own.{Own}
use Rattle.own_place.specs.Owns.{HasDelivered, HasSigned, IsOwnOf}
use Rattle.own_place.specs.Marks.{IsSamePlace}

module _ (own own' : Own) (same : IsSamePlace own own') where
  same-delivered : (p : Process) → HasDelivered own p → HasDelivered own' p
  same-delivered p has = record { places = has.places ∙ sym same.places; counts = has.counts ∙ sym same.counts }

  same-signed : (p : Process) → HasSigned own p → HasSigned own' p
  same-signed p has = record {
    slots = λ st here. has.slots st here ∙ ap (list_any (same_slot_key (slot_key (slot_of st)))) (sym same.slots);
    end = has.end ∙ sym same.end;
    greatest = has.greatest ∙ sym same.greatest;
    last_ready = has.last_ready ∙ ap report (sym same.last_ready);
    how_many = has.how_many ∙ sym same.how_many;
    names = has.names ∙ sym same.names;
  }

  pub same_tells : (s : Setting) (p : Process) (h : Pool) → IsOwnOf s p h own → IsOwnOf s p h own'
  same_tells s p h tells = record {
    pool = tells.pool;
    number = tells.number ∙ sym same.number;
    position = tells.position ∙ sym same.position;
    keys = λ q. tells.keys q ∙ ap (λ k. has k q) (sym same.keys);
    signed = same-signed p tells.signed;
    delivered = same-delivered p tells.delivered;
    before = tells.before ∙ sym same.before;
  }
