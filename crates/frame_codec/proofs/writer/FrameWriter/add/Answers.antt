-- What the code does to the bytes is what the rule of packing does to the groups.
use Rattle.std.proofs.Common.{◌≡◌, ◌+◌, ◌<◌, ◌++◌, List, ℕ, length, vec_len, vec_capacity, sym, ap, ◌∙◌, arith}
use Rattle.std.specs.Prelude.{slice_index, slice_set}
use Rattle.std.proofs.lemmas.List.{get_or_read}
use Rattle.message_defs.specs.Frames.{Group, signature_bytes, group_bytes}
use Rattle.message_defs.specs.Packing.{Signed, signed, group_of}
use Rattle.message_defs.specs.Packing as packing
use Rattle.frame_codec.specs.Drafts.{Draft, groups_in}
use Rattle.frame_codec.proofs.Drafting.{JoinsStep, joins_step, BeginsStep, begins_step, fits-false-size, fits-false-count, Taken, taken}
use Rattle.frame_codec.proofs.writer.FrameWriter.add.Goals as goal
use Rattle.frame_codec.proofs.writer.FrameWriter.add.Goals.{then-index-via-then-index, then-index-via-else-index+then-left-statement}

-- ---- into the last group

pub returns-then-left-signature-clause-fits : goal.returns-then-left-signature-clause-fits
returns-then-left-signature-clause-fits c =
    let claim : Signed = signed c.args.statement.now c.args.signer c.args.signature.now in
    let bytes : List ℕ = c.self.inside.bytes.items in
    let step : JoinsStep c.self.inside.kind bytes c.in-Some.last (groups_in bytes) claim = joins_step c.self.inside.kind c.self.inside.room
    (vec_capacity c.self.inside.bytes) bytes c.deref.result.now c.self.inside.last c.in-Some.last
    (groups_in bytes) claim c.self.invariant c.deref.ensures.value (sym c.in-Some.is ∙ c.joined.ensures)
    (omega arith) c.requires.signature in
    let len : length bytes ≡ vec_len c.self.inside.bytes = sym (ap length c.deref.ensures.value) ∙ c.deref.ensures.len in
    rw (← c.self.view_is) (sym (fits-false-size c.self.inside.kind c.self.inside.room _ _ _ step.grows (omega (arith, step.size, len))))

joins : (c : goal.After-self-1)
    → Taken c.self.inside.kind c.self.inside.room (vec_capacity c.join.new.bytes)
    (slice_set c.self.inside.bytes.items c.in-Some.last.count_at (slice_index c.self.inside.bytes.items c.in-Some.last.count_at + 1)
    ++ signature_bytes (c.args.signer, c.args.signature.now))
    (record { statement_at = c.in-Some.last.statement_at; count_at = c.in-Some.last.count_at; signer = c.args.signer })
    (packing.add (groups_in c.self.inside.bytes.items) (signed c.args.statement.now c.args.signer c.args.signature.now))
joins c =
    let claim : Signed = signed c.args.statement.now c.args.signer c.args.signature.now in
    let bytes : List ℕ = c.self.inside.bytes.items in
    let step : JoinsStep c.self.inside.kind bytes c.in-Some.last (groups_in bytes) claim = joins_step c.self.inside.kind c.self.inside.room
    (vec_capacity c.self.inside.bytes) bytes c.deref.result.now c.self.inside.last c.in-Some.last
    (groups_in bytes) claim c.self.invariant c.deref.ensures.value (sym c.in-Some.is ∙ c.joined.ensures)
    (omega arith) c.requires.signature in
    let len : length bytes ≡ vec_len c.self.inside.bytes = sym (ap length c.deref.ensures.value) ∙ c.deref.ensures.len in
    let few : length (packing.add (groups_in bytes) claim) < 256 = omega (arith, step.count, c.self.invariant.few) in
    taken c.self.inside.kind c.self.inside.room (vec_capacity c.self.inside.bytes)
    (vec_capacity c.join.new.bytes) bytes _ c.self.inside.last _ (groups_in bytes) _ c.self.invariant step.grows few
    (omega (arith, step.size, len)) c.join.ensures.capacity

pub invariant_of-self : goal.invariant_of-self
invariant_of-self c = rw c.join.ensures.items (joins c).holds

pub returns-else-left-signature-clause-fits : goal.returns-else-left-signature-clause-fits
returns-else-left-signature-clause-fits c = rw (← c.self.view_is) (sym (joins c).fits)

pub returns-else-left-signature-clause-added : goal.returns-else-left-signature-clause-added
returns-else-left-signature-clause-added c =
    let made : List Group → Draft = λ gs. record { kind = c.self.inside.kind; room = c.self.inside.room; groups = gs } in
    rw (c.join.ensures.items, ← c.self.view_is) (ap made (joins c).groups)

-- ---- as a group of its own

pub returns-then-index-clause-fits : goal.returns-then-index-clause-fits
returns-then-index-clause-fits c =
    let claim : Signed = signed c.args.statement.now c.args.signer c.args.signature.now in
    let bytes : List ℕ = c.self.inside.bytes.items in
    let step : BeginsStep c.self.inside.kind bytes (groups_in bytes) claim = begins_step c.self.inside.kind c.self.inside.room
    (vec_capacity c.self.inside.bytes) bytes c.deref.result.now c.self.inside.last
    (groups_in bytes) claim c.self.invariant c.deref.ensures.value (sym c.in-None.is ∙ c.joined.ensures) c.requires.statement
    (omega arith) c.requires.signature in
    let len : length bytes ≡ vec_len c.self.inside.bytes = sym (ap length c.deref.ensures.value) ∙ c.deref.ensures.len in
    let count : c.index.result.now ≡ slice_index bytes 2 = get_or_read bytes 2 c.index.result.now step.counted c.index.ensures 0 in
    rw (← c.self.view_is) (elim c.then-index.branch [
      | then-index-via-then-index w ↦ sym (fits-false-count c.self.inside.room _ (omega (arith, step.count, w.if-index, count)))
      | then-index-via-else-index+then-left-statement w ↦ sym
          (fits-false-size c.self.inside.kind c.self.inside.room _ _ _ step.grows (omega (arith, step.size, len, w.if-left-statement)))
    ])

begins : (c : goal.After-self-in-None-1)
    → Taken c.self.inside.kind c.self.inside.room (vec_capacity c.begin.new.bytes)
    (slice_set c.self.inside.bytes.items 2 (slice_index c.self.inside.bytes.items 2 + 1)
    ++ group_bytes (group_of (signed c.args.statement.now c.args.signer c.args.signature.now)))
    (record {
      statement_at = length c.self.inside.bytes.items + 2;
      count_at = length c.self.inside.bytes.items + 2 + length c.args.statement.now;
      signer = c.args.signer;
    })
    (packing.add (groups_in c.self.inside.bytes.items) (signed c.args.statement.now c.args.signer c.args.signature.now))
begins c =
    let claim : Signed = signed c.args.statement.now c.args.signer c.args.signature.now in
    let bytes : List ℕ = c.self.inside.bytes.items in
    let step : BeginsStep c.self.inside.kind bytes (groups_in bytes) claim = begins_step c.self.inside.kind c.self.inside.room
    (vec_capacity c.self.inside.bytes) bytes c.deref.result.now c.self.inside.last
    (groups_in bytes) claim c.self.invariant c.deref.ensures.value (sym c.in-None.is ∙ c.joined.ensures) c.requires.statement
    (omega arith) c.requires.signature in
    let len : length bytes ≡ vec_len c.self.inside.bytes = sym (ap length c.deref.ensures.value) ∙ c.deref.ensures.len in
    let count : c.index.result.now ≡ slice_index bytes 2 = get_or_read bytes 2 c.index.result.now step.counted c.index.ensures 0 in
    let few : length (packing.add (groups_in bytes) claim) < 256 = omega
    (arith, step.count, count, c.if-index.false, c.self.invariant.few) in
    taken c.self.inside.kind c.self.inside.room (vec_capacity c.self.inside.bytes)
    (vec_capacity c.begin.new.bytes) bytes _ c.self.inside.last _ (groups_in bytes) _ c.self.invariant step.grows few
    (omega (arith, step.size, len)) c.begin.ensures.capacity

pub invariant_of-self-in-None : goal.invariant_of-self-in-None
invariant_of-self-in-None c =
    let len : length c.self.inside.bytes.items
    ≡ vec_len c.self.inside.bytes = sym (ap length c.deref.ensures.value) ∙ c.deref.ensures.len in
    rw (c.begin.ensures.items, c.len-statement_at.ensures, ← len) (begins c).holds

pub returns-else-left-statement-clause-fits : goal.returns-else-left-statement-clause-fits
returns-else-left-statement-clause-fits c = rw (← c.self.view_is) (sym (begins c).fits)

pub returns-else-left-statement-clause-added : goal.returns-else-left-statement-clause-added
returns-else-left-statement-clause-added c =
    let made : List Group → Draft = λ gs. record { kind = c.self.inside.kind; room = c.self.inside.room; groups = gs } in
    rw (c.begin.ensures.items, ← c.self.view_is) (ap made (begins c).groups)
