use Rattle.std.proofs.Common.{List, ℕ, [], ◌∷◌, ◌++◌, ap, ◌∙◌}
use Rattle.node_service.specs.Words.{note}
use Rattle.store_service.specs.declared.servers.Servers.{Servers}
use Rattle.store_service.proofs.Histories.{tells}
use Rattle.store_service.proofs.servers.Servers.tell.Goals as goal

pub returns-clause-tells : goal.returns-clause-tells
returns-clause-tells c = λ k now h has.
    let w : Servers = record { alloc = c.args.self.now.alloc; servers = c.tell.new.servers; lost = c.args.self.now.lost } in
    record {
      text = c.in_ok-text.text.items;
      reported = c.in_ok-extend_from_slice.ensures.items ∙ ap (λ (t : List ℕ). c.args.lines.now.items ++ t) c.as_slice.ensures.value;
      has = tells h c.args.self.now has k w c.if-self.false (now ∷ []) c.args.p (note c.args.note.now) c.in_ok-text.text.items
          (λ xs are. c.in_ok-text.ensures xs are);
    }
