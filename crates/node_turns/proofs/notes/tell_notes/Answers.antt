use Rattle.std.proofs.Common.{◌≡◌, length, take}
use Rattle.node_service.proofs.Lines.{rewound}
use Rattle.node_turns.proofs.notes.tell_notes.Goals as goal

pub returns-in-Err-clause-unchanged : goal.returns-in-Err-clause-unchanged
returns-in-Err-clause-unchanged g c =
    let back : take (length c.args.text.now.items) c.tell_all.new.text.items ≡ c.args.text.now.items = rewound _ _ c.tell_all.ensures.grows in
    cc
