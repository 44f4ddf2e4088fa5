use Rattle.std.proofs.Common.{◌≡◌, length, take}
use Rattle.node_text.proofs.Written.{rewound}
use Rattle.node_text.proofs.words.push_line.Goals as goal

pub returns-in-Err-clause-unchanged : goal.returns-in-Err-clause-unchanged
returns-in-Err-clause-unchanged c =
    let back : take (length c.args.out.now.items) c.begin_line.new.out.items ≡ c.args.out.now.items = rewound _ _ c.in-Err.ensures.begun in
    cc
