-- How the rows are written: a signature is valid where it has no byte, and the processes 0 to 5 have a key.
use Rattle.std.specs.Prelude.{ℕ, ◌==◌, List, [], ◌∷◌, length, map}
use Rattle.message_defs.specs.Updates.{Update, Value}
use Rattle.message_defs.specs.Statements.{Message, Statement, Claim}
use Rattle.group_defs.specs.Process.{Setting, all_kinds}

abbrev pub s : Setting
s = record {
  group = [];
  roster = map (λ p. (p, [])) (0 ∷ 1 ∷ 2 ∷ 3 ∷ 4 ∷ 5 ∷ []);
  genesis = record { number = 0; members = 0 ∷ 1 ∷ 2 ∷ 3 ∷ [] };
  valid = λ key body signature. length signature == 0;
  signs = all_kinds;
}

abbrev pub by : ℕ → Statement → Claim
by p st = record { signer = p; statement = st; signature = [] }

abbrev pub forged : ℕ → Statement → List ℕ → Claim
forged p st bytes = record { signer = p; statement = st; signature = bytes }

abbrev pub msg : ℕ → ℕ → Message
msg s l = record { sender = s; number = l }

abbrev pub value : Update → ℕ → Value
value u k = record { update = u; cut = k }
