use Rattle.std.proofs.Common.{◌≡◌, ℕ, ◌+◌, Some, map, drop, subst, sym}
use Rattle.std.specs.Prelude.{string_bytes}
use Rattle.text_defs.specs.Words.{number_within}
use Rattle.command_line.proofs.RisingNumbers.{AreBelow, goes_on, words_from}
use Rattle.command_line.proofs.listed.rising.Goals as goal

pub words-preserved : goal.words-preserved
words-preserved c =
    let words = words_from string_bytes c.args.words.now c.words.word-index c.word-item.result c.words-test.true c.word-item.is in
    let read : number_within c.words.least 63 (string_bytes c.word-item.result) ≡ Some c.in_ok-p.p =
    cc (c.as_bytes.ensures.value, c.process_from.ensures, c.in_ok-p.was) in
    let next = goes_on c.words.least c.in_ok-p.p (string_bytes c.word-item.result) _ (map string_bytes (drop (c.words.word-index + 1) c.args.words.now))
    c.words.listed c.insert.new.self _ c.words.invariant.read words read c.words.invariant.below c.insert.ensures in
    let least : c.from-least.result ≡ c.in_ok-p.p = cc (c.from-least.ensures, c.get.ensures.value) in
    record {
      read = cc (next.0, least);
      below = subst (λ (n : ℕ). AreBelow (n + 1) c.insert.new.self) (sym least) next.1;
    }
