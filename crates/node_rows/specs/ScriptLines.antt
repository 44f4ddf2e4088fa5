-- Lines of a script, and what they ask for, where the node hosts the processes 0 and 2.
use Rattle.std.specs.Prelude.{◌≡◌, ℕ, List, [], ◌∷◌, ◌++◌, map, Option, Some, None, codes}
use Rattle.journal_defs.specs.Entries.{Submit, Suspect, Join, Renew, Tick}
use Rattle.node_defs.specs.Scripts.{Line, Of, Snap, Hand, Receive, Other, line_said}

unfoldable pub hosted : List ℕ
hosted = 0 ∷ 2 ∷ []

abbrev pub said : List (List ℕ) → List (Option Line)
said lines = map (line_said hosted) lines

-- a line of process 0 for the service, with these bytes after a word
abbrev pub word_of : List ℕ → List ℕ
word_of bytes = codes "0 say " ++ bytes

-- the row: what the definitions give
pub record ScriptLines : Type 0 where
  pub own : said (
      codes "0 submit 6869" ∷ codes "2 submit -" ∷ codes "2 suspect 63" ∷ codes "0 join 5" ∷ codes "0 renew" ∷ codes "2 tick"
      ∷ codes "0 recv 1000" ∷ codes "snap" ∷ [])
      ≡ Some (Of 0 (Hand (Submit (104 ∷ 105 ∷ [])))) ∷ Some (Of 2 (Hand (Submit []))) ∷ Some (Of 2 (Hand (Suspect 63))) ∷ Some (Of 0 (Hand (Join 5)))
      ∷ Some (Of 0 (Hand Renew)) ∷ Some (Of 2 (Hand Tick)) ∷ Some (Of 0 (Receive 1000)) ∷ Some Snap ∷ []
  -- what is none of the node's own words goes to the service
  pub others : said (
      codes "0 submit 6A" ∷ codes "0 submit " ∷ codes "0 submit 6" ∷ codes "0 suspect 64" ∷ codes "0 join 05" ∷ codes "0 recv 0" ∷ codes "0 recv 1001"
      ∷ codes "0 renew " ∷ codes "0" ∷ codes "0 snap" ∷ [])
      ≡ Some (Of 0 Other) ∷ Some (Of 0 Other) ∷ Some (Of 0 Other) ∷ Some (Of 0 Other) ∷ Some (Of 0 Other) ∷ Some (Of 0 Other) ∷ Some (Of 0 Other)
      ∷ Some (Of 0 Other) ∷ Some (Of 0 Other) ∷ Some (Of 0 Other) ∷ []
  -- of a process that is not hosted, or of none
  pub strangers : said (codes "1 tick" ∷ codes "00 tick" ∷ codes "64 tick" ∷ codes " 0 tick" ∷ codes "" ∷ codes "snap " ∷ codes "tick" ∷ [])
      ≡ None ∷ None ∷ None ∷ None ∷ None ∷ None ∷ None ∷ []
  -- an e with an acute accent and U+10FFFF; a byte alone that begins or goes on a character, a surrogate, a code above the last, and a
  -- character that is cut off
  pub text : said (word_of (0xC3 ∷ 0xA9 ∷ []) ∷ word_of (0xF4 ∷ 0x8F ∷ 0xBF ∷ 0xBF ∷ []) ∷ []) ≡ Some (Of 0 Other) ∷ Some (Of 0 Other) ∷ []
  pub no_text : said (
      word_of (0xFF ∷ []) ∷ word_of (0x80 ∷ []) ∷ word_of (0xC0 ∷ 0x80 ∷ []) ∷ word_of (0xED ∷ 0xA0 ∷ 0x80 ∷ [])
      ∷ word_of (0xF4 ∷ 0x90 ∷ 0x80 ∷ 0x80 ∷ []) ∷ word_of (0xE2 ∷ 0x82 ∷ []) ∷ [])
      ≡ None ∷ None ∷ None ∷ None ∷ None ∷ None ∷ []
