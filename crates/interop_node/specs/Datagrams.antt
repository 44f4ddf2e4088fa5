-- What bytes say as a datagram.
use Rattle.std.specs.Prelude.{ℕ, ◌==◌, if◌then◌else◌, List, [], ◌∷◌, ◌++◌, codes, Option, Some, None, Result, Ok, Err}
use Rattle.std.specs.Fmt.{decimal}
use Rattle.link_defs.specs.declared.LinkFault.{LinkFault}
use Rattle.link_defs.specs.declared.LinkFault.TheVariants.{Short, Magic, OtherGroup, NotForMe, UnknownPeer, BadTag}
use Rattle.link_defs.specs.Datagrams.{Known, opened}
use Rattle.text_defs.specs.Words.{bytes_word}

-- the name of the receiver's group: the bytes 00, 01 .. 0f
abbrev pub group : List ℕ
group = 0 ∷ 1 ∷ 2 ∷ 3 ∷ 4 ∷ 5 ∷ 6 ∷ 7 ∷ 8 ∷ 9 ∷ 10 ∷ 11 ∷ 12 ∷ 13 ∷ 14 ∷ 15 ∷ []

-- what the receiver knows: it is process 2, and shares this key with process 1 alone
abbrev pub receiver : List ℕ → Known
receiver key = record { me = 2; group = group; pair = λ p. if p == 1 then Some key else None }

abbrev pub fault_word : LinkFault → List ℕ
fault_word Short = codes "short"
fault_word Magic = codes "magic"
fault_word OtherGroup = codes "othergroup"
fault_word NotForMe = codes "notforme"
fault_word UnknownPeer = codes "unknownpeer"
fault_word BadTag = codes "badtag"

-- `opened FROM FRAME`, or the word of the fault
abbrev pub said : Result (ℕ × List ℕ) LinkFault → List ℕ
said (Ok x) = codes "opened " ++ (decimal x.0 ++ (codes " " ++ bytes_word x.1))
said (Err fault) = fault_word fault

-- what the receiver opens with this key
abbrev pub datagram_answer : List ℕ → List ℕ → List ℕ
datagram_answer key bytes = said (opened (receiver key) bytes)
