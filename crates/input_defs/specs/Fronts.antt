-- An input of the program that begins with a kit: the kit's lines, and then the line `go`.
--   the lines of a kit
--   go
-- and after it what the command asks for. A line has the first fault that it shows, as in a kit that is read alone; the line `go`
-- is Missing where a line of the kit is not there; and the end of the input before it is Line, with the number of the line that
-- would come.
use Rattle.std.specs.Prelude.{ℕ, ◌+◌, ◌==◌, if◌then◌else◌, List, [], ◌∷◌, ◌++◌, codes, Result, Ok, Err}
use Rattle.std.specs.Fmt.{decimal}
use Rattle.byte_defs.specs.Fields.{◌>>=◌}
use Rattle.byte_defs.specs.Equality.{same_bytes}
use Rattle.kit_defs.specs.Below.{line_feed, line_text}
use Rattle.kit_defs.specs.Kits.{Kit, kit_text}
use Rattle.kit_defs.specs.KitReading.{KitFault, Line, Repeated, Missing, KeyMismatch, Draft, nothing, take_line, finish}

-- the line that ends a kit
abbrev pub go : List ℕ
go = codes "go"

-- a kit, the number of the line after `go`, and the bytes from there on
pub record Front : Type 0 where
  pub kit : Kit
  pub line : ℕ
  pub rest : List ℕ

-- the line `go` has this number, and these lines come before it
abbrev pub ends_at : ℕ → Draft → List ℕ → Result Front KitFault
ends_at n d rest = finish n d >>= λ kit. Ok (record { kit = kit; line = n + 1; rest = rest })

-- the line of this number has these bytes so far, and these lines come before it
unfoldable pub front_at : List ℕ → ℕ → Draft → List ℕ → Result Front KitFault
front_at line n d [] = Err (Line n)
front_at line n d (c ∷ more) =
    if c == line_feed then
    (if same_bytes line go then ends_at n d more else take_line n d line >>= λ taken. front_at [] (n + 1) taken more)
    else front_at (line ++ c ∷ []) n d more

-- the kit that the bytes begin with, up to the line `go`
abbrev pub front_of : List ℕ → Result Front KitFault
front_of bytes = front_at [] 1 nothing bytes

-- how it is spelled
abbrev pub front_text : Kit → List ℕ
front_text kit = kit_text kit ++ line_text (go ∷ [])

-- the word and the line of a fault
abbrev pub fault_words : KitFault → List (List ℕ)
fault_words (Line n) = codes "line" ∷ decimal n ∷ []
fault_words (Repeated n) = codes "repeated" ∷ decimal n ∷ []
fault_words (Missing n) = codes "missing" ∷ decimal n ∷ []
fault_words (KeyMismatch n made listed) = codes "keymismatch" ∷ decimal n ∷ []
