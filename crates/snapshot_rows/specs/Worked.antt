-- A worked image, and where the first fault is in bytes that are near its spelling; by another program.
-- Names here (* for this crate alone):
--   worked*, first*, second*
--   bytes that are near them: fault*, fronts*, raised*, faults*, first_cut*, first_raised*, second_cut*, second_raised*
--   the row: WorkedImage*
use Rattle.std.specs.Prelude.{◌≡◌, ℕ, ◌+◌, ◌%◌, true, List, [], ◌∷◌, map, Option, Some, None, Result, Ok, Err}
use Rattle.message_defs.specs.Updates.{Remove, Add, Renew, Value}
use Rattle.message_defs.specs.Statements.{Message, Init, Order, End, Ready}
use Rattle.image_defs.specs.Images.{Image}
use Rattle.snapshot_defs.specs.declared.Version.{Version}
use Rattle.snapshot_defs.specs.declared.Version.TheVariants.{One, Two}
use Rattle.snapshot_defs.specs.Reading.{image_in}

abbrev message : ℕ → ℕ → Message
message sender number = record { sender = sender; number = number }

abbrev renewal : Value
renewal = record { update = Renew; cut = 1 }

-- Process 3 left view 0, and halted in view 1: a place after the cut was delivered there.
unfoldable pub worked : Image
worked = record {
  me = 3;
  left = record {
    rank = 0;
    value = renewal;
    commit = record { signer = 3; statement = Ready 0 0 renewal; signature = 7 ∷ [] } ∷ [];
  } ∷ [];
  perceived = (0, Remove 2) ∷ (1, Renew) ∷ [];
  accepted = (97 ∷ 98 ∷ []) ∷ [] ∷ [];
  signed = record { signer = 3; statement = Init 0 0 (97 ∷ []); signature = 1 ∷ 2 ∷ [] } ∷ [];
  previous = [];
  heard = record { signer = 2; statement = Order 1 0 (message 2 0 ∷ message 3 0 ∷ []); signature = 5 ∷ [] } ∷ [];
  conflicts = (
    record { signer = 1; statement = End 0 1; signature = [] },
    record { signer = 1; statement = End 0 2; signature = 9 ∷ [] },
  ) ∷ [];
  delivered =
      (record { place = 0; message = message 3 0; payload = 97 ∷ [] } ∷ [])
      ∷ (record { place = 0; message = message 2 0; payload = [] } ∷ record { place = 1; message = message 3 1; payload = 98 ∷ [] } ∷ [])
      ∷ [];
  decision = Some (0, record { update = Add 9; cut = 1 });
  halted = true;
}

-- its bytes in version 1 and in version 2
unfoldable pub first : List ℕ
first =
    3 ∷ 0 ∷ 1 ∷ 0 ∷ 3 ∷ 0 ∷ 0 ∷ 1 ∷ 0 ∷ 0 ∷ 0 ∷ 1 ∷ 3 ∷ 0 ∷ 8 ∷ 11 ∷ 0 ∷ 0 ∷ 0 ∷ 3 ∷ 0 ∷ 0 ∷ 1 ∷ 0 ∷ 1 ∷ 7 ∷ 0 ∷ 0 ∷ 0 ∷ 2 ∷ 0 ∷ 0 ∷ 1 ∷ 2 ∷
    0 ∷ 1 ∷ 3 ∷ 0 ∷ 0 ∷ 0 ∷ 0 ∷ 2 ∷ 0 ∷ 2 ∷ 97 ∷ 98 ∷ 0 ∷ 0 ∷ 0 ∷ 0 ∷ 0 ∷ 1 ∷ 3 ∷ 0 ∷ 8 ∷ 1 ∷ 0 ∷ 0 ∷ 0 ∷ 0 ∷ 0 ∷ 1 ∷ 97 ∷ 0 ∷ 2 ∷ 1 ∷ 2 ∷
    0 ∷ 0 ∷ 0 ∷ 0 ∷ 0 ∷ 0 ∷ 0 ∷ 1 ∷ 2 ∷ 0 ∷ 12 ∷ 12 ∷ 0 ∷ 1 ∷ 0 ∷ 0 ∷ 2 ∷ 2 ∷ 0 ∷ 0 ∷ 3 ∷ 0 ∷ 0 ∷ 0 ∷ 1 ∷ 5 ∷ 1 ∷ 1 ∷ 0 ∷ 5 ∷ 7 ∷ 0 ∷ 0 ∷
    0 ∷ 1 ∷ 0 ∷ 0 ∷ 1 ∷ 0 ∷ 5 ∷ 7 ∷ 0 ∷ 0 ∷ 0 ∷ 2 ∷ 0 ∷ 1 ∷ 9 ∷ 0 ∷ 0 ∷ 0 ∷ 1 ∷ 3 ∷ 0 ∷ 0 ∷ 0 ∷ 1 ∷ 97 ∷ 0 ∷ 0 ∷ 0 ∷ 2 ∷ 2 ∷ 0 ∷ 0 ∷ 0 ∷ 0 ∷
    3 ∷ 0 ∷ 1 ∷ 0 ∷ 1 ∷ 98 ∷ 1 ∷ 0 ∷ 2 ∷ 9 ∷ 0 ∷ 1 ∷ 1 ∷ []

unfoldable pub second : List ℕ
second =
    3 ∷ 0 ∷ 1 ∷ 0 ∷ 3 ∷ 0 ∷ 0 ∷ 1 ∷ 0 ∷ 0 ∷ 0 ∷ 1 ∷ 3 ∷ 0 ∷ 8 ∷ 11 ∷ 0 ∷ 0 ∷ 0 ∷ 3 ∷ 0 ∷ 0 ∷ 1 ∷ 0 ∷ 1 ∷ 7 ∷ 0 ∷ 0 ∷ 0 ∷ 2 ∷ 0 ∷ 0 ∷ 1 ∷ 2 ∷
    0 ∷ 1 ∷ 3 ∷ 0 ∷ 0 ∷ 0 ∷ 0 ∷ 2 ∷ 0 ∷ 2 ∷ 97 ∷ 98 ∷ 0 ∷ 0 ∷ 0 ∷ 0 ∷ 0 ∷ 1 ∷ 3 ∷ 0 ∷ 8 ∷ 1 ∷ 0 ∷ 0 ∷ 0 ∷ 0 ∷ 0 ∷ 1 ∷ 97 ∷ 0 ∷ 2 ∷ 1 ∷ 2 ∷
    0 ∷ 0 ∷ 0 ∷ 0 ∷ 0 ∷ 0 ∷ 0 ∷ 1 ∷ 2 ∷ 0 ∷ 12 ∷ 12 ∷ 0 ∷ 1 ∷ 0 ∷ 0 ∷ 2 ∷ 2 ∷ 0 ∷ 0 ∷ 3 ∷ 0 ∷ 0 ∷ 0 ∷ 1 ∷ 5 ∷ 1 ∷ 1 ∷ 0 ∷ 5 ∷ 7 ∷ 0 ∷ 0 ∷
    0 ∷ 1 ∷ 0 ∷ 0 ∷ 1 ∷ 0 ∷ 5 ∷ 7 ∷ 0 ∷ 0 ∷ 0 ∷ 2 ∷ 0 ∷ 1 ∷ 9 ∷ 0 ∷ 0 ∷ 0 ∷ 1 ∷ 0 ∷ 0 ∷ 3 ∷ 0 ∷ 0 ∷ 0 ∷ 1 ∷ 97 ∷ 0 ∷ 0 ∷ 0 ∷ 2 ∷ 0 ∷ 0 ∷ 2 ∷
    0 ∷ 0 ∷ 0 ∷ 0 ∷ 0 ∷ 1 ∷ 3 ∷ 0 ∷ 1 ∷ 0 ∷ 1 ∷ 98 ∷ 1 ∷ 0 ∷ 2 ∷ 9 ∷ 0 ∷ 1 ∷ 1 ∷ []

-- ---- bytes that are near them

-- the place of the fault, where there is one
abbrev pub fault : Result Image ℕ → Option ℕ
fault (Ok i) = None
fault (Err place) = Some place

-- each front of the bytes, the empty one first
abbrev pub fronts : List ℕ → List (List ℕ)
fronts [] = [] ∷ []
fronts (b ∷ bytes) = [] ∷ map (λ more. b ∷ more) (fronts bytes)

-- the bytes with one of them raised by one, by the place of that byte
abbrev pub raised : List ℕ → List (List ℕ)
raised [] = []
raised (b ∷ bytes) = ((b + 1) % 256 ∷ bytes) ∷ map (λ more. b ∷ more) (raised bytes)

abbrev pub faults : Version → List (List ℕ) → List (Option ℕ)
faults v inputs = map (λ bytes. fault (image_in v bytes)) inputs

-- of version 1, of its fronts
unfoldable pub first_cut : List (Option ℕ)
first_cut =
    Some 0 ∷ Some 1 ∷ Some 1 ∷ Some 3 ∷ Some 4 ∷ Some 4 ∷ Some 6 ∷ Some 6 ∷ Some 8 ∷ Some 8 ∷ Some 8 ∷ Some 8 ∷
    Some 12 ∷ Some 13 ∷ Some 13 ∷ Some 15 ∷ Some 15 ∷ Some 15 ∷ Some 15 ∷ Some 15 ∷ Some 15 ∷ Some 15 ∷ Some 15 ∷
    Some 23 ∷ Some 23 ∷ Some 25 ∷ Some 26 ∷ Some 26 ∷ Some 26 ∷ Some 26 ∷ Some 30 ∷ Some 30 ∷ Some 32 ∷ Some 32 ∷
    Some 34 ∷ Some 34 ∷ Some 36 ∷ Some 36 ∷ Some 38 ∷ Some 38 ∷ Some 38 ∷ Some 38 ∷ Some 42 ∷ Some 42 ∷ Some 44 ∷
    Some 44 ∷ Some 46 ∷ Some 46 ∷ Some 48 ∷ Some 48 ∷ Some 48 ∷ Some 48 ∷ Some 52 ∷ Some 53 ∷ Some 53 ∷ Some 55 ∷
    Some 55 ∷ Some 55 ∷ Some 55 ∷ Some 55 ∷ Some 55 ∷ Some 55 ∷ Some 55 ∷ Some 63 ∷ Some 63 ∷ Some 65 ∷ Some 65 ∷
    Some 67 ∷ Some 67 ∷ Some 67 ∷ Some 67 ∷ Some 71 ∷ Some 71 ∷ Some 71 ∷ Some 71 ∷ Some 75 ∷ Some 76 ∷ Some 76 ∷
    Some 78 ∷ Some 78 ∷ Some 78 ∷ Some 78 ∷ Some 78 ∷ Some 78 ∷ Some 78 ∷ Some 78 ∷ Some 78 ∷ Some 78 ∷ Some 78 ∷
    Some 78 ∷ Some 90 ∷ Some 90 ∷ Some 92 ∷ Some 93 ∷ Some 94 ∷ Some 95 ∷ Some 95 ∷ Some 97 ∷ Some 97 ∷ Some 97 ∷
    Some 97 ∷ Some 97 ∷ Some 102 ∷ Some 102 ∷ Some 104 ∷ Some 105 ∷ Some 105 ∷ Some 107 ∷ Some 107 ∷ Some 107 ∷
    Some 107 ∷ Some 107 ∷ Some 112 ∷ Some 112 ∷ Some 114 ∷ Some 115 ∷ Some 115 ∷ Some 115 ∷ Some 115 ∷ Some 119 ∷
    Some 120 ∷ Some 120 ∷ Some 122 ∷ Some 122 ∷ Some 124 ∷ Some 125 ∷ Some 125 ∷ Some 125 ∷ Some 125 ∷ Some 129 ∷
    Some 130 ∷ Some 130 ∷ Some 132 ∷ Some 132 ∷ Some 134 ∷ Some 135 ∷ Some 135 ∷ Some 137 ∷ Some 137 ∷ Some 139 ∷
    Some 140 ∷ Some 141 ∷ Some 142 ∷ Some 142 ∷ Some 144 ∷ Some 144 ∷ Some 146 ∷ None ∷ []

-- of version 1, with a byte raised
unfoldable pub first_raised : List (Option ℕ)
first_raised =
    None ∷ Some 27 ∷ Some 27 ∷ None ∷ Some 4 ∷ Some 4 ∷ None ∷ None ∷ Some 29 ∷ Some 29 ∷ Some 29 ∷ Some 29 ∷ None ∷
    Some 15 ∷ Some 15 ∷ Some 15 ∷ None ∷ None ∷ None ∷ Some 15 ∷ Some 15 ∷ None ∷ None ∷ Some 25 ∷ Some 37 ∷ None ∷
    Some 40 ∷ Some 40 ∷ Some 40 ∷ Some 40 ∷ Some 26 ∷ None ∷ None ∷ None ∷ None ∷ None ∷ Some 36 ∷ Some 36 ∷ Some 95 ∷
    Some 95 ∷ Some 95 ∷ Some 57 ∷ Some 44 ∷ Some 56 ∷ None ∷ None ∷ Some 48 ∷ Some 56 ∷ Some 70 ∷ Some 70 ∷ Some 70 ∷
    Some 70 ∷ None ∷ Some 55 ∷ Some 55 ∷ Some 55 ∷ None ∷ None ∷ None ∷ None ∷ Some 55 ∷ Some 55 ∷ None ∷ Some 65 ∷
    Some 79 ∷ None ∷ None ∷ Some 74 ∷ Some 74 ∷ Some 74 ∷ Some 74 ∷ Some 96 ∷ Some 96 ∷ Some 96 ∷ Some 96 ∷ None ∷
    Some 78 ∷ Some 78 ∷ None ∷ None ∷ None ∷ None ∷ None ∷ Some 78 ∷ None ∷ None ∷ None ∷ None ∷ None ∷ None ∷ Some 92 ∷ Some 98 ∷
    None ∷ Some 118 ∷ None ∷ Some 97 ∷ Some 97 ∷ Some 97 ∷ None ∷ None ∷ None ∷ None ∷ Some 104 ∷ Some 108 ∷ None ∷ Some 107 ∷
    Some 107 ∷ Some 107 ∷ None ∷ None ∷ None ∷ None ∷ Some 114 ∷ Some 125 ∷ None ∷ Some 130 ∷ Some 130 ∷ Some 130 ∷
    Some 130 ∷ None ∷ None ∷ None ∷ Some 124 ∷ Some 139 ∷ None ∷ Some 143 ∷ Some 143 ∷ Some 143 ∷ Some 143 ∷ None ∷ None ∷
    None ∷ Some 134 ∷ Some 140 ∷ None ∷ None ∷ None ∷ Some 139 ∷ Some 142 ∷ None ∷ Some 140 ∷ None ∷ Some 142 ∷ None ∷ None ∷
    None ∷ Some 146 ∷ []

-- of version 2, of its fronts
unfoldable pub second_cut : List (Option ℕ)
second_cut =
    Some 0 ∷ Some 1 ∷ Some 1 ∷ Some 3 ∷ Some 4 ∷ Some 4 ∷ Some 6 ∷ Some 6 ∷ Some 8 ∷ Some 8 ∷ Some 8 ∷ Some 8 ∷
    Some 12 ∷ Some 13 ∷ Some 13 ∷ Some 15 ∷ Some 15 ∷ Some 15 ∷ Some 15 ∷ Some 15 ∷ Some 15 ∷ Some 15 ∷ Some 15 ∷
    Some 23 ∷ Some 23 ∷ Some 25 ∷ Some 26 ∷ Some 26 ∷ Some 26 ∷ Some 26 ∷ Some 30 ∷ Some 30 ∷ Some 32 ∷ Some 32 ∷
    Some 34 ∷ Some 34 ∷ Some 36 ∷ Some 36 ∷ Some 38 ∷ Some 38 ∷ Some 38 ∷ Some 38 ∷ Some 42 ∷ Some 42 ∷ Some 44 ∷
    Some 44 ∷ Some 46 ∷ Some 46 ∷ Some 48 ∷ Some 48 ∷ Some 48 ∷ Some 48 ∷ Some 52 ∷ Some 53 ∷ Some 53 ∷ Some 55 ∷
    Some 55 ∷ Some 55 ∷ Some 55 ∷ Some 55 ∷ Some 55 ∷ Some 55 ∷ Some 55 ∷ Some 63 ∷ Some 63 ∷ Some 65 ∷ Some 65 ∷
    Some 67 ∷ Some 67 ∷ Some 67 ∷ Some 67 ∷ Some 71 ∷ Some 71 ∷ Some 71 ∷ Some 71 ∷ Some 75 ∷ Some 76 ∷ Some 76 ∷
    Some 78 ∷ Some 78 ∷ Some 78 ∷ Some 78 ∷ Some 78 ∷ Some 78 ∷ Some 78 ∷ Some 78 ∷ Some 78 ∷ Some 78 ∷ Some 78 ∷
    Some 78 ∷ Some 90 ∷ Some 90 ∷ Some 92 ∷ Some 93 ∷ Some 94 ∷ Some 95 ∷ Some 95 ∷ Some 97 ∷ Some 97 ∷ Some 97 ∷
    Some 97 ∷ Some 97 ∷ Some 102 ∷ Some 102 ∷ Some 104 ∷ Some 105 ∷ Some 105 ∷ Some 107 ∷ Some 107 ∷ Some 107 ∷
    Some 107 ∷ Some 107 ∷ Some 112 ∷ Some 112 ∷ Some 114 ∷ Some 115 ∷ Some 115 ∷ Some 115 ∷ Some 115 ∷ Some 119 ∷
    Some 119 ∷ Some 121 ∷ Some 122 ∷ Some 122 ∷ Some 124 ∷ Some 124 ∷ Some 126 ∷ Some 127 ∷ Some 127 ∷ Some 127 ∷
    Some 127 ∷ Some 131 ∷ Some 131 ∷ Some 133 ∷ Some 134 ∷ Some 134 ∷ Some 136 ∷ Some 136 ∷ Some 138 ∷ Some 138 ∷
    Some 140 ∷ Some 141 ∷ Some 141 ∷ Some 143 ∷ Some 143 ∷ Some 145 ∷ Some 146 ∷ Some 147 ∷ Some 148 ∷ Some 148 ∷
    Some 150 ∷ Some 150 ∷ Some 152 ∷ None ∷ []

-- of version 2, with a byte raised
unfoldable pub second_raised : List (Option ℕ)
second_raised =
    None ∷ Some 27 ∷ Some 27 ∷ None ∷ Some 4 ∷ Some 4 ∷ None ∷ None ∷ Some 29 ∷ Some 29 ∷ Some 29 ∷ Some 29 ∷ None ∷
    Some 15 ∷ Some 15 ∷ Some 15 ∷ None ∷ None ∷ None ∷ Some 15 ∷ Some 15 ∷ None ∷ None ∷ Some 25 ∷ Some 37 ∷ None ∷
    Some 40 ∷ Some 40 ∷ Some 40 ∷ Some 40 ∷ Some 26 ∷ None ∷ None ∷ None ∷ None ∷ None ∷ Some 36 ∷ Some 36 ∷ Some 95 ∷
    Some 95 ∷ Some 95 ∷ Some 57 ∷ Some 44 ∷ Some 56 ∷ None ∷ None ∷ Some 48 ∷ Some 56 ∷ Some 70 ∷ Some 70 ∷ Some 70 ∷
    Some 70 ∷ None ∷ Some 55 ∷ Some 55 ∷ Some 55 ∷ None ∷ None ∷ None ∷ None ∷ Some 55 ∷ Some 55 ∷ None ∷ Some 65 ∷
    Some 79 ∷ None ∷ None ∷ Some 74 ∷ Some 74 ∷ Some 74 ∷ Some 74 ∷ Some 96 ∷ Some 96 ∷ Some 96 ∷ Some 96 ∷ None ∷
    Some 78 ∷ Some 78 ∷ None ∷ None ∷ None ∷ None ∷ None ∷ Some 78 ∷ None ∷ None ∷ None ∷ None ∷ None ∷ None ∷ Some 92 ∷ Some 98 ∷
    None ∷ Some 118 ∷ None ∷ Some 97 ∷ Some 97 ∷ Some 97 ∷ None ∷ None ∷ None ∷ None ∷ Some 104 ∷ Some 108 ∷ None ∷ Some 107 ∷
    Some 107 ∷ Some 107 ∷ None ∷ None ∷ None ∷ None ∷ Some 114 ∷ Some 127 ∷ None ∷ Some 149 ∷ Some 149 ∷ Some 149 ∷
    Some 145 ∷ None ∷ None ∷ None ∷ None ∷ None ∷ Some 126 ∷ Some 146 ∷ None ∷ Some 149 ∷ Some 149 ∷ Some 149 ∷ Some 149 ∷
    None ∷ None ∷ None ∷ None ∷ None ∷ Some 138 ∷ Some 146 ∷ None ∷ None ∷ None ∷ None ∷ None ∷ Some 145 ∷ Some 148 ∷ None ∷
    Some 146 ∷ None ∷ Some 148 ∷ None ∷ None ∷ None ∷ Some 152 ∷ []

-- ---- the row

pub record WorkedImage : Type 0 where
  pub read_first : image_in One first ≡ Ok worked
  pub read_second : image_in Two second ≡ Ok worked
  pub fronts_first : faults One (fronts first) ≡ first_cut
  pub fronts_second : faults Two (fronts second) ≡ second_cut
  pub raised_first : faults One (raised first) ≡ first_raised
  pub raised_second : faults Two (raised second) ≡ second_raised
