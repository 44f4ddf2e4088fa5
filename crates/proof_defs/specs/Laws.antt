-- The laws of proofs from a journal and of chains that begin at any view, each the contract of a public function of proof_laws.
use Rattle.std.specs.Prelude.{◌≡◌, ◌⊎◌, ℕ, ◌+◌, ◌≤◌, List, [], ◌∷◌, ◌++◌, length, take, flat_map, All, IsTrue, Some, Ok, slice_get}
use Rattle.hex.specs.Hex.{IsBytes}
use Rattle.message_defs.specs.Spelling.{IsClaim}
use Rattle.group_defs.specs.Views.{View, IsView}
use Rattle.group_defs.specs.Process.{Setting, Left, Process, start, views_of}
use Rattle.group_defs.specs.Hearing.{is_valid}
use Rattle.group_defs.specs.Events.{Turn, run}
use Rattle.input_defs.specs.Fronts.{Front, front_of}
use Rattle.chain_defs.specs.Advance.{advance}
use Rattle.chain_text_defs.specs.Chains.{chain_of, setting_of, view_line}
use Rattle.proof_defs.specs.Lines.{proof_frames, proof_line}

-- The line of a view that was left says a frame: its commit certificate is one, of claims in their ranges, and of bytes.
pub record HasFrame (l : Left) : Type 0 where
  pub frame : List ℕ
  pub one : proof_frames l ≡ frame ∷ []
  pub claims : All IsClaim l.commit
  pub bytes : IsBytes frame

-- A process that began in a genesis view, and signed only what is valid. So is each that an audit takes as correct.
pub record Began (s : Setting) (p : Process) : Type 0 where
  pub me : ℕ
  pub batch_limit : ℕ
  pub turns : List Turn
  pub is : run s (start s me batch_limit) turns ≡ p
  pub genesis : IsView s.genesis
  pub valid : All (λ c. IsTrue (is_valid s c)) p.signed

-- The frame that is said of a view shows the view that the process installed next.
abbrev pub FrameShows : Type 0
FrameShows = (s : Setting) (p : Process) (i : ℕ) (l : Left) (w : View) → Began s p → slice_get p.left i ≡ Some l
    → slice_get (views_of p) (i + 1) ≡ Some w → (has : HasFrame l) → advance s l.view has.frame ≡ Ok w

-- After any lines that are read as a kit of the process's setting, `chain` takes the lines of as many of the views that it left as have one
-- frame each, from the first one on, and says just the views that it installed up to the one after them. Where no line is large, these
-- are all of its lines and all of its views.
abbrev pub LinesAreAChain : Type 0
LinesAreAChain = (front : List ℕ) (f : Front) (p : Process) (n : ℕ) → front_of front ≡ Ok f → f.rest ≡ [] → Began (setting_of f.kit) p
    → n ≤ length p.left → All HasFrame (take n p.left)
    → chain_of (front ++ flat_map (proof_line p.me) (take n p.left))
    ≡ record { written = flat_map view_line (take (n + 1) (views_of p)); status = 0 }
