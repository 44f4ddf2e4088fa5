-- A kit at the front of an input: its bytes are its spelling, and it is read of them whatever comes after it.
use Rattle.std.proofs.Common.{◌≡◌, ℕ, ◌+◌, ◌==◌, Bool, true, false, List, [], ◌∷◌, ◌++◌, Result, Ok, Err, refl, sym, ap, subst, ◌∙◌, append_assoc}
use Rattle.std.specs.List.{list_any}
use Rattle.std.proofs.lemmas.Bool.{eqb-true, or_from}
use Rattle.std.proofs.lemmas.List.{append_cancel_right}
use Rattle.std.proofs.lemmas.List.Folds.{list_any-append}
use Rattle.byte_defs.specs.Equality.{same_bytes}
use Rattle.byte_defs.specs.Fields.{◌>>=◌}
use Rattle.text_defs.specs.Words.{line_feed}
use Rattle.text_defs.proofs.Lines.{has_byte, lines_text, parts_of_lines}
use Rattle.text_defs.proofs.Tests.{word_is}
use Rattle.kit_defs.specs.Kits.{IsKit, Kit, kit_text}
use Rattle.kit_defs.specs.KitReading.{Draft, KitFault, finish, kit_of, lines_at, nothing, take_line}
use Rattle.kit_defs.proofs.ReadKits.{read_is_spelled}
use Rattle.input_defs.specs.Fronts.{Front, ends_at, front_at, front_of, front_text, go}

abbrev with_rest : List ℕ → Front → Front
with_rest rest f = record f { rest = rest }

-- the line that ends a kit
abbrev go_line : List ℕ
go_line = go ++ line_feed ∷ []

ok_is : {A : Type 0} (x y : A) → (let r : Result A KitFault = Ok x in r) ≡ Ok y → x ≡ y
ok_is x y e = cc

bind_is : {A B : Type 0} (r : Result A KitFault) (f : A → Result B KitFault) (b : B) → (r >>= f) ≡ Ok b → (a : A) × (r ≡ Ok a) × (f a ≡ Ok b)
bind_is (Ok a) f b e = (a, refl, e)
bind_is (Err fault) f b e = absurd cc

-- What stands before the rest, where the line under way has these bytes so far: lines that a kit has, and the line `go`.
record Split (line : List ℕ) (n : ℕ) (d : Draft) (bytes : List ℕ) (f : Front) : Type 0 where
  lines : List (List ℕ)
  text : line ++ bytes ≡ lines_text lines ++ (go_line ++ f.rest)
  feeds : list_any (has_byte line_feed) lines ≡ false
  reads : lines_at n d (lines ++ [] ∷ []) ≡ Ok f.kit
  taken : List ℕ
  bytes_are : bytes ≡ taken ++ f.rest
  again : (rest : List ℕ) → front_at line n d (taken ++ rest) ≡ Ok (with_rest rest f)

-- one line more
lines_more : (n : ℕ) (d e : Draft) (line : List ℕ) (lines : List (List ℕ)) → take_line n d line ≡ Ok e
    → lines_at n d (line ∷ (lines ++ [] ∷ [])) ≡ lines_at (n + 1) e (lines ++ [] ∷ [])
unfolding lines_at
lines_more n d e line [] taken = ap (λ r. r >>= λ f. lines_at (n + 1) f ([] ∷ [])) taken
lines_more n d e line (next ∷ lines) taken = ap (λ r. r >>= λ f. lines_at (n + 1) f (next ∷ (lines ++ [] ∷ []))) taken

module _ (line : List ℕ) (n : ℕ) (d : Draft) (bytes : List ℕ) (f : Front) where
  -- a line feed, after the line `go` or another one
  at_go : (rest : List ℕ) → same_bytes line go ≡ true → front_at line n d (line_feed ∷ rest) ≡ ends_at n d rest
  unfolding front_at
  at_go rest is = rw is refl

  at_other : (rest : List ℕ) → same_bytes line go ≡ false
      → front_at line n d (line_feed ∷ rest) ≡ (take_line n d line >>= λ taken. front_at [] (n + 1) taken rest)
  unfolding front_at
  at_other rest is = rw is refl

  at_byte : (c : ℕ) (rest : List ℕ) → (c == line_feed) ≡ false → front_at line n d (c ∷ rest) ≡ front_at (line ++ c ∷ []) n d rest
  unfolding front_at
  at_byte c rest is = rw is refl

  ended : (rest : List ℕ) → finish n d ≡ Ok f.kit → f.line ≡ n + 1 → ends_at n d rest ≡ Ok (with_rest rest f)
  ended rest is at = rw is (ap (λ (m : ℕ). let r : Result Front KitFault = Ok (record { kit = f.kit; line = m; rest = rest }) in r) (sym at))

  go_split : same_bytes line go ≡ true → front_at line n d (line_feed ∷ bytes) ≡ Ok f → Split line n d (line_feed ∷ bytes) f
  unfolding lines_at
  go_split is e =
      let found = bind_is (finish n d) (λ kit. Ok (record { kit = kit; line = n + 1; rest = bytes })) f (sym (at_go bytes is) ∙ e) in
      let same : record { kit = found.0; line = n + 1; rest = bytes } ≡ f = ok_is (record { kit = found.0; line = n + 1; rest = bytes }) f found.2 in
      let kit : finish n d ≡ Ok f.kit = found.1 ∙ ap (λ (g : Front). let r : Result Kit KitFault = Ok g.kit in r) same in
      let at : f.line ≡ n + 1 = sym (ap (λ (g : Front). g.line) same) in
      let left : bytes ≡ f.rest = ap (λ (g : Front). g.rest) same in
      record {
        lines = [];
        text = ap (λ (l : List ℕ). l ++ line_feed ∷ bytes) (word_is line go is)
            ∙ ap (λ (b : List ℕ). go_line ++ b) left;
        feeds = refl;
        reads = kit;
        taken = line_feed ∷ [];
        bytes_are = ap (λ (b : List ℕ). line_feed ∷ b) left;
        again = λ rest. at_go rest is ∙ ended rest kit at;
      }

  other_split : has_byte line_feed line ≡ false → same_bytes line go ≡ false → (e : Draft) → take_line n d line ≡ Ok e
      → Split [] (n + 1) e bytes f → Split line n d (line_feed ∷ bytes) f
  other_split none is e takes s = record {
    lines = line ∷ s.lines;
    text = sym (append_assoc line (line_feed ∷ []) bytes) ∙ ap (λ (b : List ℕ). (line ++ line_feed ∷ []) ++ b) s.text
        ∙ sym (append_assoc (line ++ line_feed ∷ []) (lines_text s.lines) (go_line ++ f.rest));
    feeds = or_from (has_byte line_feed line) (list_any (has_byte line_feed) s.lines) none s.feeds;
    reads = lines_more n d e line s.lines takes ∙ s.reads;
    taken = line_feed ∷ s.taken;
    bytes_are = ap (λ (b : List ℕ). line_feed ∷ b) s.bytes_are;
    again = λ rest. at_other (s.taken ++ rest) is ∙ ap (λ (r : Result Draft KitFault). r >>= λ taken. front_at [] (n + 1) taken (s.taken ++ rest)) takes
        ∙ s.again rest;
  }

  byte_split : (c : ℕ) → (c == line_feed) ≡ false → Split (line ++ c ∷ []) n d bytes f → Split line n d (c ∷ bytes) f
  byte_split c is s = record {
    lines = s.lines;
    text = sym (append_assoc line (c ∷ []) bytes) ∙ s.text;
    feeds = s.feeds;
    reads = s.reads;
    taken = c ∷ s.taken;
    bytes_are = ap (λ (b : List ℕ). c ∷ b) s.bytes_are;
    again = λ rest. at_byte c (s.taken ++ rest) is ∙ s.again rest;
  }

no_more : (line : List ℕ) (c : ℕ) → has_byte line_feed line ≡ false → (c == line_feed) ≡ false → has_byte line_feed (line ++ c ∷ []) ≡ false
no_more line c none other =
    list_any-append (λ d. d == line_feed) line (c ∷ []) ∙ or_from (has_byte line_feed line) (has_byte line_feed (c ∷ [])) none
    (or_from (c == line_feed) false other refl)

nowhere : (line : List ℕ) (n : ℕ) (d : Draft) (f : Front) → front_at line n d [] ≡ Ok f → ⊥
unfolding front_at
nowhere line n d f e = cc

split : (bytes line : List ℕ) (n : ℕ) (d : Draft) (f : Front) → has_byte line_feed line ≡ false → front_at line n d bytes ≡ Ok f
    → Split line n d bytes f
split [] line n d f none e = absurd (nowhere line n d f e)
split (c ∷ bytes) line n d f none e = of (λ l m t h g. split bytes l m t f h g) (c == line_feed) refl
  where
    Again : Type 0
    Again = (l : List ℕ) (m : ℕ) (t : Draft) → has_byte line_feed l ≡ false → front_at l m t bytes ≡ Ok f → Split l m t bytes f

    by_line : Again → (b : Bool) → same_bytes line go ≡ b → front_at line n d (line_feed ∷ bytes) ≡ Ok f
        → Split line n d (line_feed ∷ bytes) f
    by_line again true is e = go_split line n d bytes f is e
    by_line again false is e =
        let took = bind_is (take_line n d line) (λ taken. front_at [] (n + 1) taken bytes) f (sym (at_other line n d bytes f bytes is) ∙ e) in
        other_split line n d bytes f none is took.0 took.1 (again [] (n + 1) took.0 refl took.2)

    of : Again → (b : Bool) → (c == line_feed) ≡ b → Split line n d (c ∷ bytes) f
    of again true is =
        let same : c ≡ line_feed = eqb-true c line_feed is in
        subst (λ (x : ℕ). Split line n d (x ∷ bytes) f) (sym same)
        (by_line again (same_bytes line go) refl (subst (λ (x : ℕ). front_at line n d (x ∷ bytes) ≡ Ok f) same e))
    of again false is = byte_split line n d bytes f c is
        (again (line ++ c ∷ []) n d (no_more line c none is) (sym (at_byte line n d bytes f c bytes is) ∙ e))

-- ---- a whole input

kit_read : (kit : Kit) (lines : List (List ℕ)) → list_any (has_byte line_feed) lines ≡ false → lines_at 1 nothing (lines ++ [] ∷ []) ≡ Ok kit
    → kit_of (lines_text lines) ≡ Ok kit
unfolding kit_of
kit_read kit lines none e = ap (lines_at 1 nothing) (parts_of_lines lines none) ∙ e

pub record Begun (input : List ℕ) (f : Front) : Type 0 where
  pub kit : IsKit f.kit
  pub spelled : input ≡ front_text f.kit ++ f.rest
  pub again : (rest : List ℕ) → front_of (front_text f.kit ++ rest) ≡ Ok (record f { rest = rest })

pub begun : (input : List ℕ) (f : Front) → front_of input ≡ Ok f → Begun input f
begun input f e =
    let s = split input [] 1 nothing f refl e in
    let read : kit_of (lines_text s.lines) ≡ Ok f.kit = kit_read f.kit s.lines s.feeds s.reads in
    let kit = read_is_spelled (lines_text s.lines) f.kit read in
    let whole : input ≡ front_text f.kit ++ f.rest = s.text ∙ ap (λ (t : List ℕ). t ++ (go_line ++ f.rest)) kit.0
    ∙ sym (append_assoc (kit_text f.kit) go_line f.rest) in
    let taken : s.taken ≡ front_text f.kit = append_cancel_right s.taken (front_text f.kit) f.rest (sym s.bytes_are ∙ whole) in
    record {
      kit = kit.1;
      spelled = whole;
      again = λ rest. ap (λ (t : List ℕ). front_of (t ++ rest)) (sym taken) ∙ s.again rest;
    }
