-- The text of which a kit is read is the kit's spelling.
use Rattle.std.proofs.Common.{◌≡◌, ℕ, ◌+◌, ◌==◌, ◌||◌, not, Bool, true, false, List, [], ◌∷◌, ◌++◌, length, map, drop, Ok, Err, is_some, refl, sym, ap, subst, ◌∙◌, arith, append-nil, append_assoc}
use Rattle.std.specs.List.{join_with_byte}
use Rattle.std.specs.Prelude.{if◌then◌else◌}
use Rattle.std.proofs.lemmas.Bool.{eqb-true, or_parts}
use Rattle.std.proofs.lemmas.List.Concat.{flat_map-append}
use Rattle.byte_defs.proofs.Fields.{bind_ok, ok_is, refuse_ok}
use Rattle.signature_defs.specs.Schemes.{Scheme}
use Rattle.text_defs.specs.Words.{space, line_feed, line_text, parts_of, words_of}
use Rattle.kit_defs.specs.Kits.{Host, IsKit, Kit, KitLine, kit_text, line_words, roster_of, text_of_lines}
use Rattle.kit_defs.specs.KitReading.{Draft, KitFault, Missing, finish, has_genesis, kit_by, kit_of, lacks_port, lines_at, next_pair, next_port, take_line}
use Rattle.kit_defs.specs.KitLaws.{ReadIsSpelled}
use Rattle.text_defs.proofs.Lines.{join_words_of, lines_of_parts, lines_text}
use Rattle.kit_defs.proofs.EarlySteps.{keyed_step, schemed_step, start_step, versioned_step}
use Rattle.kit_defs.proofs.Fronts.{first_none, front_whole, none_is}
use Rattle.kit_defs.proofs.Hosts.{hosts_whole}
use Rattle.kit_defs.proofs.ListedSteps.{listed_step}
use Rattle.kit_defs.proofs.Stages.{IsListed, IsStage, Stage, Start, Versioned, Schemed, Keyed, Listed, draft_of, stage_lines}
use Rattle.kit_defs.proofs.Taken.{IsTaken, Next, taken_of}

step : (s : Stage) → IsStage s → (n : ℕ) (said : KitLine) (e : Draft) → IsTaken n (draft_of s) said e → Next s said e
step Start h n said e t = start_step n said e t
step (Versioned version) h n said e t = versioned_step version n said e t
step (Schemed scheme) h n said e t = schemed_step scheme n said e t
step (Keyed scheme group keys) h n said e t = keyed_step scheme group keys n said e h t
step (Listed scheme group keys first others ports hosts) h n said e t = listed_step scheme group keys first others ports hosts n said e h t

-- ---- the end

-- a kit in its ranges, whose spelling is that of these lines
record IsSpelled (lines : List KitLine) (kit : Kit) : Type 0 where
  text : kit_text kit ≡ text_of_lines lines
  holds : IsKit kit

finish_listed : (scheme : Scheme) (group : List ℕ) (keys : List (ℕ × List ℕ)) (first : ℕ) (others : List ℕ) (ports : List (ℕ × ℕ))
    (hosts : List Host) (n : ℕ) (kit : Kit)
    → IsListed scheme group keys (first ∷ others) ports hosts
    → finish n (draft_of (Listed scheme group keys first others ports hosts)) ≡ Ok kit
    → IsSpelled (stage_lines (Listed scheme group keys first others ports hosts)) kit
unfolding finish
finish_listed scheme group keys first others ports hosts n kit h e =
    let d : Draft = draft_of (Listed scheme group keys first others ports hosts) in
    let stand = refuse_ok (lacks_port d || is_some (next_pair d)) (Missing n) _ kit e in
    let both = or_parts (lacks_port d) (is_some (next_pair d)) stand.0 in
    let lacks = or_parts (not (has_genesis d)) (is_some (next_port d)) both.0 in
    let same : kit_by d scheme group ≡ kit = ok_is _ kit stand.1 in
    subst (IsSpelled (stage_lines (Listed scheme group keys first others ports hosts))) same (record {
      text = refl;
      holds = record {
        group = h.group_is;
        keys = h.keys_are;
        some = omega arith;
        most = h.most;
        listed = h.listed;
        distinct = h.distinct;
        ported = front_whole (map (λ p. p.0) ports) (roster_of keys)
            (drop (length ports) (roster_of keys)) h.front (first_none _ (none_is _ lacks.1));
        ports = h.ports_are;
        hosts = hosts_whole scheme keys 0 hosts h.hosts_are both.1;
      };
    })

finished : (s : Stage) (n : ℕ) (kit : Kit) → IsStage s → finish n (draft_of s) ≡ Ok kit → IsSpelled (stage_lines s) kit
unfolding finish
finished (Listed scheme group keys first others ports hosts) n kit h e = finish_listed scheme group keys first others ports hosts n kit h e
finished _ n kit h e = absurd cc

-- ---- the lines

-- the kit is spelled by the lines that stand and by these parts, of which the last is empty
record IsRead (stand : List KitLine) (parts : List (List ℕ)) (kit : Kit) : Type 0 where
  lines : List (List ℕ)
  parts_are : parts ≡ lines ++ [] ∷ []
  text : kit_text kit ≡ text_of_lines stand ++ lines_text lines
  holds : IsKit kit

no_more : (xs : List ℕ) → length xs ≡ 0 → xs ≡ []
no_more [] e = refl
no_more (x ∷ xs) e = absurd (omega arith)

last_part : (s : Stage) (n : ℕ) (rest : List ℕ) (kit : Kit) → IsStage s → (empty : Bool) → (length rest == 0) ≡ empty
    → (if empty then finish n (draft_of s) else Err (KitFault.Line n)) ≡ Ok kit → IsRead (stage_lines s) (rest ∷ []) kit
last_part s n rest kit h true empty e =
    let end = finished s n kit h e in
    record {
      lines = [];
      parts_are = ap (λ r. r ∷ []) (no_more rest (eqb-true (length rest) 0 empty));
      text = end.text ∙ sym (append-nil (text_of_lines (stage_lines s)));
      holds = end.holds;
    }
last_part s n rest kit h false empty e = absurd cc

-- the spelling of one more line
spelled_more : (stand : List KitLine) (said : KitLine) (line : List ℕ) → words_of line ≡ line_words said
    → text_of_lines (stand ++ said ∷ []) ≡ text_of_lines stand ++ (line ++ line_feed ∷ [])
spelled_more stand said line words =
    let one : line_text (line_words said) ≡ line
    ++ line_feed ∷ [] = ap (λ l. l ++ line_feed ∷ []) (ap (join_with_byte space) (sym words) ∙ join_words_of line) in
    flat_map-append (λ l. line_text (line_words l)) stand (said ∷ []) ∙ ap (λ t. text_of_lines stand ++ t)
    (append-nil (line_text (line_words said)) ∙ one)

one_more : (stand now : List KitLine) (said : KitLine) (line : List ℕ) (parts : List (List ℕ)) (kit : Kit) → now ≡ stand ++ said ∷ []
    → words_of line ≡ line_words said → IsRead now parts kit → IsRead stand (line ∷ parts) kit
one_more stand now said line parts kit pushed words read = record {
  lines = line ∷ read.lines;
  parts_are = ap (λ ps. line ∷ ps) read.parts_are;
  text = read.text ∙ ap (λ t. t ++ lines_text read.lines)
      (ap text_of_lines pushed ∙ spelled_more stand said line words) ∙ append_assoc (text_of_lines stand) (line ++ line_feed ∷ [])
      (lines_text read.lines);
  holds = read.holds;
}

lines_read : (parts : List (List ℕ)) (s : Stage) (n : ℕ) (kit : Kit) → IsStage s → lines_at n (draft_of s) parts ≡ Ok kit
    → IsRead (stage_lines s) parts kit
unfolding lines_at
lines_read [] s n kit h e = absurd cc
lines_read (rest ∷ []) s n kit h e = last_part s n rest kit h (length rest == 0) refl e
lines_read (line ∷ next ∷ more) s n kit h e =
    let first = bind_ok (take_line n (draft_of s) line) (λ d. lines_at (n + 1) d (next ∷ more)) kit e in
    let taken = taken_of n (draft_of s) line first.0 first.1 in
    let to = step s h n taken.0 first.0 taken.2 in
    one_more (stage_lines s) (stage_lines to.stage) taken.0 line (next ∷ more) kit to.lines taken.1
    (lines_read (next ∷ more) to.stage (n + 1) kit to.holds (subst (λ d. lines_at (n + 1) d (next ∷ more) ≡ Ok kit) (sym to.draft) first.2))

pub read_is_spelled : ReadIsSpelled
unfolding kit_of
read_is_spelled bytes kit e =
    let read = lines_read (parts_of bytes) Start 1 kit tt e in
    (lines_of_parts read.lines bytes read.parts_are ∙ sym read.text, read.holds)
