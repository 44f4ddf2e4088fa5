-- The text of a schedule assembles to its bytes.
use Rattle.std.proofs.Common.{◌≡◌, inl, inr, ℕ, zero, suc, ◌+◌, ◌<◌, ◌≤◌, ◌==◌, Bool, true, false, List, [], ◌∷◌, ◌++◌, length, length-append, map, Option, Some, None, Result, Ok, Err, refl, sym, ap, subst, ◌∙◌, arith, append_assoc, append-nil}
use Rattle.std.specs.Prelude.{if◌then◌else◌, ◌&&◌, nat_le, codes}
use Rattle.std.specs.Fmt.{decimal}
use Rattle.std.specs.List.{AllByRecursion, flat_map, list_any}
use Rattle.std.specs.Option.{ok_or}
use Rattle.std.proofs.lemmas.Bool.{leb-true, and_parts}
use Rattle.std.proofs.lemmas.List.{map-append}
use Rattle.byte_defs.specs.Fields.{◌>>=◌}
use Rattle.byte_defs.proofs.Fields.{IsBytes}
use Rattle.text_defs.specs.Words.{parts_of, words_of, bytes_word}
use Rattle.text_defs.proofs.Lines.{has_byte, join_has_no, lines_text, parts_of_lines, words_of_join}
use Rattle.message_defs.specs.Limits.{most_members}
use Rattle.replay_defs.specs.declared.Fault.{Fault}
use Rattle.replay_defs.specs.declared.Scheme.{Scheme}
use Rattle.replay_defs.specs.Keys.{IsKey}
use Rattle.replay_defs.specs.Schedules.{Listed, ScheduleEvent, Header, Schedule, AreListed, is_correct, is_corrupt, IsEvent, IsHeader, IsSchedule, is_listed, most_processes, magic, version_of, scheme_byte, limit_bytes, listed_bytes, header_bytes, event_bytes, schedule_bytes}
use Rattle.replay_defs.specs.Reading.{schedule_of}
use Rattle.schedule_laws.proofs.Headers.{is_listed_below, is_correct_below, is_corrupt_below}
use Rattle.schedule_laws.proofs.Wholes.{schedule_again}
use Rattle.story_defs.specs.declared.Expected.{Expected}
use Rattle.story_defs.specs.declared.Expected.TheVariants as expected
use Rattle.story_defs.specs.declared.StoryFault.{StoryFault}
use Rattle.story_defs.specs.declared.Stage.{Stage}
use Rattle.story_defs.specs.declared.Stage.TheVariants.{Opening, Listing, Running}
use Rattle.story_defs.specs.declared.Place.TheVariants.{Between}
use Rattle.story_defs.specs.PlainLines.{plain_line, scan}
use Rattle.story_defs.specs.Words.{Words, next_at, scheme_word}
use Rattle.story_defs.specs.Lines.{front_bytes, genesis_at, group_at, listed_at, kind_of_word, event_by}
use Rattle.story_defs.specs.Stories.{Draft, Addition, Nothing, Group, Process, Genesis, Event, Taken, added, draft_bytes, fault_at_stop, genesis_by, judged, judgement, listed_by, no_lines, said_by, said_by_plain, said_by_word, story_of, take_lines, wanted}
use Rattle.story_defs.specs.Texts.{Token, Word, Bytes, number, plain, shown, token_line, group_tokens, limit_tokens, listed_tokens, genesis_tokens, numbers, event_tokens, role_word, key_tokens, schedule_lines, schedule_text}
use Rattle.story_laws.specs.Laws.{TextIsStory}
use Rattle.story_laws.proofs.Scans.{AreTokens, line_on, no_feeds, no_gaps, plain_words, shown_line, some_word}
use Rattle.story_laws.proofs.Again.{fits_behind, fits_front}
use Rattle.story_laws.proofs.EventsAgain.{event_again, event_are, kind_again, kind_of, tokens_are, tokens_behind, word_of}
use Rattle.story_laws.proofs.HeadersAgain.{genesis_again, genesis_are, group_again, group_are, listed_again, listed_are}

-- ---- a line

some_line : (t : Token) (ts : List Token) → AreTokens (t ∷ ts) → (length (plain_words (t ∷ ts)) == 0) ≡ false
some_line t [] are = some_word t are.0
some_line t (u ∷ ts) are = grind (arith, some_word t are.0, length-append (plain t) (32 ∷ plain_words (u ∷ ts)))

plain_said : (d : Draft) (t : Token) (ts : List Token) → AreTokens (t ∷ ts)
    → said_by_plain d (plain_words (t ∷ ts)) ≡ said_by_word d (plain t) (map plain ts) d.stage
unfolding said_by_plain
plain_said d t ts are = rw (some_line t ts are, words_of_join (plain t) (map plain ts) (no_gaps (t ∷ ts) are)) refl

said_line : (d : Draft) (t : Token) (ts : List Token) → AreTokens (t ∷ ts)
    → said_by d (shown_line (t ∷ ts)) ≡ said_by_word d (plain t) (map plain ts) d.stage
unfolding said_by
said_line d t ts are = ap (λ (r : Result (List ℕ) Expected). r >>= said_by_plain d) (line_on t ts are []) ∙ plain_said d t ts are

abbrev Said : Type 0
Said = Result Addition Expected

abbrev by_line : ℕ → Draft → List (List ℕ) → Said → Taken
by_line n d more r = elim r [ Ok a ↦ take_lines (n + 1) (added n d a) more | Err x ↦ record { draft = d; line = n; stop = Some x } ]

line_first : (n : ℕ) (d : Draft) (line : List ℕ) (more : List (List ℕ)) → take_lines n d (line ∷ more) ≡ by_line n d more (said_by d line)
unfolding take_lines
line_first n d line more = refl

-- all lines are taken, and stand for these bytes
record Whole (t : Taken) (bytes : List ℕ) : Type 0 where
  stop : t.stop ≡ None
  is : draft_bytes t.draft ≡ bytes

same_bytes_whole : (t : Taken) (b c : List ℕ) → b ≡ c → Whole t b → Whole t c
same_bytes_whole t b c e w = record { stop = w.stop; is = w.is ∙ e }

-- a line that is taken, and those behind it
one_more : (n : ℕ) (d : Draft) (line : List ℕ) (more : List (List ℕ)) (a : Addition) (bytes : List ℕ) → said_by d line ≡ Ok a
    → Whole (take_lines (n + 1) (added n d a) more) bytes → Whole (take_lines n d (line ∷ more)) bytes
one_more n d line more a bytes says w = subst (λ (t : Taken). Whole t bytes) (sym (line_first n d line more ∙ ap (by_line n d more) says)) w

none_more : (n : ℕ) (d : Draft) → Whole (take_lines n d []) (draft_bytes d)
unfolding take_lines
none_more n d = record { stop = refl; is = refl }

blank : (d : Draft) → said_by d [] ≡ Ok Nothing
unfolding said_by said_by_plain scan
blank d = refl

last_part : (n : ℕ) (d : Draft) → Whole (take_lines n d ([] ∷ [])) (draft_bytes d)
last_part n d = one_more n d [] [] Nothing (draft_bytes d) (blank d) (none_more (n + 1) d)

-- ---- events

regroup : (f b e rest : List ℕ) (c : ℕ) → (f ++ c ∷ (b ++ e)) ++ rest ≡ (f ++ c ∷ b) ++ (e ++ rest)
regroup f b e rest c =
    append_assoc f (c ∷ (b ++ e)) rest ∙ ap (λ t. f ++ c ∷ t) (append_assoc b e rest) ∙ sym (append_assoc f (c ∷ b) (e ++ rest))

abbrev event_line : ScheduleEvent → List ℕ
event_line e = shown_line (event_tokens e)

module _ (scheme : Scheme) (ls : List Listed) (listed : AreListed scheme 0 ls) where
  correct : (p : ℕ) → is_correct ls p ≡ true → p ≤ 63
  correct p e = is_correct_below scheme 0 ls p listed e

  corrupt : (p : ℕ) → is_corrupt ls p ≡ true → p ≤ 63
  corrupt p e = is_corrupt_below scheme 0 ls p listed e

  event_said : (d : Draft) (e : ScheduleEvent) → d.stage ≡ Running → IsEvent ls e → IsBytes (event_bytes e)
      → said_by d (event_line e) ≡ Ok (Event (kind_of e) (event_bytes e))
  event_said d e running fits bytes =
      let is = tokens_are e in
      ap (λ (ts : List Token). said_by d (shown_line ts)) is
      ∙ said_line d (Word (word_of e)) (tokens_behind e) (subst AreTokens is (event_are ls correct corrupt e fits))
      ∙ ap (said_by_word d (word_of e) (map plain (tokens_behind e))) running
      ∙ rw (kind_again e, event_again ls correct corrupt e fits bytes) refl

  events_whole : (es : List ScheduleEvent) (n : ℕ) (d : Draft) → d.stage ≡ Running → AllByRecursion (IsEvent ls) es
      → IsBytes (flat_map event_bytes es)
      → Whole (take_lines n d (map event_line es ++ [] ∷ [])) (draft_bytes d ++ flat_map event_bytes es)
  events_whole [] n d running fits bytes = same_bytes_whole _ (draft_bytes d) _ (sym (append-nil (draft_bytes d))) (last_part n d)
  events_whole (e ∷ es) n d running fits bytes =
      let a = Event (kind_of e) (event_bytes e) in
      one_more n d (event_line e) (map event_line es ++ [] ∷ []) a _
      (event_said d e running fits.0 (fits_front (event_bytes e) (flat_map event_bytes es) bytes))
      (same_bytes_whole _ _ _ (regroup d.front d.behind (event_bytes e) (flat_map event_bytes es) d.count)
      (events_whole es (n + 1) (added n d a) running fits.1 (fits_behind (event_bytes e) (flat_map event_bytes es) bytes)))

  -- ---- the first view

  below : (ms : List ℕ) → AllByRecursion (λ m. is_listed ls m ≡ true) ms → AllByRecursion (λ m. m ≤ 63) ms
  below [] all = tt
  below (m ∷ ms) all = (is_listed_below scheme 0 ls m listed all.0, below ms all.1)

  genesis_said : (d : Draft) (ms : List ℕ) → d.stage ≡ Listing → (d.count == 0) ≡ false → AllByRecursion (λ m. is_listed ls m ≡ true) ms
      → length ms ≤ 16
      → said_by d (shown_line (genesis_tokens ms)) ≡ Ok (Genesis (length ms ∷ ms))
  genesis_said d ms listing some all few =
      said_line d (Word (codes "genesis")) (numbers ms) (genesis_are ms (below ms all))
      ∙ ap (said_by_word d (codes "genesis") (map plain (numbers ms))) listing
      ∙ rw (some, genesis_again ms (below ms all) few) refl

  genesis_whole : (ms : List ℕ) (es : List ScheduleEvent) → AllByRecursion (λ m. is_listed ls m ≡ true) ms → length ms ≤ 16
      → AllByRecursion (IsEvent ls) es → IsBytes (flat_map event_bytes es)
      → (n : ℕ) (d : Draft) → d.stage ≡ Listing → (d.count == 0) ≡ false
      → Whole (take_lines n d (shown_line (genesis_tokens ms) ∷ (map event_line es ++ [] ∷ [])))
      (draft_bytes d ++ ((length ms ∷ ms) ++ flat_map event_bytes es))
  genesis_whole ms es all few fits bytes n d listing some =
      let a = Genesis (length ms ∷ ms) in
      one_more n d (shown_line (genesis_tokens ms)) (map event_line es ++ [] ∷ []) a _
      (genesis_said d ms listing some all few)
      (same_bytes_whole _ _ _ (regroup d.front d.behind (length ms ∷ ms) (flat_map event_bytes es) d.count)
      (events_whole es (n + 1) (added n d a) refl fits bytes))

-- ---- processes

abbrev listed_line : Listed → List ℕ
listed_line l = shown_line (listed_tokens l)

-- whatever stands for these bytes behind the processes
abbrev Behind : List (List ℕ) → List ℕ → Type 0
Behind rest bytes = (n : ℕ) (d : Draft) → d.stage ≡ Listing → (d.count == 0) ≡ false → Whole (take_lines n d rest) (draft_bytes d ++ bytes)

listed_said : (scheme : Scheme) (d : Draft) (l : Listed) → d.stage ≡ Listing → d.scheme ≡ scheme → d.count < 64 → l.process ≤ 63
    → IsKey scheme l.key → IsBytes (listed_bytes l) → said_by d (listed_line l) ≡ Ok (Process (listed_bytes l))
listed_said scheme d l listing same room low key bytes =
    let words : Words = decimal l.process ∷ role_word l.corrupt ∷ map plain (key_tokens l.process l.key) in
    let open_room : nat_le 64 d.count ≡ false = grind (arith, room) in
    said_line d (Word (codes "process")) (number l.process ∷ Word (role_word l.corrupt) ∷ key_tokens l.process l.key)
    (listed_are scheme l low key)
    ∙ ap (said_by_word d (codes "process") words) listing
    ∙ rw (open_room, same, listed_again scheme l low key bytes) refl

last_count : (f b rest : List ℕ) (c : ℕ) → (f ++ c ∷ b) ++ rest ≡ f ++ (c + 0) ∷ (b ++ rest)
last_count f b rest c = let zero_more : c ≡ c + 0 = omega arith in append_assoc f (c ∷ b) rest ∙ ap (λ k. f ++ k ∷ (b ++ rest)) zero_more

next_count : (f b l more rest : List ℕ) (c n : ℕ)
    → f ++ (c + 1 + n) ∷ ((b ++ l) ++ (more ++ rest)) ≡ f ++ (c + suc n) ∷ (b ++ ((l ++ more) ++ rest))
next_count f b l more rest c n =
    let sum : c + 1 + n ≡ c + suc n = omega arith in
    ap (λ k. f ++ k ∷ ((b ++ l) ++ (more ++ rest))) sum
    ∙ ap (λ t. f ++ (c + suc n) ∷ t) (append_assoc b l (more ++ rest) ∙ ap (λ t. b ++ t) (sym (append_assoc l more rest)))

listed_whole : (scheme : Scheme) (ls : List Listed) (rest : List (List ℕ)) (bytes : List ℕ) → Behind rest bytes → (least n : ℕ) (d : Draft)
    → AreListed scheme least ls → d.stage ≡ Listing → d.scheme ≡ scheme
    → 0 < d.count + length ls → d.count + length ls ≤ 64 → IsBytes (flat_map listed_bytes ls)
    → Whole (take_lines n d (map listed_line ls ++ rest))
    (d.front ++ (d.count + length ls) ∷ (d.behind ++ (flat_map listed_bytes ls ++ bytes)))
listed_whole scheme [] rest bytes behind least n d are listing same some few fits =
    same_bytes_whole _ _ _ (last_count d.front d.behind bytes d.count) (behind n d listing (grind (arith, some)))
listed_whole scheme (l ∷ ls) rest bytes behind least n d are listing same some few fits =
    let a = Process (listed_bytes l) in
    one_more n d (listed_line l) (map listed_line ls ++ rest) a _
    (listed_said scheme d l listing same (omega (arith, few)) are.1 are.2 (fits_front (listed_bytes l) (flat_map listed_bytes ls) fits))
    (same_bytes_whole _ _ _ (next_count d.front d.behind (listed_bytes l) (flat_map listed_bytes ls) bytes d.count (length ls))
    (listed_whole scheme ls rest bytes behind (l.process + 1) (n + 1) (added n d a) are.3 listing same (omega arith) (omega (arith, few))
    (fits_behind (listed_bytes l) (flat_map listed_bytes ls) fits)))

-- ---- the lines of a schedule

group_said : (h : Header) → IsHeader h → IsBytes h.group
    → said_by no_lines (shown_line (group_tokens h)) ≡ Ok (Group h.scheme (front_bytes h.scheme h.batch_limit h.group))
group_said h fits bytes =
    said_line no_lines (Word (codes "group")) (Bytes h.group ∷ Word (scheme_word h.scheme) ∷ limit_tokens h.batch_limit) (group_are h fits)
    ∙ rw (group_again h.scheme h.batch_limit h.group fits.limit fits.group bytes) refl

all_bytes : (m l g ps genesis es : List ℕ) (s c : ℕ)
    → (m ++ (s ∷ (l ++ g))) ++ c ∷ (ps ++ (genesis ++ es)) ≡ (m ++ (s ∷ (l ++ (g ++ (c ∷ (ps ++ genesis)))))) ++ es
all_bytes m l g ps genesis es s c =
    let rest : List ℕ = c ∷ (ps ++ (genesis ++ es)) in
    let tail : List ℕ = g ++ (c ∷ (ps ++ genesis)) in
    append_assoc m (s ∷ (l ++ g)) rest ∙ ap (λ t. m ++ (s ∷ t)) (append_assoc l g rest)
    ∙ sym (append_assoc m (s ∷ (l ++ tail)) es ∙ ap (λ t. m ++ (s ∷ t))
    (append_assoc l tail es ∙ ap (λ t. l ++ t)
    (append_assoc g (c ∷ (ps ++ genesis)) es ∙ ap (λ t. g ++ (c ∷ t)) (append_assoc ps genesis es))))

-- the lines behind those of the processes, and all
abbrev rest_lines : Schedule → List (List ℕ)
rest_lines s = shown_line (genesis_tokens s.header.genesis) ∷ (map event_line s.events ++ [] ∷ [])

abbrev all_lines : Schedule → List (List ℕ)
all_lines s = shown_line (group_tokens s.header) ∷ (map listed_line s.header.processes ++ rest_lines s)

module _ (s : Schedule) (fits : IsSchedule s) (bytes : IsBytes (schedule_bytes s)) where
  abbrev h : Header
  h = s.header

  abbrev genesis_bytes : List ℕ
  genesis_bytes = length h.genesis ∷ h.genesis

  abbrev rest_bytes : List ℕ
  rest_bytes = genesis_bytes ++ flat_map event_bytes s.events

  head_fits : IsBytes (header_bytes h)
  head_fits = fits_front (header_bytes h) (flat_map event_bytes s.events) bytes

  abbrev behind_group : List ℕ
  behind_group = length h.processes ∷ (flat_map listed_bytes h.processes ++ genesis_bytes)

  abbrev behind_scheme : List ℕ
  behind_scheme = limit_bytes h.batch_limit ++ (h.group ++ behind_group)

  scheme_fits : IsBytes (scheme_byte h.scheme ∷ behind_scheme)
  scheme_fits = fits_behind (magic (version_of h.scheme h.batch_limit)) (scheme_byte h.scheme ∷ behind_scheme) head_fits

  behind_limit : IsBytes (h.group ++ behind_group)
  behind_limit = fits_behind (limit_bytes h.batch_limit) (h.group ++ behind_group) (λ i. scheme_fits (suc i))

  group_fits : IsBytes h.group
  group_fits = fits_front h.group behind_group behind_limit

  counted_fits : IsBytes behind_group
  counted_fits = fits_behind h.group behind_group behind_limit

  listed_fits : IsBytes (flat_map listed_bytes h.processes)
  listed_fits = fits_front (flat_map listed_bytes h.processes) genesis_bytes (λ i. counted_fits (suc i))

  events_fit : IsBytes (flat_map event_bytes s.events)
  events_fit = fits_behind (header_bytes h) (flat_map event_bytes s.events) bytes

  counted : (1 ≤ length h.processes) × (length h.processes ≤ 64)
  counted = let both = and_parts (nat_le 1 (length h.processes))
      (nat_le (length h.processes) 64) fits.header.some in (leb-true 1 (length h.processes) both.0, leb-true (length h.processes) 64 both.1)

  few_members : length h.genesis ≤ 16
  few_members = leb-true (length h.genesis) 16
      (and_parts (nat_le 1 (length h.genesis)) (nat_le (length h.genesis) 16) fits.header.members).1

  lines_whole : Whole (take_lines 1 no_lines (all_lines s)) (schedule_bytes s)
  lines_whole =
      let front : List ℕ = front_bytes h.scheme h.batch_limit h.group in
      let a = Group h.scheme front in
      let none_before : 0 + length h.processes ≡ length h.processes = omega arith in
      one_more 1 no_lines (shown_line (group_tokens h)) (map listed_line h.processes ++ rest_lines s) a (schedule_bytes s)
      (group_said h fits.header group_fits)
      (same_bytes_whole _ _ _ (ap (λ n. front ++ n ∷ (flat_map listed_bytes h.processes ++ rest_bytes)) none_before
      ∙ all_bytes (magic (version_of h.scheme h.batch_limit))
      (limit_bytes h.batch_limit) h.group (flat_map listed_bytes h.processes) genesis_bytes (flat_map event_bytes s.events)
      (scheme_byte h.scheme) (length h.processes))
      (listed_whole h.scheme h.processes (rest_lines s) rest_bytes
      (genesis_whole h.scheme h.processes fits.header.processes h.genesis s.events fits.header.listed few_members fits.events events_fit)
      0 2 (added 1 no_lines a) fits.header.processes refl refl (omega (arith, counted.0)) (omega (arith, counted.1)) listed_fits))

-- ---- the text

lines_are : (lines : List (List Token)) → AllByRecursion AreTokens lines → list_any (has_byte 10) (map shown_line lines) ≡ false
lines_are [] are = refl
lines_are (ts ∷ lines) are = rw (join_has_no 10 (map shown ts) refl (no_feeds ts are.0), lines_are lines are.1) refl

text_is : (lines : List (List Token)) → flat_map token_line lines ≡ lines_text (map shown_line lines)
text_is [] = refl
text_is (ts ∷ lines) = ap (λ (t : List ℕ). (shown_line ts ++ 10 ∷ []) ++ t) (text_is lines)

all_joined : (xs ys : List (List Token)) → AllByRecursion AreTokens xs → AllByRecursion AreTokens ys → AllByRecursion AreTokens (xs ++ ys)
all_joined [] ys are more = more
all_joined (x ∷ xs) ys are more = (are.0, all_joined xs ys are.1 more)

all_listed : (scheme : Scheme) (least : ℕ) (ls : List Listed) → AreListed scheme least ls → AllByRecursion AreTokens (map listed_tokens ls)
all_listed scheme least [] are = tt
all_listed scheme least (l ∷ ls) are = (listed_are scheme l are.1 are.2, all_listed scheme (l.process + 1) ls are.3)

all_events : (scheme : Scheme) (ls : List Listed) (listed : AreListed scheme 0 ls) (es : List ScheduleEvent)
    → AllByRecursion (IsEvent ls) es → AllByRecursion AreTokens (map event_tokens es)
all_events scheme ls listed [] fits = tt
all_events scheme ls listed (e ∷ es) fits = (
  event_are ls (correct scheme ls listed) (corrupt scheme ls listed) e fits.0,
  all_events scheme ls listed es fits.1,
)

map_twice : (f : ScheduleEvent → List Token) (es : List ScheduleEvent) → map shown_line (map f es) ≡ map (λ e. shown_line (f e)) es
map_twice f [] = refl
map_twice f (e ∷ es) = ap (λ (ls : List (List ℕ)). shown_line (f e) ∷ ls) (map_twice f es)

listed_twice : (ls : List Listed) → map shown_line (map listed_tokens ls) ≡ map listed_line ls
listed_twice [] = refl
listed_twice (l ∷ ls) = ap (λ (lines : List (List ℕ)). listed_line l ∷ lines) (listed_twice ls)

lines_joined : (s : Schedule) → map shown_line (schedule_lines s) ++ [] ∷ [] ≡ all_lines s
lines_joined s =
    let first : List ℕ = shown_line (group_tokens s.header) in
    let genesis : List ℕ = shown_line (genesis_tokens s.header.genesis) in
    let listed : List (List Token) = map listed_tokens s.header.processes in
    let events : List (List Token) = map event_tokens s.events in
    let more : List (List ℕ) → List (List ℕ) = λ lines. first ∷ lines in
    ap (λ (lines : List (List ℕ)). more (lines ++ [] ∷ [])) (map-append shown_line listed (genesis_tokens s.header.genesis ∷ events))
    ∙ ap more (append_assoc (map shown_line listed) (genesis ∷ map shown_line events) ([] ∷ []))
    ∙ ap (λ (lines : List (List ℕ)). more (lines ++ (genesis ∷ (map shown_line events ++ [] ∷ [])))) (listed_twice s.header.processes)
    ∙ ap (λ (lines : List (List ℕ)). more (map listed_line s.header.processes ++ (genesis ∷ (lines ++ [] ∷ []))))
    (map_twice event_tokens s.events)

all_are : (s : Schedule) → IsSchedule s → AllByRecursion AreTokens (schedule_lines s)
all_are s fits =
    let listed = fits.header.processes in
    let scheme = s.header.scheme in
    let ls = s.header.processes in (
      group_are s.header fits.header,
      all_joined (map listed_tokens ls) (genesis_tokens s.header.genesis ∷ map event_tokens s.events) (all_listed scheme 0 ls listed) (
        genesis_are s.header.genesis (below scheme ls listed s.header.genesis fits.header.listed),
        all_events scheme ls listed s.events fits.events,
      ),
    )

parts_are : (s : Schedule) → IsSchedule s → parts_of (schedule_text s) ≡ all_lines s
unfolding schedule_text
parts_are s fits =
    ap parts_of (text_is (schedule_lines s)) ∙ parts_of_lines (map shown_line (schedule_lines s))
    (lines_are (schedule_lines s) (all_are s fits)) ∙ lines_joined s

-- ---- the whole

abbrev Answer : Type 0
Answer = Result (List ℕ) StoryFault

abbrev made : List ℕ → Answer
made bytes = Ok bytes

judged_whole : (t : Taken) (s : Schedule) → Whole t (schedule_bytes s) → schedule_of (schedule_bytes s) ≡ Ok s
    → judgement t ≡ Ok (schedule_bytes s)
judged_whole t s w read =
    ap (judged t) (ap schedule_of w.is ∙ read)
    ∙ ap (λ (o : Option Expected). elim o [ None ↦ made (draft_bytes t.draft) | Some x ↦ Err (fault_at_stop t) ]) w.stop
    ∙ ap made w.is

pub text_is_story : TextIsStory
unfolding story_of
text_is_story s fits bytes =
    ap (λ (parts : List (List ℕ)). judgement (take_lines 1 no_lines parts)) (parts_are s fits)
    ∙ judged_whole (take_lines 1 no_lines (all_lines s)) s (lines_whole s fits bytes) (schedule_again s fits)
