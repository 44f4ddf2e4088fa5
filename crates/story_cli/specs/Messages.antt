-- What is reported where a run stops: the status, and the line on standard error.
use Rattle.std.specs.Prelude.{ℕ, List, [], ◌++◌, codes}
use Rattle.std.specs.Fmt.{decimal}
use Rattle.replay_defs.specs.Reports.{schedule_word}
use Rattle.story_defs.specs.declared.Expected.{Expected}
use Rattle.story_defs.specs.declared.Expected.TheVariants as expected
use Rattle.story_cli.specs.declared.stops.Stop.{Stop}
use Rattle.story_cli.specs.declared.stops.Stop.TheVariants.{NoMemory, Read, Write, Story, Schedule}

-- what was expected, in words
abbrev pub expected_words : Expected → List ℕ
expected_words expected.Quote = codes "a quote that ends the text, and no control characters in it"
expected_words expected.Escape = codes "a quote or a backslash after the backslash"
expected_words expected.Group = codes "group NAME SCHEME, or group NAME SCHEME batch LIMIT: NAME of 16 bytes, SCHEME plain, lms or hss, LIMIT 2 to 16"
expected_words expected.Process = codes "process P ROLE KEY: P above the process before and at most 63, ROLE correct or corrupt, KEY of the group's scheme: plain TOTAL, plain KEY TOTAL, lms H W ID SEED or hss L H W ID SEED"
expected_words expected.Genesis = codes "process P ROLE KEY, for at most 64 processes, or genesis P ..: 1 to 16 different processes of those above"
expected_words expected.Event = codes "an event: submit, raw, pass, drain, lie, suspect, join, renew or tick"
expected_words expected.Submit = codes "submit P PAYLOAD: P a correct process, PAYLOAD at most 65535 bytes, quoted or in hexadecimal"
expected_words expected.Raw = codes "raw P from Q BYTES: P a correct process, Q at most 63, BYTES at most 61440, quoted or in hexadecimal"
expected_words expected.Pass = codes "pass FRAME to P: FRAME a number below 2^32, P a correct process"
expected_words expected.Drain = codes "drain COUNT to MASK: COUNT a number below 2^32, MASK all, nobody or processes"
expected_words expected.Lie = codes "lie P to MASK: STATEMENT: P a corrupt process, MASK all, nobody or processes, STATEMENT in words or its bytes"
expected_words expected.Suspect = codes "suspect P of Q: P a correct process, Q at most 63"
expected_words expected.Join = codes "join P of Q: P a correct process, Q at most 63"
expected_words expected.Renew = codes "renew P: P a correct process"
expected_words expected.Tick = codes "tick P: P a correct process"
expected_words expected.Steps = codes "at most 1000000 steps: as many as each drain counts, and one for each other event"
expected_words expected.Size = codes "at most 67108864 bytes of a schedule"

abbrev pub status_of : Stop → ℕ
status_of NoMemory = 1
status_of Read = 3
status_of Write = 4
status_of (Story fault) = 5
status_of (Schedule fault) = 7

-- the line that says why, empty where none is written
abbrev pub line_of : Stop → List ℕ
line_of NoMemory = []
line_of Read = codes "stop 3 read\n"
line_of Write = []
line_of (Story fault) = codes "line " ++ (decimal fault.line ++ (codes ": expected " ++ (expected_words fault.expected ++ codes "\n")))
line_of (Schedule fault) = codes "stop 7 " ++ (schedule_word fault.kind ++ (codes " " ++ (decimal fault.place ++ codes "\n")))
