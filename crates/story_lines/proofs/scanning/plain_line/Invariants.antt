use Rattle.std.proofs.Common.{◌≡◌, drop}
use Rattle.story_defs.specs.PlainLines.{scan, plain_line}
use Rattle.story_lines.proofs.scanning.plain_line.Given as goal

abbrev pub invariant-bytes : goal.invariant-bytes
invariant-bytes l = scan l.out.items l.place (drop l.c-index l.line) ≡ plain_line l.line
