-- Lines that were taken, as plain data.
use Rattle.story_defs.specs.Stories as plain
use Rattle.story_reading.specs.declared.drafts.Addition.{Addition}
use Rattle.story_reading.specs.declared.drafts.Addition.TheVariants.{Nothing, Group, Process, Genesis, Event}
use Rattle.story_reading.specs.declared.drafts.Draft.{Draft}
use Rattle.story_reading.specs.declared.assembling.Taken.{Taken}

abbrev pub addition : Addition → plain.Addition
addition Nothing = plain.Nothing
addition (Group scheme bytes) = plain.Group scheme bytes.items
addition (Process bytes) = plain.Process bytes.items
addition (Genesis bytes) = plain.Genesis bytes.items
addition (Event kind bytes) = plain.Event kind bytes.items

abbrev pub draft : Draft → plain.Draft
draft d = record {
  stage = d.stage;
  scheme = d.scheme;
  front = d.front.items;
  count = d.count;
  behind = d.behind.items;
  marks = d.marks.items;
}

abbrev pub taken : Taken → plain.Taken
taken t = record { draft = draft t.draft; line = t.line; stop = t.stop }
