-- Rows of the code, as those of the definitions.
use Rattle.picture_defs.specs.Pictures as pictures
use Rattle.happenings.specs.Reported.{happening}
use Rattle.story_picture.specs.declared.rows.Row.{Row}

abbrev pub row : Row → pictures.Row
row r = (r.event, happening r.what)
