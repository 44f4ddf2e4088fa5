use Rattle.story_laws.proofs.Wholes.{text_is_story}
use Rattle.story_laws.proofs.text_is_story.Goals as goal

pub returns : goal.returns
returns c = text_is_story
