-- A content of the code, as plain data.
use Rattle.store_defs.specs.Votes as votes
use Rattle.vote_client.specs.declared.content.Content.{Content}

abbrev pub content : Content → votes.Content
content c = record { place = c.place; position = c.position; answer = c.answer.now }
