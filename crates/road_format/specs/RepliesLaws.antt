-- Laws of every reply.
use Rattle.std.specs.Prelude.{◌≡◌, [], ◌∷◌}
use Rattle.serde_json.specs.Written.{compact_text}
use Rattle.road_format.specs.Cut.{pieces_of}
use Rattle.road_format.specs.Replies.{Answer, data_of, reply}

-- a reply is one line: it ends with a newline, and contains no other
abbrev pub RepliesAreLines : Type 0
RepliesAreLines = (answer : Answer) → pieces_of (reply answer) ≡ (compact_text (data_of answer) ∷ [], [])
