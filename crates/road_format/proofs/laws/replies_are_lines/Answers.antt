-- Every reply is one line with its newline.
use Rattle.road_format.proofs.ReplyTexts.{replies_are_lines}
use Rattle.road_format.proofs.laws.replies_are_lines.Goals as goal

pub returns : goal.returns
returns c = replies_are_lines
