-- The value's text and a newline are the reply.
use Rattle.std.proofs.Common.{string_bytes}
use Rattle.serde_json.specs.View.{view}
use Rattle.road_format.specs.Views.{answer_view}
use Rattle.road_format.proofs.ReplyValues.{reply_is}
use Rattle.road_format.proofs.reply.reply_line.Goals as goal

pub returns : goal.returns
unfolding lib.Utf8.encode
returns c =
    reply_is (view c.in_ok-answer_value.field-0) (answer_view c.args.answer.now) (string_bytes c.in_ok-line.line) _
    c.in_ok-line.ensures.text c.in_ok-answer_value.ensures c.in_ok-push.ensures.bytes
