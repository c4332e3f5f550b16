-- The parser's value is that of the line. If the parser refuses the line for a reason other than memory, the line has
-- no value.
use Rattle.std.proofs.Common.{sym}
use Rattle.road_format.proofs.LineValues.{value_of-read, value_of-unread}
use Rattle.road_format.proofs.reading.value_in.Goals as goal

pub returns-in-Ok-clause-value : goal.returns-in-Ok-clause-value
returns-in-Ok-clause-value c = sym (value_of-read c.args.line.now _ c.in-Ok.ensures.ok.0 c.in-Ok.ensures.ok.1)

pub returns-in-Err-2-clause-value : goal.returns-in-Err-2-clause-value
returns-in-Err-2-clause-value c = sym (value_of-unread c.args.line.now (c.in-Err.ensures.err (λ m. let t = c.if-is_memory.ensures.1 m in cc)))
