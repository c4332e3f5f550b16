-- A line is read as one JSON value (RFC 8259), as the contract of serde_json's `Value::from_slice` reads it.
use Rattle.std.specs.Prelude.{ℕ, List, Option, None, if◌then◌else◌}
use Rattle.std.specs.Str.{is_utf8}
use Rattle.serde_json.specs.Data.{Data}
use Rattle.serde_json.specs.Read.{read}

-- the value of a line, and None if it is not UTF-8 or not JSON
unfoldable pub value_of : List ℕ → Option Data
value_of line = if is_utf8 line then read line else None
