-- What a line is as JSON (RFC 8259, as `serde_json` defines it).
use Rattle.std.specs.Prelude.{ℕ, List, Option, None, if◌then◌else◌}
use Rattle.std.specs.Str.{is_utf8}
use Rattle.serde_json.specs.Data.{Data}
use Rattle.serde_json.specs.Read.{read}

-- bytes that are no UTF-8 have no reading
unfoldable pub json_of : List ℕ → Option Data
json_of line = if is_utf8 line then read line else None
