use Rattle.std.proofs.Common.{◌∙◌, sym, bytes_eq}
use Rattle.std.specs.Prelude.{string_bytes}
use Rattle.ob_session.proofs.Through.{any-map}
use Rattle.ob_session.proofs.known.is_name.Goals as goal

pub returns : goal.returns
returns c = c.contains.ensures ∙ sym (any-map string_bytes (bytes_eq c.args.name.now) c.args.names.now.keys)
