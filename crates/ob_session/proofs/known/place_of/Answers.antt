use Rattle.std.proofs.Common.{◌∙◌, sym, bytes_eq}
use Rattle.std.specs.Prelude.{string_bytes}
use Rattle.ob_session.proofs.Through.{position-map}
use Rattle.ob_session.proofs.known.place_of.Goals as goal

pub returns-clause-value : goal.returns-clause-value
returns-clause-value c = c.get_index_of.ensures.index ∙ sym (position-map string_bytes (bytes_eq c.args.name.now) c.args.names.now.keys)
