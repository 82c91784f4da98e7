use Rattle.std.specs.Prelude.{chars}
use Rattle.ob_parse.proofs.Exact.{found, given, syntax_of}
use Rattle.ob_parse.proofs.parse_cell.Goals as goal

pub returns-clause-found : goal.returns-clause-found
returns-clause-found c = found (chars c.args.text.now) c.computed.result c.computed.ensures

pub returns-clause-given : goal.returns-clause-given
returns-clause-given c = given (chars c.args.text.now) c.computed.result c.computed.ensures

pub returns-clause-syntax : goal.returns-clause-syntax
returns-clause-syntax c = syntax_of (chars c.args.text.now) c.computed.result c.computed.ensures
