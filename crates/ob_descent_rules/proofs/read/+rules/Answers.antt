use Rattle.std.proofs.Common.{arith}
use Rattle.ob_grammar.specs.Reading.{reads, reads_statement}
use Rattle.ob_descent_rules.specs.Inside.{inner, nested}
use Rattle.ob_descent_rules.specs.Views.{rule_of}
use Rattle.ob_descent_rules.proofs.Counts.{deeper}
use Rattle.ob_descent_rules.proofs.read.+rules.Goals as goal

pub read_expr-returns : goal.read_expr-returns
unfolding reads
read_expr-returns t c = rw (deeper (λ n. inner n (rule_of c.args.rule) c.args.tokens.now) c.args.depth (omega arith)) c.piece.ensures

pub read_statement-returns : goal.read_statement-returns
unfolding reads_statement
read_statement-returns t c = rw (deeper (λ n. nested n c.args.level c.args.tokens.now) c.args.depth (omega arith)) c.at_level.ensures
