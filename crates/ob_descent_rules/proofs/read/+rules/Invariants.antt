use Rattle.ob_descent_rules.proofs.read.+rules.Given as goal

abbrev pub decreases-read_expr : goal.decreases-read_expr
decreases-read_expr l = l.depth

abbrev pub decreases-read_statement : goal.decreases-read_statement
decreases-read_statement l = l.depth
