use Rattle.std.proofs.Common.{◌≡◌, ◌≤◌, drop, max}
use Rattle.ob_grammar.specs.Limits.{most_open}
use Rattle.ob_descent.proofs.parse.most_open.Given as goal

abbrev pub invariant-loop-token : goal.invariant-loop-token
invariant-loop-token l = record {
  value : max l.most (most_open l.opened (drop l.token-index l.tokens)) ≡ most_open 0 l.tokens;
  within : l.opened ≤ l.most;
  below : l.opened ≤ l.token-index;
}
