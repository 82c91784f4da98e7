use Rattle.std.proofs.Common.{length}
use Rattle.ob_lex.proofs.scan.+strip.Given as goal

abbrev pub decreases-strip : goal.decreases-strip
decreases-strip l = length l.word.now
