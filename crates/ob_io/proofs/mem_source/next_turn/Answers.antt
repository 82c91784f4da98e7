use Rattle.std.proofs.Common.{sym}
use Rattle.std.proofs.lemmas.List.{drop-drop}
use Rattle.ob_io.proofs.mem_source.next_turn.Goals as goal

pub returns-then-turn-sizes-clause-rest : goal.returns-then-turn-sizes-clause-rest
returns-then-turn-sizes-clause-rest c = sym (drop-drop 1 c.args.turn c.args.sizes.now)
