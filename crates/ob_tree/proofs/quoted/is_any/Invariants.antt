use Rattle.std.proofs.Common.{◌≡◌, drop}
use Rattle.std.specs.Prelude.{is_some}
use Rattle.ob_base.specs.Reserved.{find_word}
use Rattle.ob_tree.proofs.quoted.is_any.Given as goal

abbrev pub invariant-loop-word : goal.invariant-loop-word
invariant-loop-word l = is_some (find_word l.list l.units) ≡ is_some (find_word (drop l.word-index l.list) l.units)
