use Rattle.std.proofs.Common.{◌≡◌, drop}
use Rattle.ob_base.specs.Reserved.{find_word}
use Rattle.ob_base.proofs.reserved.find_word.Given as goal

abbrev pub invariant-loop-word : goal.invariant-loop-word
invariant-loop-word l = find_word l.list l.name ≡ find_word (drop l.word-index l.list) l.name
