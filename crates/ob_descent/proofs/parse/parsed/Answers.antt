use Rattle.std.proofs.Common.{◌≡◌, None, ap, sym, ◌∙◌, rules, arith}
use Rattle.std.proofs.lemmas.Grind.{common_steps}
use Rattle.ob_grammar.specs.ReadingCells.{depth_limit, cell_of}
use Rattle.ob_descent.proofs.WithinLimits.{no_cell, a_cell}
use Rattle.ob_descent.proofs.parse.parsed.Goals as goal

pub returns-in_err-tree : goal.returns-in_err-tree
returns-in_err-tree c =
    let none = λ (h : cell_of depth_limit 701 c.new-cursor.result ≡ None).
    no_cell c.args.tokens.now (omega arith) (ap (cell_of depth_limit 701) (sym c.new-cursor.ensures) ∙ h) in
    first_of (search (rules, none), grind (arith, common_steps, none))

pub returns : goal.returns
returns c =
    a_cell c.args.tokens.now c.in_ok-tree.tree _ (omega arith) (ap (cell_of depth_limit 701) (sym c.new-cursor.ensures) ∙ c.in_ok-tree.ensures) c.readable.ensures
