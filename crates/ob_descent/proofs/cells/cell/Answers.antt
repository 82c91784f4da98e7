use Rattle.std.proofs.Common.{◌≡◌, ◌∷◌, subst, sym, ◌∙◌, rules}
use Rattle.ob_descent_tokens.specs.Gives.{Answers}
use Rattle.ob_descent.specs.CellStarts.{headed_as}
use Rattle.ob_descent.specs.declared.cells.CellStart.TheVariants as start
use Rattle.ob_descent.proofs.CellTurns.{answered}
use Rattle.ob_descent.proofs.cells.cell.Goals as goal

pub returns-in-Import : goal.returns-in-Import
returns-in-Import c =
    let first : c.args.tokens.now ≡ c.in-Some.token.now ∷ c.in-Some.after = search rules in
    answered c.args.depth c.in-Some.token.now c.args.tokens.now c.in-Some.after start.Import _ first (sym c.cell_start-start.ensures ∙ c.in-Import.is) c.imported.ensures

pub returns-in-Viewof : goal.returns-in-Viewof
returns-in-Viewof c =
    let first : c.args.tokens.now ≡ c.in-Some.token.now ∷ c.in-Some.after = search rules in
    answered c.args.depth c.in-Some.token.now c.args.tokens.now c.in-Some.after start.Viewof _ first (sym c.cell_start-start.ensures ∙ c.in-Viewof.is) c.headed.ensures

pub returns-in-Mutable : goal.returns-in-Mutable
returns-in-Mutable c =
    let first : c.args.tokens.now ≡ c.in-Some.token.now ∷ c.in-Some.after = search rules in
    answered c.args.depth c.in-Some.token.now c.args.tokens.now c.in-Some.after start.Mutable _ first (sym c.cell_start-start.ensures ∙ c.in-Mutable.is) c.headed-in-Mutable.ensures

pub returns-in-Name : goal.returns-in-Name
returns-in-Name c =
    let first : c.args.tokens.now ≡ c.in-Some.token.now ∷ c.in-Some.after = search rules in
    answered c.args.depth c.in-Some.token.now c.args.tokens.now c.in-Some.after start.Name _ first (sym c.cell_start-start.ensures ∙ c.in-Name.is)
    (subst (λ x. Answers (headed_as c.args.depth start.Name x c.args.tokens.now) c.headed-in-Name.result) c.fork-ahead.ensures c.headed-in-Name.ensures)

pub returns-in-Body : goal.returns-in-Body
returns-in-Body c =
    let first : c.args.tokens.now ≡ c.in-Some.token.now ∷ c.in-Some.after = search rules in
    answered c.args.depth c.in-Some.token.now c.args.tokens.now c.in-Some.after start.Body _ first (sym c.cell_start-start.ensures ∙ c.in-Body.is) c.bare.ensures
