use Rattle.std.proofs.Common.{◌≡◌, ◌<◌, true, map, drop, get_or, Some, None, Ok, Err, refl, ◌+◌, sym, ap, ◌∙◌, subst, arith, false, length, ℕ, List, [], ◌∷◌, ◌++◌}
use Rattle.std.specs.Prelude.{IfSome}
use Rattle.std.proofs.lemmas.List.{length-map, drop_more}
use Rattle.std.specs.Result.{IsErr, IsErrAnd}
use Rattle.std.specs.declared.option.Option.{Option}
use Rattle.std.specs.declared.result.Result.{Result}
use Rattle.ob_base.specs.declared.command.NewCell.{NewCell}
use Rattle.ob_session.specs.declared.world.Cell.{Cell}
use Rattle.ob_session.specs.declared.open.OpenError.{OpenError}
use Rattle.ob_session.specs.declared.open.OpenError.TheVariants as errors
use Rattle.ob_session.specs.Gives.{Gives, Fails}
use Rattle.ob_session.specs.Inputs.{IsBuiltUp}
use Rattle.ob_session.specs.Known.{CellNames, names_of}
use Rattle.ob_session.specs.World.{cell_from, cells_from}
use Rattle.ob_session.proofs.Steps.{cells-step}
use Rattle.ob_session.proofs.Sounds.{built_up_push, names_push}
use Rattle.ob_session.proofs.open.cells_from.Goals as goal

abbrev with_more : CellNames → List ℕ → List ℕ → CellNames
with_more known id name = record { ids = known.ids ++ id ∷ []; names = known.names ++ name ∷ [] }

pub loop-new-preserved : goal.loop-new-preserved
loop-new-preserved c =
    let known : c.loop-new.known ≡ names_of c.loop-new.cells = c.loop-new.invariant.2 in
    let made : cell_from (names_of c.loop-new.cells) c.new-item.result ≡ Some c.in_ok-cell.cell = subst (λ k. cell_from k c.new-item.result ≡ Some c.in_ok-cell.cell) known c.in_ok-cell.ensures.value in
    let within : IfSome c.in_ok-cell.cell.input (λ place. place < length c.loop-new.cells) =
    subst (λ n. IfSome c.in_ok-cell.cell.input (λ place. place < n)) (ap (λ (k : CellNames). length k.names) known ∙ length-map c.loop-new.cells (λ (x : Cell). x.name)) c.in_ok-cell.ensures.new.2 in
    let id : c.as_str.result.now ≡ c.in_ok-cell.cell.id = c.as_str.ensures ∙ sym c.in_ok-cell.ensures.id in
    let more : record { ids = c.loop-new.known.ids ++ c.as_str.result.now ∷ []; names = c.loop-new.known.names ++ c.as_str-in-loop-new.result.now ∷ [] } ≡ names_of c.push.new.self =
    ap (λ (k : CellNames). with_more k c.as_str.result.now c.as_str-in-loop-new.result.now) known
    ∙ ap (λ i. with_more (names_of c.loop-new.cells) i c.as_str-in-loop-new.result.now) id
    ∙ ap (λ n. with_more (names_of c.loop-new.cells) c.in_ok-cell.cell.id n) c.as_str-in-loop-new.ensures
    ∙ sym (names_push c.loop-new.cells c.in_ok-cell.cell)
    ∙ ap names_of (sym c.in_ok-push.ensures.ok) in (
      cells-step c.args.all.now c.loop-new.cells c.push.new.self _ c.loop-new.new-index c.new-item.result c.in_ok-cell.cell (omega arith) c.new-item.is made c.in_ok-push.ensures.ok c.loop-new.invariant.0,
      subst (λ cells. IsBuiltUp (map (λ (x : Cell). x.input) cells)) (sym c.in_ok-push.ensures.ok) (built_up_push c.loop-new.cells c.in_ok-cell.cell c.loop-new.invariant.1 within),
      c.in_ok-add.ensures ∙ more,
    )

-- what a cell that is not built makes of the list
stopped : (news : List NewCell) (cells : List Cell) (total : Option (List Cell)) (i : ℕ) (new : NewCell) (e : OpenError) → i < length news → new ≡ get_or news i new
    → Fails e (cell_from (names_of cells) new) → cells_from cells (drop i news) ≡ total → Fails e total
stopped news cells total i new errors.NoMemory lt is f h = tt
stopped news cells total i new errors.NotBuilt lt is f h = sym h ∙ ap (cells_from cells) (drop_more news i new lt) ∙ ap (λ n. cells_from cells (n ∷ drop (i + 1) news)) (sym is) ∙ first f
  where
    first : cell_from (names_of cells) new ≡ None → cells_from cells (new ∷ drop (i + 1) news) ≡ None
    first f = rw f refl

-- an error that is handed on
handed : {Y : Type 0} (r : Result Y OpenError) (e : OpenError) (given : Option Y) → IsErr r × IsErrAnd r (λ x. x ≡ e) → Fails e given → Gives r given
handed (Ok y) e given h f = let no : false ≡ true = h.0 in cc
handed (Err x) e given h f = subst (λ e. Fails e given) (sym h.1) f

pub returns-in_err-cell-clause-value : goal.returns-in_err-cell-clause-value
returns-in_err-cell-clause-value c =
    handed c.from_residual.result c.in_err-cell.field-0.0 _ c.from_residual.ensures
    (stopped c.args.all.now c.loop-new.cells _ c.loop-new.new-index c.new-item.result c.in_err-cell.field-0.0 (omega arith) c.new-item.is
    (subst (λ k. Fails c.in_err-cell.field-0.0 (cell_from k c.new-item.result)) c.loop-new.invariant.2 c.in_err-cell.ensures.value) c.loop-new.invariant.0)
