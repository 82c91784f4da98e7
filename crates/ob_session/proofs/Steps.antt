-- Steps of loops over cells.
use Rattle.std.proofs.Common.{◌≡◌, ◌<◌, ℕ, ◌+◌, ℤ, List, [], ◌∷◌, ◌++◌, length, drop, get_or, Some, refl, sym, ap, ◌∙◌}
use Rattle.std.specs.declared.option.Option.{Option}
use Rattle.std.proofs.lemmas.List.{drop_more}
use Rattle.ob_base.specs.declared.command.NewCell.{NewCell}
use Rattle.ob_session.specs.declared.world.Cell.{Cell}
use Rattle.ob_session.specs.Known.{names_of}
use Rattle.ob_session.specs.World.{cell_from, cells_from}
use Rattle.ob_session.specs.Report.{outcome, outcomes_from}

pub outcomes-step : (all : List Cell) (values new total : List (Option ℤ)) (i : ℕ) (cell : Cell) → i < length all → cell ≡ get_or all i cell
    → new ≡ values ++ outcome values cell ∷ [] → outcomes_from values (drop i all) ≡ total → outcomes_from new (drop (i + 1) all) ≡ total
outcomes-step all values new total i cell lt is e h =
    rw e (ap (λ c. outcomes_from values (c ∷ drop (i + 1) all)) is ∙ sym (ap (outcomes_from values) (drop_more all i cell lt)) ∙ h)

pub cells-step : (news : List NewCell) (cells more : List Cell) (total : Option (List Cell)) (i : ℕ) (new : NewCell) (c : Cell) → i < length news → new ≡ get_or news i new
    → cell_from (names_of cells) new ≡ Some c → more ≡ cells ++ c ∷ [] → cells_from cells (drop i news) ≡ total → cells_from more (drop (i + 1) news) ≡ total
cells-step news cells more total i new c lt is f e h =
    rw e (sym (first news cells i new c f) ∙ ap (λ n. cells_from cells (n ∷ drop (i + 1) news)) is ∙ sym (ap (cells_from cells) (drop_more news i new lt)) ∙ h)
  where
    first : (news : List NewCell) (cells : List Cell) (i : ℕ) (new : NewCell) (c : Cell) → cell_from (names_of cells) new ≡ Some c
        → cells_from cells (new ∷ drop (i + 1) news) ≡ cells_from (cells ++ c ∷ []) (drop (i + 1) news)
    first news cells i new c f = rw f refl
