-- An edit touches each cell that it changes.
use Rattle.std.proofs.Common.{◌≡◌, ℕ, ◌==◌, Bool, true, false, List, [], ◌∷◌, ◌++◌, map, ◌⊎◌, inl, inr, ⊎_elim, sym, ap, ◌∙◌, subst, if◌then◌else◌}
use Rattle.std.specs.Prelude.{bytes_eq, filter, take, drop}
use Rattle.std.specs.List.{list_any}
use Rattle.std.proofs.lemmas.Bool.{or_parts, or_left, or_right, both_ways, cases_Bool, cond-true, cond-false, eq-eqb}
use Rattle.std.proofs.lemmas.List.{take-append-drop}
use Rattle.std.proofs.lemmas.List.Folds.{list_any-append}
use Rattle.ob_worlds.specs.Reader.{Reader}
use Rattle.ob_worlds.specs.World.{Cell, Notebook, World}
use Rattle.ob_worlds.specs.Modules.{Modules, Module, Defined, defined, module_of, modules_of, all_cells}
use Rattle.ob_base.specs.declared.command.NewCell.{NewCell}
use Rattle.ob_worlds.specs.Edits.{with_cells, replaced, touching, cell_from, defined_at, serials_of, with_notebook}
use Rattle.ob_worlds.proofs.InstanceLaws.{In, in_left, in_right, in_parts, in_map, from_map, in_flat, from_flat}
use Rattle.ob_worlds.proofs.ResolveLaws.{from_filter_in}
use Rattle.ob_worlds.proofs.SinceLaws.{SameCells}

abbrev pub read_cell : Reader → Cell → Defined
read_cell E k = defined k (E.read k.text)

-- a cell of a world
pub record IsCell (E : Reader) (W : World) (c : Defined) : Type 0 where
  pub book : Notebook
  pub cell : Cell
  pub in_books : In book W.notebooks
  pub in_cells : In cell book.cells
  pub is : c ≡ read_cell E cell

pub cell_of : (E : Reader) (W : World) (c : Defined) → In c (all_cells (modules_of E W)) → IsCell E W c
unfolding modules_of
cell_of E W c m =
    let a = from_flat (λ (m : Module). m.cells) c (map (module_of E) W.notebooks) m in
    let b = from_map (module_of E) a.0 W.notebooks a.1 in
    let d = from_map (read_cell E) c b.0.cells (subst (λ (x : Module). In c x.cells) b.2 a.2) in
    record { book = b.0; cell = d.0; in_books = b.1; in_cells = d.1; is = d.2 }

pub of_cell : (E : Reader) (W : World) (c : Defined) → IsCell E W c → In c (all_cells (modules_of E W))
unfolding modules_of
of_cell E W c k = in_flat (λ (m : Module). m.cells) (module_of E k.book) c (map (module_of E) W.notebooks) (in_map (module_of E) k.book W.notebooks k.in_books)
    (subst (λ x. In x (module_of E k.book).cells) (sym k.is) (in_map (read_cell E) k.cell k.book.cells k.in_cells))

abbrev pub Untouched : World → ℕ → Type 0
Untouched W s = list_any (λ t. s == t) W.touched ≡ false

-- each cell that an edit doesn't touch was there, and wasn't touched before
abbrev pub Touches : Reader → World → World → Type 0
Touches E W after = (c : Defined) → IsCell E after c → Untouched after c.serial → IsCell E W c × Untouched W c.serial

pub touches : (E : Reader) (W after : World) → Touches E W after → (before : Modules) → SameCells before (modules_of E W) W.touched → SameCells before (modules_of E after) after.touched
touches E W after t before same c0 c m0 m e quiet = let r = t c (cell_of E after c m) quiet in same c0 c m0 (of_cell E W c r.0) e r.1

-- ---- other cells in a notebook

-- a cell of the world with other cells in a notebook stands in the notebook that it was, or among those cells
with_cells_in : (E : Reader) (W : World) (id : List ℕ) (cells : List Cell) (c : Defined) → IsCell E (with_cells W id cells) c
    → IsCell E W c ⊎ ((k : Cell) × In k cells × (c ≡ read_cell E k))
with_cells_in E W id cells c k =
    let r = from_map (λ (n : Notebook). if bytes_eq n.id id then record n { cells = cells } else n) k.book W.notebooks k.in_books in
    let e = r.2 in
    elim (cases_Bool (bytes_eq r.0.id id)) [
      | inl t ↦ inr (k.cell, subst (λ (n : Notebook). In k.cell n.cells) (e ∙ cond-true (bytes_eq r.0.id id) _ _ t) k.in_cells, k.is)
      | inr f ↦ inl (record { book = r.0; cell = k.cell; in_books = r.1; in_cells = subst (λ (n : Notebook). In k.cell n.cells) (e ∙ cond-false (bytes_eq r.0.id id) _ _ f) k.in_cells; is = k.is })
    ]

-- a cell that goes
pub delete_touches : (E : Reader) (W : World) (n : Notebook) (p : Cell → Bool) (observed : List ℕ) → In n W.notebooks → Touches E W (record (with_cells W n.id (filter p n.cells)) { observed = observed })
delete_touches E W n p observed there c k quiet =
    let plain : IsCell E (with_cells W n.id (filter p n.cells)) c = record { book = k.book; cell = k.cell; in_books = k.in_books; in_cells = k.in_cells; is = k.is } in
    (⊎_elim (λ a. a) (λ b. record { book = n; cell = b.0; in_books = there; in_cells = (from_filter_in p n.cells b.0 b.1).0; is = b.2 }) (with_cells_in E W n.id (filter p n.cells) c plain), quiet)

-- another text of a cell
pub redefine_touches : (E : Reader) (W : World) (n : Notebook) (s : ℕ) (text : List ℕ) → In n W.notebooks → Touches E W (touching s (with_cells W n.id (replaced s text n.cells)))
redefine_touches E W n s text there c k quiet =
    let plain : IsCell E (with_cells W n.id (replaced s text n.cells)) c = record { book = k.book; cell = k.cell; in_books = k.in_books; in_cells = k.in_cells; is = k.is } in
    let q = or_parts (c.serial == s) _ quiet in
    (⊎_elim (λ a. a) (λ b. old b.0 b.1 b.2 q.0) (with_cells_in E W n.id (replaced s text n.cells) c plain), q.1)
  where
    old : (k : Cell) → In k (replaced s text n.cells) → c ≡ read_cell E k → (c.serial == s) ≡ false → IsCell E W c
    old k m e f =
        let r = from_map (λ (x : Cell). if x.serial == s then record x { text = text } else x) k n.cells m in
        let g = r.2 in
        elim (cases_Bool (r.0.serial == s)) [
          | inl t ↦
              let a : k ≡ record (r.0) { text = text } = g ∙ cond-true (r.0.serial == s) _ _ t in
              absurd (both_ways _ (subst (λ z. (z == s) ≡ false) (ap (λ (x : Defined). x.serial) e ∙ ap (λ (x : Cell). x.serial) a) f) t)
          | inr u ↦
              let a : k ≡ r.0 = g ∙ cond-false (r.0.serial == s) _ _ u in
              record { book = n; cell = r.0; in_books = there; in_cells = r.1; is = e ∙ ap (read_cell E) a }
        ]

-- a new cell
pub define_touches : (E : Reader) (W : World) (n : Notebook) (new : NewCell) (place : ℕ) → In n W.notebooks → Touches E W (defined_at W n new place)
define_touches E W n new place there c k quiet =
    let cells : List Cell = take place n.cells ++ cell_from W.next new ∷ drop place n.cells in
    let plain : IsCell E (with_cells W n.id cells) c = record { book = k.book; cell = k.cell; in_books = k.in_books; in_cells = k.in_cells; is = k.is } in
    let q = or_parts (c.serial == W.next) _ quiet in
    (⊎_elim (λ a. a) (λ b. old b.0 b.1 b.2 q.0) (with_cells_in E W n.id cells c plain), q.1)
  where
    there_too : (k : Cell) → c ≡ read_cell E k → In k n.cells → IsCell E W c
    there_too k e m = record { book = n; cell = k; in_books = there; in_cells = m; is = e }

    old : (k : Cell) → In k (take place n.cells ++ cell_from W.next new ∷ drop place n.cells) → c ≡ read_cell E k → (c.serial == W.next) ≡ false → IsCell E W c
    old k m e f = ⊎_elim
        (λ a. there_too k e (subst (In k) (take-append-drop place n.cells) (in_left k (take place n.cells) (drop place n.cells) a)))
        (λ b. ⊎_elim
        (λ s. absurd (both_ways _ f (eq-eqb c.serial W.next (ap (λ (x : Defined). x.serial) e ∙ ap (λ (x : Cell). x.serial) s))))
        (λ d. there_too k e (subst (In k) (take-append-drop place n.cells) (in_right k (take place n.cells) (drop place n.cells) d))) b)
        (in_parts k (take place n.cells) (cell_from W.next new ∷ drop place n.cells) m)

-- the serial of a touched cell is touched
serial_in : (k : Cell) (cells : List Cell) (s : ℕ) → s ≡ k.serial → In k cells → list_any (λ t. s == t) (serials_of cells) ≡ true
serial_in k [] s h m = elim m [ ]
serial_in k (x ∷ xs) s h (inl e) = or_left _ _ (eq-eqb s x.serial (h ∙ ap (λ (y : Cell). y.serial) e))
serial_in k (x ∷ xs) s h (inr m) = or_right (s == x.serial) _ (serial_in k xs s h m)

-- a new notebook
pub notebook_touches : (E : Reader) (W : World) (id : List ℕ) (cells : List Cell) → Touches E W (with_notebook W id cells)
notebook_touches E W id cells c k quiet = ⊎_elim
    (λ a. (record { book = k.book; cell = k.cell; in_books = a; in_cells = k.in_cells; is = k.is }, q.1))
    (λ b. ⊎_elim
    (λ e. absurd (both_ways _ q.0 (serial_in k.cell cells c.serial (ap (λ (x : Defined). x.serial) k.is) (subst (λ (n : Notebook). In k.cell n.cells) e k.in_cells))))
    (λ r. elim r [ ]) b)
    (in_parts k.book W.notebooks (record { id = id; cells = cells } ∷ []) k.in_books)
  where
    q : (list_any (λ t. c.serial == t) (serials_of cells) ≡ false) × (list_any (λ t. c.serial == t) W.touched ≡ false)
    q = or_parts (list_any (λ t. c.serial == t) (serials_of cells)) _ (sym (list_any-append (λ t. c.serial == t) (serials_of cells) W.touched) ∙ quiet)
