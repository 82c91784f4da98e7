-- Bundles and edits: the world that they give, or the first cause for which they are refused (this project).
use Rattle.std.specs.Prelude.{ℕ, Bool, true, false, suc, ◌+◌, ◌==◌, nat_lt, not, List, [], ◌∷◌, ◌++◌, length, Option, Some, None, map, filter, take, drop, bytes_eq, option_map, is_some, unwrap_or, Result, Ok, Err, if◌then◌else◌}
use Rattle.std.specs.Option.{option_map_or, option_or}
use Rattle.std.specs.List.{flat_map, find, list_any, sum_by}
use Rattle.ob_base.specs.declared.cause.Cause.{Cause}
use Rattle.ob_base.specs.declared.cause.Cause.TheVariants as cause
use Rattle.ob_base.specs.declared.command.Command.{Command}
use Rattle.ob_base.specs.declared.command.Command.TheVariants as command
use Rattle.ob_base.specs.declared.command.NewCell.{NewCell}
use Rattle.ob_cells.specs.declared.def.ImportClause.{ImportClause}
use Rattle.ob_base.specs.Labels.{Path}
use Rattle.ob_worlds.specs.Reader.{Reader}
use Rattle.ob_worlds.specs.World.{Cell, Notebook, World}
use Rattle.ob_worlds.specs.Modules.{Modules, Defined, modules_of, ids, all_cells, cells_of}
use Rattle.ob_worlds.specs.Instances.{instances, with_cycle, notebook_of}
use Rattle.ob_worlds.specs.Variables.{defs_in}

-- ---- faults of an edit or a bundle

-- the first that stands earlier in the list too
abbrev pub repeated_from : List (List ℕ) → List (List ℕ) → Option (List ℕ)
repeated_from met [] = None
repeated_from met (x ∷ xs) = if list_any (bytes_eq x) met then Some x else repeated_from (x ∷ met) xs

abbrev pub repeated : List (List ℕ) → Option (List ℕ)
repeated xs = repeated_from [] xs

-- the length of the first text that has more than 65,536 bytes
abbrev pub long_text : List NewCell → Option ℕ
long_text cells = option_map (λ (c : NewCell). length c.text) (find (λ (c : NewCell). nat_lt 65536 (length c.text)) cells)

-- a text that needs what isn't built yet
abbrev pub unbuilt : Reader → List NewCell → Option Cause
unbuilt E cells = if list_any (λ (c : NewCell). not (E.is_built c.text)) cells then Some cause.NotBuilt else None

abbrev pub repeated_cell : List NewCell → Option (List ℕ)
repeated_cell cells = repeated (map (λ (c : NewCell). c.id) cells)

-- the first import from a notebook that isn't there
abbrev pub missing_from : Modules → List ImportClause → Option (List ℕ)
missing_from M clauses = option_map (λ (i : ImportClause). i.from) (find (λ (i : ImportClause). not (list_any (bytes_eq i.from) (ids M))) clauses)

abbrev pub clauses_of : Modules → List ImportClause
clauses_of M = flat_map (λ (c : Defined). option_map_or (λ i. i ∷ []) c.clause []) (all_cells M)

-- the variables and import cells of an instance
abbrev pub size_at : Modules → Path → ℕ
size_at M path = sum_by (λ (c : Defined). length (defs_in M path c) + (if is_some c.clause then 1 else 0)) (cells_of M (notebook_of M path))

abbrev pub too_many : ℕ → ℕ → Cause → Option Cause
too_many limit n cause = if nat_lt limit n then Some cause else None

-- why the notebooks can't stand together: the first fault
abbrev pub whole_fault : Modules → Option Cause
whole_fault M =
    option_or (option_map cause.ImportMissing (missing_from M (clauses_of M)))
    (option_or (option_map cause.WithCycle (with_cycle M))
    (option_or (too_many 256 (length (instances M)) cause.TooManyInstances)
    (too_many 1024 (sum_by (size_at M) (instances M)) cause.TooManyVariables)))

abbrev pub unless : {A : Type 0} → Option Cause → Result A Cause → Result A Cause
unless {A} (Some c) result = Err c
unless {A} None result = result

abbrev pub if_whole : Reader → World → Result World Cause
if_whole E W = unless (whole_fault (modules_of E W)) (Ok W)

-- ---- new cells

abbrev pub cell_from : ℕ → NewCell → Cell
cell_from serial c = record { serial = serial; id = c.id; text = c.text }

-- with serials from n on
abbrev pub numbered : ℕ → List NewCell → List Cell
numbered n [] = []
numbered n (c ∷ cs) = cell_from n c ∷ numbered (suc n) cs

abbrev pub serials_of : List Cell → List ℕ
serials_of cells = map (λ (c : Cell). c.serial) cells

abbrev pub with_notebook : World → List ℕ → List Cell → World
with_notebook W id cells = record W { notebooks = W.notebooks ++ record { id = id; cells = cells } ∷ []; next = W.next + length cells; touched = serials_of cells ++ W.touched }

-- the world with other cells in a notebook
abbrev pub with_cells : World → List ℕ → List Cell → World
with_cells W id cells = record W { notebooks = map (λ (n : Notebook). if bytes_eq n.id id then record n { cells = cells } else n) W.notebooks }

abbrev pub touching : ℕ → World → World
touching s W = record W { touched = s ∷ W.touched }

-- ---- edits

abbrev pub find_notebook : World → List ℕ → Option Notebook
find_notebook W id = find (λ (n : Notebook). bytes_eq n.id id) W.notebooks

abbrev pub find_cell : Notebook → List ℕ → Option Cell
find_cell n id = find (λ (c : Cell). bytes_eq c.id id) n.cells

abbrev pub adds : Reader → World → List ℕ → List NewCell → Result World Cause
adds E W id cells =
    unless (option_or (option_map cause.CellExists (repeated_cell cells)) (option_or (option_map cause.TextTooLong (long_text cells)) (unbuilt E cells)))
    (if_whole E (with_notebook W id (numbered W.next cells)))

abbrev pub text_fault : Reader → NewCell → Option Cause
text_fault E c = option_or (option_map cause.TextTooLong (long_text (c ∷ []))) (unbuilt E (c ∷ []))

-- a new cell, before the one at that place
abbrev pub defined_at : World → Notebook → NewCell → ℕ → World
defined_at W n c place =
    touching W.next (record (with_cells W n.id (take place n.cells ++ cell_from W.next c ∷ drop place n.cells)) { next = suc W.next })

abbrev pub defines : Reader → World → NewCell → Option ℕ → Notebook → Result World Cause
defines E W c place n =
    let k : ℕ = unwrap_or place (length n.cells) in
    if is_some (find_cell n c.id) then Err (cause.CellExists c.id)
    else if nat_lt (length n.cells) k then Err (cause.BadPlace k)
    else unless (text_fault E c) (if_whole E (defined_at W n c k))

-- another text under the same serial
abbrev pub replaced : ℕ → List ℕ → List Cell → List Cell
replaced s text cells = map (λ (c : Cell). if c.serial == s then record c { text = text } else c) cells

abbrev pub redefines : Reader → World → NewCell → Notebook → Cell → Result World Cause
redefines E W new n c = unless (text_fault E new) (if_whole E (touching c.serial (with_cells W n.id (replaced c.serial new.text n.cells))))

abbrev pub without : ℕ → List ℕ → List ℕ
without s serials = filter (λ x. not (s == x)) serials

-- the cell and its observer go
abbrev pub deletes : Reader → World → Notebook → Cell → Result World Cause
deletes E W n c = if_whole E (record (with_cells W n.id (filter (λ (d : Cell). not (d.serial == c.serial)) n.cells)) { observed = without c.serial W.observed })

-- ---- on a notebook, or a cell, that has to be there

abbrev pub in_notebook : {A : Type 0} → World → List ℕ → (Notebook → Result A Cause) → Result A Cause
in_notebook {A} W id f = option_map_or f (find_notebook W id) (Err (cause.NoNotebook id))

abbrev pub in_cell : {A : Type 0} → World → List ℕ → List ℕ → (Notebook → Cell → Result A Cause) → Result A Cause
in_cell {A} W id cell f = in_notebook W id (λ n. option_map_or (f n) (find_cell n cell) (Err (cause.NoCell cell)))

-- the serial of a cell
abbrev pub serial_of : World → List ℕ → List ℕ → Result ℕ Cause
serial_of W notebook cell = in_cell W notebook cell (λ n c. Ok c.serial)

-- ---- the four edits

abbrev pub adding : Reader → World → List ℕ → List NewCell → Result World Cause
adding E W id cells = option_map_or (λ n. Err (cause.NotebookExists id)) (find_notebook W id) (adds E W id cells)

abbrev pub defining : Reader → World → List ℕ → NewCell → Option ℕ → Result World Cause
defining E W notebook new place = in_notebook W notebook (defines E W new place)

abbrev pub redefining : Reader → World → List ℕ → NewCell → Result World Cause
redefining E W notebook new = in_cell W notebook new.id (redefines E W new)

abbrev pub deleting : Reader → World → List ℕ → List ℕ → Result World Cause
deleting E W notebook id = in_cell W notebook id (deletes E W)

abbrev pub is_edit : Command → Bool
is_edit (command.Notebook id cells) = true
is_edit (command.Define n c p) = true
is_edit (command.Redefine n c) = true
is_edit (command.Delete n c) = true
is_edit (command.Input n c v) = false
is_edit (command.Observe n c) = false
is_edit (command.Unobserve n c) = false
is_edit command.Tick = false

-- the world after an edit, or the first cause for which it is refused; another command leaves it as it is
unfoldable pub edited : Reader → World → Command → Result World Cause
edited E W (command.Notebook id cells) = adding E W id cells
edited E W (command.Define notebook new place) = defining E W notebook new place
edited E W (command.Redefine notebook new) = redefining E W notebook new
edited E W (command.Delete notebook id) = deleting E W notebook id
edited E W (command.Input n c v) = Ok W
edited E W (command.Observe n c) = Ok W
edited E W (command.Unobserve n c) = Ok W
edited E W command.Tick = Ok W

-- ---- bundles

-- the notebooks that commands add
abbrev pub listed : Command → List (List ℕ × List NewCell)
listed (command.Notebook id cells) = (id, cells) ∷ []
listed (command.Define n c p) = []
listed (command.Redefine n c) = []
listed (command.Delete n c) = []
listed (command.Input n c v) = []
listed (command.Observe n c) = []
listed (command.Unobserve n c) = []
listed command.Tick = []

abbrev pub bare_world : List ℕ → World
bare_world main = record { main = main; notebooks = []; next = 1; observed = []; given = []; current = []; touched = []; got = []; ticks = 0 }

abbrev pub with_notebooks : World → List (List ℕ × List NewCell) → World
with_notebooks W [] = W
with_notebooks W (n ∷ ns) = with_notebooks (with_notebook W n.0 (numbered W.next n.1)) ns

abbrev pub first_in : {A : Type 0} → (A → Option Cause) → List A → Option Cause
first_in {A} f [] = None
first_in {A} f (x ∷ xs) = option_or (f x) (first_in f xs)

-- over the whole bundle: equal ids of notebooks, a main that isn't there, equal ids of cells, long texts, texts that aren't built
abbrev pub bundle_fault : Reader → List ℕ → List (List ℕ × List NewCell) → Option Cause
bundle_fault E main ns =
    option_or (option_map cause.NotebookExists (repeated (map (λ (n : List ℕ × List NewCell). n.0) ns)))
    (option_or (if list_any (λ (n : List ℕ × List NewCell). bytes_eq n.0 main) ns then None else Some (cause.NoNotebook main))
    (option_or (first_in (λ (n : List ℕ × List NewCell). option_map cause.CellExists (repeated_cell n.1)) ns)
    (option_or (first_in (λ (n : List ℕ × List NewCell). option_map cause.TextTooLong (long_text n.1)) ns)
    (first_in (λ (n : List ℕ × List NewCell). unbuilt E n.1) ns))))

abbrev pub open_listed : Reader → List ℕ → List (List ℕ × List NewCell) → Result World Cause
open_listed E main ns = unless (bundle_fault E main ns) (if_whole E (with_notebooks (bare_world main) ns))

-- the world that a bundle opens
unfoldable pub open_world : Reader → List ℕ → List Command → Result World Cause
open_world E main notebooks = open_listed E main (flat_map listed notebooks)
