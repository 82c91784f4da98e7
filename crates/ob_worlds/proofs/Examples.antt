-- Worked examples of notebooks, by computing the definitions.
use Rattle.std.proofs.Common.{◌≡◌, ℕ, zero, suc, pos, List, [], ◌∷◌, ◌++◌, Option, Some, None, refl, Result, Ok, Err}
use Rattle.std.specs.Prelude.{codes}
use Rattle.ob_base.specs.Utf16.{utf16}
use Rattle.ob_base.specs.declared.plain.Plain.{out-Plain}
use Rattle.ob_base.specs.declared.plain.Plain.TheVariants as P
use Rattle.ob_base.specs.declared.cause.Cause.{Cause}
use Rattle.ob_base.specs.declared.cause.Cause.TheVariants as cause
use Rattle.ob_base.specs.declared.command.Command.{Command}
use Rattle.ob_base.specs.declared.command.Command.TheVariants as command
use Rattle.ob_base.specs.declared.command.NewCell.{NewCell}
use Rattle.ob_base.specs.declared.report.Event.{Event}
use Rattle.ob_base.specs.declared.report.Event.TheVariants as event
use Rattle.ob_base.specs.declared.report.LostKind.TheVariants as lost
use Rattle.ob_tree_types.specs.declared.tree.Function.{Function}
use Rattle.ob_tree_types.specs.declared.cell.CellTree.TheVariants as cell
use Rattle.ob_tree_types.specs.declared.cell.ImportSpec.{ImportSpec}
use Rattle.ob_tree_types.specs.declared.cell.SpecForm.TheVariants as spec
use Rattle.ob_names.specs.declared.form.NameForm.TheVariants as form
use Rattle.ob_names.specs.declared.form.NameRef.{NameRef}
use Rattle.ob_cells.specs.Variables.{named, variables_of}
use Rattle.ob_cells.specs.Imports.{import_of}
use Rattle.ob_inputs.specs.Paths.{within}
use Rattle.ob_inputs.specs.Values.{turns, by_inputs}
use Rattle.ob_inputs.specs.Chains.{follow}
use Rattle.ob_worlds.specs.Language.{Language}
use Rattle.ob_worlds.specs.Language.Change.{Add, Mul}
use Rattle.ob_base.specs.declared.label.Part.TheVariants as part
use Rattle.ob_worlds.specs.Labels.{Place, Resolved}
use Rattle.ob_worlds.specs.Labels.Resolved.{Home, Missing, Duplicate, Loop}
use Rattle.ob_worlds.specs.World.{World}
use Rattle.ob_worlds.specs.Modules.{modules_of}
use Rattle.ob_worlds.specs.Instances.{below, instances}
use Rattle.ob_worlds.specs.Resolve.{resolve}
use Rattle.ob_worlds.specs.Variables.{variables}
use Rattle.ob_worlds.specs.Nets.{variable}
use Rattle.ob_worlds.specs.Outcomes.{outcome}
use Rattle.ob_worlds.specs.Rows.{row_by}
use Rattle.ob_worlds.specs.Ticks.{rows}
use Rattle.ob_worlds.specs.Effects.{with_effects}
use Rattle.ob_worlds.specs.Reports.{tick_of}
use Rattle.ob_worlds.specs.Worlds.{net_of}
use Rattle.ob_worlds.specs.Edits.{open_world}
use Rattle.ob_worlds.specs.Sessions.{Answer, opened, accepts, answer, answers}
use Rattle.ob_worlds.specs.Sessions.Answer.{Accepted, Refused, Reported}
use Rattle.ob_worlds.proofs.Tiny.{Entry, Term, Program, entry, no_body, tiny}
use Rattle.ob_worlds.proofs.Tiny.Term.{num, read, plus, times, nil, cons, wrap}
use Rattle.ob_worlds.proofs.Tiny.Program.{gives, changes, yields, throws}

-- ---- how examples are written

abbrev n : List ℕ → NameRef
n x = named form.Plain x

-- a cell, a notebook of cells, commands
abbrev c : List ℕ → List ℕ → NewCell
c id text = record { id = id; text = text }

abbrev book : List ℕ → List NewCell → Command
book id cells = command.Notebook id cells

abbrev main : List ℕ
main = codes "main"

abbrev O : List ℕ → Command
O id = command.Observe main id

abbrev U : List ℕ → Command
U id = command.Unobserve main id

abbrev T : Command
T = command.Tick

abbrev told : {V R : Type 0} → Language V R → List Command → Result World Cause → Result (List Answer) Cause
told {V} {R} E cs (Ok W) = Ok (answers E (opened W) cs)
told {V} {R} E cs (Err e) = Err e

-- what commands are answered with on a bundle
session : List Entry → List Command → List Command → Result (List Answer) Cause
unfolding open_world modules_of below instances resolve variables variable outcome row_by rows with_effects tick_of net_of accepts answer answers by_inputs turns within follow import_of variables_of utf16 out-Plain denote.Hole.Carrier.out
session table books cs = told (tiny table) cs (open_world (tiny table).reader main books)

abbrev report : ℕ → List Event → ℕ → Answer
report number events spent = Reported (record { number = number; events = events; spent = spent })

-- ---- two cells and their sum

abbrev sums : List Entry
sums = entry (codes "a = 1") [] (cell.Named (codes "a") no_body) (gives (num 1))
    ∷ entry (codes "b = a + 2") (n (codes "a") ∷ []) (cell.Named (codes "b") no_body) (gives (plus (read (n (codes "a"))) (num 2))) ∷ []

sum_of_two_cells : session sums (book main (c (codes "a") (codes "a = 1") ∷ c (codes "b") (codes "b = a + 2") ∷ []) ∷ []) (O (codes "b") ∷ T ∷ T ∷ [])
    ≡ Ok (Accepted ∷ report 1 (event.Run (codes "main#a") 1 ∷ event.Run (codes "main#b") 1 ∷ event.Value (codes "main#b") (codes "3") ∷ []) 2
    ∷ report 2 (event.Value (codes "main#b") (codes "3") ∷ []) 0 ∷ [])
unfolding session
sum_of_two_cells = refl

-- ---- texts

-- `x = ..`
abbrev let_ : List ℕ → List ℕ → List NameRef → Program → Entry
let_ text x free p = entry text free (cell.Named x no_body) p

-- an expression or a block
abbrev bare : List ℕ → List NameRef → Program → Entry
bare text free p = entry text free (cell.Bare no_body) p

-- an import: specs, the specs of `with` if there is one, and the notebook
abbrev imports : List ℕ → List ImportSpec → Option (List ImportSpec) → List ℕ → Entry
imports text specs with_ from = entry text [] (cell.Import (record { specs = specs; with = with_; from = from })) (gives nil)

abbrev s : List ℕ → List ℕ → ImportSpec
s x y = record { form = spec.Plain; source = x; alias = Some y }

abbrev just : List ℕ → ImportSpec
just x = record { form = spec.Plain; source = x; alias = None }

abbrev get : List ℕ → Term
get x = read (n x)

abbrev run : List ℕ → ℕ → Event
run l k = event.Run l k

abbrev inv : List ℕ → ℕ → Event
inv l k = event.Invalidate l k

abbrev val : List ℕ → List ℕ → Event
val l t = event.Value l t

abbrev err : List ℕ → List ℕ → Event
err l t = event.Error l t

-- an error of the runtime that names x
abbrev bad : List ℕ → List ℕ → List ℕ → Event
bad l x text = event.Error l (codes "RuntimeError: " ++ (utf16 x ++ text))

abbrev re : List ℕ → List ℕ → Command
re id text = command.Redefine main (c id text)

-- ---- a name that is defined twice

abbrev twice : List Entry
twice = let_ (codes "x = 1") (codes "x") [] (gives (num 1)) ∷ let_ (codes "x = 2") (codes "x") [] (gives (num 2))
    ∷ let_ (codes "y = x") (codes "y") (n (codes "x") ∷ []) (gives (get (codes "x"))) ∷ []

abbrev twice_cells : List Command
twice_cells = book main (c (codes "x1") (codes "x = 1") ∷ c (codes "x2") (codes "x = 2") ∷ c (codes "y") (codes "y = x") ∷ []) ∷ []

defined_twice : session twice twice_cells (O (codes "x1") ∷ O (codes "y") ∷ T ∷ command.Delete main (codes "x2") ∷ T ∷ [])
    ≡ Ok (Accepted ∷ Accepted
    ∷ report 1 (bad (codes "main#x1") (codes "x") (codes " is defined more than once") ∷ bad (codes "main#y") (codes "x") (codes " is defined more than once") ∷ []) 0
    ∷ Accepted
    ∷ report 2 (run (codes "main#x1") 1 ∷ run (codes "main#y") 1 ∷ val (codes "main#x1") (codes "1") ∷ val (codes "main#y") (codes "1") ∷ []) 2 ∷ [])
unfolding session
defined_twice = refl

-- ---- a circle

abbrev circle : List Entry
circle = let_ (codes "a = b") (codes "a") (n (codes "b") ∷ []) (gives (get (codes "b"))) ∷ let_ (codes "b = a") (codes "b") (n (codes "a") ∷ []) (gives (get (codes "a")))
    ∷ let_ (codes "c = a") (codes "c") (n (codes "a") ∷ []) (gives (get (codes "a"))) ∷ []

cells_in_a_circle : session circle (book main (c (codes "a") (codes "a = b") ∷ c (codes "b") (codes "b = a") ∷ c (codes "c") (codes "c = a") ∷ []) ∷ []) (O (codes "a") ∷ O (codes "c") ∷ T ∷ [])
    ≡ Ok (Accepted ∷ Accepted
    ∷ report 1 (err (codes "main#a") (codes "RuntimeError: circular definition") ∷ err (codes "main#c") (codes "RuntimeError: circular definition") ∷ []) 0 ∷ [])
unfolding session
cells_in_a_circle = refl

-- ---- a text that doesn't read

unreadable_text : session (let_ (codes "q = ({value: 1})") (codes "q") [] (gives (wrap (num 1))) ∷ [])
    (book main (c (codes "p") (codes "p = {a: 1}") ∷ c (codes "q") (codes "q = ({value: 1})") ∷ []) ∷ []) (O (codes "p") ∷ O (codes "q") ∷ T ∷ [])
    ≡ Ok (Accepted ∷ Accepted ∷ report 1 (run (codes "main#q") 1 ∷ err (codes "main#p") (codes "SyntaxError") ∷ val (codes "main#q") (codes "{value: 1}") ∷ []) 1 ∷ [])
unfolding session
unreadable_text = refl

-- ---- a generator, and an input of it that is redefined

abbrev counting : List Entry
counting = let_ (codes "k = 1") (codes "k") [] (gives (num 1)) ∷ let_ (codes "k = 10") (codes "k") [] (gives (num 10))
    ∷ let_ (codes "g") (codes "g") (n (codes "k") ∷ []) (yields (num 0 ∷ get (codes "k") ∷ plus (get (codes "k")) (get (codes "k")) ∷ []) None) ∷ []

generator_restarts_on_edit : session counting (book main (c (codes "k") (codes "k = 1") ∷ c (codes "g") (codes "g") ∷ []) ∷ []) (O (codes "g") ∷ T ∷ T ∷ T ∷ re (codes "k") (codes "k = 10") ∷ T ∷ [])
    ≡ Ok (Accepted
    ∷ report 1 (run (codes "main#k") 1 ∷ run (codes "main#g") 1 ∷ val (codes "main#g") (codes "0") ∷ []) 2
    ∷ report 2 (event.Step (codes "main#g") 1 2 ∷ val (codes "main#g") (codes "1") ∷ []) 1
    ∷ report 3 (event.Step (codes "main#g") 1 3 ∷ val (codes "main#g") (codes "2") ∷ []) 1
    ∷ Accepted
    ∷ report 4 (inv (codes "main#k") 1 ∷ inv (codes "main#g") 1 ∷ run (codes "main#k") 2 ∷ run (codes "main#g") 2 ∷ val (codes "main#g") (codes "0") ∷ []) 2 ∷ [])
unfolding session
generator_restarts_on_edit = refl

-- ---- the reader of a generator, and its end

abbrev ending : List Entry
ending = let_ (codes "g") (codes "g") [] (yields (num 1 ∷ num 2 ∷ []) None) ∷ let_ (codes "h") (codes "h") (n (codes "g") ∷ []) (gives (times (get (codes "g")) (num 10))) ∷ []

generator_that_ends : session ending (book main (c (codes "g") (codes "g") ∷ c (codes "h") (codes "h") ∷ []) ∷ []) (O (codes "h") ∷ T ∷ T ∷ T ∷ T ∷ [])
    ≡ Ok (Accepted
    ∷ report 1 (run (codes "main#g") 1 ∷ run (codes "main#h") 1 ∷ val (codes "main#h") (codes "10") ∷ []) 2
    ∷ report 2 (inv (codes "main#h") 1 ∷ event.Step (codes "main#g") 1 2 ∷ run (codes "main#h") 2 ∷ val (codes "main#h") (codes "20") ∷ []) 2
    ∷ report 3 (event.End (codes "main#g") 1 ∷ val (codes "main#h") (codes "20") ∷ []) 1
    ∷ report 4 (val (codes "main#h") (codes "20") ∷ []) 0 ∷ [])
unfolding session
generator_that_ends = refl

-- ---- a view and its inputs

abbrev views : List Entry
views = entry (codes "v1") [] (cell.View (codes "x") no_body) (gives (wrap (num 1))) ∷ entry (codes "v2") [] (cell.View (codes "x") no_body) (gives (wrap (num 2))) ∷ []

view_and_inputs : session views (book main (c (codes "v") (codes "v1") ∷ []) ∷ [])
    (command.Input main (codes "v") (P.Int (pos 4)) ∷ O (codes "v") ∷ T ∷ command.Input main (codes "v") (P.Int (pos 5)) ∷ T
    ∷ command.Input main (codes "v") (P.Int (pos 6)) ∷ re (codes "v") (codes "v2") ∷ T ∷ [])
    ≡ Ok (Refused cause.NoView ∷ Accepted
    ∷ report 1 (run (codes "main#v.view") 1 ∷ val (codes "main#v.view") (codes "{value: 1}") ∷ val (codes "main#v.shown") (codes "1") ∷ []) 1
    ∷ Accepted
    ∷ report 2 (val (codes "main#v.view") (codes "{value: 1}") ∷ val (codes "main#v.shown") (codes "5") ∷ []) 0
    ∷ Accepted ∷ Accepted
    ∷ report 3 (inv (codes "main#v.view") 1 ∷ run (codes "main#v.view") 2 ∷ val (codes "main#v.view") (codes "{value: 2}") ∷ val (codes "main#v.shown") (codes "2") ∷ []) 1 ∷ [])
unfolding session
view_and_inputs = refl

-- ---- a mutable that a generator's reader changes

abbrev changing : List Entry
changing = entry (codes "mutable n = 0") [] (cell.Mutable (codes "n") no_body) (gives (num 0)) ∷ let_ (codes "g") (codes "g") [] (yields (num 0 ∷ num 1 ∷ num 2 ∷ []) None)
    ∷ bare (codes "{ g; mutable n += 1; }") (n (codes "g") ∷ named form.Mutable (codes "n") ∷ []) (changes (named form.Mutable (codes "n")) Add (num 1) (get (codes "none"))) ∷ []

abbrev changing_shows : List ℕ → List Event
changing_shows x = val (codes "main#n.shown") x ∷ val (codes "main#n.initial") (codes "0") ∷ val (codes "main#n.holder") (codes "undefined") ∷ val (codes "main#c") (codes "undefined") ∷ []

mutable_and_its_reader : session changing (book main (c (codes "n") (codes "mutable n = 0") ∷ c (codes "g") (codes "g") ∷ c (codes "c") (codes "{ g; mutable n += 1; }") ∷ []) ∷ [])
    (O (codes "n") ∷ O (codes "c") ∷ T ∷ T ∷ [])
    ≡ Ok (Accepted ∷ Accepted
    ∷ report 1 (run (codes "main#n.initial") 1 ∷ run (codes "main#g") 1 ∷ run (codes "main#c") 1 ∷ changing_shows (codes "0")) 3
    ∷ report 2 (inv (codes "main#c") 1 ∷ event.Step (codes "main#g") 1 2 ∷ run (codes "main#c") 2 ∷ changing_shows (codes "1")) 2 ∷ [])
unfolding session
mutable_and_its_reader = refl

-- ---- observers come and go

observers_come_and_go : session sums (book main (c (codes "a") (codes "a = 1") ∷ []) ∷ []) (O (codes "a") ∷ T ∷ U (codes "a") ∷ O (codes "a") ∷ T ∷ U (codes "a") ∷ T ∷ O (codes "a") ∷ T ∷ [])
    ≡ Ok (Accepted ∷ report 1 (run (codes "main#a") 1 ∷ val (codes "main#a") (codes "1") ∷ []) 1
    ∷ Accepted ∷ Accepted ∷ report 2 (val (codes "main#a") (codes "1") ∷ []) 0
    ∷ Accepted ∷ report 3 (inv (codes "main#a") 1 ∷ []) 0
    ∷ Accepted ∷ report 4 (run (codes "main#a") 2 ∷ val (codes "main#a") (codes "1") ∷ []) 1 ∷ [])
unfolding session
observers_come_and_go = refl

-- ---- one notebook imported three times, twice with an injected name

abbrev imports_thrice : List Entry
imports_thrice = let_ (codes "data = 1") (codes "data") [] (gives (num 1)) ∷ entry (codes "mutable n = 0") [] (cell.Mutable (codes "n") no_body) (gives (num 0))
    ∷ let_ (codes "r") (codes "r") (named form.Mutable (codes "n") ∷ n (codes "data") ∷ []) (changes (named form.Mutable (codes "n")) Add (get (codes "data")) (times (get (codes "data")) (num 10)))
    ∷ let_ (codes "p = 2") (codes "p") [] (gives (num 2)) ∷ let_ (codes "q = 3") (codes "q") [] (gives (num 3))
    ∷ imports (codes "i1") (s (codes "r") (codes "r1") ∷ s (codes "n") (codes "n1") ∷ []) (Some (s (codes "p") (codes "data") ∷ [])) (codes "lib")
    ∷ imports (codes "i2") (s (codes "r") (codes "r2") ∷ s (codes "n") (codes "n2") ∷ []) (Some (s (codes "q") (codes "data") ∷ [])) (codes "lib")
    ∷ imports (codes "i3") (just (codes "r") ∷ just (codes "n") ∷ []) None (codes "lib")
    ∷ let_ (codes "s") (codes "s") (n (codes "r1") ∷ n (codes "r2") ∷ n (codes "r") ∷ n (codes "n1") ∷ n (codes "n2") ∷ n (codes "n") ∷ [])
    (gives (cons (get (codes "r1")) (cons (get (codes "r2")) (cons (get (codes "r")) (cons (get (codes "n1")) (cons (get (codes "n2")) (cons (get (codes "n")) nil)))))))
    ∷ []

abbrev imports_thrice_cells : List Command
imports_thrice_cells = book (codes "lib") (c (codes "d") (codes "data = 1") ∷ c (codes "n") (codes "mutable n = 0") ∷ c (codes "r") (codes "r") ∷ [])
    ∷ book main (c (codes "p1") (codes "p = 2") ∷ c (codes "p2") (codes "q = 3") ∷ c (codes "i1") (codes "i1") ∷ c (codes "i2") (codes "i2") ∷ c (codes "i3") (codes "i3") ∷ c (codes "s") (codes "s") ∷ []) ∷ []

one_notebook_three_times : session imports_thrice imports_thrice_cells (O (codes "s") ∷ T ∷ T ∷ [])
    ≡ Ok (Accepted
    ∷ report 1 (run (codes "main#p1") 1 ∷ run (codes "main#p2") 1 ∷ run (codes "main#s") 1 ∷ run (codes "main>i1#n.initial") 1 ∷ run (codes "main>i1#r") 1
    ∷ run (codes "main>i2#n.initial") 1 ∷ run (codes "main>i2#r") 1 ∷ run (codes "lib#d") 1 ∷ run (codes "lib#n.initial") 1 ∷ run (codes "lib#r") 1
    ∷ val (codes "main#s") (codes "[20, 30, 10, 0, 0, 0]") ∷ []) 10
    ∷ report 2 (inv (codes "main#s") 1 ∷ run (codes "main#s") 2 ∷ val (codes "main#s") (codes "[20, 30, 10, 2, 3, 1]") ∷ []) 1 ∷ [])
unfolding session
one_notebook_three_times = refl

-- ---- an import with injected names that leads back

abbrev back : List Entry
back = imports (codes "i") (just (codes "a") ∷ []) (Some (s (codes "b") (codes "c") ∷ [])) (codes "lib") ∷ let_ (codes "b = 1") (codes "b") [] (gives (num 1))
    ∷ let_ (codes "a = 1") (codes "a") [] (gives (num 1)) ∷ let_ (codes "e = a") (codes "e") (n (codes "a") ∷ []) (gives (get (codes "a")))
    ∷ imports (codes "j") (just (codes "b") ∷ []) (Some []) (codes "main") ∷ []

with_import_leads_back : session back (book main (c (codes "i") (codes "i") ∷ c (codes "b") (codes "b = 1") ∷ c (codes "e") (codes "e = a") ∷ []) ∷ book (codes "lib") (c (codes "a") (codes "a = 1") ∷ []) ∷ [])
    (O (codes "e") ∷ T ∷ command.Define (codes "lib") (c (codes "j") (codes "j")) None ∷ T ∷ [])
    ≡ Ok (Accepted ∷ report 1 (run (codes "main#e") 1 ∷ run (codes "main>i#a") 1 ∷ val (codes "main#e") (codes "1") ∷ []) 2
    ∷ Refused (cause.WithCycle (codes "main")) ∷ report 2 (val (codes "main#e") (codes "1") ∷ []) 0 ∷ [])
unfolding session
with_import_leads_back = refl

-- ---- refusals

refused_edits : session sums (book main (c (codes "a") (codes "a = 1") ∷ c (codes "b") (codes "b = a + 2") ∷ []) ∷ [])
    (O (codes "zz") ∷ command.Define main (c (codes "a") (codes "a = 1")) None ∷ command.Define main (c (codes "z") (codes "a = 1")) (Some 3)
    ∷ command.Input main (codes "a") (P.Int (pos 1)) ∷ command.Delete (codes "no") (codes "a") ∷ command.Notebook main [] ∷ [])
    ≡ Ok (Refused (cause.NoCell (codes "zz")) ∷ Refused (cause.CellExists (codes "a")) ∷ Refused (cause.BadPlace 3) ∷ Refused cause.NoView
    ∷ Refused (cause.NoNotebook (codes "no")) ∷ Refused (cause.NotebookExists main) ∷ [])
unfolding session
refused_edits = refl

-- ---- an import from nowhere, and of nothing

abbrev nowhere : List Entry
nowhere = imports (codes "k") (just (codes "a") ∷ []) None (codes "none") ∷ imports (codes "i") (s (codes "zz") (codes "b") ∷ []) None (codes "lib")
    ∷ let_ (codes "c = b") (codes "c") (n (codes "b") ∷ []) (gives (get (codes "b"))) ∷ []

import_of_nothing : session nowhere (book main (c (codes "i") (codes "i") ∷ c (codes "c") (codes "c = b") ∷ []) ∷ book (codes "lib") [] ∷ [])
    (command.Define main (c (codes "k") (codes "k")) None ∷ O (codes "c") ∷ T ∷ [])
    ≡ Ok (Refused (cause.ImportMissing (codes "none")) ∷ Accepted ∷ report 1 (bad (codes "main#c") (codes "zz") (codes " is not defined") ∷ []) 0 ∷ [])
unfolding session
import_of_nothing = refl

-- ---- a thrown value without a message

abbrev throwing : List Entry
throwing = let_ (codes "a") (codes "a") [] (throws (num 5)) ∷ let_ (codes "b = a") (codes "b") (n (codes "a") ∷ []) (gives (get (codes "a"))) ∷ []

thrown_value_without_message : session throwing (book main (c (codes "a") (codes "a") ∷ c (codes "b") (codes "b = a") ∷ []) ∷ []) (O (codes "a") ∷ O (codes "b") ∷ T ∷ [])
    ≡ Ok (Accepted ∷ Accepted ∷ report 1 (run (codes "main#a") 1 ∷ err (codes "main#a") (codes "thrown 5") ∷ bad (codes "main#b") (codes "a") (codes " could not be resolved") ∷ []) 1 ∷ [])
unfolding session
thrown_value_without_message = refl

-- ---- changes that are lost

abbrev losing : List Entry
losing = entry (codes "mutable n = 0") [] (cell.Mutable (codes "n") no_body) (gives (num 0))
    ∷ bare (codes "c") (named form.Mutable (codes "n") ∷ []) (changes (named form.Mutable (codes "n")) Mul (get (codes "none")) (num 7)) ∷ []

lost_changes : session losing (book main (c (codes "n") (codes "mutable n = 0") ∷ c (codes "c") (codes "c") ∷ []) ∷ []) (O (codes "c") ∷ T ∷ [])
    ≡ Ok (Accepted ∷ report 1 (run (codes "main#n.initial") 1 ∷ run (codes "main#c") 1 ∷ event.Lost (codes "main#n.holder") lost.BadResult ∷ val (codes "main#c") (codes "7") ∷ []) 2 ∷ [])
unfolding session
lost_changes = refl

-- ---- bundles that are refused

bundle_with_two_of_an_id : session [] (book main [] ∷ book main [] ∷ []) [] ≡ Err (cause.NotebookExists main)
unfolding session
bundle_with_two_of_an_id = refl

bundle_without_main : session [] (book (codes "y") [] ∷ []) [] ≡ Err (cause.NoNotebook main)
unfolding session
bundle_without_main = refl

-- ---- a definition that makes a name one of two

abbrev second : List Entry
second = let_ (codes "a = 1") (codes "a") [] (gives (num 1)) ∷ let_ (codes "a = 2") (codes "a") [] (gives (num 2)) ∷ let_ (codes "b = a") (codes "b") (n (codes "a") ∷ []) (gives (get (codes "a"))) ∷ []

second_definition_of_a_name : session second (book main (c (codes "a") (codes "a = 1") ∷ c (codes "b") (codes "b = a") ∷ []) ∷ []) (O (codes "b") ∷ T ∷ command.Define main (c (codes "c") (codes "a = 2")) None ∷ T ∷ [])
    ≡ Ok (Accepted ∷ report 1 (run (codes "main#a") 1 ∷ run (codes "main#b") 1 ∷ val (codes "main#b") (codes "1") ∷ []) 2
    ∷ Accepted ∷ report 2 (inv (codes "main#a") 1 ∷ inv (codes "main#b") 1 ∷ bad (codes "main#b") (codes "a") (codes " is defined more than once") ∷ []) 0 ∷ [])
unfolding session
second_definition_of_a_name = refl

-- ---- a throw after a yield

throw_after_a_yield : session (let_ (codes "g") (codes "g") [] (yields (num 1 ∷ []) (Some (num 2))) ∷ []) (book main (c (codes "g") (codes "g") ∷ []) ∷ []) (O (codes "g") ∷ T ∷ T ∷ T ∷ [])
    ≡ Ok (Accepted ∷ report 1 (run (codes "main#g") 1 ∷ val (codes "main#g") (codes "1") ∷ []) 1
    ∷ report 2 (event.Step (codes "main#g") 1 2 ∷ err (codes "main#g") (codes "thrown 2") ∷ []) 1 ∷ report 3 (err (codes "main#g") (codes "thrown 2") ∷ []) 0 ∷ [])
unfolding session
throw_after_a_yield = refl

-- ---- imports in a circle; one name imported twice; no builtin through an import

abbrev round : List Entry
round = imports (codes "i") (just (codes "a") ∷ []) None (codes "lib") ∷ imports (codes "j") (just (codes "a") ∷ []) None (codes "main")
    ∷ let_ (codes "c = a") (codes "c") (n (codes "a") ∷ []) (gives (get (codes "a"))) ∷ []

imports_in_a_circle : session round (book main (c (codes "i") (codes "i") ∷ c (codes "c") (codes "c = a") ∷ []) ∷ book (codes "lib") (c (codes "j") (codes "j") ∷ []) ∷ []) (O (codes "c") ∷ T ∷ [])
    ≡ Ok (Accepted ∷ report 1 (err (codes "main#c") (codes "RuntimeError: circular definition") ∷ []) 0 ∷ [])
unfolding session
imports_in_a_circle = refl

abbrev under_two_names : List Entry
under_two_names = imports (codes "i") (just (codes "a") ∷ s (codes "a") (codes "b") ∷ []) None (codes "lib") ∷ let_ (codes "a = 2") (codes "a") [] (gives (num 2))
    ∷ let_ (codes "c = a + b") (codes "c") (n (codes "a") ∷ n (codes "b") ∷ []) (gives (plus (get (codes "a")) (get (codes "b")))) ∷ []

one_name_imported_twice : session under_two_names (book main (c (codes "i") (codes "i") ∷ c (codes "c") (codes "c = a + b") ∷ []) ∷ book (codes "lib") (c (codes "a") (codes "a = 2") ∷ []) ∷ []) (O (codes "c") ∷ T ∷ [])
    ≡ Ok (Accepted ∷ report 1 (run (codes "main#c") 1 ∷ run (codes "lib#a") 1 ∷ val (codes "main#c") (codes "4") ∷ []) 2 ∷ [])
unfolding session
one_name_imported_twice = refl

abbrev log_there : List Entry
log_there = imports (codes "i") (s (codes "log") (codes "l") ∷ []) None (codes "lib") ∷ let_ (codes "c = l") (codes "c") (n (codes "l") ∷ []) (gives (get (codes "l")))
    ∷ let_ (codes "d = log") (codes "d") (n (codes "log") ∷ []) (gives (num 3)) ∷ []

builtin_through_an_import : session log_there (book main (c (codes "i") (codes "i") ∷ c (codes "c") (codes "c = l") ∷ c (codes "d") (codes "d = log") ∷ []) ∷ book (codes "lib") [] ∷ []) (O (codes "c") ∷ O (codes "d") ∷ T ∷ [])
    ≡ Ok (Accepted ∷ Accepted ∷ report 1 (run (codes "main#d") 1 ∷ bad (codes "main#c") (codes "log") (codes " is not defined") ∷ val (codes "main#d") (codes "3") ∷ []) 1 ∷ [])
unfolding session
builtin_through_an_import = refl

-- ---- resolution alone

abbrev at_main : List ℕ → Place
at_main x = record { path = record { root = main; serials = [] }; name = n x }

abbrev resolved_in : {V R : Type 0} → Language V R → List ℕ → Result World Cause → Result Resolved Cause
resolved_in {V} {R} E x (Ok W) = Ok (resolve E.reader (modules_of E.reader W) (at_main x))
resolved_in {V} {R} E x (Err e) = Err e

resolves : List Entry → List Command → List ℕ → Result Resolved Cause
unfolding session
resolves table books x = resolved_in (tiny table) x (open_world (tiny table).reader main books)

abbrev two_of_x : List Command
two_of_x = book main (c (codes "x1") (codes "x = 1") ∷ c (codes "x2") (codes "x = 2") ∷ []) ∷ []

resolves_to_several : resolves twice two_of_x (codes "x") ≡ Ok (Duplicate (at_main (codes "x")))
unfolding resolves
resolves_to_several = refl

resolves_to_nothing : resolves twice two_of_x (codes "zz") ≡ Ok (Missing (at_main (codes "zz")))
unfolding resolves
resolves_to_nothing = refl

resolves_to_one : resolves twice (book main (c (codes "x1") (codes "x = 1") ∷ []) ∷ []) (codes "x") ≡ Ok (Home (record { path = record { root = main; serials = [] }; cell = 1; part = part.Main }))
unfolding resolves
resolves_to_one = refl

-- the place at which a chain comes by a second time
resolves_to_a_loop : resolves round (book main (c (codes "i") (codes "i") ∷ []) ∷ book (codes "lib") (c (codes "j") (codes "j") ∷ []) ∷ []) (codes "a") ≡ Ok (Loop (at_main (codes "a")))
unfolding resolves
resolves_to_a_loop = refl

-- a refused edit leaves the world
abbrev edited_in : {V R : Type 0} → Language V R → Command → Result World Cause → Result (Answer × Result World Cause) Cause
edited_in {V} {R} E command (Ok W) = Ok ((answer E (opened W) command).answer, Ok (answer E (opened W) command).state.world)
edited_in {V} {R} E command (Err e) = Err e

edited : List Entry → List Command → Command → Result (Answer × Result World Cause) Cause
unfolding session
edited table books command = edited_in (tiny table) command (open_world (tiny table).reader main books)

world : List Entry → List Command → Result World Cause
unfolding session
world table books = open_world (tiny table).reader main books

refused_edit_changes_nothing : edited twice two_of_x (command.Define main (c (codes "z") (codes "x = 1")) (Some 3)) ≡ Ok (Refused (cause.BadPlace 3), world twice two_of_x)
unfolding edited world
refused_edit_changes_nothing = refl

-- ---- too many instances

abbrev copies : ℕ → List ImportSpec
copies zero = []
copies (suc k) = just (codes "z") ∷ copies k

abbrev with_cells : ℕ → List ℕ → List NewCell
with_cells zero id = []
with_cells (suc k) id = c id (codes "i") ∷ with_cells k (49 ∷ id)

abbrev many_imports : List Entry
many_imports = imports (codes "i") [] (Some []) (codes "lib") ∷ let_ (codes "a = 1") (codes "a") [] (gives (num 1)) ∷ []

many : ℕ → Result (List Answer) Cause
unfolding session
many k = session many_imports (book main (with_cells k (codes "c")) ∷ book (codes "lib") (c (codes "a") (codes "a = 1") ∷ []) ∷ []) []

too_many_instances : many 255 ≡ Err cause.TooManyInstances
unfolding many session
too_many_instances = refl

as_many_instances_as_there_may_be : many 254 ≡ Ok []
unfolding many session
as_many_instances_as_there_may_be = refl

-- ---- another meaning of a name renews its reader, though the variables that it reads are the same

abbrev swapped : List Entry
swapped = imports (codes "i") (just (codes "a") ∷ just (codes "b") ∷ s (codes "a") (codes "c") ∷ []) None (codes "lib")
    ∷ imports (codes "j") (just (codes "a") ∷ just (codes "b") ∷ s (codes "b") (codes "c") ∷ []) None (codes "lib")
    ∷ let_ (codes "a = 1") (codes "a") [] (gives (num 1)) ∷ let_ (codes "b = 2") (codes "b") [] (gives (num 2))
    ∷ let_ (codes "s") (codes "s") (n (codes "a") ∷ n (codes "b") ∷ n (codes "c") ∷ []) (gives (cons (get (codes "a")) (cons (get (codes "b")) (cons (get (codes "c")) nil)))) ∷ []

another_meaning_of_a_name : session swapped (book main (c (codes "i") (codes "i") ∷ c (codes "s") (codes "s") ∷ []) ∷ book (codes "lib") (c (codes "a") (codes "a = 1") ∷ c (codes "b") (codes "b = 2") ∷ []) ∷ [])
    (O (codes "s") ∷ T ∷ re (codes "i") (codes "j") ∷ T ∷ [])
    ≡ Ok (Accepted ∷ report 1 (run (codes "main#s") 1 ∷ run (codes "lib#a") 1 ∷ run (codes "lib#b") 1 ∷ val (codes "main#s") (codes "[1, 2, 1]") ∷ []) 3
    ∷ Accepted ∷ report 2 (inv (codes "main#s") 1 ∷ run (codes "main#s") 2 ∷ val (codes "main#s") (codes "[1, 2, 2]") ∷ []) 1 ∷ [])
unfolding session
another_meaning_of_a_name = refl

-- ---- a notebook of all forms of cells; values of the small language

abbrev bar : Function
bar = record no_body { name = Some (codes "bar") }

abbrev all_forms : List Entry
all_forms = let_ (codes "data") (codes "data") [] (gives (num 10)) ∷ entry (codes "viewof city") [] (cell.View (codes "city") no_body) (gives (wrap (num 1)))
    ∷ let_ (codes "rows") (codes "rows") (n (codes "data") ∷ n (codes "city") ∷ []) (gives (plus (get (codes "data")) (get (codes "city"))))
    ∷ let_ (codes "total") (codes "total") (n (codes "rows") ∷ []) (gives (get (codes "rows")))
    ∷ let_ (codes "share") (codes "share") (n (codes "total") ∷ n (codes "data") ∷ []) (gives (plus (get (codes "total")) (get (codes "data"))))
    ∷ entry (codes "function bar") [] (cell.Function bar) (gives (num 0))
    ∷ let_ (codes "chart") (codes "chart") (n (codes "rows") ∷ n (codes "bar") ∷ []) (gives (plus (get (codes "rows")) (get (codes "bar"))))
    ∷ entry (codes "mutable clicks") [] (cell.Mutable (codes "clicks") no_body) (gives (num 0))
    ∷ bare (codes "watch") (n (codes "rows") ∷ named form.Mutable (codes "clicks") ∷ []) (changes (named form.Mutable (codes "clicks")) Add (num 1) (get (codes "none")))
    ∷ imports (codes "imp") (just (codes "summary") ∷ []) (Some (s (codes "rows") (codes "table") ∷ [])) (codes "stats")
    ∷ let_ (codes "out") (codes "out") (n (codes "summary") ∷ []) (gives (get (codes "summary")))
    ∷ let_ (codes "table") (codes "table") [] (gives (num 0)) ∷ let_ (codes "summary") (codes "summary") (n (codes "table") ∷ []) (gives (plus (get (codes "table")) (num 1))) ∷ []

abbrev all_forms_cells : List Command
all_forms_cells = book main (c (codes "title") (codes "md") ∷ c (codes "data") (codes "data") ∷ c (codes "pick") (codes "viewof city") ∷ c (codes "rows") (codes "rows") ∷ c (codes "total") (codes "total")
    ∷ c (codes "share") (codes "share") ∷ c (codes "bar") (codes "function bar") ∷ c (codes "chart") (codes "chart") ∷ c (codes "clicks") (codes "mutable clicks") ∷ c (codes "watch") (codes "watch")
    ∷ c (codes "imp") (codes "imp") ∷ c (codes "out") (codes "out") ∷ []) ∷ book (codes "stats") (c (codes "t") (codes "table") ∷ c (codes "s") (codes "summary") ∷ []) ∷ []

abbrev all_forms_shows : List ℕ → List ℕ → List ℕ → List ℕ → List ℕ → List Event
all_forms_shows total share chart clicks out = err (codes "main#title") (codes "SyntaxError") ∷ val (codes "main#total") total ∷ val (codes "main#share") share ∷ val (codes "main#chart") chart
    ∷ val (codes "main#clicks.shown") clicks ∷ val (codes "main#clicks.initial") (codes "0") ∷ val (codes "main#clicks.holder") (codes "undefined") ∷ val (codes "main#watch") (codes "undefined")
    ∷ val (codes "main#out") out ∷ []

all_forms_of_cells : session all_forms all_forms_cells (O (codes "title") ∷ O (codes "total") ∷ O (codes "share") ∷ O (codes "chart") ∷ O (codes "clicks") ∷ O (codes "watch") ∷ O (codes "out") ∷ T
    ∷ command.Input main (codes "pick") (P.Int (pos 2)) ∷ T ∷ [])
    ≡ Ok (Accepted ∷ Accepted ∷ Accepted ∷ Accepted ∷ Accepted ∷ Accepted ∷ Accepted
    ∷ report 1 (run (codes "main#data") 1 ∷ run (codes "main#pick.view") 1 ∷ run (codes "main#rows") 1 ∷ run (codes "main#total") 1 ∷ run (codes "main#share") 1 ∷ run (codes "main#bar") 1
    ∷ run (codes "main#chart") 1 ∷ run (codes "main#clicks.initial") 1 ∷ run (codes "main#watch") 1 ∷ run (codes "main#out") 1 ∷ run (codes "main>imp#s") 1
    ∷ all_forms_shows (codes "11") (codes "21") (codes "11") (codes "0") (codes "12")) 11
    ∷ Accepted
    ∷ report 2 (inv (codes "main#rows") 1 ∷ inv (codes "main#total") 1 ∷ inv (codes "main#share") 1 ∷ inv (codes "main#chart") 1 ∷ inv (codes "main#watch") 1 ∷ inv (codes "main#out") 1 ∷ inv (codes "main>imp#s") 1
    ∷ run (codes "main#rows") 2 ∷ run (codes "main#total") 2 ∷ run (codes "main#share") 2 ∷ run (codes "main#chart") 2 ∷ run (codes "main#watch") 2 ∷ run (codes "main#out") 2 ∷ run (codes "main>imp#s") 2
    ∷ all_forms_shows (codes "12") (codes "22") (codes "12") (codes "1") (codes "13")) 7 ∷ [])
unfolding session
all_forms_of_cells = refl
