-- What is written reads back.
use Rattle.std.proofs.Common.{◌≡◌, ℕ, ◌+◌, ◌≤◌, arith, nat_le, List, [], ◌∷◌, Bool, true, false, refl, map, Some, None}
use Rattle.std.specs.Prelude.{◌&&◌, Ok}
use Rattle.std.specs.Str.{IsUtf8}
use Rattle.serde_json.specs.Data.{Data}
use Rattle.serde_json.specs.Read.{read}
use Rattle.serde_json.specs.View.{items_of}
use Rattle.ob_base.specs.declared.command.Command.{Command}
use Rattle.ob_base.specs.declared.command.Command.TheVariants as commands
use Rattle.ob_base.specs.declared.command.NewCell.{NewCell}
use Rattle.ob_script.specs.Ids.{is_cell_id, is_notebook_id}
use Rattle.ob_script.specs.Fields.{entries}
use Rattle.ob_script.specs.Commands.{new_cell, new_notebook, fields, word_of, command_of, command_of_line}
use Rattle.ob_script.specs.Bundles.{bundle_of, bundle_of_line, one_notebook}
use Rattle.ob_script.specs.Forms.{have_ids, has_forms, is_place, is_readable}
use Rattle.ob_script.specs.Inputs.{value_field, within_limits, is_within_limits}
use Rattle.ob_script.specs.Returns.{InputIsBack}
use Rattle.ob_base.specs.PlainData.{nesting, elements, has_short_texts}
use borrow.Author.Tests.{leb-true}
use Rattle.ob_script.specs.Texts.{cell_data, command_data, bundle_data, notebook_data, input_nesting}
use Rattle.ob_script.proofs.JsonReading.{json_of-text}

pub both : (a b : Bool) → (a && b) ≡ true → (a ≡ true) × (b ≡ true)
both true true h = (refl, refl)
both true false h = (refl, h)
both false b h = (h, cc)

cell_back : (cell : NewCell) → is_cell_id cell.id ≡ true → new_cell (cell_data cell) ≡ Ok cell
unfolding new_cell
cell_back cell h = rw h refl

pub cells_back : (cells : List NewCell) → have_ids cells ≡ true → entries new_cell (items_of (map cell_data cells)) ≡ Ok cells
cells_back [] h = refl
cells_back (cell ∷ cells) h =
    let p = both (is_cell_id cell.id) (have_ids cells) h in
    rw (cell_back cell p.0, cells_back cells p.1) refl

pub notebook_back : (id : List ℕ) (cells : List NewCell) → is_notebook_id id ≡ true → have_ids cells ≡ true
    → new_notebook (notebook_data id cells) ≡ Ok (commands.Notebook id cells)
unfolding new_notebook
notebook_back id cells h k = rw (h, cells_back cells k) refl

pub command_back : (command : Command) → InputIsBack command → has_forms command ≡ true → command_of (command_data command) ≡ Ok command
unfolding command_of fields word_of new_notebook value_field within_limits
command_back (commands.Notebook id cells) b h =
    let p = both (is_notebook_id id) (have_ids cells) h in rw (p.0, cells_back cells p.1) refl
command_back (commands.Define notebook cell None) b h =
    let p = both (is_notebook_id notebook && is_cell_id cell.id) true h in
    let q = both (is_notebook_id notebook) (is_cell_id cell.id) p.0 in rw (q.0, q.1) refl
command_back (commands.Define notebook cell (Some place)) b h =
    let p = both (is_notebook_id notebook && is_cell_id cell.id) (is_place (Some place)) h in
    let q = both (is_notebook_id notebook) (is_cell_id cell.id) p.0 in rw (q.0, q.1, p.1) refl
command_back (commands.Redefine notebook cell) b h =
    let q = both (is_notebook_id notebook) (is_cell_id cell.id) h in rw (q.0, q.1) refl
command_back (commands.Delete notebook cell) b h =
    let q = both (is_notebook_id notebook) (is_cell_id cell) h in rw (q.0, q.1) refl
command_back (commands.Input notebook cell value) b h =
    let p = both (is_notebook_id notebook && is_cell_id cell && is_readable value) (is_within_limits value) h in
    let q = both (is_notebook_id notebook && is_cell_id cell) (is_readable value) p.0 in
    let r = both (is_notebook_id notebook) (is_cell_id cell) q.0 in rw (r.0, r.1, b q.1, p.1) refl
command_back (commands.Observe notebook cell) b h =
    let q = both (is_notebook_id notebook) (is_cell_id cell) h in rw (q.0, q.1) refl
command_back (commands.Unobserve notebook cell) b h =
    let q = both (is_notebook_id notebook) (is_cell_id cell) h in rw (q.0, q.1) refl
command_back commands.Tick b h = refl

pub bundle_back : (main : List ℕ) (cells : List NewCell) → (is_notebook_id main && have_ids cells) ≡ true
    → bundle_of (bundle_data main cells) ≡ Ok (one_notebook main cells)
unfolding bundle_of
bundle_back main cells h =
    let p = both (is_notebook_id main) (have_ids cells) h in
    rw (p.0, notebook_back main cells p.0 p.1) refl

pub shallow : (command : Command) → has_forms command ≡ true → input_nesting command + 3 ≤ 127
shallow (commands.Notebook id cells) h = omega arith
shallow (commands.Define notebook cell place) h = omega arith
shallow (commands.Redefine notebook cell) h = omega arith
shallow (commands.Delete notebook cell) h = omega arith
shallow (commands.Input notebook cell value) h =
    let p = both (is_notebook_id notebook && is_cell_id cell && is_readable value) (is_within_limits value) h in
    let q = both (has_short_texts value && nat_le (nesting value) 100) (nat_le (elements value) 50000) p.1 in
    let r = both (has_short_texts value) (nat_le (nesting value) 100) q.0 in
    let d : nesting value ≤ 100 = leb-true (nesting value) 100 r.1 in omega arith
shallow (commands.Observe notebook cell) h = omega arith
shallow (commands.Unobserve notebook cell) h = omega arith
shallow commands.Tick h = omega arith

pub command_line_back : (line : List ℕ) (d : Data) (command : Command) → IsUtf8 line → read line ≡ Some d → d ≡ command_data command
    → InputIsBack command → has_forms command ≡ true → command_of_line line ≡ Ok command
unfolding command_of_line
command_line_back line d command u r e b h = rw (json_of-text line (Some d) u r, e) (command_back command b h)

pub bundle_line_back : (line : List ℕ) (d : Data) (main : List ℕ) (cells : List NewCell) → IsUtf8 line → read line ≡ Some d → d ≡ bundle_data main cells
    → (is_notebook_id main && have_ids cells) ≡ true → bundle_of_line line ≡ Ok (one_notebook main cells)
unfolding bundle_of_line
bundle_line_back line d main cells u r e h = rw (json_of-text line (Some d) u r, e) (bundle_back main cells h)
