-- The commands and bundles whose lines read back (this project).
use Rattle.std.specs.Prelude.{ℕ, ◌^◌, ◌&&◌, List, [], ◌∷◌, map, bytes_eq, Bool, true, false, nat_lt, Option, Some, None}
use Rattle.std.specs.Cmp.Lexicographic.{slice_cmp}
use Rattle.std.specs.List.{list_all}
use Rattle.std.specs.Ordering.{nat_cmp, match_ordering}
use Rattle.ob_base.specs.PlainData.{are_all}
use Rattle.ob_base.specs.declared.plain.Plain.{Plain, fold-Plain}
use Rattle.ob_base.specs.declared.plain.Plain.TheOpen.{Plain-F, PlainProp-F}
use Rattle.ob_base.specs.declared.plain.PlainProp.{PlainProp, fold-PlainProp}
use Rattle.ob_base.specs.declared.command.Command.{Command}
use Rattle.ob_base.specs.declared.command.Command.TheVariants as commands
use Rattle.ob_base.specs.declared.command.NewCell.{NewCell}
use Rattle.ob_script.specs.Ids.{is_cell_id, is_notebook_id}
use Rattle.ob_base.specs.Integers.{is_in_range}
use Rattle.ob_base.specs.Utf16.{utf16}
use Rattle.ob_script.specs.Inputs.{is_within_limits}
use Rattle.ob_script.specs.Texts.{utf8}

-- ---- plain data that JSON can be read as

-- no surrogate without a partner: the text of the units has these units
abbrev pub is_text : List ℕ → Bool
is_text units = bytes_eq (utf16 (utf8 units)) units

abbrev pub is_before : List ℕ → List ℕ → Bool
is_before k l = match_ordering (slice_cmp nat_cmp k l) true false false

-- each stands before all later ones in byte order, so that none stands there twice
abbrev pub are_ascending : List (List ℕ) → Bool
are_ascending [] = true
are_ascending (k ∷ ks) = list_all (is_before k) ks && are_ascending ks

-- the keys in UTF-8 ascend, and each property can be read
abbrev pub is_object : List (List ℕ × Bool) → Bool
is_object props = are_ascending (map (λ p. p.0) props) && list_all (λ p. p.1) props

abbrev pub readable_step : Plain-F Bool (List ℕ × Bool) → Bool
readable_step Plain-F.Undefined = false
readable_step Plain-F.Null = true
readable_step (Plain-F.Bool b) = true
readable_step (Plain-F.Int n) = is_in_range n
readable_step (Plain-F.Text units) = is_text units
readable_step (Plain-F.Array items) = are_all items
readable_step (Plain-F.Object props) = is_object props

abbrev pub readable_prop_step : PlainProp-F Bool (List ℕ × Bool) → List ℕ × Bool
readable_prop_step p = (utf8 p.key, is_text p.key && p.value)

abbrev pub is_readable : Plain → Bool
is_readable = fold-Plain Bool (List ℕ × Bool) readable_step readable_prop_step

abbrev pub readable_prop : PlainProp → List ℕ × Bool
readable_prop = fold-PlainProp Bool (List ℕ × Bool) readable_step readable_prop_step

-- ---- commands and bundles

abbrev pub have_ids : List NewCell → Bool
have_ids = list_all (λ cell. is_cell_id cell.id)

abbrev pub is_place : Option ℕ → Bool
is_place None = true
is_place (Some place) = nat_lt place (2 ^ 32)

-- its fields have their forms
abbrev pub has_forms : Command → Bool
has_forms (commands.Notebook id cells) = is_notebook_id id && have_ids cells
has_forms (commands.Define notebook cell place) = is_notebook_id notebook && is_cell_id cell.id && is_place place
has_forms (commands.Redefine notebook cell) = is_notebook_id notebook && is_cell_id cell.id
has_forms (commands.Delete notebook cell) = is_notebook_id notebook && is_cell_id cell
has_forms (commands.Input notebook cell value) = is_notebook_id notebook && is_cell_id cell && is_readable value && is_within_limits value
has_forms (commands.Observe notebook cell) = is_notebook_id notebook && is_cell_id cell
has_forms (commands.Unobserve notebook cell) = is_notebook_id notebook && is_cell_id cell
has_forms commands.Tick = true
