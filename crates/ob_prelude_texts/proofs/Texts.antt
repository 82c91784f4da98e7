-- Each text of a builtin reads as the cell of its tree.
use Rattle.std.proofs.Common.{◌≡◌, ℕ, true, List, refl, ap, sym, ◌∙◌, subst, chars}
use Rattle.std.specs.Prelude.{encode_utf8_all}
use Rattle.std.proofs.Math.Utf8.{scalars}
use Rattle.std.proofs.lemmas.Str.{chars-encodes}
use Rattle.ob_tree_types.specs.declared.tree.Expr.TheVariants as node
use Rattle.ob_tree_types.specs.declared.tree.Function.{Function}
use Rattle.ob_tree_types.specs.declared.cell.CellTree.TheVariants as cell
use Rattle.ob_grammar.specs.Cells.{of_value}
use Rattle.ob_grammar.specs.Readable.{TextReads}
use Rattle.ob_tree_prelude.specs.declared.prelude.Prelude.{Prelude}
use Rattle.ob_tree_prelude.specs.declared.prelude.Prelude.TheVariants as prelude
use Rattle.ob_tree_prelude.specs.Trees.{tree_of}
use Rattle.ob_prelude_texts.specs.Texts.{text_of}
use Rattle.ob_prelude_texts.proofs.Tokens.{map_text, filter_text, each_text, some_text, every_text, reduce_text, from_text}
use Rattle.ob_prelude_texts.proofs.SameTrees.{map_is, filter_is, each_is, some_is, every_is, reduce_is, from_is}
use Rattle.ob_prelude_texts.proofs.Reading.{map_text_reads, filter_text_reads, each_text_reads, some_text_reads, every_text_reads, reduce_text_reads, from_text_reads}

abbrev Reads : Prelude → Type 0
Reads which = TextReads (chars (text_of which)) (cell.Bare (of_value (node.Function (tree_of which))))

-- bytes that spell characters
spelt : (cs bytes : List ℕ) → encode_utf8_all cs ≡ bytes → scalars cs ≡ true → chars bytes ≡ cs
spelt cs bytes e are = ap chars (sym e) ∙ chars-encodes cs are

map_chars : chars (text_of prelude.Map) ≡ map_text
unfolding lib.Utf8.encode
map_chars = spelt map_text _ refl refl

filter_chars : chars (text_of prelude.Filter) ≡ filter_text
unfolding lib.Utf8.encode
filter_chars = spelt filter_text _ refl refl

each_chars : chars (text_of prelude.ForEach) ≡ each_text
unfolding lib.Utf8.encode
each_chars = spelt each_text _ refl refl

some_chars : chars (text_of prelude.Some) ≡ some_text
unfolding lib.Utf8.encode
some_chars = spelt some_text _ refl refl

every_chars : chars (text_of prelude.Every) ≡ every_text
unfolding lib.Utf8.encode
every_chars = spelt every_text _ refl refl

reduce_chars : chars (text_of prelude.Reduce) ≡ reduce_text
unfolding lib.Utf8.encode
reduce_chars = spelt reduce_text _ refl refl

from_chars : chars (text_of prelude.From) ≡ from_text
unfolding lib.Utf8.encode
from_chars = spelt from_text _ refl refl

-- the same of a text and a tree that are written otherwise
carried : {text other : List ℕ} {f g : Function} → TextReads text (cell.Bare (of_value (node.Function f))) → other ≡ text → g ≡ f
    → TextReads other (cell.Bare (of_value (node.Function g)))
carried {text} {other} {f} {g} reads e h =
    subst (λ t. TextReads t (cell.Bare (of_value (node.Function g)))) (sym e)
    (subst (λ a. TextReads text (cell.Bare (of_value (node.Function a)))) (sym h) reads)

pub texts_read : (which : Prelude) → Reads which
texts_read prelude.Map = carried map_text_reads map_chars map_is
texts_read prelude.Filter = carried filter_text_reads filter_chars filter_is
texts_read prelude.ForEach = carried each_text_reads each_chars each_is
texts_read prelude.Some = carried some_text_reads some_chars some_is
texts_read prelude.Every = carried every_text_reads every_chars every_is
texts_read prelude.Reduce = carried reduce_text_reads reduce_chars reduce_is
texts_read prelude.From = carried from_text_reads from_chars from_is
