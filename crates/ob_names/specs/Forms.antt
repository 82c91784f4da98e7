-- How the names of a cell are answered.
use Rattle.ob_tree_types.specs.declared.cell.SpecForm.{SpecForm}
use Rattle.ob_tree_types.specs.declared.cell.SpecForm.TheVariants as forms
use Rattle.ob_tree.specs.Names.{Referred}
use Rattle.ob_names.specs.declared.form.NameForm.{NameForm}
use Rattle.ob_names.specs.declared.form.NameForm.TheVariants as names
use Rattle.ob_names.specs.declared.form.NameRef.{NameRef}

-- the form of a name after what stands before it
abbrev pub name_form : SpecForm → NameForm
name_form forms.Plain = names.Plain
name_form forms.Viewof = names.Viewof
name_form forms.Mutable = names.Mutable

-- a name to which a cell refers, as it is answered
abbrev pub name_ref : Referred → NameRef
name_ref r = record { form = name_form r.form; name = r.name }
