-- Names with their forms, each once.
use Rattle.std.specs.Prelude.{◌≡◌, ℕ, Bool, true, false, ◌&&◌, List, if◌then◌else◌, bytes_eq}
use denote.Ref.{Bor}
use Rattle.ob_tree.specs.Scopes.{Mention}
use Rattle.ob_tree.specs.Names.{with_one, is_free, referred}
use Rattle.ob_names.specs.Forms.{name_ref}
use Rattle.ob_names.specs.declared.form.NameForm.{NameForm}
use Rattle.ob_names.specs.declared.form.NameForm.TheVariants as names
use Rattle.ob_names.specs.declared.form.NameRef.{NameRef}

-- a name in the set
abbrev pub ref_of : NameForm × Bor (List ℕ) → NameRef
ref_of k = record { form = k.0; name = k.1.now }

abbrev pub same_name_form : NameForm → NameForm → Bool
same_name_form names.Plain names.Plain = true
same_name_form names.Viewof names.Viewof = true
same_name_form names.Mutable names.Mutable = true
same_name_form names.Initial names.Initial = true
same_name_form _ _ = false

abbrev pub same_ref : NameRef → NameRef → Bool
same_ref a b = same_name_form a.form b.form && bytes_eq a.name b.name

-- the names with that of a mention, where that is free
abbrev pub with_free : List NameRef → Mention → List NameRef
with_free refs m = if is_free m then with_one same_ref refs (name_ref (referred m)) else refs
