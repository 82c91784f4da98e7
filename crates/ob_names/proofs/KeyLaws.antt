-- The keys of a set of names with their forms.
use Rattle.std.proofs.Common.{◌≡◌, ℕ, Bool, List, refl, ap, ◌&&◌, bytes_eq}
use denote.Ref.{Bor}
use Rattle.ob_names.specs.contracts.form.NameFormPartialEq.TheImpl as form_eq
use Rattle.ob_names.specs.Sets.{ref_of, same_name_form, same_ref}
use Rattle.ob_names.specs.declared.form.NameForm.{NameForm}
use Rattle.ob_names.specs.declared.form.NameForm.TheVariants as names

abbrev Key : Type 0
Key = NameForm × Bor (List ℕ)

abbrev pub same_key : Key → Key → Bool
same_key a b = form_eq.ghosts.eq a.0 b.0 && bytes_eq a.1.now b.1.now

forms_same : (a b : NameForm) → same_name_form a b ≡ form_eq.ghosts.eq a b
forms_same names.Plain names.Plain = refl
forms_same names.Plain names.Viewof = refl
forms_same names.Plain names.Mutable = refl
forms_same names.Plain names.Initial = refl
forms_same names.Viewof names.Plain = refl
forms_same names.Viewof names.Viewof = refl
forms_same names.Viewof names.Mutable = refl
forms_same names.Viewof names.Initial = refl
forms_same names.Mutable names.Plain = refl
forms_same names.Mutable names.Viewof = refl
forms_same names.Mutable names.Mutable = refl
forms_same names.Mutable names.Initial = refl
forms_same names.Initial names.Plain = refl
forms_same names.Initial names.Viewof = refl
forms_same names.Initial names.Mutable = refl
forms_same names.Initial names.Initial = refl

pub keys_same : (a b : Key) → same_ref (ref_of a) (ref_of b) ≡ same_key a b
keys_same a b = ap (λ t. t && bytes_eq a.1.now b.1.now) (forms_same a.0 b.0)
