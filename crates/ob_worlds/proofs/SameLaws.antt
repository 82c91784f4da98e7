-- The tests for equality are exact.
use Rattle.std.proofs.Common.{◌≡◌, ℕ, ◌==◌, true, false, List, refl, ap, ◌∙◌}
use Rattle.std.specs.Prelude.{bytes_eq}
use Rattle.std.proofs.lemmas.Bool.{and_from, and_parts, eqb-true, eq-eqb, both_ways}
use Rattle.std.proofs.lemmas.Slice.Eq.{bytes_eq-Decides}
use Rattle.ob_base.specs.declared.label.Part.{Part}
use Rattle.ob_base.specs.declared.label.Part.TheVariants as part
use Rattle.ob_names.specs.declared.form.NameForm.{NameForm}
use Rattle.ob_names.specs.declared.form.NameForm.TheVariants as form
use Rattle.ob_names.specs.declared.form.NameRef.{NameRef}
use Rattle.ob_names.specs.Sets.{same_name_form, same_ref}
use Rattle.ob_inputs.specs.Same.{IsTest}
use Rattle.ob_base.specs.Labels.{Path, Label, same_part, same_path, same_label}
use Rattle.ob_worlds.specs.Labels.{Place, Resolved, same_place, same_resolved}
use Rattle.ob_worlds.specs.Labels.Resolved.{Home, Builtin, Missing, Duplicate, Loop}

pub bytes_are : (a b : List ℕ) → bytes_eq a b ≡ true → a ≡ b
bytes_are a b h = (bytes_eq-Decides a b).0 h

pub bytes_self : (a : List ℕ) → bytes_eq a a ≡ true
bytes_self a = (bytes_eq-Decides a a).1 refl

part_are : (a b : Part) → same_part a b ≡ true → a ≡ b
part_are part.Main part.Main h = refl
part_are part.Main part.View h = absurd (both_ways false refl h)
part_are part.Main part.Shown h = absurd (both_ways false refl h)
part_are part.Main part.Initial h = absurd (both_ways false refl h)
part_are part.Main part.Holder h = absurd (both_ways false refl h)
part_are part.View part.Main h = absurd (both_ways false refl h)
part_are part.View part.View h = refl
part_are part.View part.Shown h = absurd (both_ways false refl h)
part_are part.View part.Initial h = absurd (both_ways false refl h)
part_are part.View part.Holder h = absurd (both_ways false refl h)
part_are part.Shown part.Main h = absurd (both_ways false refl h)
part_are part.Shown part.View h = absurd (both_ways false refl h)
part_are part.Shown part.Shown h = refl
part_are part.Shown part.Initial h = absurd (both_ways false refl h)
part_are part.Shown part.Holder h = absurd (both_ways false refl h)
part_are part.Initial part.Main h = absurd (both_ways false refl h)
part_are part.Initial part.View h = absurd (both_ways false refl h)
part_are part.Initial part.Shown h = absurd (both_ways false refl h)
part_are part.Initial part.Initial h = refl
part_are part.Initial part.Holder h = absurd (both_ways false refl h)
part_are part.Holder part.Main h = absurd (both_ways false refl h)
part_are part.Holder part.View h = absurd (both_ways false refl h)
part_are part.Holder part.Shown h = absurd (both_ways false refl h)
part_are part.Holder part.Initial h = absurd (both_ways false refl h)
part_are part.Holder part.Holder h = refl

part_self : (a : Part) → same_part a a ≡ true
part_self part.Main = refl
part_self part.View = refl
part_self part.Shown = refl
part_self part.Initial = refl
part_self part.Holder = refl

form_are : (a b : NameForm) → same_name_form a b ≡ true → a ≡ b
form_are form.Plain form.Plain h = refl
form_are form.Plain form.Viewof h = absurd (both_ways false refl h)
form_are form.Plain form.Mutable h = absurd (both_ways false refl h)
form_are form.Plain form.Initial h = absurd (both_ways false refl h)
form_are form.Viewof form.Plain h = absurd (both_ways false refl h)
form_are form.Viewof form.Viewof h = refl
form_are form.Viewof form.Mutable h = absurd (both_ways false refl h)
form_are form.Viewof form.Initial h = absurd (both_ways false refl h)
form_are form.Mutable form.Plain h = absurd (both_ways false refl h)
form_are form.Mutable form.Viewof h = absurd (both_ways false refl h)
form_are form.Mutable form.Mutable h = refl
form_are form.Mutable form.Initial h = absurd (both_ways false refl h)
form_are form.Initial form.Plain h = absurd (both_ways false refl h)
form_are form.Initial form.Viewof h = absurd (both_ways false refl h)
form_are form.Initial form.Mutable h = absurd (both_ways false refl h)
form_are form.Initial form.Initial h = refl

pub path_are : (a b : Path) → same_path a b ≡ true → a ≡ b
path_are a b h =
    let p = and_parts (bytes_eq a.root b.root) _ h in
    ap (λ r. record { root = r; serials = a.serials }) (bytes_are _ _ p.0) ∙ ap (λ s. record { root = b.root; serials = s }) (bytes_are _ _ p.1)

path_self : (a : Path) → same_path a a ≡ true
path_self a = and_from _ _ (bytes_self a.root) (bytes_self a.serials)

pub label_are : (a b : Label) → same_label a b ≡ true → a ≡ b
label_are a b h =
    let p = and_parts (same_path a.path b.path) _ h in
    let q = and_parts (a.cell == b.cell) _ p.1 in
    ap (λ x. record { path = x; cell = a.cell; part = a.part }) (path_are _ _ p.0)
    ∙ ap (λ x. record { path = b.path; cell = x; part = a.part }) (eqb-true _ _ q.0)
    ∙ ap (λ x. record { path = b.path; cell = b.cell; part = x }) (part_are _ _ q.1)

pub label_self : (a : Label) → same_label a a ≡ true
label_self a = and_from _ _ (path_self a.path) (and_from _ _ (eq-eqb a.cell a.cell refl) (part_self a.part))

pub label_test : IsTest same_label
label_test = record { exact = label_are; self = label_self }

pub place_are : (a b : Place) → same_place a b ≡ true → a ≡ b
place_are a b h =
    let p = and_parts (same_path a.path b.path) _ h in
    let q = and_parts (same_name_form a.name.form b.name.form) _ p.1 in
    ap (λ x. record { path = x; name = a.name }) (path_are _ _ p.0)
    ∙ ap (λ x. record { path = b.path; name = record { form = x; name = a.name.name } }) (form_are _ _ q.0)
    ∙ ap (λ x. record { path = b.path; name = record { form = b.name.form; name = x } }) (bytes_are _ _ q.1)

pub resolved_are : (a b : Resolved) → same_resolved a b ≡ true → a ≡ b
resolved_are (Home a) (Home b) h = ap Home (label_are a b h)
resolved_are (Builtin a) (Builtin b) h = ap Builtin (bytes_are a b h)
resolved_are (Missing a) (Missing b) h = ap Missing (place_are a b h)
resolved_are (Duplicate a) (Duplicate b) h = ap Duplicate (place_are a b h)
resolved_are (Loop a) (Loop b) h = ap Loop (place_are a b h)
resolved_are (Home a) (Builtin b) h = absurd (both_ways false refl h)
resolved_are (Home a) (Missing b) h = absurd (both_ways false refl h)
resolved_are (Home a) (Duplicate b) h = absurd (both_ways false refl h)
resolved_are (Home a) (Loop b) h = absurd (both_ways false refl h)
resolved_are (Builtin a) (Home b) h = absurd (both_ways false refl h)
resolved_are (Builtin a) (Missing b) h = absurd (both_ways false refl h)
resolved_are (Builtin a) (Duplicate b) h = absurd (both_ways false refl h)
resolved_are (Builtin a) (Loop b) h = absurd (both_ways false refl h)
resolved_are (Missing a) (Home b) h = absurd (both_ways false refl h)
resolved_are (Missing a) (Builtin b) h = absurd (both_ways false refl h)
resolved_are (Missing a) (Duplicate b) h = absurd (both_ways false refl h)
resolved_are (Missing a) (Loop b) h = absurd (both_ways false refl h)
resolved_are (Duplicate a) (Home b) h = absurd (both_ways false refl h)
resolved_are (Duplicate a) (Builtin b) h = absurd (both_ways false refl h)
resolved_are (Duplicate a) (Missing b) h = absurd (both_ways false refl h)
resolved_are (Duplicate a) (Loop b) h = absurd (both_ways false refl h)
resolved_are (Loop a) (Home b) h = absurd (both_ways false refl h)
resolved_are (Loop a) (Builtin b) h = absurd (both_ways false refl h)
resolved_are (Loop a) (Missing b) h = absurd (both_ways false refl h)
resolved_are (Loop a) (Duplicate b) h = absurd (both_ways false refl h)

pub name_are : (a b : NameRef) → same_ref a b ≡ true → a ≡ b
name_are a b h =
    let p = and_parts (same_name_form a.form b.form) _ h in
    ap (λ x. record { form = x; name = a.name }) (form_are _ _ p.0) ∙ ap (λ x. record { form = b.form; name = x }) (bytes_are _ _ p.1)
