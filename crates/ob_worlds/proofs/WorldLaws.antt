-- The net of a world: its inputs are variables that are there.
use Rattle.std.proofs.Common.{◌≡◌, Bool, true, false, List, [], ◌∷◌, map, Option, Some, None, inl, inr, ⊎_elim, sym, refl, ap, ◌∙◌, subst, if◌then◌else◌}
use Rattle.std.specs.Prelude.{unwrap_or}
use Rattle.std.specs.List.{find}
use Rattle.std.proofs.lemmas.Bool.{or_cases, or_left, or_right, both_ways}
use Rattle.ob_cells.specs.declared.def.VarDef.{VarDef}
use Rattle.ob_inputs.specs.Same.{is_in}
use Rattle.ob_base.specs.Labels.{Path, Label, same_label}
use Rattle.ob_worlds.specs.Labels.{Resolved}
use Rattle.ob_worlds.specs.Labels.Resolved.{Home, Builtin, Missing, Duplicate, Loop}
use Rattle.ob_worlds.specs.Reader.{Reader}
use Rattle.ob_worlds.specs.World.{World}
use Rattle.ob_worlds.specs.Modules.{Modules, Defined, modules_of, cells_of}
use Rattle.ob_worlds.specs.Instances.{below, roots, instances, notebook_of}
use Rattle.ob_worlds.specs.Resolve.{resolve}
use Rattle.ob_worlds.specs.Variables.{Variable, defs_in, variable_of, variables_at, variables, resolved, is_duplicate}
use Rattle.ob_worlds.specs.Nets.{variable, no_variable, labels, homes}
use Rattle.ob_worlds.specs.Worlds.{net_in, net_of, is_observed}
use Rattle.ob_worlds.specs.Since.{IsNet}
use Rattle.ob_worlds.proofs.SameLaws.{label_are, label_self}
use Rattle.ob_worlds.proofs.MapLaws.{from_filter}
use Rattle.ob_worlds.proofs.InstanceLaws.{In, in_map, from_map, in_flat, from_flat, Sound}
use Rattle.ob_worlds.proofs.ResolveLaws.{IsInstance, IsVariable, Known, find_in, resolve_leads}

-- ---- lists

is_in_from : (l : Label) (ls : List Label) → In l ls → is_in same_label l ls ≡ true
is_in_from l [] m = elim m [ ]
is_in_from l (k ∷ ks) (inl e) = or_left _ _ (subst (λ z. same_label l z ≡ true) e (label_self l))
is_in_from l (k ∷ ks) (inr m) = or_right (same_label l k) _ (is_in_from l ks m)

from_homes : (u : Label) (rs : List Resolved) → is_in same_label u (homes rs) ≡ true → In (Home u) rs
from_homes u [] h = absurd (both_ways false refl h)
from_homes u (Home m ∷ rs) h = ⊎_elim (λ e. inl (ap Home (label_are u m e))) (λ r. inr (from_homes u rs r)) (or_cases (same_label u m) _ h)
from_homes u (Builtin x ∷ rs) h = inr (from_homes u rs h)
from_homes u (Missing p ∷ rs) h = inr (from_homes u rs h)
from_homes u (Duplicate p ∷ rs) h = inr (from_homes u rs h)
from_homes u (Loop p ∷ rs) h = inr (from_homes u rs h)

-- ---- instances and variables

in_instances : (M : Modules) (p : Path) → IsInstance M p → In p (instances M)
unfolding instances
in_instances M p i = in_flat (λ id. map (λ s. record { root = id; serials = s }) (below M id)) p.root p (roots M) i.root (in_map (λ s. record { root = p.root; serials = s }) p.serials (below M p.root) i.serials)

from_instances : (M : Modules) (p : Path) → In p (instances M) → IsInstance M p
unfolding instances
from_instances M p m =
    let a = from_flat (λ id. map (λ s. record { root = id; serials = s }) (below M id)) p (roots M) m in
    let b = from_map (λ s. record { root = a.0; serials = s }) p (below M a.0) a.2 in
    let there : IsInstance M (record { root = a.0; serials = b.0 }) = record { root = a.1; serials = b.1 } in
    subst (IsInstance M) (sym b.2) there

-- a variable that is there has a place in the list
listed : (E : Reader) (M : Modules) (l : Label) → IsVariable M l → In l (map (λ (v : Variable). v.label) (variables E M))
unfolding variables
listed E M l v =
    let entry : Variable = variable_of E M l.path v.cell v.def in
    let here : In entry (variables_at E M l.path) =
    in_flat (λ (c : Defined). map (variable_of E M l.path c) (defs_in M l.path c)) v.cell entry (cells_of M (notebook_of M l.path)) v.among (in_map (variable_of E M l.path v.cell) v.def (defs_in M l.path v.cell) v.defined) in
    let there : In entry (variables E M) = in_flat (variables_at E M) l.path entry (instances M) (in_instances M l.path v.inside) here in
    let e : entry.label ≡ l = ap (λ c. record { path = l.path; cell = c; part = v.def.part }) (sym v.serial) ∙ ap (λ x. record { path = l.path; cell = l.cell; part = x }) (sym v.part) in
    subst (λ z. In z (map (λ (v : Variable). v.label) (variables E M))) e (in_map (λ (v : Variable). v.label) entry (variables E M) there)

-- the inputs of each listed variable are there
inputs_there : (E : Reader) (M : Modules) → Sound M → Known M → (v : Variable) → In v (variables E M) → (u : Label) → In (Home u) v.inputs → IsVariable M u
unfolding variables
inputs_there E M ok known v m u h = on (is_duplicate M path.0 def.0.name) (subst (λ (z : Variable). In (Home u) z.inputs) def.2 h)
  where
    path : (p : Path) × In p (instances M) × In v (variables_at E M p)
    path = from_flat (variables_at E M) v (instances M) m

    cell : (c : Defined) × In c (cells_of M (notebook_of M path.0)) × In v (map (variable_of E M path.0 c) (defs_in M path.0 c))
    cell = from_flat (λ (c : Defined). map (variable_of E M path.0 c) (defs_in M path.0 c)) v (cells_of M (notebook_of M path.0)) path.2

    def : (d : VarDef) × In d (defs_in M path.0 cell.0) × (v ≡ variable_of E M path.0 cell.0 d)
    def = from_map (variable_of E M path.0 cell.0) v (defs_in M path.0 cell.0) cell.2

    on : (b : Bool) → In (Home u) (if b then [] else resolved E M path.0 def.0.inputs) → IsVariable M u
    on true m = elim m [ ]
    on false m =
        let r = from_map (λ x. resolve E M (record { path = path.0; name = x })) (Home u) def.0.inputs m in
        resolve_leads E M ok known (record { path = path.0; name = r.0 }) (from_instances M path.0 path.1) u (sym r.2)

found_inputs : (E : Reader) (M : Modules) → Sound M → Known M → (l u : Label) (o : Option Variable) → find (λ (v : Variable). same_label l v.label) (variables E M) ≡ o
    → is_in same_label u (homes (unwrap_or o (no_variable l)).inputs) ≡ true → IsVariable M u
found_inputs E M ok known l u None e h = absurd (both_ways false refl h)
found_inputs E M ok known l u (Some v) e h = inputs_there E M ok known v (find_in (λ (v : Variable). same_label l v.label) (variables E M) v e) u (from_homes u v.inputs h)

-- what a tick sees of a world has its inputs among its variables
pub is_net : (E : Reader) (W : World) → Sound (modules_of E W) → Known (modules_of E W) → IsNet (net_of E W)
unfolding net_of variable
is_net E W ok known = record {
  inside = λ l u h. is_in_from u (labels (net_in E W (modules_of E W)))
      (listed E (modules_of E W) u (found_inputs E (modules_of E W) ok known l u (find (λ (v : Variable). same_label l v.label) (variables E (modules_of E W))) refl h));
  observed = λ l h. (from_filter (is_observed W) (labels (net_in E W (modules_of E W))) l h).0;
}
