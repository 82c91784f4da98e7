-- What a name stands for in an instance (this project, after the Observable Runtime).
use Rattle.std.specs.Prelude.{ℕ, suc, Bool, false, ◌&&◌, List, [], ◌∷◌, ◌++◌, length, Option, None, map, filter, option_map, option_and_then, is_some, unwrap_or, if◌then◌else◌}
use Rattle.std.specs.Option.{option_map_or}
use Rattle.std.specs.List.{flat_map, find}
use Rattle.ob_names.specs.declared.form.NameForm.TheVariants as form
use Rattle.ob_names.specs.declared.form.NameRef.{NameRef}
use Rattle.ob_cells.specs.declared.def.Pair.{Pair}
use Rattle.ob_cells.specs.declared.def.VarDef.{VarDef}
use Rattle.ob_cells.specs.declared.def.ImportClause.{ImportClause}
use Rattle.ob_names.specs.Sets.{same_name_form, same_ref}
use Rattle.ob_inputs.specs.Chains.{Step, follow}
use Rattle.ob_inputs.specs.Chains.Step.{answer, go}
use Rattle.ob_base.specs.Labels.{Path, Label}
use Rattle.ob_worlds.specs.Labels.{Place, Resolved, same_place}
use Rattle.ob_worlds.specs.Labels.Resolved.{Home, Builtin, Missing, Duplicate, Loop}
use Rattle.ob_worlds.specs.Reader.{Reader}
use Rattle.ob_worlds.specs.Modules.{Modules, Defined, With, cells_of, all_cells, with_at}
use Rattle.ob_worlds.specs.Instances.{instances, notebook_of}

-- ---- injected names

-- the source of an injected name: the first pair counts
abbrev pub source_in : NameRef → List Pair → Option NameRef
source_in name pairs = option_map (λ (p : Pair). p.source) (find (λ (p : Pair). same_ref p.alias name) pairs)

-- the place in the importing instance that an injected name stands for; a root has no injected names
abbrev pub injected_at : Modules → List ℕ → List ℕ → NameRef → Option Place
injected_at M root [] name = None
injected_at M root (s ∷ up) name =
    option_map (λ x. record { path = record { root = root; serials = up }; name = x }) (option_and_then (λ (w : With). source_in name w.pairs) (with_at M s))

abbrev pub injected : Modules → Place → Option Place
injected M p = injected_at M p.path.root p.path.serials p.name

abbrev pub is_injected : Modules → Path → Option NameRef → Bool
is_injected M path name = option_map_or (λ x. is_some (injected M (record { path = path; name = x }))) name false

-- ---- definitions

-- a variable, or an alias of a name elsewhere
pub data Definition : Type 0 where
  own : Label → Definition
  alias : Place → Definition

abbrev pub defines : NameRef → VarDef → Bool
defines name v = option_map_or (same_ref name) v.name false

abbrev pub variables_named : Place → Defined → List Definition
variables_named p c =
    map (λ (v : VarDef). own (record { path = p.path; cell = c.serial; part = v.part })) (filter (defines p.name) c.variables)

-- a `with` cell leads to the instance that it derives, another import to the root of the other notebook
abbrev pub leads_to : Path → ℕ → ImportClause → Path
leads_to path s clause = option_map_or (λ pairs. record { root = path.root; serials = s ∷ path.serials }) clause.with (record { root = clause.from; serials = [] })

abbrev pub aliases_in : Place → ℕ → ImportClause → List Definition
aliases_in p s clause =
    map (λ (q : Pair). alias (record { path = leads_to p.path s clause; name = q.source })) (filter (λ (q : Pair). same_ref q.alias p.name) clause.pairs)

abbrev pub definitions_in : Place → Defined → List Definition
definitions_in p c = variables_named p c ++ option_map_or (aliases_in p c.serial) c.clause []

abbrev pub definitions : Modules → Place → List Definition
definitions M p = flat_map (definitions_in p) (cells_of M (notebook_of M p.path))

-- ---- resolution

-- a name without a definition: a builtin's, unless an import or an injected name led here
abbrev pub undefined_name : Reader → Bool → Place → Resolved
undefined_name E first p = if first && (same_name_form p.name.form form.Plain && E.is_builtin p.name.name) then Builtin p.name.name else Missing p

abbrev pub by_definitions : Reader → Bool → Place → List Definition → Step Place Resolved
by_definitions E first p [] = answer (undefined_name E first p)
by_definitions E first p (own l ∷ []) = answer (Home l)
by_definitions E first p (alias q ∷ []) = go q
by_definitions E first p (d ∷ e ∷ ds) = answer (Duplicate p)

abbrev pub next_place : Reader → Modules → Bool → Place → Step Place Resolved
next_place E M first p = option_map_or go (injected M p) (by_definitions E first p (definitions M p))

-- the names that clauses lead to
abbrev pub sources : Modules → List NameRef
sources M = flat_map (λ (c : Defined). option_map_or (λ clause. map (λ (q : Pair). q.source) (clause.pairs ++ unwrap_or clause.with [])) c.clause []) (all_cells M)

-- more turns than there are places to which a step can lead
abbrev pub enough : Modules → ℕ
enough M = suc (suc (length (flat_map (λ (p : Path). sources M) (instances M))))

-- from place to place, until a name is defined or a place comes again
unfoldable pub resolve : Reader → Modules → Place → Resolved
resolve E M p = follow same_place (next_place E M) Loop (enough M) [] p
