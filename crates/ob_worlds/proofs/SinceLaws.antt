-- What holds between two ticks follows from cells that weren't touched and from maps that weren't changed.
use Rattle.std.proofs.Common.{◌≡◌, ℕ, ◌==◌, true, false, List, [], ◌∷◌, map, Option, Some, None, inl, inr, ⊎_elim, sym, refl, ap, ◌∙◌, subst}
use Rattle.std.specs.Prelude.{unwrap_or, option_and_then}
use Rattle.std.specs.List.{list_any, find}
use Rattle.std.proofs.lemmas.Bool.{or_cases, both_ways, cases_Bool, cond-false}
use Rattle.ob_cells.specs.declared.def.Body.{Body}
use Rattle.ob_cells.specs.declared.def.VarDef.{VarDef}
use Rattle.ob_inputs.specs.Same.{is_in, at}
use Rattle.ob_inputs.specs.Paths.{Path as Walk}
use Rattle.ob_inputs.specs.Paths.Path.{one, more}
use Rattle.ob_inputs.proofs.PathLaws.{live_decides}
use Rattle.ob_base.specs.Labels.{Path, Label, same_label}
use Rattle.ob_worlds.specs.Labels.{shown_of}
use Rattle.ob_worlds.specs.Reader.{Reader}
use Rattle.ob_worlds.specs.Modules.{Modules, Defined, cells_of, all_cells}
use Rattle.ob_worlds.specs.Instances.{instances, notebook_of}
use Rattle.ob_worlds.specs.Variables.{Variable, defs_in, variable_of, variables_at, variables}
use Rattle.ob_worlds.specs.Nets.{Net, variable, no_variable, labels, inputs, homes, live}
use Rattle.ob_worlds.specs.Outcomes.{shown_by, own_home}
use Rattle.ob_worlds.specs.Settled.{Settled, Now}
use Rattle.ob_worlds.specs.Since.{IsNet, Since}
use Rattle.ob_worlds.proofs.SameLaws.{label_test}
use Rattle.ob_worlds.proofs.NetLaws.{only_variables, variable_label}
use Rattle.ob_worlds.proofs.OutcomeLaws.{home_in}
use Rattle.ob_worlds.proofs.InstanceLaws.{In, from_map, from_flat}
use Rattle.ob_worlds.proofs.ResolveLaws.{cells_here, from_filter_in}

-- a cell that wasn't touched defines what it defined
abbrev pub SameCells : Modules → Modules → List ℕ → Type 0
SameCells M0 M touched = (c0 c : Defined) → In c0 (all_cells M0) → In c (all_cells M) → c0.serial ≡ c.serial → list_any (λ s. c.serial == s) touched ≡ false → c0 ≡ c

-- a cell has at most one definition of each part
abbrev pub OneEach : Modules → Type 0
OneEach M = (c : Defined) → In c (all_cells M) → (d e : VarDef) → In d c.variables → In e c.variables → d.part ≡ e.part → d ≡ e

-- what was given and the current values are those of the last tick, but for Shown that got something
pub record SameMaps (S : Settled) (W : Now) : Type 0 where
  pub given : (u : Label) → is_in same_label (shown_of u) W.got ≡ false → at same_label S.net.given u ≡ at same_label W.net.given u
  pub current : (u : Label) → is_in same_label (shown_of u) W.got ≡ false → at same_label S.net.current u ≡ at same_label W.net.current u

-- ---- the entry of a variable

pub record Entry (E : Reader) (M : Modules) (l : Label) (v : Variable) : Type 0 where
  pub cell : Defined
  pub def : VarDef
  pub among : In cell (all_cells M)
  pub defined : In def cell.variables
  pub serial : cell.serial ≡ l.cell
  pub part : def.part ≡ l.part
  pub is : v ≡ variable_of E M l.path cell def

entry_in : (E : Reader) (M : Modules) (v : Variable) → In v (variables E M) → Entry E M v.label v
unfolding variables
entry_in E M v m = record {
  cell = cell.0;
  def = def.0;
  among = cells_here M (notebook_of M path.0) cell.0 cell.1;
  defined = (from_filter_in _ cell.0.variables def.0 def.1).0;
  serial = sym (ap (λ (x : Variable). x.label.cell) def.2);
  part = sym (ap (λ (x : Variable). x.label.part) def.2);
  is = def.2 ∙ ap (λ p. variable_of E M p cell.0 def.0) (sym (ap (λ (x : Variable). x.label.path) def.2));
}
  where
    path : (p : Path) × In p (instances M) × In v (variables_at E M p)
    path = from_flat (variables_at E M) v (instances M) m

    cell : (c : Defined) × In c (cells_of M (notebook_of M path.0)) × In v (map (variable_of E M path.0 c) (defs_in M path.0 c))
    cell = from_flat (λ (c : Defined). map (variable_of E M path.0 c) (defs_in M path.0 c)) v (cells_of M (notebook_of M path.0)) path.2

    def : (d : VarDef) × In d (defs_in M path.0 cell.0) × (v ≡ variable_of E M path.0 cell.0 d)
    def = from_map (variable_of E M path.0 cell.0) v (defs_in M path.0 cell.0) cell.2

found : (l : Label) (vs : List Variable) → is_in same_label l (map (λ (v : Variable). v.label) vs) ≡ true → In (unwrap_or (find (λ (v : Variable). same_label l v.label) vs) (no_variable l)) vs
found l [] h = absurd (both_ways false refl h)
found l (v ∷ vs) h = elim (cases_Bool (same_label l v.label)) [
  | inl t ↦ rw t (inl refl)
  | inr f ↦ inr (subst (λ o. In (unwrap_or o (no_variable l)) vs) (sym (cond-false (same_label l v.label) _ _ f))
      (found l vs (⊎_elim (λ e. absurd (both_ways _ f e)) (λ r. r) (or_cases (same_label l v.label) _ h))))
]

pub entry : (E : Reader) (M : Modules) (N : Net) → N.variables ≡ variables E M → (l : Label) → is_in same_label l (labels N) ≡ true → Entry E M l (variable N l)
unfolding variable
entry E M N e l h = subst (λ k. Entry E M k (variable N l)) (variable_label N l) (entry_in E M (variable N l) (subst (In (variable N l)) e (found l N.variables h)))

-- ---- a live variable is one

last_input : (N : Net) → IsNet N → {v w : Label} → Walk same_label (inputs N) v w → is_in same_label w (labels N) ≡ true
last_input N net (one v w m) = net.inside v w m
last_input N net (more v u w m p) = last_input N net p

pub live_label : (N : Net) → IsNet N → (l : Label) → live N l ≡ true → is_in same_label l (labels N) ≡ true
live_label N net l h =
    let r = (live_decides same_label label_test (labels N) (inputs N) (only_variables N) N.observed l).0 h in
    ⊎_elim (λ e. subst (λ x. is_in same_label x (labels N) ≡ true) e (net.observed r.0 r.1)) (λ p. last_input N net p) r.2

-- ---- what holds between two ticks

cell_since : (E : Reader) (M0 M : Modules) (S : Settled) (W : Now) → S.net.variables ≡ variables E M0 → W.net.variables ≡ variables E M → IsNet S.net → OneEach M → SameCells M0 M W.touched
    → (l : Label) → is_in same_label l (labels W.net) ≡ true → live S.net l ≡ true → list_any (λ s. l.cell == s) W.touched ≡ false
    → variable W.net l ≡ record (variable S.net l) { duplicate = (variable W.net l).duplicate; inputs = (variable W.net l).inputs }
cell_since E M0 M S W e0 e net each same l there lives quiet =
    let a = entry E M W.net e l there in
    let b = entry E M0 S.net e0 l (live_label S.net net l lives) in
    let c : b.cell ≡ a.cell = same b.cell a.cell b.among a.among (b.serial ∙ sym a.serial) (ap (λ k. list_any (λ s. k == s) W.touched) a.serial ∙ quiet) in
    let d : b.def ≡ a.def = each a.cell a.among b.def a.def (subst (λ (x : Defined). In b.def x.variables) c b.defined) a.defined (b.part ∙ sym a.part) in
    let f : variable S.net l ≡ variable_of E M0 l.path a.cell a.def = b.is ∙ ap (λ x. variable_of E M0 l.path x b.def) c ∙ ap (variable_of E M0 l.path a.cell) d in
    a.is
    ∙ ap (λ (x : Variable). record (variable_of E M0 l.path a.cell a.def) { duplicate = x.duplicate; inputs = x.inputs }) (sym a.is)
    ∙ ap (λ (x : Variable). record x { duplicate = (variable W.net l).duplicate; inputs = (variable W.net l).inputs }) (sym f)

shown_same : (S : Settled) (W : Now) → SameMaps S W → (l : Label) → is_in same_label l W.got ≡ false → (b : Body) (o : Option Label) → ((u : Label) → o ≡ Some u → shown_of u ≡ l)
    → shown_by b (option_and_then (at same_label S.net.given) o) (option_and_then (at same_label S.net.current) o)
    ≡ shown_by b (option_and_then (at same_label W.net.given) o) (option_and_then (at same_label W.net.current) o)
shown_same S W maps l quiet b None h = refl
shown_same S W maps l quiet b (Some u) h =
    let q : is_in same_label (shown_of u) W.got ≡ false = ap (λ x. is_in same_label x W.got) (h u refl) ∙ quiet in
    ap (λ x. shown_by b x (at same_label S.net.current u)) (maps.given u q) ∙ ap (shown_by b (at same_label W.net.given u)) (maps.current u q)

pub since : (E : Reader) (M0 M : Modules) (S : Settled) (W : Now) → S.net.variables ≡ variables E M0 → W.net.variables ≡ variables E M → IsNet S.net
    → OneEach M → SameCells M0 M W.touched → SameMaps S W → Since S W
since E M0 M S W e0 e net each same maps = record {
  cell = cell_since E M0 M S W e0 e net each same;
  shown = λ l there lives quiet stays. shown_same S W maps l quiet (variable W.net l).body (own_home (variable W.net l))
      (λ u h. (home_in (variable W.net l).label (homes (variable W.net l).inputs) u h).1 ∙ variable_label W.net l);
}
