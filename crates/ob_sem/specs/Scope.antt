-- The bindings that are in scope while a text runs (ECMA-262, "Environment Records").
--
-- All that a scope declares is bound from its entry on, so the names in scope at a place of a text are the same whatever has run.
use Rattle.std.specs.Prelude.{ℕ, ◌+◌, Bool, List, [], ◌∷◌, length, Option, Some, None, bytes_eq, if◌then◌else◌}
use Rattle.ob_items.specs.declared.value.CodeKey.{CodeKey}
use Rattle.ob_items.specs.declared.value.Ref.{Ref}
use Rattle.ob_tree.specs.Scopes.{Bound}
use Rattle.ob_actions.specs.Places.{Place, Slot, Boxed, count_false}
use Rattle.ob_tree.specs.Functions.{Part}

pub record Binding : Type 0 where
  pub name : List ℕ
  pub constant : Bool
  pub place : Place

-- the bindings around a place of a text, the innermost first, with the number of the text, that of its next function, the count of locals
-- around, the array of the inputs, and the invalidation object
pub record Scope : Type 0 where
  pub code : ℕ
  pub next : ℕ
  pub names : List Binding
  pub size : ℕ
  pub inputs : Ref
  pub invalidation : Option Ref

-- the innermost binding of a name
abbrev pub binding_of : List Binding → List ℕ → Option Binding
binding_of [] x = None
binding_of (b ∷ names) x = if bytes_eq b.name x then Some b else binding_of names x

-- the code of the next function
abbrev pub next_code : Scope → CodeKey
next_code sc = record { code = sc.code; function = sc.next }

-- the scope behind a part of the text
abbrev pub behind : Part → Scope → Scope
behind part sc = record {
  code = sc.code;
  next = sc.next + length (part.functions []);
  names = sc.names;
  size = sc.size;
  inputs = sc.inputs;
  invalidation = sc.invalidation;
}

-- ---- inner scopes

-- these bindings at these places, before others
abbrev pub placed : List Bound → List Place → List Binding → List Binding
placed [] places names = names
placed (b ∷ bs) [] names = names
placed (b ∷ bs) (p ∷ places) names = placed bs places (record { name = b.name; constant = b.constant; place = p } ∷ names)

-- the scope with these names, and so many locals more
abbrev pub with_names : List Binding → ℕ → Scope → Scope
with_names names more sc =
    record { code = sc.code; next = sc.next; names = names; size = sc.size + more; inputs = sc.inputs; invalidation = sc.invalidation }

-- a scope of these bindings, by which of them are captured, at these places
abbrev pub inner : List Bound → List Bool → Scope → List Place → Scope
inner bs flags sc places = with_names (placed bs places sc.names) (count_false flags) sc

-- ---- boxes

abbrev pub boxes_at : Place → ℕ
boxes_at (Slot i) = 0
boxes_at (Boxed r) = 1

-- how many of these have boxes
abbrev pub boxes_among : List Binding → ℕ
boxes_among [] = 0
boxes_among (b ∷ names) = boxes_at b.place + boxes_among names
