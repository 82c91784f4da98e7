-- A language of a few programs, for worked examples.
use Rattle.std.proofs.Common.{ℕ, zero, suc, ◌+◌, pos, Bool, true, false, List, [], ◌∷◌, ◌++◌, length, Option, Some, None}
use Rattle.std.specs.Prelude.{codes, bytes_eq, nat_lt}
use Rattle.std.specs.Option.{option_map_or}
use Rattle.std.specs.List.{find}
use Rattle.std.specs.Fmt.{digits_onto}
use Rattle.ob_base.specs.Builtins.{is_builtin_name}
use Rattle.ob_base.specs.declared.plain.Plain.{Plain, out-Plain}
use Rattle.ob_base.specs.declared.plain.PlainProp.{PlainProp}
use Rattle.ob_base.specs.declared.plain.Plain.TheVariants as P
use Rattle.ob_base.specs.declared.plain.Plain.TheOpen.{Plain-F}
use Rattle.ob_tree_types.specs.declared.tree.Function.{Function}
use Rattle.ob_tree_types.specs.declared.tree.FnBody.TheVariants as fn
use Rattle.ob_tree_types.specs.declared.cell.CellTree.{CellTree}
use Rattle.ob_tree_types.specs.declared.cell.CellTree.TheVariants as cell
use Rattle.ob_names.specs.declared.form.NameRef.{NameRef}
use Rattle.ob_cells.specs.Variables.{defined_by, variables_of}
use Rattle.ob_cells.specs.Imports.{import_of}
use Rattle.ob_names.specs.Sets.{same_ref}
use Rattle.ob_cells.specs.Readings.{Reading}
use Rattle.ob_inputs.specs.Same.{at}
use Rattle.ob_base.specs.Labels.{Label}
use Rattle.ob_worlds.specs.Language.{Language, Outcome, Change, Effect, Invalidated}
use Rattle.ob_worlds.specs.Language.Change.{Set, Add, Sub, Mul, Up, Down}
use Rattle.ob_worlds.specs.Language.Outcome.{Value, Failed}
use Rattle.ob_worlds.specs.Language.Failure.{Threw}

-- values: numbers, lists, objects with a property `value`, holders
pub data V : Type 0 where
  int : ℕ → V
  nothing : V
  end : V
  item : V → V → V
  object : V → V
  held : Label → V

pub data Term : Type 0 where
  num : ℕ → Term
  read : NameRef → Term
  plus : Term → Term → Term
  times : Term → Term → Term
  nil : Term
  cons : Term → Term → Term
  wrap : Term → Term

-- a value; a value after a change of a mutable; values one after another, and at last perhaps a throw; a throw
pub data Program : Type 0 where
  gives : Term → Program
  changes : NameRef → Change → Term → Term → Program
  yields : List Term → Option Term → Program
  throws : Term → Program

abbrev pub Values : Type 0
Values = List (NameRef × V)

abbrev pub add : V → V → V
add (int a) (int b) = int (a + b)
add a b = nothing

abbrev pub times_nat : ℕ → ℕ → ℕ
times_nat zero b = 0
times_nat (suc a) b = b + times_nat a b

abbrev pub mul : V → V → V
mul (int a) (int b) = int (times_nat a b)
mul a b = nothing

abbrev pub value_of_name : Values → NameRef → V
value_of_name is x = option_map_or (λ v. v) (at same_ref is x) nothing

abbrev pub eval : Values → Term → V
eval is (num n) = int n
eval is (read x) = value_of_name is x
eval is (plus s t) = add (eval is s) (eval is t)
eval is (times s t) = mul (eval is s) (eval is t)
eval is nil = end
eval is (cons s t) = item (eval is s) (eval is t)
eval is (wrap t) = object (eval is t)

-- ---- values as texts and as plain data

abbrev pub inspect : Bool → V → List ℕ
inspect inside (int n) = digits_onto 9 10 false n []
inspect inside nothing = codes "undefined"
inspect true end = codes "]"
inspect false end = codes "[]"
inspect true (item a b) = codes ", " ++ inspect false a ++ inspect true b
inspect false (item a b) = codes "[" ++ inspect false a ++ inspect true b
inspect inside (object a) = codes "{value: " ++ inspect false a ++ codes "}"
inspect inside (held l) = codes "undefined"

abbrev pub plain_of : V → Option Plain
plain_of (int n) = Some (P.Int (pos n))
plain_of nothing = Some P.Undefined
plain_of end = None
plain_of (item a b) = None
plain_of (object a) = None
plain_of (held l) = None

abbrev pub number_in : Plain-F Plain PlainProp → V
number_in (Plain-F.Int (pos n)) = int n
number_in other = nothing

abbrev pub placed : Plain → V
placed p = number_in (out-Plain p)

abbrev pub value_of_view : V → Option V
value_of_view nothing = None
value_of_view (object a) = Some a
value_of_view other = Some nothing

abbrev pub has_value : V → Bool
has_value (object a) = true
has_value other = false

abbrev pub operate : Change → V → V → V
operate Set a b = b
operate Add a b = add a b
operate Mul a b = mul a b
operate Sub a b = nothing
operate Up a b = add a (int 1)
operate Down a b = nothing

abbrev pub or_bad : V → Option Plain
or_bad (int n) = Some (P.Int (pos n))
or_bad other = None

-- ---- runs

pub record State : Type 0 where
  pub program : Program
  pub values : Values
  pub segments : ℕ

-- the outcome of `yields` after n more segments
abbrev pub yielded : Values → Option Term → Outcome V → List Term → ℕ → Outcome V
yielded is last kept [] zero = kept
yielded is None kept [] (suc n) = kept
yielded is (Some t) kept [] (suc n) = Failed (Threw (eval is t))
yielded is last kept (t ∷ ts) zero = kept
yielded is last kept (t ∷ ts) (suc n) = yielded is last (Value (eval is t)) ts n

abbrev pub outcome_by : Values → ℕ → Program → Outcome V
outcome_by is n (gives t) = Value (eval is t)
outcome_by is n (changes x c s t) = Value (eval is t)
outcome_by is n (yields ts last) = yielded is last (Value nothing) ts n
outcome_by is n (throws t) = Failed (Threw (eval is t))

abbrev pub ended_at : ℕ → Program → Bool
ended_at n (yields ts last) = nat_lt (length ts) n
ended_at n other = true

abbrev pub quiet_at : ℕ → Program → Bool
quiet_at n (yields ts None) = nat_lt (length ts) n
quiet_at n other = false

abbrev pub holder_of : V → List Label
holder_of (held l) = l ∷ []
holder_of other = []

abbrev pub effect_on : Change → Option Plain → List Label → List Effect
effect_on c (Some p) (l ∷ ls) = record { holder = l; change = c; value = p } ∷ []
effect_on c p ls = []

abbrev pub effects_by : Values → Program → List Effect
effects_by is (changes x c s t) = effect_on c (plain_of (eval is s)) (holder_of (value_of_name is x))
effects_by is other = []

-- ---- texts

pub record Entry : Type 0 where
  pub text : List ℕ
  pub reading : Reading
  pub program : Program

abbrev pub no_body : Function
no_body = record { name = None; params = []; generator = false; body = fn.Items [] }

-- a text with these free names, which reads as a cell of this form
abbrev pub entry : List ℕ → List NameRef → CellTree → Program → Entry
entry text free tree program = record {
  text = text;
  reading = record { tree = Some (cell.Named text no_body); variables = defined_by free tree; clause = import_of tree };
  program = program;
}

abbrev pub unread : Reading
unread = record { tree = None; variables = variables_of None; clause = None }

abbrev pub reads : List Entry → List ℕ → Reading
reads table text = option_map_or (λ (e : Entry). e.reading) (find (λ (e : Entry). bytes_eq e.text text) table) unread

abbrev pub program_of : List Entry → CellTree → Program
program_of table (cell.Named text f) = option_map_or (λ (e : Entry). e.program) (find (λ (e : Entry). bytes_eq e.text text) table) (gives nil)
program_of table other = gives nil

abbrev pub no_hooks : Invalidated
no_hooks = record { hooks = []; effects = []; cost = 0 }

abbrev pub tiny : List Entry → Language V State
tiny table = record {
  reader = record { read = reads table; is_built = λ text. true; is_builtin = is_builtin_name };
  undefined = nothing;
  holder = held;
  placed = λ l p. placed p;
  plain_of = plain_of;
  value_of_view = value_of_view;
  has_value = has_value;
  error_message = λ v. None;
  inspected = inspect false;
  message_text = λ m. m;
  thrown_text = λ v. codes "thrown " ++ inspect false v;
  run = λ l tree values n. record { program = program_of table tree; values = values; segments = n };
  outcome_of = λ s. outcome_by s.values s.segments s.program;
  has_ended = λ s. ended_at s.segments s.program;
  ends_quietly = λ s. quiet_at s.segments s.program;
  cost = λ s. 1;
  logs = λ s. [];
  effects = λ s. effects_by s.values s.program;
  invalidated = λ s. no_hooks;
  changed = λ c p q. or_bad (operate c (placed p) (placed q));
}
