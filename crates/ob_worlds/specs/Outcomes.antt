-- The outcome of a variable by fresh evaluation (this project, after the Observable Runtime).
use Rattle.std.specs.Prelude.{ℕ, List, [], ◌∷◌, ◌++◌, Option, Some, None, map, codes, option_map, option_and_then, unwrap_or, if◌then◌else◌}
use Rattle.std.specs.List.{find}
use Rattle.std.specs.Option.{option_map_or, option_or}
use Rattle.ob_base.specs.declared.plain.Plain.{Plain}
use Rattle.ob_base.specs.declared.limits.Limit.{Limit}
use Rattle.ob_base.specs.declared.limits.Limit.TheVariants as limit
use Rattle.ob_names.specs.declared.form.NameForm.TheVariants as form
use Rattle.ob_names.specs.declared.form.NameRef.{NameRef}
use Rattle.ob_cells.specs.declared.def.Body.{Body}
use Rattle.ob_cells.specs.declared.def.Body.TheVariants as body
use Rattle.ob_inputs.specs.Same.{at}
use Rattle.ob_inputs.specs.Values.{by_inputs}
use Rattle.ob_base.specs.Labels.{Label, same_label}
use Rattle.ob_worlds.specs.Labels.{Resolved, shown_of}
use Rattle.ob_worlds.specs.Labels.Resolved.{Home, Builtin, Missing, Duplicate, Loop}
use Rattle.ob_worlds.specs.Language.{Language, Reason, Fault, Failure, Outcome}
use Rattle.ob_worlds.specs.Language.Fault.{NoProperty, NotPlain}
use Rattle.ob_worlds.specs.Language.Reason.{NotDefined, Ambiguous, Unresolved, Says}
use Rattle.ob_worlds.specs.Language.Failure.{Syntax, Runtime, Threw, Throws, Limited}
use Rattle.ob_worlds.specs.Language.Outcome.{Value, Failed}
use Rattle.ob_worlds.specs.Variables.{Variable}
use Rattle.ob_worlds.specs.Nets.{Net, variable, labels, inputs, homes}

-- ---- failed inputs

abbrev pub circle : Reason
circle = Says (codes "circular definition")

abbrev pub fault_message : Fault → List ℕ
fault_message NoProperty = codes "no property of null or undefined"
fault_message NotPlain = codes "not plain data"

abbrev pub limit_message : Limit → List ℕ
limit_message limit.Steps = codes "too many steps"
limit_message limit.Elements = codes "too many elements"
limit_message limit.Calls = codes "too many calls"

abbrev pub name_of : Variable → NameRef
name_of v = unwrap_or v.name (record { form = form.Plain; name = [] })

-- what fails a variable whose input u, of this name, failed: the message of that failure, or that u could not be resolved
abbrev pub handed_on : {V R : Type 0} (E : Language V R) → Label → NameRef → Failure V → Reason
handed_on {V} {R} E u name Syntax = Unresolved u name
handed_on {V} {R} E u name (Runtime r) = r
handed_on {V} {R} E u name (Threw x) = option_map_or Says (E.error_message x) (Unresolved u name)
handed_on {V} {R} E u name (Throws t) = Says (fault_message t)
handed_on {V} {R} E u name (Limited l) = Says (limit_message l)

abbrev pub failed_by : {V R : Type 0} (E : Language V R) → Label → NameRef → Outcome V → Option Reason
failed_by {V} {R} E u name (Value x) = None
failed_by {V} {R} E u name (Failed f) = Some (handed_on E u name f)

-- whether and by what an input fails a variable, given the outcomes of variables
abbrev pub fails : {V R : Type 0} (E : Language V R) → Net → (Label → Outcome V) → Resolved → Option Reason
fails {V} {R} E N outcome (Home l) = failed_by E l (name_of (variable N l)) (outcome l)
fails {V} {R} E N outcome (Builtin x) = None
fails {V} {R} E N outcome (Missing p) = Some (NotDefined p)
fails {V} {R} E N outcome (Duplicate p) = Some (Ambiguous p)
fails {V} {R} E N outcome (Loop p) = Some circle

-- the first failed input decides
abbrev pub first_reason : List (Option Reason) → Option Reason
first_reason [] = None
first_reason (Some r ∷ rs) = Some r
first_reason (None ∷ rs) = first_reason rs

abbrev pub failed_inputs : {V R : Type 0} (E : Language V R) → Net → (Label → Outcome V) → Variable → Option Reason
failed_inputs {V} {R} E N outcome v = first_reason (map (fails E N outcome) v.inputs)

-- ---- values of inputs

abbrev pub value_in : {V : Type 0} → Outcome V → Option V
value_in {V} (Value x) = Some x
value_in {V} (Failed f) = None

abbrev pub value_at : {V R : Type 0} (E : Language V R) → (Label → Outcome V) → Resolved → Option V
value_at {V} {R} E outcome (Home l) = value_in (outcome l)
value_at {V} {R} E outcome (Builtin x) = None
value_at {V} {R} E outcome (Missing p) = None
value_at {V} {R} E outcome (Duplicate p) = None
value_at {V} {R} E outcome (Loop p) = None

abbrev pub named_value : {V : Type 0} → NameRef → Option V → List (NameRef × V)
named_value {V} x None = []
named_value {V} x (Some v) = (x, v) ∷ []

-- by the names that the text reads
abbrev pub values_by : {V R : Type 0} (E : Language V R) → (Label → Outcome V) → List NameRef → List Resolved → List (NameRef × V)
values_by {V} {R} E outcome [] rs = []
values_by {V} {R} E outcome (x ∷ xs) [] = []
values_by {V} {R} E outcome (x ∷ xs) (r ∷ rs) = named_value x (value_at E outcome r) ++ values_by E outcome xs rs

abbrev pub values_of : {V R : Type 0} (E : Language V R) → (Label → Outcome V) → Variable → List (NameRef × V)
values_of {V} {R} E outcome v = values_by E outcome v.names v.inputs

-- of a Shown or a Holder, that of its one input
abbrev pub the_value : {V R : Type 0} (E : Language V R) → List (NameRef × V) → V
the_value {V} {R} E [] = E.undefined
the_value {V} {R} E (v ∷ vs) = v.1

-- ---- outcomes

-- the state of the run after n segments
abbrev pub run_of : {V R : Type 0} (E : Language V R) → Variable → List (NameRef × V) → ℕ → Option R
run_of {V} {R} E v values n = option_map (λ tree. E.run v.label tree values n) v.tree

-- the value of an option, or the error
abbrev pub or_throws : {V : Type 0} → Fault → Option V → Outcome V
or_throws {V} t None = Failed (Throws t)
or_throws {V} t (Some x) = Value x

-- the outcome where no rule of failure holds: of a Shown, `shown` is the given input or the current value
abbrev pub body_outcome : {V R : Type 0} (E : Language V R) → Variable → List (NameRef × V) → ℕ → Option Plain → Body → Outcome V
body_outcome {V} {R} E v values n shown body.Tree = option_map_or E.outcome_of (run_of E v values n) (Failed Syntax)
body_outcome {V} {R} E v values n shown body.Unreadable = Failed Syntax
body_outcome {V} {R} E v values n shown body.ShowView = or_throws NoProperty (option_or (option_map (E.placed v.label) shown) (E.value_of_view (the_value E values)))
body_outcome {V} {R} E v values n shown body.ShowMutable = Value (option_map_or (E.placed v.label) shown E.undefined)
body_outcome {V} {R} E v values n shown body.Hold = or_throws NotPlain (option_map (λ p. E.holder v.label) (E.plain_of (the_value E values)))

-- the rules for a variable that isn't circular, in their order, by the reason of its failed input and the values of its inputs
abbrev pub outcome_from : {V R : Type 0} (E : Language V R) → Variable → ℕ → Option Plain → Option Reason → List (NameRef × V) → Outcome V
outcome_from {V} {R} E v n shown reason values =
    if v.duplicate then Failed (Runtime (Ambiguous (record { path = v.label.path; name = name_of v })))
    else option_map_or (λ r. Failed (Runtime r)) reason (body_outcome E v values n shown v.body)

abbrev pub outcome_at : {V R : Type 0} (E : Language V R) → Net → Variable → ℕ → Option Plain → (Label → Outcome V) → Outcome V
outcome_at {V} {R} E N v n shown outcome = outcome_from E v n shown (failed_inputs E N outcome v) (values_of E outcome v)

-- what a Shown of this body shows, given that of its one input
abbrev pub shown_by : Body → Option Plain → Option Plain → Option Plain
shown_by body.ShowView given current = given
shown_by body.ShowMutable given current = current
shown_by body.Tree given current = None
shown_by body.Hold given current = None
shown_by body.Unreadable given current = None

abbrev pub home_of : Label → List Label → Option Label
home_of l ls = find (λ u. same_label (shown_of u) l) ls

-- the View of a Shown, or its Holder
abbrev pub own_home : Variable → Option Label
own_home v = home_of v.label (homes v.inputs)

abbrev pub shown : Net → Variable → Option Plain
shown N v = shown_by v.body (option_and_then (at same_label N.given) (own_home v)) (option_and_then (at same_label N.current) (own_home v))

abbrev pub circle_outcome : {V R : Type 0} (E : Language V R) → Outcome V
circle_outcome {V} {R} E = Failed (Runtime circle)

-- the outcome of a variable, where `segments` gives each label the number of segments of its current run
unfoldable pub outcome : {V R : Type 0} (E : Language V R) → Net → (Label → ℕ) → Label → Outcome V
outcome {V} {R} E N segments = by_inputs same_label (labels N) (inputs N) (λ l. circle_outcome E)
    (λ l outcome. outcome_at E N (variable N l) (segments l) (shown N (variable N l)) outcome)
