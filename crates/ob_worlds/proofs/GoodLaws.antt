-- What holds of the state of a session between two commands, and that a tick and inputs keep it.
use Rattle.std.proofs.Common.{◌≡◌, ℕ, Bool, true, false, not, List, [], ◌∷◌, Option, Some, None, sym, refl, ap, if◌then◌else◌, ◌∙◌, subst}
use Rattle.std.specs.Prelude.{fold}
use Rattle.std.proofs.lemmas.Bool.{or_parts, both_ways, cond-true, not_from_false, false_from_ne_true}
use Rattle.ob_base.specs.declared.plain.Plain.{Plain}
use Rattle.ob_base.specs.declared.report.LostKind.TheVariants as lost
use Rattle.ob_inputs.specs.Same.{is_in, at, put}
use Rattle.ob_base.specs.Labels.{Label, same_label}
use Rattle.ob_worlds.specs.Labels.{shown_of}
use Rattle.ob_worlds.specs.Language.{Language, IsLanguage, Effect}
use Rattle.ob_worlds.specs.World.{World}
use Rattle.ob_worlds.specs.Modules.{Modules, Defined, modules_of, all_cells}
use Rattle.ob_worlds.specs.Variables.{variables}
use Rattle.ob_worlds.specs.Nets.{variable}
use Rattle.ob_worlds.specs.Outcomes.{outcome}
use Rattle.ob_worlds.specs.Settled.{Now, segments_at}
use Rattle.ob_worlds.specs.Marks.{IsMarked}
use Rattle.ob_worlds.specs.Ticks.{settled_after}
use Rattle.ob_worlds.specs.Effects.{Changes, losing, with_result, changed_from, with_effect, with_effects}
use Rattle.ob_worlds.specs.Reports.{tick_of}
use Rattle.ob_worlds.specs.Worlds.{net_of, now_of}
use Rattle.ob_worlds.specs.Since.{IsNet, Since, Running}
use Rattle.ob_worlds.specs.Sessions.{State, with_input, ticked}
use Rattle.ob_worlds.proofs.SameLaws.{label_are, label_self}
use Rattle.ob_worlds.proofs.MapLaws.{at_filter}
use Rattle.ob_worlds.proofs.InstanceLaws.{In, Sound}
use Rattle.ob_worlds.proofs.ResolveLaws.{Known}
use Rattle.ob_worlds.proofs.WorldLaws.{is_net}
use Rattle.ob_worlds.proofs.SinceLaws.{SameCells, OneEach, SameMaps, since}
use Rattle.ob_worlds.proofs.RunningLaws.{running}
use Rattle.ob_worlds.proofs.FreshLaws.{IsLive, rows_are_fresh}
use Rattle.ob_worlds.proofs.TickLaws.{kept}
use Rattle.ob_worlds.proofs.StillLaws.{unmarked_is_still}

-- each cell has its own serial
abbrev pub Apart : Modules → Type 0
Apart M = (c d : Defined) → In c (all_cells M) → In d (all_cells M) → c.serial ≡ d.serial → c ≡ d

-- notebooks that stand together
pub record IsWhole (M : Modules) : Type 0 where
  pub sound : Sound M
  pub known : Known M
  pub each : OneEach M
  pub apart : Apart M

-- between two commands: `before` are the notebooks at the last tick
pub record Good {V R : Type 0} (E : Language V R) (st : State) : Type 0 where
  pub before : Modules
  pub variables : st.settled.net.variables ≡ variables E.reader before
  pub net : IsNet st.settled.net
  pub whole : IsWhole (modules_of E.reader st.world)
  pub cells : SameCells before (modules_of E.reader st.world) st.world.touched
  pub maps : SameMaps st.settled (now_of E.reader st.world)
  pub running : Running E st.settled

-- ---- maps

not_same : (u k : Label) → same_label (shown_of u) (shown_of k) ≡ false → same_label u k ≡ false
not_same u k h = false_from_ne_true _ (λ t. both_ways _ h (subst (λ z. same_label (shown_of u) (shown_of z) ≡ true) (label_are u k t) (label_self (shown_of u))))

at_put : (k u : Label) (x : Plain) (ps : List (Label × Plain)) → same_label u k ≡ false → at same_label (put same_label k x ps) u ≡ at same_label ps u
at_put k u x ps h =
    let back : same_label k u ≡ false = false_from_ne_true _ (λ t. both_ways _ h (subst (λ z. same_label z k ≡ true) (label_are k u t) (label_self k))) in
    rw h (at_filter (λ z. not (same_label k z)) ps u ∙ cond-true _ _ _ (not_from_false _ back))

-- what a change leaves as it was
abbrev Keeps : List (Label × Plain) → Changes → Type 0
Keeps current c = (u : Label) → is_in same_label (shown_of u) c.got ≡ false → at same_label current u ≡ at same_label c.current u

result_keeps : (current : List (Label × Plain)) (l : Label) (c : Changes) (o : Option Plain) → Keeps current c → Keeps current (with_result l c o)
result_keeps current l c None k = k
result_keeps current l c (Some p) k = λ u h.
    let q = or_parts (same_label (shown_of u) (shown_of l)) _ h in
    k u q.1 ∙ sym (at_put l u p c.current (not_same u l q.0))

changed_keeps : {V R : Type 0} (E : Language V R) (current : List (Label × Plain)) (e : Effect) (c : Changes) (o : Option Plain) → Keeps current c → Keeps current (changed_from E e c o)
changed_keeps {V} {R} E current e c None k = k
changed_keeps {V} {R} E current e c (Some p) k = result_keeps current e.holder c (E.changed e.change p e.value) k

effect_keeps : {V R : Type 0} (E : Language V R) (live : Label → Bool) (current : List (Label × Plain)) (c : Changes) (e : Effect) → Keeps current c → Keeps current (with_effect E live c e)
effect_keeps {V} {R} E live current c e k = elim (live e.holder) as (λ b. Keeps current (if b then changed_from E e c (at same_label c.current e.holder) else losing lost.NotLive e.holder c)) [
  | true ↦ changed_keeps E current e c (at same_label c.current e.holder) k
  | false ↦ k
]

fold_keeps : {V R : Type 0} (E : Language V R) (live : Label → Bool) (current : List (Label × Plain)) (es : List Effect) (c : Changes) → Keeps current c → Keeps current (fold (with_effect E live) c es)
fold_keeps {V} {R} E live current [] c k = k
fold_keeps {V} {R} E live current (e ∷ es) c k = fold_keeps E live current es (with_effect E live c e) (effect_keeps E live current c e k)

effects_keep : {V R : Type 0} (E : Language V R) (live : Label → Bool) (current : List (Label × Plain)) (es : List Effect) → Keeps current (with_effects E live current es)
unfolding with_effects
effects_keep {V} {R} E live current es = fold_keeps E live current es (record { current = current; got = []; lost = [] }) (λ u h. refl)

-- ---- what is kept

since_of : {V R : Type 0} (E : Language V R) (st : State) → Good E st → Since st.settled (now_of E.reader st.world)
unfolding net_of
since_of {V} {R} E st g = since E.reader g.before (modules_of E.reader st.world) st.settled (now_of E.reader st.world) g.variables refl g.net g.whole.each g.cells g.maps

-- a tick
pub tick_keeps : {V R : Type 0} (E : Language V R) → IsLanguage E → (st : State) → Good E st → Good E (ticked E st (tick_of E st.settled (now_of E.reader st.world))).state
unfolding tick_of settled_after net_of modules_of variable
tick_keeps {V} {R} E ok st g = record {
  before = modules_of E.reader st.world;
  variables = refl;
  net = record { inside = net.inside; observed = net.observed };
  whole = g.whole;
  cells = λ c d m n e h. g.whole.apart c d m n e;
  maps = record {
    given = λ u h. refl;
    current = effects_keep E _ _ _;
  };
  running = running E ok st.settled (now_of E.reader st.world) net (since_of E st g) g.running;
}
  where
    net : IsNet (net_of E.reader st.world)
    net = is_net E.reader st.world g.whole.sound g.whole.known

-- an input for a view
pub input_keeps : {V R : Type 0} (E : Language V R) (st : State) (view : Label) (x : Plain) → Good E st → Good E (record st { world = with_input st.world view x })
unfolding net_of modules_of
input_keeps {V} {R} E st view x g = record {
  before = g.before;
  variables = g.variables;
  net = g.net;
  whole = g.whole;
  cells = g.cells;
  maps = record {
    given = λ u h.
        let q = or_parts (same_label (shown_of u) (shown_of view)) _ h in
        g.maps.given u q.1 ∙ sym (at_put view u x st.world.given (not_same u view q.0));
    current = λ u h. g.maps.current u ((or_parts (same_label (shown_of u) (shown_of view)) _ h).1);
  };
  running = g.running;
}

-- an observer that comes or goes
pub observers_keep : {V R : Type 0} (E : Language V R) (st : State) (observed : List ℕ) → Good E st → Good E (record st { world = record (st.world) { observed = observed } })
unfolding net_of modules_of
observers_keep {V} {R} E st observed g = record {
  before = g.before;
  variables = g.variables;
  net = g.net;
  whole = g.whole;
  cells = g.cells;
  maps = record { given = g.maps.given; current = g.maps.current };
  running = g.running;
}

-- an edit: the notebooks stand together after it, and it touches each cell that it changes
pub edit_keeps : {V R : Type 0} (E : Language V R) (st : State) (after : World) → IsWhole (modules_of E.reader after) → after.given ≡ st.world.given → after.current ≡ st.world.current → after.got ≡ st.world.got
    → ((before : Modules) → SameCells before (modules_of E.reader st.world) st.world.touched → SameCells before (modules_of E.reader after) after.touched)
    → Good E st → Good E (record st { world = after })
unfolding net_of
edit_keeps {V} {R} E st after whole given current got touches g = record {
  before = g.before;
  variables = g.variables;
  net = g.net;
  whole = whole;
  cells = touches g.before g.cells;
  maps = record {
    given = λ u h. g.maps.given u (ap (is_in same_label (shown_of u)) (sym got) ∙ h) ∙ ap (λ m. at same_label m u) (sym given);
    current = λ u h. g.maps.current u (ap (is_in same_label (shown_of u)) (sym got) ∙ h) ∙ ap (λ m. at same_label m u) (sym current);
  };
  running = g.running;
}

-- ---- a tick has nothing to do for a variable that isn't marked: its outcome by fresh evaluation is what it was
pub unmarked_keeps : {V R : Type 0} (E : Language V R) → IsLanguage E → (st : State) → Good E st → (marked : Label → Bool) → IsMarked E st.settled (now_of E.reader st.world) marked
    → (l : Label) → IsLive (now_of E.reader st.world) l → marked l ≡ false
    → outcome E (settled_after E st.settled (now_of E.reader st.world)).net (segments_at (settled_after E st.settled (now_of E.reader st.world))) l ≡ outcome E st.settled.net (segments_at st.settled) l
unfolding net_of
unmarked_keeps {V} {R} E ok st g marked marks l h n =
    let W : Now = now_of E.reader st.world in
    let net : IsNet W.net = is_net E.reader st.world g.whole.sound g.whole.known in
    let still = unmarked_is_still E st.settled W marked marks l n in
    sym (rows_are_fresh E st.settled W net l h) ∙ (kept E ok st.settled W net (since_of E st g) l h.0 still.moved).outcome
