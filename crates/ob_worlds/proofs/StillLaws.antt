-- Nothing happens to what isn't marked.
use Rattle.std.proofs.Common.{◌≡◌, ◌==◌, Bool, true, false, not, ◌&&◌, ◌||◌, refl, ap, ◌∙◌, subst, sym, if◌then◌else◌}
use Rattle.std.specs.Prelude.{is_some}
use Rattle.std.proofs.lemmas.Bool.{or_parts, or_from, not-false, cond-true, cond-false, eq-eqb}
use Rattle.ob_inputs.proofs.ValueLaws as laws
use Rattle.ob_base.specs.Labels.{Label, same_label}
use Rattle.ob_worlds.specs.Language.{Language}
use Rattle.ob_worlds.specs.Variables.{Variable}
use Rattle.ob_worlds.specs.Nets.{variable, labels, inputs, homes, circular}
use Rattle.ob_worlds.specs.Outcomes.{failed_inputs, values_of}
use Rattle.ob_worlds.specs.Settled.{Settled, Now, is_fresh}
use Rattle.ob_worlds.specs.Rows.{Row, Local, local, behind, pulled, started, ends_at, outcome_in, row}
use Rattle.ob_worlds.specs.Marks.{may_move, IsMarked, IsStill}
use Rattle.ob_worlds.proofs.SameLaws.{label_test}
use Rattle.ob_worlds.proofs.NetLaws.{only_variables}
use Rattle.ob_worlds.proofs.OutcomeLaws.{In, row_round, row_on}

-- what has no cause of its own: not fresh, got nothing, and no run that goes on
parts : (l : Local) → may_move l ≡ false → (l.fresh ≡ false) × (l.got ≡ false) × (((l.segments == 0) || l.ended) ≡ true)
parts l h = let a = or_parts l.fresh _ h in let b = or_parts l.got _ a.1 in (a.0, b.0, not-false _ b.1)

still_round : {V R : Type 0} (E : Language V R) (S : Settled) (W : Now) (l : Label) → circular W.net l ≡ true → may_move (local E S W l) ≡ false → IsStill E S W l
still_round {V} {R} E S W l t h =
    let r = row_round E S W l t in
    let p = parts (local E S W l) h in
    record {
      renewed = ap (λ (r : Row V). r.renewed) r ∙ p.0;
      moved = ap (λ (r : Row V). r.moved) r ∙ or_from _ _ p.0 p.1;
      next = ap (λ (r : Row V). r.next) r ∙ cond-false _ _ _ p.0;
    }

still_on : {V R : Type 0} (E : Language V R) (S : Settled) (W : Now) (l : Label) → circular W.net l ≡ false → may_move (local E S W l) ≡ false
    → ((u : Label) → In u (inputs W.net l) → (row E S W u).moved ≡ false) → IsStill E S W l
still_on {V} {R} E S W l f h ih =
    let r = row_on E S W l f in
    let v : Variable = variable W.net l in
    let known : Local = local E S W l in
    let p = parts known h in
    let none : behind (row E S W) (homes v.inputs) ≡ false = laws.none_of same_label label_test (λ u. (row E S W u).moved) (homes v.inputs) ih in
    let fresh : (is_fresh S W l || behind (row E S W) (homes v.inputs)) ≡ false = or_from _ _ p.0 none in
    let next : (if is_fresh S W l || behind (row E S W) (homes v.inputs) then started v (is_some (failed_inputs E W.net (outcome_in (row E S W)) v)) else pulled known) ≡ known.segments =
    cond-false _ _ _ fresh ∙ cond-true _ _ _ p.2 in
    let quiet : (not (known.segments == known.segments) && not (ends_at E v (values_of E (outcome_in (row E S W)) v) known.segments)) ≡ false =
    ap (λ b. not b && not (ends_at E v (values_of E (outcome_in (row E S W)) v) known.segments)) (eq-eqb known.segments known.segments refl) in
    record {
      renewed = ap (λ (r : Row V). r.renewed) r ∙ fresh;
      moved = ap (λ (r : Row V). r.moved) r ∙ or_from _ _ fresh
          (or_from _ _ (subst (λ k. (not (k == known.segments) && not (ends_at E v (values_of E (outcome_in (row E S W)) v) k)) ≡ false) (sym next) quiet) p.1);
      next = ap (λ (r : Row V). r.next) r ∙ next;
    }

-- nothing happens to a variable that isn't marked
pub unmarked_is_still : {V R : Type 0} (E : Language V R) (S : Settled) (W : Now) (marked : Label → Bool) → IsMarked E S W marked → (l : Label) → marked l ≡ false → IsStill E S W l
unmarked_is_still {V} {R} E S W marked ok l = laws.induct same_label label_test (labels W.net) (inputs W.net) (only_variables W.net) (λ l. marked l ≡ false → IsStill E S W l)
    (λ l t h. still_round E S W l t (ok.first l h))
    (λ l f ih h. still_on E S W l f (ok.first l h) (λ u m. (ih u m (ok.on l u h m)).moved))
    l
