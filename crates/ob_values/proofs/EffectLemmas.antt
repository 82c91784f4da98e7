-- What a call answers, where it was tested before whether it may be carried out.
use Rattle.std.proofs.Common.{◌≡◌, ◌∙◌, ℕ, ◌+◌, Bool, true, false, refl, ap, sym, inr, Result, Ok, Err, nat_lt, subst}
use Rattle.std.specs.Prelude.{if◌then◌else◌, OnOk, IfOk}
use Rattle.std.specs.Result.{result_map_both}
use Rattle.ob_items.specs.declared.error.OpError.{OpError}
use Rattle.ob_items.specs.declared.error.OpError.TheVariants as E
use Rattle.ob_items.specs.declared.thrown.Thrown.{Thrown}
use Rattle.ob_items.specs.declared.value.RegionKey.{RegionKey}
use Rattle.ob_values.specs.declared.done.Done.{Done}
use Rattle.ob_values.specs.Effects.{Effect, answer_of, done_of, Answers, Leaves}
use Rattle.ob_values.specs.Operators.{limited}
use Rattle.ob_values.specs.Store.{Store, elements_in}

abbrev limits : {X : Type 0} → Bool → Bool → X → Result X OpError
limits a b x = if a then Err E.HeapFull else if b then Err E.StepsOut else Ok x

limits-ok : {X : Type 0} (a b : Bool) (x : X) → limits {X = Unit {0}} a b tt ≡ Ok tt → limits a b x ≡ Ok x
limits-ok false false x e = refl
limits-ok false true x e = cc
limits-ok true b x e = cc

limits-err : {X : Type 0} (a b : Bool) (x : X) (fault : OpError) → limits {X = Unit {0}} a b tt ≡ Err fault → limits a b x ≡ Err fault
limits-err false false x fault e = cc
limits-err false true x fault e = cc
limits-err true b x fault e = cc

-- an action that may be carried out, and one that meets a limit
pub limited-ok : {X : Type 0} (elements left made steps : ℕ) (x : X) → limited {X = Unit {0}} elements left made steps tt ≡ Ok tt → limited elements left made steps x ≡ Ok x
limited-ok elements left made steps x e = limits-ok (nat_lt 50000 (elements + made)) (nat_lt left (made + steps)) x e

pub limited-err : {X : Type 0} (elements left made steps : ℕ) (x : X) (fault : OpError) → limited {X = Unit {0}} elements left made steps tt ≡ Err fault → limited elements left made steps x ≡ Err fault
limited-err elements left made steps x fault e = limits-err (nat_lt 50000 (elements + made)) (nat_lt left (made + steps)) x fault e

-- a fault that is thrown
pub answers-thrown : (s : Store) (left : ℕ) (x : Result Effect Thrown) (thrown : Thrown) → x ≡ Err thrown → Answers (Err (E.Throws thrown)) (answer_of s left x)
answers-thrown s left x thrown e = inr (ap (λ y. result_map_both done_of (λ t. t) (answer_of s left y)) (sym e))

-- the test of the limits before an effect: of its region, its elements and its steps
pub record Tests (s : Store) (left : ℕ) (effect : Effect) (region : RegionKey) (made steps : ℕ) (result : Result (Unit {0}) OpError) : Type 0 where
  pub is : result ≡ limited (elements_in s region) left made steps tt
  pub region_is : region ≡ effect.region
  pub made_is : made ≡ effect.elements
  pub steps_is : steps ≡ effect.steps

tested : (s : Store) (left : ℕ) (effect : Effect) (region : RegionKey) (made steps : ℕ) (result : Result (Unit {0}) OpError) → Tests s left effect region made steps result
    → limited (elements_in s effect.region) left effect.elements effect.steps tt ≡ result
tested s left effect region made steps result h =
    sym (h.is ∙ (λ i. limited (elements_in s (h.region_is i)) left (h.made_is i) (h.steps_is i) tt))

-- a limit
pub answers-refused : (s : Store) (left : ℕ) (x : Result Effect Thrown) (effect : Effect) (region : RegionKey) (made steps : ℕ) (fault : OpError) → x ≡ Ok effect
    → Tests s left effect region made steps (Err fault) → Answers (Err fault) (answer_of s left x)
answers-refused s left x effect region made steps fault e h =
    inr (sym (ap (λ y. result_map_both done_of (λ t. t) (answer_of s left y)) e
    ∙ ap (result_map_both done_of (λ t. t)) (limited-err (elements_in s effect.region) left effect.elements effect.steps effect fault (tested s left effect region made steps (Err fault) h))))

-- what is carried out
pub answers-done : (s : Store) (left : ℕ) (x : Result Effect Thrown) (effect : Effect) (region : RegionKey) (made steps : ℕ) (done : Done) → x ≡ Ok effect
    → Tests s left effect region made steps (Ok tt) → done ≡ done_of effect → Answers (Ok done) (answer_of s left x)
answers-done s left x effect region made steps done e h is =
    inr (sym (ap (λ y. result_map_both done_of (λ t. t) (answer_of s left y)) e
    ∙ ap (result_map_both done_of (λ t. t)) (limited-ok (elements_in s effect.region) left effect.elements effect.steps effect (tested s left effect region made steps (Ok tt) h))
    ∙ ap Ok (sym is)))

pub leaves-done : (s : Store) (left : ℕ) (x : Result Effect Thrown) (effect : Effect) (region : RegionKey) (made steps : ℕ) (result : Result Done OpError) (new : Store) → x ≡ Ok effect
    → Tests s left effect region made steps (Ok tt) → OnOk result (new ≡ effect.store) → Leaves result (answer_of s left x) new
leaves-done s left x effect region made steps (Err fault) new e h is = tt
leaves-done s left x effect region made steps (Ok done) new e h is =
    subst (λ a. IfOk a (λ f. new ≡ f.store))
    (sym (ap (answer_of s left) e ∙ limited-ok (elements_in s effect.region) left effect.elements effect.steps effect (tested s left effect region made steps (Ok tt) h))) is
