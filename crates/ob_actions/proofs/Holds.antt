-- What an action keeps: a property of states that holds before still holds after, however it ends, and what it hands on refers to nothing but
-- good references.
use Rattle.std.specs.Prelude.{Bool, true, false, if◌then◌else◌}
use Rattle.ob_items.specs.declared.value.Ref.{Ref}
use Rattle.ob_actions.specs.Act.{Out, Go, Threw, Refused, Act, then_with, ◌>>=◌, pure, choose}
use Rattle.ob_actions.specs.Within.{Good}

-- of what refers to nothing
abbrev pub Any : {A : Type 0} → A → Type 0
Any a = Unit {0}

abbrev pub After : {S A : Type 0} → (S → Type 0) → (Ref → Type 0) → (A → Type 0) → Out S A → Type 0
After P G R (Go a s) = P s × R a
After P G R (Threw v s) = P s × Good G v
After P G R (Refused l s) = P s

pub record Holds {S A : Type 0} (P : S → Type 0) (G : Ref → Type 0) (R : A → Type 0) (m : Act S A) : Type 0 where
  pub runs : (s : S) → P s → After P G R (m s)

module _ {S : Type 0} (P : S → Type 0) (G : Ref → Type 0) where
  pub then_holds : {A B : Type 0} (R : A → Type 0) (Q : B → Type 0) (o : Out S A) (k : A → Act S B) → After P G R o → ((a : A) → R a → Holds P G Q (k a)) → After P G Q (then_with o k)
  then_holds R Q (Go a s) k h f = (f a h.1).runs s h.0
  then_holds R Q (Threw v s) k h f = h
  then_holds R Q (Refused l s) k h f = h

  pub bind : {A B : Type 0} {R : A → Type 0} {Q : B → Type 0} {j : Act S A} {k : A → Act S B} → Holds P G R j → ((a : A) → R a → Holds P G Q (k a)) → Holds P G Q (j >>= k)
  unfolding ◌>>=◌
  bind {R = R} {Q = Q} {j = j} {k = k} f g = record { runs = λ s h. then_holds R Q (j s) k (f.runs s h) g }

  pub pure_holds : {A : Type 0} (R : A → Type 0) (a : A) → R a → Holds P G R (pure a)
  pure_holds R a g = record { runs = λ s h. (h, g) }

  pub choice : {A : Type 0} (R : A → Type 0) (b : Bool) (x y : Out S A) → After P G R x → After P G R y → After P G R (if b then x else y)
  choice R true x y f g = f
  choice R false x y f g = g

  pub chosen : {A : Type 0} (R : A → Type 0) (b : Bool) (j k : Act S A) → Holds P G R j → Holds P G R k → Holds P G R (choose b j k)
  chosen R b j k f g = record { runs = λ s h. choice R b (j s) (k s) (f.runs s h) (g.runs s h) }

  pub either : {A : Type 0} (R : A → Type 0) (b : Bool) (j k : Act S A) → Holds P G R j → Holds P G R k → Holds P G R (if b then j else k)
  either R true j k f g = f
  either R false j k f g = g
