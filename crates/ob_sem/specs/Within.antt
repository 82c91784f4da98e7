-- Scopes, and generators that stand still, that refer to references of one kind alone (this project).
use Rattle.std.specs.Prelude.{ℕ}
use Rattle.ob_items.specs.declared.value.Ref.{Ref}
use Rattle.ob_actions.specs.Within.{Each, IfThere, Good, GoodPlace, GoodLocals}
use Rattle.ob_sem.specs.Pending.{Pending, Rest, MoreDecls, WhileLoop, DoLoop, ForLoop, ElementLoop, PullLoop, Handler, Last, Taker, Ignored, Assigned, Declared, Suspended}
use Rattle.ob_sem.specs.Scope.{Binding, Scope}
use Rattle.ob_sem.specs.Setting.{Setting, Text, text_at}

abbrev pub GoodBinding : (Ref → Type 0) → Binding → Type 0
GoodBinding G b = GoodPlace G b.place

abbrev pub GoodScope : (Ref → Type 0) → Scope → Type 0
GoodScope G sc = Each (GoodBinding G) sc.names × G sc.inputs × IfThere G sc.invalidation

abbrev pub GoodTaker : (Ref → Type 0) → Taker → Type 0
GoodTaker G Ignored = Unit {0}
GoodTaker G (Assigned x sc) = GoodScope G sc
GoodTaker G (Declared x sc) = GoodScope G sc

abbrev pub GoodPending : (Ref → Type 0) → Pending → Type 0
GoodPending G (Rest rest sc) = GoodScope G sc
GoodPending G (MoreDecls rest sc) = GoodScope G sc
GoodPending G (WhileLoop c a sc) = GoodScope G sc
GoodPending G (DoLoop a c sc) = GoodScope G sc
GoodPending G (ForLoop k t u a sc) = GoodScope G sc
GoodPending G (ElementLoop r i k x a sc) = G r × GoodScope G sc
GoodPending G (PullLoop r k x a sc) = G r × GoodScope G sc
GoodPending G (Handler c sc) = GoodScope G sc
GoodPending G (Last f sc) = GoodScope G sc

abbrev pub GoodSuspended : (Ref → Type 0) → Suspended → Type 0
GoodSuspended G kept = GoodTaker G kept.taker × Each (GoodPending G) kept.frames × GoodLocals G kept.locals

abbrev pub GoodEntry : (Ref → Type 0) → (Ref × Suspended) → Type 0
GoodEntry G e = GoodSuspended G e.1

-- the values that texts have of their own
abbrev pub GoodTexts : (Ref → Type 0) → Setting → Type 0
GoodTexts G set = (code : ℕ) → IfThere (λ (text : Text). IfThere (Each (Good G)) text.given) (text_at set code)
