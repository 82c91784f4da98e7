-- What a run hands out besides its value: the texts that it logs, the changes of mutables, and the functions that `invalidation.then` keeps
-- (this project; after Observable's `mutable` and `invalidation`).
use Rattle.std.specs.Prelude.{ℕ, ◌+◌, nat_lt, false, not, length, Result, Ok, Err, if◌then◌else◌}
use Rattle.ob_base.specs.PlainData.{elements}
use Rattle.ob_base.specs.declared.limits.Limit.TheVariants as limit
use Rattle.ob_base.specs.declared.operators.ChangeOp.{ChangeOp}
use Rattle.ob_base.specs.declared.plain.Plain.{Plain}
use Rattle.ob_items.specs.Bodies.{hooks_of}
use Rattle.ob_items.specs.declared.error.PlainError.{PlainError}
use Rattle.ob_items.specs.declared.error.PlainError.TheVariants as P
use Rattle.ob_items.specs.declared.item.Body.TheVariants as B
use Rattle.ob_items.specs.declared.thrown.Thrown.TheVariants as T
use Rattle.ob_items.specs.declared.value.Ref.{Ref}
use Rattle.ob_items.specs.declared.value.Value.{Value}
use Rattle.ob_items.specs.declared.value.Value.TheVariants as V
use Rattle.ob_values.specs.Inspect.{inspect_text}
use Rattle.ob_values.specs.PlainOf.{plain_result}
use Rattle.ob_values.specs.Store.{is_frozen, hooks_in, text_cost, written}
use Rattle.ob_actions.specs.Act.{Go, Act, ◌>>=◌, pure, refuse, updates}
use Rattle.ob_actions.specs.Core.{Core, with_store, with_log, with_effect, with_hook}
use Rattle.ob_actions.specs.FunctionValues.{is_function}
use Rattle.ob_actions.specs.Meters.{counts, throws}
use Rattle.ob_actions.specs.World.{World}

-- the number of a holder; an input after `mutable` is always a holder
abbrev pub holder_of : Value → ℕ
holder_of (V.Holder n) = n
holder_of _ = 0

-- one more function is kept
abbrev pub keep_hook : Ref → Value → Core → Core
keep_hook r f s = with_hook f (with_store (written hooks_of (λ n. B.Invalidation (n + 1)) s.store r false) s)

module _ (world : World) where
  -- `log(v)` records the printed value, of whatever length, which costs as a text of as many units
  abbrev pub log : Value → Act Core Value
  log v s =
      (counts world (text_cost (length (inspect_text s.store v)))
      >>= (λ _. updates (with_log (inspect_text s.store v)) >>= (λ _. pure V.Undefined))) s

  -- `invalidation.then(f)`: the faults are, in this order, that the object is frozen, that f is no function, that 1,000 were kept
  abbrev pub then_call : Ref → Value → Act Core Value
  then_call r f s =
      if is_frozen s.store r then throws world T.Frozen s
      else if not (is_function s.store f) then throws world T.BadArgument s
      else if nat_lt 999 (hooks_in s.store r) then throws world T.BadCount s
      else Go V.Undefined (keep_hook r f s)

  -- a change costs the elements of its plain data; what is too large for that meets the limit of elements
  abbrev pub change_by : ℕ → ChangeOp → Result Plain PlainError → Act Core (Unit {0})
  change_by holder op (Ok p) =
      counts world (elements p) >>= (λ _. updates (with_effect (record { holder = holder; op = op; value = p })))
  change_by holder op (Err P.HeapFull) = refuse limit.Elements
  change_by holder op (Err _) = throws world T.NotPlain

  -- a change of a mutable, by its holder, its operator, and its value, which is undefined for `++` and `--`
  abbrev pub change : Value → ChangeOp → Value → Act Core (Unit {0})
  change holder op v s = change_by (holder_of holder) op (plain_result s.store v) s
