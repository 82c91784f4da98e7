-- The instructions that go on at the next one and change the operands alone: how many each takes, and how many it gives.
use Rattle.std.specs.Prelude.{ℕ, ◌+◌, Option, Some, None}
use Rattle.ob_code.specs.declared.effect.Effect.{Effect}
use Rattle.ob_code.specs.declared.op.Op.{Op}
use Rattle.ob_code.specs.declared.op.Op.TheVariants as op

abbrev pub takes_and_gives : ℕ → ℕ → Option Effect
takes_and_gives taken given = Some (record { taken = taken; given = given })

abbrev pub effect_of : Op → Option Effect
effect_of op.Undefined = takes_and_gives 0 1
effect_of op.Null = takes_and_gives 0 1
effect_of (op.Bool b) = takes_and_gives 0 1
effect_of (op.Int n) = takes_and_gives 0 1
effect_of (op.Builtin n) = takes_and_gives 0 1
effect_of (op.Text t) = takes_and_gives 0 1
effect_of (op.GetLocal i) = takes_and_gives 0 1
effect_of (op.GetBox i) = takes_and_gives 0 1
effect_of (op.SetLocal i) = takes_and_gives 1 1
effect_of (op.SetBox i) = takes_and_gives 1 1
effect_of (op.InitLocal i) = takes_and_gives 1 0
effect_of (op.InitBox i) = takes_and_gives 1 0
effect_of (op.Argument i) = takes_and_gives 0 1
effect_of (op.Input i) = takes_and_gives 0 1
effect_of (op.Unary u) = takes_and_gives 1 1
effect_of (op.Binary b) = takes_and_gives 2 1
effect_of (op.Compare c) = takes_and_gives 2 1
effect_of (op.OneMore u) = takes_and_gives 1 1
effect_of op.Drop = takes_and_gives 1 0
effect_of op.Dup = takes_and_gives 1 2
effect_of op.DupTwo = takes_and_gives 2 4
effect_of op.Tuck = takes_and_gives 2 3
effect_of op.TuckTwo = takes_and_gives 3 4
effect_of op.Nip = takes_and_gives 2 1
effect_of op.NipTwo = takes_and_gives 3 1
effect_of (op.Member t) = takes_and_gives 1 1
effect_of op.Index = takes_and_gives 2 1
effect_of (op.SetMember t) = takes_and_gives 2 1
effect_of op.SetIndex = takes_and_gives 3 1
effect_of (op.Method m) = takes_and_gives 1 2
effect_of (op.Call n) = takes_and_gives (n + 2) 1
effect_of (op.New n) = takes_and_gives (n + 1) 1
effect_of (op.Array n) = takes_and_gives n 1
effect_of op.Object = takes_and_gives 0 1
effect_of (op.SetProp t) = takes_and_gives 2 1
effect_of op.Key = takes_and_gives 1 1
effect_of op.SetKey = takes_and_gives 3 1
effect_of (op.Closure f) = takes_and_gives 0 1
effect_of (op.Change c) = takes_and_gives 2 0
effect_of op.Step = takes_and_gives 0 0
effect_of (op.BinaryInt b n) = takes_and_gives 1 1
effect_of (op.BinaryLocal b i) = takes_and_gives 1 1
effect_of (op.CompareInt c n) = takes_and_gives 1 1
effect_of (op.CompareLocal c i) = takes_and_gives 1 1
effect_of (op.UpdateLocal u i) = takes_and_gives 0 0
effect_of (op.StoreLocal i) = takes_and_gives 1 0
effect_of op.Length = takes_and_gives 1 1
effect_of _ = None
