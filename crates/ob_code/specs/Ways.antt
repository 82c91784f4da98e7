-- Where each instruction leads, and in which shape; none where it breaks the rules.
use Rattle.std.specs.Prelude.{ℕ, ◌+◌, ◌-◌, ◌==◌, nat_le, Bool, true, false, ◌&&◌, List, Option, Some, None, slice_get, if◌then◌else◌}
use Rattle.std.specs.Option.{option_map_or}
use Rattle.ob_code.specs.Code.{Site}
use Rattle.ob_code.specs.Effects.{effect_of}
use Rattle.ob_code.specs.Shapes.{Shapes, shape_at, with_operands, with_locals, with_boxes, with_inside, covers, outside}
use Rattle.ob_code.specs.There.{is_there}
use Rattle.ob_code.specs.declared.effect.Effect.{Effect}
use Rattle.ob_code.specs.declared.op.Op.{Op}
use Rattle.ob_code.specs.declared.op.Op.TheVariants as op
use Rattle.ob_code.specs.declared.shape.Open.{Open}
use Rattle.ob_code.specs.declared.shape.Open.TheVariants as open_at
use Rattle.ob_code.specs.declared.shape.Shape.{Shape}
use Rattle.ob_code.specs.declared.shape.Way.{Way}
use Rattle.ob_code.specs.declared.shape.Ways.{Ways}
use Rattle.ob_code.specs.declared.shape.Ways.TheVariants as ways

-- where a fact holds
abbrev pub if_so : Bool → Ways → Option Ways
if_so true w = Some w
if_so false w = None

abbrev pub to : ℕ → Shape → Way
to place s = record { place = place; shape = s }

-- ---- what is open

abbrev pub is_loop : Op → Bool
is_loop (op.Loop out again) = true
is_loop _ = false

abbrev pub is_over : Op → Bool
is_over (op.Over out again) = true
is_over _ = false

abbrev pub is_try : Op → Bool
is_try (op.Try n) = true
is_try _ = false

abbrev pub is_last : Op → Bool
is_last (op.Last n) = true
is_last _ = false

-- an instruction of this kind opened what is open
abbrev pub is_in : List Op → (Op → Bool) → Open → Bool
is_in ops kind (open_at.In p) = option_map_or kind (slice_get ops p) false
is_in ops kind _ = false

abbrev pub is_after : Open → Bool
is_after (open_at.After p) = true
is_after _ = false

-- ---- the kinds of ways

-- to the next instruction
abbrev pub next : ℕ → Shape → Ways
next place s = ways.One (to (place + 1) s)

-- to the next instruction, or so much later
abbrev pub fork : ℕ → ℕ → Shape → Shape → Ways
fork place n s t = ways.Two (to (place + 1) s) (to (place + 1 + n) t)

-- the operands that an instruction finds are taken, and others are given
abbrev pub with_effect : Effect → Shape → Shape
with_effect e s = with_operands (s.operands - e.taken + e.given) s

abbrev pub is_empty : Shape → Bool
is_empty s = s.operands == 0

-- without so many operands
abbrev pub less : ℕ → Shape → Shape
less n s = with_operands (s.operands - n) s

abbrev pub is_nothing : Open → Bool
is_nothing open_at.Nothing = true
is_nothing _ = false

-- so much later
abbrev pub ahead : ℕ → ℕ → Shape → Ways
ahead place n s = ways.One (to (place + 1 + n) s)

-- a loop, open: what is there now is there in each turn, and behind it
abbrev pub opened : ℕ → ℕ → ℕ → Shape → Ways
opened place out again s =
    ways.Three (to (place + 1) (with_inside (open_at.In place) s)) (to (place + 1 + out) s)
    (to (place + 1 + again) (with_inside (open_at.In place) s))

module _ (shapes : Shapes) where
  -- a jump back to a place that is known finds there what that place asks
  abbrev pub is_way_back : ℕ → ℕ → Shape → Bool
  is_way_back place n s = nat_le n place && option_map_or (covers s) (shape_at shapes (place - n)) false

  -- where what is open is closed
  abbrev pub closed : Shape → Shape
  closed s = with_inside (outside shapes s.inside) s

-- scopes
abbrev pub scope_ways : ℕ → Op → Shape → Option Ways
scope_ways place (op.Arguments n more) s = if_so (is_empty s && is_nothing s.inside) (next place (with_locals (n + more) s))
scope_ways place (op.Enter size more) s = if_so (nat_le s.operands 1 && nat_le size s.locals) (next place (with_locals (size + more) s))
scope_ways place (op.Boxes kept more) s = if_so (nat_le kept s.boxes) (next place (with_boxes (kept + more) s))
scope_ways place (op.Copy start n) s = if_so (nat_le (start + n) s.boxes) (next place (with_boxes (start + n) s))
scope_ways place (op.Keep size kept) s =
    if_so (nat_le size s.locals && nat_le kept s.boxes) (next place (with_locals size (with_boxes kept s)))
scope_ways place _ s = None

abbrev pub effect_ways : Site → ℕ → Effect → Shape → Option Ways
effect_ways site place e s =
    if_so (nat_le e.taken s.operands && nat_le (s.operands - e.taken + e.given) site.operands) (next place (with_effect e s))

module _ (site : Site) (shapes : Shapes) where
  -- the test of a loop, which takes so many operands
  abbrev pub turn : ℕ → ℕ → ℕ → Shape → Option Ways
  turn place taken n s =
      if_so (nat_le taken s.operands && is_in site.ops is_loop s.inside && is_way_back shapes place n (less taken s))
      (next place (closed shapes (less taken s)))

  -- what is open, and the ways out of it
  abbrev pub open_ways : ℕ → Op → Shape → Option Ways
  open_ways place (op.Loop out again) s = if_so (is_empty s) (opened place out again s)
  open_ways place (op.Over out again) s = if_so (s.operands == 1) (opened place out again (less 1 s))
  open_ways place (op.Body n size kept) s = if_so (is_empty s) (fork place n (with_locals size (with_boxes kept s)) s)
  open_ways place op.Each s = if_so (is_empty s && is_in site.ops is_over s.inside) (next place (with_operands 1 s))
  open_ways place (op.Try n) s = if_so (is_empty s) (fork place n (with_inside (open_at.In place) s) (with_operands 1 s))
  open_ways place (op.EndTry n) s = if_so (is_empty s && is_in site.ops is_try s.inside) (ahead place n (closed shapes s))
  open_ways place (op.Last n) s =
      if_so (is_empty s) (fork place n (with_inside (open_at.In place) s) (with_inside (open_at.After place) s))
  open_ways place op.Finish s = if_so (is_empty s && is_in site.ops is_last s.inside) ways.Nowhere
  open_ways place op.EndLast s = if_so (is_empty s && is_after s.inside) (next place (closed shapes s))
  open_ways place op.Begin s = if_so (is_empty s && is_nothing s.inside) (next place (with_operands 1 s))
  open_ways place op.Yield s = if_so (s.operands == 1) (next place s)
  open_ways place o s = scope_ways place o s

  -- jumps
  abbrev pub jump_ways : ℕ → Op → Shape → Option Ways
  jump_ways place op.Constant s = Some ways.Nowhere
  jump_ways place op.Break s = Some ways.Nowhere
  jump_ways place op.Continue s = Some ways.Nowhere
  jump_ways place op.Return s = if_so (nat_le 1 s.operands) ways.Nowhere
  jump_ways place op.Throw s = if_so (nat_le 1 s.operands) ways.Nowhere
  jump_ways place (op.Logic l n) s = if_so (nat_le 1 s.operands) (fork place n (less 1 s) s)
  jump_ways place (op.Skip n) s = Some (ahead place n s)
  jump_ways place (op.SkipIfFalse n) s = if_so (nat_le 1 s.operands) (fork place n (less 1 s) (less 1 s))
  jump_ways place (op.SkipUnless c n) s = if_so (nat_le 2 s.operands) (fork place n (less 2 s) (less 2 s))
  jump_ways place (op.SkipUnlessInt c k n) s = if_so (nat_le 1 s.operands) (fork place n (less 1 s) (less 1 s))
  jump_ways place (op.Turn n) s = if_so (is_way_back shapes place n s) ways.Nowhere
  jump_ways place (op.TurnIf n) s = turn place 1 n s
  jump_ways place (op.TurnWhile c n) s = turn place 2 n s
  jump_ways place (op.TurnWhileInt c i k n) s = turn place 0 n s
  jump_ways place (op.TurnWhileLocal c i j n) s = turn place 0 n s
  jump_ways place o s = open_ways place o s

  abbrev pub ways_by : Option Effect → ℕ → Op → Shape → Option Ways
  ways_by None place o s = jump_ways place o s
  ways_by (Some e) place o s = effect_ways site place e s

  -- the ways that lead on from an instruction, in the shape that a call has there
  abbrev pub ways_of : ℕ → Op → Shape → Option Ways
  ways_of place o s = if is_there site s o then ways_by (effect_of o) place o s else None
