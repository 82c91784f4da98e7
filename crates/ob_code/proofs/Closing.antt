-- The instructions that close what is open, and calls; and with all instructions: code that keeps the rules is never stuck.
use Rattle.std.proofs.Common.{◌≡◌, ℕ, ◌+◌, ◌-◌, ◌≤◌, Bool, true, false, ◌&&◌, List, [], ◌∷◌, length, Option, Some, None, slice_get, refl, sym, ap, ◌∙◌, subst, arith, nat_le}
use Rattle.std.specs.Option.{option_map_or}
use Rattle.std.proofs.lemmas.Option.{none-some}
use Rattle.ob_items.specs.declared.value.Value.{Value}
use Rattle.ob_items.specs.declared.value.Value.TheVariants as V
use Rattle.ob_values.specs.Operators.{is_truthy}
use Rattle.ob_actions.specs.Act.{Act, ◌>>=◌, pure}
use Rattle.ob_actions.specs.Core.{Core}
use Rattle.ob_actions.specs.Operators.{compare}
use Rattle.ob_actions.specs.Places.{Slot, read}
use Rattle.ob_actions.specs.World.{World}
use Rattle.ob_code.specs.Code.{Code, Site, code_of, site_of, functions_of, boxes_for_each}
use Rattle.ob_code.specs.Configs.{Here, Own, Config, Running}
use Rattle.ob_code.specs.Effects.{effect_of}
use Rattle.ob_code.specs.Fits.{IsOpenedBy, IsEntryOf, StandFor, Fits}
use Rattle.ob_code.specs.Instructions.{act, turn, turned, after_last}
use Rattle.ob_code.specs.Shapes.{Shapes, shape_at, opener, outside, locals_kept, boxes_kept, with_operands, with_inside}
use Rattle.ob_code.specs.Ways.{if_so, ways_of, ways_by, jump_ways, effect_ways, with_effect, fork, ahead, opened, is_empty, is_nothing, is_after, is_in, is_loop, is_over, is_try, is_last, is_way_back, closed, less, to, next}
use Rattle.ob_code.specs.Ways as specs_ways
use Rattle.ob_code.specs.declared.chunk.Chunk.{Chunk}
use Rattle.ob_code.specs.declared.entry.Entry.{Entry}
use Rattle.ob_code.specs.declared.entry.Entry.TheVariants as entry
use Rattle.ob_code.specs.declared.entry.Leaving.{Leaving}
use Rattle.ob_code.specs.declared.op.Op.{Op}
use Rattle.ob_code.specs.declared.op.Op.TheVariants as op
use Rattle.ob_code.specs.declared.shape.Open.{Open}
use Rattle.ob_code.specs.declared.shape.Open.TheVariants as open_at
use Rattle.ob_code.specs.declared.shape.Shape.{Shape}
use Rattle.ob_code.specs.declared.shape.Ways.TheVariants as ways
use Rattle.ob_code.proofs.Lands.{so_parts, land, Needs, outer, given_fits, leaves_fit, last_leads}
use Rattle.ob_code.proofs.Locals.{Leaves, bind_left, pure_left, compare_left, read_left}
use Rattle.ob_code.proofs.Tables.{Covered, AllCovered, SameTo, both_parts, is_le, is_eq, opener_same}
use Rattle.ob_code.proofs.Plain.{found}
use Rattle.ob_code.proofs.Controls as controls
use Rattle.ob_code.proofs.Walks.{IsSound}

module _ (world : World) (chunk f : Chunk) (boxes : ℕ) (here : Here) (final : Shapes) (sound : IsSound (site_of (boxes_for_each (functions_of chunk)) boxes f) final) where
  abbrev site : Site
  site = site_of (boxes_for_each (functions_of chunk)) boxes f

  abbrev code : Code
  code = code_of f

  abbrev FitsHere : Config → Type 0
  FitsHere c = Fits site.ops final c

  -- what is open, and what is open behind it
  record Inner (inside : Open) (x : Entry) (es : List Entry) (n : ℕ) (o : Own) : Type 0 where
    shape : Shape
    opened : opener final inside ≡ Some shape
    opens : IsEntryOf site.ops inside x
    stand : StandFor site.ops final shape.inside es

  inner_of : (inside : Open) (x : Entry) (es : List Entry) (n : ℕ) (o : Own) → StandFor site.ops final inside (x ∷ es) → Inner inside x es n o
  inner_of inside x es n o h = record { shape = h.0; opened = h.1; opens = h.2; stand = h.3 }

  pub in_parts : (kind : Op → Bool) (inside : Open) → is_in site.ops kind inside ≡ true → (p : ℕ) × (i : Op) × (inside ≡ open_at.In p) × (slice_get site.ops p ≡ Some i) × (kind i ≡ true)
  in_parts kind open_at.Nothing h = cc
  in_parts kind (open_at.After p) h = cc
  in_parts kind (open_at.In p) h = let x = found (slice_get site.ops p) kind h in (p, x.0, refl, x.1, x.2)

  pub nothing_in : (kind : Op → Bool) (inside : Open) → is_in site.ops kind inside ≡ true → is_nothing inside ≡ true → ⊥
  nothing_in kind open_at.Nothing h k = cc
  nothing_in kind (open_at.After p) h k = cc
  nothing_in kind (open_at.In p) h k = cc

  last_parts : (i : Op) → is_last i ≡ true → (k : ℕ) × (i ≡ op.Last k)
  last_parts (op.Last k) h = (k, refl)
  last_parts _ h = cc

  last_of : (k : ℕ) (y : Entry) (p : ℕ) → IsOpenedBy (Some (op.Last k)) p y → (a : ℕ) × (y ≡ entry.Last a) × (a ≡ p + 1 + k)
  last_of k (entry.Last a) p g = (a, refl, g)
  last_of k (entry.Handler a) p g = absurd g
  last_of k (entry.Turn a b) p g = absurd g
  last_of k (entry.Elements a b r i) p g = absurd g
  last_of k (entry.Pulls a b r) p g = absurd g
  last_of k (entry.After l) p g = absurd g

  after_entry : (inside : Open) (y : Entry) → is_after inside ≡ true → IsEntryOf site.ops inside y → (how : Option Leaving) × (y ≡ entry.After how)
  after_entry open_at.Nothing y h g = cc
  after_entry (open_at.In p) y h g = cc
  after_entry (open_at.After p) (entry.After how) h g = (how, refl)
  after_entry (open_at.After p) (entry.Handler a) h g = absurd g
  after_entry (open_at.After p) (entry.Turn a b) h g = absurd g
  after_entry (open_at.After p) (entry.Elements a b r i) h g = absurd g
  after_entry (open_at.After p) (entry.Pulls a b r) h g = absurd g
  after_entry (open_at.After p) (entry.Last a) h g = absurd g

  nothing_after : (inside : Open) → is_after inside ≡ true → is_nothing inside ≡ true → ⊥
  nothing_after open_at.Nothing h k = cc
  nothing_after (open_at.After p) h k = cc
  nothing_after (open_at.In p) h k = cc

  module _ (pc : ℕ) (t : Shape) (known : shape_at final pc ≡ Some t) (s : Core) (o : Own) (enough : t.locals ≤ length s.locals) (boxed : t.boxes ≤ length o.boxes) where
    abbrev n : ℕ
    n = length s.locals

    -- behind what is closed
    closes : (table : Shapes) (x : Entry) (es : List Entry) (k q : ℕ) (st : List Value) (u : Core) → SameTo pc table final → Inner t.inside x es n o → Covered final q (closed table (with_operands k t)) → length st ≡ k → length u.locals ≡ n
        → FitsHere (Running q st es u o)
    closes table x es k q st u same inner c e h =
        let before = controls.before world chunk f boxes here final sound pc t known in
        let a : opener table t.inside ≡ Some inner.shape = sym (opener_same pc table final t.inside same before) ∙ inner.opened in
        let b : outside table t.inside ≡ (inner.shape).inside = ap (λ y. option_map_or (λ (z : Shape). z.inside) y open_at.Nothing) a in
        land site final sound q (closed table (with_operands k t)) st es u o c
        (record { operands = e; stand = subst (λ y. StandFor site.ops final y es) (sym b) inner.stand; locals = subst (λ m. t.locals ≤ m) (sym h) enough; boxes = boxed })

    -- ---- the test of a loop

    module _ (x : Entry) (es : List Entry) (stand : StandFor site.ops final t.inside (x ∷ es)) (table : Shapes) (same : SameTo pc table final) (k j : ℕ) (st : List Value) (len : length st ≡ j)
        (back : Covered final (pc - k) (with_operands j t)) (out : Covered final (pc + 1) (closed table (with_operands j t))) where
      turn_on : (b : Bool) (u : Core) → length u.locals ≡ n → FitsHere (turn world b k pc st (x ∷ es) u o)
      turn_on true u h = controls.goes_back world chunk f boxes here final sound pc t known s o enough boxed (x ∷ es) stand k j st u back len h
      turn_on false u h = closes table x es j (pc + 1) st u same (inner_of t.inside x es n o stand) out len h

      turned_fits : (m : Act Core Value) → Leaves n m → FitsHere (turned world m k pc st (x ∷ es) s o)
      turned_fits m left =
          given_fits site final sound world n (m s) t.inside (x ∷ es) o _ (left.runs s refl) (controls.needs world chunk f boxes here final sound pc t known s o enough boxed (x ∷ es) stand)
          (λ v u h. turn_on (is_truthy u.store v) u h)

    turn_by : (i : Op) (taken k : ℕ) (es : List Entry) (st : List Value) (m : Act Core Value) → Leaves n m → slice_get site.ops pc ≡ Some i → effect_of i ≡ None
        → ((c : Shapes) → jump_ways site c pc i t ≡ specs_ways.turn site c pc taken k t)
        → StandFor site.ops final t.inside es → (taken ≤ t.operands → length st ≡ t.operands - taken) → FitsHere (turned world m k pc st es s o)
    turn_by i taken k [] st m left at e jump stand len =
        let c = controls.control world chunk f boxes here final sound pc t known i at e in
        let w = so_parts (nat_le taken t.operands && is_in site.ops is_loop t.inside && is_way_back c.table pc k (less taken t)) (next pc (closed c.table (less taken t))) c.ways (sym (jump c.table) ∙ c.led) in
        let p = both_parts (nat_le taken t.operands && is_in site.ops is_loop t.inside) (is_way_back c.table pc k (less taken t)) w.0 in
        let q = both_parts (nat_le taken t.operands) (is_in site.ops is_loop t.inside) p.0 in
        absurd (nothing_in is_loop t.inside q.1 stand)
    turn_by i taken k (x ∷ es) st m left at e jump stand len =
        let c = controls.control world chunk f boxes here final sound pc t known i at e in
        let w = so_parts (nat_le taken t.operands && is_in site.ops is_loop t.inside && is_way_back c.table pc k (less taken t)) (next pc (closed c.table (less taken t))) c.ways (sym (jump c.table) ∙ c.led) in
        let p = both_parts (nat_le taken t.operands && is_in site.ops is_loop t.inside) (is_way_back c.table pc k (less taken t)) w.0 in
        let q = both_parts (nat_le taken t.operands) (is_in site.ops is_loop t.inside) p.0 in
        turned_fits x es stand c.table c.same k (t.operands - taken) st (len (is_le taken t.operands q.0))
        (controls.back world chunk f boxes here final sound pc t known c.table k (less taken t) c.same p.1) (subst (AllCovered final) (sym w.1) c.covered) m left

    taken_enough : (i : Op) (taken k : ℕ) → slice_get site.ops pc ≡ Some i → effect_of i ≡ None → ((c : Shapes) → jump_ways site c pc i t ≡ specs_ways.turn site c pc taken k t) → taken ≤ t.operands
    taken_enough i taken k at e jump =
        let c = controls.control world chunk f boxes here final sound pc t known i at e in
        let w = so_parts (nat_le taken t.operands && is_in site.ops is_loop t.inside && is_way_back c.table pc k (less taken t)) (next pc (closed c.table (less taken t))) c.ways (sym (jump c.table) ∙ c.led) in
        let p = both_parts (nat_le taken t.operands && is_in site.ops is_loop t.inside) (is_way_back c.table pc k (less taken t)) w.0 in
        is_le taken t.operands ((both_parts (nat_le taken t.operands) (is_in site.ops is_loop t.inside) p.0).0)

    pub turn_if_fits : (k : ℕ) (es : List Entry) (st : List Value) → StandFor site.ops final t.inside es → slice_get site.ops pc ≡ Some (op.TurnIf k) → length st ≡ t.operands → FitsHere (act world chunk code here (op.TurnIf k) pc st es s o)
    turn_if_fits k es [] stand at e = absurd (omega (arith, taken_enough (op.TurnIf k) 1 k at refl (λ c. refl), e))
    turn_if_fits k es (v ∷ st) stand at e = turn_by (op.TurnIf k) 1 k es st (pure v) (pure_left n v) at refl (λ c. refl) stand (λ h. omega (arith, e, h))

    pub turn_while_fits : (q : _) (k : ℕ) (es : List Entry) (st : List Value) → StandFor site.ops final t.inside es → slice_get site.ops pc ≡ Some (op.TurnWhile q k) → length st ≡ t.operands → FitsHere (act world chunk code here (op.TurnWhile q k) pc st es s o)
    turn_while_fits q k es [] stand at e = absurd (omega (arith, taken_enough (op.TurnWhile q k) 2 k at refl (λ c. refl), e))
    turn_while_fits q k es (y ∷ []) stand at e = absurd (omega (arith, taken_enough (op.TurnWhile q k) 2 k at refl (λ c. refl), e))
    turn_while_fits q k es (y ∷ x ∷ st) stand at e = turn_by (op.TurnWhile q k) 2 k es st (compare world q x y) (compare_left n world q x y) at refl (λ c. refl) stand (λ h. omega (arith, e, h))

    pub turn_while_int_fits : (q : _) (i : ℕ) (m : _) (k : ℕ) (es : List Entry) (st : List Value) → StandFor site.ops final t.inside es → slice_get site.ops pc ≡ Some (op.TurnWhileInt q i m k) → length st ≡ t.operands
        → FitsHere (act world chunk code here (op.TurnWhileInt q i m k) pc st es s o)
    turn_while_int_fits q i m k es st stand at e =
        turn_by (op.TurnWhileInt q i m k) 0 k es st (read world (Slot i) >>= (λ x. compare world q x (V.Int m))) (bind_left n (read_left n world (Slot i)) (λ x. compare_left n world q x (V.Int m))) at refl (λ c. refl) stand (λ h. omega (arith, e, h))

    pub turn_while_local_fits : (q : _) (i j k : ℕ) (es : List Entry) (st : List Value) → StandFor site.ops final t.inside es → slice_get site.ops pc ≡ Some (op.TurnWhileLocal q i j k) → length st ≡ t.operands
        → FitsHere (act world chunk code here (op.TurnWhileLocal q i j k) pc st es s o)
    turn_while_local_fits q i j k es st stand at e =
        turn_by (op.TurnWhileLocal q i j k) 0 k es st (read world (Slot i) >>= (λ x. read world (Slot j) >>= (λ y. compare world q x y)))
        (bind_left n (read_left n world (Slot i)) (λ x. bind_left n (read_left n world (Slot j)) (λ y. compare_left n world q x y))) at refl (λ c. refl) stand (λ h. omega (arith, e, h))

    -- ---- the ends of what was opened

    pub end_try_fits : (k : ℕ) (es : List Entry) (st : List Value) → StandFor site.ops final t.inside es → slice_get site.ops pc ≡ Some (op.EndTry k) → length st ≡ t.operands → FitsHere (act world chunk code here (op.EndTry k) pc st es s o)
    end_try_fits k [] st stand at e =
        let c = controls.control world chunk f boxes here final sound pc t known (op.EndTry k) at refl in
        let w = so_parts (is_empty t && is_in site.ops is_try t.inside) (ahead pc k (closed c.table t)) c.ways c.led in
        let p = both_parts (is_empty t) (is_in site.ops is_try t.inside) w.0 in
        absurd (nothing_in is_try t.inside p.1 stand)
    end_try_fits k (x ∷ es) st stand at e =
        let c = controls.control world chunk f boxes here final sound pc t known (op.EndTry k) at refl in
        let w = so_parts (is_empty t && is_in site.ops is_try t.inside) (ahead pc k (closed c.table t)) c.ways c.led in
        closes c.table x es t.operands (pc + 1 + k) st s c.same (inner_of t.inside x es n o stand) (subst (AllCovered final) (sym w.1) c.covered) e refl

    -- `Last` opened what is open
    pub finish_fits : (es : List Entry) (st : List Value) → StandFor site.ops final t.inside es → slice_get site.ops pc ≡ Some op.Finish → length st ≡ t.operands → FitsHere (act world chunk code here op.Finish pc st es s o)
    finish_fits [] st stand at e =
        let c = controls.control world chunk f boxes here final sound pc t known op.Finish at refl in
        let w = so_parts (is_empty t && is_in site.ops is_last t.inside) ways.Nowhere c.ways c.led in
        absurd (nothing_in is_last t.inside ((both_parts (is_empty t) (is_in site.ops is_last t.inside) w.0).1) stand)
    finish_fits (x ∷ es) st stand at e =
        let c = controls.control world chunk f boxes here final sound pc t known op.Finish at refl in
        let w = so_parts (is_empty t && is_in site.ops is_last t.inside) ways.Nowhere c.ways c.led in
        let p = both_parts (is_empty t) (is_in site.ops is_last t.inside) w.0 in
        let q = in_parts is_last t.inside p.1 in
        let k = last_parts q.1 q.4 in
        let inner = inner_of t.inside x es n o stand in
        let open_by : opener final (open_at.In q.0) ≡ Some inner.shape = subst (λ y. opener final y ≡ Some inner.shape) q.2 inner.opened in
        let it : IsOpenedBy (Some (op.Last k.0)) q.0 x = subst (λ y. IsOpenedBy y q.0 x) (q.3 ∙ ap Some k.1) (subst (λ y. IsEntryOf site.ops y x) q.2 inner.opens) in
        let a = last_of k.0 x q.0 it in
        let needs = controls.needs world chunk f boxes here final sound pc t known s o enough boxed (x ∷ es) stand in
        let l = last_leads site final sound q.0 inner.shape open_by k.0 (q.3 ∙ ap Some k.1) in
        subst (λ y. FitsHere (act world chunk code here op.Finish pc st (y ∷ es) s o)) (sym a.1)
        (land site final sound a.0 (with_inside (open_at.After q.0) inner.shape) st (entry.After None ∷ es) s o
        (subst (λ y. Covered final y (with_inside (open_at.After q.0) inner.shape)) (sym a.2) l.2)
        (record {
          operands = e ∙ is_eq t.operands 0 p.0 ∙ sym l.0;
          stand = (inner.shape, open_by, tt, inner.stand);
          locals = subst (λ y. option_map_or (λ (z : Shape). z.locals) y 0 ≤ n) inner.opened needs.locals;
          boxes = subst (λ y. option_map_or (λ (z : Shape). z.boxes) y 0 ≤ length o.boxes) inner.opened needs.boxes;
        }))

    after_last_fits : (how : Option Leaving) (x : Entry) (es : List Entry) (st : List Value) (table : Shapes) → SameTo pc table final → StandFor site.ops final t.inside (x ∷ es) → length st ≡ t.operands
        → Covered final (pc + 1) (closed table (with_operands t.operands t)) → FitsHere (after_last world how (pc + 1) st es s o)
    after_last_fits None x es st table same stand e c = closes table x es t.operands (pc + 1) st s same (inner_of t.inside x es n o stand) c e refl
    after_last_fits (Some l) x es st table same stand e c =
        let inner = inner_of t.inside x es n o stand in
        let needs = controls.needs world chunk f boxes here final sound pc t known s o enough boxed (x ∷ es) stand in
        leaves_fit site final sound world n l (inner.shape).inside es s o refl (behind t.inside es inner.shape inner.opened inner.stand needs.locals needs.boxes)
      where
        behind : (inside : Open) (es : List Entry) (u : Shape) → opener final inside ≡ Some u → StandFor site.ops final u.inside es → locals_kept final inside ≤ n → boxes_kept final inside ≤ length o.boxes
            → Needs site final sound world u.inside es n o
        behind open_at.Nothing es u h stand l b = absurd (none-some u h)
        behind (open_at.In p) es u h stand l b =
            outer site final sound world p n u es o h (subst (λ y. option_map_or (λ (z : Shape). z.locals) y 0 ≤ n) h l) (subst (λ y. option_map_or (λ (z : Shape). z.boxes) y 0 ≤ length o.boxes) h b) stand
        behind (open_at.After p) es u h stand l b =
            outer site final sound world p n u es o h (subst (λ y. option_map_or (λ (z : Shape). z.locals) y 0 ≤ n) h l) (subst (λ y. option_map_or (λ (z : Shape). z.boxes) y 0 ≤ length o.boxes) h b) stand

    pub end_last_fits : (es : List Entry) (st : List Value) → StandFor site.ops final t.inside es → slice_get site.ops pc ≡ Some op.EndLast → length st ≡ t.operands → FitsHere (act world chunk code here op.EndLast pc st es s o)
    end_last_fits [] st stand at e =
        let c = controls.control world chunk f boxes here final sound pc t known op.EndLast at refl in
        let w = so_parts (is_empty t && is_after t.inside) (next pc (closed c.table t)) c.ways c.led in
        absurd (nothing_after t.inside ((both_parts (is_empty t) (is_after t.inside) w.0).1) stand)
    end_last_fits (x ∷ es) st stand at e =
        let c = controls.control world chunk f boxes here final sound pc t known op.EndLast at refl in
        let w = so_parts (is_empty t && is_after t.inside) (next pc (closed c.table t)) c.ways c.led in
        let p = both_parts (is_empty t) (is_after t.inside) w.0 in
        let q = after_entry t.inside x p.1 ((inner_of t.inside x es n o stand).opens) in
        subst (λ y. FitsHere (act world chunk code here op.EndLast pc st (y ∷ es) s o)) (sym q.1)
        (after_last_fits q.0 x es st c.table c.same stand e (subst (AllCovered final) (sym w.1) c.covered))
