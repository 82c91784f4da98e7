-- The instructions that change more than operands: scopes, jumps, what is open. In code that keeps the rules each leads to where the call fits.
use Rattle.std.proofs.Common.{◌≡◌, ℕ, zero, suc, ◌+◌, ◌-◌, ◌≤◌, ◌==◌, Bool, true, false, ◌&&◌, List, [], ◌∷◌, ◌++◌, length, take, drop, Option, Some, None, slice_get, refl, sym, ap, ◌∙◌, subst, arith, nat_le, if◌then◌else◌}
use Rattle.std.specs.List.{repeat}
use Rattle.std.specs.Option.{option_map_or}
use Rattle.std.proofs.lemmas.Option.{same_Some}
use Rattle.ob_items.specs.declared.item.Body.{Body}
use Rattle.ob_items.specs.declared.item.Body.TheVariants as B
use Rattle.ob_items.specs.declared.thrown.Thrown.TheVariants as T
use Rattle.ob_items.specs.declared.value.Ref.{Ref}
use Rattle.ob_items.specs.declared.value.Value.{Value}
use Rattle.ob_items.specs.declared.value.Value.TheVariants as V
use Rattle.ob_values.specs.Operators.{is_truthy}
use Rattle.ob_values.specs.Store.{body_of}
use Rattle.ob_actions.specs.Act.{Out, Go, Threw, Refused, Act, pure}
use Rattle.ob_actions.specs.Core.{Core}
use Rattle.ob_actions.specs.Meters.{takes_step, throws}
use Rattle.ob_actions.specs.NewItems.{new_generator, blank_frame}
use Rattle.ob_actions.specs.Operators.{needs_second, compare}
use Rattle.ob_actions.specs.World.{World}
use Rattle.ob_code.specs.Code.{Code, Site, code_of, site_of, functions_of, boxes_for_each}
use Rattle.ob_code.specs.Configs.{Here, Own, Config, Running}
use Rattle.ob_code.specs.Effects.{effect_of}
use Rattle.ob_code.specs.Fits.{IsOpenedBy, StandFor, Fits}
use Rattle.ob_code.specs.Instructions.{act, first_locals, new_boxes, copied, acted, tested, thrown, logic, over, over_value}
use Rattle.ob_code.specs.Leaves.{leaves, given}
use Rattle.ob_code.specs.Shapes.{Shapes, shape_at, covers, agree, with_operands, with_inside, with_locals, with_boxes as shape_boxes}
use Rattle.ob_code.specs.There.{is_there}
use Rattle.ob_code.specs.Ways.{ways_by, jump_ways, fork, ahead, is_empty, is_nothing, is_way_back, less, next}
use Rattle.ob_code.specs.declared.chunk.Chunk.{Chunk}
use Rattle.ob_code.specs.declared.entry.Entry.{Entry}
use Rattle.ob_code.specs.declared.entry.Entry.TheVariants as entry
use Rattle.ob_code.specs.declared.entry.Leaving.{Leaving}
use Rattle.ob_code.specs.declared.entry.Leaving.TheVariants as leaving
use Rattle.ob_code.specs.declared.op.Op.{Op}
use Rattle.ob_code.specs.declared.op.Op.TheVariants as op
use Rattle.ob_code.specs.declared.shape.Open.TheVariants as open_at
use Rattle.ob_code.specs.declared.shape.Shape.{Shape}
use Rattle.ob_code.specs.declared.shape.Ways.{Ways}
use Rattle.ob_code.specs.declared.shape.Ways.TheVariants as ways
use Rattle.ob_code.proofs.Lands.{so_parts, Has, land, kept_at, Needs, outer, given_fits, leaves_fit, loop_leads, over_leads, try_leads, last_leads}
use Rattle.ob_code.proofs.Locals.{Leaves, LeftMany, new_many, copied_many, pure_left, step_left, throws_left, compare_left, new_generator_left}
use Rattle.ob_code.proofs.Tables.{Covered, AllCovered, Kept, Before, SameTo, both_parts, is_le, is_lt, is_eq, open_same, agree_parts, opener_same, less_refl}
use Rattle.ob_code.proofs.Tables as tables
use Rattle.ob_code.proofs.Plain.{found, tested_parts}
use Rattle.std.proofs.lemmas.List.{length-take, length-append}
use Rattle.ob_code.proofs.Walks.{IsSound}

-- ---- lists

abbrev no_value : Option Value
no_value = None

long_repeat : (k : ℕ) → length (repeat k (no_value ∷ [])) ≡ k
long_repeat zero = refl
long_repeat (suc k) = omega (arith, long_repeat k)

long_first : (k : ℕ) (args : List Value) → length (first_locals k args) ≡ k
long_first zero args = refl
long_first (suc k) args = ap suc (long_first k (drop 1 args))

long_both : {X : Type 0} (xs ys : List X) (a b : ℕ) → a ≤ length xs → b ≤ length ys → a + b ≤ length (xs ++ ys)
long_both xs ys a b h k = omega (arith, length-append xs ys, h, k)

long_take : {X : Type 0} (k : ℕ) (xs : List X) → k ≤ length xs → length (take k xs) ≡ k
long_take k xs h = omega (arith, length-take k xs, h)

long_part : {X : Type 0} (start k : ℕ) (xs : List X) → start + k ≤ length xs → length (take k (drop start xs)) ≡ k
long_part zero k xs h = long_take k xs (omega (arith, h))
long_part (suc start) k [] h = absurd (omega (arith, h))
long_part (suc start) k (x ∷ xs) h = long_part start k xs (omega (arith, h))

some_parts : (x y : Ways) → Some x ≡ Some y → x ≡ y
some_parts x y h = same_Some x y h

module _ (world : World) (chunk f : Chunk) (entry_boxes : ℕ) (here : Here) (final : Shapes) (sound : IsSound (site_of (boxes_for_each (functions_of chunk)) entry_boxes f) final) where
  abbrev site : Site
  site = site_of (boxes_for_each (functions_of chunk)) entry_boxes f

  abbrev code : Code
  code = code_of f

  abbrev FitsHere : Config → Type 0
  FitsHere c = Fits site.ops final c

  module _ (pc : ℕ) (t : Shape) (known : shape_at final pc ≡ Some t) where
    pub record Control (i : Op) : Type 0 where
      pub is_there : is_there site t i ≡ true
      pub table : Shapes
      pub same : SameTo pc table final
      pub ways : Ways
      pub led : jump_ways site table pc i t ≡ Some ways
      pub covered : AllCovered final ways

    pub control : (i : Op) → slice_get site.ops pc ≡ Some i → effect_of i ≡ None → Control i
    control i at e =
        let fine = sound.fine pc i t at known in
        let u = tested_parts (is_there site t i) (ways_by site fine.table (effect_of i) pc i t) fine.ways fine.led in
        record {
          is_there = u.0;
          table = fine.table;
          same = fine.same;
          ways = fine.ways;
          led = subst (λ x. ways_by site fine.table x pc i t ≡ Some fine.ways) e u.1;
          covered = fine.covered;
        }

    kept : Kept pc final t
    kept = kept_at site final sound pc t known

    pub before : Before (pc + 1) t.inside
    before = tables.before_more pc (pc + 1) t.inside (omega arith) kept.before

    -- a jump back
    pub back : (table : Shapes) (k : ℕ) (u : Shape) → SameTo pc table final → is_way_back table pc k u ≡ true → Covered final (pc - k) u
    back table k u same h =
        let p = both_parts (nat_le k pc) (option_map_or (covers u) (shape_at table (pc - k)) false) h in
        let x = found (shape_at table (pc - k)) (covers u) p.1 in
        let q = both_parts (agree u x.0 && nat_le (x.0).locals u.locals) (nat_le (x.0).boxes u.boxes) x.2 in
        let r = both_parts (agree u x.0) (nat_le (x.0).locals u.locals) q.0 in
        let a = agree_parts u x.0 r.0 in
        (x.0, same (pc - k) (omega arith) ∙ x.1, record { operands = sym a.0; inside = sym a.1; locals = is_le _ _ r.1; boxes = is_le _ _ q.1 })

    module _ (s : Core) (o : Own) (enough : t.locals ≤ length s.locals) (boxed : t.boxes ≤ length o.boxes) where
      abbrev n : ℕ
      n = length s.locals

      module _ (es : List Entry) (stand : StandFor site.ops final t.inside es) where
        pub needs : Needs site final sound world t.inside es n o
        needs = outer site final sound world pc n t es o known enough boxed stand

        -- with so many operands, and all else as it is
        here_has : (st : List Value) (k : ℕ) (u : Core) → length st ≡ k → length u.locals ≡ n → Has site.ops final (with_operands k t) st es u o
        here_has st k u e h = record { operands = e; stand = stand; locals = subst (λ m. t.locals ≤ m) (sym h) enough; boxes = boxed }

        to_place : (q k : ℕ) (st : List Value) (u : Core) → Covered final q (with_operands k t) → length st ≡ k → length u.locals ≡ n → FitsHere (Running q st es u o)
        to_place q k st u c e h = land site final sound q (with_operands k t) st es u o c (here_has st k u e h)

        one_of : (b : Bool) (q r k : ℕ) (st : List Value) (u : Core) → Covered final q (with_operands k t) → Covered final r (with_operands k t) → length st ≡ k → length u.locals ≡ n
            → FitsHere (Running (if b then q else r) st es u o)
        one_of true q r k st u c d e h = to_place q k st u c e h
        one_of false q r k st u c d e h = to_place r k st u d e h

        test_fits : (k j : ℕ) (st : List Value) (m : Act Core Value) → Leaves n m → Covered final (pc + 1) (with_operands k t) → Covered final (pc + 1 + j) (with_operands k t) → length st ≡ k
            → FitsHere (tested world m (pc + 1) (pc + 1 + j) st es s o)
        test_fits k j st m left c d e =
            given_fits site final sound world n (m s) t.inside es o _ (left.runs s refl) needs (λ v u h. one_of (is_truthy u.store v) (pc + 1) (pc + 1 + j) k st u c d e h)

        -- ---- jumps

        pub constant_fits : (st : List Value) → FitsHere (act world chunk code here op.Constant pc st es s o)
        constant_fits st = given_fits site final sound world n (throws world T.Constant s) t.inside es o _ ((throws_left n world ⊥ T.Constant).runs s refl) needs (λ never u h. absurd never)

        logic_on : (b : Bool) (k : ℕ) (v : Value) (st : List Value) → length st + 1 ≡ t.operands → Covered final (pc + 1) (less 1 t) → Covered final (pc + 1 + k) t → FitsHere (logic world b k pc v st es s o)
        logic_on true k v st e c d = to_place (pc + 1) (t.operands - 1) st s c (omega (arith, e)) refl
        logic_on false k v st e c d = to_place (pc + 1 + k) t.operands (v ∷ st) s d (omega (arith, e)) refl

        pub logic_fits : (l : _) (k : ℕ) (st : List Value) → slice_get site.ops pc ≡ Some (op.Logic l k) → length st ≡ t.operands → FitsHere (act world chunk code here (op.Logic l k) pc st es s o)
        logic_fits l k [] at e =
            let c = control (op.Logic l k) at refl in
            let w = so_parts (nat_le 1 t.operands) (fork pc k (less 1 t) t) c.ways c.led in
            absurd (omega (arith, is_le 1 t.operands w.0, e))
        logic_fits l k (v ∷ st) at e =
            let c = control (op.Logic l k) at refl in
            let w = so_parts (nat_le 1 t.operands) (fork pc k (less 1 t) t) c.ways c.led in
            let d = subst (AllCovered final) (sym w.1) c.covered in
            logic_on (needs_second s.store l v) k v st (omega (arith, e)) d.0 d.1

        pub skip_if_false_fits : (k : ℕ) (st : List Value) → slice_get site.ops pc ≡ Some (op.SkipIfFalse k) → length st ≡ t.operands → FitsHere (act world chunk code here (op.SkipIfFalse k) pc st es s o)
        skip_if_false_fits k [] at e =
            let c = control (op.SkipIfFalse k) at refl in
            let w = so_parts (nat_le 1 t.operands) (fork pc k (less 1 t) (less 1 t)) c.ways c.led in
            absurd (omega (arith, is_le 1 t.operands w.0, e))
        skip_if_false_fits k (v ∷ st) at e =
            let c = control (op.SkipIfFalse k) at refl in
            let w = so_parts (nat_le 1 t.operands) (fork pc k (less 1 t) (less 1 t)) c.ways c.led in
            let d = subst (AllCovered final) (sym w.1) c.covered in
            test_fits (t.operands - 1) k st (pure v) (pure_left n v) d.0 d.1 (omega (arith, e))

        pub skip_unless_fits : (q : _) (k : ℕ) (st : List Value) → slice_get site.ops pc ≡ Some (op.SkipUnless q k) → length st ≡ t.operands → FitsHere (act world chunk code here (op.SkipUnless q k) pc st es s o)
        skip_unless_fits q k [] at e =
            let c = control (op.SkipUnless q k) at refl in
            let w = so_parts (nat_le 2 t.operands) (fork pc k (less 2 t) (less 2 t)) c.ways c.led in
            absurd (omega (arith, is_le 2 t.operands w.0, e))
        skip_unless_fits q k (y ∷ []) at e =
            let c = control (op.SkipUnless q k) at refl in
            let w = so_parts (nat_le 2 t.operands) (fork pc k (less 2 t) (less 2 t)) c.ways c.led in
            absurd (omega (arith, is_le 2 t.operands w.0, e))
        skip_unless_fits q k (y ∷ x ∷ st) at e =
            let c = control (op.SkipUnless q k) at refl in
            let w = so_parts (nat_le 2 t.operands) (fork pc k (less 2 t) (less 2 t)) c.ways c.led in
            let d = subst (AllCovered final) (sym w.1) c.covered in
            test_fits (t.operands - 2) k st (compare world q x y) (compare_left n world q x y) d.0 d.1 (omega (arith, e))

        pub skip_unless_int_fits : (q : _) (m : _) (k : ℕ) (st : List Value) → slice_get site.ops pc ≡ Some (op.SkipUnlessInt q m k) → length st ≡ t.operands → FitsHere (act world chunk code here (op.SkipUnlessInt q m k) pc st es s o)
        skip_unless_int_fits q m k [] at e =
            let c = control (op.SkipUnlessInt q m k) at refl in
            let w = so_parts (nat_le 1 t.operands) (fork pc k (less 1 t) (less 1 t)) c.ways c.led in
            absurd (omega (arith, is_le 1 t.operands w.0, e))
        skip_unless_int_fits q m k (x ∷ st) at e =
            let c = control (op.SkipUnlessInt q m k) at refl in
            let w = so_parts (nat_le 1 t.operands) (fork pc k (less 1 t) (less 1 t)) c.ways c.led in
            let d = subst (AllCovered final) (sym w.1) c.covered in
            test_fits (t.operands - 1) k st (compare world q x (V.Int m)) (compare_left n world q x (V.Int m)) d.0 d.1 (omega (arith, e))

        pub skip_fits : (k : ℕ) (st : List Value) → slice_get site.ops pc ≡ Some (op.Skip k) → length st ≡ t.operands → FitsHere (act world chunk code here (op.Skip k) pc st es s o)
        skip_fits k st at e =
            let c = control (op.Skip k) at refl in
            let d = subst (AllCovered final) (sym (some_parts (ahead pc k t) c.ways c.led)) c.covered in
            to_place (pc + 1 + k) t.operands st s d e refl

        pub body_fits : (k size left : ℕ) (st : List Value) → slice_get site.ops pc ≡ Some (op.Body k size left) → length st ≡ t.operands → FitsHere (act world chunk code here (op.Body k size left) pc st es s o)
        body_fits k size left st at e =
            let c = control (op.Body k size left) at refl in
            let w = so_parts (is_empty t) (fork pc k (with_locals size (shape_boxes left t)) t) c.ways c.led in
            let d = subst (AllCovered final) (sym w.1) c.covered in
            to_place (pc + 1 + k) t.operands st s d.1 e refl

        pub goes_back : (k j : ℕ) (st : List Value) (u : Core) → Covered final (pc - k) (with_operands j t) → length st ≡ j → length u.locals ≡ n → FitsHere (acted world (takes_step world) (pc - k) st es u o)
        goes_back k j st u c e h =
            given_fits site final sound world n (takes_step world u) t.inside es o _ ((step_left n world).runs u h) needs (λ v w g. to_place (pc - k) j st w c e g)

        pub turn_back_fits : (k : ℕ) (st : List Value) → slice_get site.ops pc ≡ Some (op.Turn k) → length st ≡ t.operands → FitsHere (act world chunk code here (op.Turn k) pc st es s o)
        turn_back_fits k st at e =
            let c = control (op.Turn k) at refl in
            let w = so_parts (is_way_back c.table pc k t) ways.Nowhere c.ways c.led in
            goes_back k t.operands st s (back c.table k t c.same w.0) e refl

        pub left_fits : (l : Leaving) → FitsHere (leaves world l es s o)
        left_fits l = leaves_fit site final sound world n l t.inside es s o refl needs

        pub return_fits : (st : List Value) → slice_get site.ops pc ≡ Some op.Return → length st ≡ t.operands → FitsHere (act world chunk code here op.Return pc st es s o)
        return_fits [] at e =
            let c = control op.Return at refl in
            let w = so_parts (nat_le 1 t.operands) ways.Nowhere c.ways c.led in absurd (omega (arith, is_le 1 t.operands w.0, e))
        return_fits (v ∷ st) at e = left_fits (leaving.Return v)

        pub throw_fits : (st : List Value) → slice_get site.ops pc ≡ Some op.Throw → length st ≡ t.operands → FitsHere (act world chunk code here op.Throw pc st es s o)
        throw_fits [] at e =
            let c = control op.Throw at refl in
            let w = so_parts (nat_le 1 t.operands) ways.Nowhere c.ways c.led in absurd (omega (arith, is_le 1 t.operands w.0, e))
        throw_fits (v ∷ st) at e = left_fits (leaving.Throw v)

        -- ---- scopes

        pub arguments_fits : (k more : ℕ) (st : List Value) → slice_get site.ops pc ≡ Some (op.Arguments k more) → length st ≡ t.operands → FitsHere (act world chunk code here (op.Arguments k more) pc st es s o)
        arguments_fits k more st at e =
            let c = control (op.Arguments k more) at refl in
            let w = so_parts (is_empty t && is_nothing t.inside) (next pc (with_locals (k + more) t)) c.ways c.led in
            let d = subst (AllCovered final) (sym w.1) c.covered in
            land site final sound (pc + 1) (with_locals (k + more) t) st es _ o d
            (record { operands = e; stand = stand; locals = long_both (first_locals k o.args) (repeat more (None ∷ [])) k more (omega (arith, long_first k o.args)) (omega (arith, long_repeat more)); boxes = boxed })

        pub enter_fits : (size more : ℕ) (st : List Value) → slice_get site.ops pc ≡ Some (op.Enter size more) → length st ≡ t.operands → FitsHere (act world chunk code here (op.Enter size more) pc st es s o)
        enter_fits size more st at e =
            let c = control (op.Enter size more) at refl in
            let w = so_parts (nat_le t.operands 1 && nat_le size t.locals) (next pc (with_locals (size + more) t)) c.ways c.led in
            let p = both_parts (nat_le t.operands 1) (nat_le size t.locals) w.0 in
            let le : size ≤ length s.locals = omega (arith, is_le size t.locals p.1, enough) in
            let d = subst (AllCovered final) (sym w.1) c.covered in
            land site final sound (pc + 1) (with_locals (size + more) t) st es _ o d
            (record { operands = e; stand = stand; locals = long_both (take size s.locals) (repeat more (None ∷ [])) size more (omega (arith, long_take size s.locals le)) (omega (arith, long_repeat more)); boxes = boxed })

        many_fits : (k : ℕ) (out : Out Core (List Ref)) (g : List Ref → Core → Config) → LeftMany n k out → ((boxes : List Ref) (u : Core) → length u.locals ≡ n → length boxes ≡ k → FitsHere (g boxes u)) → FitsHere (given world out es o g)
        many_fits k (Go boxes u) g h r = r boxes u h.0 h.1
        many_fits k (Threw v u) g h r = leaves_fit site final sound world n (leaving.Throw v) t.inside es u o h needs
        many_fits k (Refused l u) g h r = tt

        pub boxes_fits : (left k : ℕ) (st : List Value) → slice_get site.ops pc ≡ Some (op.Boxes left k) → length st ≡ t.operands → FitsHere (act world chunk code here (op.Boxes left k) pc st es s o)
        boxes_fits left k st at e =
            let c = control (op.Boxes left k) at refl in
            let w = so_parts (nat_le left t.boxes) (next pc (shape_boxes (left + k) t)) c.ways c.led in
            let le : left ≤ length o.boxes = omega (arith, is_le left t.boxes w.0, boxed) in
            let d = subst (AllCovered final) (sym w.1) c.covered in
            many_fits k (new_boxes world k s) _ ((new_many n world k).runs s refl) (λ boxes u h g.
            land site final sound (pc + 1) (shape_boxes (left + k) t) st es u _ d
            (record { operands = e; stand = stand; locals = subst (λ m. t.locals ≤ m) (sym h) enough; boxes = long_both (take left o.boxes) boxes left k (omega (arith, long_take left o.boxes le)) (omega (arith, g)) }))

        pub copy_fits : (start k : ℕ) (st : List Value) → slice_get site.ops pc ≡ Some (op.Copy start k) → length st ≡ t.operands → FitsHere (act world chunk code here (op.Copy start k) pc st es s o)
        copy_fits start k st at e =
            let c = control (op.Copy start k) at refl in
            let w = so_parts (nat_le (start + k) t.boxes) (next pc (shape_boxes (start + k) t)) c.ways c.led in
            let le : start + k ≤ length o.boxes = omega (arith, is_le (start + k) t.boxes w.0, boxed) in
            let d = subst (AllCovered final) (sym w.1) c.covered in
            many_fits (length (take k (drop start o.boxes))) (copied world (take k (drop start o.boxes)) s) _ ((copied_many n world (take k (drop start o.boxes))).runs s refl) (λ boxes u h g.
            land site final sound (pc + 1) (shape_boxes (start + k) t) st es u _ d
            (record {
              operands = e;
              stand = stand;
              locals = subst (λ m. t.locals ≤ m) (sym h) enough;
              boxes = long_both (take start o.boxes) boxes start k (omega (arith, long_take start o.boxes (omega (arith, le)))) (omega (arith, g, long_part start k o.boxes le));
            }))

        pub keep_fits : (size left : ℕ) (st : List Value) → slice_get site.ops pc ≡ Some (op.Keep size left) → length st ≡ t.operands → FitsHere (act world chunk code here (op.Keep size left) pc st es s o)
        keep_fits size left st at e =
            let c = control (op.Keep size left) at refl in
            let w = so_parts (nat_le size t.locals && nat_le left t.boxes) (next pc (with_locals size (shape_boxes left t))) c.ways c.led in
            let p = both_parts (nat_le size t.locals) (nat_le left t.boxes) w.0 in
            let d = subst (AllCovered final) (sym w.1) c.covered in
            land site final sound (pc + 1) (with_locals size (shape_boxes left t)) st es s o d
            (record { operands = e; stand = stand; locals = omega (arith, is_le size t.locals p.0, enough); boxes = omega (arith, is_le left t.boxes p.1, boxed) })

        -- ---- what is opened

        opens : (x : Entry) (i : Op) → slice_get site.ops pc ≡ Some i → IsOpenedBy (Some i) pc x → StandFor site.ops final (open_at.In pc) (x ∷ es)
        opens x i at h = (t, known, subst (λ y. IsOpenedBy y pc x) (sym at) h, stand)

        pub loop_fits : (out again : ℕ) (st : List Value) → slice_get site.ops pc ≡ Some (op.Loop out again) → length st ≡ t.operands → FitsHere (act world chunk code here (op.Loop out again) pc st es s o)
        loop_fits out again st at e =
            let l = loop_leads site final sound pc t known out again at in
            land site final sound (pc + 1) (with_inside (open_at.In pc) t) st (entry.Turn (pc + 1 + out) (pc + 1 + again) ∷ es) s o l.1
            (record { operands = e; stand = opens (entry.Turn (pc + 1 + out) (pc + 1 + again)) (op.Loop out again) at (refl, refl); locals = enough; boxes = boxed })

        pub try_fits : (k : ℕ) (st : List Value) → slice_get site.ops pc ≡ Some (op.Try k) → length st ≡ t.operands → FitsHere (act world chunk code here (op.Try k) pc st es s o)
        try_fits k st at e =
            let l = try_leads site final sound pc t known k at in
            land site final sound (pc + 1) (with_inside (open_at.In pc) t) st (entry.Handler (pc + 1 + k) ∷ es) s o l.1
            (record { operands = e; stand = opens (entry.Handler (pc + 1 + k)) (op.Try k) at refl; locals = enough; boxes = boxed })

        pub last_fits : (k : ℕ) (st : List Value) → slice_get site.ops pc ≡ Some (op.Last k) → length st ≡ t.operands → FitsHere (act world chunk code here (op.Last k) pc st es s o)
        last_fits k st at e =
            let l = last_leads site final sound pc t known k at in
            land site final sound (pc + 1) (with_inside (open_at.In pc) t) st (entry.Last (pc + 1 + k) ∷ es) s o l.1
            (record { operands = e; stand = opens (entry.Last (pc + 1 + k)) (op.Last k) at refl; locals = enough; boxes = boxed })

        not_iterable : FitsHere (thrown world (throws world T.NotIterable) es s o)
        not_iterable = given_fits site final sound world n (throws world T.NotIterable s) t.inside es o _ ((throws_left n world ⊥ T.NotIterable).runs s refl) needs (λ never u h. absurd never)

        over_fits_at : (x : Entry) (out again : ℕ) (st : List Value) → slice_get site.ops pc ≡ Some (op.Over out again) → length st + 1 ≡ t.operands → IsOpenedBy (Some (op.Over out again)) pc x → FitsHere (Running (pc + 1) st (x ∷ es) s o)
        over_fits_at x out again st at e h =
            let l = over_leads site final sound pc t known out again at in
            land site final sound (pc + 1) (with_inside (open_at.In pc) (less 1 t)) st (x ∷ es) s o l.1
            (record { operands = omega (arith, e); stand = opens x (op.Over out again) at h; locals = enough; boxes = boxed })

        over_body : (b : Option Body) (r : Ref) (out again : ℕ) (st : List Value) → slice_get site.ops pc ≡ Some (op.Over out again) → length st + 1 ≡ t.operands
            → FitsHere (over world b r (pc + 1 + out) (pc + 1 + again) (pc + 1) st es s o)
        over_body None r out again st at e = not_iterable
        over_body (Some (B.Array values)) r out again st at e = over_fits_at (entry.Elements (pc + 1 + out) (pc + 1 + again) r 0) out again st at e (refl, refl)
        over_body (Some (B.Generator left)) r out again st at e = over_fits_at (entry.Pulls (pc + 1 + out) (pc + 1 + again) r) out again st at e (refl, refl)
        over_body (Some _) r out again st at e = not_iterable

        over_on : (v : Value) (out again : ℕ) (st : List Value) → slice_get site.ops pc ≡ Some (op.Over out again) → length st + 1 ≡ t.operands
            → FitsHere (over_value world v (pc + 1 + out) (pc + 1 + again) (pc + 1) st es s o)
        over_on (V.Ref r) out again st at e = over_body (body_of s.store r) r out again st at e
        over_on _ out again st at e = not_iterable

        pub over_fits : (out again : ℕ) (st : List Value) → slice_get site.ops pc ≡ Some (op.Over out again) → length st ≡ t.operands → FitsHere (act world chunk code here (op.Over out again) pc st es s o)
        over_fits out again [] at e = let l = over_leads site final sound pc t known out again at in absurd (omega (arith, l.0, e))
        over_fits out again (v ∷ st) at e = over_on v out again st at (omega (arith, e))

        -- ---- generators

        pub begin_fits : (st : List Value) → FitsHere (act world chunk code here op.Begin pc st es s o)
        begin_fits st = given_fits site final sound world n (new_generator world (blank_frame here.key.code here.inputs) s) t.inside es o _ ((new_generator_left n world _).runs s refl) needs (λ r u h. tt)

        pub yield_fits : (st : List Value) → slice_get site.ops pc ≡ Some op.Yield → length st ≡ t.operands → FitsHere (act world chunk code here op.Yield pc st es s o)
        yield_fits [] at e =
            let c = control op.Yield at refl in
            let w = so_parts (t.operands == 1) (next pc t) c.ways c.led in absurd (omega (arith, is_eq t.operands 1 w.0, e))
        yield_fits (v ∷ st) at e =
            let c = control op.Yield at refl in
            let w = so_parts (t.operands == 1) (next pc t) c.ways c.led in
            let d = subst (AllCovered final) (sym w.1) c.covered in
            land site final sound (pc + 1) t (v ∷ []) es s o d (record { operands = sym (is_eq t.operands 1 w.0); stand = stand; locals = enough; boxes = boxed })
