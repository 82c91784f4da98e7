-- Each instruction of code that keeps the rules leads from a call that fits to one that fits.
use Rattle.std.proofs.Common.{◌≡◌, ℕ, zero, suc, ◌+◌, ◌-◌, ◌<◌, ◌≤◌, Bool, true, false, ◌&&◌, List, [], ◌∷◌, length, Option, Some, None, slice_get, refl, sym, subst, arith, nat_le, nat_lt, codes, if◌then◌else◌}
use Rattle.std.specs.Option.{option_map_or}
use Rattle.std.proofs.lemmas.Option.{none-some}
use Rattle.ob_items.specs.declared.value.Ref.{Ref}
use Rattle.ob_items.specs.declared.value.Value.{Value}
use Rattle.ob_items.specs.declared.value.Value.TheVariants as V
use Rattle.ob_values.specs.Effects.{argument}
use Rattle.ob_actions.specs.Act.{Act, ◌>>=◌, pure}
use Rattle.ob_actions.specs.Calls.{member_callee, construct}
use Rattle.ob_actions.specs.Core.{Core}
use Rattle.ob_actions.specs.Meters.{takes_step, literal_value}
use Rattle.ob_actions.specs.NewItems.{new_array, new_object}
use Rattle.ob_actions.specs.Operators.{unary, binary, compare, one_more}
use Rattle.ob_actions.specs.Output.{change}
use Rattle.ob_actions.specs.Places.{Slot, Boxed, read, first, assign, input_at}
use Rattle.ob_actions.specs.Properties.{Word, Computed, units_of_key, get_property, set_property}
use Rattle.ob_actions.specs.World.{World}
use Rattle.ob_code.specs.Code.{Code, Site, code_of, site_of, functions_of, boxes_for_each, function_at}
use Rattle.ob_code.specs.Configs.{Here, Own, Config, Running}
use Rattle.ob_code.specs.Effects.{effect_of}
use Rattle.ob_code.specs.Fits.{StandFor, Fits}
use Rattle.ob_code.specs.Instructions.{act, gathered, boxes_at, where_there, text_of, valued, acted, array_of_operands, constructed, constructed_by, closure}
use Rattle.ob_code.specs.Shapes.{Shapes, shape_at, with_operands}
use Rattle.ob_code.specs.There.{is_there, is_text, is_short, is_function}
use Rattle.ob_code.specs.Ways.{ways_by, with_effect, next}
use Rattle.ob_code.specs.declared.chunk.Chunk.{Chunk}
use Rattle.ob_code.specs.declared.chunk.Methods.{Methods}
use Rattle.ob_code.specs.declared.entry.Entry.{Entry}
use Rattle.ob_code.specs.declared.op.Op.{Op}
use Rattle.ob_code.specs.declared.op.Op.TheVariants as op
use Rattle.ob_code.specs.declared.shape.Shape.{Shape}
use Rattle.ob_code.proofs.Lands.{so_parts, land, Needs, outer, given_fits}
use Rattle.ob_code.proofs.Locals.{Leaves, bind_left, pure_left, step_left, literal_value_left, unary_left, binary_left, compare_left, one_more_left, read_left, first_left, assign_left, new_array_left, new_object_left, new_closure_left, units_left, get_left, set_left, change_left, construct_left, member_callee_left}
use Rattle.ob_code.proofs.Tables.{Covered, AllCovered, Kept, Before, SameTo, both_parts, is_le, is_lt, is_eq, open_same, agree_parts, opener_same, less_refl}
use Rattle.ob_code.proofs.Tables as tables
use Rattle.ob_code.proofs.Walks.{IsSound}

abbrev pub HasEffect : {A : Type 0} → Option A → Type 0
HasEffect None = ⊥
HasEffect (Some e) = Unit {0}

-- the instructions that change the operands alone, but calls
abbrev pub IsPlain : Op → Type 0
IsPlain (op.Call k) = ⊥
IsPlain i = HasEffect (effect_of i)

pub tested_parts : {X : Type 0} (b : Bool) (x : Option X) (y : X) → (if b then x else None) ≡ Some y → (b ≡ true) × (x ≡ Some y)
tested_parts b x y h = tables.tested b x y h

pub found : {A : Type 0} (x : Option A) (f : A → Bool) → option_map_or f x false ≡ true → (a : A) × (x ≡ Some a) × (f a ≡ true)
found None f h = cc
found (Some a) f h = (a, refl, h)

item_there : {X : Type 0} (xs : List X) (i : ℕ) → i < length xs → (x : X) × (slice_get xs i ≡ Some x)
item_there [] i h = absurd (omega (arith, h))
item_there (x ∷ xs) zero h = (x, refl)
item_there (x ∷ xs) (suc i) h = item_there xs i (omega (arith, h))

function_there : (fs : List Chunk) (i : ℕ) (n : ℕ) → slice_get (boxes_for_each fs) i ≡ Some n → (c : Chunk) × (slice_get fs i ≡ Some c)
function_there [] i n h = absurd (none-some n h)
function_there (c ∷ fs) zero n h = (c, refl)
function_there (c ∷ fs) (suc i) n h = function_there fs i n h

closure_there : (chunk : Chunk) (i boxes : ℕ) → is_function (boxes_for_each (functions_of chunk)) boxes i ≡ true → (c : Chunk) × (function_at chunk i ≡ Some c)
closure_there chunk zero boxes h = cc
closure_there chunk (suc i) boxes h =
    let p = both_parts (nat_lt 0 (suc i)) (option_map_or (λ n. nat_le n boxes) (slice_get (boxes_for_each (functions_of chunk)) (suc i - 1)) false) h in
    let q = found (slice_get (boxes_for_each (functions_of chunk)) (suc i - 1)) (λ n. nat_le n boxes) p.1 in
    let e : suc i - 1 ≡ i = omega arith in
    function_there (functions_of chunk) i q.0 (subst (λ k. slice_get (boxes_for_each (functions_of chunk)) k ≡ Some q.0) e q.1)

methods_there : (texts : List (List ℕ)) (x : Option Methods) → option_map_or (λ (m : Methods). is_text texts m.name) x false ≡ true → (m : Methods) × (x ≡ Some m) × (is_text texts m.name ≡ true)
methods_there texts None h = cc
methods_there texts (Some m) h = (m, refl, h)

pub gathered_there : (n : ℕ) (st vs : List Value) → n ≤ length st → (p : List Value × List Value) × (gathered n st vs ≡ Some p) × (length p.1 + n ≡ length st)
gathered_there zero st vs h = ((vs, st), refl, omega arith)
gathered_there (suc n) [] vs h = absurd (omega (arith, h))
gathered_there (suc n) (v ∷ st) vs h =
    let r = gathered_there n st (v ∷ vs) (omega (arith, h)) in (r.0, r.1, omega (arith, r.2))

module _ (world : World) (chunk f : Chunk) (entry_boxes : ℕ) (here : Here) (final : Shapes) (sound : IsSound (site_of (boxes_for_each (functions_of chunk)) entry_boxes f) final) where
  abbrev site : Site
  site = site_of (boxes_for_each (functions_of chunk)) entry_boxes f

  abbrev code : Code
  code = code_of f

  abbrev FitsHere : Config → Type 0
  FitsHere c = Fits site.ops final c

  where_fits : {A : Type 0} (x : Option A) (a : A) (k : A → Config) → x ≡ Some a → FitsHere (k a) → FitsHere (where_there x k)
  where_fits x a k e h = subst (λ y. FitsHere (where_there y k)) (sym e) h

  module _ (pc : ℕ) (t : Shape) (known : shape_at final pc ≡ Some t) (es : List Entry) (s : Core) (o : Own)
      (stand : StandFor site.ops final t.inside es) (enough : t.locals ≤ length s.locals) (boxed : t.boxes ≤ length o.boxes) where
    abbrev n : ℕ
    n = length s.locals

    needs : Needs site final sound world t.inside es n o
    needs = outer site final sound world pc n t es o known enough boxed stand

    -- ---- the instructions that change the operands alone

    record Plain (i : Op) (a b : ℕ) : Type 0 where
      is_there : is_there site t i ≡ true
      found : a ≤ t.operands
      next : Covered final (pc + 1) (with_operands (t.operands - a + b) t)

    plain : (i : Op) (a b : ℕ) → slice_get site.ops pc ≡ Some i → effect_of i ≡ Some (record { taken = a; given = b }) → Plain i a b
    plain i a b at e =
        let fine = sound.fine pc i t at known in
        let u = tested_parts (is_there site t i) (ways_by site fine.table (effect_of i) pc i t) fine.ways fine.led in
        let v : ways_by site fine.table (Some (record { taken = a; given = b })) pc i t ≡ Some fine.ways =
        subst (λ x. ways_by site fine.table x pc i t ≡ Some fine.ways) e u.1 in
        let w = so_parts (nat_le a t.operands && nat_le (t.operands - a + b) site.operands) (next pc (with_effect (record { taken = a; given = b }) t)) fine.ways v in
        let p = both_parts (nat_le a t.operands) (nat_le (t.operands - a + b) site.operands) w.0 in
        record { is_there = u.0; found = is_le a t.operands p.0; next = subst (AllCovered final) (sym w.1) fine.covered }

    next_fits : (a b : ℕ) → Covered final (pc + 1) (with_operands (t.operands - a + b) t) → a ≤ t.operands → (st : List Value) → length st + a ≡ t.operands + b
        → (u : Core) → length u.locals ≡ n → FitsHere (Running (pc + 1) st es u o)
    next_fits a b c le st len u h =
        land site final sound (pc + 1) (with_operands (t.operands - a + b) t) st es u o c
        (record { operands = omega (arith, len, le); stand = stand; locals = subst (λ k. t.locals ≤ k) (sym h) enough; boxes = boxed })

    runs : {i : Op} {a b : ℕ} → Plain i a b → (st : List Value) → length st + a ≡ t.operands + b → FitsHere (Running (pc + 1) st es s o)
    runs {a = a} {b = b} p st len = next_fits a b p.next p.found st len s refl

    gives : {i : Op} {a b : ℕ} → Plain i a b → (st : List Value) → length st + 1 + a ≡ t.operands + b → (k : Act Core Value) → Leaves n k → FitsHere (valued world k (pc + 1) st es s o)
    gives {a = a} {b = b} p st len k left =
        given_fits site final sound world n (k s) t.inside es o _ (left.runs s refl) needs (λ v u h. next_fits a b p.next p.found (v ∷ st) (omega (arith, len)) u h)

    does : {A : Type 0} {i : Op} {a b : ℕ} → Plain i a b → (st : List Value) → length st + a ≡ t.operands + b → (k : Act Core A) → Leaves n k → FitsHere (acted world k (pc + 1) st es s o)
    does {a = a} {b = b} p st len k left =
        given_fits site final sound world n (k s) t.inside es o _ (left.runs s refl) needs (λ v u h. next_fits a b p.next p.found st len u h)

    -- ---- operands that are there

    one : (P : List Value → Type 0) → ((x : Value) (st : List Value) → length st + 1 ≡ t.operands → P (x ∷ st)) → (st : List Value) → length st ≡ t.operands → 1 ≤ t.operands → P st
    one P g [] e h = absurd (omega (arith, e, h))
    one P g (x ∷ st) e h = g x st (omega (arith, e))

    two : (P : List Value → Type 0) → ((y x : Value) (st : List Value) → length st + 2 ≡ t.operands → P (y ∷ x ∷ st)) → (st : List Value) → length st ≡ t.operands → 2 ≤ t.operands → P st
    two P g [] e h = absurd (omega (arith, e, h))
    two P g (y ∷ []) e h = absurd (omega (arith, e, h))
    two P g (y ∷ x ∷ st) e h = g y x st (omega (arith, e))

    three : (P : List Value → Type 0) → ((z y x : Value) (st : List Value) → length st + 3 ≡ t.operands → P (z ∷ y ∷ x ∷ st)) → (st : List Value) → length st ≡ t.operands → 3 ≤ t.operands → P st
    three P g [] e h = absurd (omega (arith, e, h))
    three P g (z ∷ []) e h = absurd (omega (arith, e, h))
    three P g (z ∷ y ∷ []) e h = absurd (omega (arith, e, h))
    three P g (z ∷ y ∷ x ∷ st) e h = g z y x st (omega (arith, e))

    -- ---- what an instruction names

    text_there : (i : ℕ) (k : List ℕ → Config) → is_text site.texts i ≡ true → ((units : List ℕ) → FitsHere (k units)) → FitsHere (where_there (slice_get code.texts i) k)
    text_there i k h g = let x = found (slice_get site.texts i) is_short h in where_fits (slice_get code.texts i) x.0 k x.1 (g x.0)

    box_there : (i : ℕ) (k : Ref → Config) → nat_lt i t.boxes ≡ true → ((r : Ref) → FitsHere (k r)) → FitsHere (where_there (slice_get o.boxes i) k)
    box_there i k h g =
        let lt : i < length o.boxes = omega (arith, is_lt i t.boxes h, boxed) in
        let x = item_there o.boxes i lt in where_fits (slice_get o.boxes i) x.0 k x.1 (g x.0)

    array_fits : (k : ℕ) (st : List Value) → length st ≡ t.operands → Plain (op.Array k) k 1 → FitsHere (act world chunk code here (op.Array k) pc st es s o)
    array_fits k st len p =
        let g = gathered_there k st [] (subst (λ m. k ≤ m) (sym len) p.found) in
        subst (λ x. FitsHere (array_of_operands world x (pc + 1) es s o)) (sym g.1)
        (gives p (g.0).1 (omega (arith, g.2, len)) (new_array world (g.0).0) (new_array_left n world (g.0).0))

    new_on : (k : ℕ) (args rest : List Value) → length rest + k ≡ t.operands → Plain (op.New k) (k + 1) 1 → FitsHere (constructed world args rest (pc + 1) es s o)
    new_on k args [] len p = absurd (omega (arith, len, p.found))
    new_on k args (c ∷ rest) len p = gives p rest (omega (arith, len)) (construct world c args) (construct_left n world c args)

    new_fits : (k : ℕ) (st : List Value) → length st ≡ t.operands → Plain (op.New k) (k + 1) 1 → FitsHere (act world chunk code here (op.New k) pc st es s o)
    new_fits k st len p =
        let g = gathered_there k st [] (omega (arith, len, p.found)) in
        subst (λ x. FitsHere (constructed_by world x (pc + 1) es s o)) (sym g.1) (new_on k (g.0).0 (g.0).1 (omega (arith, g.2, len)) p)

    pub plain_fits : (i : Op) (st : List Value) → slice_get site.ops pc ≡ Some i → length st ≡ t.operands → IsPlain i → FitsHere (act world chunk code here i pc st es s o)
    plain_fits op.Undefined st at len e =
        let p = plain op.Undefined 0 1 at refl in runs p (V.Undefined ∷ st) (omega (arith, len))
    plain_fits op.Null st at len e =
        let p = plain op.Null 0 1 at refl in runs p (V.Null ∷ st) (omega (arith, len))
    plain_fits (op.Bool b) st at len e =
        let p = plain (op.Bool b) 0 1 at refl in runs p (V.Bool b ∷ st) (omega (arith, len))
    plain_fits (op.Int k) st at len e =
        let p = plain (op.Int k) 0 1 at refl in runs p (V.Int k ∷ st) (omega (arith, len))
    plain_fits (op.Builtin k) st at len e =
        let p = plain (op.Builtin k) 0 1 at refl in runs p (V.Builtin k ∷ st) (omega (arith, len))
    plain_fits (op.Text i) st at len e =
        let p = plain (op.Text i) 0 1 at refl in text_there i _ p.is_there (λ units. gives p st (omega (arith, len)) (literal_value world units) (literal_value_left n world units))
    plain_fits (op.GetLocal i) st at len e =
        let p = plain (op.GetLocal i) 0 1 at refl in gives p st (omega (arith, len)) (read world (Slot i)) (read_left n world (Slot i))
    plain_fits (op.GetBox i) st at len e =
        let p = plain (op.GetBox i) 0 1 at refl in box_there i _ p.is_there (λ r. gives p st (omega (arith, len)) (read world (Boxed r)) (read_left n world (Boxed r)))
    plain_fits (op.SetLocal i) st at len e =
        let p = plain (op.SetLocal i) 1 1 at refl in one (λ st'. FitsHere (act world chunk code here (op.SetLocal i) pc st' es s o)) (λ v st' q. gives p st' (omega (arith, q)) (assign world false (Slot i) v >>= (λ _. pure v)) (bind_left n (assign_left n world false (Slot i) v) (λ _. pure_left n v))) st len p.found
    plain_fits (op.SetBox i) st at len e =
        let p = plain (op.SetBox i) 1 1 at refl in one (λ st'. FitsHere (act world chunk code here (op.SetBox i) pc st' es s o)) (λ v st' q. box_there i _ p.is_there (λ r. gives p st' (omega (arith, q)) (assign world false (Boxed r) v >>= (λ _. pure v)) (bind_left n (assign_left n world false (Boxed r) v) (λ _. pure_left n v)))) st len p.found
    plain_fits (op.InitLocal i) st at len e =
        let p = plain (op.InitLocal i) 1 0 at refl in one (λ st'. FitsHere (act world chunk code here (op.InitLocal i) pc st' es s o)) (λ v st' q. does p st' (omega (arith, q)) (first world (Slot i) v) (first_left n world (Slot i) v)) st len p.found
    plain_fits (op.InitBox i) st at len e =
        let p = plain (op.InitBox i) 1 0 at refl in one (λ st'. FitsHere (act world chunk code here (op.InitBox i) pc st' es s o)) (λ v st' q. box_there i _ p.is_there (λ r. does p st' (omega (arith, q)) (first world (Boxed r) v) (first_left n world (Boxed r) v))) st len p.found
    plain_fits (op.Argument i) st at len e =
        let p = plain (op.Argument i) 0 1 at refl in runs p (argument o.args i ∷ st) (omega (arith, len))
    plain_fits (op.Input i) st at len e =
        let p = plain (op.Input i) 0 1 at refl in runs p (input_at here.inputs i s ∷ st) (omega (arith, len))
    plain_fits (op.Unary u) st at len e =
        let p = plain (op.Unary u) 1 1 at refl in one (λ st'. FitsHere (act world chunk code here (op.Unary u) pc st' es s o)) (λ x st' q. gives p st' (omega (arith, q)) (unary world u x) (unary_left n world u x)) st len p.found
    plain_fits (op.Binary b) st at len e =
        let p = plain (op.Binary b) 2 1 at refl in two (λ st'. FitsHere (act world chunk code here (op.Binary b) pc st' es s o)) (λ y x st' q. gives p st' (omega (arith, q)) (binary world b x y) (binary_left n world b x y)) st len p.found
    plain_fits (op.Compare c) st at len e =
        let p = plain (op.Compare c) 2 1 at refl in two (λ st'. FitsHere (act world chunk code here (op.Compare c) pc st' es s o)) (λ y x st' q. gives p st' (omega (arith, q)) (compare world c x y) (compare_left n world c x y)) st len p.found
    plain_fits (op.OneMore u) st at len e =
        let p = plain (op.OneMore u) 1 1 at refl in one (λ st'. FitsHere (act world chunk code here (op.OneMore u) pc st' es s o)) (λ x st' q. gives p st' (omega (arith, q)) (one_more world u x) (one_more_left n world u x)) st len p.found
    plain_fits op.Drop st at len e =
        let p = plain op.Drop 1 0 at refl in one (λ st'. FitsHere (act world chunk code here op.Drop pc st' es s o)) (λ x st' q. runs p st' (omega (arith, q))) st len p.found
    plain_fits op.Dup st at len e =
        let p = plain op.Dup 1 2 at refl in one (λ st'. FitsHere (act world chunk code here op.Dup pc st' es s o)) (λ x st' q. runs p (x ∷ x ∷ st') (omega (arith, q))) st len p.found
    plain_fits op.DupTwo st at len e =
        let p = plain op.DupTwo 2 4 at refl in two (λ st'. FitsHere (act world chunk code here op.DupTwo pc st' es s o)) (λ y x st' q. runs p (y ∷ x ∷ y ∷ x ∷ st') (omega (arith, q))) st len p.found
    plain_fits op.Tuck st at len e =
        let p = plain op.Tuck 2 3 at refl in two (λ st'. FitsHere (act world chunk code here op.Tuck pc st' es s o)) (λ y x st' q. runs p (y ∷ x ∷ y ∷ st') (omega (arith, q))) st len p.found
    plain_fits op.TuckTwo st at len e =
        let p = plain op.TuckTwo 3 4 at refl in three (λ st'. FitsHere (act world chunk code here op.TuckTwo pc st' es s o)) (λ z y x st' q. runs p (z ∷ y ∷ x ∷ z ∷ st') (omega (arith, q))) st len p.found
    plain_fits op.Nip st at len e =
        let p = plain op.Nip 2 1 at refl in two (λ st'. FitsHere (act world chunk code here op.Nip pc st' es s o)) (λ y x st' q. runs p (y ∷ st') (omega (arith, q))) st len p.found
    plain_fits op.NipTwo st at len e =
        let p = plain op.NipTwo 3 1 at refl in three (λ st'. FitsHere (act world chunk code here op.NipTwo pc st' es s o)) (λ z y x st' q. runs p (z ∷ st') (omega (arith, q))) st len p.found
    plain_fits (op.Member i) st at len e =
        let p = plain (op.Member i) 1 1 at refl in one (λ st'. FitsHere (act world chunk code here (op.Member i) pc st' es s o)) (λ x st' q. text_there i _ p.is_there (λ units. gives p st' (omega (arith, q)) (get_property world x (Word units)) (get_left n world x (Word units)))) st len p.found
    plain_fits op.Index st at len e =
        let p = plain op.Index 2 1 at refl in two (λ st'. FitsHere (act world chunk code here op.Index pc st' es s o)) (λ y x st' q. gives p st' (omega (arith, q)) (get_property world x (Computed y)) (get_left n world x (Computed y))) st len p.found
    plain_fits (op.SetMember i) st at len e =
        let p = plain (op.SetMember i) 2 1 at refl in two (λ st'. FitsHere (act world chunk code here (op.SetMember i) pc st' es s o)) (λ y x st' q. text_there i _ p.is_there (λ units. gives p st' (omega (arith, q)) (set_property world x (Word units) y >>= (λ _. pure y)) (bind_left n (set_left n world x (Word units) y) (λ _. pure_left n y)))) st len p.found
    plain_fits op.SetIndex st at len e =
        let p = plain op.SetIndex 3 1 at refl in three (λ st'. FitsHere (act world chunk code here op.SetIndex pc st' es s o)) (λ z y x st' q. gives p st' (omega (arith, q)) (set_property world x (Computed y) z >>= (λ _. pure z)) (bind_left n (set_left n world x (Computed y) z) (λ _. pure_left n z))) st len p.found
    plain_fits (op.Method i) st at len e =
        let p = plain (op.Method i) 1 2 at refl in one (λ st'. FitsHere (act world chunk code here (op.Method i) pc st' es s o)) (λ x st' q.
        (let m = methods_there site.texts (slice_get site.methods i) p.is_there in
        let u = found (slice_get site.texts (m.0).name) is_short m.2 in
        where_fits (text_of code (slice_get code.methods i)) u.0 _ (subst (λ y. text_of code y ≡ Some u.0) (sym m.1) u.1)
        (given_fits site final sound world n (member_callee world x u.0 s) t.inside es o _ ((member_callee_left n world x u.0).runs s refl) needs
        (λ c v h. next_fits 1 2 p.next p.found (_ ∷ _ ∷ st') (omega (arith, q)) v h)))) st len p.found
    plain_fits (op.New k) st at len e =
        let p = plain (op.New k) (k + 1) 1 at refl in new_fits k st len p
    plain_fits (op.Array k) st at len e =
        let p = plain (op.Array k) k 1 at refl in array_fits k st len p
    plain_fits op.Object st at len e =
        let p = plain op.Object 0 1 at refl in gives p st (omega (arith, len)) (new_object world) (new_object_left n world)
    plain_fits (op.SetProp i) st at len e =
        let p = plain (op.SetProp i) 2 1 at refl in two (λ st'. FitsHere (act world chunk code here (op.SetProp i) pc st' es s o)) (λ y x st' q. text_there i _ p.is_there (λ units. does p (x ∷ st') (omega (arith, q)) (set_property world x (Word units) y) (set_left n world x (Word units) y))) st len p.found
    plain_fits op.Key st at len e =
        let p = plain op.Key 1 1 at refl in one (λ st'. FitsHere (act world chunk code here op.Key pc st' es s o)) (λ x st' q. does p (x ∷ st') (omega (arith, q)) (units_of_key world (Computed x)) (units_left n world (Computed x))) st len p.found
    plain_fits op.SetKey st at len e =
        let p = plain op.SetKey 3 1 at refl in three (λ st'. FitsHere (act world chunk code here op.SetKey pc st' es s o)) (λ z y x st' q. does p (x ∷ st') (omega (arith, q)) (set_property world x (Computed y) z) (set_left n world x (Computed y) z)) st len p.found
    plain_fits (op.Closure i) st at len e =
        let p = plain (op.Closure i) 0 1 at refl in
        (let c = closure_there chunk i t.boxes p.is_there in
        where_fits (function_at chunk i) c.0 _ c.1
        (gives p st (omega (arith, len)) (closure world here i (code_of c.0) o) (new_closure_left n world _ (boxes_at o.boxes (code_of c.0).captures) here.inputs _)))
    plain_fits (op.Change c) st at len e =
        let p = plain (op.Change c) 2 0 at refl in two (λ st'. FitsHere (act world chunk code here (op.Change c) pc st' es s o)) (λ y x st' q. does p st' (omega (arith, q)) (change world y c x) (change_left n world y c x)) st len p.found
    plain_fits op.Step st at len e =
        let p = plain op.Step 0 0 at refl in does p st (omega (arith, len)) (takes_step world) (step_left n world)
    plain_fits (op.BinaryInt b k) st at len e =
        let p = plain (op.BinaryInt b k) 1 1 at refl in one (λ st'. FitsHere (act world chunk code here (op.BinaryInt b k) pc st' es s o)) (λ x st' q. gives p st' (omega (arith, q)) (binary world b x (V.Int k)) (binary_left n world b x (V.Int k))) st len p.found
    plain_fits (op.BinaryLocal b i) st at len e =
        let p = plain (op.BinaryLocal b i) 1 1 at refl in one (λ st'. FitsHere (act world chunk code here (op.BinaryLocal b i) pc st' es s o)) (λ x st' q. gives p st' (omega (arith, q)) (read world (Slot i) >>= (λ y. binary world b x y)) (bind_left n (read_left n world (Slot i)) (λ y. binary_left n world b x y))) st len p.found
    plain_fits (op.CompareInt c k) st at len e =
        let p = plain (op.CompareInt c k) 1 1 at refl in one (λ st'. FitsHere (act world chunk code here (op.CompareInt c k) pc st' es s o)) (λ x st' q. gives p st' (omega (arith, q)) (compare world c x (V.Int k)) (compare_left n world c x (V.Int k))) st len p.found
    plain_fits (op.CompareLocal c i) st at len e =
        let p = plain (op.CompareLocal c i) 1 1 at refl in one (λ st'. FitsHere (act world chunk code here (op.CompareLocal c i) pc st' es s o)) (λ x st' q. gives p st' (omega (arith, q)) (read world (Slot i) >>= (λ y. compare world c x y)) (bind_left n (read_left n world (Slot i)) (λ y. compare_left n world c x y))) st len p.found
    plain_fits (op.UpdateLocal u i) st at len e =
        let p = plain (op.UpdateLocal u i) 0 0 at refl in does p st (omega (arith, len)) (read world (Slot i) >>= (λ x. one_more world u x >>= (λ v. assign world false (Slot i) v))) (bind_left n (read_left n world (Slot i)) (λ x. bind_left n (one_more_left n world u x) (λ v. assign_left n world false (Slot i) v)))
    plain_fits (op.StoreLocal i) st at len e =
        let p = plain (op.StoreLocal i) 1 0 at refl in one (λ st'. FitsHere (act world chunk code here (op.StoreLocal i) pc st' es s o)) (λ v st' q. does p st' (omega (arith, q)) (assign world false (Slot i) v) (assign_left n world false (Slot i) v)) st len p.found
    plain_fits op.Length st at len e =
        let p = plain op.Length 1 1 at refl in one (λ st'. FitsHere (act world chunk code here op.Length pc st' es s o)) (λ x st' q. gives p st' (omega (arith, q)) (get_property world x (Word (codes "length"))) (get_left n world x (Word (codes "length")))) st len p.found
    plain_fits _ st at len e = absurd e
