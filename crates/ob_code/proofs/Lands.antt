-- Where a call comes in code that keeps the rules, there it fits: what follows an action, and how what is open is left.
use Rattle.std.proofs.Common.{◌≡◌, ℕ, ◌+◌, ◌-◌, ◌≤◌, ◌==◌, Bool, true, false, List, [], ◌∷◌, length, Option, Some, None, slice_get, refl, sym, ◌∙◌, subst, arith}
use Rattle.std.specs.Option.{option_map_or}
use Rattle.std.proofs.lemmas.Option.{same_Some, none-some}
use Rattle.ob_items.specs.declared.value.Ref.{Ref}
use Rattle.ob_items.specs.declared.value.Value.{Value}
use Rattle.ob_actions.specs.Act.{Out, Go, Threw, Refused}
use Rattle.ob_actions.specs.Core.{Core}
use Rattle.ob_actions.specs.Generators.{leave, end_left}
use Rattle.ob_actions.specs.World.{World}
use Rattle.ob_code.specs.Code.{Site}
use Rattle.ob_code.specs.Configs.{Frames, Own, Config, Running}
use Rattle.ob_code.specs.Fits.{IsOpenedBy, StandFor, FitsShape, Fits}
use Rattle.ob_code.specs.Leaves.{leaves, given, after}
use Rattle.ob_code.specs.Shapes.{Shapes, shape_at, locals_kept, boxes_kept, with_operands, with_inside}
use Rattle.ob_code.specs.Ways.{if_so, ways_of, fork, opened, is_empty, less}
use Rattle.ob_code.specs.declared.entry.Entry.{Entry}
use Rattle.ob_code.specs.declared.entry.Entry.TheVariants as entry
use Rattle.ob_code.specs.declared.entry.Leaving.{Leaving}
use Rattle.ob_code.specs.declared.entry.Leaving.TheVariants as leaving
use Rattle.ob_code.specs.declared.op.Op.{Op}
use Rattle.ob_code.specs.declared.op.Op.TheVariants as op
use Rattle.ob_code.specs.declared.shape.Open.{Open}
use Rattle.ob_code.specs.declared.shape.Open.TheVariants as open_at
use Rattle.ob_code.specs.declared.shape.Shape.{Shape}
use Rattle.ob_code.specs.declared.shape.Ways.{Ways}
use Rattle.ob_code.proofs.Locals.{Left, leave_left, end_left_left}
use Rattle.ob_code.proofs.Tables.{Covered, AllCovered, Kept, is_eq}
use Rattle.ob_code.proofs.Walks.{IsSound, there}

-- the facts of a way that is led
pub so_parts : (b : Bool) (x y : Ways) → if_so b x ≡ Some y → (b ≡ true) × (x ≡ y)
so_parts true x y h = (refl, same_Some x y h)
so_parts false x y h = absurd (none-some y h)

-- what a shape asks of a call
pub record Has (ops : List Op) (shapes : Shapes) (t : Shape) (st : List Value) (es : List Entry) (s : Core) (o : Own) : Type 0 where
  pub operands : length st ≡ t.operands
  pub stand : StandFor ops shapes t.inside es
  pub locals : t.locals ≤ length s.locals
  pub boxes : t.boxes ≤ length o.boxes

module _ (site : Site) (final : Shapes) (sound : IsSound site final) where
  pub kept_at : (q : ℕ) (t : Shape) → shape_at final q ≡ Some t → Kept q final t
  kept_at q t h = let i = there final site.ops q t sound.long h in (sound.fine q i.0 t i.1 h).kept

  pub land : (q : ℕ) (t : Shape) (st : List Value) (es : List Entry) (s : Core) (o : Own) → Covered final q t → Has site.ops final t st es s o
      → FitsShape site.ops final (shape_at final q) st es s o
  land q t st es s o c h =
      subst (λ x. FitsShape site.ops final x st es s o) (sym c.1)
      (h.operands ∙ sym (c.2).operands, subst (λ x. StandFor site.ops final x es) (sym (c.2).inside) h.stand, omega (arith, (c.2).locals, h.locals), omega (arith, (c.2).boxes, h.boxes))

  pub has_of : (x : Option Shape) (st : List Value) (es : List Entry) (s : Core) (o : Own) → FitsShape site.ops final x st es s o → (t : Shape) × (x ≡ Some t) × Has site.ops final t st es s o
  has_of None st es s o h = absurd h
  has_of (Some t) st es s o h = (t, refl, record { operands = h.0; stand = h.1; locals = h.2; boxes = h.3 })

  -- ---- where what was opened leads

  module _ (p : ℕ) (t : Shape) (known : shape_at final p ≡ Some t) where
    -- the ways of an instruction that names nothing and has more effects than on operands
    led_by : (i : Op) → slice_get site.ops p ≡ Some i → (w : Ways) × AllCovered final w × (shapes : Shapes) × ((q : ℕ) → q ≤ p → shape_at final q ≡ shape_at shapes q) × (ways_of site shapes p i t ≡ Some w)
    led_by i at = let f = sound.fine p i t at known in (f.ways, f.covered, f.table, f.same, f.led)

    pub try_leads : (n : ℕ) → slice_get site.ops p ≡ Some (op.Try n) → (t.operands ≡ 0) × Covered final (p + 1) (with_inside (open_at.In p) t) × Covered final (p + 1 + n) (with_operands 1 t)
    try_leads n at =
        let l = led_by (op.Try n) at in
        let w = so_parts (is_empty t) (fork p n (with_inside (open_at.In p) t) (with_operands 1 t)) l.0 l.4 in
        let c = subst (AllCovered final) (sym w.1) l.1 in
        (is_eq t.operands 0 w.0, c.0, c.1)

    pub last_leads : (n : ℕ) → slice_get site.ops p ≡ Some (op.Last n) → (t.operands ≡ 0) × Covered final (p + 1) (with_inside (open_at.In p) t) × Covered final (p + 1 + n) (with_inside (open_at.After p) t)
    last_leads n at =
        let l = led_by (op.Last n) at in
        let w = so_parts (is_empty t) (fork p n (with_inside (open_at.In p) t) (with_inside (open_at.After p) t)) l.0 l.4 in
        let c = subst (AllCovered final) (sym w.1) l.1 in
        (is_eq t.operands 0 w.0, c.0, c.1)

    pub loop_leads : (out again : ℕ) → slice_get site.ops p ≡ Some (op.Loop out again)
        → (t.operands ≡ 0) × Covered final (p + 1) (with_inside (open_at.In p) t) × Covered final (p + 1 + out) t × Covered final (p + 1 + again) (with_inside (open_at.In p) t)
    loop_leads out again at =
        let l = led_by (op.Loop out again) at in
        let w = so_parts (is_empty t) (opened p out again t) l.0 l.4 in
        let c = subst (AllCovered final) (sym w.1) l.1 in
        (is_eq t.operands 0 w.0, c.0, c.1, c.2)

    pub over_leads : (out again : ℕ) → slice_get site.ops p ≡ Some (op.Over out again)
        → (t.operands ≡ 1) × Covered final (p + 1) (with_inside (open_at.In p) (less 1 t)) × Covered final (p + 1 + out) (less 1 t)
        × Covered final (p + 1 + again) (with_inside (open_at.In p) (less 1 t))
    over_leads out again at =
        let l = led_by (op.Over out again) at in
        let w = so_parts (t.operands == 1) (opened p out again (less 1 t)) l.0 l.4 in
        let c = subst (AllCovered final) (sym w.1) l.1 in
        (is_eq t.operands 1 w.0, c.0, c.1, c.2)

  -- ---- entries and who opened them

  handler_opener : (x : Option Op) (p a : ℕ) → IsOpenedBy x p (entry.Handler a) → (n : ℕ) × (x ≡ Some (op.Try n)) × (a ≡ p + 1 + n)
  handler_opener (Some (op.Try n)) p a h = (n, refl, h)
  handler_opener (Some _) p a h = absurd h
  handler_opener None p a h = absurd h

  last_opener : (x : Option Op) (p a : ℕ) → IsOpenedBy x p (entry.Last a) → (n : ℕ) × (x ≡ Some (op.Last n)) × (a ≡ p + 1 + n)
  last_opener (Some (op.Last n)) p a h = (n, refl, h)
  last_opener (Some _) p a h = absurd h
  last_opener None p a h = absurd h

  turn_opener : (x : Option Op) (p a b : ℕ) → IsOpenedBy x p (entry.Turn a b) → (out : ℕ) × (again : ℕ) × (x ≡ Some (op.Loop out again)) × (a ≡ p + 1 + out) × (b ≡ p + 1 + again)
  turn_opener (Some (op.Loop out again)) p a b h = (out, again, refl, h.0, h.1)
  turn_opener (Some _) p a b h = absurd h
  turn_opener None p a b h = absurd h

  elements_opener : (x : Option Op) (p a b : ℕ) (r : Ref) (i : ℕ) → IsOpenedBy x p (entry.Elements a b r i) → (out : ℕ) × (again : ℕ) × (x ≡ Some (op.Over out again)) × (a ≡ p + 1 + out) × (b ≡ p + 1 + again)
  elements_opener (Some (op.Over out again)) p a b r i h = (out, again, refl, h.0, h.1)
  elements_opener (Some _) p a b r i h = absurd h
  elements_opener None p a b r i h = absurd h

  pulls_opener : (x : Option Op) (p a b : ℕ) (r : Ref) → IsOpenedBy x p (entry.Pulls a b r) → (out : ℕ) × (again : ℕ) × (x ≡ Some (op.Over out again)) × (a ≡ p + 1 + out) × (b ≡ p + 1 + again)
  pulls_opener (Some (op.Over out again)) p a b r h = (out, again, refl, h.0, h.1)
  pulls_opener (Some _) p a b r h = absurd h
  pulls_opener None p a b r h = absurd h

  -- a loop over something, by its entry's places
  pub record Looping (p a b : ℕ) (t : Shape) : Type 0 where
    pub out : Covered final a (with_operands 0 t)
    pub again : Covered final b (with_operands 0 (with_inside (open_at.In p) t))

  turn_looping : (p a b : ℕ) (t : Shape) → shape_at final p ≡ Some t → IsOpenedBy (slice_get site.ops p) p (entry.Turn a b) → Looping p a b t
  turn_looping p a b t known h =
      let x = turn_opener (slice_get site.ops p) p a b h in
      let l = loop_leads p t known x.0 x.1 x.2 in
      record {
        out = subst (λ q. Covered final q (with_operands 0 t)) (sym x.3) (subst (λ n. Covered final (p + 1 + x.0) (with_operands n t)) l.0 l.2);
        again = subst (λ q. Covered final q (with_operands 0 (with_inside (open_at.In p) t))) (sym x.4)
            (subst (λ n. Covered final (p + 1 + x.1) (with_operands n (with_inside (open_at.In p) t))) l.0 l.3);
      }

  over_looping : (p a b out again : ℕ) (t : Shape) → shape_at final p ≡ Some t → slice_get site.ops p ≡ Some (op.Over out again) → a ≡ p + 1 + out → b ≡ p + 1 + again → Looping p a b t
  over_looping p a b out again t known at e f =
      let l = over_leads p t known out again at in
      let z : t.operands - 1 ≡ 0 = omega (arith, l.0) in
      record {
        out = subst (λ q. Covered final q (with_operands 0 t)) (sym e) (subst (λ n. Covered final (p + 1 + out) (with_operands n t)) z l.2);
        again = subst (λ q. Covered final q (with_operands 0 (with_inside (open_at.In p) t))) (sym f)
            (subst (λ n. Covered final (p + 1 + again) (with_operands n (with_inside (open_at.In p) t))) z l.3);
      }

  pub elements_looping : (p a b : ℕ) (t : Shape) (r : Ref) (i : ℕ) → shape_at final p ≡ Some t → IsOpenedBy (slice_get site.ops p) p (entry.Elements a b r i) → Looping p a b t
  elements_looping p a b t r i known h =
      let x = elements_opener (slice_get site.ops p) p a b r i h in over_looping p a b x.0 x.1 t known x.2 x.3 x.4

  pub pulls_looping : (p a b : ℕ) (t : Shape) (r : Ref) → shape_at final p ≡ Some t → IsOpenedBy (slice_get site.ops p) p (entry.Pulls a b r) → Looping p a b t
  pulls_looping p a b t r known h =
      let x = pulls_opener (slice_get site.ops p) p a b r h in over_looping p a b x.0 x.1 t known x.2 x.3 x.4

  module _ (world : World) where
    -- a call has what is open needs
    pub record Needs (inside : Open) (es : List Entry) (n : ℕ) (o : Own) : Type 0 where
      pub stand : StandFor site.ops final inside es
      pub locals : locals_kept final inside ≤ n
      pub boxes : boxes_kept final inside ≤ length o.boxes

    -- behind the innermost entry
    pub outer : (p n : ℕ) (t : Shape) (es : List Entry) (o : Own) → shape_at final p ≡ Some t → t.locals ≤ n → t.boxes ≤ length o.boxes → StandFor site.ops final t.inside es → Needs t.inside es n o
    outer p n t es o known l b stand =
        let k = kept_at p t known in record { stand = stand; locals = omega (arith, k.locals, l); boxes = omega (arith, k.boxes, b) }

    pub record Opened (p n : ℕ) (e : Entry) (es : List Entry) (o : Own) (t : Shape) : Type 0 where
      pub known : shape_at final p ≡ Some t
      pub stand : StandFor site.ops final t.inside es
      pub locals : t.locals ≤ n
      pub boxes : t.boxes ≤ length o.boxes

    opened_in : (p : ℕ) (e : Entry) (es : List Entry) (n : ℕ) (o : Own) → Needs (open_at.In p) (e ∷ es) n o → (t : Shape) × Opened p n e es o t × IsOpenedBy (slice_get site.ops p) p e
    opened_in p e es n o h =
        let t = (h.stand).0 in
        let known : shape_at final p ≡ Some t = (h.stand).1 in (
          t,
          record {
            known = known;
            stand = (h.stand).3;
            locals = subst (λ x. option_map_or (λ (y : Shape). y.locals) x 0 ≤ n) known h.locals;
            boxes = subst (λ x. option_map_or (λ (y : Shape). y.boxes) x 0 ≤ length o.boxes) known h.boxes;
          },
          (h.stand).2,
        )

    opened_after : (p : ℕ) (e : Entry) (es : List Entry) (n : ℕ) (o : Own) → Needs (open_at.After p) (e ∷ es) n o → (t : Shape) × Opened p n e es o t
    opened_after p e es n o h =
        let t = (h.stand).0 in
        let known : shape_at final p ≡ Some t = (h.stand).1 in (
          t,
          record {
            known = known;
            stand = (h.stand).3;
            locals = subst (λ x. option_map_or (λ (y : Shape). y.locals) x 0 ≤ n) known h.locals;
            boxes = subst (λ x. option_map_or (λ (y : Shape). y.boxes) x 0 ≤ length o.boxes) known h.boxes;
          },
        )

    after_fits : (n : ℕ) (out : Out Core (Unit {0})) (fs : Frames) (throw : Value → Core → Config) (go : Core → Config) → Left n out
        → ((v : Value) (s : Core) → length s.locals ≡ n → Fits site.ops final (throw v s)) → ((s : Core) → length s.locals ≡ n → Fits site.ops final (go s))
        → Fits site.ops final (after out fs throw go)
    after_fits n (Go _ s) fs throw go h f g = g s h
    after_fits n (Threw v s) fs throw go h f g = f v s h
    after_fits n (Refused l s) fs throw go h f g = tt

    module _ (n : ℕ) (o : Own) where
      -- to a place that knows a shape with no operands
      goes_to : (a : ℕ) (t : Shape) (es : List Entry) (s : Core) → length s.locals ≡ n → Covered final a (with_operands 0 t) → StandFor site.ops final t.inside es → t.locals ≤ n → t.boxes ≤ length o.boxes
          → Fits site.ops final (Running a [] es s o)
      goes_to a t es s e c stand l b = land a (with_operands 0 t) [] es s o c (record { operands = refl; stand = stand; locals = subst (λ k. t.locals ≤ k) (sym e) l; boxes = b })

      back_in : (p : ℕ) (t : Shape) (e : Entry) (es : List Entry) → Opened p n e es o t → IsOpenedBy (slice_get site.ops p) p e → StandFor site.ops final (open_at.In p) (e ∷ es)
      back_in p t e es x h = (t, x.known, h, x.stand)

    no_after : (x : Option Op) (p : ℕ) (how : Option Leaving) → IsOpenedBy x p (entry.After how) → ⊥
    no_after None p how h = h
    no_after (Some (op.Loop a b)) p how h = h
    no_after (Some (op.Over a b)) p how h = h
    no_after (Some (op.Try a)) p how h = h
    no_after (Some (op.Last a)) p how h = h
    no_after (Some _) p how h = h

    leaves_in : (n : ℕ) (l : Leaving) (p : ℕ) (x : Entry) (es : List Entry) (s : Core) (o : Own) → length s.locals ≡ n → (t : Shape) → Opened p n x es o t → IsOpenedBy (slice_get site.ops p) p x
        → ((l' : Leaving) (u : Core) → length u.locals ≡ n → Fits site.ops final (leaves world l' es u o))
        → Fits site.ops final (leaves world l (x ∷ es) s o)
    leaves_in n (leaving.Throw v) p (entry.Handler a) es s o e t y h rest =
        let u = handler_opener (slice_get site.ops p) p a h in
        let c = try_leads p t y.known u.0 u.1 in
        land a (with_operands 1 t) (v ∷ []) es s o (subst (λ q. Covered final q (with_operands 1 t)) (sym u.2) c.2)
        (record { operands = refl; stand = y.stand; locals = subst (λ k. t.locals ≤ k) (sym e) y.locals; boxes = y.boxes })
    leaves_in n leaving.Break p (entry.Handler a) es s o e t y h rest = rest leaving.Break s e
    leaves_in n leaving.Continue p (entry.Handler a) es s o e t y h rest = rest leaving.Continue s e
    leaves_in n (leaving.Return v) p (entry.Handler a) es s o e t y h rest = rest (leaving.Return v) s e
    leaves_in n leaving.Break p (entry.Turn a b) es s o e t y h rest = goes_to n o a t es s e (turn_looping p a b t y.known h).out y.stand y.locals y.boxes
    leaves_in n leaving.Continue p (entry.Turn a b) es s o e t y h rest =
        goes_to n o b (with_inside (open_at.In p) t) (entry.Turn a b ∷ es) s e (turn_looping p a b t y.known h).again (back_in n o p t (entry.Turn a b) es y h) y.locals y.boxes
    leaves_in n (leaving.Return v) p (entry.Turn a b) es s o e t y h rest = rest (leaving.Return v) s e
    leaves_in n (leaving.Throw v) p (entry.Turn a b) es s o e t y h rest = rest (leaving.Throw v) s e
    leaves_in n leaving.Break p (entry.Elements a b r i) es s o e t y h rest = goes_to n o a t es s e (elements_looping p a b t r i y.known h).out y.stand y.locals y.boxes
    leaves_in n leaving.Continue p (entry.Elements a b r i) es s o e t y h rest =
        goes_to n o b (with_inside (open_at.In p) t) (entry.Elements a b r i ∷ es) s e (elements_looping p a b t r i y.known h).again (back_in n o p t (entry.Elements a b r i) es y h) y.locals y.boxes
    leaves_in n (leaving.Return v) p (entry.Elements a b r i) es s o e t y h rest = rest (leaving.Return v) s e
    leaves_in n (leaving.Throw v) p (entry.Elements a b r i) es s o e t y h rest = rest (leaving.Throw v) s e
    leaves_in n leaving.Break p (entry.Pulls a b r) es s o e t y h rest =
        after_fits n (leave world r s) o.frames _ _ ((leave_left n world r).runs s e)
        (λ v u f. rest (leaving.Throw v) u f)
        (λ u f. goes_to n o a t es u f (pulls_looping p a b t r y.known h).out y.stand y.locals y.boxes)
    leaves_in n leaving.Continue p (entry.Pulls a b r) es s o e t y h rest =
        goes_to n o b (with_inside (open_at.In p) t) (entry.Pulls a b r ∷ es) s e (pulls_looping p a b t r y.known h).again (back_in n o p t (entry.Pulls a b r) es y h) y.locals y.boxes
    leaves_in n (leaving.Return v) p (entry.Pulls a b r) es s o e t y h rest =
        after_fits n (leave world r s) o.frames _ _ ((leave_left n world r).runs s e)
        (λ w u f. rest (leaving.Throw w) u f)
        (λ u f. rest (leaving.Return v) u f)
    leaves_in n (leaving.Throw v) p (entry.Pulls a b r) es s o e t y h rest =
        rest (leaving.Throw v) (end_left r s) (end_left_left n world r s e)
    leaves_in n l p (entry.Last a) es s o e t y h rest =
        let u = last_opener (slice_get site.ops p) p a h in
        let c = last_leads p t y.known u.0 u.1 in
        goes_to n o a (with_inside (open_at.After p) t) (entry.After (Some l) ∷ es) s e
        (subst (λ q. Covered final q (with_operands 0 (with_inside (open_at.After p) t))) (sym u.2)
        (subst (λ k. Covered final (p + 1 + u.0) (with_operands k (with_inside (open_at.After p) t))) c.0 c.2))
        (t, y.known, tt, y.stand) y.locals y.boxes
    leaves_in n l p (entry.After how) es s o e t y h rest = absurd (no_after (slice_get site.ops p) p how h)

    pub leaves_fit : (n : ℕ) (l : Leaving) (inside : Open) (es : List Entry) (s : Core) (o : Own) → length s.locals ≡ n → Needs inside es n o → Fits site.ops final (leaves world l es s o)
    leaves_fit n l inside [] s o e h = tt
    leaves_fit n l open_at.Nothing (x ∷ es) s o e h = absurd ((h.stand).2)
    leaves_fit n l (open_at.After p) (entry.After how ∷ es) s o e h =
        let x = opened_after p (entry.After how) es n o h in
        leaves_fit n l (x.0).inside es s o e (outer p n x.0 es o (x.1).known (x.1).locals (x.1).boxes (x.1).stand)
    leaves_fit n l (open_at.After p) (entry.Handler a ∷ es) s o e h = absurd ((h.stand).2)
    leaves_fit n l (open_at.After p) (entry.Turn a b ∷ es) s o e h = absurd ((h.stand).2)
    leaves_fit n l (open_at.After p) (entry.Elements a b r i ∷ es) s o e h = absurd ((h.stand).2)
    leaves_fit n l (open_at.After p) (entry.Pulls a b r ∷ es) s o e h = absurd ((h.stand).2)
    leaves_fit n l (open_at.After p) (entry.Last a ∷ es) s o e h = absurd ((h.stand).2)
    leaves_fit n l (open_at.In p) (x ∷ es) s o e h =
        let y = opened_in p x es n o h in
        leaves_in n l p x es s o e y.0 y.1 y.2
        (λ l' u f. leaves_fit n l' (y.0).inside es u o f (outer p n y.0 es o (y.1).known (y.1).locals (y.1).boxes (y.1).stand))

    -- how an action goes on
    pub given_fits : {A : Type 0} (n : ℕ) (out : Out Core A) (inside : Open) (es : List Entry) (o : Own) (k : A → Core → Config) → Left n out → Needs inside es n o
        → ((a : A) (s : Core) → length s.locals ≡ n → Fits site.ops final (k a s)) → Fits site.ops final (given world out es o k)
    given_fits n (Go a s) inside es o k h needs f = f a s h
    given_fits n (Threw v s) inside es o k h needs f = leaves_fit n (leaving.Throw v) inside es s o h needs
    given_fits n (Refused l s) inside es o k h needs f = tt
