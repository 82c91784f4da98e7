-- The shapes of a function's code while the rules walk over it: those of places that were passed stay, and the others lose nothing but locals and
-- boxes that some way there hasn't.
use Rattle.std.proofs.Common.{◌≡◌, ◌≢◌, ℕ, ◌+◌, ◌<◌, ◌≤◌, ◌==◌, Bool, true, false, ◌&&◌, length, Option, Some, None, refl, sym, ap, ◌∙◌, subst, arith, nat_lt, nat_le, min, if◌then◌else◌}
use Rattle.std.specs.Prelude.{slice_set}
use Rattle.std.specs.Option.{option_map_or, option_and_then}
use Rattle.std.proofs.lemmas.Bool.{leb-true, ltb-true}
use Rattle.std.proofs.lemmas.Bool.Decides.{nat_tests}
use Rattle.std.proofs.lemmas.List.{get_or-set_other, get_or-set_same, length-set}
use Rattle.std.proofs.lemmas.Option.{same_Some, none-some}
use Rattle.ob_code.specs.Code.{Site}
use Rattle.ob_code.specs.Rules.{with_shape, is_way, handed, all_handed, has_room}
use Rattle.ob_code.specs.Shapes.{Shapes, shape_at, agree, same_open, joined, opener, locals_kept, boxes_kept, keeps_open, is_opened_by}
use Rattle.ob_code.specs.declared.shape.Open.{Open}
use Rattle.ob_code.specs.declared.shape.Open.TheVariants as open_at
use Rattle.ob_code.specs.declared.shape.Shape.{Shape}
use Rattle.ob_code.specs.declared.shape.Way.{Way}
use Rattle.ob_code.specs.declared.shape.Ways.{Ways}
use Rattle.ob_code.specs.declared.shape.Ways.TheVariants as ways

-- ---- tests

pub both_parts : (a b : Bool) → (a && b) ≡ true → (a ≡ true) × (b ≡ true)
both_parts true b h = (refl, h)
both_parts false b h = cc

pub is_le : (a b : ℕ) → nat_le a b ≡ true → a ≤ b
is_le a b h = leb-true a b h

pub is_lt : (a b : ℕ) → nat_lt a b ≡ true → a < b
is_lt a b h = ltb-true a b h

pub is_eq : (a b : ℕ) → (a == b) ≡ true → a ≡ b
is_eq a b h = grind (arith, nat_tests)

min_left : (a b : ℕ) → min a b ≤ a
min_left a b = omega arith

min_right : (a b : ℕ) → min a b ≤ b
min_right a b = omega arith

min_above : (a b n : ℕ) → n ≤ a → n ≤ b → n ≤ min a b
min_above a b n h k = omega arith

-- ---- shapes

-- all that the second has but locals and boxes, and of these no more
pub record Less (u t : Shape) : Type 0 where
  pub operands : u.operands ≡ t.operands
  pub inside : u.inside ≡ t.inside
  pub locals : u.locals ≤ t.locals
  pub boxes : u.boxes ≤ t.boxes

pub less_refl : (t : Shape) → Less t t
less_refl t = record { operands = refl; inside = refl; locals = omega arith; boxes = omega arith }

less_trans : (a b c : Shape) → Less a b → Less b c → Less a c
less_trans a b c h k = record { operands = h.operands ∙ k.operands; inside = h.inside ∙ k.inside; locals = omega (arith, h.locals, k.locals); boxes = omega (arith, h.boxes, k.boxes) }

pub open_same : (a b : Open) → same_open a b ≡ true → a ≡ b
open_same open_at.Nothing open_at.Nothing h = refl
open_same (open_at.In p) (open_at.In q) h = ap open_at.In (is_eq p q h)
open_same (open_at.After p) (open_at.After q) h = ap open_at.After (is_eq p q h)
open_same open_at.Nothing (open_at.In q) h = cc
open_same open_at.Nothing (open_at.After q) h = cc
open_same (open_at.In p) open_at.Nothing h = cc
open_same (open_at.In p) (open_at.After q) h = cc
open_same (open_at.After p) open_at.Nothing h = cc
open_same (open_at.After p) (open_at.In q) h = cc

pub agree_parts : (a b : Shape) → agree a b ≡ true → (a.operands ≡ b.operands) × (a.inside ≡ b.inside)
agree_parts a b h =
    let p = both_parts (a.operands == b.operands) (same_open a.inside b.inside) h in
    (is_eq a.operands b.operands p.0, open_same a.inside b.inside p.1)

-- ---- a table with one shape more

module _ (shapes : Shapes) (i : ℕ) (s : Shape) (within : i < length shapes) where
  pub at_set : shape_at (slice_set shapes i (Some s)) i ≡ Some s
  at_set = get_or-set_same shapes i (Some s) None within

pub other_set : (shapes : Shapes) (i j : ℕ) (s : Shape) → j ≢ i → shape_at (slice_set shapes i (Some s)) j ≡ shape_at shapes j
other_set shapes i j s ne = get_or-set_other shapes i j (Some s) None ne

-- a shape is known at the place that has all that was handed there
abbrev pub Covered : Shapes → ℕ → Shape → Type 0
Covered shapes q t = (u : Shape) × (shape_at shapes q ≡ Some u) × Less u t

covered_less : (shapes : Shapes) (q : ℕ) (t u : Shape) → Less t u → Covered shapes q t → Covered shapes q u
covered_less shapes q t u h c = (c.0, c.1, less_trans c.0 t u c.2 h)

is_ne : (a b : ℕ) → (a == b) ≡ false → a ≢ b
is_ne a b h = grind (arith, nat_tests)

pub at_or_other : {P : Type 0} (q i : ℕ) → (q ≡ i → P) → (q ≢ i → P) → P
at_or_other {P} q i f g = by (q == i) refl
  where
    by : (b : Bool) → (q == i) ≡ b → P
    by true e = f (is_eq q i e)
    by false e = g (is_ne q i e)

-- ---- one way more

pub record IsWayTo (n : ℕ) (w : Way) (shapes : Shapes) : Type 0 where
  pub ahead : n < w.place
  pub within : w.place < length shapes
  pub opened : is_opened_by n w.shape.inside ≡ true
  pub locals : locals_kept shapes w.shape.inside ≤ w.shape.locals
  pub boxes : boxes_kept shapes w.shape.inside ≤ w.shape.boxes

way_parts : (site : Site) (n : ℕ) (w : Way) (shapes : Shapes) → is_way site n w shapes ≡ true → IsWayTo n w shapes
way_parts site n w shapes h =
    let a = both_parts (nat_lt n w.place && nat_lt w.place (length shapes) && has_room site w.shape && is_opened_by n w.shape.inside) (keeps_open shapes w.shape) h in
    let b = both_parts (nat_lt n w.place && nat_lt w.place (length shapes) && has_room site w.shape) (is_opened_by n w.shape.inside) a.0 in
    let c = both_parts (nat_lt n w.place && nat_lt w.place (length shapes)) (has_room site w.shape) b.0 in
    let d = both_parts (nat_lt n w.place) (nat_lt w.place (length shapes)) c.0 in
    let e = both_parts (nat_le (locals_kept shapes w.shape.inside) w.shape.locals) (nat_le (boxes_kept shapes w.shape.inside) w.shape.boxes) a.1 in
    record { ahead = is_lt _ _ d.0; within = is_lt _ _ d.1; opened = b.1; locals = is_le _ _ e.0; boxes = is_le _ _ e.1 }

pub tested : {X : Type 0} (b : Bool) (x : Option X) (y : X) → (if b then x else None) ≡ Some y → (b ≡ true) × (x ≡ Some y)
tested true x y h = (refl, h)
tested false x y h = absurd (none-some y h)

with_shape_parts : (i : ℕ) (shapes : Shapes) (o : Option Shape) (new : Shapes) → with_shape i shapes o ≡ Some new → (s : Shape) × (o ≡ Some s) × (new ≡ slice_set shapes i (Some s))
with_shape_parts i shapes None new h = absurd (none-some new h)
with_shape_parts i shapes (Some s) new h = (s, refl, sym (same_Some _ _ h))

meet : Shape → Shape → Shape
meet a b = record { operands = b.operands; locals = min a.locals b.locals; boxes = min a.boxes b.boxes; inside = b.inside }

-- what a place is known by after another way led there
pub record Joined (o : Option Shape) (b c : Shape) : Type 0 where
  pub new : Less c b
  pub old : (a : Shape) → o ≡ Some a → Less c a
  pub locals : (n : ℕ) → ((a : Shape) → o ≡ Some a → n ≤ a.locals) → n ≤ b.locals → n ≤ c.locals
  pub boxes : (n : ℕ) → ((a : Shape) → o ≡ Some a → n ≤ a.boxes) → n ≤ b.boxes → n ≤ c.boxes

joined_met : (a b : Shape) → agree a b ≡ true → Joined (Some a) b (meet a b)
unfolding meet
joined_met a b h =
    let p = agree_parts a b h in
    record {
      new = record { operands = refl; inside = refl; locals = min_right a.locals b.locals; boxes = min_right a.boxes b.boxes };
      old = λ x e. subst (λ y. Less (meet a b) y) (same_Some a x e)
          (record { operands = sym p.0; inside = sym p.1; locals = min_left a.locals b.locals; boxes = min_left a.boxes b.boxes });
      locals = λ n f g. min_above a.locals b.locals n (f a refl) g;
      boxes = λ n f g. min_above a.boxes b.boxes n (f a refl) g;
    }

joined_parts : (o : Option Shape) (b c : Shape) → joined o b ≡ Some c → Joined o b c
unfolding meet
joined_parts None b c h =
    subst (λ x. Joined None b x) (same_Some b c h)
    (record { new = less_refl b; old = λ a e. absurd (none-some a e); locals = λ n f g. g; boxes = λ n f g. g })
joined_parts (Some a) b c h =
    let t = tested (agree a b) (Some (meet a b)) c h in
    subst (λ x. Joined (Some a) b x) (same_Some (meet a b) c t.1) (joined_met a b t.0)

-- ---- what is open was opened before, and has what it needs

abbrev pub Before : ℕ → Open → Type 0
Before n open_at.Nothing = Unit {0}
Before n (open_at.In p) = p < n
Before n (open_at.After p) = p < n

pub record Kept (n : ℕ) (shapes : Shapes) (s : Shape) : Type 0 where
  pub before : Before n s.inside
  pub locals : locals_kept shapes s.inside ≤ s.locals
  pub boxes : boxes_kept shapes s.inside ≤ s.boxes

abbrev pub AllKept : ℕ → Shapes → Type 0
AllKept n shapes = (q : ℕ) (s : Shape) → shape_at shapes q ≡ Some s → Kept n shapes s

-- the same up to a place
abbrev pub SameTo : ℕ → Shapes → Shapes → Type 0
SameTo n old new = (q : ℕ) → q ≤ n → shape_at new q ≡ shape_at old q

pub before_more : (n m : ℕ) (inside : Open) → n ≤ m → Before n inside → Before m inside
before_more n m open_at.Nothing h b = tt
before_more n m (open_at.In p) h b = omega (arith, h, b)
before_more n m (open_at.After p) h b = omega (arith, h, b)

opened_before : (n : ℕ) (inside : Open) → is_opened_by n inside ≡ true → Before (n + 1) inside
opened_before n open_at.Nothing h = tt
opened_before n (open_at.In p) h = let k : p ≤ n = is_le p n h in omega arith
opened_before n (open_at.After p) h = let k : p ≤ n = is_le p n h in omega arith

pub opener_same : (n : ℕ) (old new : Shapes) (inside : Open) → SameTo n old new → Before (n + 1) inside → opener new inside ≡ opener old inside
opener_same n old new open_at.Nothing same b = refl
opener_same n old new (open_at.In p) same b = same p (omega (arith, b))
opener_same n old new (open_at.After p) same b = same p (omega (arith, b))

-- ---- a table after one way more

pub record Grows (n : ℕ) (old new : Shapes) : Type 0 where
  pub same : SameTo n old new
  pub known : (q : ℕ) (u : Shape) → shape_at old q ≡ Some u → Covered new q u
  pub long : length new ≡ length old

pub grows_refl : (n : ℕ) (shapes : Shapes) → Grows n shapes shapes
grows_refl n shapes = record { same = λ q h. refl; known = λ q u e. (u, e, less_refl u); long = refl }

pub grows_trans : (n m : ℕ) (a b c : Shapes) → n ≤ m → Grows n a b → Grows m b c → Grows n a c
grows_trans n m a b c le f g = record {
  same = λ q h. g.same q (omega (arith, le, h)) ∙ f.same q h;
  known = λ q u e.
      let k = f.known q u e in
      covered_less c q k.0 u k.2 (g.known q k.0 k.1);
  long = g.long ∙ f.long;
}

pub covered_grows : (n : ℕ) (a b : Shapes) (q : ℕ) (t : Shape) → Grows n a b → Covered a q t → Covered b q t
covered_grows n a b q t g c = covered_less b q c.0 t c.2 (g.known q c.0 c.1)

module _ (n : ℕ) (w : Way) (old : Shapes) (c : Shape) (way : IsWayTo n w old) (j : Joined (shape_at old w.place) w.shape c) where
  set_grows : Grows n old (slice_set old w.place (Some c))
  set_grows = record {
    same = λ q h. other_set old w.place q c (omega (arith, h, way.ahead));
    known = λ q u e. at_or_other q w.place
        (λ s. (c, subst (λ x. shape_at (slice_set old w.place (Some c)) x ≡ Some c) (sym s) (at_set old w.place c way.within), j.old u (subst (λ x. shape_at old x ≡ Some u) s e)))
        (λ ne. (u, other_set old w.place q c ne ∙ e, less_refl u));
    long = length-set old w.place (Some c);
  }

  kept_moves : (s : Shape) → Kept (n + 1) old s → Kept (n + 1) (slice_set old w.place (Some c)) s
  kept_moves s k =
      let e = opener_same n old (slice_set old w.place (Some c)) s.inside set_grows.same k.before in
      record {
        before = k.before;
        locals = subst (λ o. option_map_or (λ (x : Shape). x.locals) o 0 ≤ s.locals) (sym e) k.locals;
        boxes = subst (λ o. option_map_or (λ (x : Shape). x.boxes) o 0 ≤ s.boxes) (sym e) k.boxes;
      }

  kept_joined : AllKept (n + 1) old → Kept (n + 1) old c
  kept_joined all =
      let inside = j.new.inside in
      record {
        before = subst (λ x. Before (n + 1) x) (sym inside) (opened_before n w.shape.inside way.opened);
        locals = j.locals _ (λ a e. subst (λ x. locals_kept old x ≤ a.locals) (sym ((j.old a e).inside)) ((all w.place a e).locals))
            (subst (λ x. locals_kept old x ≤ w.shape.locals) (sym inside) way.locals);
        boxes = j.boxes _ (λ a e. subst (λ x. boxes_kept old x ≤ a.boxes) (sym ((j.old a e).inside)) ((all w.place a e).boxes))
            (subst (λ x. boxes_kept old x ≤ w.shape.boxes) (sym inside) way.boxes);
      }

  set_kept : AllKept (n + 1) old → AllKept (n + 1) (slice_set old w.place (Some c))
  set_kept all q s e = at_or_other q w.place
      (λ i. kept_moves s (subst (λ x. Kept (n + 1) old x) (same_Some c s (sym (at_set old w.place c way.within) ∙ subst (λ x. shape_at (slice_set old w.place (Some c)) x ≡ Some s) i e)) (kept_joined all)))
      (λ ne. kept_moves s (all q s (sym (other_set old w.place q c ne) ∙ e)))

-- what is known after a way was handed
pub record Handed (n : ℕ) (w : Way) (old new : Shapes) : Type 0 where
  pub grows : Grows n old new
  pub covered : Covered new w.place w.shape
  pub kept : AllKept (n + 1) old → AllKept (n + 1) new

handed_parts : (site : Site) (n : ℕ) (w : Way) (old new : Shapes) → handed site n w old ≡ Some new → Handed n w old new
handed_parts site n w old new h =
    let t = tested (is_way site n w old) (with_shape w.place old (joined (shape_at old w.place) w.shape)) new h in
    let p = with_shape_parts w.place old (joined (shape_at old w.place) w.shape) new t.1 in
    let way = way_parts site n w old t.0 in
    let j = joined_parts (shape_at old w.place) w.shape p.0 p.1 in
    subst (λ x. Handed n w old x) (sym p.2)
    (record {
      grows = set_grows n w old p.0 way j;
      covered = (p.0, at_set old w.place p.0 way.within, j.new);
      kept = set_kept n w old p.0 way j;
    })

-- ---- all ways of an instruction

abbrev pub AllCovered : Shapes → Ways → Type 0
AllCovered shapes ways.Nowhere = Unit {0}
AllCovered shapes (ways.One a) = Covered shapes a.place a.shape
AllCovered shapes (ways.Two a b) = Covered shapes a.place a.shape × Covered shapes b.place b.shape
AllCovered shapes (ways.Three a b c) = Covered shapes a.place a.shape × Covered shapes b.place b.shape × Covered shapes c.place c.shape

pub all_grow : (n : ℕ) (a b : Shapes) (w : Ways) → Grows n a b → AllCovered a w → AllCovered b w
all_grow n a b ways.Nowhere g h = tt
all_grow n a b (ways.One x) g h = covered_grows n a b x.place x.shape g h
all_grow n a b (ways.Two x y) g h = (covered_grows n a b x.place x.shape g h.0, covered_grows n a b y.place y.shape g h.1)
all_grow n a b (ways.Three x y z) g h =
    (covered_grows n a b x.place x.shape g h.0, covered_grows n a b y.place y.shape g h.1, covered_grows n a b z.place z.shape g h.2)

pub record Passed (n : ℕ) (w : Ways) (old new : Shapes) : Type 0 where
  pub grows : Grows n old new
  pub covered : AllCovered new w
  pub kept : AllKept (n + 1) old → AllKept (n + 1) new

and_then_parts : {X Y : Type 0} (f : X → Option Y) (o : Option X) (y : Y) → option_and_then f o ≡ Some y → (x : X) × (o ≡ Some x) × (f x ≡ Some y)
and_then_parts f None y h = absurd (none-some y h)
and_then_parts f (Some x) y h = (x, refl, h)

pub all_handed_parts : (site : Site) (n : ℕ) (w : Ways) (old new : Shapes) → all_handed site n w old ≡ Some new → Passed n w old new
all_handed_parts site n ways.Nowhere old new h =
    subst (λ x. Passed n ways.Nowhere old x) (same_Some old new h) (record { grows = grows_refl n old; covered = tt; kept = λ k. k })
all_handed_parts site n (ways.One a) old new h =
    let p = handed_parts site n a old new h in record { grows = p.grows; covered = p.covered; kept = p.kept }
all_handed_parts site n (ways.Two a b) old new h =
    let t = and_then_parts (handed site n b) (handed site n a old) new h in
    let p = handed_parts site n a old t.0 t.1 in
    let q = handed_parts site n b t.0 new t.2 in
    record {
      grows = grows_trans n n old t.0 new (omega arith) p.grows q.grows;
      covered = (covered_grows n t.0 new a.place a.shape q.grows p.covered, q.covered);
      kept = λ k. q.kept (p.kept k);
    }
all_handed_parts site n (ways.Three a b c) old new h =
    let t = and_then_parts (handed site n c) (option_and_then (handed site n b) (handed site n a old)) new h in
    let u = and_then_parts (handed site n b) (handed site n a old) t.0 t.1 in
    let p = handed_parts site n a old u.0 u.1 in
    let q = handed_parts site n b u.0 t.0 u.2 in
    let r = handed_parts site n c t.0 new t.2 in
    let more = grows_trans n n u.0 t.0 new (omega arith) q.grows r.grows in
    record {
      grows = grows_trans n n old u.0 new (omega arith) p.grows more;
      covered = (covered_grows n u.0 new a.place a.shape more p.covered, covered_grows n t.0 new b.place b.shape r.grows q.covered, r.covered);
      kept = λ k. r.kept (q.kept (p.kept k));
    }
