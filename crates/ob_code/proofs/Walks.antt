-- A function whose walk keeps the rules: at each place that a way reaches, the ways of its instruction lead to places that know what they hand on.
use Rattle.std.proofs.Common.{◌≡◌, ℕ, zero, suc, ◌+◌, ◌<◌, ◌≤◌, List, [], ◌∷◌, length, Option, Some, None, slice_get, refl, sym, ◌∙◌, subst, arith, nat_lt}
use Rattle.std.specs.Prelude.{slice_set, replicate}
use Rattle.std.specs.Option.{option_map_or}
use Rattle.std.proofs.lemmas.List.{length-set, length-replicate}
use Rattle.std.proofs.lemmas.Option.{same_Some, none-some}
use Rattle.ob_code.specs.Code.{Site}
use Rattle.ob_code.specs.Rules.{Walk, Keeps, on_from, handed_by, passed_in, passed, walk, first_shape, entry_shapes, walk_function}
use Rattle.ob_code.specs.Shapes.{Shapes, shape_at}
use Rattle.ob_code.specs.Ways.{ways_of}
use Rattle.ob_code.specs.declared.op.Op.{Op}
use Rattle.ob_code.specs.declared.shape.Shape.{Shape}
use Rattle.ob_code.specs.declared.shape.Ways.{Ways}
use Rattle.ob_code.proofs.Tables.{Covered, AllCovered, all_grow, AllKept, Kept, SameTo, Grows, grows_refl, grows_trans, opener_same, before_more, all_handed_parts, at_or_other, tested, other_set, at_set, is_lt}

pub record Fine (site : Site) (final : Shapes) (p : ℕ) (o : Op) (s : Shape) : Type 0 where
  pub table : Shapes
  pub same : SameTo p table final
  pub ways : Ways
  pub led : ways_of site table p o s ≡ Some ways
  pub covered : AllCovered final ways
  pub kept : Kept p final s

pub record Walked (site : Site) (ops : List Op) (n : ℕ) (old final : Shapes) : Type 0 where
  pub grows : Grows n old final
  pub fine : (q i : ℕ) (o : Op) (s : Shape) → q ≡ n + i → slice_get ops i ≡ Some o → shape_at final q ≡ Some s → Fine site final q o s

on_parts : (x : Option Shapes) (n : ℕ) (k : Shapes → Walk) (final : Shapes) → on_from x n k ≡ Keeps final → (m : Shapes) × (x ≡ Some m) × (k m ≡ Keeps final)
on_parts None n k final h = cc
on_parts (Some m) n k final h = (m, refl, h)

keeps_same : (a b : Shapes) → Keeps a ≡ Keeps b → a ≡ b
keeps_same a b h = cc

-- what passing one instruction does
record Step (site : Site) (o : Op) (n : ℕ) (old m : Shapes) : Type 0 where
  grows : Grows n old m
  kept : AllKept (n + 1) old → AllKept (n + 1) m
  led : (s : Shape) → shape_at old n ≡ Some s → (w : Ways) × (ways_of site old n o s ≡ Some w) × AllCovered m w

handed_step : (site : Site) (o : Op) (n : ℕ) (old m : Shapes) (s : Shape) (x : Option Ways) → shape_at old n ≡ Some s → ways_of site old n o s ≡ x → handed_by site n x old ≡ Some m → Step site o n old m
handed_step site o n old m s None at led h = absurd (none-some m h)
handed_step site o n old m s (Some w) at led h =
    let p = all_handed_parts site n w old m h in
    record {
      grows = p.grows;
      kept = p.kept;
      led = λ t e. (w, subst (λ y. ways_of site old n o y ≡ Some w) (same_Some s t (sym at ∙ e)) led, p.covered);
    }

passed_step : (site : Site) (o : Op) (n : ℕ) (old m : Shapes) (x : Option Shape) → shape_at old n ≡ x → passed_in site o n old x ≡ Some m → Step site o n old m
passed_step site o n old m None at h =
    subst (λ y. Step site o n old y) (same_Some old m h)
    (record { grows = grows_refl n old; kept = λ k. k; led = λ s e. absurd (none-some s (sym at ∙ e)) })
passed_step site o n old m (Some s) at h = handed_step site o n old m s (ways_of site old n o s) at refl h

more_kept : (n : ℕ) (shapes : Shapes) → AllKept n shapes → AllKept (n + 1) shapes
more_kept n shapes all q s e =
    let k = all q s e in
    record { before = before_more n (n + 1) s.inside (omega arith) k.before; locals = k.locals; boxes = k.boxes }

kept_final : (n : ℕ) (old final : Shapes) (s : Shape) → SameTo n old final → Kept n old s → Kept n final s
kept_final n old final s same k =
    let e = opener_same n old final s.inside same (before_more n (n + 1) s.inside (omega arith) k.before) in
    record {
      before = k.before;
      locals = subst (λ o. option_map_or (λ (x : Shape). x.locals) o 0 ≤ s.locals) (sym e) k.locals;
      boxes = subst (λ o. option_map_or (λ (x : Shape). x.boxes) o 0 ≤ s.boxes) (sym e) k.boxes;
    }

module _ (site : Site) (o : Op) (ops : List Op) (n : ℕ) (old m final : Shapes) (all : AllKept n old) (step : Step site o n old m) (rest : Walked site ops (n + 1) m final) where
  step_grows : Grows n old final
  step_grows = grows_trans n (n + 1) old m final (omega arith) step.grows rest.grows

  here_fine : (s : Shape) → shape_at final n ≡ Some s → Fine site final n o s
  here_fine s e =
      let at : shape_at old n ≡ Some s = sym (step_grows.same n (omega arith)) ∙ e in
      let w = step.led s at in
      record {
        table = old;
        same = step_grows.same;
        ways = w.0;
        led = w.1;
        covered = all_grow (n + 1) m final w.0 rest.grows w.2;
        kept = kept_final n old final s step_grows.same (all n s at);
      }

  step_fine : (q i : ℕ) (p : Op) (s : Shape) → q ≡ n + i → slice_get (o ∷ ops) i ≡ Some p → shape_at final q ≡ Some s → Fine site final q p s
  step_fine q zero p s e g h =
      let k : n ≡ q = omega (arith, e) in
      subst (λ x. Fine site final x p s) k
      (subst (λ x. Fine site final n x s) (same_Some o p g) (here_fine s (subst (λ x. shape_at final x ≡ Some s) (sym k) h)))
  step_fine q (suc i) p s e g h = rest.fine q i p s (omega (arith, e)) g h

pub walk_fine : (site : Site) (ops : List Op) (n : ℕ) (old final : Shapes) → walk site ops n old ≡ Keeps final → AllKept n old → Walked site ops n old final
walk_fine site [] n old final h all =
    subst (λ x. Walked site [] n old x) (keeps_same old final h)
    (record { grows = grows_refl n old; fine = λ q i o s e g k. absurd (none-some o g) })
walk_fine site (o ∷ ops) n old final h all =
    let t = on_parts (passed site o n old) n (λ more. walk site ops (n + 1) more) final h in
    let step = passed_step site o n old t.0 (shape_at old n) refl t.1 in
    let rest = walk_fine site ops (n + 1) t.0 final t.2 (step.kept (more_kept n old all)) in
    record { grows = step_grows site o ops n old t.0 final all step rest; fine = step_fine site o ops n old t.0 final all step rest }

-- ---- a whole function

pub record IsSound (site : Site) (final : Shapes) : Type 0 where
  pub entry : Covered final 0 (first_shape site.boxes)
  pub fine : (q : ℕ) (o : Op) (s : Shape) → slice_get site.ops q ≡ Some o → shape_at final q ≡ Some s → Fine site final q o s
  pub long : length final ≡ length site.ops

none_in : (n q : ℕ) → shape_at (replicate n None) q ≡ None
none_in zero q = refl
none_in (suc n) zero = refl
none_in (suc n) (suc q) = none_in n q

abbrev no_shape : Option Shape
no_shape = None

long_none : (n : ℕ) → length (replicate n no_shape) ≡ n
long_none n = length-replicate n no_shape

module _ (site : Site) (within : 0 < length site.ops) where
  first_table : Shapes
  first_table = slice_set (replicate (length site.ops) None) 0 (Some (first_shape site.boxes))

  first_kept : AllKept 0 first_table
  unfolding first_table
  first_kept q s e = at_or_other q 0
      (λ i. subst (λ x. Kept 0 first_table x) (same_Some (first_shape site.boxes) s (sym (at_set (replicate (length site.ops) None) 0 (first_shape site.boxes) (subst (λ n. 0 < n) (sym (long_none (length site.ops))) within)) ∙ subst (λ x. shape_at first_table x ≡ Some s) i e))
      (record { before = tt; locals = omega arith; boxes = omega arith }))
      (λ ne. absurd (none-some s (sym (none_in (length site.ops) q) ∙ sym (other_set (replicate (length site.ops) None) 0 q (first_shape site.boxes) ne) ∙ e)))

  entered_fine : (final : Shapes) → walk site site.ops 0 first_table ≡ Keeps final → IsSound site final
  unfolding first_table
  entered_fine final h =
      let w = walk_fine site site.ops 0 first_table final h first_kept in
      let long : 0 < length (replicate (length site.ops) no_shape) = subst (λ n. 0 < n) (sym (long_none (length site.ops))) within in
      record {
        entry = w.grows.known 0 (first_shape site.boxes) (at_set (replicate (length site.ops) None) 0 (first_shape site.boxes) long);
        fine = λ q o s g k. w.fine q q o s (omega arith) g k;
        long = w.grows.long ∙ length-set (replicate (length site.ops) None) 0 (Some (first_shape site.boxes)) ∙ long_none (length site.ops);
      }

pub sound : (site : Site) (final : Shapes) → walk_function site ≡ Keeps final → IsSound site final
unfolding first_table
sound site final h =
    let t = on_parts (entry_shapes site) 0 (walk site site.ops 0) final h in
    let u = tested (nat_lt 0 (length site.ops)) (Some (slice_set (replicate (length site.ops) None) 0 (Some (first_shape site.boxes)))) t.0 t.1 in
    entered_fine site (is_lt 0 (length site.ops) u.0) final (subst (λ x. walk site site.ops 0 x ≡ Keeps final) (sym (same_Some _ _ u.1)) t.2)

-- ---- an instruction stands at each place that a way reaches

pub there : (shapes : Shapes) (ops : List Op) (q : ℕ) (t : Shape) → length shapes ≡ length ops → shape_at shapes q ≡ Some t → (o : Op) × (slice_get ops q ≡ Some o)
there [] ops q t e h = absurd (none-some t h)
there (x ∷ shapes) [] q t e h = absurd (omega (arith, e))
there (x ∷ shapes) (o ∷ ops) zero t e h = (o, refl)
there (x ∷ shapes) (o ∷ ops) (suc q) t e h = there shapes ops q t (omega (arith, e)) h
