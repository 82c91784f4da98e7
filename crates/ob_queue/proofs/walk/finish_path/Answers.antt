use Rattle.std.proofs.Common.{◌≡◌, ℕ, ◌+◌, ◌-◌, ◌*◌, ◌<◌, ◌==◌, false, length, inl, inr, arith, ap, sym, ◌∙◌}
use Rattle.std.proofs.lemmas.Bool.{cases_eq, eq-eqb, both_ways}
use Rattle.ob_queue.proofs.WalkLaws.{few_taken}
use Rattle.ob_queue.proofs.walk.finish_path.Goals as goal

positive : (n : ℕ) → (n == 0) ≡ false → 0 < n
positive n h = elim (cases_eq n 0) [ inl e ↦ absurd (both_ways _ h (eq-eqb n 0 e)) | inr f ↦ omega (arith, f) ]

pub loop-walk-smaller : goal.loop-walk-smaller
loop-walk-smaller c =
    let queue = c.requires.walking.0 in
    let w = c.loop-walk.walk in
    let k = c.loop-walk.invariant.walking queue c.requires.walking.1 in
    let few = few_taken queue _ w k in
    let now = k.room in
    let before = c.requires.walking.1.room in
    let on = c.step.ensures.progress in
    let n = ap length c.path.ensures in
    let some : 0 < length c.path.result.now = positive (length c.path.result.now) (sym c.is_empty.ensures ∙ c.loop-walk-test.true) in
    let room = 2 * length c.args.walk.now.marks in
    let less : room - (2 * length c.step.new.walk.order + length c.step.new.walk.path) < room - (2 * length w.order + length w.path) = omega (arith, few, now, before, on, n, some) in
    less
