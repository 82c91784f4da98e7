use Rattle.std.proofs.Common.{subst, sym}
use Rattle.ob_values.specs.Store.{Store}
use Rattle.ob_values.specs.Fixed.{KeepsFixedAt}
use Rattle.ob_values.specs.Sound.{KeepsOutside}
use Rattle.ob_values.proofs.SoundLemmas.{KeepsOutside-close}
use Rattle.ob_values.proofs.FixedLemmas.{KeepsFixed-close}
use Rattle.ob_values.proofs.regions.Regions.close.Goals as goal

pub returns-clause-kept : goal.returns-clause-kept
returns-clause-kept c = subst (λ (m : Store). KeepsOutside c.args.self.now m c.args.region) (sym c.remove_region.ensures) (KeepsOutside-close c.args.self.now c.args.region)

pub returns-clause-fixed : goal.returns-clause-fixed
returns-clause-fixed c = λ r apart. subst (λ (m : Store). KeepsFixedAt c.args.self.now m r) (sym c.remove_region.ensures) (KeepsFixed-close c.args.self.now c.args.region r apart)
