use Rattle.ob_sem.proofs.RunsKeep.{begin_keeps, step_keeps, inputs_keep}
use Rattle.ob_sem.proofs.runs_keep_fixed.Goals as goal

pub returns : goal.returns
returns c = λ set. record {
  begins = λ f code inputs store. begin_keeps set store f code inputs store (inputs_keep set store inputs store (λ r item is fixed. is));
  steps = λ r. step_keeps set r.store r.ended r (λ s item is fixed. is);
}
