use Rattle.delay.proofs.Calls.{fit_first}
use Rattle.delay.proofs.memory.Delay.fresh.Goals as goal

pub invariant_of-result-clause-fit : goal.invariant_of-result-clause-fit
invariant_of-result-clause-fit c = fit_first c.args.shape
