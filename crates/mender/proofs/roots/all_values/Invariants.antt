use Rattle.std.proofs.Common.{ℕ, ◌-◌, ◌*◌, ◌<◌, get_or}
use Rattle.correction.proofs.Roots.{Terms, Value}
use Rattle.mender.proofs.roots.all_values.Given as goal

abbrev pub invariant-loop-block : goal.invariant-loop-block
invariant-loop-block l = record {
  values : (k : ℕ) → k < 4 * l.block → Value l.locator.coefficients l.locator.degree l.n k (get_or l.all k 0);
  terms : 4 * l.block < l.n → Terms l.locator.coefficients l.locator.degree (l.n - 4 * l.block) l.e;
}
