use Rattle.std.proofs.Common.{◌≡◌, ℕ, ◌+◌, ◌<◌, false, rules, tests, arith}
use Rattle.std.proofs.lemmas.Iterator.{cases_from_any, YieldsList-from_slice}
use Rattle.bursts.specs.Bursts.{in_burst}
use Rattle.bursts.proofs.Alters.{leave_out}
use Rattle.bursts.proofs.any_meets.Goals as goal

pub returns : goal.returns
returns c =
    let bs = c.args.bursts.now in
    let e = cases_from_any _ _ _ (λ b. Unit {0}) (λ b. (i : ℕ) → i < 832 → in_burst b (c.args.first + i) ≡ false) c.any.ensures.ran (YieldsList-from_slice bs cc) (λ x q k. tt) (λ x q k. search (rules, tests)) in
    λ no i h. let a = rw no at e in leave_out bs (c.args.first + i) (λ k d l. a k d (omega arith) l i h)
