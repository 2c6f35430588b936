use Rattle.std.proofs.Common.{◌≡◌, ℕ, ◌+◌, ◌<◌, cond, length, get_or, drop, pos, neg_ℤ}
use Rattle.bursts.specs.Bursts.{in_bursts}
use Rattle.bursts.proofs.alter.Given as goal

abbrev pub invariant-loop-burst : goal.invariant-loop-burst
invariant-loop-burst l =
    record {
      long : length l.copy ≡ 832;
      so_far : (i : ℕ) → i < 832 → cond (in_bursts (drop l.burst-index l.bursts) (l.first + i)) (neg_ℤ (get_or l.segment i (pos 0))) (get_or l.copy i (pos 0)) ≡
          cond (in_bursts l.bursts (l.first + i)) (neg_ℤ (get_or l.segment i (pos 0))) (get_or l.segment i (pos 0));
    }
