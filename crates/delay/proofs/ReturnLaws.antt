-- The laws of the two directions and of the plain delay.
use Rattle.std.proofs.Common.{◌≡◌, ℕ, ◌+◌, ◌-◌, ◌*◌, ◌%◌, ap, ◌∙◌, mod-lt, mul_assoc, mul_comm, one-mul, mul-add, arith}
use native.Mathlib.Nat.{add-mul-mod_self_left}
use Rattle.std.proofs.lemmas.Bool.Decides.{nat_tests}
use Rattle.delay.specs.Ring.{delayed}
use Rattle.delay.specs.Sizes.{interleaved_place}
use Rattle.delay.specs.Laws.{LeavesAt, ReturnsAt, PlainSumAt, TelevisionPlaceAt, TelevisionWayAt}

-- A product in another order.
turned : (s b m : ℕ) → s * b * m ≡ b * (s * m)
turned s b m = ap (λ (k : ℕ). k * m) (mul_comm s b) ∙ mul_assoc b s m

-- An element leaves at its interleaved place.
pub leaves_law : (X : Type 0) (z : X) → LeavesAt X z
unfolding delayed
leaves_law X z b s h i p =
    let u : ℕ = interleaved_place b s i in
    let e = turned s b (i % b) in
    let t : u % b ≡ i % b = ap (λ (k : ℕ). (i + k) % b) e ∙ add-mul-mod_self_left i b (s * (i % b)) in
    let f : b * (s * (u % b)) ≡ b * (s * (i % b)) = ap (λ (k : ℕ). b * (s * k)) t in
    grind (arith, nat_tests)

-- The deinterleaver after the interleaver.
pub returns_law : (X : Type 0) (z : X) → ReturnsAt X z
unfolding delayed
returns_law X z b s h out p outs i l =
    let r = mod-lt i p in
    let back : ℕ = b * (s * (b - 1 - i % b)) in
    let there : ℕ = b * (s * (i % b)) in
    let e : b - 1 ≡ (b - 1 - i % b) + i % b = omega arith in
    let f : s * (b - 1) ≡ s * (b - 1 - i % b) + s * (i % b) = ap (λ (k : ℕ). s * k) e ∙ mul-add s (b - 1 - i % b) (i % b) in
    let g : b * (s * (b - 1)) ≡ back + there = ap (λ (k : ℕ). b * k) f ∙ mul-add b (s * (b - 1 - i % b)) (s * (i % b)) in
    let w : s * b * (b - 1) ≡ back + there = turned s b (b - 1) ∙ g in
    let o = one-mul (s * b * (b - 1)) in
    let j : ℕ = i - back in
    let t : (j + back) % b ≡ j % b = add-mul-mod_self_left j b (s * (b - 1 - i % b)) in
    let v = outs j in
    grind (arith, nat_tests)

-- Two plain delays.
pub sum_law : (X : Type 0) (z : X) → PlainSumAt X z
unfolding delayed
sum_law X z m n h out outs i l = let a = one-mul m in let b = one-mul n in let c = one-mul (m + n) in let o = outs (i - n) in grind (arith, nat_tests)

-- Television's places.
pub place_law : (X : Type 0) (z : X) → TelevisionPlaceAt X z
unfolding delayed
place_law X z h u = let e : 52 * (4 * (u % 52)) ≡ 208 * (u % 52) = omega arith in rw e

-- Television's whole way.
pub way_law : (X : Type 0) (z : X) → TelevisionWayAt X z
way_law X z h sent back sends backs short i l =
    sum_law X z 10608 156 h back (λ k q. backs k q ∙ returns_law X z 52 4 h sent (omega arith) sends k (omega arith)) i l
