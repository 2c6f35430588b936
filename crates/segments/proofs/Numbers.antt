-- Counts and numbers made of bits.
use Rattle.std.proofs.Common.{◌≡◌, ℕ, zero, suc, ◌+◌, ◌-◌, ◌*◌, ◌/◌, ◌%◌, ◌^◌, ◌<◌, ◌≤◌, Bool, true, false, cond, ltb, bit_or, refl, ap, ◌∙◌, add-zero, add-one, arith, pow_mono}
use Rattle.std.specs.List.{fold, range_with_len}
use Rattle.tables.proofs.All.{agree}
use Rattle.level.specs.Level.{bit}
use Rattle.segments.specs.Pn.{odd}
use Rattle.segments.specs.Report.{count, number}

-- a bit is at most one
pub bit_small : (b : Bool) → bit b ≤ 1
bit_small true = omega arith
bit_small false = omega arith

-- tests with the same results
pub count_same : (f g : ℕ → Bool) (n : ℕ) → ((k : ℕ) → k < n → f k ≡ g k) → count f n ≡ count g n
unfolding count
count_same f g zero h = refl
count_same f g (suc n) h = let i = count_same f g n (λ k l. h k (omega arith)) in let e = h n (omega arith) in cc

-- a test with one result everywhere
pub count_always : (test : ℕ → Bool) (b : Bool) (n : ℕ) → ((k : ℕ) → k < n → test k ≡ b) → count test n ≡ n * bit b
unfolding count
count_always test b zero h = omega arith
count_always test b (suc n) h = let i = count_always test b n (λ k l. h k (omega arith)) in rw (h n (omega arith)) (omega arith)

-- a count is at most the number of tests
pub count_small : (test : ℕ → Bool) (n : ℕ) → count test n ≤ n
unfolding count
count_small test zero = omega arith
count_small test (suc n) = let h = count_small test n in let b = bit_small (test n) in omega arith

-- a number of n bits is below 2 to the n
number_small : (bits : ℕ → Bool) (n : ℕ) → number bits n < 2 ^ n
unfolding number
number_small bits zero = omega arith
number_small bits (suc n) = let h = number_small bits n in let b = bit_small (bits n) in omega arith

-- a number with one more bit, as a byte is shifted
abbrev pub pushed : (ℕ → Bool) → ℕ → ℕ → ℕ
pushed bits b k = bit_or (b * 2 ^ 1 % 2 ^ 8) (bit (bits k))

-- nothing is shifted out of a number of fewer than eight bits
pushed_is : (b : ℕ) (x : Bool) → b < 128 → bit_or (b * 2 ^ 1 % 2 ^ 8) (bit x) ≡ 2 * b + bit x
pushed_is b true h = agree (λ b. bit_or (b * 2 ^ 1 % 2 ^ 8) 1) (λ b. 2 * b + 1) 128 tt b h
pushed_is b false h = agree (λ b. bit_or (b * 2 ^ 1 % 2 ^ 8) 0) (λ b. 2 * b + 0) 128 tt b h

-- bits that are pushed in turn make their number
pushed_on : (bits : ℕ → Bool) (n k : ℕ) → k + n ≤ 8 → fold (pushed bits) (number bits k) (range_with_len k n) ≡ number bits (k + n)
unfolding number
pushed_on bits zero k h = rw add-zero refl
pushed_on bits (suc n) k h =
    let s = number_small bits k in
    let m = pow_mono {i = k} {j = 7} (omega arith) in
    let e : pushed bits (number bits k) k ≡ number bits (k + 1) = rw add-one (pushed_is (number bits k) (bits k) (omega arith)) in
    ap (λ (b : ℕ). fold (pushed bits) b (range_with_len (k + 1) n)) e ∙ (pushed_on bits n (k + 1) (omega arith) ∙ ap (number bits) (omega arith))

-- so do eight bits
pub number_of_pushed : (bits : ℕ → Bool) → fold (pushed bits) 0 (range_with_len 0 8) ≡ number bits 8
unfolding number
number_of_pushed bits = pushed_on bits 8 0 (omega arith)

-- numbers of the same bits
pub number_same : (f g : ℕ → Bool) (n : ℕ) → ((k : ℕ) → k < n → f k ≡ g k) → number f n ≡ number g n
unfolding number
number_same f g zero h = refl
number_same f g (suc n) h = let i = number_same f g n (λ k l. h k (omega arith)) in let e = h n (omega arith) in cc

-- a byte is the number of its bits
pub byte_back : (b : ℕ) → b < 256 → number (λ k. odd (b / 2 ^ (7 - k))) 8 ≡ b
unfolding number
byte_back b h = agree (λ b. number (λ k. odd (b / 2 ^ (7 - k))) 8) (λ b. b) 256 tt b h

-- the first four bits of a byte make it without its last four
pub half_back : (b : ℕ) → b < 256 → number (λ k. cond (ltb k 4) (odd (b / 2 ^ (7 - k))) false) 8 ≡ b - b % 16
unfolding number
half_back b h = agree (λ b. number (λ k. cond (ltb k 4) (odd (b / 2 ^ (7 - k))) false) 8) (λ b. b - b % 16) 256 tt b h
