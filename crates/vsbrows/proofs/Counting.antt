-- Counting the packets that are coded to their recorded rows.
use Rattle.std.proofs.Common.{◌≡◌, ℕ, zero, suc, ◌+◌, ◌*◌, ◌/◌, min, cond, List, length, drop, count_by, ap, ◌∙◌, sym, refl, add-one, zero-add, arith}
use Rattle.std.specs.List.{enumerate_from, zip}
use Rattle.std.specs.Simd.{first_chunks}
use Rattle.std.proofs.lemmas.List.{drop-drop}
use Rattle.std.proofs.lemmas.List.Sums.{sum_by-cons}
use Rattle.vsbrows.specs.Compared.{agrees, agreeing, coded_to, compared, part}

-- one packet more
next_agrees : (packets rows : List ℕ) (s : ℕ) → agreeing packets rows (s + 1) ≡ cond (agrees packets rows s) 1 0 + agreeing packets rows s
unfolding agreeing
next_agrees packets rows s = rw add-one refl

-- how many of the packets from number s on are coded to the rows from there on
coded_from : List ℕ → List ℕ → ℕ → ℕ → ℕ → ℕ
coded_from packets rows s k m = count_by coded_to (enumerate_from s (zip (first_chunks 188 k packets) (first_chunks 207 m rows)))

-- packet s, and those after it
next_coded : (packets rows : List ℕ) (s k m : ℕ)
    → coded_from (drop (188 * s) packets) (drop (207 * s) rows) s (suc k) (suc m)
    ≡ cond (agrees packets rows s) 1 0 + coded_from (drop (188 * (s + 1)) packets) (drop (207 * (s + 1)) rows) (s + 1) k m
unfolding coded_from
next_coded packets rows s k m =
    let p : 188 * (s + 1) ≡ 188 * s + 188 = omega arith in
    let q : 207 * (s + 1) ≡ 207 * s + 207 = omega arith in
    rw (p, q, ← drop-drop 188 (188 * s) packets, ← drop-drop 207 (207 * s) rows)
    (sum_by-cons (λ (y : ℕ × (List ℕ × List ℕ)). cond (coded_to y) 1 0) (s, (part 188 packets s, part 207 rows s))
    (enumerate_from (s + 1) (zip (first_chunks 188 k (drop 188 (drop (188 * s) packets))) (first_chunks 207 m (drop 207 (drop (207 * s) rows))))))

none_coded : (packets rows : List ℕ) (s k m : ℕ) → min k m ≡ 0 → coded_from packets rows s k m ≡ 0
unfolding coded_from
none_coded packets rows s zero m h = refl
none_coded packets rows s (suc k) zero h = refl
none_coded packets rows s (suc k) (suc m) h = absurd (omega arith)

counted_from : (packets rows : List ℕ) (k m s : ℕ) → agreeing packets rows s + coded_from (drop (188 * s) packets) (drop (207 * s) rows) s k m ≡ agreeing packets rows (s + min k m)
counted_from packets rows zero m s =
    let e : s + min 0 m ≡ s = omega arith in
    rw e (omega (arith, none_coded (drop (188 * s) packets) (drop (207 * s) rows) s 0 m (omega arith)))
counted_from packets rows (suc k) zero s =
    let e : s + min (suc k) 0 ≡ s = omega arith in
    rw e (omega (arith, none_coded (drop (188 * s) packets) (drop (207 * s) rows) s (suc k) 0 (omega arith)))
counted_from packets rows (suc k) (suc m) s =
    let e : s + min (suc k) (suc m) ≡ s + 1 + min k m = omega arith in
    let h = counted_from packets rows k m (s + 1) in
    rw e (omega (arith, next_coded packets rows s k m, next_agrees packets rows s))

-- the packets and rows that are cut off whole
pub counted : (packets rows : List ℕ) (ps rs : List (List ℕ)) → ps ≡ first_chunks 188 (length packets / 188) packets → rs ≡ first_chunks 207 (length rows / 207) rows
    → count_by coded_to (enumerate_from 0 (zip ps rs)) ≡ agreeing packets rows (compared packets rows)
unfolding coded_from agreeing
counted packets rows ps rs e f =
    rw (e, f) (sym (zero-add _) ∙ counted_from packets rows (length packets / 188) (length rows / 207) 0 ∙ ap (agreeing packets rows) (zero-add _))
