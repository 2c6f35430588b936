-- The tables of PN511 and PN63 hold the sequences, and the sequences follow their recurrences.
use Rattle.std.proofs.Common.{◌≡◌, ℕ, zero, suc, ◌+◌, ◌%◌, ◌<◌, Bool, T, eqb, List, length, take, drop, ℤ, pos, refl, ap, ◌∙◌, add-zero, add-suc, zero-add, arith, eqb→eq}
use lib.Signed.{lt_z}
use Rattle.std.proofs.lemmas.List.{get_or-take, get_or-drop}
use Rattle.level.specs.Level.{bit}
use Rattle.std.proofs.lemmas.Bool.Decides.{nat_tests}
use Rattle.tables.proofs.All.{below}
use Rattle.tables.proofs.Entries.{image, images}
use Rattle.segments.specs.Segment.{differ}
use Rattle.segments.specs.Report.{sign_at, digit_bit, count, differing}
use Rattle.segments.proofs.Numbers.{count_same}
use Rattle.segments.specs.Pn.{odd, next511, next63, window511, window63, pn511, pn63, Recurrences}

-- the lowest bit of a number, as the digit 0 or 1
abbrev digit : ℕ → ℕ
digit w = 48 + w % 2

-- the digit 1 stands for bit one
digit_odd : (w : ℕ) → eqb (digit w) 49 ≡ odd w
digit_odd w = grind (arith, nat_tests)

-- an entry of a table of digits whose windows g makes, one from the other
entry : (f g : ℕ → ℕ) → ((k : ℕ) → f (suc k) ≡ g (f k)) → (n k : ℕ) → k < n → digit_bit (images digit g (f 0) n) k ≡ odd (f k)
entry f g next n k h = ap (λ (b : ℕ). eqb b 49) (image digit 0 f g next n 0 k h ∙ ap (λ (m : ℕ). digit (f m)) (zero-add k)) ∙ digit_odd (f k)

-- the tables of PN511 and PN63
abbrev pub digits511 : List ℕ
digits511 = images digit next511 128 511

abbrev pub digits63 : List ℕ
digits63 = images digit next63 39 63

pub entry511 : (k : ℕ) → k < 511 → digit_bit digits511 k ≡ pn511 k
unfolding window511
entry511 = entry window511 next511 (λ k. refl) 511

pub entry63 : (k : ℕ) → k < 63 → digit_bit digits63 k ≡ pn63 k
unfolding window63
entry63 = entry window63 next63 (λ k. refl) 63

-- counting by a table in a part of levels
pub counted : (digits : List ℕ) (bits : ℕ → Bool) (n : ℕ) → ((k : ℕ) → k < n → digit_bit digits k ≡ bits k) → (levels : List ℤ) (from : ℕ) (part : List ℤ) → length part ≡ n → part ≡ take n (drop from levels)
    → count (λ k. differ (sign_at part k) (digit_bit digits k)) (length part) ≡ differing bits levels from n
counted digits bits n same levels from part l e =
    let f : (k : ℕ) → k < n → sign_at part k ≡ sign_at levels (from + k) = λ k h. rw e (ap (lt_z (pos 0)) (get_or-take n (drop from levels) k (pos 0) h ∙ get_or-drop from levels k (pos 0))) in
    rw l
    (count_same (λ k. differ (sign_at part k) (digit_bit digits k)) (λ k. differ (sign_at levels (from + k)) (bits k)) n
    (λ k h. rw (f k h, same k h) refl))

-- k steps of g from w
unfoldable steps : (ℕ → ℕ) → ℕ → ℕ → ℕ
steps g zero w = w
steps g (suc k) w = g (steps g k w)

-- a sequence that g makes, k places on
on : (f g : ℕ → ℕ) → ((k : ℕ) → f (suc k) ≡ g (f k)) → (n k : ℕ) → f (n + k) ≡ steps g k (f n)
unfolding steps
on f g s n zero = ap f (add-zero n)
on f g s n (suc k) = ap f (add-suc n k) ∙ (s (n + k) ∙ ap g (on f g s n k))

-- the recurrence of PN511 at a window
abbrev holds511 : ℕ → Bool
holds511 w =
    eqb (bit (odd (steps next511 9 w)))
    ((bit (odd (steps next511 7 w)) + bit (odd (steps next511 6 w)) + bit (odd (steps next511 4 w)) + bit (odd (steps next511 3 w)) + bit (odd (steps next511 1 w)) + bit (odd w)) % 2)

-- the recurrence of PN63 at a window
abbrev holds63 : ℕ → Bool
holds63 w = eqb (bit (odd (steps next63 6 w))) ((bit (odd (steps next63 1 w)) + bit (odd w)) % 2)

-- the recurrence of PN511 holds at every window
every511 : (w : ℕ) → w < 512 → T (holds511 w)
unfolding steps
every511 w h = below holds511 512 tt w h

-- the recurrence of PN63 holds at every window
every63 : (w : ℕ) → w < 64 → T (holds63 w)
unfolding steps
every63 w h = below holds63 64 tt w h

-- a window of PN511 has nine bits
low511 : (n : ℕ) → window511 n < 512
unfolding window511
low511 zero = omega arith
low511 (suc n) = let h = low511 n in omega arith

-- a window of PN63 has six bits
low63 : (n : ℕ) → window63 n < 64
unfolding window63
low63 zero = omega arith
low63 (suc n) = let h = low63 n in omega arith

-- the next window of PN511
next_is511 : (k : ℕ) → window511 (suc k) ≡ next511 (window511 k)
unfolding window511
next_is511 k = refl

-- the next window of PN63
next_is63 : (k : ℕ) → window63 (suc k) ≡ next63 (window63 k)
unfolding window63
next_is63 k = refl

-- how PN511 goes on
goes_on511 : (n : ℕ) → bit (pn511 (n + 9)) ≡ (bit (pn511 (n + 7)) + bit (pn511 (n + 6)) + bit (pn511 (n + 4)) + bit (pn511 (n + 3)) + bit (pn511 (n + 1)) + bit (pn511 n)) % 2
goes_on511 n =
    let w = on window511 next511 next_is511 n in
    rw (w 9, w 7, w 6, w 4, w 3, w 1) (eqb→eq _ _ (every511 (window511 n) (low511 n)))

-- how PN63 goes on
goes_on63 : (n : ℕ) → bit (pn63 (n + 6)) ≡ (bit (pn63 (n + 1)) + bit (pn63 n)) % 2
goes_on63 n = let w = on window63 next63 next_is63 n in rw (w 6, w 1) (eqb→eq _ _ (every63 (window63 n) (low63 n)))

-- both sequences follow their recurrences
pub recurrences : Recurrences
unfolding window511 window63
recurrences = record { pn511_starts = refl; pn511_goes_on = goes_on511; pn63_starts = refl; pn63_goes_on = goes_on63 }
