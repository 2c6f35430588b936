-- Bursts: which places they cover, what they do to symbols, and which lists of them are bad.
use Rattle.std.specs.Prelude.{ℕ, ◌+◌, ◌-◌, ◌*◌, ◌^◌, Bool, true, false, cond, List, [], ◌∷◌, length, ℤ, neg_ℤ, Some, None, Option, ◌==◌, nat_le, nat_lt}
use Rattle.bursts.specs.declared.Burst.{Burst}

-- whether i lies from `from` up to, and not including, `to`
abbrev pub in_part : ℕ → ℕ → ℕ → Bool
in_part from to i = cond (nat_le from i) (nat_lt i to) false

-- whether a place lies in a burst
abbrev pub in_burst : Burst → ℕ → Bool
in_burst b p = cond (nat_le b.offset p) (nat_lt (p - b.offset) b.length) false

-- whether a place lies in one of the bursts
abbrev pub in_bursts : List Burst → ℕ → Bool
in_bursts [] p = false
in_bursts (b ∷ bs) p = cond (in_burst b p) true (in_bursts bs p)

-- the symbols from place p on, with those in the bursts negated
abbrev pub altered : List Burst → ℕ → List ℤ → List ℤ
altered bs p [] = []
altered bs p (x ∷ xs) = cond (in_bursts bs p) (neg_ℤ x) x ∷ altered bs (p + 1) xs

-- whether a burst may not follow one that ends at e: it is empty, begins before e, or ends behind the last place
abbrev pub is_bad_after : ℕ → Burst → Bool
is_bad_after e b = cond (b.length == 0) true (cond (nat_lt b.offset e) true (nat_lt (832 * 2 ^ 40) (b.offset + b.length)))

-- the number of the first bad one of the bursts from number i on, after one that ends at e
abbrev pub first_bad_after : ℕ → ℕ → List Burst → Option ℕ
first_bad_after e i [] = None
first_bad_after e i (b ∷ bs) = cond (is_bad_after e b) (Some i) (first_bad_after (b.offset + b.length) (i + 1) bs)

-- the number of the first bad pair of a list, and 16 where there are more than 16
abbrev pub bad_pair : List Burst → Option ℕ
bad_pair bs = cond (nat_lt 16 (length bs)) (Some 16) (first_bad_after 0 0 bs)
