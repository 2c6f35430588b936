-- The slots from one on: how many they are, one more at the end, and all but the first.
use Rattle.std.proofs.Common.{◌≡◌, ℕ, zero, suc, ◌+◌, ◌-◌, ◌^◌, ◌<◌, ◌≤◌, [], ◌∷◌, ◌++◌, length, sym, refl, ap, ◌∙◌, subst, add-one, arith, length-append}
use Rattle.std.specs.List.{All}
use Rattle.std.proofs.lemmas.List.Elements.{All-nil, All-push}
use Rattle.line.specs.Slots.{SlotPut, SlotTaken, following, from_slot}

-- how many slots
pub from_slot_length : (room h n : ℕ) → length (from_slot room h n) ≡ n
from_slot_length room h zero = refl
from_slot_length room h (suc n) = length-append (from_slot room h n) (following room (h + n) ∷ []) ∙ (let e = from_slot_length room h n in omega arith)

apart : (room h k n : ℕ) → h < room → n < room → k < n → following room (h + k) ≡ following room (h + n) → ⊥
apart room h k n a b c e = grind arith

inside : (room h n : ℕ) → h < room → n < room → following room (h + n) < room
inside room h n a b = grind arith

-- what holds of each slot of the first n
each_slot : (P : ℕ → Type 0) (room h n : ℕ) → ((k : ℕ) → k < n → P (following room (h + k))) → All P (from_slot room h n)
each_slot P room h zero f = All-nil P
each_slot P room h (suc n) f = All-push P (from_slot room h n) (following room (h + n)) (each_slot P room h n (λ k l. f k (omega arith))) (f n (omega arith))

-- the next slot is none of those before it
pub next_is_free : (room h n : ℕ) → h < room → n < room → All (λ j. j ≡ following room (h + n) → ⊥) (from_slot room h n)
next_is_free room h n a b = each_slot (λ j. j ≡ following room (h + n) → ⊥) room h n (λ k l. apart room h k n a b l)

-- every slot lies in the memory
pub slots_inside : (room h n : ℕ) → h < room → n ≤ room → All (λ j. j < room) (from_slot room h n)
slots_inside room h n a b = each_slot (λ j. j < room) room h n (λ k l. inside room h k a (omega arith))

next : (room h n : ℕ) → h < room → n < room → following room (h + suc n) ≡ following room (following room (h + 1) + n)
next room h n a b = grind arith

none : (room h : ℕ) → h < room → following room (h + 0) ≡ h
none room h a = grind arith

first_more : (room h n : ℕ) → h < room → n < room → from_slot room h (suc n) ≡ h ∷ from_slot room (following room (h + 1)) n
first_more room h zero a b = ap (λ i. i ∷ []) (none room h a)
first_more room h (suc n) a b =
    ap (λ ks. ks ++ following room (h + suc n) ∷ []) (first_more room h n a (omega arith)) ∙
    ap (λ i. h ∷ (from_slot room (following room (h + 1)) n ++ i ∷ [])) (next room h n a (omega arith))

-- the first slot and the others
pub first_slot : (room h n : ℕ) → h < room → n ≤ room → (n ≡ 0 → ⊥) → from_slot room h n ≡ h ∷ from_slot room (following room (h + 1)) (n - 1)
first_slot room h n a b ne =
    let one : n ≡ suc (n - 1) = omega (arith, ne) in
    ap (from_slot room h) one ∙ first_more room h (n - 1) a (omega (arith, ne))

-- one more slot
pub one_more_slot : (room h n : ℕ) → from_slot room h (n + 1) ≡ from_slot room h n ++ following room (h + n) ∷ []
one_more_slot room h n = ap (from_slot room h) (add-one n)

-- the next slot of a ring with room is taken
pub slot_put : (room h n number k : ℕ) → h < room → n < room → number < 2 ^ 40 → k ≡ following room (h + n) → SlotPut (record { room = room; taken = from_slot room h n; number = number }) k (record { room = room; taken = from_slot room h (n + 1); number = number + 1 })
slot_put room h n number k a b c e =
    let l = from_slot_length room h n in
    record {
      accepted = grind arith;
      inside = let i = inside room h n a b in omega arith;
      free = subst (λ (x : ℕ). All (λ j. j ≡ x → ⊥) (from_slot room h n)) (sym e) (next_is_free room h n a b);
      after = let m = one_more_slot room h n in cc;
    }

-- the first slot of a ring is given back
pub slot_taken : (room h n number k : ℕ) → h < room → n ≤ room → (n ≡ 0 → ⊥) → k ≡ following room (h + 1) → SlotTaken (record { room = room; taken = from_slot room h n; number = number }) h (record { room = room; taken = from_slot room k (n - 1); number = number })
slot_taken room h n number k a b ne e =
    let l = from_slot_length room h n in
    record {
      accepted = grind (arith, ne);
      inside = a;
      oldest = first_slot room h n a b ne ∙ ap (λ x. h ∷ from_slot room x (n - 1)) (sym e);
      room_stays = refl;
      number_stays = refl;
    }
