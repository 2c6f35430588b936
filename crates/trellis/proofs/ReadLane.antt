-- One symbol more of a lane that is read.
use Rattle.std.proofs.Common.{◌≡◌, ℕ, zero, suc, ◌+◌, ◌-◌, ◌*◌, ◌/◌, ◌%◌, ◌<◌, ◌≤◌, min, Bool, true, false, ◌||◌, eqb, leb, ◌≢◌, List, length, get_or, set, ℤ, pos, sym, refl, ap, ◌∙◌, subst, ⊎_elim, add-zero, zero-add, add-one, arith, rules}
use native.Mathlib.Nat.{min-eq_left, min-eq_right}
use Rattle.std.proofs.lemmas.List.{get_or-set_same, get_or-set_other}
use Rattle.std.proofs.lemmas.Bool.{cases_eq, ne_eqb}
use Rattle.level.specs.declared.Bits.{Bits}
use Rattle.level.specs.Level.{bit, bits_of}
use Rattle.trellis.specs.declared.reading.Marked.{Marked}
use Rattle.trellis.specs.declared.reading.Memory.{Memory}
use Rattle.trellis.specs.declared.reading.Pair.{Pair}
use Rattle.trellis.specs.Places.{byte_of, byte_encoder}
use Rattle.trellis.specs.Sent.{xor}
use Rattle.trellis.specs.Received.{bits_at, last_z2, pair_at, doubted, pairs_of, doubts_of}
use Rattle.trellis.specs.Writer.{lane_encoder, lane_byte}
use Rattle.trellis.specs.Reader.{noted, pair_of, memory_before, blank, joined, part_of, SegmentOf, LaneHeld, undoubted_in, LaneRead, ReadsLane, PairRead}
use Rattle.trellis.proofs.Numbers.{place_law, lane_byte_is, lane_byte_encoder, lane_byte_below, lane_byte_row, lane_group_is, lane_symbol, row_byte}

-- the memory a group on
memory_on : (levels : ℕ → ℤ) (e q : ℕ) → memory_before levels e (q + 1) ≡ noted (memory_before levels e q) (bits_at levels e q)
unfolding memory_before
memory_on levels e q = rw add-one

-- the pair of group q
abbrev pair_there : (ℕ → ℤ) → ℕ → ℕ → Pair
pair_there levels e q = record { number = pair_at levels e q; doubted = doubted levels e q }

pair_right : (levels : ℕ → ℤ) (e q : ℕ) → pair_of (memory_before levels e q) (bits_at levels e q) (leb 2 q) ≡ pair_there levels e q
unfolding pair_at doubted last_z2 memory_before
pair_right levels e zero = refl
pair_right levels e (suc zero) = refl
pair_right levels e (suc (suc q)) = let h : leb 2 (suc (suc q)) ≡ true = search rules in rw h

-- doubts are asked for from group 2 on
asked_right : (n undoubted g : ℕ) → undoubted ≡ undoubted_in n → leb undoubted g ≡ leb 2 (69 * n + g)
asked_right zero undoubted g h = rw h (ap (leb 2) (sym (zero-add g)))
asked_right (suc n) undoubted g h = rw h (search rules)

pair_small : (levels : ℕ → ℤ) (e q : ℕ) → pair_at levels e q < 4
unfolding pair_at
pair_small levels e q = small (xor (bits_at levels e q).z2 (last_z2 levels e q)) (bits_at levels e q).z1
  where
    small : (a b : Bool) → 2 * bit a + bit b < 4
    small true true = omega arith
    small true false = omega arith
    small false true = omega arith
    small false false = omega arith

-- three pairs make less than 64
pairs_small : (levels : ℕ → ℤ) (u c : ℕ) → c < 4 → pairs_of levels u c < 64
unfolding pairs_of
pairs_small levels u zero l = omega arith
pairs_small levels u (suc zero) l = omega (arith, pair_small levels (byte_encoder u) (4 * (u / 12) + 0))
pairs_small levels u (suc (suc zero)) l = omega (arith, pair_small levels (byte_encoder u) (4 * (u / 12) + 0), pair_small levels (byte_encoder u) (4 * (u / 12) + 1))
pairs_small levels u (suc (suc (suc zero))) l =
    omega (arith, pair_small levels (byte_encoder u) (4 * (u / 12) + 0), pair_small levels (byte_encoder u) (4 * (u / 12) + 1), pair_small levels (byte_encoder u) (4 * (u / 12) + 2))
pairs_small levels u (suc (suc (suc (suc c)))) l = absurd (omega arith)

-- a pair more
pairs_on : (levels : ℕ → ℤ) (u c : ℕ) → pairs_of levels u (c + 1) ≡ 4 * pairs_of levels u c + pair_at levels (byte_encoder u) (4 * (u / 12) + c)
unfolding pairs_of
pairs_on levels u c = rw add-one

doubts_on : (levels : ℕ → ℤ) (u c : ℕ) → doubts_of levels u (c + 1) ≡ (doubts_of levels u c || doubted levels (byte_encoder u) (4 * (u / 12) + c))
unfolding doubts_of
doubts_on levels u c = rw add-one

-- the pair of group q makes part c of its byte part c + 1: the first, and a later one
part_first : (levels : ℕ → ℤ) (u e q group : ℕ) (old : Marked) → byte_encoder u ≡ e → 4 * (u / 12) + 0 ≡ q → group % 4 ≡ 0 → joined old group (pair_there levels e q) ≡ part_of levels u 1
unfolding pairs_of doubts_of
part_first levels u e q group old a b m = rw (m, a, b, zero-add)

part_later : (levels : ℕ → ℤ) (u e q c group : ℕ) (old : Marked) → byte_encoder u ≡ e → 4 * (u / 12) + c ≡ q → c < 4 → group % 4 ≡ c → c ≢ 0 → old ≡ part_of levels u c
    → joined old group (pair_there levels e q) ≡ part_of levels u (c + 1)
part_later levels u e q c group old a b l m ne o =
    let s = pairs_small levels u c l in
    let z : pairs_of levels u c % 64 * 4 ≡ 4 * pairs_of levels u c = omega arith in
    let k : eqb (group % 4) 0 ≡ false = ne_eqb (group % 4) 0 (λ w. ne (sym m ∙ w)) in
    let p = pairs_on levels u c in
    let d = doubts_on levels u c in
    rw (k, o, p, d, a, b, z)

part_more : (levels : ℕ → ℤ) (u e q c group : ℕ) (old : Marked) → byte_encoder u ≡ e → 4 * (u / 12) + c ≡ q → c < 4 → group % 4 ≡ c
    → (c ≢ 0 → old ≡ part_of levels u c) → joined old group (pair_there levels e q) ≡ part_of levels u (c + 1)
part_more levels u e q zero group old a b l m h = part_first levels u e q group old a b m
part_more levels u e q (suc c) group old a b l m h = let ne : suc c ≢ 0 = λ z. omega arith in part_later levels u e q (suc c) group old a b l m ne (h ne)

module _ (symbols : List ℤ) (first place undoubted : ℕ) (before : Memory) (old : List Marked) where
  pub read_none : ReadsLane symbols first place undoubted 0 before old old before
  read_none =
      record {
        others_stay = λ u h. refl;
        by_history = λ levels n f d s b held.
            record {
              memory_after = rw add-zero b;
              bytes_held = subst (λ (k : ℕ). LaneHeld levels (n / 4) (lane_encoder n place) k old) (sym (add-zero first)) held;
            };
      }

  module _ (g : ℕ) (quad : List Marked) (memory : Memory) (part : Marked) (pl : place < 12) (fl : first ≤ 207) (gl : g < 69) (len : length quad ≡ 828)
      (u : ℕ) (u_is : u ≡ lane_byte first place (first + g)) (pair : ℕ) (pair_is : pair ≡ (first + g) % 4) (bits : Bits) (bits_is : bits ≡ bits_of (get_or symbols (12 * g + place) (pos 0))) (asked : Bool) (Asked_is : asked ≡ leb undoubted g)
      (new : Marked) (after : Memory) (w : PairRead bits asked pair part new memory after) (kept : (first + g) % 4 ≢ 0 → part ≡ get_or quad u blank)
      (h : ReadsLane symbols first place undoubted g before old quad memory) where
    row : u / 12 ≡ (first + g) / 4
    row = rw u_is (lane_byte_row first place (first + g) pl)

    below : u < 828
    below = rw u_is (lane_byte_below first place (first + g) pl (omega arith))

    here : get_or (set quad u new) u blank ≡ new
    here = let b = below in let l : u < length quad = omega arith in get_or-set_same quad u new blank l

    module _ (levels : ℕ → ℤ) (n : ℕ) (f : first ≡ 69 * (n % 4)) (d : undoubted ≡ undoubted_in n) (s : SegmentOf levels n symbols) (b : before ≡ memory_before levels (lane_encoder n place) (69 * n))
        (held : LaneHeld levels (n / 4) (lane_encoder n place) first old) where
      sofar : LaneRead levels n first place g quad memory
      sofar = h.by_history levels n f d s b held

      bits_right : bits ≡ bits_at levels (lane_encoder n place) (69 * n + g)
      bits_right = bits_is ∙ ap bits_of (s (12 * g + place) (omega arith) ∙ ap levels (lane_symbol n place g pl gl))

      pair_is_there : pair_of memory (bits) asked ≡ pair_there levels (lane_encoder n place) (69 * n + g)
      pair_is_there =
          ap (λ (m : Memory). pair_of m (bits) asked) sofar.memory_after
          ∙ (ap (λ (x : Bits). pair_of (memory_before levels (lane_encoder n place) (69 * n + g)) x asked) bits_right
          ∙ (ap (λ (x : Bool). pair_of (memory_before levels (lane_encoder n place) (69 * n + g)) (bits_at levels (lane_encoder n place) (69 * n + g)) x) (Asked_is ∙ asked_right n undoubted g d)
          ∙ pair_right levels (lane_encoder n place) (69 * n + g)))

      byte_is : 828 * (n / 4) + u ≡ byte_of (lane_encoder n place) (69 * n + g)
      byte_is = rw u_is (lane_byte_is n first place g f pl gl)

      encoder_is : byte_encoder (828 * (n / 4) + u) ≡ lane_encoder n place
      encoder_is = rw u_is (lane_byte_encoder n first place g f pl gl)

      group_is : 4 * ((828 * (n / 4) + u) / 12) + (first + g) % 4 ≡ 69 * n + g
      group_is =
          let a : (828 * (n / 4) + u) / 12 ≡ (69 * n + g) / 4 = ap (λ (k : ℕ). k / 12) byte_is ∙ place_law.groups_of_a_byte (lane_encoder n place) (69 * n + g) in
          let c = lane_group_is n first g f in
          omega arith

      -- the part so far of the lane's byte
      part_is : (first + g) % 4 ≢ 0 → part ≡ part_of levels (828 * (n / 4) + u) ((first + g) % 4)
      part_is ne =
          let r = row in
          let m : min 4 (first + g - 4 * (u / 12)) ≡ (first + g) % 4 = let z : first + g - 4 * (u / 12) ≡ (first + g) % 4 = omega arith in rw z (min-eq_right (omega arith)) in
          kept ne ∙ (sofar.bytes_held u below encoder_is (omega arith) ∙ ap (part_of levels (828 * (n / 4) + u)) m)

      new_right : new ≡ part_of levels (828 * (n / 4) + u) ((first + g) % 4 + 1)
      new_right =
          w.byte_after
          ∙ (ap (joined part pair) pair_is_there
          ∙ part_more levels (828 * (n / 4) + u) (lane_encoder n place) (69 * n + g) ((first + g) % 4) pair part encoder_is group_is (omega arith) (omega arith) part_is)

      held_here : get_or (set quad u new) u blank ≡ part_of levels (828 * (n / 4) + u) (min 4 (first + (g + 1) - 4 * (u / 12)))
      held_here =
          let r = row in
          let z : first + (g + 1) - 4 * (u / 12) ≡ (first + g) % 4 + 1 = omega arith in
          let m : min 4 ((first + g) % 4 + 1) ≡ (first + g) % 4 + 1 = min-eq_right (omega arith) in
          rw (z, m) (here ∙ new_right)

      held_other : (v : ℕ) → v < 828 → byte_encoder (828 * (n / 4) + v) ≡ lane_encoder n place → 4 * (v / 12) < first + (g + 1) → v ≢ u → get_or (set quad u new) v blank ≡ part_of levels (828 * (n / 4) + v) (min 4 (first + (g + 1) - 4 * (v / 12)))
      held_other v l c m ne =
          let r = row in
          let o : v / 12 ≢ u / 12 = λ z. ne (row_byte (n / 4) v u (c ∙ sym encoder_is) z) in
          let k : v / 12 < (first + g) / 4 = omega arith in
          let a : min 4 (first + g - 4 * (v / 12)) ≡ 4 = min-eq_left (omega arith) in
          let x : min 4 (first + (g + 1) - 4 * (v / 12)) ≡ 4 = min-eq_left (omega arith) in
          get_or-set_other quad u v new blank ne ∙ (sofar.bytes_held v l c (omega arith) ∙ ap (part_of levels (828 * (n / 4) + v)) (a ∙ sym x))

      held_more : LaneHeld levels (n / 4) (lane_encoder n place) (first + (g + 1)) (set quad u new)
      held_more v l c m =
          ⊎_elim
          (λ (z : v ≡ u). subst (λ (k : ℕ). get_or (set quad u new) k blank ≡ part_of levels (828 * (n / 4) + k) (min 4 (first + (g + 1) - 4 * (k / 12)))) (sym z) held_here)
          (held_other v l c m)
          (cases_eq v u)

      history_more : LaneRead levels n first place (g + 1) (set quad u new) after
      history_more =
          let o = memory_on levels (lane_encoder n place) (69 * n + g) in
          let z : 69 * n + (g + 1) ≡ 69 * n + g + 1 = omega arith in
          record {
            memory_after = rw (z, o) (w.memory_after ∙ (ap (λ (m : Memory). noted m (bits)) sofar.memory_after ∙ ap (noted (memory_before levels (lane_encoder n place) (69 * n + g))) bits_right));
            bytes_held = held_more;
          }

    pub read_more : ReadsLane symbols first place undoubted (g + 1) before old (set quad u new) after
    read_more =
        record {
          others_stay = λ v ne. get_or-set_other quad u v new blank (λ z. ne g (omega arith) (z ∙ u_is)) ∙ h.others_stay v (λ j l. ne j (omega arith));
          by_history = history_more;
        }
