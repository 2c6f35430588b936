-- A field sync that is received as it was sent tells what it was made of.
use Rattle.std.proofs.Common.{◌≡◌, ℕ, ◌+◌, ◌-◌, ◌*◌, ◌/◌, ◌%◌, ◌^◌, ◌<◌, Bool, true, false, cond, ltb, List, ◌++◌, map, get_or, ℤ, pos, sym, refl, ap, ◌∙◌, inl, inr, zero-add, arith, rules}
use lib.Signed.{lt_z}
use Rattle.std.specs.List.{range_with_len}
use Rattle.std.proofs.lemmas.List.{get_or_append_left}
use Rattle.std.proofs.lemmas.List.FromFn.{get_or-map-range_with_len, length-map-range_with_len, fill_by_all}
use Rattle.std.proofs.lemmas.List.Elements.{All-get_or}
use Rattle.std.proofs.lemmas.Bool.{lt-ltb, le-ltb, cond-false, cases_lt, cases_eq}
use Rattle.level.specs.Level.{bit}
use Rattle.segments.specs.declared.FieldReport.{FieldReport}
use Rattle.segments.specs.Pn.{odd, pn511, pn63}
use Rattle.segments.specs.Segment.{differ, bit_level, field_bit, field_head, copied_level, field_sync}
use Rattle.segments.specs.Report.{sign_at, report_of, received_bit, received_byte, received_sync}
use Rattle.segments.specs.Laws.{SyncData, ReadBack}
use Rattle.segments.proofs.Bits.{in_pn511, in_second, in_data}
use Rattle.segments.proofs.Numbers.{count_always, number_same, byte_back, half_back}

-- the bit that a level was made of
level_sign : (b : Bool) → lt_z (pos 0) (bit_level b) ≡ b
level_sign true = refl
level_sign false = refl

-- no bit differs from itself
differ_self : (b : Bool) → differ b b ≡ false
differ_self true = refl
differ_self false = refl

-- a bit that is inverted where a is one differs from itself as a says
differ_twice : (a b : Bool) → differ (differ a b) b ≡ a
differ_twice true true = refl
differ_twice true false = refl
differ_twice false true = refl
differ_twice false false = refl

-- the report where all 63 signs differ, or none
told : (second : Bool) → ◌≡◌ {A = FieldReport} (record { inverted = ltb 31 (63 * bit second); wrong = 511 * bit false }) (record { inverted = second; wrong = 0 })
told true = refl
told false = refl

-- a symbol of a list that is made of its positions
made_of : (f : ℕ → ℤ) (n : ℕ) (ys : List ℤ) (p : ℕ) → p < n → get_or (map f (range_with_len 0 n) ++ ys) p (pos 0) ≡ f p
made_of f n ys p h = get_or_append_left (map f (range_with_len 0 n)) ys (pos 0) p (rw length-map-range_with_len h) ∙ get_or-map-range_with_len f 0 n p p (pos 0) h (zero-add p)

module _ (sync : List ℕ) (second : Bool) (twelve : List ℤ) where
  -- the bit at a position comes back
  sign_back : (p : ℕ) → p < 820 → sign_at (field_sync sync second twelve) p ≡ field_bit sync second p
  unfolding field_head
  sign_back p h =
      ap (lt_z (pos 0)) (made_of (λ p. bit_level (field_bit sync second p)) 820 (map copied_level twelve) p h) ∙ level_sign (field_bit sync second p)

  -- no sign of PN511 differs
  pn511_back : (k : ℕ) → k < 511 → differ (sign_at (field_sync sync second twelve) (4 + k)) (pn511 k) ≡ false
  pn511_back k h =
      let e : sign_at (field_sync sync second twelve) (4 + k) ≡ pn511 k = sign_back (4 + k) (omega arith) ∙ (in_pn511 sync second (4 + k) (omega arith) (omega arith) ∙ ap pn511 (omega arith)) in
      ap (λ (b : Bool). differ b (pn511 k)) e ∙ differ_self (pn511 k)

  -- every sign of the PN63 in the middle differs in the second field
  pn63_back : (k : ℕ) → k < 63 → differ (sign_at (field_sync sync second twelve) (578 + k)) (pn63 k) ≡ second
  pn63_back k h =
      let e : sign_at (field_sync sync second twelve) (578 + k) ≡ differ second (pn63 k) =
      sign_back (578 + k) (omega arith) ∙ (in_second sync second (578 + k) (omega arith) (omega arith) ∙ ap (λ (n : ℕ). differ second (pn63 n)) (omega arith)) in
      ap (λ (b : Bool). differ b (pn63 k)) e ∙ differ_twice second (pn63 k)

  -- the report tells the field, and no wrong sign
  report_back : report_of (field_sync sync second twelve) ≡ record { inverted = second; wrong = 0 }
  report_back =
      let i = count_always (λ k. differ (sign_at (field_sync sync second twelve) (578 + k)) (pn63 k)) second 63 pn63_back in
      let w = count_always (λ k. differ (sign_at (field_sync sync second twelve) (4 + k)) (pn511 k)) false 511 pn511_back in
      rw (i, w) (told second)

  -- a bit of the sync data comes back
  bit_back : (n k : ℕ) → k < 8 → 8 * n + k < 116 → received_bit (field_sync sync second twelve) (8 * n + k) ≡ odd (get_or sync n 0 / 2 ^ (7 - k))
  bit_back n k h l =
      let q : (704 + (8 * n + k) - 704) / 8 ≡ n = search rules in
      let r : (704 + (8 * n + k) - 704) % 8 ≡ k = search rules in
      let e : sign_at (field_sync sync second twelve) (704 + (8 * n + k)) ≡ odd (get_or sync n 0 / 2 ^ (7 - k)) =
      sign_back (704 + (8 * n + k)) (omega arith) ∙ (in_data sync second (704 + (8 * n + k)) (omega arith) ∙ rw (q, r) refl) in
      rw (lt-ltb (8 * n + k) 116 l) e

  -- a byte before the last comes back
  byte_returns : (n : ℕ) → n < 14 → get_or sync n 0 < 256 → received_byte (field_sync sync second twelve) n ≡ get_or sync n 0
  byte_returns n h small =
      number_same (λ k. received_bit (field_sync sync second twelve) (8 * n + k)) (λ k. odd (get_or sync n 0 / 2 ^ (7 - k))) 8 (λ k l. bit_back n k l (omega arith))
      ∙ byte_back (get_or sync n 0) small

  -- a bit of the last byte comes back, or is zero
  last_bit : (k : ℕ) → k < 8 → received_bit (field_sync sync second twelve) (8 * 14 + k) ≡ cond (ltb k 4) (odd (get_or sync 14 0 / 2 ^ (7 - k))) false
  last_bit k h =
      elim (cases_lt k 4) [
        | inl l ↦ rw (lt-ltb k 4 l) (bit_back 14 k h (omega arith))
        | inr l ↦ rw (le-ltb k 4 l) (cond-false _ _ _ (le-ltb (8 * 14 + k) 116 (omega arith)))
      ]

  -- the last byte comes back
  last_returns : get_or sync 14 0 < 256 → get_or sync 14 0 % 16 ≡ 0 → received_byte (field_sync sync second twelve) 14 ≡ get_or sync 14 0
  last_returns small tail =
      number_same (λ k. received_bit (field_sync sync second twelve) (8 * 14 + k)) (λ k. cond (ltb k 4) (odd (get_or sync 14 0 / 2 ^ (7 - k))) false) 8 last_bit
      ∙ (half_back (get_or sync 14 0) small ∙ omega arith)

  -- every byte of accepted sync data comes back
  byte_comes : SyncData sync → (n : ℕ) → n < 15 → get_or sync n 0 ≡ received_byte (field_sync sync second twelve) n
  byte_comes d n h =
      let small : (k : ℕ) → k < 15 → get_or sync k 0 < 256 = λ k l. All-get_or (λ b. b < 256) sync k 0 (omega (arith, d.fifteen)) d.bytes in
      elim (cases_eq n 14) [
        | inl e ↦ rw e (sym (last_returns (small 14 (omega arith)) d.tail))
        | inr e ↦ sym (byte_returns n (omega arith) (small n h))
      ]

  -- the sync data comes back
  sync_back : SyncData sync → received_sync (field_sync sync second twelve) ≡ sync
  unfolding received_sync
  sync_back d =
      sym (fill_by_all (received_byte (field_sync sync second twelve)) sync 15 0 d.fifteen (byte_comes d))

-- a field sync tells what it was made of
pub read_back : ReadBack
read_back = record { report = report_back; sync_data = sync_back }
