-- Reading undoes writing, symbol by symbol and then byte by byte.
use Rattle.std.proofs.Common.{◌≡◌, ℕ, zero, suc, ◌+◌, ◌-◌, ◌*◌, ◌/◌, ◌%◌, ◌<◌, ◌≤◌, Bool, true, false, ℤ, refl, ap, ◌∙◌, arith}
use Rattle.tables.proofs.All.{agree}
use Rattle.level.specs.declared.Bits.{Bits}
use Rattle.level.specs.Level.{bit, bits_of}
use Rattle.level.proofs.Levels.{level_laws}
use Rattle.trellis.specs.Places.{symbol_of, byte_encoder}
use Rattle.trellis.specs.Sent.{xor, bit_of, sent_bits, x2_of, x1_of, encoder_before, group_level, data_level}
use Rattle.trellis.specs.Received.{bits_at, last_z2, pair_at, doubted, pairs_of, doubts_of, read_byte, read_mark}
use Rattle.trellis.specs.Laws.{AsSent, CameWith, ReadingLaws}
use Rattle.trellis.proofs.Numbers.{place_law}

xor_twice : (a b : Bool) → xor (xor a b) b ≡ a
xor_twice true true = refl
xor_twice true false = refl
xor_twice false true = refl
xor_twice false false = refl

xor_swapped : (a b : Bool) → xor (xor a b) (xor b a) ≡ false
xor_swapped true true = refl
xor_swapped true false = refl
xor_swapped false true = refl
xor_swapped false false = refl

-- the pair of bits 7 − 2 × g and 6 − 2 × g of a number
pair_in : ℕ → ℕ → ℕ
pair_in v g = 2 * bit (bit_of v (7 - 2 * g)) + bit (bit_of v (6 - 2 * g))

-- the four pairs of a byte make the byte
four_pairs : (v : ℕ) → v < 256 → 4 * (4 * (4 * (4 * 0 + pair_in v 0) + pair_in v 1) + pair_in v 2) + pair_in v 3 ≡ v
unfolding pair_in
four_pairs v l = agree (λ v. 4 * (4 * (4 * (4 * 0 + pair_in v 0) + pair_in v 1) + pair_in v 2) + pair_in v 3) (λ v. v) 256 tt v l

module _ (bytes : ℕ → ℕ) (levels : ℕ → ℤ) (e : ℕ) (small : e < 12) where
  -- the bits of a symbol that came as sent
  bits_come : (q : ℕ) → AsSent bytes levels (symbol_of e q) → bits_at levels e q ≡ sent_bits (encoder_before bytes e q) (x2_of bytes e q) (x1_of bytes e q)
  unfolding group_level
  bits_come q h =
      let a = place_law.encoder_comes_back e q small in
      let b = place_law.group_comes_back e q in
      ap bits_of (h ∙ rw (a, b)) ∙ level_laws.bits_come_back (sent_bits (encoder_before bytes e q) (x2_of bytes e q) (x1_of bytes e q))

  -- after a symbol that came as sent the reader has the encoder's y
  in_step : (q : ℕ) → ((p : ℕ) → p + 1 ≡ q → AsSent bytes levels (symbol_of e p)) → last_z2 levels e q ≡ (encoder_before bytes e q).y
  unfolding last_z2 encoder_before
  in_step zero h = refl
  in_step (suc q) h = ap (λ (t : Bits). t.z2) (bits_come q (h q (omega arith)))

  pair_comes : (q : ℕ) → ((p : ℕ) → p + 1 ≡ q → AsSent bytes levels (symbol_of e p)) → AsSent bytes levels (symbol_of e q) → pair_at levels e q ≡ 2 * bit (x2_of bytes e q) + bit (x1_of bytes e q)
  unfolding pair_at
  pair_comes q h w =
      let t = bits_come q w in
      let s = in_step q h in
      let z = xor_twice (x2_of bytes e q) (encoder_before bytes e q).y in
      ap (λ (t : Bits). 2 * bit (xor t.z2 (last_z2 levels e q)) + bit t.z1) t ∙ rw (s, z)

  -- three symbols in turn that came as sent keep the rule of Z0
  no_doubt : (q : ℕ) → ((p : ℕ) → q ≤ p + 2 → p ≤ q → AsSent bytes levels (symbol_of e p)) → doubted levels e q ≡ false
  unfolding doubted encoder_before
  no_doubt zero h = refl
  no_doubt (suc zero) h = refl
  no_doubt (suc (suc q)) h =
      let a = bits_come q (h q (omega arith) (omega arith)) in
      let b = bits_come (suc q) (h (suc q) (omega arith) (omega arith)) in
      let c = bits_come (suc (suc q)) (h (suc (suc q)) (omega arith) (omega arith)) in
      ap (λ (t : Bits). xor t.z0 (xor (bits_at levels e q).z0 (bits_at levels e (suc q)).z1)) c
      ∙ (ap (λ (t : Bits). xor (xor (x1_of bytes e (suc q)) (encoder_before bytes e q).a) (xor t.z0 (bits_at levels e (suc q)).z1)) a
      ∙ (ap (λ (t : Bits). xor (xor (x1_of bytes e (suc q)) (encoder_before bytes e q).a) (xor (encoder_before bytes e q).a t.z1)) b
      ∙ xor_swapped (x1_of bytes e (suc q)) (encoder_before bytes e q).a))

module _ (bytes : ℕ → ℕ) (levels : ℕ → ℤ) (u : ℕ) where
  small : byte_encoder u < 12
  small = omega arith

  -- pair g of the byte
  byte_pair : (g : ℕ) → g < 4 → CameWith 1 bytes levels u → pair_at levels (byte_encoder u) (4 * (u / 12) + g) ≡ pair_in (bytes u) g
  unfolding x2_of x1_of pair_in
  byte_pair g l h =
      let a = place_law.byte_comes_back u g l in
      let b : (4 * (u / 12) + g) % 4 ≡ g = omega arith in
      pair_comes bytes levels (byte_encoder u) small (4 * (u / 12) + g) (λ p z. h p (omega arith) (omega arith)) (h (4 * (u / 12) + g) (omega arith) (omega arith)) ∙ rw (a, b)

  byte_comes : bytes u < 256 → CameWith 1 bytes levels u → read_byte levels u ≡ bytes u
  unfolding pairs_of
  byte_comes l h =
      let a = byte_pair 0 (omega arith) h in
      let b = byte_pair 1 (omega arith) h in
      let c = byte_pair 2 (omega arith) h in
      let d = byte_pair 3 (omega arith) h in
      rw (a, b, c, d) (four_pairs (bytes u) l)

  byte_undoubted : (g : ℕ) → g < 4 → CameWith 2 bytes levels u → doubted levels (byte_encoder u) (4 * (u / 12) + g) ≡ false
  byte_undoubted g l h = no_doubt bytes levels (byte_encoder u) small (4 * (u / 12) + g) (λ p a b. h p (omega arith) (omega arith))

  no_mark_comes : CameWith 2 bytes levels u → read_mark levels u ≡ false
  unfolding doubts_of
  no_mark_comes h =
      let a = byte_undoubted 0 (omega arith) h in
      let b = byte_undoubted 1 (omega arith) h in
      let c = byte_undoubted 2 (omega arith) h in
      let d = byte_undoubted 3 (omega arith) h in
      rw (a, b, c, d)

pub reading_laws : ReadingLaws
reading_laws =
    record {
      byte_comes = byte_comes;
      no_mark_comes = no_mark_comes;
      all_comes = λ bytes u l. (byte_comes bytes (data_level bytes) u l (λ q a b. refl), no_mark_comes bytes (data_level bytes) u (λ q a b. refl));
    }
