-- One symbol more of a lane.
use Rattle.std.proofs.Common.{◌≡◌, ℕ, ◌+◌, ◌-◌, ◌*◌, ◌/◌, ◌%◌, ◌<◌, ◌≤◌, true, ◌≢◌, List, length, get_or, set, ℤ, pos, sym, refl, ap, ◌∙◌, add-zero, add-one, arith, below_more}
use Rattle.std.proofs.lemmas.List.{get_or-set_same, get_or-set_other, length-set}
use Rattle.level.specs.Level.{is_level}
use Rattle.level.proofs.Levels.{level_laws}
use Rattle.trellis.specs.declared.encoding.Encoder.{Encoder}
use Rattle.trellis.specs.Places.{byte_of}
use Rattle.trellis.specs.Sent.{bit_of, sent_bits, stepped, x2_of, x1_of, encoder_before, group_level}
use Rattle.trellis.specs.Writer.{QuadOf, lane_encoder, lane_byte, LaneWritten, WritesLane, PairSent}
use Rattle.trellis.proofs.Numbers.{lane_byte_is, lane_byte_below, byte_kept, lane_group_is}

-- the encoder a group on
encoder_on : (bytes : ℕ → ℕ) (e q : ℕ) → encoder_before bytes e (q + 1) ≡ stepped (encoder_before bytes e q) (x2_of bytes e q) (x1_of bytes e q)
unfolding encoder_before
encoder_on bytes e q = rw add-one

module _ (quad : List ℕ) (first place : ℕ) (before : Encoder) (old : List ℤ) where
  pub lane_none : WritesLane quad first place 0 before old old before
  lane_none =
      record {
        levels_only = λ g l. absurd (omega arith);
        others_stay = λ p h. refl;
        by_history = λ bytes n f q b. record { symbols = λ g l. absurd (omega arith); encoder_after = rw add-zero b };
      }

  module _ (g : ℕ) (out : List ℤ) (encoder after : Encoder) (pl : place < 12) (fl : first ≤ 207) (gl : g < 69) (len : length out ≡ 828)
      (u : ℕ) (u_is : u ≡ lane_byte first place (first + g)) (pair : ℕ) (pair_is : pair ≡ (first + g) % 4) (p : ℕ) (p_is : p ≡ 12 * g + place)
      (level : ℤ) (w : PairSent (get_or quad u 0) pair level encoder after) (h : WritesLane quad first place g before old out encoder) where
    -- the other places stay
    keeps : (q : ℕ) → q ≢ p → get_or (set out p level) q (pos 0) ≡ get_or out q (pos 0)
    keeps q ne = get_or-set_other out p q level (pos 0) ne

    here : get_or (set out p level) (12 * g + place) (pos 0) ≡ level
    here = let l : p < length out = omega arith in rw (sym p_is) (get_or-set_same out p level (pos 0) l)

    new_is_level : is_level level ≡ true
    new_is_level = rw w.level_is (level_laws.bits_make_a_level (sent_bits encoder (bit_of (get_or quad u 0) (7 - 2 * pair)) (bit_of (get_or quad u 0) (6 - 2 * pair))))

    module _ (bytes : ℕ → ℕ) (n : ℕ) (f : first ≡ 69 * (n % 4)) (q : QuadOf bytes (n / 4) quad) (b : before ≡ encoder_before bytes (lane_encoder n place) (69 * n)) where
      byte_is : get_or quad u 0 ≡ bytes (byte_of (lane_encoder n place) (69 * n + g))
      byte_is = rw u_is (q (lane_byte first place (first + g)) (lane_byte_below first place (first + g) pl (omega arith)) ∙ ap bytes (lane_byte_is n first place g f pl gl))

      pair_of_group : pair ≡ (69 * n + g) % 4
      pair_of_group = pair_is ∙ lane_group_is n first g f

      history_more : LaneWritten bytes n place (g + 1) (set out p level) after
      unfolding group_level x2_of x1_of
      history_more =
          let s = h.by_history bytes n f q b in
          let e = s.encoder_after in
          let v = byte_is in
          let k = pair_of_group in
          let o = encoder_on bytes (lane_encoder n place) (69 * n + g) in
          let z : 69 * n + (g + 1) ≡ 69 * n + g + 1 = omega arith in
          record {
            symbols = below_more _ _ (λ j l. keeps (12 * j + place) (λ z. omega arith) ∙ s.symbols j l) (here ∙ rw (w.level_is, e, v, k));
            encoder_after = rw (z, o, w.encoder_after, e, v, k);
          }

    pub lane_more : WritesLane quad first place (g + 1) before old (set out p level) after
    lane_more =
        record {
          levels_only = below_more _ _ (λ j l. rw (keeps (12 * j + place) (λ z. omega arith)) (h.levels_only j l)) (rw here new_is_level);
          others_stay = λ q ne. keeps q (λ z. ne (omega arith)) ∙ h.others_stay q ne;
          by_history = history_more;
        }

-- four symbols more, which carry a whole byte
module _ (quad : List ℕ) (first place : ℕ) (before : Encoder) (old : List ℤ) (g : ℕ) (pl : place < 12) (fl : first ≤ 207) (gl : g ≤ 65) (whole : (first + g) % 4 ≡ 0)
    (u : ℕ) (u_is : u ≡ lane_byte first place (first + g)) (p : ℕ) (p_is : p ≡ 12 * g + place) where
  -- one of the four
  one : (i : ℕ) → i < 4 → (out : List ℤ) (encoder encoder' : Encoder) → length out ≡ 828 → (level : ℤ) → PairSent (get_or quad u 0) i level encoder encoder'
      → WritesLane quad first place (g + i) before old out encoder → WritesLane quad first place (g + i + 1) before old (set out (p + 12 * i) level) encoder'
  one i l out encoder encoder' len level w h =
      lane_more quad first place before old (g + i) out encoder encoder' pl fl (omega arith) len u (u_is ∙ byte_kept first place (first + g) (first + (g + i)) (omega arith)) i (omega arith) (p + 12 * i) (omega arith) level w h

  pub lane_four : (out : List ℤ) (a b c d : ℤ) (e0 e1 e2 e3 e4 : Encoder) → length out ≡ 828
      → PairSent (get_or quad u 0) 0 a e0 e1 → PairSent (get_or quad u 0) 1 b e1 e2 → PairSent (get_or quad u 0) 2 c e2 e3 → PairSent (get_or quad u 0) 3 d e3 e4
      → WritesLane quad first place g before old out e0 → WritesLane quad first place (g + 4) before old (set (set (set (set out p a) (p + 12) b) (p + 24) c) (p + 36) d) e4
  lane_four out a b c d e0 e1 e2 e3 e4 l w0 w1 w2 w3 h =
      let z0 : g + 0 ≡ g = omega arith in
      let p0 : p + 0 ≡ p = omega arith in
      let z1 : g + 0 + 1 ≡ g + 1 = omega arith in
      let z2 : g + 1 + 1 ≡ g + 2 = omega arith in
      let z3 : g + 2 + 1 ≡ g + 3 = omega arith in
      let z4 : g + 3 + 1 ≡ g + 4 = omega arith in
      let h1 = rw (z1, p0) at (one 0 (omega arith) out e0 e1 l a w0 (rw z0 h)) in
      let h2 = rw z2 at (one 1 (omega arith) (set out p a) e1 e2 (simp length-set l) b w1 h1) in
      let h3 = rw z3 at (one 2 (omega arith) (set (set out p a) (p + 12) b) e2 e3 (simp length-set l) c w2 h2) in
      rw z4 at (one 3 (omega arith) (set (set (set out p a) (p + 12) b) (p + 24) c) e3 e4 (simp length-set l) d w3 h3)
