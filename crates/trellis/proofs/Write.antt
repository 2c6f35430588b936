-- One lane more of a data segment.
use Rattle.std.proofs.Common.{◌≡◌, ℕ, zero, suc, ◌+◌, ◌*◌, ◌/◌, ◌%◌, ◌<◌, ◌≤◌, Bool, true, false, cond, ◌≢◌, List, [], ◌∷◌, length, get_or, ℤ, pos, refl, ap, ◌∙◌, arith, below_more}
use Rattle.level.specs.Level.{is_level, all_levels}
use Rattle.trellis.specs.declared.encoding.Encoder.{Encoder}
use Rattle.trellis.specs.Sent.{new_encoder, encoder_before, group_level}
use Rattle.trellis.specs.Writer.{EncodersAfter, QuadOf, Writes, lane_encoder, LaneWritten, WritesOne}
use Rattle.trellis.proofs.Numbers.{symbol_lane, symbol_group, lane_turn, turned_lane, other_lane}

-- the lanes below `place` are written for one stream, and the others wait
pub record LanesWritten (bytes : ℕ → ℕ) (n place : ℕ) (out : List ℤ) (encoders : List Encoder) : Type 0 where
  pub symbols : (g j : ℕ) → g < 69 → j < place → get_or out (12 * g + j) (pos 0) ≡ group_level bytes (lane_encoder n j) (69 * n + g)
  pub done : (j : ℕ) → j < place → get_or encoders (lane_encoder n j) new_encoder ≡ encoder_before bytes (lane_encoder n j) (69 * n + 69)
  pub waiting : (j : ℕ) → place ≤ j → j < 12 → get_or encoders (lane_encoder n j) new_encoder ≡ encoder_before bytes (lane_encoder n j) (69 * n)

-- the lanes below `place` are written
pub record WritesSome (quad : List ℕ) (segment place : ℕ) (before : List Encoder) (out : List ℤ) (encoders : List Encoder) : Type 0 where
  pub levels_only : (g j : ℕ) → g < 69 → j < place → is_level (get_or out (12 * g + j) (pos 0)) ≡ true
  pub by_history : (bytes : ℕ → ℕ) (n : ℕ) → n % 12 ≡ segment % 12 → QuadOf bytes (n / 4) quad → EncodersAfter bytes n before → LanesWritten bytes n place out encoders

-- symbols that are levels each are levels all
all_below : (xs : List ℤ) → ((p : ℕ) → p < length xs → is_level (get_or xs p (pos 0)) ≡ true) → all_levels xs ≡ true
all_below [] h = refl
all_below (x ∷ xs) h = let z : is_level x ≡ true = h 0 (omega arith) in rw z (all_below xs (λ p l. h (suc p) (omega arith)))

both : (a b : Bool) → cond a b false ≡ true → (a ≡ true) × (b ≡ true)
both true b h = (refl, h)
both false b h = let z : ◌≡◌ {A = ℕ} 0 1 = cc in absurd (omega arith)

-- and each where all are
pub each_level : (xs : List ℤ) → all_levels xs ≡ true → (p : ℕ) → p < length xs → is_level (get_or xs p (pos 0)) ≡ true
each_level [] h p l = absurd (omega arith)
each_level (x ∷ xs) h zero l = (both (is_level x) (all_levels xs) h).0
each_level (x ∷ xs) h (suc p) l = each_level xs (both (is_level x) (all_levels xs) h).1 p (omega arith)

module _ (quad : List ℕ) (segment : ℕ) (before : List Encoder) where
  pub write_none : (out : List ℤ) → WritesSome quad segment 0 before out before
  write_none out =
      record {
        levels_only = λ g j l m. absurd (omega arith);
        by_history = λ bytes n r q a. record {
          symbols = λ g j l m. absurd (omega arith);
          done = λ j m. absurd (omega arith);
          waiting = λ j m l. a (lane_encoder n j) (omega arith);
        };
      }

  module _ (place : ℕ) (old out : List ℤ) (encoders after : List Encoder) (pl : place < 12)
      (one : WritesOne quad (69 * (segment % 4)) place ((place + 4 * (segment % 3)) % 12) encoders old out after)
      (h : WritesSome quad segment place before old encoders) where
    -- the lanes before it stay
    keeps : (g j : ℕ) → j < place → get_or out (12 * g + j) (pos 0) ≡ get_or old (12 * g + j) (pos 0)
    keeps g j l = one.lane.others_stay (12 * g + j) (λ z. omega arith)

    module _ (bytes : ℕ → ℕ) (n : ℕ) (r : n % 12 ≡ segment % 12) (q : QuadOf bytes (n / 4) quad) (a : EncodersAfter bytes n before) where
      some : LanesWritten bytes n place old encoders
      some = h.by_history bytes n r q a

      turn : (place + 4 * (segment % 3)) % 12 ≡ lane_encoder n place
      turn = lane_turn n segment place r

      lane_is : LaneWritten bytes n place 69 out (get_or after ((place + 4 * (segment % 3)) % 12) new_encoder)
      lane_is = one.lane.by_history bytes n (ap (λ (k : ℕ). 69 * k) (omega arith)) q (let t = turn in rw t (some.waiting place (omega arith) pl))

      -- the other encoders stay
      rests : (j : ℕ) → j < 12 → j ≢ place → get_or after (lane_encoder n j) new_encoder ≡ get_or encoders (lane_encoder n j) new_encoder
      rests j l ne = one.others (lane_encoder n j) (λ z. other_lane n j place l pl ne (z ∙ turn))

      lanes_more : LanesWritten bytes n (place + 1) out after
      lanes_more =
          record {
            symbols = λ g j l. below_more (λ j. get_or out (12 * g + j) (pos 0) ≡ group_level bytes (lane_encoder n j) (69 * n + g)) place (λ j m. keeps g j m ∙ some.symbols g j l m) (lane_is.symbols g l) j;
            done = below_more _ _ (λ j m. rests j (omega arith) (λ z. omega arith) ∙ some.done j m) (let t = turn in rw t at lane_is.encoder_after);
            waiting = λ j m l. rests j l (λ z. omega arith) ∙ some.waiting j (omega arith) l;
          }

    pub write_more : WritesSome quad segment (place + 1) before out after
    write_more =
        record {
          levels_only = λ g j l. below_more (λ j. is_level (get_or out (12 * g + j) (pos 0)) ≡ true) place (λ j m. rw (keeps g j m) (h.levels_only g j l m)) (one.lane.levels_only g l) j;
          by_history = lanes_more;
        }

  pub write_all : (out : List ℤ) (encoders : List Encoder) → length out ≡ 828 → WritesSome quad segment 12 before out encoders → Writes quad segment before out encoders
  write_all out encoders len h =
      record {
        levels_only = all_below out (λ p l. let z : 12 * (p / 12) + p % 12 ≡ p = omega arith in rw z at (h.levels_only (p / 12) (p % 12) (omega arith) (omega arith)));
        by_history = λ bytes n r q a.
            let w = h.by_history bytes n r q a in
            record {
              symbols = λ p l.
                  let z : 12 * (p / 12) + p % 12 ≡ p = omega arith in
                  let s = symbol_lane n p l in
                  let d = symbol_group n p in
                  rw (s, d) (rw z at (w.symbols (p / 12) (p % 12) (omega arith) (omega arith)));
              encoders_after = λ e l.
                  let t = turned_lane n e l in
                  let m : 69 * (n + 1) ≡ 69 * n + 69 = omega arith in
                  rw m (rw t at (w.done ((e + 8 * n) % 12) (omega arith)));
            };
      }
