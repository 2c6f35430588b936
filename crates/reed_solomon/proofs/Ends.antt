-- Rows whose end is written over.
use Rattle.std.proofs.Common.{◌≡◌, ℕ, ◌+◌, ◌*◌, ◌^◌, ◌<◌, ◌≤◌, List, [], ◌∷◌, ◌++◌, length, take, sym, ap, ◌∙◌, ap₂, arith, length-append}
use borrow.Rule.Slice.PartMut.{put_mid}
use Rattle.std.proofs.lemmas.List.{append-nil, drop_all, drop-drop, take_at}
use Rattle.reed_solomon.specs.Held.{digits}
use Rattle.reed_solomon.proofs.Digits.{length_digits}
use Rattle.reed_solomon.proofs.Words.{digits_words}

-- the last bytes written over
pub put_end : (m k : ℕ) (xs ys : List ℕ) → length xs ≤ m + k → put_mid m k xs ys ≡ take m xs ++ ys
put_end m k xs ys h = ap (λ (zs : List ℕ). take m xs ++ (ys ++ zs)) (drop-drop k m xs ∙ drop_all (m + k) xs h) ∙ ap (λ (zs : List ℕ). take m xs ++ zs) (append-nil ys)

-- both words' bytes written into twenty zeros
pub put_words : (xs ys : List ℕ) (h l : ℕ) → xs ≡ digits 16 h → ys ≡ digits 4 l → l < 2 ^ 32 → put_mid 16 4 (xs ++ (0 ∷ (0 ∷ (0 ∷ (0 ∷ []))))) ys ≡ digits 20 (h * 2 ^ 32 + l)
put_words xs ys h l ex ey hl =
    let zs : List ℕ = 0 ∷ (0 ∷ (0 ∷ (0 ∷ []))) in
    let n : length xs ≡ 16 = ap length ex ∙ length_digits 16 h in
    let m : length (xs ++ zs) ≡ length xs + 4 = length-append xs zs in
    put_end 16 4 (xs ++ zs) ys (omega arith) ∙ ap (λ (us : List ℕ). us ++ ys) (take_at xs zs 16 n) ∙ ap₂ (λ (us vs : List ℕ). us ++ vs) ex ey ∙ sym (digits_words h l hl)
