-- The elimination: a monic polynomial is made to solve one equation more by a multiple of the pivot there, or becomes the pivot.
use Rattle.std.proofs.Common.{◌≡◌, ℕ, suc, ◌+◌, ◌<◌, ◌≤◌, cond, List, [], ◌∷◌, length, get_or, set, Option, Some, None, is_some, count_by, sym, refl, ap, ◌∙◌, arith, length-set, get_or-set_other, get_or-set_same}
use native.Mathlib.Decide.{ℕ_discrete, dec_lt}
use lib.Bits.{bit_xor, xor_zero_r}
use borrow.Author.Count.{below_more}
use Rattle.std.proofs.lemmas.List.{get_or_past}
use Rattle.std.proofs.lemmas.List.Sums.{sum_by-cons, sum_by-set, count_by-le-length}
use Rattle.galois.specs.Field.{gf_mul}
use Rattle.galois.proofs.Laws.{mul_zero_right}
use Rattle.rows.specs.Code.{Bytes}
use Rattle.correction.specs.Equations.{discrepancy, Solves, Monic, IsPivot, Eliminated, Locates}
use Rattle.correction.proofs.Discrepancies.{discrepancy_short, plus_solves, plus_clears}

none_counted : {P : Type 0} (pivots : List (Option P)) → ((k : ℕ) → get_or pivots k None ≡ None) → count_by is_some pivots ≡ 0
none_counted [] z = refl
none_counted (p ∷ ps) z = let f = λ (o : Option _). cond (is_some o) 1 0 in sum_by-cons f p ps ∙ (let a : f p ≡ 0 = ap f (z 0) in let b = none_counted ps (λ k. z (suc k)) in omega arith)

-- there is no pivot yet
pub eliminated_none : {P : Type 0} (polynomial : P → List ℕ) (inverse : P → ℕ) (t : ℕ) (s : List ℕ) (pivots : List (Option P)) → length pivots ≡ t → ((k : ℕ) → get_or pivots k None ≡ None)
    → Eliminated polynomial inverse t 0 s pivots
eliminated_none polynomial inverse t s pivots l z = record { long = l; each = λ i p e. let x : None ≡ Some p = sym (z i) ∙ e in absurd (grind (arith, x)); count = none_counted pivots z }

-- there are no more pivots than equations
pub eliminated_few : {P : Type 0} (polynomial : P → List ℕ) (inverse : P → ℕ) (t j : ℕ) (s : List ℕ) (pivots : List (Option P)) → Eliminated polynomial inverse t j s pivots → j ≤ t
eliminated_few polynomial inverse t j s pivots E = let n = count_by-le-length is_some pivots in let c = E.count in let l = E.long in omega arith

-- the monic polynomial v of degree j solves the first i equations
pub record Reduced {P : Type 0} (polynomial : P → List ℕ) (inverse : P → ℕ) (t j i : ℕ) (s v : List ℕ) (pivots : List (Option P)) : Type 0 where
  pub long : length v ≡ t + 1
  pub monic : Monic j v
  pub solves : Solves (t + 1) v s i
  pub before : Eliminated polynomial inverse t j s pivots

module _ {P : Type 0} {polynomial : P → List ℕ} {inverse : P → ℕ} {t j i : ℕ} {s v : List ℕ} {pivots : List (Option P)} (R : Reduced polynomial inverse t j i s v pivots) (h : j ≤ t) where
  short : discrepancy (t + 1) v s i ≡ discrepancy (j + 1) v s i
  short = discrepancy_short v s i j t h R.monic.1

  -- it solves the next equation as it is
  pub reduced_kept : discrepancy (j + 1) v s i ≡ 0 → Reduced polynomial inverse t j (i + 1) s v pivots
  reduced_kept e = record { long = R.long; monic = R.monic; solves = below_more (λ k. discrepancy (t + 1) v s k ≡ 0) i R.solves (short ∙ e); before = R.before }

  -- it solves the next equation with a multiple of the pivot there
  pub reduced_plus : Bytes s → (p : P) → get_or pivots i None ≡ Some p → (c : ℕ) (w : List ℕ) → c ≡ gf_mul (discrepancy (j + 1) v s i) (inverse p) → length w ≡ t + 1
      → ((k : ℕ) → k < t + 1 → get_or w k 0 ≡ bit_xor (get_or v k 0) (gf_mul c (get_or (polynomial p) k 0))) → Reduced polynomial inverse t j (i + 1) s w pivots
  reduced_plus b p here c w ec l ew =
      record {
        long = l;
        monic = (same j (omega arith) (omega arith) ∙ R.monic.0, λ k q. elim (dec_lt k (t + 1)) [ yes y ↦ same k (omega arith) y ∙ R.monic.1 k q | no y ↦ get_or_past w k 0 (omega arith) ]);
        solves =
            below_more (λ k. discrepancy (t + 1) w s k ≡ 0) i (λ k q. plus_solves (t + 1) s w v (polynomial p) c ew b k (R.solves k q) (I.solves k q))
            (plus_clears (t + 1) s w v (polynomial p) c ew b i (inverse p) (ec ∙ ap (λ (x : ℕ). gf_mul x (inverse p)) (sym short)) I.fails);
        before = R.before;
      }
    where
      I : IsPivot t j s i (polynomial p) (inverse p)
      I = R.before.each i p here

      same : (k : ℕ) → j ≤ k → k < t + 1 → get_or w k 0 ≡ get_or v k 0
      same k q y = ew k y ∙ ap (λ (x : ℕ). bit_xor (get_or v k 0) x) (ap (gf_mul c) (I.lower k q) ∙ mul_zero_right c) ∙ xor_zero_r (get_or v k 0)

  -- it becomes the pivot of the next equation
  pub reduced_pivot : i < t → get_or pivots i None ≡ None → (p : P) → polynomial p ≡ v → gf_mul (discrepancy (j + 1) v s i) (inverse p) ≡ 1
      → Eliminated polynomial inverse t (j + 1) s (set pivots i (Some p))
  reduced_pivot hi free p ev e =
      record {
        long = length-set pivots i (Some p) ∙ R.before.long;
        each = λ k q at. elim (ℕ_discrete k i) [
          | yes x ↦ let same : q ≡ p = let y = get_or-set_same pivots i (Some p) None hl in cc in rw (same, x, ev) it
          | no x ↦ more (R.before.each k q (sym (get_or-set_other pivots i k (Some p) None x) ∙ at))
        ];
        count =
            let f : Option P → ℕ = λ o. cond (is_some o) 1 0 in
            let more : count_by is_some (set pivots i (Some p)) + f (get_or pivots i None) ≡ count_by is_some pivots + 1 = sum_by-set f pivots i (Some p) None hl in
            let none : f (get_or pivots i None) ≡ 0 = ap f free in
            let c = R.before.count in
            omega arith;
      }
    where
      hl : i < length pivots
      hl = let l = R.before.long in omega arith

      it : IsPivot t (j + 1) s i v (inverse p)
      it = record { lower = λ k q. R.monic.1 k (omega arith); solves = R.solves; fails = ap (λ (y : ℕ). gf_mul y (inverse p)) short ∙ e }

      more : {k : ℕ} {u : List ℕ} {b : ℕ} → IsPivot t j s k u b → IsPivot t (j + 1) s k u b
      more I = record { lower = λ n q. I.lower n (omega arith); solves = I.solves; fails = I.fails }

  -- it solves all equations: it is a locator
  pub reduced_all : t ≤ i → Locates t s v j
  reduced_all hi = record { few = h; monic = R.monic; solves = λ k q. sym (discrepancy_short v s k j t h R.monic.1) ∙ R.solves k (omega arith) }
