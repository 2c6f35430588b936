-- Sums of weights at distinct places of a field: where the moments vanish, so do the weights.
use mathlib.Core.Path.{◌≡◌, refl, sym, ap, ap₂, ◌∙◌, subst, fun_ext}
use mathlib.Core.Logic.{◌≢◌, ◌⊎◌, inl, inr}
use mathlib.Core.List.{List, [], ◌∷◌, ◌++◌}
use Prim.Native.Nat.{ℕ, zero, suc, ◌+◌, ◌-◌, ◌≤◌, ◌<◌, zero-le}
use native.Mathlib.Nat.{not-suc-le-zero, le_of_suc-le-suc, add-zero, add-suc, suc-add}
use native.Mathlib.Decide.{ℕ_discrete, dec_lt}
use native.Mathlib.Omega.{arith}
use lib.ListN.{length, get_or}
use Rattle.moments.specs.Field.{Laws}

module _ (F : Type 0) (◌⊕◌ ◌⊗◌ : F → F → F) (nil one : F) (L : Laws F ◌⊕◌ ◌⊗◌ nil one) where
  infixl 65 ◌⊕◌
  infixl 70 ◌⊗◌
  -- ---- rings
  add_assoc : (a b c : F) → a ⊕ b ⊕ c ≡ a ⊕ (b ⊕ c)
  add_assoc = L.add_assoc

  add_comm : (a b : F) → a ⊕ b ≡ b ⊕ a
  add_comm = L.add_comm

  nil_add : (a : F) → nil ⊕ a ≡ a
  nil_add = L.nil_add

  pub add_nil : (a : F) → a ⊕ nil ≡ a
  add_nil a = add_comm a nil ∙ nil_add a

  add_self : (a : F) → a ⊕ a ≡ nil
  add_self = L.add_self

  pub add_left : (a b c : F) → a ⊕ (b ⊕ c) ≡ b ⊕ (a ⊕ c)
  add_left a b c = sym (add_assoc a b c) ∙ ap (λ (x : F). x ⊕ c) (add_comm a b) ∙ add_assoc b a c

  pub add_twice : (a b : F) → a ⊕ (a ⊕ b) ≡ b
  add_twice a b = sym (add_assoc a a b) ∙ ap (λ (x : F). x ⊕ b) (add_self a) ∙ nil_add b

  mul_assoc : (a b c : F) → a ⊗ b ⊗ c ≡ a ⊗ (b ⊗ c)
  mul_assoc = L.mul_assoc

  mul_comm : (a b : F) → a ⊗ b ≡ b ⊗ a
  mul_comm = L.mul_comm

  pub mul_left : (a b c : F) → a ⊗ (b ⊗ c) ≡ b ⊗ (a ⊗ c)
  mul_left a b c = sym (mul_assoc a b c) ∙ ap (λ (x : F). x ⊗ c) (mul_comm a b) ∙ mul_assoc b a c

  one_mul : (a : F) → one ⊗ a ≡ a
  one_mul = L.one_mul

  pub mul_one : (a : F) → a ⊗ one ≡ a
  mul_one a = mul_comm a one ∙ one_mul a

  mul_add : (a b c : F) → a ⊗ (b ⊕ c) ≡ a ⊗ b ⊕ a ⊗ c
  mul_add = L.mul_add

  pub add_mul : (a b c : F) → (a ⊕ b) ⊗ c ≡ a ⊗ c ⊕ b ⊗ c
  add_mul a b c = mul_comm (a ⊕ b) c ∙ mul_add c a b ∙ ap₂ ◌⊕◌ (mul_comm c a) (mul_comm c b)

  pub mul_nil : (a : F) → a ⊗ nil ≡ nil
  mul_nil a = ap (λ (x : F). a ⊗ x) (sym (add_self nil)) ∙ mul_add a nil nil ∙ add_self (a ⊗ nil)

  pub nil_mul : (a : F) → nil ⊗ a ≡ nil
  nil_mul a = mul_comm nil a ∙ mul_nil a

  ruleset ring = (mul_add, add_mul, mul_assoc, mul_comm, mul_left, one_mul, mul_one, nil_mul, mul_nil, add_assoc, add_comm, add_left, add_self, add_twice, nil_add, add_nil)

  -- a = b where a + b = 0
  pub same : (a b : F) → a ⊕ b ≡ nil → a ≡ b
  same a b e = sym (add_nil a) ∙ ap (λ (x : F). a ⊕ x) (sym e) ∙ add_twice a b

  pub cancel : (a b : F) → b ≢ nil → a ⊗ b ≡ nil → a ≡ nil
  cancel a b h e =
      sym (mul_one a) ∙ ap (λ (x : F). a ⊗ x) (sym (L.mul_inv b h)) ∙ sym (mul_assoc a b (L.inv b)) ∙ ap (λ (x : F). x ⊗ L.inv b) e
      ∙ nil_mul (L.inv b)

  pub clears : (d e b : F) → e ⊗ b ≡ one → d ⊕ d ⊗ b ⊗ e ≡ nil
  clears d e b q = ap (λ (x : F). d ⊕ x) (mul_assoc d b e ∙ ap (λ (x : F). d ⊗ x) (mul_comm b e ∙ q) ∙ mul_one d) ∙ add_self d

  pub both_nil : (c a b : F) → a ≡ nil → b ≡ nil → a ⊕ c ⊗ b ≡ nil
  both_nil c a b p q = ap₂ (λ (x y : F). x ⊕ c ⊗ y) p q ∙ ap (λ (x : F). nil ⊕ x) (mul_nil c) ∙ add_self nil

  -- ---- weights at places: a term is a place and its weight
  abbrev pub Terms : Type 0
  Terms = List (F × F)

  unfoldable pub pow : F → ℕ → F
  pow x zero = one
  pow x (suc k) = pow x k ⊗ x

  unfoldable pub psum : (F → F) → Terms → F
  psum g [] = nil
  psum g (t ∷ ts) = t.1 ⊗ g t.0 ⊕ psum g ts

  abbrev pub Apart : F → Terms → Type 0
  Apart x [] = Unit {0}
  Apart x (t ∷ ts) = (x ≢ t.0) × Apart x ts

  abbrev pub Distinct : Terms → Type 0
  Distinct [] = Unit {0}
  Distinct (t ∷ ts) = Apart t.0 ts × Distinct ts

  -- every weight times h of its place is nil
  abbrev pub Vanish : (F → F) → Terms → Type 0
  Vanish h [] = Unit {0}
  Vanish h (t ∷ ts) = (t.1 ⊗ h t.0 ≡ nil) × Vanish h ts

  abbrev pub bump : {A : Type 0} → Dec A → ℕ → ℕ
  bump (yes e) n = n
  bump (no e) n = suc n

  -- how many weights, each times h of its place, are not nil
  abbrev pub count : (F → F) → Terms → ℕ
  count h [] = 0
  count h (t ∷ ts) = bump (L.dec (t.1 ⊗ h t.0)) (count h ts)

  psum_cong : (g k : F → F) (ts : Terms) → ((x : F) → g x ≡ k x) → psum g ts ≡ psum k ts
  psum_cong g k ts e = ap (λ (f : F → F). psum f ts) (fun_ext e)

  psum_add : (g k : F → F) (ts : Terms) → psum (λ x. g x ⊕ k x) ts ≡ psum g ts ⊕ psum k ts
  unfolding psum
  psum_add g k [] = sym (add_self nil)
  psum_add g k (t ∷ ts) = ap (λ (s : F). t.1 ⊗ (g t.0 ⊕ k t.0) ⊕ s) (psum_add g k ts) ∙ simp ring

  psum_scale : (c : F) (g : F → F) (ts : Terms) → psum (λ x. c ⊗ g x) ts ≡ c ⊗ psum g ts
  unfolding psum
  psum_scale c g [] = sym (mul_nil c)
  psum_scale c g (t ∷ ts) = ap (λ (s : F). t.1 ⊗ (c ⊗ g t.0) ⊕ s) (psum_scale c g ts) ∙ simp ring

  vanish_sum : (h g : F → F) (ts : Terms) → Vanish h ts → psum (λ x. h x ⊗ g x) ts ≡ nil
  unfolding psum
  vanish_sum h g [] v = refl
  vanish_sum h g (t ∷ ts) v =
      ap₂ ◌⊕◌ (sym (mul_assoc t.1 (h t.0) (g t.0)) ∙ ap (λ (x : F). x ⊗ g t.0) v.0 ∙ nil_mul (g t.0)) (vanish_sum h g ts v.1)
      ∙ nil_add nil

  bump_le : {A B : Type 0} (d : Dec A) (e : Dec B) (m n : ℕ) → (B → A) → m ≤ n → bump d m ≤ bump e n
  bump_le (yes a) (yes b) m n f h = h
  bump_le (yes a) (no b) m n f h = omega arith
  bump_le (no a) (yes b) m n f h = absurd (a (f b))
  bump_le (no a) (no b) m n f h = omega arith

  count_mul : (h g : F → F) (ts : Terms) → count (λ x. h x ⊗ g x) ts ≤ count h ts
  count_mul h g [] = zero-le
  count_mul h g (t ∷ ts) =
      bump_le (L.dec (t.1 ⊗ (h t.0 ⊗ g t.0))) (L.dec (t.1 ⊗ h t.0)) (count (λ x. h x ⊗ g x) ts) (count h ts)
      (λ e. sym (mul_assoc t.1 (h t.0) (g t.0)) ∙ ap (λ (x : F). x ⊗ g t.0) e ∙ nil_mul (g t.0))
      (count_mul h g ts)

  unvanish : (a : F) (h : F → F) (ts : Terms) → Apart a ts → Vanish (λ x. h x ⊗ (x ⊕ a)) ts → Vanish h ts
  unvanish a h [] d v = tt
  unvanish a h (t ∷ ts) d v =
      (cancel (t.1 ⊗ h t.0) (t.0 ⊕ a) (λ e. d.0 (sym (same t.0 a e))) (mul_assoc t.1 (h t.0) (t.0 ⊕ a) ∙ v.0), unvanish a h ts d.1 v.1)

  abbrev pub Zero : ℕ → (F → F) → Terms → Type 0
  Zero p h ts = (i : ℕ) → i < p → psum (λ x. h x ⊗ pow x i) ts ≡ nil

  abbrev pub Ih : Terms → Type 0
  Ih ts = (p : ℕ) (h : F → F) → Distinct ts → count h ts ≤ p → Zero p h ts → Vanish h ts

  pow_suc : (x : F) (i : ℕ) → pow x (suc i) ≡ pow x i ⊗ x
  unfolding pow
  pow_suc x i = refl

  -- multiplying by x + a moves a moment on
  shift : (a : F) (h : F → F) (ts : Terms) (i : ℕ)
      → psum (λ x. h x ⊗ (x ⊕ a) ⊗ pow x i) ts ≡ psum (λ x. h x ⊗ pow x (suc i)) ts ⊕ a ⊗ psum (λ x. h x ⊗ pow x i) ts
  shift a h ts i =
      psum_cong (λ x. h x ⊗ (x ⊕ a) ⊗ pow x i) (λ x. h x ⊗ pow x (suc i) ⊕ a ⊗ (h x ⊗ pow x i)) ts (λ x. simp (pow_suc, ring))
      ∙ psum_add (λ x. h x ⊗ pow x (suc i)) (λ x. a ⊗ (h x ⊗ pow x i)) ts
      ∙ ap (λ (s : F). psum (λ x. h x ⊗ pow x (suc i)) ts ⊕ s) (psum_scale a (λ x. h x ⊗ pow x i) ts)

  step : (t : F × F) (ts : Terms) (p : ℕ) (h : F → F) → Ih ts → Distinct (t ∷ ts) → (d : Dec (t.1 ⊗ h t.0 ≡ nil)) → bump d (count h ts) ≤ p
      → Zero p h (t ∷ ts) → Vanish h (t ∷ ts)
  unfolding psum
  step t ts p h ih D (yes e) c z = (e, ih p h D.1 c (λ i hi. drop i ∙ z i hi))
    where
      drop : (i : ℕ) → psum (λ x. h x ⊗ pow x i) ts ≡ psum (λ x. h x ⊗ pow x i) (t ∷ ts)
      drop i =
          sym (ap (λ (x : F). x ⊕ psum (λ x. h x ⊗ pow x i) ts) (sym (mul_assoc t.1 (h t.0) (pow t.0 i)) ∙ ap (λ (x : F). x ⊗ pow t.0 i) e ∙ nil_mul (pow t.0 i))
          ∙ nil_add (psum (λ x. h x ⊗ pow x i) ts))
  step t ts zero h ih D (no e) c z = absurd (not-suc-le-zero c)
  step t ts (suc q) h ih D (no e) c z = absurd (e first)
    where
      a : F
      a = t.0

      k : F → F
      k x = h x ⊗ (x ⊕ a)

      killed : (i : ℕ) → t.1 ⊗ (k a ⊗ pow a i) ≡ nil
      killed i = simp (add_self, mul_nil, nil_mul)

      zero_k : Zero q k ts
      zero_k i hi =
          sym (nil_add (psum (λ x. k x ⊗ pow x i) ts)) ∙ ap (λ (x : F). x ⊕ psum (λ x. k x ⊗ pow x i) ts) (sym (killed i)) ∙ shift a h (t ∷ ts) i
          ∙ ap₂ (λ (x y : F). x ⊕ a ⊗ y) (z (suc i) (omega arith)) (z i (omega arith)) ∙ simp (mul_nil, nil_add)

      rest : Vanish h ts
      rest = unvanish a h ts D.0 (ih q k D.1 (let m : count k ts ≤ count h ts = count_mul h (λ x. x ⊕ a) ts in omega arith) zero_k)

      first : t.1 ⊗ h a ≡ nil
      first =
          sym (mul_one (t.1 ⊗ h a)) ∙ mul_assoc t.1 (h a) one ∙ sym (add_nil (t.1 ⊗ (h a ⊗ one)))
          ∙ ap (λ (x : F). t.1 ⊗ (h a ⊗ one) ⊕ x) (sym (vanish_sum h (λ x. pow x 0) ts rest)) ∙ (unfold pow in z 0 (omega arith))

  -- as many moments as weights that count: if those moments vanish, so do the weights
  pub vander : (ts : Terms) → Ih ts
  vander [] p h D c z = tt
  vander (t ∷ ts) p h D c z = step t ts p h (vander ts) D (L.dec (t.1 ⊗ h t.0)) c z

  -- ---- polynomials, lowest coefficient first
  unfoldable pub eval : List F → F → F
  eval [] x = nil
  eval (c ∷ cs) x = c ⊕ x ⊗ eval cs x

  -- the coefficients against the sequence s from i on
  unfoldable pub hank : List F → (ℕ → F) → ℕ → F
  hank [] s i = nil
  hank (c ∷ cs) s i = c ⊗ s i ⊕ hank cs s (suc i)

  pub moment : (F → F) → Terms → ℕ → F
  moment h ts i = psum (λ x. h x ⊗ pow x i) ts

  hank_eval : (cs : List F) (h : F → F) (ts : Terms) (i : ℕ) → hank cs (moment h ts) i ≡ moment (λ x. h x ⊗ eval cs x) ts i
  unfolding hank moment eval
  hank_eval [] h ts i =
      sym (psum_cong (λ x. h x ⊗ nil ⊗ pow x i) (λ x. nil ⊗ pow x i) ts (λ x. simp ring) ∙ psum_scale nil (λ x. pow x i) ts ∙ nil_mul (psum (λ x. pow x i) ts))
  hank_eval (c ∷ cs) h ts i =
      ap₂ ◌⊕◌ (sym (psum_scale c (λ x. h x ⊗ pow x i) ts)) (hank_eval cs h ts (suc i))
      ∙ sym (psum_add (λ x. c ⊗ (h x ⊗ pow x i)) (λ x. h x ⊗ eval cs x ⊗ pow x (suc i)) ts)
      ∙ psum_cong (λ x. c ⊗ (h x ⊗ pow x i) ⊕ h x ⊗ eval cs x ⊗ pow x (suc i)) (λ x. h x ⊗ (c ⊕ x ⊗ eval cs x) ⊗ pow x i) ts
      (λ x. open_up (h x) c x (eval cs x) (pow x i) (pow x (suc i)) (pow_suc x i))
    where
      open_up : (u c x e y z : F) → z ≡ y ⊗ x → c ⊗ (u ⊗ y) ⊕ u ⊗ e ⊗ z ≡ u ⊗ (c ⊕ x ⊗ e) ⊗ y
      open_up u c x e y z q = rw q (simp ring)

  hank_cong : (cs : List F) (s r : ℕ → F) (i : ℕ) → ((k : ℕ) → k < i + length cs → s k ≡ r k) → hank cs s i ≡ hank cs r i
  unfolding hank
  hank_cong [] s r i e = refl
  hank_cong (c ∷ cs) s r i e = ap₂ (λ (x y : F). c ⊗ x ⊕ y) (e i (omega arith)) (hank_cong cs s r (suc i) (λ k h. e k (omega arith)))

  -- COMPLETENESS: a kernel vector of the first moments vanishes at each place that has a weight
  pub locate : (cs : List F) (s : ℕ → F) (h : F → F) (ts : Terms) (t m : ℕ) → Distinct ts → count h ts ≤ t → t + length cs ≤ suc m
      → ((i : ℕ) → i < m → s i ≡ moment h ts i) → ((i : ℕ) → i < t → hank cs s i ≡ nil) → Vanish (λ x. h x ⊗ eval cs x) ts
  unfolding moment
  locate cs s h ts t m D c b e k =
      vander ts t (λ x. h x ⊗ eval cs x) D (let m : count (λ x. h x ⊗ eval cs x) ts ≤ count h ts = count_mul h (eval cs) ts in omega arith)
      (λ i hi. sym (hank_eval cs h ts i) ∙ sym (hank_cong cs s (moment h ts) i (λ n hn. e n (omega arith))) ∙ k i hi)

  -- ---- a polynomial has no more roots than its degree
  abbrev pub Nils : List F → Type 0
  Nils [] = Unit {0}
  Nils (c ∷ cs) = (c ≡ nil) × Nils cs

  abbrev pub ApartL : F → List F → Type 0
  ApartL x [] = Unit {0}
  ApartL x (r ∷ rs) = (x ≢ r) × ApartL x rs

  abbrev pub DistinctL : List F → Type 0
  DistinctL [] = Unit {0}
  DistinctL (r ∷ rs) = ApartL r rs × DistinctL rs

  abbrev pub Roots : List F → List F → Type 0
  Roots cs [] = Unit {0}
  Roots cs (r ∷ rs) = (eval cs r ≡ nil) × Roots cs rs

  synth : F → List F → List F
  synth a [] = []
  synth a (c ∷ cs) = eval (c ∷ cs) a ∷ synth a cs

  synth_length : (a : F) (cs : List F) → length (synth a cs) ≡ length cs
  unfolding synth
  synth_length a [] = refl
  synth_length a (c ∷ cs) = ap suc (synth_length a cs)

  synth_eval : (a x : F) (cs : List F) → (x ⊕ a) ⊗ eval (synth a cs) x ≡ x ⊗ eval cs x ⊕ a ⊗ eval cs a
  unfolding synth eval
  synth_eval a x [] = simp ring
  synth_eval a x (c ∷ cs) = go (eval (synth a cs) x) (eval cs x) (eval cs a) (synth_eval a x cs)
    where
      go : (q ex ea : F) → (x ⊕ a) ⊗ q ≡ x ⊗ ex ⊕ a ⊗ ea → (x ⊕ a) ⊗ (c ⊕ a ⊗ ea ⊕ x ⊗ q) ≡ x ⊗ (c ⊕ x ⊗ ex) ⊕ a ⊗ (c ⊕ a ⊗ ea)
      go q ex ea e =
          (let r : (x ⊕ a) ⊗ (c ⊕ a ⊗ ea ⊕ x ⊗ q) ≡ (x ⊕ a) ⊗ (c ⊕ a ⊗ ea) ⊕ x ⊗ ((x ⊕ a) ⊗ q) = simp ring in r) ∙ rw e (simp ring)

  nils_eval : (a : F) (cs : List F) → Nils cs → eval cs a ≡ nil
  unfolding eval
  nils_eval a [] n = refl
  nils_eval a (c ∷ cs) n = rw (n.0, nils_eval a cs n.1) (simp ring)

  synth_nils : (a : F) (cs : List F) → Nils (synth a cs) → Nils cs
  unfolding synth eval
  synth_nils a [] n = tt
  synth_nils a (c ∷ cs) n =
      let r = synth_nils a cs n.1 in
      (sym (add_nil c) ∙ ap (λ (x : F). c ⊕ x) (sym (ap (λ (x : F). a ⊗ x) (nils_eval a cs r) ∙ mul_nil a)) ∙ n.0, r)

  synth_roots : (a c : F) (cs rs : List F) → eval (c ∷ cs) a ≡ nil → ApartL a rs → Roots (c ∷ cs) rs → Roots (synth a cs) rs
  unfolding eval
  synth_roots a c cs [] e d z = tt
  synth_roots a c cs (r ∷ rs) e d z = (
    cancel (eval (synth a cs) r) (r ⊕ a) (λ q. d.0 (sym (same r a q)))
        (mul_comm (eval (synth a cs) r) (r ⊕ a) ∙ synth_eval a r cs ∙ both_nil' (eval cs r) (eval cs a) z.0 e),
    synth_roots a c cs rs e d.1 z.1,
  )
    where
      both_nil' : (u v : F) → c ⊕ r ⊗ u ≡ nil → c ⊕ a ⊗ v ≡ nil → r ⊗ u ⊕ a ⊗ v ≡ nil
      both_nil' u v p q = (let w : r ⊗ u ⊕ a ⊗ v ≡ c ⊕ r ⊗ u ⊕ (c ⊕ a ⊗ v) = simp ring in w) ∙ ap₂ ◌⊕◌ p q ∙ nil_add nil

  pub few_roots : (rs cs : List F) → DistinctL rs → Roots cs rs → length cs ≤ length rs → Nils cs
  unfolding eval
  few_roots [] [] d z h = tt
  few_roots [] (c ∷ cs) d z h = absurd (not-suc-le-zero h)
  few_roots (r ∷ rs) [] d z h = tt
  few_roots (r ∷ rs) (c ∷ cs) d z h =
      let n = synth_nils r cs (few_roots rs (synth r cs) d.1 (synth_roots r c cs rs z.0 d.0 z.1) (rw synth_length (le_of_suc-le-suc h))) in
      (sym (add_nil c) ∙ ap (λ (x : F). c ⊕ x) (sym (ap (λ (x : F). r ⊗ x) (nils_eval r cs n) ∙ mul_nil r)) ∙ z.0, n)

  -- ---- taking places out of a sequence
  unfoldable pub out : List F → F → F
  out [] x = one
  out (r ∷ rs) x = (x ⊕ r) ⊗ out rs x

  unfoldable pub peel : List F → (ℕ → F) → ℕ → F
  peel [] s = s
  peel (r ∷ rs) s = peel rs (λ i. s (suc i) ⊕ r ⊗ s i)

  pub peel_moment : (rs : List F) (h : F → F) (ts : Terms) (i : ℕ) → peel rs (moment h ts) i ≡ moment (λ x. h x ⊗ out rs x) ts i
  unfolding peel out moment
  peel_moment [] h ts i = psum_cong (λ x. h x ⊗ pow x i) (λ x. h x ⊗ one ⊗ pow x i) ts (λ x. ap (λ (y : F). y ⊗ pow x i) (sym (mul_one (h x))))
  peel_moment (r ∷ rs) h ts i =
      ap (λ (s : ℕ → F). peel rs s i) (fun_ext (λ j. sym (shift r h ts j))) ∙ peel_moment rs (λ x. h x ⊗ (x ⊕ r)) ts i
      ∙ psum_cong (λ x. h x ⊗ (x ⊕ r) ⊗ out rs x ⊗ pow x i) (λ x. h x ⊗ ((x ⊕ r) ⊗ out rs x) ⊗ pow x i) ts
      (λ x. ap (λ (y : F). y ⊗ pow x i) (mul_assoc (h x) (x ⊕ r) (out rs x)))

  pub peel_cong : (rs : List F) (s r : ℕ → F) (i : ℕ) → ((k : ℕ) → k ≤ i + length rs → s k ≡ r k) → peel rs s i ≡ peel rs r i
  unfolding peel
  peel_cong [] s r i e = e i (omega arith)
  peel_cong (a ∷ rs) s r i e = peel_cong rs (λ j. s (suc j) ⊕ a ⊗ s j) (λ j. r (suc j) ⊕ a ⊗ r j) i
      (λ k h. ap₂ (λ (x y : F). x ⊕ a ⊗ y) (e (suc k) (omega arith)) (e k (omega arith)))

  -- the places but x
  pub eq? : (a b : F) → Dec (a ≡ b)
  eq? a b = elim (L.dec (a ⊕ b)) [ yes e ↦ yes (same a b e) | no n ↦ no (λ e. n (ap (λ (x : F). a ⊕ x) (sym e) ∙ add_self a)) ]

  unfoldable pub pick : {A : Type 0} → Dec A → F → List F → List F
  pick (yes e) r rs = rs
  pick (no e) r rs = r ∷ rs

  unfoldable pub but : F → List F → List F
  but x [] = []
  but x (r ∷ rs) = pick (eq? r x) r (but x rs)

  pub but_length : (x : F) (rs : List F) → length (but x rs) ≤ length rs
  unfolding but pick
  but_length x [] = zero-le
  but_length x (r ∷ rs) = go (eq? r x) (but_length x rs)
    where
      go : (d : Dec (r ≡ x)) → length (but x rs) ≤ length rs → length (pick d r (but x rs)) ≤ suc (length rs)
      go (yes e) h = omega arith
      go (no e) h = omega arith

  pub but_ne : (x : F) (rs : List F) → one ≢ nil → out (but x rs) x ≢ nil
  unfolding but out pick
  but_ne x [] ne = ne
  but_ne x (r ∷ rs) ne = go (eq? r x) (but_ne x rs ne)
    where
      go : (d : Dec (r ≡ x)) → out (but x rs) x ≢ nil → out (pick d r (but x rs)) x ≢ nil
      go (yes e) h = h
      go (no e) h = λ q. e (sym (same x r (cancel (x ⊕ r) (out (but x rs) x) h q)))

  but_out : (x y v : F) (rs : List F) → y ≢ x → v ⊗ out rs y ≡ nil → v ⊗ out (but x rs) y ≡ nil
  unfolding but out pick
  but_out x y v [] ne e = e
  but_out x y v (r ∷ rs) ne e = go (eq? r x) (λ u. but_out x y u rs ne)
    where
      regroup : v ⊗ (y ⊕ r) ⊗ out rs y ≡ nil
      regroup = mul_assoc v (y ⊕ r) (out rs y) ∙ e

      go : (d : Dec (r ≡ x)) → ((u : F) → u ⊗ out rs y ≡ nil → u ⊗ out (but x rs) y ≡ nil) → v ⊗ out (pick d r (but x rs)) y ≡ nil
      go (yes q) ih =
          ih v (cancel (v ⊗ out rs y) (y ⊕ r) (λ z. ne (same y r z ∙ q)) (mul_assoc v (out rs y) (y ⊕ r) ∙ ap (λ (z : F). v ⊗ z) (mul_comm (out rs y) (y ⊕ r)) ∙ e))
      go (no q) ih = sym (mul_assoc v (y ⊕ r) (out (but x rs) y)) ∙ ih (v ⊗ (y ⊕ r)) regroup

  abbrev pub Cases : (F → F → Type 0) → Terms → Type 0
  Cases P [] = Unit {0}
  Cases P (t ∷ ts) = P t.0 t.1 × Cases P ts

  -- ---- the value at a place
  unfoldable pub value : List F → (ℕ → F) → F → F
  value rs s x = peel (but x rs) s 0 ⊗ L.inv (out (but x rs) x)

  pub but_hit : (x r : F) (rs : List F) → r ≡ x → but x (r ∷ rs) ≡ but x rs
  unfolding but pick
  but_hit x r rs e = go (eq? r x)
    where
      go : (d : Dec (r ≡ x)) → pick d r (but x rs) ≡ but x rs
      go (yes q) = refl
      go (no q) = absurd (q e)

  pub but_miss : (x r : F) (rs : List F) → r ≢ x → but x (r ∷ rs) ≡ r ∷ but x rs
  unfolding but pick
  but_miss x r rs e = go (eq? r x)
    where
      go : (d : Dec (r ≡ x)) → pick d r (but x rs) ≡ r ∷ but x rs
      go (yes q) = absurd (e q)
      go (no q) = refl

  pub value_is : (rs : List F) (s : ℕ → F) (x w d b : F) → one ≢ nil → peel (but x rs) s 0 ≡ w → out (but x rs) x ≡ d → d ⊗ b ≡ one → w ⊗ b ≡ value rs s x
  unfolding value
  value_is rs s x w d b ne ew ed e =
      ap₂ ◌⊗◌ (sym ew)
      (sym (mul_one b) ∙ ap (λ (y : F). b ⊗ y) (sym (L.mul_inv d (λ z. ne (sym e ∙ ap (λ (y : F). y ⊗ b) z ∙ nil_mul b)))) ∙ sym (mul_assoc b d (L.inv d))
      ∙ ap (λ (y : F). y ⊗ L.inv d) (mul_comm b d ∙ e) ∙ one_mul (L.inv d) ∙ ap L.inv (sym ed))

  -- where each other weight vanishes under g, the sum is the weight at x
  none_there : (x : F) (g : F → F) (rs : List F) (ts : Terms) → Apart x ts → Vanish (out rs) ts → psum (λ y. out (but x rs) y ⊗ g y) ts ≡ nil
  unfolding psum
  none_there x g rs [] a v = refl
  none_there x g rs (t ∷ ts) a v =
      ap₂ ◌⊕◌
      (sym (mul_assoc t.1 (out (but x rs) t.0) (g t.0))
      ∙ ap (λ (z : F). z ⊗ g t.0) (but_out x t.0 t.1 rs (λ e. a.0 (sym e)) v.0) ∙ nil_mul (g t.0))
      (none_there x g rs ts a.1 v.1)
      ∙ nil_add nil

  abbrev pub Mem : F → F → Terms → Type 0
  Mem x w [] = ⊥
  Mem x w (t ∷ ts) = ((x ≡ t.0) × (w ≡ t.1)) ⊎ Mem x w ts

  apart_mem : (a x w : F) (ts : Terms) → Apart a ts → Mem x w ts → a ≢ x
  apart_mem a x w [] d m = absurd m
  apart_mem a x w (t ∷ ts) d (inl q) = λ e. d.0 (e ∙ q.0)
  apart_mem a x w (t ∷ ts) d (inr m) = apart_mem a x w ts d.1 m

  single : (x w : F) (g : F → F) (rs : List F) (ts : Terms) → Distinct ts → Vanish (out rs) ts → Mem x w ts
      → psum (λ y. out (but x rs) y ⊗ g y) ts ≡ w ⊗ (out (but x rs) x ⊗ g x)
  unfolding psum
  single x w g rs [] D v m = absurd m
  single x w g rs (t ∷ ts) D v (inl q) =
      ap₂ ◌⊕◌ (ap₂ (λ (a b : F). a ⊗ (out (but x rs) b ⊗ g b)) (sym q.1) (sym q.0))
      (none_there x g rs ts (subst (λ (a : F). Apart a ts) (sym q.0) D.0) v.1)
      ∙ add_nil (w ⊗ (out (but x rs) x ⊗ g x))
  single x w g rs (t ∷ ts) D v (inr m) =
      ap₂ ◌⊕◌
      (sym (mul_assoc t.1 (out (but x rs) t.0) (g t.0))
      ∙ ap (λ (z : F). z ⊗ g t.0) (but_out x t.0 t.1 rs (apart_mem t.0 x w ts D.0 m) v.0) ∙ nil_mul (g t.0))
      (single x w g rs ts D.1 v.1 m)
      ∙ nil_add (w ⊗ (out (but x rs) x ⊗ g x))

  -- VALUES: where the places rs cover every weight, the value at a place is its weight
  pub value_right_but : (rs : List F) (ts : Terms) (s : ℕ → F) → one ≢ nil → (x : F) → ((i : ℕ) → i ≤ length (but x rs) → s i ≡ moment (λ x. one) ts i) → Distinct ts
      → Vanish (out rs) ts → (w : F) → Mem x w ts → value rs s x ≡ w
  unfolding value moment pow
  value_right_but rs ts s ne x e D v w m =
      ap (λ (z : F). z ⊗ L.inv (out (but x rs) x))
      (peel_cong (but x rs) s (moment (λ x. one) ts) 0 (λ k h. e k (omega arith))
      ∙ peel_moment (but x rs) (λ x. one) ts 0
      ∙ psum_cong (λ y. one ⊗ out (but x rs) y ⊗ pow y 0) (λ y. out (but x rs) y ⊗ one) ts (λ y. ap (λ (z : F). z ⊗ one) (one_mul (out (but x rs) y)))
      ∙ single x w (λ y. one) rs ts D v m ∙ ap (λ (z : F). w ⊗ z) (mul_one (out (but x rs) x)))
      ∙ mul_assoc w (out (but x rs) x) (L.inv (out (but x rs) x)) ∙ ap (λ (z : F). w ⊗ z) (L.mul_inv (out (but x rs) x) (but_ne x rs ne)) ∙ mul_one w

  pub value_right : (rs : List F) (ts : Terms) (s : ℕ → F) → one ≢ nil → ((i : ℕ) → i ≤ length rs → s i ≡ moment (λ x. one) ts i) → Distinct ts → Vanish (out rs) ts
      → (x w : F) → Mem x w ts → value rs s x ≡ w
  value_right rs ts s ne e D v x w m = value_right_but rs ts s ne x (λ i h. e i (let z = but_length x rs in omega arith)) D v w m

  -- ---- sums over the first m indices
  unfoldable pub fsum : ℕ → (ℕ → F) → F
  fsum zero f = nil
  fsum (suc m) f = fsum m f ⊕ f m

  pub fsum_cong : (m : ℕ) (f g : ℕ → F) → ((k : ℕ) → k < m → f k ≡ g k) → fsum m f ≡ fsum m g
  unfolding fsum
  fsum_cong zero f g e = refl
  fsum_cong (suc m) f g e = ap₂ ◌⊕◌ (fsum_cong m f g (λ k h. e k (omega arith))) (e m (omega arith))

  pub fsum_plus : (m : ℕ) (c : F) (u v s : ℕ → F) → fsum m (λ j. (v j ⊕ c ⊗ u j) ⊗ s j) ≡ fsum m (λ j. v j ⊗ s j) ⊕ c ⊗ fsum m (λ j. u j ⊗ s j)
  unfolding fsum
  fsum_plus zero c u v s = sym (ap (λ (x : F). nil ⊕ x) (mul_nil c) ∙ add_self nil)
  fsum_plus (suc m) c u v s =
      ap (λ (x : F). x ⊕ (v m ⊕ c ⊗ u m) ⊗ s m) (fsum_plus m c u v s)
      ∙ go (fsum m (λ j. v j ⊗ s j)) (fsum m (λ j. u j ⊗ s j)) (u m) (v m) (s m)
    where
      go : (A B a b x : F) → A ⊕ c ⊗ B ⊕ (b ⊕ c ⊗ a) ⊗ x ≡ A ⊕ b ⊗ x ⊕ c ⊗ (B ⊕ a ⊗ x)
      go A B a b x = simp ring

  fsum_front : (m : ℕ) (f : ℕ → F) → fsum (suc m) f ≡ f 0 ⊕ fsum m (λ k. f (suc k))
  unfolding fsum
  fsum_front zero f = add_comm nil (f 0)
  fsum_front (suc m) f = ap (λ (x : F). x ⊕ f (suc m)) (fsum_front m f) ∙ add_assoc (f 0) (fsum m (λ k. f (suc k))) (f (suc m))

  pub hank_fsum : (cs : List F) (s : ℕ → F) (i : ℕ) → hank cs s i ≡ fsum (length cs) (λ j. get_or cs j nil ⊗ s (i + j))
  unfolding hank fsum
  hank_fsum [] s i = refl
  hank_fsum (c ∷ cs) s i =
      ap₂ (λ (k : ℕ) (x : F). c ⊗ s k ⊕ x) (sym (add-zero i)) (hank_fsum cs s (suc i) ∙ fsum_cong (length cs) (λ j. get_or cs j nil ⊗ s (suc i + j)) (λ j. get_or cs j nil ⊗ s (i + suc j))
      (λ k h. ap (λ (n : ℕ). get_or cs k nil ⊗ s n) (suc-add i k ∙ sym (add-suc i k))))
      ∙ sym (fsum_front (length cs) (λ j. get_or (c ∷ cs) j nil ⊗ s (i + j)))

  fsum_scale : (m : ℕ) (x : F) (f : ℕ → F) → x ⊗ fsum m f ≡ fsum m (λ j. f j ⊗ x)
  unfolding fsum
  fsum_scale zero x f = mul_nil x
  fsum_scale (suc m) x f = mul_add x (fsum m f) (f m) ∙ ap₂ ◌⊕◌ (fsum_scale m x f) (mul_comm x (f m))

  -- a polynomial is the sum of its terms
  pub eval_fsum : (cs : List F) (x : F) → eval cs x ≡ fsum (length cs) (λ j. get_or cs j nil ⊗ pow x j)
  unfolding eval fsum pow
  eval_fsum [] x = refl
  eval_fsum (c ∷ cs) x =
      ap₂ ◌⊕◌ (sym (mul_one c))
      (ap (λ (y : F). x ⊗ y) (eval_fsum cs x) ∙ fsum_scale (length cs) x (λ j. get_or cs j nil ⊗ pow x j)
      ∙ fsum_cong (length cs) (λ j. get_or cs j nil ⊗ pow x j ⊗ x) (λ j. get_or cs j nil ⊗ (pow x j ⊗ x)) (λ k h. mul_assoc (get_or cs k nil) (pow x k) x))
      ∙ sym (fsum_front (length cs) (λ j. get_or (c ∷ cs) j nil ⊗ pow x j))

  -- ---- rows: the first entry belongs to the highest power
  module _ (α : F) where
    unfoldable pub terms : List F → Terms
    terms [] = []
    terms (b ∷ bs) = (pow α (length bs), b) ∷ terms bs

    unfoldable pub rowEval : List F → F → F
    rowEval [] x = nil
    rowEval (b ∷ bs) x = b ⊗ pow x (length bs) ⊕ rowEval bs x

    unfoldable pub diff : List F → List F → List F
    diff [] cs = []
    diff (r ∷ rs) [] = []
    diff (r ∷ rs) (c ∷ cs) = (r ⊕ c) ∷ diff rs cs

    -- each entry with the correction for its place added
    unfoldable pub mended : (F → F) → List F → List F
    mended f [] = []
    mended f (b ∷ bs) = (b ⊕ f (pow α (length bs))) ∷ mended f bs

    pow_one : (k : ℕ) → pow one k ≡ one
    unfolding pow
    pow_one zero = refl
    pow_one (suc k) = mul_one (pow one k) ∙ pow_one k

    mul_pow : (a b : F) (k : ℕ) → pow (a ⊗ b) k ≡ pow a k ⊗ pow b k
    unfolding pow
    mul_pow a b zero = sym (mul_one one)
    mul_pow a b (suc k) = ap (λ (x : F). x ⊗ (a ⊗ b)) (mul_pow a b k) ∙ simp ring

    pow_swap : (x : F) (i j : ℕ) → pow (pow x i) j ≡ pow (pow x j) i
    unfolding pow
    pow_swap x i zero = sym (pow_one i)
    pow_swap x i (suc j) = ap (λ (y : F). y ⊗ pow x i) (pow_swap x i j) ∙ sym (mul_pow (pow x j) x i)

    pub row_moment : (row : List F) (i : ℕ) → rowEval row (pow α i) ≡ moment (λ x. one) (terms row) i
    unfolding moment psum rowEval terms
    row_moment [] i = refl
    row_moment (b ∷ bs) i = ap₂ (λ (x y : F). b ⊗ x ⊕ y) (pow_swap α i (length bs) ∙ sym (one_mul (pow (pow α (length bs)) i))) (row_moment bs i)

    pub diff_length : (r c : List F) → length r ≡ length c → length (diff r c) ≡ length r
    unfolding diff
    diff_length [] c e = refl
    diff_length (r ∷ rs) [] e = absurd (omega arith)
    diff_length (r ∷ rs) (c ∷ cs) e = ap suc (diff_length rs cs (omega arith))

    pub diff_eval : (r c : List F) (x : F) → length r ≡ length c → rowEval (diff r c) x ≡ rowEval r x ⊕ rowEval c x
    unfolding rowEval diff
    diff_eval [] [] x e = sym (add_self nil)
    diff_eval [] (c ∷ cs) x e = absurd (omega arith)
    diff_eval (r ∷ rs) [] x e = absurd (omega arith)
    diff_eval (r ∷ rs) (c ∷ cs) x e =
        (let h : length rs ≡ length cs = omega arith in
        ap₂ (λ (n : ℕ) (y : F). (r ⊕ c) ⊗ pow x n ⊕ y) (diff_length rs cs h) (diff_eval rs cs x h)
        ∙ ap (λ (n : ℕ). (r ⊕ c) ⊗ pow x (length rs) ⊕ (rowEval rs x ⊕ rowEval cs x)) h
        ∙ split (pow x (length rs)) (rowEval rs x) (rowEval cs x)
        ∙ ap (λ (n : ℕ). r ⊗ pow x (length rs) ⊕ rowEval rs x ⊕ (c ⊗ pow x n ⊕ rowEval cs x)) h)
      where
        split : (u a b : F) → (r ⊕ c) ⊗ u ⊕ (a ⊕ b) ≡ r ⊗ u ⊕ a ⊕ (c ⊗ u ⊕ b)
        split u a b = simp ring

    terms_apart : (n : ℕ) (N : ℕ) → ((i j : ℕ) → i < N → j < N → pow α i ≡ pow α j → i ≡ j) → (row : List F) → length row ≤ n → n < N → Apart (pow α n) (terms row)
    unfolding terms
    terms_apart n N inj [] h l = tt
    terms_apart n N inj (b ∷ bs) h l =
        (λ e. let q : n ≡ length bs = inj n (length bs) l (omega arith) e in absurd (omega arith), terms_apart n N inj bs (omega arith) l)

    pub terms_distinct : (N : ℕ) → ((i j : ℕ) → i < N → j < N → pow α i ≡ pow α j → i ≡ j) → (row : List F) → length row ≤ N → Distinct (terms row)
    unfolding terms
    terms_distinct N inj [] h = tt
    terms_distinct N inj (b ∷ bs) h = (terms_apart (length bs) N inj bs (omega arith) h, terms_distinct N inj bs (omega arith))

    -- in how many places two rows differ
    unfoldable pub far : List F → List F → ℕ
    far [] cs = 0
    far (r ∷ rs) [] = 0
    far (r ∷ rs) (c ∷ cs) = bump (L.dec (r ⊕ c)) (far rs cs)

    bump_same : {A B : Type 0} (d : Dec A) (e : Dec B) (m n : ℕ) → (A → B) → (B → A) → m ≡ n → bump d m ≡ bump e n
    bump_same (yes a) (yes b) m n f g h = h
    bump_same (yes a) (no b) m n f g h = absurd (b (f a))
    bump_same (no a) (yes b) m n f g h = absurd (a (g b))
    bump_same (no a) (no b) m n f g h = ap suc h

    pub far_count : (r c : List F) → count (λ x. one) (terms (diff r c)) ≡ far r c
    unfolding far terms diff
    far_count [] cs = refl
    far_count (r ∷ rs) [] = refl
    far_count (r ∷ rs) (c ∷ cs) =
        bump_same (L.dec ((r ⊕ c) ⊗ one)) (L.dec (r ⊕ c)) (count (λ x. one) (terms (diff rs cs))) (far rs cs) (λ e. sym (mul_one (r ⊕ c)) ∙ e)
        (λ e. mul_one (r ⊕ c) ∙ e) (far_count rs cs)

    far_triangle : (r a b : List F) → length r ≡ length a → length r ≡ length b → far a b ≤ far r a + far r b
    unfolding far
    far_triangle [] [] b ha hb = zero-le
    far_triangle [] (a ∷ xs) b ha hb = absurd (omega arith)
    far_triangle (r ∷ rs) [] b ha hb = zero-le
    far_triangle (r ∷ rs) (a ∷ xs) [] ha hb = zero-le
    far_triangle (r ∷ rs) (a ∷ xs) (b ∷ bs) ha hb =
        go (L.dec (a ⊕ b)) (L.dec (r ⊕ a)) (L.dec (r ⊕ b)) (far_triangle rs xs bs (omega arith) (omega arith))
      where
        go : (d : Dec (a ⊕ b ≡ nil)) (e : Dec (r ⊕ a ≡ nil)) (f : Dec (r ⊕ b ≡ nil)) → far xs bs ≤ far rs xs + far rs bs
            → bump d (far xs bs) ≤ bump e (far rs xs) + bump f (far rs bs)
        go (yes d) (yes e) (yes f) h = h
        go (yes d) (yes e) (no f) h = omega arith
        go (yes d) (no e) (yes f) h = omega arith
        go (yes d) (no e) (no f) h = omega arith
        go (no d) (yes e) (yes f) h = absurd (d (ap₂ ◌⊕◌ (sym (same r a e)) (sym (same r b f)) ∙ add_self r))
        go (no d) (yes e) (no f) h = omega arith
        go (no d) (no e) (yes f) h = omega arith
        go (no d) (no e) (no f) h = omega arith

    diff_nil : (a b : List F) → length a ≡ length b → Vanish (λ x. one) (terms (diff a b)) → a ≡ b
    unfolding diff terms
    diff_nil [] [] e v = refl
    diff_nil [] (b ∷ bs) e v = absurd (omega arith)
    diff_nil (a ∷ xs) [] e v = absurd (omega arith)
    diff_nil (a ∷ xs) (b ∷ bs) e v = ap₂ (λ (x : F) (l : List F). x ∷ l) (same a b (sym (mul_one (a ⊕ b)) ∙ v.0)) (diff_nil xs bs (omega arith) v.1)

    abbrev pub Code : ℕ → List F → Type 0
    Code p row = (i : ℕ) → i < p → rowEval row (pow α i) ≡ nil

    -- ---- the places at which cs vanishes, among those of a row of n
    unfoldable pub keep : {A : Type 0} → Dec A → F → List F → List F
    keep (yes e) r rs = r ∷ rs
    keep (no e) r rs = rs

    unfoldable pub roots : List F → ℕ → List F
    roots cs zero = []
    roots cs (suc n) = keep (L.dec (eval cs (pow α n))) (pow α n) (roots cs n)

    unfoldable pub choose : {A : Type 0} → Dec A → F → F
    choose (yes e) a = a
    choose (no e) a = nil

    -- what is added at the place x
    unfoldable pub fixer : List F → List F → (ℕ → F) → F → F
    fixer cs rs s x = choose (L.dec (eval cs x)) (value rs s x)

    pub roots_hit : (cs : List F) (n : ℕ) → eval cs (pow α n) ≡ nil → roots cs (suc n) ≡ pow α n ∷ roots cs n
    unfolding roots keep
    roots_hit cs n e = go (L.dec (eval cs (pow α n)))
      where
        go : (d : Dec (eval cs (pow α n) ≡ nil)) → keep d (pow α n) (roots cs n) ≡ pow α n ∷ roots cs n
        go (yes q) = refl
        go (no q) = absurd (q e)

    pub roots_miss : (cs : List F) (n : ℕ) → eval cs (pow α n) ≢ nil → roots cs (suc n) ≡ roots cs n
    unfolding roots keep
    roots_miss cs n e = go (L.dec (eval cs (pow α n)))
      where
        go : (d : Dec (eval cs (pow α n) ≡ nil)) → keep d (pow α n) (roots cs n) ≡ roots cs n
        go (yes q) = absurd (e q)
        go (no q) = refl

    -- what is added at the place x, which is one of rs or not
    unfoldable pub filler : List F → (ℕ → F) → F → F
    filler rs s x = choose (L.dec (out rs x)) (value rs s x)

    pub filler_hit : (rs : List F) (s : ℕ → F) (x : F) → out rs x ≡ nil → filler rs s x ≡ value rs s x
    unfolding filler choose
    filler_hit rs s x e = go (L.dec (out rs x))
      where
        go : (d : Dec (out rs x ≡ nil)) → choose d (value rs s x) ≡ value rs s x
        go (yes q) = refl
        go (no q) = absurd (q e)

    pub filler_miss : (rs : List F) (s : ℕ → F) (x : F) → out rs x ≢ nil → filler rs s x ≡ nil
    unfolding filler choose
    filler_miss rs s x e = go (L.dec (out rs x))
      where
        go : (d : Dec (out rs x ≡ nil)) → choose d (value rs s x) ≡ nil
        go (yes q) = absurd (e q)
        go (no q) = refl

    pub fixer_hit : (cs rs : List F) (s : ℕ → F) (x : F) → eval cs x ≡ nil → fixer cs rs s x ≡ value rs s x
    unfolding fixer choose
    fixer_hit cs rs s x e = go (L.dec (eval cs x))
      where
        go : (d : Dec (eval cs x ≡ nil)) → choose d (value rs s x) ≡ value rs s x
        go (yes q) = refl
        go (no q) = absurd (q e)

    pub fixer_miss : (cs rs : List F) (s : ℕ → F) (x : F) → eval cs x ≢ nil → fixer cs rs s x ≡ nil
    unfolding fixer choose
    fixer_miss cs rs s x e = go (L.dec (eval cs x))
      where
        go : (d : Dec (eval cs x ≡ nil)) → choose d (value rs s x) ≡ nil
        go (yes q) = absurd (e q)
        go (no q) = refl

    module _ (N : ℕ) (inj : (i j : ℕ) → i < N → j < N → pow α i ≡ pow α j → i ≡ j) where
      -- UNIQUENESS: two code rows that differ in p places at most are the same
      pub same_code : (p : ℕ) (a b : List F) → length a ≡ length b → length a ≤ N → Code p a → Code p b → far a b ≤ p → a ≡ b
      unfolding moment
      same_code p a b e l ca cb h =
          diff_nil a b e
          (vander (terms (diff a b)) p (λ x. one) (terms_distinct N inj (diff a b) (rw (diff_length a b e) l)) (rw far_count h)
          (λ i hi. sym (row_moment (diff a b) i) ∙ diff_eval a b (pow α i) e ∙ ap₂ ◌⊕◌ (ca i hi) (cb i hi) ∙ add_self nil))

      pub one_code : (p t : ℕ) (r a b : List F) → length r ≡ length a → length r ≡ length b → length r ≤ N → t + t ≤ p → Code p a → Code p b
          → far r a ≤ t → far r b ≤ t → a ≡ b
      one_code p t r a b ea eb l h ca cb ha hb =
          same_code p a b (sym ea ∙ eb) (rw (← ea) l) ca cb (let q : far a b ≤ far r a + far r b = far_triangle r a b ea eb in omega arith)

      roots_out : (cs : List F) (n m : ℕ) → m < n → eval cs (pow α m) ≡ nil → out (roots cs n) (pow α m) ≡ nil
      unfolding roots keep out
      roots_out cs zero m h e = absurd (not-suc-le-zero h)
      roots_out cs (suc n) m h e = elim (ℕ_discrete m n) [ yes q ↦ here (L.dec (eval cs (pow α n))) q | no q ↦ there (L.dec (eval cs (pow α n))) (roots_out cs n m (omega arith) e) ]
        where
          here : (d : Dec (eval cs (pow α n) ≡ nil)) → m ≡ n → out (keep d (pow α n) (roots cs n)) (pow α m) ≡ nil
          here (yes d) q = rw q (ap (λ (x : F). x ⊗ out (roots cs n) (pow α n)) (add_self (pow α n)) ∙ nil_mul (out (roots cs n) (pow α n)))
          here (no d) q = absurd (d (subst (λ (k : ℕ). eval cs (pow α k) ≡ nil) q e))

          there : (d : Dec (eval cs (pow α n) ≡ nil)) → out (roots cs n) (pow α m) ≡ nil → out (keep d (pow α n) (roots cs n)) (pow α m) ≡ nil
          there (yes d) q = ap (λ (x : F). (pow α m ⊕ pow α n) ⊗ x) q ∙ mul_nil (pow α m ⊕ pow α n)
          there (no d) q = q

      -- every weight at a place where cs vanishes: the roots cover them
      cover : (cs : List F) (n : ℕ) (row : List F) → length row ≤ n → Vanish (λ x. one ⊗ eval cs x) (terms row) → Vanish (out (roots cs n)) (terms row)
      unfolding terms
      cover cs n [] h v = tt
      cover cs n (b ∷ bs) h v = (go (L.dec (eval cs (pow α (length bs)))), cover cs n bs (omega arith) v.1)
        where
          go : Dec (eval cs (pow α (length bs)) ≡ nil) → b ⊗ out (roots cs n) (pow α (length bs)) ≡ nil
          go (yes e) = ap (λ (x : F). b ⊗ x) (roots_out cs n (length bs) h e) ∙ mul_nil b
          go (no e) =
              ap (λ (x : F). x ⊗ out (roots cs n) (pow α (length bs)))
              (cancel b (eval cs (pow α (length bs))) e (ap (λ (x : F). b ⊗ x) (sym (one_mul (eval cs (pow α (length bs))))) ∙ v.0))
              ∙ nil_mul (out (roots cs n) (pow α (length bs)))

      keep_apart : (x : F) (cs : List F) (n : ℕ) → ((m : ℕ) → m < n → x ≢ pow α m) → ApartL x (roots cs n)
      unfolding roots keep
      keep_apart x cs zero h = tt
      keep_apart x cs (suc n) h = go (L.dec (eval cs (pow α n))) (keep_apart x cs n (λ m l. h m (omega arith)))
        where
          go : (d : Dec (eval cs (pow α n) ≡ nil)) → ApartL x (roots cs n) → ApartL x (keep d (pow α n) (roots cs n))
          go (yes d) q = (h n (omega arith), q)
          go (no d) q = q

      roots_distinct : (cs : List F) (n : ℕ) → n ≤ N → DistinctL (roots cs n)
      unfolding roots keep
      roots_distinct cs zero h = tt
      roots_distinct cs (suc n) h = go (L.dec (eval cs (pow α n))) (roots_distinct cs n (omega arith))
        where
          go : (d : Dec (eval cs (pow α n) ≡ nil)) → DistinctL (roots cs n) → DistinctL (keep d (pow α n) (roots cs n))
          go (yes d) q = (keep_apart (pow α n) cs n (λ m l e. let z : n ≡ m = inj n m (omega arith) (omega arith) e in absurd (omega arith)), q)
          go (no d) q = q

      roots_roots : (cs : List F) (n : ℕ) → Roots cs (roots cs n)
      unfolding roots keep
      roots_roots cs zero = tt
      roots_roots cs (suc n) = go (L.dec (eval cs (pow α n))) (roots_roots cs n)
        where
          go : (d : Dec (eval cs (pow α n) ≡ nil)) → Roots cs (roots cs n) → Roots cs (keep d (pow α n) (roots cs n))
          go (yes d) q = (d, q)
          go (no d) q = q

      -- FEW ROOTS
      pub roots_few : (cs : List F) (n : ℕ) → n ≤ N → (Nils cs → ⊥) → length (roots cs n) < length cs
      roots_few cs n h z = elim (dec_lt (length (roots cs n)) (length cs))
          [ yes q ↦ q | no q ↦ absurd (z (few_roots (roots cs n) cs (roots_distinct cs n h) (roots_roots cs n) (omega arith))) ]

      vanish_mem : (h : F → F) (x w : F) (ts : Terms) → Vanish h ts → Mem x w ts → w ⊗ h x ≡ nil
      vanish_mem h x w [] v m = absurd m
      vanish_mem h x w (t ∷ ts) v (inl q) = ap₂ (λ (a b : F). a ⊗ h b) q.1 q.0 ∙ v.0
      vanish_mem h x w (t ∷ ts) v (inr m) = vanish_mem h x w ts v.1 m

      mended_right : (f : F → F) (r c : List F) → length r ≡ length c → ((x w : F) → Mem x w (terms (diff r c)) → f x ≡ w) → mended f r ≡ c
      unfolding mended diff terms
      mended_right f [] [] e h = refl
      mended_right f [] (c ∷ cs) e h = absurd (omega arith)
      mended_right f (r ∷ rs) [] e h = absurd (omega arith)
      mended_right f (r ∷ rs) (c ∷ cs) e h =
          let l : length rs ≡ length cs = omega arith in
          ap₂ (λ (x : F) (xs : List F). x ∷ xs)
          (ap (λ (y : F). r ⊕ y) (h (pow α (length rs)) (r ⊕ c) (inl (ap (pow α) (sym (diff_length rs cs l)), refl))) ∙ add_twice r c)
          (mended_right f rs cs l (λ x w m. h x w (inr m)))

      -- COMPLETENESS of the mender: where a code row lies near, the fixed row is that row
      pub complete : (p t n : ℕ) (r c cs : List F) (s : ℕ → F) → one ≢ nil → length r ≡ n → length c ≡ n → n ≤ N → t + length cs ≤ suc p
          → ((i : ℕ) → i < p → s i ≡ rowEval r (pow α i)) → Code p c → far r c ≤ t → ((i : ℕ) → i < t → hank cs s i ≡ nil)
          → length (roots cs n) < p → mended (fixer cs (roots cs n) s) r ≡ c
      unfolding fixer choose
      complete p t n r c cs s ne er ec hn ht es cc hf hk hr =
          let e : length r ≡ length c = er ∙ sym ec in
          let d : List F = diff r c in
          let ed : length d ≡ n = diff_length r c e ∙ er in
          let D : Distinct (terms d) = terms_distinct N inj d (rw ed hn) in
          let sd : (i : ℕ) → i < p → s i ≡ moment (λ x. one) (terms d) i =
          λ i hi. es i hi ∙ sym (add_nil (rowEval r (pow α i))) ∙ ap (λ (x : F). rowEval r (pow α i) ⊕ x) (sym (cc i hi)) ∙ sym (diff_eval r c (pow α i) e) ∙ row_moment d i in
          let V : Vanish (λ x. one ⊗ eval cs x) (terms d) = locate cs s (λ x. one) (terms d) t p D (rw far_count hf) ht sd hk in
          let C : Vanish (out (roots cs n)) (terms d) = cover cs n d (rw ed (omega arith)) V in
          let go : (x w : F) → Mem x w (terms d) → (q : Dec (eval cs x ≡ nil)) → choose q (value (roots cs n) s x) ≡ w =
          λ x w m. elim [
            | yes q ↦ value_right (roots cs n) (terms d) s ne (λ i hi. sd i (omega arith)) D C x w m
            | no q ↦ sym (cancel w (eval cs x) q (ap (λ (y : F). w ⊗ y) (sym (one_mul (eval cs x))) ∙ vanish_mem (λ x. one ⊗ eval cs x) x w (terms d) V m))
          ] in
          mended_right (fixer cs (roots cs n) s) r c e (λ x w m. go x w m (L.dec (eval cs x)))

      -- ---- with places that are known beforehand
      out_append : (xs ys : List F) (x : F) → out (xs ++ ys) x ≡ out xs x ⊗ out ys x
      unfolding out
      out_append [] ys x = sym (one_mul (out ys x))
      out_append (a ∷ xs) ys x = ap (λ (y : F). (x ⊕ a) ⊗ y) (out_append xs ys x) ∙ sym (mul_assoc (x ⊕ a) (out xs x) (out ys x))

      pub but_shorter : (x : F) (rs : List F) → one ≢ nil → out rs x ≡ nil → length (but x rs) < length rs
      unfolding but out pick
      but_shorter x [] ne e = absurd (ne e)
      but_shorter x (r ∷ rs) ne e = go (eq? r x) (but_length x rs) (but_shorter x rs ne)
        where
          go : (d : Dec (r ≡ x)) → length (but x rs) ≤ length rs → (out rs x ≡ nil → length (but x rs) < length rs) → length (pick d r (but x rs)) < suc (length rs)
          go (yes q) h ih = omega arith
          go (no q) h ih =
              let z : length (but x rs) < length rs = ih (cancel (out rs x) (x ⊕ r) (λ w. q (sym (same x r w))) (mul_comm (out rs x) (x ⊕ r) ∙ e)) in
              omega arith

      -- the places cover every weight: the filled row is the code row
      pub complete_cover : (p n : ℕ) (r c rs : List F) (s : ℕ → F) → one ≢ nil → length r ≡ n → length c ≡ n → n ≤ N
          → ((i : ℕ) → i < p → s i ≡ rowEval r (pow α i)) → Code p c → length rs ≤ p → Vanish (out rs) (terms (diff r c)) → mended (filler rs s) r ≡ c
      unfolding filler choose
      complete_cover p n r c rs s ne er ec hn es cc hr C =
          let e : length r ≡ length c = er ∙ sym ec in
          let d : List F = diff r c in
          let ed : length d ≡ n = diff_length r c e ∙ er in
          let D : Distinct (terms d) = terms_distinct N inj d (rw ed hn) in
          let sd : (i : ℕ) → i < p → s i ≡ moment (λ x. one) (terms d) i =
          λ i hi. es i hi ∙ sym (add_nil (rowEval r (pow α i))) ∙ ap (λ (x : F). rowEval r (pow α i) ⊕ x) (sym (cc i hi)) ∙ sym (diff_eval r c (pow α i) e) ∙ row_moment d i in
          let go : (x w : F) → Mem x w (terms d) → (q : Dec (out rs x ≡ nil)) → choose q (value rs s x) ≡ w =
          λ x w m. elim [
            | yes q ↦ value_right_but rs (terms d) s ne x (λ i hi. sd i (let z = but_shorter x rs ne q in omega arith)) D C w m
            | no q ↦ sym (cancel w (out rs x) q (vanish_mem (out rs) x w (terms d) C m))
          ] in
          mended_right (filler rs s) r c e (λ x w m. go x w m (L.dec (out rs x)))

      cover_both : (cs ks : List F) (n : ℕ) (row : List F) → length row ≤ n → Vanish (λ x. one ⊗ out ks x ⊗ eval cs x) (terms row) → Vanish (out (ks ++ roots cs n)) (terms row)
      unfolding terms
      cover_both cs ks n [] h v = tt
      cover_both cs ks n (b ∷ bs) h v = (ap (λ (y : F). b ⊗ y) (out_append ks (roots cs n) (pow α (length bs))) ∙ go (L.dec (eval cs (pow α (length bs)))), cover_both cs ks n bs (omega arith) v.1)
        where
          x : F
          x = pow α (length bs)

          go : Dec (eval cs x ≡ nil) → b ⊗ (out ks x ⊗ out (roots cs n) x) ≡ nil
          go (yes e) = ap (λ (y : F). b ⊗ (out ks x ⊗ y)) (roots_out cs n (length bs) h e) ∙ ap (λ (y : F). b ⊗ y) (mul_nil (out ks x)) ∙ mul_nil b
          go (no e) =
              sym (mul_assoc b (out ks x) (out (roots cs n) x))
              ∙ ap (λ (y : F). y ⊗ out (roots cs n) x)
              (cancel (b ⊗ out ks x) (eval cs x) e
              (mul_assoc b (out ks x) (eval cs x) ∙ ap (λ (y : F). b ⊗ (y ⊗ eval cs x)) (sym (one_mul (out ks x))) ∙ v.0))
              ∙ nil_mul (out (roots cs n) x)

      -- the weights outside of the known places are found: with the roots, all are covered
      pub cover_known : (p t n : ℕ) (r c ks cs : List F) (s u : ℕ → F) → length r ≡ n → length c ≡ n → n ≤ N → length ks + (t + length cs) ≤ suc p
          → ((i : ℕ) → i < p → s i ≡ rowEval r (pow α i)) → Code p c → count (out ks) (terms (diff r c)) ≤ t
          → ((i : ℕ) → i + length ks < p → u i ≡ peel ks s i) → ((i : ℕ) → i < t → hank cs u i ≡ nil) → Vanish (out (ks ++ roots cs n)) (terms (diff r c))
      cover_known p t n r c ks cs s u er ec hn hb es cc hc eu hk =
          let e : length r ≡ length c = er ∙ sym ec in
          let d : List F = diff r c in
          let ed : length d ≡ n = diff_length r c e ∙ er in
          let D : Distinct (terms d) = terms_distinct N inj d (rw ed hn) in
          let sd : (i : ℕ) → i < p → s i ≡ moment (λ x. one) (terms d) i =
          λ i hi. es i hi ∙ sym (add_nil (rowEval r (pow α i))) ∙ ap (λ (x : F). rowEval r (pow α i) ⊕ x) (sym (cc i hi)) ∙ sym (diff_eval r c (pow α i) e) ∙ row_moment d i in
          let ud : (i : ℕ) → i < t + length cs - 1 → u i ≡ moment (λ x. one ⊗ out ks x) (terms d) i =
          λ i hi. eu i (omega arith) ∙ peel_cong ks s (moment (λ x. one) (terms d)) i (λ k hk. sd k (omega arith)) ∙ peel_moment ks (λ x. one) (terms d) i in
          let cnt : count (λ x. one ⊗ out ks x) (terms d) ≤ t = subst (λ (h : F → F). count h (terms d) ≤ t) (fun_ext (λ x. sym (one_mul (out ks x)))) hc in
          cover_both cs ks n d (rw ed (omega arith))
          (locate cs u (λ x. one ⊗ out ks x) (terms d) t (t + length cs - 1) D cnt (omega arith) ud hk)
