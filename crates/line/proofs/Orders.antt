-- The laws of a line over several calls.
use Rattle.std.proofs.Common.{◌≡◌, ℕ, ◌+◌, ◌*◌, ◌<◌, false, List, [], ◌∷◌, ◌++◌, length, ℤ, pos, sym, ap, ◌∙◌, append-nil, arith, length-append}
use Rattle.std.proofs.lemmas.List.{nil_from_length, ext_get_or}
use Rattle.line.specs.State.{State, Arrived, with_waiting}
use Rattle.line.specs.Laws.{Takes, PutAndTaken, LineLaws}

-- what takes leave
takes_leave : (s t : State) (gs : List (List ℤ)) → Takes s gs t → (s.waiting ≡ gs ++ t.waiting) × (t ≡ with_waiting s t.waiting s.number)
takes_leave s t [] e = (ap (λ (u : State). u.waiting) (sym e), e ∙ ap (λ (u : State). with_waiting s u.waiting s.number) (sym e))
takes_leave s t (g ∷ gs) (u, a, b) =
    let l = takes_leave u t gs b in
    let w : u.waiting ≡ a.rest = ap (λ (v : State). v.waiting) a.after in
    (a.oldest ∙ ap (λ ws. g ∷ ws) (sym w ∙ l.0), l.1 ∙ ap (λ (v : State). with_waiting v t.waiting v.number) a.after)

-- no list is shorter by one and the same
none_left : (xs ys zs : List (List ℤ)) → xs ≡ ys ++ zs → length ys ≡ length xs → zs ≡ []
none_left xs ys zs e l = nil_from_length zs (let m = length-append ys zs in let k = ap length e in omega arith)

all_taken : (s t u : State) (f : List ℤ) (gs : List (List ℤ)) → Arrived s f t → Takes t gs u → length gs ≡ length s.waiting + 1 → PutAndTaken s f gs u
all_taken s t u f gs a k n =
    let l = takes_leave t u gs k in
    let w : t.waiting ≡ s.waiting ++ a.came ∷ [] = ap (λ (v : State). v.waiting) a.after in
    let m : length (s.waiting ++ a.came ∷ []) ≡ length s.waiting + 1 = length-append s.waiting (a.came ∷ []) in
    let none : u.waiting ≡ [] = none_left t.waiting gs u.waiting l.0 (n ∙ sym m ∙ ap length (sym w)) in
    record {
      came = a.came;
      stands = a.stands;
      order = sym (append-nil gs) ∙ ap (λ ws. gs ++ ws) (sym none) ∙ sym l.0 ∙ w;
      emptied = l.1 ∙ ap (λ ws. with_waiting t ws t.number) none ∙ ap (λ (v : State). with_waiting v [] v.number) a.after;
    }

as_it_is : (s t : State) (f : List ℤ) → length f ≡ 832 → Arrived s f t → ((i : ℕ) → i < 832 → s.scheduled (832 * s.number + i) ≡ false) → t.waiting ≡ s.waiting ++ f ∷ []
as_it_is s t f long a dark =
    let g = a.stands.segment.long in
    let same : a.came ≡ f = ext_get_or (pos 0) a.came f (g ∙ sym long) (λ i h. a.stands.same i (omega arith) (dark i (omega arith))) in
    ap (λ (v : State). v.waiting) a.after ∙ ap (λ x. s.waiting ++ x ∷ []) same

-- the laws of every line
pub line_laws : LineLaws
line_laws =
    record {
      put_then_taken = all_taken;
      unscheduled_comes_as_it_is = as_it_is;
      put_keeps_schedule = λ s t f a. ap (λ (v : State). v.scheduled) a.after;
      take_keeps_schedule = λ s t g a. ap (λ (v : State). v.scheduled) a.after;
    }
