-- Laws for a loop that asks a question of a list from its front on: what is left of the list decides. And what std says of the same questions.
-- Assumes nothing.
use Rattle.std.proofs.Common.{Some, None, IsTrue, ◌↔◌, slice_index_or}
use Rattle.std.specs.List.{Any}
use mathlib.Core.Path.{◌≡◌, refl, sym, ap, ◌∙◌}
use mathlib.Core.Bool.{Bool, true, false, ◌&&◌}
use mathlib.Core.List.{List, [], ◌∷◌}
use Prim.Native.Nat.{ℕ, zero, suc, ◌+◌, ◌≤◌, ◌<◌}
use native.Mathlib.Numerals.{add-one}
use native.Mathlib.Nat.{zero-add}
use native.Mathlib.Omega.{arith}
use lib.ListN.{length, get_or, drop, drop_of_length-le}
use lib.Seq.{drop-cons}
use lib.Dec.{eqb}
use borrow.Author.Tests.{eq-eqb, eqb-true}
use Rattle.std.specs.Cmp.Lexicographic.{pointwise}
use Rattle.octets.specs.Choice.{both, either}
use Rattle.octets.specs.Says.{Says}
use Rattle.octets.specs.Search.{first_at, count_if, some, all, same_list}
use Rattle.octets.proofs.ChoiceLaws.{both_left, both_right}
use Rattle.octets.proofs.SaysLaws.{never, says-yes, says_no, says_of, says_same}

module _ {A : Type 0} where
  pub drop_next : (l : List A) (i : ℕ) (d : A) → i < length l → drop i l ≡ get_or l i d ∷ drop (i + 1) l
  drop_next l i d h = rw (add-one, drop-cons l i d h)

  pub drop-none : (l : List A) (i : ℕ) → length l ≤ i → drop i l ≡ []
  drop-none l i h = drop_of_length-le l {i = i} h

  -- the place i is looked at next
  module _ (p : A → Bool) (l : List A) (i : ℕ) (d : A) (h : i < length l) where
    pub first-here : p (get_or l i d) ≡ true → first_at p i (drop i l) ≡ Some i
    unfolding first_at
    first-here e = rw (drop_next l i d h, e)

    pub first_next : p (get_or l i d) ≡ false → first_at p i (drop i l) ≡ first_at p (i + 1) (drop (i + 1) l)
    unfolding first_at
    first_next e = rw (drop_next l i d h, e, add-one)

    pub count-here : p (get_or l i d) ≡ true → count_if p (drop i l) ≡ 1 + count_if p (drop (i + 1) l)
    unfolding count_if
    count-here e = rw (drop_next l i d h, e)

    pub count_next : p (get_or l i d) ≡ false → count_if p (drop i l) ≡ count_if p (drop (i + 1) l)
    unfolding count_if
    count_next e = rw (drop_next l i d h, e) (zero-add _)

    pub some-here : p (get_or l i d) ≡ true → some p (drop i l) ≡ true
    unfolding some
    some-here e = rw (drop_next l i d h, e)

    pub some_next : p (get_or l i d) ≡ false → some p (drop i l) ≡ some p (drop (i + 1) l)
    unfolding some
    some_next e = rw (drop_next l i d h, e)

    pub all_here : p (get_or l i d) ≡ false → all p (drop i l) ≡ false
    unfolding all
    all_here e = rw (drop_next l i d h, e)

    pub all_next : p (get_or l i d) ≡ true → all p (drop i l) ≡ all p (drop (i + 1) l)
    unfolding all
    all_next e = rw (drop_next l i d h, e)

  -- nothing is left to look at
  module _ (p : A → Bool) (l : List A) (i : ℕ) (h : length l ≤ i) where
    pub first_end : first_at p i (drop i l) ≡ None
    unfolding first_at
    first_end = rw (drop-none l i h)

    pub count_end : count_if p (drop i l) ≡ 0
    unfolding count_if
    count_end = rw (drop-none l i h)

    pub some_end : some p (drop i l) ≡ false
    unfolding some
    some_end = rw (drop-none l i h)

    pub all_end : all p (drop i l) ≡ true
    unfolding all
    all_end = rw (drop-none l i h)

-- ---- what std says of a chain's `any`

module _ {A : Type 0} (p : A → Bool) where
  pub some_says : (l : List A) → Says (some p l) (Any (λ x. IsTrue (p x)) l)
  unfolding some
  some_says [] = says_no (λ (a : Any (λ x. IsTrue (p x)) []). absurd (omega (arith, a.2)))
  some_says (x ∷ l) = by (p x) refl (some_says l)
    where
      later : p x ≡ false → (k : ℕ) (y : A) → k < length (x ∷ l) → slice_index_or (x ∷ l) k y ≡ y → p y ≡ true → Any (λ x. IsTrue (p x)) l
      later e zero y h q t = absurd (never (sym e ∙ ap p q ∙ t))
      later e (suc k) y h q t = (k, y, omega arith, q, t)

      by : (b : Bool) → p x ≡ b → Says (some p l) (Any (λ x. IsTrue (p x)) l) → Says (either b (some p l)) (Any (λ x. IsTrue (p x)) (x ∷ l))
      by true e s = says-yes (0, x, omega arith, refl, e)
      by false e s =
          says_of (λ a. (suc a.0, a.1, omega (arith, a.2), a.3, a.4)) (λ (a : Any (λ x. IsTrue (p x)) (x ∷ l)). later e a.0 a.1 a.2 a.3 a.4) s

  pub some_any : (l : List A) (b : Bool) → (IsTrue b ↔ Any (λ x. IsTrue (p x)) l) → b ≡ some p l
  some_any l b h = let s : Says b (Any (λ x. IsTrue (p x)) l) = record { right = h.0; all = h.1 } in says_same s (some_says l)

-- ---- two lists side by side

-- the test is true exactly where the lists are equal
pub same_right : (l k : List ℕ) → same_list l k ≡ true → l ≡ k
unfolding same_list
same_right [] [] e = refl
same_right [] (y ∷ k) e = absurd (never e)
same_right (x ∷ l) [] e = absurd (never e)
same_right (x ∷ l) (y ∷ k) e =
    let h : x ≡ y = eqb-true x y (both_left (eqb x y) (same_list l k) e) in
    let t : l ≡ k = same_right l k (both_right (eqb x y) (same_list l k) e) in
    cc

pub same_all : (l : List ℕ) → same_list l l ≡ true
unfolding same_list
same_all [] = refl
same_all (x ∷ l) = rw (eq-eqb x x refl) (same_all l)

pub same_says : (l k : List ℕ) → Says (same_list l k) (l ≡ k)
same_says l k = record { right = same_right l k; all = λ e. ap (same_list l) (sym e) ∙ same_all l }

-- std's comparison of two slices asks the same
pub pointwise_same : (l k : List ℕ) → pointwise eqb l k ≡ same_list l k
unfolding same_list
pointwise_same [] [] = refl
pointwise_same [] (y ∷ k) = refl
pointwise_same (x ∷ l) [] = refl
pointwise_same (x ∷ l) (y ∷ k) = by (eqb x y) (pointwise_same l k)
  where
    by : (b : Bool) → pointwise eqb l k ≡ same_list l k → (b && pointwise eqb l k) ≡ both b (same_list l k)
    by true e = e
    by false e = refl
