-- Chains over the places of a list: what they find, count and ask of each place is what the list's members say.
-- Assumes nothing.
use Rattle.std.proofs.Common.{Some}
use Rattle.std.specs.List.{range_with_len, find, filter, list_any, list_all}
use mathlib.Core.Path.{◌≡◌, refl, sym, ap, ◌∙◌}
use mathlib.Core.Bool.{Bool, true, false, cond, not, ◌&&◌, ◌||◌}
use mathlib.Core.List.{List, [], ◌∷◌}
use Prim.Native.Nat.{ℕ, zero, suc, ◌+◌, ◌≤◌, ◌<◌}
use native.Mathlib.Nat.{zero-add}
use native.Mathlib.Numerals.{add-one}
use native.Mathlib.Omega.{arith}
use lib.ListN.{length, get_or, take, drop}
use lib.Seq.{get_or-take, get_or-drop, length-take-le}
use Rattle.octets.specs.Choice.{pick, both, either, one}
use Rattle.octets.specs.Fold.{up_to}
use Rattle.octets.specs.Says.{Says}
use Rattle.octets.specs.Search.{first_at, count_if, some, all}
use Rattle.octets.proofs.SaysLaws.{says-yes, says_of, says_same}
use Rattle.octets.proofs.ChoiceLaws.{says-true, says_both}
use Rattle.octets.proofs.FoldLaws.{every_says}

-- ---- a test of places, and one of members

module _ {A : Type 0} (p : A → Bool) (t : ℕ → Bool) (d : A) where
  -- the place a + i is asked what the member at i is
  abbrev Asks : ℕ → List A → Type 0
  Asks a l = (i : ℕ) → i < length l → t (a + i) ≡ p (get_or l i d)

  here : (a : ℕ) (x : A) (l : List A) → Asks a (x ∷ l) → t a ≡ p x
  here a x l h = let z : a + 0 ≡ a = omega arith in ap t (sym z) ∙ h 0 (omega arith)

  rest : (a : ℕ) (x : A) (l : List A) → Asks a (x ∷ l) → Asks (a + 1) l
  rest a x l h = λ i k. let z : a + 1 + i ≡ a + suc i = omega arith in ap t z ∙ h (suc i) (omega arith)

  found_in : (a : ℕ) (l : List A) → Asks a l → find t (range_with_len a (length l)) ≡ first_at p a l
  unfolding first_at
  found_in a [] h = refl
  found_in a (x ∷ l) h = rw (here a x l h) (by (p x) (found_in (a + 1) l (rest a x l h) ∙ ap (λ (n : ℕ). first_at p n l) (add-one a)))
    where
      by : (b : Bool) → find t (range_with_len (a + 1) (length l)) ≡ first_at p (suc a) l
          → cond b (Some a) (find t (range_with_len (a + 1) (length l))) ≡ pick b (Some a) (first_at p (suc a) l)
      by true e = refl
      by false e = e

  counted_in : (a : ℕ) (l : List A) → Asks a l → length (filter t (range_with_len a (length l))) ≡ count_if p l
  unfolding count_if
  counted_in a [] h = refl
  counted_in a (x ∷ l) h = rw (here a x l h) (by (p x) (counted_in (a + 1) l (rest a x l h)))
    where
      by : (b : Bool) → length (filter t (range_with_len (a + 1) (length l))) ≡ count_if p l
          → length (cond b (a ∷ filter t (range_with_len (a + 1) (length l))) (filter t (range_with_len (a + 1) (length l)))) ≡ one b + count_if p l
      by true e = omega (arith, e)
      by false e = omega (arith, e)

  some_in : (a : ℕ) (l : List A) → Asks a l → list_any t (range_with_len a (length l)) ≡ some p l
  unfolding some
  some_in a [] h = refl
  some_in a (x ∷ l) h = rw (here a x l h, some_in (a + 1) l (rest a x l h)) (by (p x))
    where
      by : (b : Bool) → (b || some p l) ≡ either b (some p l)
      by true = refl
      by false = refl

  all_in : (a : ℕ) (l : List A) → Asks a l → list_all t (range_with_len a (length l)) ≡ all p l
  unfolding all
  all_in a [] h = refl
  all_in a (x ∷ l) h = rw (here a x l h, all_in (a + 1) l (rest a x l h)) (by (p x))
    where
      by : (b : Bool) → (b && all p l) ≡ both b (all p l)
      by true = refl
      by false = refl

-- ---- the places from a on, of which there are n

module _ {A : Type 0} (p : A → Bool) (d : A) (l : List A) (a n : ℕ) (long : length (drop a l) ≡ n) where
  asks : Asks p (λ k. p (get_or l k d)) d a (drop a l)
  asks i h = ap p (sym (get_or-drop a l i d))

  pub found_from : find (λ k. p (get_or l k d)) (range_with_len a n) ≡ first_at p a (drop a l)
  found_from = ap (λ (m : ℕ). find (λ k. p (get_or l k d)) (range_with_len a m)) (sym long) ∙ found_in p (λ k. p (get_or l k d)) d a (drop a l) asks

  pub counted_from : length (filter (λ k. p (get_or l k d)) (range_with_len a n)) ≡ count_if p (drop a l)
  counted_from =
      ap (λ (m : ℕ). length (filter (λ k. p (get_or l k d)) (range_with_len a m))) (sym long) ∙ counted_in p (λ k. p (get_or l k d)) d a (drop a l) asks

  pub some_from : list_any (λ k. p (get_or l k d)) (range_with_len a n) ≡ some p (drop a l)
  some_from = ap (λ (m : ℕ). list_any (λ k. p (get_or l k d)) (range_with_len a m)) (sym long) ∙ some_in p (λ k. p (get_or l k d)) d a (drop a l) asks

  pub all_from : list_all (λ k. p (get_or l k d)) (range_with_len a n) ≡ all p (drop a l)
  all_from = ap (λ (m : ℕ). list_all (λ k. p (get_or l k d)) (range_with_len a m)) (sym long) ∙ all_in p (λ k. p (get_or l k d)) d a (drop a l) asks

-- ---- the first n places

module _ {A : Type 0} (p : A → Bool) (d : A) (l : List A) (n : ℕ) (few : n ≤ length l) where
  among : Asks p (λ k. p (get_or l k d)) d 0 (take n l)
  among i h = ap (λ (j : ℕ). p (get_or l j d)) (zero-add i) ∙ ap p (sym (get_or-take n l i d (omega (arith, h, length-take-le n l few))))

  pub found_among : find (λ k. p (get_or l k d)) (range_with_len 0 n) ≡ first_at p 0 (take n l)
  found_among = ap (λ (m : ℕ). find (λ k. p (get_or l k d)) (range_with_len 0 m)) (sym (length-take-le n l few)) ∙ found_in p (λ k. p (get_or l k d)) d 0 (take n l) among

-- ---- a test of the first n places, by a loop that counts

module _ (t : ℕ → Bool) where
  same_test : (b c : Bool) → (b && c) ≡ both b c
  same_test true c = refl
  same_test false c = refl

  front : (a n : ℕ) → (t a ≡ true) × ((i : ℕ) → i < n → t (a + 1 + i) ≡ true) → (i : ℕ) → i < suc n → t (a + i) ≡ true
  front a n h zero k = let z : a + 0 ≡ a = omega arith in ap t z ∙ h.0
  front a n h (suc i) k = let z : a + suc i ≡ a + 1 + i = omega arith in ap t z ∙ h.1 i (omega arith)

  back : (a n : ℕ) → ((i : ℕ) → i < suc n → t (a + i) ≡ true) → (t a ≡ true) × ((i : ℕ) → i < n → t (a + 1 + i) ≡ true)
  back a n h = (
    (let z : a + 0 ≡ a = omega arith in ap t (sym z) ∙ h 0 (omega arith)),
    λ i k. let z : a + suc i ≡ a + 1 + i = omega arith in ap t (sym z) ∙ h (suc i) (omega arith),
  )

  each_says : (a n : ℕ) → Says (list_all t (range_with_len a n)) ((i : ℕ) → i < n → t (a + i) ≡ true)
  each_says a zero = says-yes (λ i k. absurd (omega arith))
  each_says a (suc n) = rw (same_test (t a) (list_all t (range_with_len (a + 1) n))) (says_of (front a n) (back a n) (says_both (says-true (t a)) (each_says (a + 1) n)))

  pub every_from : (n : ℕ) → list_all t (range_with_len 0 n) ≡ up_to (λ i ok. both ok (t i)) true n
  every_from n =
      says_same
      (says_of (λ (h : (i : ℕ) → i < n → t (0 + i) ≡ true) i k. ap t (sym (zero-add i)) ∙ h i k) (λ (h : (i : ℕ) → i < n → t i ≡ true) i k. ap t (zero-add i) ∙ h i k) (each_says 0 n))
      (every_says t (λ k. t k ≡ true) (λ k. says-true (t k)) n)

turn : (b ok : Bool) → both ok (not b) ≡ pick b false ok
turn true true = refl
turn true false = refl
turn false true = refl
turn false false = refl

turns : (t : ℕ → Bool) (n : ℕ) → up_to (λ k ok. both ok (not (t k))) true n ≡ up_to (λ k ok. pick (t k) false ok) true n
unfolding up_to
turns t zero = refl
turns t (suc n) = turn (t n) (up_to (λ k ok. both ok (not (t k))) true n) ∙ ap (λ (ok : Bool). pick (t n) false ok) (turns t n)

pub none_from : (t : ℕ → Bool) (n : ℕ) → list_all (λ k. not (t k)) (range_with_len 0 n) ≡ up_to (λ k ok. pick (t k) false ok) true n
none_from t n = every_from (λ k. not (t k)) n ∙ turns t n
