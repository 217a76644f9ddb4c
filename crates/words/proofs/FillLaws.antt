-- Laws of filling holes: one character more.
-- Assumes nothing.
use mathlib.Core.Path.{◌≡◌, refl, sym, ap, ◌∙◌}
use mathlib.Core.Bool.{Bool, true, false}
use mathlib.Core.List.{List, [], ◌∷◌, ◌++◌, append-nil, append_assoc}
use Prim.Native.Nat.{ℕ, suc, ◌+◌, ◌≤◌, ◌<◌}
use native.Mathlib.Numerals.{add-one}
use native.Mathlib.Omega.{arith}
use lib.Dec.{eqb}
use borrow.Author.Tests.{eq-eqb, ne_eqb}
use lib.ListN.{length, get_or, take, drop}
use lib.Seq.{take-suc}
use Rattle.octets.specs.Choice.{pick}
use Rattle.words.specs.Book.{fill}
use Rattle.words.specs.Sentence.{one_text, after_one}

-- how many holes a text has
unfoldable pub holes : List ℕ → ℕ
holes [] = 0
holes (c ∷ t) = pick (eqb c 37) (suc (holes t)) (holes t)

pub holes_short : (l : List ℕ) → holes l ≤ length l
unfolding holes
holes_short [] = omega arith
holes_short (c ∷ t) = by (eqb c 37) (holes_short t)
  where
    by : (b : Bool) → holes t ≤ length t → pick b (suc (holes t)) (holes t) ≤ suc (length t)
    by true h = omega arith
    by false h = omega arith

next_text : (ts : List (List ℕ)) (k : ℕ) → get_or (drop 1 ts) k [] ≡ get_or ts (suc k) []
next_text [] k = refl
next_text (t ∷ ts) k = refl

holes_one : (l : List ℕ) (c : ℕ) → holes (l ++ (c ∷ [])) ≡ after_one c (holes l)
unfolding holes
holes_one [] c = refl
holes_one (d ∷ t) c = by (eqb d 37) (holes_one t c)
  where
    by : (b : Bool) → holes (t ++ (c ∷ [])) ≡ after_one c (holes t)
        → pick b (suc (holes (t ++ (c ∷ [])))) (holes (t ++ (c ∷ []))) ≡ after_one c (pick b (suc (holes t)) (holes t))
    by true e = ap suc e ∙ up (eqb c 37)
      where
        up : (x : Bool) → suc (pick x (suc (holes t)) (holes t)) ≡ pick x (suc (suc (holes t))) (suc (holes t))
        up true = refl
        up false = refl
    by false e = e

fill_one : (l : List ℕ) (c : ℕ) (ts : List (List ℕ)) → fill (l ++ (c ∷ [])) ts ≡ fill l ts ++ one_text c (holes l) ts
unfolding fill holes
fill_one [] c ts = by (eqb c 37)
  where
    by : (b : Bool) → pick b (get_or ts 0 [] ++ []) (c ∷ []) ≡ pick b (get_or ts 0 []) (c ∷ [])
    by true = append-nil (get_or ts 0 [])
    by false = refl
fill_one (d ∷ t) c ts = by (eqb d 37) (fill_one t c)
  where
    by : (b : Bool) → ((us : List (List ℕ)) → fill (t ++ (c ∷ [])) us ≡ fill t us ++ one_text c (holes t) us)
        → pick b (get_or ts 0 [] ++ fill (t ++ (c ∷ [])) (drop 1 ts)) (d ∷ fill (t ++ (c ∷ [])) ts)
        ≡ pick b (get_or ts 0 [] ++ fill t (drop 1 ts)) (d ∷ fill t ts) ++ one_text c (pick b (suc (holes t)) (holes t)) ts
    by true e =
        ap (λ (x : List ℕ). get_or ts 0 [] ++ x) (e (drop 1 ts))
        ∙ sym (append_assoc (get_or ts 0 []) (fill t (drop 1 ts)) (one_text c (holes t) (drop 1 ts)))
        ∙ ap (λ (x : List ℕ). (get_or ts 0 [] ++ fill t (drop 1 ts)) ++ pick (eqb c 37) x (c ∷ [])) (next_text ts (holes t))
    by false e = ap (λ (x : List ℕ). d ∷ x) (e ts)

-- a turn of `fill_in`
pub fill_turn : (t : List ℕ) (ts : List (List ℕ)) (i : ℕ) → i < length t
    → fill (take i t) ts ++ one_text (get_or t i 0) (holes (take i t)) ts ≡ fill (take (i + 1) t) ts
fill_turn t ts i h =
    sym (fill_one (take i t) (get_or t i 0) ts) ∙ ap (λ (x : List ℕ). fill x ts) (sym (take-suc t i 0 h) ∙ ap (λ (n : ℕ). take n t) (sym (add-one i)))

holes_turn : (t : List ℕ) (i : ℕ) → i < length t → after_one (get_or t i 0) (holes (take i t)) ≡ holes (take (i + 1) t)
holes_turn t i h =
    sym (holes_one (take i t) (get_or t i 0)) ∙ ap holes (sym (take-suc t i 0 h) ∙ ap (λ (n : ℕ). take n t) (sym (add-one i)))

pub hole_turn : (t : List ℕ) (i : ℕ) {k : ℕ} → i < length t → k ≡ holes (take i t) → get_or t i 0 ≡ 37 → k + 1 ≡ holes (take (i + 1) t)
hole_turn t i {k} h e f = ap (λ (n : ℕ). n + 1) e ∙ add-one (holes (take i t)) ∙ sym (simp (eq-eqb _ _ f)) ∙ holes_turn t i h

pub letter_turn : (t : List ℕ) (i : ℕ) {k : ℕ} → i < length t → k ≡ holes (take i t) → (get_or t i 0 ≡ 37 → ⊥) → k ≡ holes (take (i + 1) t)
letter_turn t i h e f = e ∙ sym (simp (ne_eqb _ _ f)) ∙ holes_turn t i h

-- a text more that is empty makes no difference
pub fill-blank : (t : List ℕ) (ts : List (List ℕ)) → fill t (ts ++ ([] ∷ [])) ≡ fill t ts
unfolding fill
fill-blank [] ts = refl
fill-blank (c ∷ t) ts = by ts (eqb c 37) (fill-blank t)
  where
    by : (us : List (List ℕ)) (b : Bool) → ((vs : List (List ℕ)) → fill t (vs ++ ([] ∷ [])) ≡ fill t vs)
        → pick b (get_or (us ++ ([] ∷ [])) 0 [] ++ fill t (drop 1 (us ++ ([] ∷ [])))) (c ∷ fill t (us ++ ([] ∷ [])))
        ≡ pick b (get_or us 0 [] ++ fill t (drop 1 us)) (c ∷ fill t us)
    by [] true e = refl
    by (u ∷ us) true e = ap (λ (x : List ℕ). u ++ x) (e us)
    by [] false e = ap (λ (x : List ℕ). c ∷ x) (e [])
    by (u ∷ us) false e = ap (λ (x : List ℕ). c ∷ x) (e (u ∷ us))

-- a text without a hole is itself
pub fill_none : (t : List ℕ) (ts : List (List ℕ)) → holes t ≡ 0 → fill t ts ≡ t
unfolding fill holes
fill_none [] ts h = refl
fill_none (c ∷ t) ts h = by (eqb c 37) h (fill_none t ts)
  where
    by : (b : Bool) → pick b (suc (holes t)) (holes t) ≡ 0 → (holes t ≡ 0 → fill t ts ≡ t)
        → pick b (get_or ts 0 [] ++ fill t (drop 1 ts)) (c ∷ fill t ts) ≡ c ∷ t
    by true k e = absurd (omega (arith, k))
    by false k e = ap (λ (x : List ℕ). c ∷ x) (e k)
