-- Arrays that are made member by member: by a function of the index, or of another array.
-- Assumes nothing.
use mathlib.Core.Path.{◌≡◌, sym, ap, subst, ◌∙◌}
use mathlib.Core.List.{List, map}
use Prim.Native.Nat.{ℕ, zero, suc, ◌+◌, ◌<◌}
use native.Mathlib.Nat.{zero-add}
use native.Mathlib.Omega.{arith}
use denote.Param.Members.{Mut}
use lib.ListN.{length, get_or, length-map, get_or-map}
use lib.Seq.{ext_get_or}
use Rattle.std.specs.Fn.{Called}
use Rattle.std.specs.Array.{IsFromFnResult, IsFromFnResultFrom, IsMapOf}

-- ---- by a function of the index

module _ {F B : Type 0} (g : Mut F (ℕ × Unit {0}) B) (f : F) (h : ℕ → B) (keeps : (x : ℕ) (y : B) (q : F) → Called g f (x, tt) y q → (q ≡ f) × (y ≡ h x)) where
  made-each : (ys : List B) (i n k : ℕ) (d : B) → IsFromFnResultFrom g f ys i n → k < n → get_or ys (i + k) d ≡ h (i + k)
  made-each ys i zero k d m l = absurd (omega arith)
  made-each ys i (suc n) zero d m l =
      let z : i + 0 ≡ i = omega arith in
      ap (λ (j : ℕ). get_or ys j d) z ∙ m.2.1 d ∙ (keeps i m.1 m.0 m.3).1 ∙ ap h (sym z)
  made-each ys i (suc n) (suc k) d m l =
      let z : i + suc k ≡ i + 1 + k = omega arith in
      ap (λ (j : ℕ). get_or ys j d) z
      ∙ made-each ys (i + 1) n k d (subst (λ (q : F). IsFromFnResultFrom g q ys (i + 1) n) (keeps i m.1 m.0 m.3).0 m.4) (omega arith)
      ∙ ap h (sym z)

  -- the list that has h of its place at each place
  pub made_by : (ys l : List B) (n : ℕ) (d : B) → IsFromFnResult g f ys n → length l ≡ n → ((k : ℕ) → k < n → h k ≡ get_or l k d) → ys ≡ l
  made_by ys l n d m long e =
      ext_get_or d ys l (m.long ∙ sym long)
      (λ k j. let b : k < n = omega (arith, m.long) in
      ap (λ (i : ℕ). get_or ys i d) (sym (zero-add k)) ∙ made-each ys 0 n k d m.each b ∙ ap h (zero-add k) ∙ e k b)

-- ---- of another array

pub mapped_by : {F A B : Type 0} (g : Mut F (A × Unit {0}) B) (f : F) (h : A → B) (keeps : (x : A) (y : B) (p q : F) → Called g p (x, tt) y q → y ≡ h x)
    → (xs : List A) (ys : List B) (n : ℕ) (d : A) → IsMapOf g f xs ys n → length xs ≡ n → ys ≡ map h xs
mapped_by g f h keeps xs ys n d m long =
    ext_get_or (h d) ys (map h xs) (m.long ∙ sym long ∙ sym (length-map xs h))
    (λ k j. let z = m.at k d (h d) (omega (arith, m.long)) in keeps (get_or xs k d) (get_or ys k (h d)) z.0 z.1 z.2 ∙ sym (get_or-map h xs k d))
