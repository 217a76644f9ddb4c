-- Laws of lists: a function over each member of a list of which one changes.
-- Assumes nothing.
use mathlib.Core.Path.{◌≡◌, refl, sym, ap, ◌∙◌}
use mathlib.Core.List.{List, [], ◌∷◌, ◌++◌, map, append_assoc}
use Prim.Native.Nat.{ℕ, zero, suc, ◌-◌, ◌≤◌, ◌<◌}
use native.Mathlib.Omega.{arith}
use lib.ListN.{length, get_or, set, replicate, length-append, length-replicate}
use lib.Seq.{set-append_seam}

pub map-set : {A B : Type 0} (f : A → B) (l : List A) (i : ℕ) (x : A) → map f (set l i x) ≡ set (map f l) i (f x)
map-set f [] zero x = refl
map-set f [] (suc i) x = refl
map-set f (y ∷ l) zero x = refl
map-set f (y ∷ l) (suc i) x = ap (λ t. f y ∷ t) (map-set f l i x)

-- a list whose members come back from a round trip, member by member
pub each_back : {A B : Type 0} (f : A → B) (g : B → A) (l : List A) (d : A)
    → ((i : ℕ) → i < length l → g (f (get_or l i d)) ≡ get_or l i d) → map g (map f l) ≡ l
each_back f g [] d h = refl
each_back f g (x ∷ l) d h = ap (λ y. y ∷ map g (map f l)) (h 0 (omega arith)) ∙ ap (λ t. x ∷ t) (each_back f g l d (λ i k. h (suc i) (omega arith)))

pub back_each : {A B : Type 0} (f : A → B) (g : B → A) (l : List A) (d : A) → map g (map f l) ≡ l
    → (i : ℕ) → i < length l → g (f (get_or l i d)) ≡ get_or l i d
back_each f g [] d e i k = absurd (omega arith)
back_each f g (x ∷ l) d e zero k = cc
back_each f g (x ∷ l) d e (suc i) k = let z : map g (map f l) ≡ l = cc in back_each f g l d z i (omega arith)

-- within a list it does not matter what would stand past its end
pub get_or_any : {A : Type 0} (l : List A) (i : ℕ) (d e : A) → i < length l → get_or l i d ≡ get_or l i e
get_or_any [] i d e h = absurd (omega arith)
get_or_any (x ∷ l) zero d e h = refl
get_or_any (x ∷ l) (suc i) d e h = get_or_any l i d e (omega arith)

-- ---- a list filled up to a length

abbrev pub filled : {A : Type 0} → ℕ → A → List A → List A
filled n z l = l ++ replicate (n - length l) z

pub filled-long : {A : Type 0} (n : ℕ) (z : A) (l : List A) → length l ≤ n → length (filled n z l) ≡ n
filled-long n z l h = omega (arith, length-append l (replicate (n - length l) z), length-replicate (n - length l) z)

-- the first place that is not taken gets a value
pub filled_next : {A : Type 0} (n : ℕ) (z : A) (l : List A) (x : A) → length l < n → set (filled n z l) (length l) x ≡ filled n z (l ++ (x ∷ []))
filled_next n z l x h =
    let k : n - length l ≡ suc (n - length (l ++ (x ∷ []))) = omega (arith, length-append l (x ∷ [])) in
    ap (λ (m : ℕ). set (l ++ replicate m z) (length l) x) k
    ∙ set-append_seam l z (replicate (n - length (l ++ (x ∷ []))) z) x
    ∙ sym (append_assoc l (x ∷ []) (replicate (n - length (l ++ (x ∷ []))) z))
