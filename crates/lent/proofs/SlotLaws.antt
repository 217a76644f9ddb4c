-- Slots as a function of their number: what stands in one, one that changed, all of them.
-- Assumes nothing.
use Prim.Native.Nat.{ℕ, zero, suc, ◌+◌, ◌≤◌, ◌<◌}
use mathlib.Core.Path.{◌≡◌, refl, sym, ap, ap₂, ◌∙◌}
use mathlib.Core.List.{◌∷◌}
use native.Mathlib.Nat.{zero-add}
use native.Mathlib.Omega.{arith}
use lib.ListN.{length, get_or, set}
use Rattle.model.specs.Move.{Held}
use Rattle.model.specs.Table.{Table}
use Rattle.lent.specs.Lent.{slots_from}

pub slots_length : (held : ℕ → Held) (k n : ℕ) → length (slots_from held k n) ≡ n
slots_length held k zero = refl
slots_length held k (suc n) = ap suc (slots_length held (suc k) n)

pub slots_get : (held : ℕ → Held) (d : Held) (k n f : ℕ) → f < n → get_or (slots_from held k n) f d ≡ held (k + f)
slots_get held d k zero f h = absurd (omega (arith, h))
slots_get held d k (suc n) zero h = ap held (omega arith)
slots_get held d k (suc n) (suc f) h = slots_get held d (suc k) n f (omega arith) ∙ ap held (omega arith)

pub slots_same : (held other : ℕ → Held) (k n : ℕ) → ((g : ℕ) → k ≤ g → g < k + n → held g ≡ other g) → slots_from held k n ≡ slots_from other k n
slots_same held other k zero h = refl
slots_same held other k (suc n) h =
    ap₂ (λ (x : Held) (l : Table). x ∷ l) (h k (omega arith) (omega arith)) (slots_same held other (suc k) n (λ g a b. h g (omega arith) (omega arith)))

-- one slot changed
pub slots_set : (held after : ℕ → Held) (k n f : ℕ) → f < n → ((g : ℕ) → g < k + n → (g ≡ k + f → ⊥) → after g ≡ held g)
    → slots_from after k n ≡ set (slots_from held k n) f (after (k + f))
slots_set held after k zero f h same = absurd (omega (arith, h))
slots_set held after k (suc n) zero h same =
    ap₂ (λ (x : Held) (l : Table). x ∷ l) (ap after (omega arith))
    (slots_same after held (suc k) n (λ g a b. same g (omega arith) (λ e. omega (arith, e, a))))
slots_set held after k (suc n) (suc f) h same =
    ap₂ (λ (x : Held) (l : Table). x ∷ l) (same k (omega arith) (λ e. omega (arith, e)))
    (slots_set held after (suc k) n f (omega arith) (λ g a b. same g (omega arith) (λ e. b (omega (arith, e)))) ∙ ap (λ (x : Held). set (slots_from held (suc k) n) f x) (ap after (omega arith)))

-- ---- all slots, from the first on

pub slot_at : (held : ℕ → Held) (d : Held) (n f : ℕ) → f < n → get_or (slots_from held 0 n) f d ≡ held f
slot_at held d n f h = slots_get held d 0 n f h ∙ ap held (zero-add f)

pub slot-put : (held after : ℕ → Held) (n f : ℕ) → f < n → ((g : ℕ) → (g ≡ f → ⊥) → after g ≡ held g)
    → slots_from after 0 n ≡ set (slots_from held 0 n) f (after f)
slot-put held after n f h same =
    slots_set held after 0 n f h (λ g a b. same g (λ e. b (e ∙ sym (zero-add f))))
    ∙ ap (λ (k : ℕ). set (slots_from held 0 n) f (after k)) (zero-add f)
