-- Two puts that do not touch each other may be done in either order.
-- Assumes nothing.
use mathlib.Core.Path.{◌≡◌, sym, ap, ◌∙◌}
use mathlib.Core.List.{List, ◌++◌}
use Prim.Native.Nat.{ℕ, ◌+◌, ◌-◌, ◌≤◌}
use native.Mathlib.Omega.{arith}
use lib.ListN.{length, take, drop, length-append, take-append-drop}
use lib.Seq.{take-add}
use Rattle.octets.specs.Put.{put_at}
use Rattle.octets.specs.Parts.{part}
use Rattle.octets.proofs.PutLaws.{put_at-put_at, put_front, length-put_at}
use Rattle.octets.proofs.PartsLaws.{part_before, part-after, length_part}

-- what stands there already
put_same : (out : List ℕ) (a n : ℕ) → a + n ≤ length out → put_at out a (part out a n) ≡ out
unfolding put_at
put_same out a n h =
    ap (λ (k : ℕ). take a out ++ part out a n ++ drop (a + k) out) (length_part out a n h)
    ∙ ap (λ (l : List ℕ). l ++ drop (a + n) out) (sym (take-add a n out))
    ∙ take-append-drop (a + n) out

-- a put that goes on with what stands behind it
put_wider : (out : List ℕ) (b : ℕ) (ys : List ℕ) (n : ℕ) → b + length ys + n ≤ length out
    → put_at out b ys ≡ put_at out b (ys ++ part out (b + length ys) n)
put_wider out b ys n h =
    let fits : b + length ys ≤ length out = omega arith in
    let long : length (part out (b + length ys) n) ≡ n = length_part out (b + length ys) n h in
    sym (put_same (put_at out b ys) (b + length ys) n (omega (arith, length-put_at out b ys fits)))
    ∙ ap (put_at (put_at out b ys) (b + length ys)) (part-after out b ys fits (b + length ys) n (omega arith))
    ∙ put_at-put_at out b ys fits (part out (b + length ys) n) (omega arith)

pub put_swap : (out : List ℕ) (a : ℕ) (xs : List ℕ) (b : ℕ) (ys : List ℕ) → b + length ys ≤ a → a + length xs ≤ length out
    → put_at (put_at out a xs) b ys ≡ put_at (put_at out b ys) a xs
put_swap out a xs b ys apart fits =
    let n : ℕ = a - (b + length ys) in
    let m : List ℕ = part out (b + length ys) n in
    let long : length m ≡ n = length_part out (b + length ys) n (omega arith) in
    let end : b + length (ys ++ m) ≡ a = omega (arith, length-append ys m) in
    let wide : length (put_at out a xs) ≡ length out = length-put_at out a xs fits in
    put_wider (put_at out a xs) b ys n (omega arith)
    ∙ ap (λ (l : List ℕ). put_at (put_at out a xs) b (ys ++ l)) (part_before out a xs fits (b + length ys) n (omega arith))
    ∙ ap (λ (k : ℕ). put_at (put_at out k xs) b (ys ++ m)) (sym end)
    ∙ put_front out b (ys ++ m) xs (omega arith)
    ∙ sym (put_at-put_at out b (ys ++ m) (omega arith) xs (omega arith))
    ∙ ap (λ (k : ℕ). put_at (put_at out b (ys ++ m)) k xs) end
    ∙ ap (λ (l : List ℕ). put_at l a xs) (sym (put_wider out b ys n (omega arith)))
