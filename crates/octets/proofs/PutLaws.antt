-- The laws of `put_at`, for this crate's proofs and those above it: lengths, what stands where, two puts in a row, and that
-- a number that was put is read back.
-- Assumes nothing.
use mathlib.Core.Path.{◌≡◌, sym, ap, ◌∙◌}
use mathlib.Core.List.{List, [], ◌∷◌, ◌++◌, append_assoc}
use Prim.Native.Nat.{ℕ, suc, ◌+◌, ◌/◌, ◌%◌, ◌≤◌, ◌<◌}
use native.Mathlib.Nat.{add_assoc, add-zero}
use native.Mathlib.Numerals.{add-one}
use native.Mathlib.Omega.{arith}
use lib.ListN.{length, get_or, take, drop, set, length-append, length-drop, get_or-append}
use lib.Seq.{take_at, drop_at, take-append-le, take-take, get_or-append-add, drop-drop, length-take-le, paste-zero, set_split, append_snoc}
use Rattle.octets.specs.Numbers.{u16_at, u32_at, be16, be32}
use Rattle.octets.specs.Put.{put_at}

module _ (out : List ℕ) (at : ℕ) (bs : List ℕ) (fits : at + length bs ≤ length out) where
  -- what is before the end of what was put
  head-length : length (take at out ++ bs) ≡ at + length bs
  head-length = length-append (take at out) bs ∙ ap (λ (k : ℕ). k + length bs) (length-take-le at out (omega arith))

  pub length-put_at : length (put_at out at bs) ≡ length out
  unfolding put_at
  length-put_at = simp (length-append, length-take-le at out (omega arith), length-drop) (omega arith)

  pub take-put_at : take (at + length bs) (put_at out at bs) ≡ take at out ++ bs
  unfolding put_at
  take-put_at = take_at (take at out ++ bs) (drop (at + length bs) out) (at + length bs) head-length

  pub drop-put_at : drop (at + length bs) (put_at out at bs) ≡ drop (at + length bs) out
  unfolding put_at
  drop-put_at = drop_at (take at out ++ bs) (drop (at + length bs) out) (at + length bs) head-length

  -- within the place stand the bytes
  pub get_or-put_at : (k : ℕ) → k < length bs → get_or (put_at out at bs) (at + k) 0 ≡ get_or bs k 0
  unfolding put_at
  get_or-put_at k h =
      get_or-append (take at out ++ bs) (drop (at + length bs) out) 0 (at + k) (omega (arith, head-length))
      ∙ ap (λ (n : ℕ). get_or (take at out ++ bs) (n + k) 0) (sym (length-take-le at out (omega arith)))
      ∙ get_or-append-add (take at out) bs k 0

  -- two puts, one after the other, are one
  pub put_at-put_at : (cs : List ℕ) → at + length bs + length cs ≤ length out → put_at (put_at out at bs) (at + length bs) cs ≡ put_at out at (bs ++ cs)
  unfolding put_at
  put_at-put_at cs h =
      ap (λ (l : List ℕ). l ++ cs ++ drop (at + length bs + length cs) (put_at out at bs)) take-put_at
      ∙ ap (λ (l : List ℕ). take at out ++ bs ++ cs ++ l)
      (sym (drop-drop (length cs) (at + length bs) (put_at out at bs))
      ∙ ap (drop (length cs)) drop-put_at
      ∙ drop-drop (length cs) (at + length bs) out
      ∙ ap (λ (n : ℕ). drop n out) (add_assoc at (length bs) (length cs) ∙ ap (λ (n : ℕ). at + n) (sym (length-append bs cs))))
      ∙ ap (λ (l : List ℕ). l ++ drop (at + length (bs ++ cs)) out) (append_assoc (take at out) bs cs)

-- a number that was put is read back
pub read_back16 : (out : List ℕ) (at x : ℕ) → at + 2 ≤ length out → u16_at (put_at out at (be16 x)) at ≡ x
read_back16 out at x h =
    omega (
      arith,
      ap (λ (n : ℕ). get_or (put_at out at (be16 x)) n 0) (sym (add-zero at)) ∙ get_or-put_at out at (be16 x) h 0 (omega arith),
      get_or-put_at out at (be16 x) h 1 (omega arith),
    )

pub read_back32 : (out : List ℕ) (at x : ℕ) → at + 4 ≤ length out → u32_at (put_at out at (be32 x)) at ≡ x
read_back32 out at x h =
    omega (
      arith,
      ap (λ (n : ℕ). get_or (put_at out at (be32 x)) n 0) (sym (add-zero at)) ∙ get_or-put_at out at (be32 x) h 0 (omega arith),
      get_or-put_at out at (be32 x) h 1 (omega arith),
      get_or-put_at out at (be32 x) h 2 (omega arith),
      get_or-put_at out at (be32 x) h 3 (omega arith),
    )

-- a short number's four bytes
pub be32-small : (n : ℕ) → n < 65536 → be32 n ≡ 0 ∷ 0 ∷ be16 n
be32-small n h =
    let a : n / 16777216 ≡ 0 = omega arith in
    let b : n / 65536 % 256 ≡ 0 = omega arith in
    let e : n / 256 % 256 ≡ n / 256 = omega arith in
    cc

-- a put after what was put before
pub put-more : (out₀ : List ℕ) (s : ℕ) (bs : List ℕ) (out : List ℕ) (n : ℕ) (cs : List ℕ) (out₁ : List ℕ)
    → out ≡ put_at out₀ s bs → n ≡ s + length bs → s + length bs + length cs ≤ length out₀
    → out₁ ≡ put_at out n cs → out₁ ≡ put_at out₀ s (bs ++ cs)
put-more out₀ s bs out n cs out₁ e at fits f =
    f ∙ ap (λ (l : List ℕ). put_at l n cs) e ∙ ap (λ (k : ℕ). put_at (put_at out₀ s bs) k cs) at ∙ put_at-put_at out₀ s bs (omega arith) cs fits

-- a put before what was put after
pub put_front : (out : List ℕ) (s : ℕ) (bs cs : List ℕ) → s + length bs + length cs ≤ length out
    → put_at (put_at out (s + length bs) cs) s bs ≡ put_at out s (bs ++ cs)
unfolding put_at
put_front out s bs cs h =
    let m : ℕ = s + length bs in
    let rest : List ℕ = drop (m + length cs) out in
    let long : length (take m out) ≡ m = length-take-le m out (omega arith) in
    let whole : take m out ++ cs ++ rest ≡ take m out ++ (cs ++ rest) = append_assoc (take m out) cs rest in
    let front : take s (take m out ++ cs ++ rest) ≡ take s out =
    ap (take s) whole ∙ take-append-le s (take m out) (cs ++ rest) (omega arith) ∙ take-take s m out (omega arith)
    in
    let back : drop m (take m out ++ cs ++ rest) ≡ cs ++ rest = ap (drop m) whole ∙ drop_at (take m out) (cs ++ rest) m long in
    let end : m + length cs ≡ s + length (bs ++ cs) = omega (arith, length-append bs cs) in
    ap (λ (l : List ℕ). l ++ bs ++ drop m (take m out ++ cs ++ rest)) front
    ∙ ap (λ (l : List ℕ). take s out ++ bs ++ l) back
    ∙ sym (append_assoc (take s out ++ bs) cs rest)
    ∙ ap (λ (l : List ℕ). l ++ rest) (append_assoc (take s out) bs cs)
    ∙ ap (λ (n : ℕ). take s out ++ (bs ++ cs) ++ drop n out) end

-- nothing put
pub put_at-none : (out : List ℕ) (s : ℕ) → out ≡ put_at out s []
unfolding put_at
put_at-none out s = paste-zero out s []

-- a put at the start
pub put_start : (out bs : List ℕ) → put_at out 0 bs ≡ bs ++ drop (length bs) out
unfolding put_at
put_start out bs = let z : 0 + length bs ≡ length bs = omega arith in ap (λ (n : ℕ). bs ++ drop n out) z

-- one element stored is a put of one
pub set-put_at : (out : List ℕ) (at x : ℕ) → at < length out → set out at x ≡ put_at out at (x ∷ [])
unfolding put_at
set-put_at out at x h =
    set_split out at x h ∙ sym (append_snoc (take at out) x (drop (suc at) out)) ∙ ap (λ (n : ℕ). take at out ++ (x ∷ []) ++ drop n out) (sym (add-one at))

-- one element stored behind what was put
pub set_more : (out₀ : List ℕ) (at : ℕ) (bs out : List ℕ) (n x : ℕ) → out ≡ put_at out₀ at bs → n ≡ at + length bs → n < length out₀
    → set out n x ≡ put_at out₀ at (bs ++ (x ∷ []))
set_more out₀ at bs out n x e k h =
    put-more out₀ at bs out n (x ∷ []) (set out n x) e k (omega arith)
    (set-put_at out n x (omega (arith, ap length e, length-put_at out₀ at bs (omega arith))))
