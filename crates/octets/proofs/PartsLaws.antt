-- The laws of parts: what a put changes and what it leaves, and that the parts of a list make the list. Used for the records of a block
-- and for the blocks of a table.
-- Assumes nothing.
use mathlib.Core.Path.{◌≡◌, refl, sym, ap, ◌∙◌}
use mathlib.Core.List.{List, [], ◌∷◌, ◌++◌, append_assoc}
use Prim.Native.Nat.{ℕ, zero, suc, ◌+◌, ◌*◌, ◌-◌, ◌≤◌, ◌<◌}
use native.Mathlib.Omega.{arith}
use native.Mathlib.Nat.{suc-mul}
use lib.ListN.{length, get_or, take, drop, set, length-append, length-take, length-drop, take-append-drop}
use lib.Seq.{take_at, drop_at, take-append-le, drop-append-le, drop-drop, take-take, length-take-le, take-add, get_or-take, get_or-drop}
use Rattle.octets.specs.Put.{put_at}
use Rattle.octets.proofs.PutLaws.{drop-put_at}
use Rattle.octets.specs.Parts.{part, parts, joined}

module _ (b : List ℕ) (at : ℕ) (bs : List ℕ) (fits : at + length bs ≤ length b) where
  pub part_same : part (put_at b at bs) at (length bs) ≡ bs
  unfolding put_at
  part_same =
      ap (λ (l : List ℕ). part l at (length bs)) (append_assoc (take at b) bs (drop (at + length bs) b))
      ∙ ap (take (length bs)) (drop_at (take at b) (bs ++ drop (at + length bs) b) at (length-take-le at b (omega arith)))
      ∙ take_at bs (drop (at + length bs) b) (length bs) refl

  front : (a n : ℕ) (rest : List ℕ) → a + n ≤ at → part (take at b ++ rest) a n ≡ part (take at b) a n
  front a n rest h =
      let k : length (take at b) ≡ at = length-take-le at b (omega arith) in
      ap (take n) (drop-append-le a (take at b) rest (omega arith))
      ∙ take-append-le n (drop a (take at b)) rest (omega (arith, length-drop a (take at b)))

  pub part_before : (a n : ℕ) → a + n ≤ at → part (put_at b at bs) a n ≡ part b a n
  unfolding put_at
  part_before a n h =
      ap (λ (l : List ℕ). part l a n) (append_assoc (take at b) bs (drop (at + length bs) b))
      ∙ front a n (bs ++ drop (at + length bs) b) h
      ∙ sym (front a n (drop at b) h)
      ∙ ap (λ (l : List ℕ). part l a n) (take-append-drop at b)

  pub part-after : (a n : ℕ) → at + length bs ≤ a → part (put_at b at bs) a n ≡ part b a n
  part-after a n h =
      let e : at + length bs + (a - (at + length bs)) ≡ a = omega arith in
      ap (take n)
      (ap (λ (k : ℕ). drop k (put_at b at bs)) (sym e)
      ∙ sym (drop-drop (a - (at + length bs)) (at + length bs) (put_at b at bs))
      ∙ ap (drop (a - (at + length bs))) (drop-put_at b at bs fits)
      ∙ drop-drop (a - (at + length bs)) (at + length bs) b
      ∙ ap (λ (k : ℕ). drop k b) e)

  pub parts-after : (k a n : ℕ) → at + length bs ≤ a → parts k a n (put_at b at bs) ≡ parts k a n b
  unfolding parts
  parts-after k a zero h = refl
  parts-after k a (suc n) h = rw (part-after a k h, parts-after k (a + k) n (omega arith))

  pub parts_same : (k a n i : ℕ) → length bs ≡ k → at ≡ a + i * k → i < n → parts k a n (put_at b at bs) ≡ set (parts k a n b) i bs
  unfolding parts
  parts_same k a zero i l e h = absurd (omega arith)
  parts_same k a (suc n) zero l e h =
      let z : a ≡ at = omega arith in
      let s : part (put_at b at bs) a k ≡ bs = ap (λ (x : ℕ). part (put_at b at bs) x k) z ∙ ap (part (put_at b at bs) at) (sym l) ∙ part_same in
      rw (s, parts-after k (a + k) n (omega arith))
  parts_same k a (suc n) (suc i) l e h =
      let z : at ≡ a + k + i * k = omega (arith, suc-mul i k) in
      rw (part_before a k (omega arith), parts_same k (a + k) n i l z (omega arith))

pub parts-length : (k a n : ℕ) (b : List ℕ) → length (parts k a n b) ≡ n
unfolding parts
parts-length k a zero b = refl
parts-length k a (suc n) b = ap suc (parts-length k (a + k) n b)

pub parts_get : (k a n i : ℕ) (b : List ℕ) → i < n → get_or (parts k a n b) i [] ≡ part b (a + i * k) k
unfolding parts
parts_get k a zero i b h = absurd (omega arith)
parts_get k a (suc n) zero b h = let z : a ≡ a + 0 * k = omega arith in ap (λ (x : ℕ). part b x k) z
parts_get k a (suc n) (suc i) b h =
    let z : a + k + i * k ≡ a + suc i * k = omega (arith, suc-mul i k) in
    parts_get k (a + k) n i b (omega arith) ∙ ap (λ (x : ℕ). part b x k) z

-- two parts, one after the other, are one
pub part_join : (b : List ℕ) (a n m : ℕ) → part b a n ++ part b (a + n) m ≡ part b a (n + m)
part_join b a n m = ap (λ (l : List ℕ). part b a n ++ take m l) (sym (drop-drop n a b)) ∙ sym (take-add n m (drop a b))

pub parts_join : (k a n : ℕ) (b : List ℕ) → joined (parts k a n b) ≡ part b a (n * k)
unfolding parts joined
parts_join k a zero b = let z : 0 ≡ 0 * k = omega arith in ap (part b a) z
parts_join k a (suc n) b =
    let z : k + n * k ≡ suc n * k = omega (arith, suc-mul n k) in
    ap (λ (l : List ℕ). part b a k ++ l) (parts_join k (a + k) n b) ∙ part_join b a k (n * k) ∙ ap (part b a) z

-- a part that was lent and is back, as the check states it, is a put
pub mid_put : (t ys : List ℕ) (a k : ℕ) → length ys ≡ k → take a t ++ (ys ++ drop k (drop a t)) ≡ put_at t a ys
unfolding put_at
mid_put t ys a k e =
    sym (append_assoc (take a t) ys (drop k (drop a t)))
    ∙ ap (λ (l : List ℕ). take a t ++ ys ++ l) (drop-drop k a t ∙ ap (λ (n : ℕ). drop (a + n) t) (sym e))

-- one part more, at the end
pub parts_snoc : (k a n : ℕ) (b : List ℕ) → parts k a (suc n) b ≡ parts k a n b ++ (part b (a + n * k) k ∷ [])
unfolding parts
parts_snoc k a zero b = let z : a ≡ a + 0 * k = omega arith in ap (λ (x : ℕ). part b x k ∷ []) z
parts_snoc k a (suc n) b =
    let z : a + k + n * k ≡ a + suc n * k = omega (arith, suc-mul n k) in
    ap (λ t. part b a k ∷ t) (parts_snoc k (a + k) n b ∙ ap (λ (x : ℕ). parts k (a + k) n b ++ (part b x k ∷ [])) z)

-- a put behind the parts
pub parts_before : (b : List ℕ) (at : ℕ) (bs : List ℕ) → at + length bs ≤ length b → (k a n : ℕ) → a + n * k ≤ at
    → parts k a n (put_at b at bs) ≡ parts k a n b
unfolding parts
parts_before b at bs f k a zero h = refl
parts_before b at bs f k a (suc n) h =
    rw (part_before b at bs f a k (omega (arith, suc-mul n k)), parts_before b at bs f k (a + k) n (omega (arith, suc-mul n k)))

-- what stands in a part
pub get_or-part : (b : List ℕ) (a n k : ℕ) → k < n → get_or (part b a n) k 0 ≡ get_or b (a + k) 0
get_or-part b a n k h = rw (get_or-take, get_or-drop)

pub length_part : (s : List ℕ) (a n : ℕ) → a + n ≤ length s → length (part s a n) ≡ n
length_part s a n h = length-take-le n (drop a s) (omega (arith, length-drop a s))

pub part-short : (s : List ℕ) (a n : ℕ) → length (part s a n) ≤ n
part-short s a n = omega (arith, length-take n (drop a s))

-- a part between two places, as a range lends it
pub part-between : (s : List ℕ) (a e n : ℕ) → e ≡ a + n → take (e - a) (drop a s) ≡ part s a n
part-between s a e n h = let k : e - a ≡ n = omega arith in ap (λ (m : ℕ). take m (drop a s)) k

-- a put within a part is a put of the part
pub narrow : (b : List ℕ) (a m k : ℕ) (ys : List ℕ) → k + length ys ≤ m → a + m ≤ length b
    → put_at b (a + k) ys ≡ put_at b a (put_at (part b a m) k ys)
unfolding put_at
narrow b a m k ys h g =
    let p : List ℕ = part b a m in
    let lp : length (part b a m) ≡ m = length-take-le m (drop a b) (omega (arith, length-drop a b)) in
    let one : take (a + k) b ≡ take a b ++ take k p = take-add a k b ∙ ap (λ (l : List ℕ). take a b ++ l) (sym (take-take k m (drop a b) (omega arith))) in
    let e1 : a + k + length ys ≡ a + (k + length ys) = omega arith in
    let two : drop (a + k + length ys) b ≡ drop (k + length ys) p ++ drop (a + m) b =
    ap (λ (n : ℕ). drop n b) e1 ∙ sym (drop-drop (k + length ys) a b)
    ∙ ap (drop (k + length ys)) (sym (take-append-drop m (drop a b)))
    ∙ drop-append-le (k + length ys) (part b a m) (drop m (drop a b)) (omega (arith, lp))
    ∙ ap (λ (l : List ℕ). drop (k + length ys) p ++ l) (drop-drop m a b)
    in
    let mid : List ℕ = take k p ++ ys ++ drop (k + length ys) p in
    let lm : length (take k p ++ ys ++ drop (k + length ys) p) ≡ m =
    omega (arith, length-append (take k p ++ ys) (drop (k + length ys) p), length-append (take k p) ys, length-take-le k p (omega (arith, lp)), length-drop (k + length ys) p, lp)
    in
    ap (λ (l : List ℕ). l ++ ys ++ drop (a + k + length ys) b) one
    ∙ ap (λ (l : List ℕ). take a b ++ take k p ++ ys ++ l) two
    ∙ sym (append_assoc (take a b ++ take k p ++ ys) (drop (k + length ys) p) (drop (a + m) b))
    ∙ ap (λ (l : List ℕ). l ++ drop (k + length ys) p ++ drop (a + m) b) (append_assoc (take a b) (take k p) ys)
    ∙ ap (λ (l : List ℕ). l ++ drop (a + m) b) (append_assoc (take a b) (take k p ++ ys) (drop (k + length ys) p))
    ∙ ap (λ (n : ℕ). take a b ++ mid ++ drop (a + n) b) (sym lm)

-- two lists cut at the same place
pub same_front : (a b u v : List ℕ) (n : ℕ) → length a ≡ n → length b ≡ n → a ++ u ≡ b ++ v → (a ≡ b) × (u ≡ v)
same_front a b u v n ha hb e =
    (sym (take_at a u n ha) ∙ ap (take n) e ∙ take_at b v n hb, sym (drop_at a u n ha) ∙ ap (drop n) e ∙ drop_at b v n hb)
