-- The line in its block: what is read of it, and a line stored with its count.
-- Assumes nothing.
use mathlib.Core.Path.{◌≡◌, refl, sym, ap, ◌∙◌}
use mathlib.Core.Bool.{Bool, true, false}
use mathlib.Core.List.{List, [], ◌∷◌, ◌++◌, append_assoc, append-nil}
use Prim.Native.Nat.{ℕ, suc, ◌+◌, ◌-◌, ◌≤◌, ◌<◌, min}
use native.Mathlib.Numerals.{add-one}
use native.Mathlib.Omega.{arith}
use borrow.Author.Tests.{eq-eqb, ne_eqb}
use lib.Dec.{eqb}
use lib.ListN.{length, get_or, take, drop, set, replicate, length-append, length-drop, length-take, replicate-append-replicate, get_or-eq_default, drop_of_length-le}
use lib.Seq.{take_at, take-suc, take-take, take-nil, drop-drop, get_or-take}
use Rattle.octets.specs.Choice.{pick}
use Rattle.octets.specs.Put.{put_at}
use Rattle.octets.specs.Parts.{part}
use Rattle.octets.proofs.PutLaws.{put_start, put-more, set-put_at}
use Rattle.octets.proofs.PartsLaws.{get_or-part, length_part}
use Rattle.model.specs.Farm.{with_line}
use Rattle.model.specs.Line.{without}
use Rattle.table.specs.Layout.{seats, line_at, line_size, seats_at, block_size}
use Rattle.table.specs.Block.{line_image, line_from, farm_of, Whole, Holds}
use Rattle.table.proofs.ListLaws.{filled_next}
use Rattle.table.proofs.LineLaws.{padded, line_few}
use Rattle.table.proofs.BlockLaws.{line-put}

drop-take : (n : ℕ) (l : List ℕ) → drop 1 (take (suc n) l) ≡ take n (drop 1 l)
drop-take n [] = sym (take-nil n)
drop-take n (x ∷ l) = refl

-- a part without its first
part_tail : (b : List ℕ) (a n : ℕ) → drop 1 (part b a (suc n)) ≡ part b (a + 1) n
part_tail b a n = drop-take n (drop a b) ∙ ap (take n) (drop-drop 1 a b)

-- all of a list overwritten
pub copied : (out s : List ℕ) → length s ≡ length out → put_at out 0 s ≡ s
copied out s e = put_start out s ∙ ap (λ (l : List ℕ). s ++ l) (drop_of_length-le out {i = length s} (omega arith)) ∙ append-nil s

-- a count, and seats behind it
pub stored-two : (b c : List ℕ) (n : ℕ) (t : List ℕ) → length b ≡ block_size → length t ≡ seats → c ≡ put_at (set b line_at n) seats_at t
    → c ≡ put_at b line_at (n ∷ t)
stored-two b c n t long nine e = put-more b line_at (n ∷ []) (set b line_at n) seats_at t c (set-put_at b line_at n (omega arith)) refl (omega arith) e

-- ---- reading

module _ (b : List ℕ) where
  pub line-is : (farm_of b).line ≡ take (get_or b line_at 0) (part b seats_at seats)
  unfolding farm_of line_from
  line-is =
      ap (λ (n : ℕ). take n (part (part b line_at line_size) 1 seats)) (get_or-part b line_at line_size 0 (omega arith))
      ∙ ap (λ (l : List ℕ). take (get_or b line_at 0) (take seats l)) (part_tail b line_at seats)
      ∙ ap (take (get_or b line_at 0)) (take-take seats seats (drop seats_at b) (omega arith))

  pub few : length (farm_of b).line ≤ seats
  unfolding farm_of
  few = line_few (part b line_at line_size)

  module _ (long : length b ≡ block_size) where
    seats-long : length (part b seats_at seats) ≡ seats
    seats-long = length_part b seats_at seats (omega arith)

    -- at most nine wait, whatever the count says
    pub so_many : min (get_or b line_at 0) seats ≡ length (farm_of b).line
    so_many = sym (ap length line-is ∙ length-take (get_or b line_at 0) (part b seats_at seats) ∙ ap (min (get_or b line_at 0)) seats-long)

  pub seat_read : (k : ℕ) → k < length (farm_of b).line → get_or b (seats_at + k) 0 ≡ get_or (farm_of b).line k 0
  seat_read k h =
      let n : k < get_or b line_at 0 = omega (arith, ap length line-is, length-take (get_or b line_at 0) (part b seats_at seats)) in
      sym (ap (λ (l : List ℕ). get_or l k 0) line-is ∙ get_or-take (get_or b line_at 0) (part b seats_at seats) k 0 n ∙ get_or-part b seats_at seats k (omega (arith, few)))

  pub no_seat : (k : ℕ) → length (farm_of b).line ≤ k → 0 ≡ get_or (farm_of b).line k 0
  no_seat k h = sym (get_or-eq_default (farm_of b).line 0 {n = k} h)

-- ---- storing

module _ (b : List ℕ) (w : Whole b) where
  pub seats_are : part b seats_at seats ≡ padded (farm_of b).line
  unfolding farm_of line_image
  seats_are = sym (part_tail b line_at seats) ∙ ap (drop 1) (sym w.line)

  pub line-stored : (c line t : List ℕ) (n : ℕ) → length line ≤ seats → n ≡ length line → t ≡ padded line → c ≡ put_at b line_at (n ∷ t)
      → Holds c (with_line (farm_of b) line)
  unfolding line_image
  line-stored c line t n h en et e = line-put b c w line h (e ∙ ap (put_at b line_at) (let z : n ∷ t ≡ length line ∷ padded line = cc in z))

  pub joined-stored : (c : List ℕ) (seat n : ℕ) → length (farm_of b).line < seats → n ≡ length (farm_of b).line
      → c ≡ put_at b line_at ((n + 1) ∷ set (part b seats_at seats) n seat) → Holds c (with_line (farm_of b) ((farm_of b).line ++ (seat ∷ [])))
  joined-stored c seat n h en e =
      let l : List ℕ = (farm_of b).line in
      line-stored c (l ++ (seat ∷ [])) (set (part b seats_at seats) n seat) (n + 1) (omega (arith, length-append l (seat ∷ []))) (omega (arith, length-append l (seat ∷ [])))
      (ap (λ (s : List ℕ). set s n seat) seats_are ∙ ap (λ (k : ℕ). set (padded l) k seat) en ∙ filled_next seats 0 l seat h) e

popped : (l : List ℕ) → 0 < length l → length l ≤ seats → drop 1 (padded l) ++ (0 ∷ []) ≡ padded (drop 1 l)
popped [] h k = absurd (omega arith)
popped (x ∷ l) h k =
    let z : seats - suc (length l) + 1 ≡ seats - length l = omega arith in
    append_assoc l (replicate (seats - suc (length l)) 0) (0 ∷ [])
    ∙ ap (λ (t : List ℕ). l ++ t) (replicate-append-replicate (seats - suc (length l)) 1 0)
    ∙ ap (λ (n : ℕ). l ++ replicate n 0) z

module _ (b : List ℕ) (w : Whole b) where
  pub popped_stored : (c t : List ℕ) (n : ℕ) → 0 < length (farm_of b).line → n ≡ length (farm_of b).line
      → t ≡ put_at (replicate seats 0) 0 (part b (seats_at + 1) 8) → c ≡ put_at b line_at ((n - 1) ∷ t)
      → Holds c (with_line (farm_of b) (drop 1 (farm_of b).line))
  popped_stored c t n h en et e =
      let l : List ℕ = (farm_of b).line in
      let m : length (part b (seats_at + 1) 8) ≡ 8 = length_part b (seats_at + 1) 8 (omega (arith, w.long)) in
      line-stored b w c (drop 1 l) t (n - 1) (omega (arith, length-drop 1 l, few b)) (omega (arith, length-drop 1 l))
      (et ∙ put_start (replicate seats 0) (part b (seats_at + 1) 8)
      ∙ ap (λ (k : ℕ). part b (seats_at + 1) 8 ++ drop k (replicate seats 0)) m
      ∙ ap (λ (s : List ℕ). s ++ (0 ∷ [])) (sym (part_tail b seats_at 8) ∙ ap (drop 1) (seats_are b w))
      ∙ popped l h (few b))
      e

-- ---- a waiter leaves: one turn of the loop

without-short : (x : ℕ) (l : List ℕ) → length (without x l) ≤ length l
without-short x [] = omega arith
without-short x (y ∷ l) = by (eqb x y) (without-short x l)
  where
    by : (t : Bool) → length (without x l) ≤ length l → length (pick t (without x l) (y ∷ without x l)) ≤ suc (length l)
    by true h = omega arith
    by false h = omega arith

without_snoc : (x : ℕ) (l : List ℕ) (y : ℕ) → without x (l ++ (y ∷ [])) ≡ without x l ++ pick (eqb x y) [] (y ∷ [])
without_snoc x [] y = refl
without_snoc x (z ∷ l) y = by (eqb x z) (without_snoc x l y)
  where
    by : (t : Bool) → without x (l ++ (y ∷ [])) ≡ without x l ++ pick (eqb x y) [] (y ∷ [])
        → pick t (without x (l ++ (y ∷ []))) (z ∷ without x (l ++ (y ∷ []))) ≡ pick t (without x l) (z ∷ without x l) ++ pick (eqb x y) [] (y ∷ [])
    by true h = h
    by false h = ap (λ t. z ∷ t) h

-- t holds those of the first i of s that are not x, and k says how many
pub record Kept (x : ℕ) (s : List ℕ) (i : ℕ) (t : List ℕ) (k : ℕ) : Type 0 where
  pub are : t ≡ padded (without x (take i s))
  pub many : k ≡ length (without x (take i s))

pub kept-none : (x : ℕ) (s : List ℕ) → Kept x s 0 (replicate seats 0) 0
kept-none x s = record { are = refl; many = refl }

module _ (x : ℕ) (s : List ℕ) (i : ℕ) (t : List ℕ) (k : ℕ) (w : Kept x s i t k) where
  pub kept_few : k ≤ i
  kept_few = omega (arith, w.many, without-short x (take i s), length-take i s)

  next : i < length s → without x (take (i + 1) s) ≡ without x (take i s) ++ pick (eqb x (get_or s i 0)) [] (get_or s i 0 ∷ [])
  next h = ap (λ (n : ℕ). without x (take n s)) (add-one i) ∙ ap (without x) (take-suc s i 0 h) ∙ without_snoc x (take i s) (get_or s i 0)

  pub kept_drops : i < length s → x ≡ get_or s i 0 → Kept x s (i + 1) t k
  kept_drops h e =
      let z : without x (take (i + 1) s) ≡ without x (take i s) =
      next h ∙ ap (λ (b : Bool). without x (take i s) ++ pick b [] (get_or s i 0 ∷ [])) (eq-eqb x (get_or s i 0) e) ∙ append-nil (without x (take i s))
      in
      record { are = w.are ∙ ap padded (sym z); many = w.many ∙ ap length (sym z) }

  pub kept_keeps : i < length s → i < seats → (x ≡ get_or s i 0 → ⊥) → Kept x s (i + 1) (set t k (get_or s i 0)) (k + 1)
  kept_keeps h g e =
      let l : List ℕ = without x (take i s) in
      let y : ℕ = get_or s i 0 in
      let z : without x (take (i + 1) s) ≡ l ++ (y ∷ []) = next h ∙ ap (λ (b : Bool). l ++ pick b [] (y ∷ [])) (ne_eqb x (get_or s i 0) e) in
      record {
        are = ap (λ (a : List ℕ). set a k y) w.are ∙ ap (λ (n : ℕ). set (padded l) n y) w.many
            ∙ filled_next seats 0 l y (omega (arith, w.many, kept_few)) ∙ ap padded (sym z);
        many = omega (arith, w.many, ap length z, length-append (without x (take i s)) (get_or s i 0 ∷ []));
      }

pub left-stored : (b : List ℕ) (w : Whole b) (c t : List ℕ) (x n k : ℕ) → n ≡ length (farm_of b).line → Kept x (part b seats_at seats) n t k
    → c ≡ put_at b line_at (k ∷ t) → Holds c (with_line (farm_of b) (without x (farm_of b).line))
left-stored b w c t x n k en kept e =
    let l : List ℕ = (farm_of b).line in
    let z : take n (part b seats_at seats) ≡ (farm_of b).line =
    ap (λ (m : ℕ). take m (part b seats_at seats)) en ∙ ap (take (length l)) (seats_are b w) ∙ take_at l (replicate (seats - length l) 0) (length l) refl
    in
    line-stored b w c (without x l) t k (omega (arith, without-short x (farm_of b).line, few b)) (kept.many ∙ ap (λ (s : List ℕ). length (without x s)) z)
    (kept.are ∙ ap (λ (s : List ℕ). padded (without x s)) z) e

pub kept_as : {x : ℕ} {s : List ℕ} {i : ℕ} {t : List ℕ} {k : ℕ} {t' : List ℕ} {k' : ℕ} → t' ≡ t → k' ≡ k → Kept x s i t k → Kept x s i t' k'
kept_as et ek w = record { are = et ∙ w.are; many = ek ∙ w.many }
