-- A row that was laid out is read back; its bytes are twenty; other ticks are two other bytes.
-- Assumes nothing.
use mathlib.Core.Path.{◌≡◌, refl, ap, ◌∙◌}
use mathlib.Core.List.{List, [], ◌∷◌, ◌++◌}
use Prim.Native.Nat.{ℕ, ◌+◌, ◌*◌, ◌/◌, ◌%◌}
use native.Mathlib.Omega.{arith}
use lib.ListN.{length, get_or, take, drop, length-append}
use lib.Seq.{take_at, drop_at}
use Rattle.octets.specs.Numbers.{u32_at}
use Rattle.octets.specs.Parts.{part}
use Rattle.kinds.specs.declared.RowState.{RowState}
use Rattle.kinds.specs.declared.RowState.TheVariants.{Free, Fresh, Waiting, Active}
use Rattle.kinds.specs.declared.Place.{Place}
use Rattle.kinds.specs.declared.Place.TheVariants.{Header, Reading, Skipping}
use Rattle.kinds.specs.declared.Row.{Row}
use Rattle.kinds.specs.Clock.{clock_of}
use Rattle.rowbytes.specs.RowLayout.{row_size, place_in, head_in, head_size}
use Rattle.rowbytes.specs.RowBytes.{state_image, place_image, place_from, row_image, state_in, row_from}

-- ---- numbers: no bound is needed, since the first byte takes all that is left

pub two : (x : ℕ) → x / 256 * 256 + x % 256 ≡ x
two x = omega arith

pub four : (x : ℕ) → x / 16777216 * 16777216 + x / 65536 % 256 * 65536 + x / 256 % 256 * 256 + x % 256 ≡ x
four x = omega arith

-- ---- lengths

pub state_long : (s : RowState) → length (state_image s) ≡ place_in
state_long Free = refl
state_long (Fresh age) = refl
state_long (Waiting q) = refl
state_long (Active a idle) = refl

pub place-long : (p : Place) → length (place_image p) ≡ 5
place-long (Header n) = refl
place-long (Reading n) = refl
place-long (Skipping n) = refl

pub row-long : (r : Row) → length r.head ≡ head_size → length (row_image r) ≡ row_size
unfolding row_image
row-long r h =
    omega (
      arith,
      length-append (state_image r.state) (place_image r.place ++ (r.head ++ (0 ∷ []))),
      length-append (place_image r.place) (r.head ++ (0 ∷ [])),
      length-append r.head (0 ∷ []),
      state_long r.state,
      place-long r.place,
    )

-- ---- back again

state_back : (s : RowState) (u : List ℕ) → state_in (state_image s ++ u) ≡ s
unfolding state_in
state_back Free u = refl
state_back (Fresh age) u = ap (λ (n : ℕ). Fresh (clock_of n)) (two age.ticks)
state_back (Waiting q) u = ap (λ (n : ℕ). Waiting (record { address = n; kind = q.kind })) (two q.address)
state_back (Active a idle) u = ap (λ (n : ℕ). Active n (clock_of (idle.ticks / 256 * 256 + idle.ticks % 256))) (two a) ∙ ap (λ (n : ℕ). Active a (clock_of n)) (two idle.ticks)

place_of : (s : RowState) (u : List ℕ)
    → place_from (get_or (state_image s ++ u) place_in 0) (get_or (state_image s ++ u) 10 0) (u32_at (state_image s ++ u) 7) ≡ place_from (get_or u 0 0) (get_or u 4 0) (u32_at u 1)
place_of Free u = refl
place_of (Fresh age) u = refl
place_of (Waiting q) u = refl
place_of (Active a idle) u = refl

place_back : (p : Place) (u : List ℕ)
    → place_from (get_or (place_image p ++ u) 0 0) (get_or (place_image p ++ u) 4 0) (u32_at (place_image p ++ u) 1) ≡ p
place_back (Header n) u = refl
place_back (Reading n) u = ap Reading (four n)
place_back (Skipping n) u = ap Skipping (four n)

past_state : (s : RowState) (u : List ℕ) → drop head_in (state_image s ++ u) ≡ drop 5 u
past_state Free u = refl
past_state (Fresh age) u = refl
past_state (Waiting q) u = refl
past_state (Active a idle) u = refl

past_place : (p : Place) (u : List ℕ) → drop 5 (place_image p ++ u) ≡ u
past_place (Header n) u = refl
past_place (Reading n) u = refl
past_place (Skipping n) u = refl

head_back : (s : RowState) (p : Place) (h : List ℕ) → length h ≡ head_size
    → part (state_image s ++ (place_image p ++ (h ++ (0 ∷ [])))) head_in head_size ≡ h
head_back s p h e =
    ap (take head_size) (past_state s (place_image p ++ (h ++ (0 ∷ []))) ∙ past_place p (h ++ (0 ∷ []))) ∙ take_at h (0 ∷ []) head_size e

same_row : {x y : RowState} {p q : Place} {h k : List ℕ} → x ≡ y → p ≡ q → h ≡ k
    → ◌≡◌ {A = Row} (record { state = x; place = p; head = h }) (record { state = y; place = q; head = k })
same_row e f g = cc

pub row_back : (r : Row) → length r.head ≡ head_size → row_from (row_image r) ≡ r
unfolding row_from row_image
row_back r h =
    same_row (state_back r.state (place_image r.place ++ (r.head ++ (0 ∷ []))))
    (place_of r.state (place_image r.place ++ (r.head ++ (0 ∷ []))) ∙ place_back r.place (r.head ++ (0 ∷ [])))
    (head_back r.state r.place r.head h)

-- ---- what follows the place, and the spare byte

pub past_all : (r : Row) → length r.head ≡ head_size → drop 19 (row_image r) ≡ 0 ∷ []
unfolding row_image
past_all r h = by r.state r.place
  where
    tail : drop 8 (r.head ++ (0 ∷ [])) ≡ 0 ∷ []
    tail = drop_at r.head (0 ∷ []) 8 h

    by : (s : RowState) (p : Place) → drop 19 (state_image s ++ (place_image p ++ (r.head ++ (0 ∷ [])))) ≡ 0 ∷ []
    by Free (Header n) = tail
    by Free (Reading n) = tail
    by Free (Skipping n) = tail
    by (Fresh age) (Header n) = tail
    by (Fresh age) (Reading n) = tail
    by (Fresh age) (Skipping n) = tail
    by (Waiting q) (Header n) = tail
    by (Waiting q) (Reading n) = tail
    by (Waiting q) (Skipping n) = tail
    by (Active a idle) (Header n) = tail
    by (Active a idle) (Reading n) = tail
    by (Active a idle) (Skipping n) = tail
