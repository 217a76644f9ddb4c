-- What a bytes call takes and where it leaves the row, the sum of the bytes in hand, and sums that wrap.
-- Assumes nothing.
use Rattle.std.proofs.Common.{Result, Ok, Err}
use Rattle.kinds.specs.declared.Fault.{Fault}
use Prim.{Unit, tt}
use Prim.Native.Nat.{ℕ, zero, suc, ◌+◌, ◌≤◌, ◌<◌}
use mathlib.Core.Path.{◌≡◌, refl, sym, ap, subst, ◌∙◌}
use mathlib.Core.Bool.{Bool, true, false, false≢true}
use mathlib.Core.List.{List, [], ◌∷◌, ◌++◌, map}
use native.Mathlib.Nat.{not-suc-le-zero}
use native.Mathlib.Omega.{arith}
use lib.Dec.{eqb, ltb}
use lib.ListN.{set, length}
use borrow.Author.Tests.{ltb-true, ltb-false, eq-eqb}
use Rattle.octets.specs.Choice.{one}
use Rattle.octets.specs.Search.{count_if}
use Rattle.kinds.specs.declared.RowState.{RowState}
use Rattle.kinds.specs.declared.RowState.TheVariants.{Free, Fresh, Waiting, Active}
use Rattle.kinds.specs.declared.Place.{Place}
use Rattle.kinds.specs.declared.Place.TheVariants.{Header, Reading, Skipping}
use Rattle.kinds.specs.declared.Row.{Row}
use Rattle.wire.specs.Header.{header_size, header_at, verdict_of, closes}
use Rattle.model.specs.Row.{free_row, row_at, in_hand_at, in_hand_by, in_hand, is_open_state, older, older_state, boundary}
use Rattle.model.specs.Stream.{Stream, Event, input_ended, wrong, finished, skipped, Fed, more, ends, judged, feed_at, feed, takes_by, takes, ended_by}
use Rattle.model.specs.Farm.{wrap}
use Rattle.model.specs.Line.{without}
use Rattle.model.specs.Rule.{times, PossibleAt}
use Rattle.model.specs.Meter.{hands}
use Rattle.model.proofs.SoundStream.{passes-some}
use Rattle.model.proofs.Cases.{pick_case}
use Rattle.model.proofs.Rows.{row-set, row-map}

-- ---- sums that wrap

pub wrap_left : (a b : ℕ) → wrap (wrap a + b) ≡ wrap (a + b)
wrap_left a b = omega arith

-- the same on both sides
pub wrap-more : (a b k : ℕ) → wrap a ≡ wrap b → wrap (a + k) ≡ wrap (b + k)
wrap-more a b k e = sym (wrap_left a k) ∙ ap (λ (x : ℕ). wrap (x + k)) e ∙ wrap_left b k

pub wrap-right : (a b c : ℕ) → wrap (a + (wrap b + c)) ≡ wrap (a + (b + c))
wrap-right a b c = ap wrap (swap a (wrap b) c) ∙ wrap_left b (a + c) ∙ ap wrap (swap b a c)
  where
    swap : (x y z : ℕ) → x + (y + z) ≡ y + (x + z)
    swap x y z = omega arith

-- ---- one byte, and a whole call

-- a place short of its end: all that the meters need of a possible place
abbrev pub Fits : Place → List ℕ → Type 0
Fits (Header n) head = n < header_size
Fits (Reading n) head = n < (header_at head 0).length
Fits (Skipping n) head = n < (header_at head 0).length

pub fits_of : (p : Place) (head : List ℕ) → PossibleAt p head → Fits p head
fits_of (Header n) head h = h
fits_of (Reading n) head h = h.0
fits_of (Skipping n) head h = h.0

-- n bytes were in hand, and one came
FedKeeps : ℕ → Fed → Type 0
FedKeeps n (more s) = (n + 1 ≡ in_hand_at s.place) × Fits s.place s.head
FedKeeps n (ends e s) = n + 1 ≡ ended_by e s + in_hand_at s.place

-- eight header bytes are in: the header is judged
judged_keeps : (v : Result Unit Fault) (head room : List ℕ) → verdict_of (header_at head 0) ≡ v → FedKeeps 7 (judged v head room)
unfolding FedKeeps
judged_keeps (Ok tt) head room e = (refl, passes-some (header_at head 0) e)
judged_keeps (Err fault) head room e =
    pick_case (λ s. 8 ≡ ended_by (wrong fault) s + in_hand_at s.place) (closes fault) _ _ (λ _. refl)
    (λ _. pick_case (λ s. 8 ≡ ended_by (wrong fault) s + in_hand_at s.place) (eqb (header_at head 0).length 0) _ _ (λ _. refl) (λ _. refl))

fed_at : (p : Place) (head room : List ℕ) (byte : ℕ) → Fits p head → FedKeeps (in_hand_at p) (feed_at p head room byte)
unfolding FedKeeps
fed_at (Header n) head room byte h =
    pick_case (FedKeeps n) (ltb (n + 1) header_size) _ _ (λ t. (refl, ltb-true _ _ t))
    (λ t. subst (λ (k : ℕ). FedKeeps k (judged (verdict_of (header_at (set head n byte) 0)) (set head n byte) room)) (last t)
    (judged_keeps (verdict_of (header_at (set head n byte) 0)) (set head n byte) room refl))
  where
    last : ltb (n + 1) header_size ≡ false → 7 ≡ n
    last t = omega (arith, ltb-false (n + 1) header_size t)
fed_at (Reading n) head room byte h =
    pick_case (FedKeeps (header_size + n)) (ltb (n + 1) (header_at head 0).length) _ _ (λ t. (omega arith, ltb-true _ _ t))
    (λ t. omega (arith, ltb-false (n + 1) (header_at head 0).length t))
fed_at (Skipping n) head room byte h =
    pick_case (FedKeeps (header_size + n)) (ltb (n + 1) (header_at head 0).length) _ _ (λ t. (omega arith, ltb-true _ _ t))
    (λ t. omega (arith, ltb-false (n + 1) (header_at head 0).length t))

-- the bytes in hand and the bytes taken are the bytes finished and the bytes in hand then
pub takes_balance : (s : Stream) (input : List ℕ) → Fits s.place s.head
    → in_hand_at s.place + (takes s input).count ≡ ended_by (takes s input).event (takes s input).stream + in_hand_at (takes s input).stream.place
unfolding takes feed FedKeeps
takes_balance s [] h = omega arith
takes_balance s (byte ∷ bytes) h = go (feed s byte) (fed_at s.place s.head s.room byte h) (λ t k. takes_balance t bytes k)
  where
    go : (x : Fed) → FedKeeps (in_hand_at s.place) x
        → ((t : Stream) → Fits t.place t.head
        → in_hand_at t.place + (takes t bytes).count ≡ ended_by (takes t bytes).event (takes t bytes).stream + in_hand_at (takes t bytes).stream.place)
        → in_hand_at s.place + (takes_by x (λ t. takes t bytes)).count ≡
        ended_by (takes_by x (λ t. takes t bytes)).event (takes_by x (λ t. takes t bytes)).stream +
        in_hand_at (takes_by x (λ t. takes t bytes)).stream.place
    go (more t) k ih = omega (arith, k.0, ih t k.1)
    go (ends e t) k ih = k

-- the call ends with a header that closes
abbrev pub closing : Event → Bool
closing input_ended = false
closing (wrong fault) = closes fault
closing (finished kind size) = false
closing (skipped size) = false

-- a message that is finished, or skipped, leaves the row between two messages
abbrev pub Rests : Event → Stream → Type 0
Rests input_ended s = Unit {0}
Rests (wrong fault) s = Unit {0}
Rests (finished kind size) s = s.place ≡ boundary
Rests (skipped size) s = s.place ≡ boundary

FedRests : Fed → Type 0
FedRests (more s) = Unit {0}
FedRests (ends e s) = Rests e s

judged_rests : (v : Result Unit Fault) (head room : List ℕ) → FedRests (judged v head room)
unfolding FedRests
judged_rests (Ok tt) head room = tt
judged_rests (Err fault) head room = tt

fed_rests : (p : Place) (head room : List ℕ) (byte : ℕ) → FedRests (feed_at p head room byte)
unfolding FedRests
fed_rests (Header n) head room byte = pick_case FedRests (ltb (n + 1) header_size) _ _ (λ _. tt)
    (λ _. judged_rests (verdict_of (header_at (set head n byte) 0)) (set head n byte) room)
fed_rests (Reading n) head room byte = pick_case FedRests (ltb (n + 1) (header_at head 0).length) _ _ (λ _. tt) (λ _. refl)
fed_rests (Skipping n) head room byte = pick_case FedRests (ltb (n + 1) (header_at head 0).length) _ _ (λ _. tt) (λ _. refl)

pub takes_rests : (s : Stream) (input : List ℕ) → Rests (takes s input).event (takes s input).stream
unfolding takes feed FedRests
takes_rests s [] = tt
takes_rests s (byte ∷ bytes) = go (feed s byte) (fed_rests s.place s.head s.room byte) (λ t. takes_rests t bytes)
  where
    go : (x : Fed) → FedRests x → ((t : Stream) → Rests (takes t bytes).event (takes t bytes).stream)
        → Rests (takes_by x (λ t. takes t bytes)).event (takes_by x (λ t. takes t bytes)).stream
    go (more t) k ih = ih t
    go (ends e t) k ih = k

-- ---- the sum of the bytes in hand

pub hands_same : (rows : List Row) (r : ℕ) (x : Row) → in_hand x ≡ in_hand (row_at rows r) → hands (set rows r x) ≡ hands rows
unfolding hands
hands_same [] r x e = refl
hands_same (y ∷ ys) zero x e = omega arith
hands_same (y ∷ ys) (suc r) x e = omega (arith, hands_same ys r x e)

pub hands-set : (rows : List Row) (r : ℕ) (x : Row) → r < length rows → hands (set rows r x) + in_hand (row_at rows r) ≡ hands rows + in_hand x
unfolding hands
hands-set [] r x h = absurd (not-suc-le-zero h)
hands-set (y ∷ ys) zero x h = omega arith
hands-set (y ∷ ys) (suc r) x h = omega (arith, hands-set ys r x (omega arith))

pub hands_free : (rows : List Row) (r : ℕ) → hands (set rows r free_row) + in_hand (row_at rows r) ≡ hands rows
unfolding hands
hands_free [] r = refl
hands_free (y ∷ ys) zero = omega arith
hands_free (y ∷ ys) (suc r) = omega (arith, hands_free ys r)

pub hand_open : (s : RowState) (p : Place) → is_open_state s ≡ true → in_hand_by s p ≡ in_hand_at p
hand_open Free p e = absurd (false≢true e)
hand_open (Fresh c) p e = refl
hand_open (Waiting q) p e = refl
hand_open (Active a c) p e = refl

-- between two messages nothing is in hand
pub hand_boundary : (s : RowState) → in_hand_by s boundary ≡ 0
hand_boundary Free = refl
hand_boundary (Fresh c) = refl
hand_boundary (Waiting q) = refl
hand_boundary (Active a c) = refl

hand_older : (s : RowState) (p : Place) → in_hand_by (older_state s) p ≡ in_hand_by s p
hand_older Free p = refl
hand_older (Fresh c) p = refl
hand_older (Waiting q) p = refl
hand_older (Active a c) p = refl

pub hands-older : (rows : List Row) → hands (map older rows) ≡ hands rows
unfolding hands
hands-older [] = refl
hands-older (x ∷ xs) = omega (arith, hand_older x.state x.place, hands-older xs)

-- ---- the rows of a line: below n, with nothing in hand

pub data Clear (n : ℕ) (rows : List Row) : List ℕ → Type 0 where
  none : Clear n rows []
  next : {i : ℕ} {l : List ℕ} → i < n → in_hand (row_at rows i) ≡ 0 → Clear n rows l → Clear n rows (i ∷ l)

pub clear_below : {n : ℕ} {rows : List Row} {i : ℕ} {l : List ℕ} → Clear n rows (i ∷ l) → i < n
clear_below (next b e c) = b

pub clear_first : {n : ℕ} {rows : List Row} {i : ℕ} {l : List ℕ} → Clear n rows (i ∷ l) → in_hand (row_at rows i) ≡ 0
clear_first (next b e c) = e

pub clear_rest : {n : ℕ} {rows : List Row} {i : ℕ} {l : List ℕ} → Clear n rows (i ∷ l) → Clear n rows l
clear_rest (next b e c) = c

pub clear_set : {n : ℕ} {rows : List Row} {l : List ℕ} (r : ℕ) (x : Row) → in_hand x ≡ 0 → Clear n rows l → Clear n (set rows r x) l
clear_set r x e none = none
clear_set {rows = rows} r x e (next {i = i} b h c) = next b (row-set rows r i x (λ y. in_hand y ≡ 0) (λ _ _. e) h) (clear_set r x e c)

-- from what holds of each seat that stands in the line
pub clear_of : (n : ℕ) (rows : List Row) (l : List ℕ) → ((i : ℕ) → 1 ≤ times i l → (i < n) × (in_hand (row_at rows i) ≡ 0)) → Clear n rows l
unfolding count_if
clear_of n rows [] h = none
clear_of n rows (i ∷ l) h =
    let k = h i (let t : one (eqb i i) ≡ 1 = ap one (eq-eqb i i refl) in omega arith) in
    next k.0 k.1 (clear_of n rows l (λ j k. h j (omega arith)))

pub clear_append : {n : ℕ} {rows : List Row} {l : List ℕ} (i : ℕ) → i < n → in_hand (row_at rows i) ≡ 0 → Clear n rows l → Clear n rows (l ++ (i ∷ []))
clear_append i b e none = next b e none
clear_append i b e (next k h c) = next k h (clear_append i b e c)

pub clear_without : {n : ℕ} {rows : List Row} {l : List ℕ} (i : ℕ) → Clear n rows l → Clear n rows (without i l)
clear_without i none = none
clear_without {n} {rows} i (next {i = x} {l = l} b h c) =
    pick_case (Clear n rows) (eqb i x) (without i l) (x ∷ without i l) (λ _. clear_without i c) (λ _. next b h (clear_without i c))

pub clear_older : {n : ℕ} {rows : List Row} {l : List ℕ} → Clear n rows l → Clear n (map older rows) l
clear_older none = none
clear_older {rows = rows} (next {i = i} b e c) =
    next b (ap in_hand (row-map older refl rows i) ∙ hand_older (row_at rows i).state (row_at rows i).place ∙ e) (clear_older c)
