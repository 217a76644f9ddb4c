-- The window: what farm g has of a history is what it would have alone, of its own calls and the accepted ticks.
-- Assumes nothing.
use Prim.Native.Nat.{ℕ, suc, ◌<◌}
use mathlib.Core.Path.{◌≡◌, refl, sym, ap, ap₂, subst, ◌∙◌}
use mathlib.Core.Bool.{Bool, true, false}
use mathlib.Core.List.{List, [], ◌∷◌}
use native.Mathlib.Nat.{zero-add}
use native.Mathlib.Omega.{arith}
use lib.Dec.{eqb, leb}
use lib.ListN.{length, set, length-set}
use lib.Seq.{get_or-set_same, get_or-set_other}
use borrow.Author.Tests.{eqb-true, eqb-false, eq-eqb}
use Rattle.octets.specs.Choice.{pick, unless}
use Rattle.sheet.specs.Sheet.{farm_count}
use Rattle.sheet.specs.Test.{good_sheet}
use Rattle.model.specs.FarmSheet.{slot_sheet}
use Rattle.model.specs.Move.{Own, Held, Move, refused, gave, move, tick_move}
use Rattle.model.specs.Table.{Table, no_held, slot, good_table, Call, Lent, least_output, assembling_size, Whose, nobodys, farms, everyones, whose, Did, Outcome, refuses, did, moved_to, held_by, tick_table, called, step, number_of, row_of, took_of, items_of, long_of, table_of}
use Rattle.model.specs.History.{Made, step_of, run, replies_by, Has, has, counts_by, counts, seen_by, seen, calls_of, has_of}
use Rattle.model.proofs.Cases.{split}
use Rattle.model.proofs.TableTest.{step_test}
use Rattle.model.proofs.WindowAlone.{if_room, alone_by, alone_move, has_by, alone, held_after}
use Rattle.model.proofs.WindowTick.{part_of, tick-slot}

-- ---- what is lent is looked at first

-- what holds of the two refusals and of what comes after them
pub room_case : (P : Outcome → Type 0) (l : Lent) (o : Outcome) → P (refuses 2) → P (refuses 3) → P o → P (if_room l refuses o)
room_case P l o two three rest = by (leb least_output l.output) (eqb l.assembling assembling_size)
  where
    by : (a b : Bool) → P (unless a (refuses 2) (unless b (refuses 3) o))
    by true true = rest
    by true false = three
    by false b = two

-- likewise of a call and of the farm's own move
pub rooms_case : (P : Outcome → Move → Type 0) (l : Lent) (o : Outcome) (mv : Move) → P (refuses 2) (refused 2) → P (refuses 3) (refused 3)
    → P o mv
    → P (if_room l refuses o) (if_room l refused mv)
rooms_case P l o mv two three rest = by (leb least_output l.output) (eqb l.assembling assembling_size)
  where
    by : (a b : Bool) → P (unless a (refuses 2) (unless b (refuses 3) o)) (unless a (refused 2) (unless b (refused 3) mv))
    by true true = rest
    by true false = three
    by false b = two

-- under a good sheet, on a good table, only what is lent can turn a call away before the farm is looked at
pub step_is : (s : List ℕ) (t : Table) → good_sheet s ≡ true → good_table s t ≡ true → (l : Lent) (c : Call)
    → step s l t c ≡ if_room l refuses (called s t (whose s c))
unfolding step
step_is s t q k l c = rw (q, k)

-- ---- no call changes how many slots there are

tick-length : (s : List ℕ) (k : ℕ) (t : Table) → length (tick_table s k t) ≡ length t
tick-length s k [] = refl
tick-length s k (h ∷ t) = ap suc (tick-length s (suc k) t)

called-length : (s : List ℕ) (t : Table) (w : Whose) → length (table_of t (called s t w)) ≡ length t
called-length s t (nobodys n) = refl
called-length s t (farms f c) = by (move (slot_sheet s f) (slot t f) c)
  where
    by : (mv : Move) → length (table_of t (moved_to t f mv)) ≡ length t
    by (refused n) = refl
    by (gave x) = length-set t f x.held
called-length s t everyones = tick-length s 0 t

pub step-length : (s : List ℕ) (t : Table) → good_sheet s ≡ true → good_table s t ≡ true → (l : Lent) (c : Call)
    → length (table_of t (step s l t c)) ≡ length t
step-length s t q k l c =
    rw (step_is s t q k l c) (room_case (λ o. length (table_of t o) ≡ length t) l (called s t (whose s c)) refl refl (called-length s t (whose s c)))

module _ (s : List ℕ) (q : good_sheet s ≡ true) (g : ℕ) (inSheet : g < farm_count s) where
  -- ---- a call, seen from farm g

  abbrev has_in : Table → Whose → Outcome → Has
  has_in t w o =
      record {
        number = number_of o;
        row = row_of o;
        took = took_of o;
        replies = replies_by (slot_sheet s g) w (items_of o);
        long = long_of o;
        meters = (slot (table_of t o) g).farm.meters;
      }

  -- it counts, and is the farm's own move; or it does nothing to it
  data Part (t : Table) (w : Whose) (o : Outcome) (mv : Move) : Type 0 where
    mine : counts_by g w (number_of o) ≡ true → has_in t w o ≡ has_by (slot t g) mv → slot (table_of t o) g ≡ held_by (slot t g) mv → Part t w o mv
    others : counts_by g w (number_of o) ≡ false → slot (table_of t o) g ≡ slot t g → Part t w o mv

  module _ (t : Table) (in_table : g < length t) where
    own_moved : (c : Own) (mv : Move) → Part t (farms g c) (moved_to t g mv) mv
    own_moved c (refused n) = mine (eq-eqb g g refl) refl refl
    own_moved c (gave x) =
        let e : slot (set t g x.held) g ≡ x.held = get_or-set_same t g x.held no_held in_table in mine (eq-eqb g g refl) (rw e) e

    own_call : (l : Lent) (c : Own)
        → Part t (farms g c) (if_room l refuses (called s t (farms g c))) (alone_by (slot_sheet s g) (slot t g) l (farms g c))
    own_call l c =
        rooms_case (Part t (farms g c)) l (called s t (farms g c)) (move (slot_sheet s g) (slot t g) c)
        (mine (eq-eqb g g refl) refl refl) (mine (eq-eqb g g refl) refl refl)
        (own_moved c (move (slot_sheet s g) (slot t g) c))

    -- a call of another farm, or of nobody, leaves the slot as it is
    other_moved : (f : ℕ) → (f ≡ g → ⊥) → (mv : Move) → slot (table_of t (moved_to t f mv)) g ≡ slot t g
    other_moved f ne (refused n) = refl
    other_moved f ne (gave x) = get_or-set_other t f g x.held no_held (λ e. ne (sym e))

    module _ (k : good_table s t ≡ true) where
      tick-did : Part t everyones (called s t everyones) (tick_move (slot_sheet s g) (slot t g))
      unfolding tick_move good_table
      tick-did =
          let a = tick-slot s g inSheet 0 g t (zero-add g) in_table in
          let b = part_of s g inSheet 0 g t (zero-add g) in_table k in
          mine refl (rw (b, a)) a

      part : (l : Lent) (w : Whose) → Part t w (if_room l refuses (called s t w)) (alone_by (slot_sheet s g) (slot t g) l w)
      part l (nobodys n) = others refl (room_case (λ o. slot (table_of t o) g ≡ slot t g) l (refuses n) refl refl refl)
      part l (farms f c) =
          split (eqb f g)
          (λ e.
          subst
          (λ (j : ℕ). Part t (farms j c) (if_room l refuses (called s t (farms j c))) (alone_by (slot_sheet s g) (slot t g) l (farms j c)))
          (sym (eqb-true f g e))
          (own_call l c))
          (λ e.
          others e
          (room_case (λ o. slot (table_of t o) g ≡ slot t g) l (called s t (farms f c)) refl refl
          (other_moved f (eqb-false f g e) (move (slot_sheet s f) (slot t f) c))))
      part l everyones =
          room_case (λ o. Part t everyones o (tick_move (slot_sheet s g) (slot t g))) l (called s t everyones)
          (others refl refl) (others refl refl) tick-did

  seen-move : (h : Held) (m : Made) (w : Whose) → whose s m.call ≡ w → alone_move s g h (seen_by w m) ≡ alone_by (slot_sheet s g) h m.lent w
  seen-move h m (nobodys n) e = ap (alone_by (slot_sheet s g) h m.lent) e
  seen-move h m (farms f c) e = ap (alone_by (slot_sheet s g) h m.lent) e
  seen-move h m everyones e = refl

  -- a call of a history: it counts and the farm does of it what it would do alone, or it does nothing to the farm
  pub data Call-of (t : Table) (m : Made) : Type 0 where
    counted : counts s g t m ≡ true → has s g t m ≡ has_by (slot t g) (alone_move s g (slot t g) (seen s m))
        → slot (table_of t (step_of s t m)) g ≡ held_by (slot t g) (alone_move s g (slot t g) (seen s m)) → Call-of t m
    passed : counts s g t m ≡ false → slot (table_of t (step_of s t m)) g ≡ slot t g → Call-of t m

  -- the same, read off the call's outcome
  read_off : (t : Table) (m : Made)
      → Part t (whose s m.call) (step_of s t m) (alone_by (slot_sheet s g) (slot t g) m.lent (whose s m.call)) → Call-of t m
  unfolding counts has
  read_off t m (mine c a b) =
      let e = seen-move (slot t g) m (whose s m.call) refl in
      counted c (a ∙ ap (has_by (slot t g)) (sym e)) (b ∙ ap (held_by (slot t g)) (sym e))
  read_off t m (others c b) = passed c b

  pub call_of : (t : Table) → g < length t → good_table s t ≡ true → (m : Made) → Call-of t m
  call_of t h k m =
      read_off t m
      (subst (λ (o : Outcome). Part t (whose s m.call) o (alone_by (slot_sheet s g) (slot t g) m.lent (whose s m.call)))
      (sym (step_is s t q k m.lent m.call))
      (part t h k m.lent (whose s m.call)))

  -- ---- a history

  keeps_on : (t : Table) → good_table s t ≡ true → (m : Made) → good_table s (table_of t (step_of s t m)) ≡ true
  keeps_on t k m = step_test s m.lent t m.call k

  slots_on : (t : Table) → g < length t → good_table s t ≡ true → (m : Made) → g < length (table_of t (step_of s t m))
  slots_on t h k m = omega (arith, step-length s t q k m.lent m.call)

  -- THE WINDOW: what farm g has of a history is what it would have alone, of its own calls and the accepted ticks.
  pub window : (t : Table) → g < length t → good_table s t ≡ true → (ms : List Made) → has_of s g t ms ≡ alone s g (slot t g) (calls_of s g t ms)
  unfolding has_of calls_of alone
  window t h k [] = refl
  window t h k (m ∷ ms) =
      by (call_of t h k m) (window (table_of t (step_of s t m)) (slots_on t h k m) (keeps_on t k m) ms)
    where
      by : Call-of t m
          → has_of s g (table_of t (step_of s t m)) ms ≡ alone s g (slot (table_of t (step_of s t m)) g) (calls_of s g (table_of t (step_of s t m)) ms)
          → pick (counts s g t m) (has s g t m ∷ has_of s g (table_of t (step_of s t m)) ms) (has_of s g (table_of t (step_of s t m)) ms) ≡
          alone s g (slot t g)
          (pick (counts s g t m) (seen s m ∷ calls_of s g (table_of t (step_of s t m)) ms) (calls_of s g (table_of t (step_of s t m)) ms))
      by (counted c a b) ih = rw c (ap₂ {A = Has} {B = List Has} {C = List Has} (λ x xs. x ∷ xs) a (rw b at ih))
      by (passed c b) ih = rw c (rw b at ih)

  -- what farm g holds after a history is what it would hold alone
  pub held_window : (t : Table) → g < length t → good_table s t ≡ true → (ms : List Made)
      → slot (run s t ms) g ≡ held_after s g (slot t g) (calls_of s g t ms)
  unfolding run calls_of held_after
  held_window t h k [] = refl
  held_window t h k (m ∷ ms) =
      by (call_of t h k m) (held_window (table_of t (step_of s t m)) (slots_on t h k m) (keeps_on t k m) ms)
    where
      by : Call-of t m
          → slot (run s (table_of t (step_of s t m)) ms) g ≡
          held_after s g (slot (table_of t (step_of s t m)) g) (calls_of s g (table_of t (step_of s t m)) ms)
          → slot (run s (table_of t (step_of s t m)) ms) g ≡
          held_after s g (slot t g)
          (pick (counts s g t m) (seen s m ∷ calls_of s g (table_of t (step_of s t m)) ms) (calls_of s g (table_of t (step_of s t m)) ms))
      by (counted c a b) ih = rw c (rw b at ih)
      by (passed c b) ih = rw c (rw b at ih)

-- ---- a history without the neighbours' calls

-- the calls of a history that count for farm g
unfoldable pub mine_of : List ℕ → ℕ → Table → List Made → List Made
mine_of s g t [] = []
mine_of s g t (m ∷ ms) =
    pick (counts s g t m) (m ∷ mine_of s g (table_of t (step_of s t m)) ms) (mine_of s g (table_of t (step_of s t m)) ms)

-- what turns a tick away is lent with it
tick-number : (l : Lent) (x y : Did) → number_of (if_room l refuses (did x)) ≡ number_of (if_room l refuses (did y))
tick-number l x y = by (leb least_output l.output) (eqb l.assembling assembling_size)
  where
    by : (a b : Bool)
        → number_of (unless a (refuses 2) (unless b (refuses 3) (did x))) ≡ number_of (unless a (refuses 2) (unless b (refuses 3) (did y)))
    by true true = refl
    by true false = refl
    by false b = refl

module _ (s : List ℕ) (q : good_sheet s ≡ true) (g : ℕ) where
  counts-by : (t u : Table) (l : Lent) (w : Whose)
      → counts_by g w (number_of (if_room l refuses (called s t w))) ≡ counts_by g w (number_of (if_room l refuses (called s u w)))
  counts-by t u l (nobodys n) = refl
  counts-by t u l (farms f c) = refl
  counts-by t u l everyones = ap (λ (n : ℕ). eqb n 0) (tick-number l _ _)

  -- whether a call counts does not hang on the table
  counts_same : (t u : Table) → good_table s t ≡ true → good_table s u ≡ true → (m : Made) → counts s g t m ≡ counts s g u m
  unfolding counts
  counts_same t u a b m =
      rw (step_is s t q a m.lent m.call, step_is s u q b m.lent m.call) (counts-by t u m.lent (whose s m.call))

  pub calls_same : (t u : Table) → good_table s t ≡ true → good_table s u ≡ true → (ms : List Made)
      → calls_of s g u (mine_of s g t ms) ≡ calls_of s g t ms
  unfolding calls_of mine_of
  calls_same t u a b [] = refl
  calls_same t u a b (m ∷ ms) =
      let t' : Table = table_of t (step_of s t m) in
      let u' : Table = table_of u (step_of s u m) in
      let a' : good_table s t' ≡ true = step_test s m.lent t m.call a in
      let b' : good_table s u' ≡ true = step_test s m.lent u m.call b in
      split (counts s g t m)
      (λ e. let d : counts s g u m ≡ true = sym (counts_same t u a b m) ∙ e in rw (e, d) (ap (λ l. seen s m ∷ l) (calls_same t' u' a' b' ms)))
      (λ e. rw e (calls_same t' u a' b ms))
