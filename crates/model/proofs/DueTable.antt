-- The due time along a history: another farm's call, or a refused one, leaves the farm's slot alone; its own calls and the accepted ticks
-- do what they do to the farm.
-- Assumes nothing.
use Rattle.std.proofs.Common.{Option, Some, None}
use Rattle.kinds.specs.declared.FarmNo.{FarmNo}
use Prim.Native.Nat.{ℕ, zero, suc, ◌+◌, ◌≤◌, ◌<◌}
use mathlib.Core.Path.{◌≡◌, refl, sym, ap, subst, ◌∙◌}
use mathlib.Core.Bool.{Bool, true, false, false≢true}
use mathlib.Core.List.{List, [], ◌∷◌}
use native.Mathlib.Nat.{not-suc-le-zero, le_of_suc-le-suc, add-zero, zero-add}
use native.Mathlib.Omega.{arith}
use lib.Dec.{eqb, leb, ltb}
use lib.ListN.{length}
use lib.Seq.{get_or-set_same, get_or-set_other}
use borrow.Author.Tests.{eqb-true, eqb-false, ne_eqb, lt-ltb}
use Rattle.octets.specs.Choice.{both, one}
use Rattle.kinds.specs.declared.Item.{Item}
use Rattle.kinds.specs.declared.Request.{Request}
use Rattle.sheet.specs.Sheet.{farm_count, farm_no}
use Rattle.sheet.specs.Rows.{first_row, owner_of}
use Rattle.sheet.specs.Test.{good_sheet}
use Rattle.sheet.proofs.RowsLaws.{owner_seat}
use Rattle.model.specs.FarmSheet.{FarmSheet, farm_sheet, slot_sheet}
use Rattle.model.specs.Farm.{new_farm, Done, does}
use Rattle.model.specs.Move.{Own, connect, bytes, peer_closed, link_lost, datagram, controller, Held, Move, refused, gave, move, tick_move}
use Rattle.model.specs.Table.{Table, slot, no_held, good_table, Call, connect_to, bytes_from, peer_closed_on, link_lost_of, tick, datagram_to, message_from, Lent, least_output, assembling_size, Whose, nobodys, farms, everyones, of_farm, of_owner, whose, Outcome, refuses, did, moved_to, held_by, items_by, slot_tick, tick_table, tick_items, called, step, number_of, items_of, table_of}
use Rattle.model.specs.History.{Made, step_of}
use Rattle.model.specs.Words.{Stands, first, Answered, is_done, is_tick, accepted_tick, is_loss, cuts}
use Rattle.model.proofs.Cases.{pick_case, unless_case, split}
use Rattle.model.proofs.DueRank.{Kept, stops, goes_on}
use Rattle.model.proofs.Due.{After, gone, waits, more_left, more-right, Due}
use Rattle.model.proofs.DueCalls.{is_cut, Moved, own_moved, tick_moved, never_now}

-- ---- slots

-- a slot beyond the table is that of a new farm, whose line is empty
pub slot_in : {seat k : ℕ} (t : Table) (g : ℕ) → Stands seat (slot t g).farm.line k → g < length t
unfolding new_farm
slot_in [] g a = elim a [ ]
slot_in (h ∷ t) zero a = omega arith
slot_in (h ∷ t) (suc g) a = omega (arith, slot_in t g a)

-- the farm's slot after a call of another farm
pub slot_other : (t : Table) (f g : ℕ) (m : Move) → eqb f g ≡ false → slot (table_of t (moved_to t f m)) g ≡ slot t g
slot_other t f g (refused n) e = refl
slot_other t f g (gave x) e = get_or-set_other t f g x.held no_held (λ q. eqb-false f g e (sym q))

-- and after one of its own
pub slot_own : (t : Table) (g : ℕ) (m : Move) → g < length t → slot (table_of t (moved_to t g m)) g ≡ held_by (slot t g) m
slot_own t g (refused n) h = refl
slot_own t g (gave x) h = get_or-set_same t g x.held no_held h

pub items_moved : (t : Table) (f : ℕ) (m : Move) → items_of (moved_to t f m) ≡ items_by m
items_moved t f (refused n) = refl
items_moved t f (gave x) = refl

-- after a tick
pub slot-tick : (s : List ℕ) (i : ℕ) (t : Table) (g : ℕ) → g < length t
    → slot (tick_table s i t) g ≡ held_by (slot t g) (slot_tick s (i + g) (slot t g))
slot-tick s i [] g h = absurd (not-suc-le-zero h)
slot-tick s i (x ∷ t) zero h = rw add-zero refl
slot-tick s i (x ∷ t) (suc g) h =
    let e : suc i + g ≡ i + suc g = omega arith in
    slot-tick s (suc i) t g (le_of_suc-le-suc h) ∙ ap (λ (k : ℕ). held_by (slot t g) (slot_tick s k (slot t g))) e

tick-entries : (row address : ℕ) (s : List ℕ) (i : ℕ) (t : Table) (g : ℕ) → g < length t
    → Answered row address (items_by (slot_tick s (i + g) (slot t g))) → Answered row address (tick_items s i t)
tick-entries row address s i [] g h a = absurd (not-suc-le-zero h)
tick-entries row address s i (x ∷ t) zero h a = more_left (tick_items s (suc i) t) (rw add-zero at a)
tick-entries row address s i (x ∷ t) (suc g) h a =
    let e : i + suc g ≡ suc i + g = omega arith in
    more-right (items_by (slot_tick s i x))
    (tick-entries row address s (suc i) t g (le_of_suc-le-suc h) (subst (λ (k : ℕ). Answered row address (items_by (slot_tick s k (slot t g)))) e a))

-- ---- the refusals that come before

pub step_case : (P : Outcome → Type 0) (s : List ℕ) (l : Lent) (t : Table) (c : Call) → ((n : ℕ) → P (refuses (suc n)))
    → (good_sheet s ≡ true → good_table s t ≡ true → P (called s t (whose s c))) → P (step s l t c)
unfolding step
step_case P s l t c r k =
    unless_case P (good_sheet s) _ _ (λ e. r 0)
    (λ sheet. unless_case P (leb least_output l.output) _ _ (λ e. r 1)
    (λ e. unless_case P (eqb l.assembling assembling_size) _ _ (λ e. r 2)
    (λ e. unless_case P (good_table s t) _ _ (λ e. r 3) (k sheet))))

-- ---- whose call it is

farm_of_lem : (s : List ℕ) (f g : ℕ) (x o : Own) → of_farm s f x ≡ farms g o → (f ≡ g) × (x ≡ o)
farm_of_lem s f g x o =
    pick_case (λ w. w ≡ farms g o → (f ≡ g) × (x ≡ o)) (ltb f (farm_count s)) (farms f x) (nobodys 5) (λ _ e. (cc, cc))
    (λ _ e. absurd (let z : ◌≡◌ {A = ℕ} 0 1 = cc in omega arith))

ones_farm : (s : List ℕ) (f : ℕ) (x : Own) → of_farm s f x ≡ everyones → ⊥
ones_farm s f x =
    pick_case (λ w. w ≡ everyones → ⊥) (ltb f (farm_count s)) (farms f x) (nobodys 5) (λ _ e. let z : ◌≡◌ {A = ℕ} 0 1 = cc in omega arith)
    (λ _ e. let z : ◌≡◌ {A = ℕ} 0 1 = cc in omega arith)

ones_owner : (w : Option (FarmNo × ℕ)) (c : ℕ → Own) → of_owner w c ≡ everyones → ⊥
ones_owner (Some (f, i)) c e = let z : ◌≡◌ {A = ℕ} 0 1 = cc in omega arith
ones_owner None c e = let z : ◌≡◌ {A = ℕ} 0 1 = cc in omega arith

-- only a tick is everyone's
not-everyones : (s : List ℕ) (c : Call) → is_tick c ≡ false → whose s c ≡ everyones → ⊥
unfolding whose
not-everyones s (connect_to f) n e = ones_farm s f connect e
not-everyones s (bytes_from r input) n e = ones_owner (owner_of s r) (λ i. bytes i input) e
not-everyones s (peer_closed_on r) n e = ones_owner (owner_of s r) (λ i. peer_closed i) e
not-everyones s (link_lost_of f) n e = ones_farm s f link_lost e
not-everyones s tick n e = absurd (false≢true (sym n))
not-everyones s (datagram_to f input) n e = ones_farm s f (datagram input) e
not-everyones s (message_from f from to user) n e = ones_farm s f (controller from to user) e

-- ---- one farm's view of a call

module _ (s : List ℕ) (g seat row : ℕ) (q : Request) (owner : owner_of s row ≡ Some (farm_no g, seat)) where
  pub inside : g < farm_count s
  inside = (owner_seat s row g seat owner).farm_within

  abbrev pub sheet : FarmSheet
  sheet = slot_sheet s g

  -- an entry on that seat is one on that row
  row_is : sheet.first + seat ≡ row
  unfolding slot_sheet farm_sheet
  row_is = rw (lt-ltb g (farm_count s) inside) (owner_seat s row g seat owner).is_row

  -- only a loss of that row or of its farm's link cuts that seat off
  loss_cut : (c : Call) → is_loss row g c ≡ false → (o : Own) → whose s c ≡ farms g o → is_cut seat o ≡ false
  unfolding whose
  loss_cut (connect_to f) n o e = subst (λ (x : Own). is_cut seat x ≡ false) (farm_of_lem s f g connect o e).1 refl
  loss_cut (bytes_from r input) n o e = go (owner_of s r) e
    where
      go : (w : Option (FarmNo × ℕ)) → of_owner w (λ i. bytes i input) ≡ farms g o → is_cut seat o ≡ false
      go (Some (f, i)) z = let x : bytes i input ≡ o = cc in subst (λ (y : Own). is_cut seat y ≡ false) x refl
      go None p = absurd (let z : ◌≡◌ {A = ℕ} 0 1 = cc in omega arith)
  loss_cut (peer_closed_on r) n o e = go (owner_of s r) refl e
    where
      go : (w : Option (FarmNo × ℕ)) → owner_of s r ≡ w → of_owner w (λ i. peer_closed i) ≡ farms g o → is_cut seat o ≡ false
      go (Some (f, i)) p z =
          let x : peer_closed i ≡ o = cc in
          let k : f.0 ≡ g = cc in
          let p' : owner_of s r ≡ Some (farm_no g, i) = p ∙ ap (λ (y : ℕ). Some (farm_no y, i)) k in
          subst (λ (y : Own). is_cut seat y ≡ false) x
          (ne_eqb i seat
          (λ same. eqb-false r row n
          (let a : first_row s g + i ≡ r = (owner_seat s r g i p').is_row in
          let b : first_row s g + seat ≡ row = (owner_seat s row g seat owner).is_row in
          omega arith)))
      go None p z = absurd (let z : ◌≡◌ {A = ℕ} 0 1 = cc in omega arith)
  loss_cut (link_lost_of f) n o e = absurd (eqb-false f g n (farm_of_lem s f g link_lost o e).0)
  loss_cut tick n o e = absurd (let z : ◌≡◌ {A = ℕ} 0 1 = cc in omega arith)
  loss_cut (datagram_to f input) n o e = subst (λ (x : Own). is_cut seat x ≡ false) (farm_of_lem s f g (datagram input) o e).1 refl
  loss_cut (message_from f from to user) n o e =
      subst (λ (x : Own). is_cut seat x ≡ false) (farm_of_lem s f g (controller from to user) o e).1 refl

  -- the farm after a call, and the call's entries
  abbrev pub view : Table → Outcome → Done
  view t o = does (slot (table_of t o) g).farm (items_of o)

  abbrev pub Seen : ℕ → Table → Outcome → Type 0
  Seen n t o = After (Due seat q n) row q.address (view t o)

  -- a call that is refused leaves it due as it was
  refused-seen : (n : ℕ) (t : Table) (o : Outcome) → eqb (number_of o) 0 ≡ false → Due seat q n (slot t g).farm → Seen n t o
  refused-seen n t (refuses k) e d = waits d
  refused-seen n t (did x) e d = absurd (false≢true (sym e))

  pub own_seen : (n : ℕ) (t : Table) (m : Move) → g < length t → Moved sheet seat q n (slot t g) m → Seen n t (moved_to t g m)
  own_seen n t m h (gone a) =
      gone
      (subst (λ (x : List Item). Answered row q.address x) (sym (items_moved t g m))
      (subst (λ (r : ℕ). Answered r q.address (items_by m)) row_is a))
  own_seen n t m h (waits d) = waits (subst (λ (x : Held). Due seat q n x.farm) (sym (slot_own t g m h)) d)

  called-seen : (n : ℕ) (t : Table) (w : Whose) → (w ≡ everyones → ⊥) → ((o : Own) → w ≡ farms g o → is_cut seat o ≡ false)
      → Due seat q n (slot t g).farm → Seen n t (called s t w)
  called-seen n t (nobodys k) a c d = waits d
  called-seen n t (farms f o) a c d =
      split (eqb f g)
      (λ e. let same : g ≡ f = sym (eqb-true f g e) in
      subst (λ (x : ℕ). Seen n t (moved_to t x (move (slot_sheet s x) (slot t x) o))) same
      (own_seen n t (move sheet (slot t g) o) (slot_in t g d.near.at)
      (own_moved sheet seat q n (slot t g) d o (c o (ap (λ (x : ℕ). farms x o) (sym same))))))
      (λ e. waits (subst (λ (x : Held). Due seat q n x.farm) (sym (slot_other t f g (move (slot_sheet s f) (slot t f) o) e)) d))
  called-seen n t everyones a c d = absurd (a refl)

  tick-seen : (n : ℕ) (t : Table) → Due seat q (suc n) (slot t g).farm → Seen n t (called s t everyones)
  tick-seen n t d = go (tick_moved sheet seat q n (slot t g) d)
    where
      has : g < length t
      has = slot_in t g d.near.at

      ticks : slot_tick s (0 + g) (slot t g) ≡ tick_move sheet (slot t g)
      ticks = rw (zero-add g, lt-ltb g (farm_count s) inside) refl

      held : slot (tick_table s 0 t) g ≡ held_by (slot t g) (tick_move sheet (slot t g))
      held = slot-tick s 0 t g has ∙ ap (held_by (slot t g)) ticks

      go : Moved sheet seat q n (slot t g) (tick_move sheet (slot t g)) → Seen n t (called s t everyones)
      go (gone a) =
          gone
          (tick-entries row q.address s 0 t g has
          (subst (λ (m : Move). Answered row q.address (items_by m)) (sym ticks)
          (subst (λ (r : ℕ). Answered r q.address (items_by (tick_move sheet (slot t g)))) row_is a)))
      go (waits e) = waits (subst (λ (x : Held). Due seat q n x.farm) (sym held) e)

  -- ---- the step law: a call ends the wait, or leaves it due in what remains

  pub data EndsBy (t : Table) (m : Made) : Type 0 where
    answer : Answered row q.address (items_of (step_of s t m)) → EndsBy t m
    cut : cuts row g s t m ≡ true → EndsBy t m

  abbrev pub next : Table → Made → Table
  next t m = table_of t (step_of s t m)

  abbrev pub tick_of : Table → Made → ℕ
  tick_of t m = one (accepted_tick s t m)

  abbrev pub DueIn : Table → ℕ → Type 0
  DueIn t n = Due seat q n (slot t g).farm

  -- the same of an outcome, so that the refusals can be taken one by one
  data KeptBy (t : Table) (c : Call) (n : ℕ) (o : Outcome) : Type 0 where
    answered : Answered row q.address (items_of o) → KeptBy t c n o
    lost : both (is_loss row g c) (eqb (number_of o) 0) ≡ true → KeptBy t c n o
    due : (k : ℕ) → k + one (both (is_tick c) (eqb (number_of o) 0)) ≤ n → Due seat q k (slot (table_of t o) g).farm → KeptBy t c n o

  kept : (t : Table) (m : Made) (n : ℕ) → KeptBy t m.call n (step_of s t m) → Kept next tick_of EndsBy DueIn t m n
  kept t m n (answered a) = stops (answer a)
  kept t m n (lost e) = stops (cut e)
  kept t m n (due k l d) = goes_on k l d

  no_tick : (b : Bool) (k : ℕ) → one (both b (eqb (suc k) 0)) ≡ 0
  no_tick true k = rw (ne_eqb (suc k) 0 (λ e. omega arith)) refl
  no_tick false k = refl

  other_kept : (n : ℕ) (t : Table) (c : Call) (o : Outcome) → is_tick c ≡ false → Seen n t o → KeptBy t c n o
  other_kept n t c o e (gone a) = answered a
  other_kept n t c o e (waits d) = due n (rw e (omega arith)) d

  other_call : (n : ℕ) (t : Table) (c : Call) → is_tick c ≡ false → DueIn t n → KeptBy t c n (called s t (whose s c))
  other_call n t c e d =
      split (eqb (number_of (called s t (whose s c))) 0)
      (λ z. split (is_loss row g c) (λ l. lost (rw (l, z) refl))
      (λ l. other_kept n t c _ e (called-seen n t (whose s c) (not-everyones s c e) (loss_cut c l) d)))
      (λ z. other_kept n t c _ e (refused-seen n t (called s t (whose s c)) z d))

  tick-call : (n : ℕ) (t : Table) → DueIn t n → KeptBy t tick n (called s t (whose s tick))
  unfolding whose
  tick-call zero t d = absurd (never_now (slot t g).farm d)
  tick-call (suc n) t d = go (tick-seen n t d)
    where
      go : Seen n t (called s t everyones) → KeptBy t tick (suc n) (called s t everyones)
      go (gone a) = answered a
      go (waits e) = due n (omega arith) e

  by_call_lem : (n : ℕ) (t : Table) (c : Call) → DueIn t n → KeptBy t c n (called s t (whose s c))
  by_call_lem n t (connect_to f) d = other_call n t (connect_to f) refl d
  by_call_lem n t (bytes_from r input) d = other_call n t (bytes_from r input) refl d
  by_call_lem n t (peer_closed_on r) d = other_call n t (peer_closed_on r) refl d
  by_call_lem n t (link_lost_of f) d = other_call n t (link_lost_of f) refl d
  by_call_lem n t tick d = tick-call n t d
  by_call_lem n t (datagram_to f input) d = other_call n t (datagram_to f input) refl d
  by_call_lem n t (message_from f from to user) d = other_call n t (message_from f from to user) refl d

  pub step_law : (t : Table) (m : Made) (n : ℕ) → DueIn t n → Kept next tick_of EndsBy DueIn t m n
  step_law t m n d =
      kept t m n
      (step_case (KeptBy t m.call n) s m.lent t m.call (λ k. due n (rw (no_tick (is_tick m.call) k) (omega arith)) d)
      (λ _ _. by_call_lem n t m.call d))

-- ---- what leaves a farm's slot alone

-- a call that is refused
pub refused_alone : (s : List ℕ) (t : Table) (m : Made) → is_done s t m ≡ false → table_of t (step_of s t m) ≡ t
refused_alone s t m = by (step_of s t m)
  where
    by : (o : Outcome) → eqb (number_of o) 0 ≡ false → table_of t o ≡ t
    by (refuses n) e = refl
    by (did d) e = absurd (false≢true (sym e))

-- a call of another farm
pub other_alone : (s : List ℕ) (t : Table) (m : Made) (f g : ℕ) (c : Own) → whose s m.call ≡ farms f c → eqb f g ≡ false
    → slot (table_of t (step_of s t m)) g ≡ slot t g
other_alone s t m f g c e n =
    step_case (λ o. slot (table_of t o) g ≡ slot t g) s m.lent t m.call (λ k. refl)
    (λ _ _. rw e (slot_other t f g (move (slot_sheet s f) (slot t f) c) n))
