-- Each row's log says where the row stands, and the logs of a farm's rows give its meters: kept by everything that a farm does.
-- Assumes nothing.
use Prim.Native.Nat.{ℕ, zero, suc, ◌+◌, ◌<◌}
use mathlib.Core.Path.{◌≡◌, refl, sym, ap, subst, ◌∙◌}
use mathlib.Core.Bool.{true, false, false≢true}
use mathlib.Core.List.{List, [], ◌∷◌, ◌++◌}
use native.Mathlib.Nat.{not-suc-le-zero}
use native.Mathlib.Omega.{arith}
use lib.Dec.{eqb, leb}
use lib.ListN.{length}
use borrow.Author.Tests.{eqb-true, eqb-false, eq-eqb, ne_eqb, leb-true, leb-false}
use Rattle.octets.specs.Choice.{pick, both}
use Rattle.kinds.specs.declared.RowState.{RowState}
use Rattle.kinds.specs.declared.RowState.TheVariants.{Free, Fresh, Waiting, Active}
use Rattle.kinds.specs.declared.Place.{Place}
use Rattle.kinds.specs.declared.Row.{Row}
use Rattle.kinds.specs.declared.Item.{Item}
use Rattle.kinds.specs.declared.Reply.TheVariants.{Close}
use Rattle.model.specs.FarmSheet.{FarmSheet}
use Rattle.model.specs.Row.{boundary, no_head, free_row, row_at, in_hand_by, in_hand, is_open_state, older_state}
use Rattle.model.specs.Farm.{Farm, wrap, says, closed}
use Rattle.model.specs.Meter.{Log, filed, filed_by, is_close, total, sum_to, finished_up_to, finished_in, finished_on, lost_on}
use Rattle.model.proofs.Cases.{split}
use Rattle.model.proofs.Rows.{row_other, row-freed}
use Rattle.model.proofs.Seats.{closed-rows}
use Rattle.model.proofs.MeterBalance.{wrap_left}
use Rattle.model.proofs.MeterCut.{whole-none}
use Rattle.model.proofs.MeterStream.{Stands, stands_hand, stands_rested, stands_still}

-- ---- sums over seats

pub sum_same : (f g : ℕ → ℕ) (n : ℕ) → ((i : ℕ) → i < n → g i ≡ f i) → sum_to g n ≡ sum_to f n
unfolding sum_to
sum_same f g zero h = refl
sum_same f g (suc n) h = omega (arith, sum_same f g n (λ i l. h i (omega arith)), h n (omega arith))

-- one term grows by e
pub sum_one : (f g : ℕ → ℕ) (k e n : ℕ) → k < n → ((i : ℕ) → (i ≡ k → ⊥) → g i ≡ f i) → g k ≡ f k + e → sum_to g n ≡ sum_to f n + e
unfolding sum_to
sum_one f g k e zero l h p = absurd (not-suc-le-zero l)
sum_one f g k e (suc n) l h p =
    split (eqb n k)
    (λ t. let z : n ≡ k = eqb-true n k t in
    let q : g n ≡ f n + e = subst (λ (j : ℕ). g j ≡ f j + e) (sym z) p in
    omega (arith, q, sum_same f g n (λ i m. h i (λ w. omega arith))))
    (λ t. let z : n ≡ k → ⊥ = eqb-false n k t in
    omega (arith, h n z, sum_one f g k e n (less n k l z) h p))
  where
    less : (n k : ℕ) → k < suc n → (n ≡ k → ⊥) → k < n
    less n k l z = split (leb n k) (λ t. absurd (z (omega (arith, leb-true n k t)))) (λ t. leb-false n k t)

-- ---- a row and its log

-- a free row has no bytes; an open one stands where its bytes say
abbrev pub TiedBy : RowState → Place → List ℕ → List ℕ → Type 0
TiedBy Free p head now = now ≡ []
TiedBy (Fresh c) p head now = Stands now p head
TiedBy (Waiting q) p head now = Stands now p head
TiedBy (Active a c) p head now = Stands now p head

abbrev pub Tied : Row → Log → Type 0
Tied r l = TiedBy r.state r.place r.head l.now

pub tied_open : (s : RowState) (p : Place) (head now : List ℕ) → is_open_state s ≡ true → Stands now p head → TiedBy s p head now
tied_open Free p head now e h = absurd (false≢true e)
tied_open (Fresh c) p head now e h = h
tied_open (Waiting q) p head now e h = h
tied_open (Active a c) p head now e h = h

pub open_tied : (s : RowState) (p : Place) (head now : List ℕ) → is_open_state s ≡ true → TiedBy s p head now → Stands now p head
open_tied Free p head now e h = absurd (false≢true e)
open_tied (Fresh c) p head now e h = h
open_tied (Waiting q) p head now e h = h
open_tied (Active a c) p head now e h = h

none-finished : finished_in [] ≡ 0
unfolding finished_up_to
none-finished = refl

-- the bytes in hand on a row are those of its log that are of no finished message
pub tied_hand : (s : RowState) (p : Place) (head now : List ℕ) → TiedBy s p head now → finished_in now + in_hand_by s p ≡ length now
tied_hand Free p head now e = subst (λ (l : List ℕ). finished_in l + 0 ≡ length l) (sym e) (omega (arith, none-finished))
tied_hand (Fresh c) p head now h = stands_hand h
tied_hand (Waiting q) p head now h = stands_hand h
tied_hand (Active a c) p head now h = stands_hand h

-- with nothing in hand, a row is between two messages
pub tied_still : (s : RowState) (p : Place) (head now : List ℕ) → TiedBy s p head now → in_hand_by s p ≡ 0 → Stands now boundary no_head
tied_still Free p head now e z = subst (λ (l : List ℕ). Stands l boundary no_head) (sym e) (stands_rested [] whole-none)
tied_still (Fresh c) p head now h z = stands_still p h z
tied_still (Waiting q) p head now h z = stands_still p h z
tied_still (Active a c) p head now h z = stands_still p h z

pub tied_older : (s : RowState) (p : Place) (head now : List ℕ) → TiedBy s p head now → TiedBy (older_state s) p head now
tied_older Free p head now h = h
tied_older (Fresh c) p head now h = h
tied_older (Waiting q) p head now h = h
tied_older (Active a c) p head now h = h

-- ---- a farm and the logs of its rows, by seat

-- all that was ever taken from a row
abbrev pub all_on : Log → ℕ
all_on l = length l.now + total length l.ended

-- the meters are the sums over the logs, wrapped; T bytes were taken
pub record Counted (own : FarmSheet) (T : ℕ) (L : ℕ → Log) (f : Farm) : Type 0 where
  pub taken : f.meters.taken ≡ wrap T
  pub finished : f.meters.finished ≡ wrap (sum_to (λ i. finished_on (L i)) own.rows)
  pub lost : f.meters.lost ≡ wrap (sum_to (λ i. lost_on (L i)) own.rows)
  -- each byte taken is in one log
  pub each : T ≡ sum_to (λ i. all_on (L i)) own.rows

pub record Logged (own : FarmSheet) (T : ℕ) (L : ℕ → Log) (f : Farm) : Type 0 where
  pub counted : Counted own T L f
  pub tied : (i : ℕ) → i < own.rows → Tied (row_at f.rows i) (L i)

pub counted_same : (own : FarmSheet) (T : ℕ) (L M : ℕ → Log) (f : Farm) → ((i : ℕ) → i < own.rows → M i ≡ L i) → Counted own T L f → Counted own T M f
counted_same own T L M f e c =
    record {
      taken = c.taken;
      finished = c.finished ∙ ap wrap (sym (sum_same (λ i. finished_on (L i)) (λ i. finished_on (M i)) own.rows (λ i h. ap finished_on (e i h))));
      lost = c.lost ∙ ap wrap (sym (sum_same (λ i. lost_on (L i)) (λ i. lost_on (M i)) own.rows (λ i h. ap lost_on (e i h))));
      each = c.each ∙ sym (sum_same (λ i. all_on (L i)) (λ i. all_on (M i)) own.rows (λ i h. ap all_on (e i h)));
    }

pub logged_same : (own : FarmSheet) (T : ℕ) (L M : ℕ → Log) (f : Farm) → ((i : ℕ) → i < own.rows → M i ≡ L i) → Logged own T L f → Logged own T M f
logged_same own T L M f e h =
    record {
      counted = counted_same own T L M f e h.counted;
      tied = λ i l. subst (Tied (row_at f.rows i)) (sym (e i l)) (h.tied i l);
    }

-- ---- a closing

-- the logs when these entries have been said
abbrev pub after : FarmSheet → List Item → (ℕ → Log) → ℕ → Log
after own is L i = filed_by (own.first + i) is (L i)

pub filed_append : (r : ℕ) (a b : List Item) (l : Log) → filed_by r (a ++ b) l ≡ filed_by r b (filed_by r a l)
unfolding filed_by
filed_append r [] b l = refl
filed_append r (it ∷ a) b l = filed_append r a b (pick (both (is_close it.reply) (eqb it.row.0 r)) (filed l) l)

pub filed_quiet : (r : ℕ) (is : List Item) (it : Item) (l : Log) → is_close it.reply ≡ false → filed_by r (is ++ (it ∷ [])) l ≡ filed_by r is l
unfolding filed_by
filed_quiet r is it l e = filed_append r is (it ∷ []) l ∙ rw e refl

closes_other : (own : FarmSheet) (is : List Item) (seat i : ℕ) (f : Farm) (l : Log) → (i ≡ seat → ⊥)
    → filed_by (own.first + i) (is ++ (closed own seat f).items) l ≡ filed_by (own.first + i) is l
unfolding closed filed_by
closes_other own is seat i f l n =
    filed_append (own.first + i) is (says own seat Close ∷ []) l ∙ rw (ne_eqb (own.first + seat) (own.first + i) (λ e. n (omega arith))) refl

closes_this : (own : FarmSheet) (is : List Item) (seat : ℕ) (f : Farm) (l : Log)
    → filed_by (own.first + seat) (is ++ (closed own seat f).items) l ≡ filed (filed_by (own.first + seat) is l)
unfolding closed filed_by
closes_this own is seat f l =
    filed_append (own.first + seat) is (says own seat Close ∷ []) l ∙ rw (eq-eqb (own.first + seat) (own.first + seat) refl) refl

-- what a closing does to the meters
module _ (own : FarmSheet) (seat : ℕ) (f : Farm) where
  closed-taken : (closed own seat f).farm.meters.taken ≡ f.meters.taken
  unfolding closed
  closed-taken = refl

  closed-finished : (closed own seat f).farm.meters.finished ≡ f.meters.finished
  unfolding closed
  closed-finished = refl

  closed-lost : (closed own seat f).farm.meters.lost ≡ wrap (f.meters.lost + in_hand (row_at f.rows seat))
  unfolding closed
  closed-lost = refl

filed-finished : (l : Log) → finished_on (filed l) ≡ finished_on l
unfolding total
filed-finished l = omega (arith, none-finished)

filed-all : (l : Log) → all_on (filed l) ≡ all_on l
unfolding total
filed-all l = omega arith

filed-lost : (l : Log) (n : ℕ) → finished_in l.now + n ≡ length l.now → lost_on (filed l) ≡ lost_on l + n
unfolding total
filed-lost l n e = omega arith

-- a row closes whose bytes in hand are those of its log; the other rows stand where their logs say
module _ (own : FarmSheet) (T : ℕ) (is : List Item) (L : ℕ → Log) (seat : ℕ) (b : seat < own.rows) (f : Farm) where
  pub closed_counted : finished_in (after own is L seat).now + in_hand (row_at f.rows seat) ≡ length (after own is L seat).now
      → Counted own T (after own is L) f → Counted own T (after own (is ++ (closed own seat f).items) L) (closed own seat f).farm
  closed_counted h c =
      record {
        taken = closed-taken own seat f ∙ c.taken;
        finished =
            closed-finished own seat f ∙ c.finished ∙
            ap wrap (sym (kept_sum finished_on filed-finished));
        lost =
            closed-lost own seat f ∙ ap (λ (n : ℕ). wrap (n + in_hand (row_at f.rows seat))) c.lost ∙ wrap_left _ _ ∙
            ap wrap
            (sym (sum_one (λ i. lost_on (after own is L i)) (λ i. lost_on (after own (is ++ (closed own seat f).items) L i)) seat
            (in_hand (row_at f.rows seat)) own.rows b (λ i n. ap lost_on (closes_other own is seat i f (L i) n))
            (ap lost_on (closes_this own is seat f (L seat)) ∙ filed-lost (after own is L seat) (in_hand (row_at f.rows seat)) h)));
        each = c.each ∙ sym (kept_sum all_on filed-all);
      }
    where
      -- what filing a log leaves as it is
      kept_sum : (v : Log → ℕ) → ((l : Log) → v (filed l) ≡ v l)
          → sum_to (λ i. v (after own (is ++ (closed own seat f).items) L i)) own.rows ≡ sum_to (λ i. v (after own is L i)) own.rows
      kept_sum v e =
          sum_same (λ i. v (after own is L i)) (λ i. v (after own (is ++ (closed own seat f).items) L i)) own.rows
          (λ i _. split (eqb i seat)
          (λ t. subst (λ (k : ℕ). v (after own (is ++ (closed own seat f).items) L k) ≡ v (after own is L k)) (sym (eqb-true i seat t))
          (ap v (closes_this own is seat f (L seat)) ∙ e (after own is L seat)))
          (λ t. ap v (closes_other own is seat i f (L i) (eqb-false i seat t))))

  pub closed_tied : ((i : ℕ) → i < own.rows → (i ≡ seat → ⊥) → Tied (row_at f.rows i) (after own is L i))
      → (i : ℕ) → i < own.rows → Tied (row_at (closed own seat f).farm.rows i) (after own (is ++ (closed own seat f).items) L i)
  closed_tied h i l =
      split (eqb i seat) (λ t. at_seat i (eqb-true i seat t))
      (λ t. let n : i ≡ seat → ⊥ = eqb-false i seat t in
      rw (closed-rows own seat f, row_other f.rows seat i free_row n, closes_other own is seat i f (L i) n) (h i l n))
    where
      at_seat : (i : ℕ) → i ≡ seat → Tied (row_at (closed own seat f).farm.rows i) (after own (is ++ (closed own seat f).items) L i)
      at_seat i e =
          subst (λ (k : ℕ). Tied (row_at (closed own seat f).farm.rows k) (after own (is ++ (closed own seat f).items) L k)) (sym e)
          (rw (closed-rows own seat f, row-freed f.rows seat) (ap (λ (x : Log). x.now) (closes_this own is seat f (L seat))))

  pub closed_logged : Logged own T (after own is L) f → Logged own T (after own (is ++ (closed own seat f).items) L) (closed own seat f).farm
  closed_logged h =
      record {
        counted =
            closed_counted (tied_hand (row_at f.rows seat).state (row_at f.rows seat).place (row_at f.rows seat).head _ (h.tied seat b)) h.counted;
        tied = closed_tied (λ i l _. h.tied i l);
      }
