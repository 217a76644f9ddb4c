-- Laws of `Did`: one thing after another, and the seats one after another.
-- Assumes nothing.
use Prim.Native.Nat.{ℕ, ◌+◌, ◌≤◌}
use mathlib.Core.Path.{◌≡◌, refl, sym, ap, subst, ◌∙◌}
use mathlib.Core.Bool.{true}
use mathlib.Core.List.{List, [], ◌∷◌, ◌++◌, append_assoc, append-nil}
use native.Mathlib.Nat.{le_antisymm}
use native.Mathlib.Numerals.{add-one}
use native.Mathlib.Omega.{arith}
use lib.Dec.{ltb}
use lib.ListN.{length, length-append}
use borrow.Author.Tests.{lt-ltb}
use Rattle.kinds.specs.declared.Item.{Item}
use Rattle.model.specs.Farm.{Farm, Done, does, quietly, and_then, each_seat, seat_count}
use Rattle.model.proofs.Seats.{seats_to, seats-zero, seats-suc, seats-all}
use Rattle.plan.specs.Plan.{plan_room, pushed_to}
use Rattle.table.specs.Block.{farm_of, Whole, Holds}
use Rattle.closing.specs.Did.{pushed_all, Did}

-- ---- pushing

pub pushed_none : (items : List Item) → pushed_all items [] ≡ items
unfolding pushed_all
pushed_none items = refl

pub pushed_one : (items : List Item) (it : Item) → pushed_all items (it ∷ []) ≡ pushed_to items it
unfolding pushed_all
pushed_one items it = refl

pub pushed_append : (items more last : List Item) → pushed_all (pushed_all items more) last ≡ pushed_all items (more ++ last)
unfolding pushed_all
pushed_append items [] last = refl
pushed_append items (it ∷ more) last = pushed_append (pushed_to items it) more last

-- where the plan has room for all of them, they stand behind those before; the crate `room` shows that it always has
pub pushed_room : (before items : List Item) → length before + length items ≤ plan_room → pushed_all before items ≡ before ++ items
unfolding pushed_all pushed_to
pushed_room before [] h = sym (append-nil before)
pushed_room before (it ∷ more) h =
    let room : ltb (length before) plan_room ≡ true = lt-ltb (length before) plan_room (omega arith) in
    rw room (pushed_room (before ++ it ∷ []) more (omega (arith, length-append before (it ∷ []))) ∙ append_assoc before (it ∷ []) more)

pub pushed_first : (items : List Item) → length items ≤ plan_room → pushed_all [] items ≡ items
pushed_first items h = pushed_room [] items (omega arith)

-- ---- one thing after another

pub did_same : {p q : List Item} {b : List ℕ} {d : Done} (e : Done) → d ≡ e → Did p b q d → Did p b q e
did_same {p} {q} {b} e h x = subst (λ (y : Done). Did p b q y) h x

pub did-quietly : {p : List Item} {b : List ℕ} {f : Farm} → Holds b f → Did p b p (quietly f)
did-quietly {p} h = record { is = h.is; said = sym (pushed_none p); whole = h.whole }

pub did_nothing : (p : List Item) (b : List ℕ) → Whole b → Did p b p (quietly (farm_of b))
did_nothing p b h = record { is = refl; said = sym (pushed_none p); whole = h }

pub did-says : {p q : List Item} {b : List ℕ} {f : Farm} {it : Item} → Holds b f → q ≡ pushed_to p it → Did p b q (does f (it ∷ []))
did-says {p} {it = it} h s = record { is = h.is; said = s ∙ sym (pushed_one p it); whole = h.whole }

pub did_then : {p q r : List Item} {b c : List ℕ} (d : Done) (next : Farm → Done) → Did p b q d → Did q c r (next (farm_of b)) → Did p c r (and_then d next)
unfolding and_then
did_then {p} {b = b} d next x y =
    record {
      is = y.is ∙ ap (λ (f : Farm). (next f).farm) x.is;
      said =
          y.said
          ∙ ap (λ (l : List Item). pushed_all l (next (farm_of b)).items) x.said
          ∙ ap (λ (f : Farm). pushed_all (pushed_all p d.items) (next f).items) x.is
          ∙ pushed_append p d.items (next d.farm).items;
      whole = y.whole;
    }

-- after a change that says nothing
pub did_after : {p r : List Item} {b c : List ℕ} {f : Farm} (next : Farm → Done) → Holds b f → Did p c r (next (farm_of b)) → Did p c r (next f)
did_after {p} {r} {c = c} next h y = subst (λ (g : Farm). Did p c r (next g)) h.is y

pub then_assoc : (d : Done) (g h : Farm → Done) → and_then d (λ f. and_then (g f) h) ≡ and_then (and_then d g) h
unfolding and_then
then_assoc d g h =
    ap (does (h (g d.farm).farm).farm) (sym (append_assoc d.items (g d.farm).items (h (g d.farm).farm).items))

-- ---- the seats one after another

module _ (g : ℕ → Farm → Done) where
  pub did_start : (p : List Item) (b : List ℕ) → Whole b → Did p b p (seats_to g (farm_of b) 0)
  did_start p b h = did_same _ (sym (seats-zero g (farm_of b))) (did_nothing p b h)

  pub did_seat : {p q r : List Item} {b c : List ℕ} (f : Farm) (i : ℕ) → Did p b q (seats_to g f i) → Did q c r (g i (farm_of b)) → Did p c r (seats_to g f (i + 1))
  did_seat f i x y =
      did_same _ (sym (seats-suc g f i) ∙ ap (seats_to g f) (sym (add-one i))) (did_then (seats_to g f i) (g i) x y)

  pub did-all : {p q : List Item} {b : List ℕ} (f : Farm) (i : ℕ) → Did p b q (seats_to g f i) → i ≤ seat_count → seat_count ≤ i → Did p b q (each_seat g f)
  did-all f i x h k = did_same _ (ap (seats_to g f) (le_antisymm h k) ∙ sym (seats-all g f)) x
