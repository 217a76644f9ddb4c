-- A tick farm by farm is the tick of the table that the lent memory means.
-- Assumes nothing.
use Prim.{tt}
use Prim.Native.Nat.{ℕ, zero, suc, ◌+◌, ◌≤◌, ◌<◌}
use mathlib.Core.Path.{◌≡◌, refl, sym, ap, ap₂, ◌∙◌, subst}
use mathlib.Core.Bool.{Bool, true}
use mathlib.Core.List.{List, [], ◌∷◌, ◌++◌, append_assoc, append-nil}
use mathlib.Core.Logic.{⊎_elim}
use native.Mathlib.Nat.{eq-or-lt_of_le}
use native.Mathlib.Numerals.{add-one}
use native.Mathlib.Omega.{arith}
use borrow.Author.Tests.{lt-ltb, le-ltb}
use Rattle.octets.specs.Choice.{pick}
use Rattle.octets.specs.Fold.{up_to}
use Rattle.kinds.specs.declared.Item.{Item}
use Rattle.kinds.specs.declared.Site.{Site}
use Rattle.sheet.specs.Sheet.{most_farms, farm_count}
use Rattle.sheet.proofs.Order.{le_or_lt}
use Rattle.model.specs.FarmSheet.{FarmSheet, farm_sheet, slot_sheet}
use Rattle.model.specs.Farm.{Farm}
use Rattle.model.specs.Move.{Held, Move, refused, no_row, ticked, tick_move}
use Rattle.model.specs.Rule.{Good}
use Rattle.model.specs.Table.{Table, Did, did, held_by, items_by, slot_tick, tick_table, tick_items, tick, whose}
use Rattle.model.proofs.RuleKept.{GoodAll}
use Rattle.model.proofs.SameSite.{ticked_same}
use Rattle.table.specs.Block.{farm_of, image, Whole, Holds}
use Rattle.table.proofs.BlockLaws.{exact}
use Rattle.decide.specs.SiteSheet.{site_sheet}
use Rattle.closing.specs.Did.{pushed_all}
use Rattle.closing.proofs.DidLaws.{pushed_none, pushed_append, pushed_first}
use Rattle.site.specs.Site.{Sited}
use Rattle.site.proofs.SiteLaws.{sited_same}
use Rattle.room.proofs.Moves.{Small}
use Rattle.room.proofs.Roomy.{called-small}
use Rattle.lent.specs.declared.Answer.{Answer}
use Rattle.lent.specs.Lent.{block, Only, whole_table, rooms_of, held_at, slots_from, lent_table, lent_step}
use Rattle.lent.specs.Gate.{Passed}
use Rattle.lent.specs.Served.{memory, Served}
use Rattle.lent.proofs.LentLaws.{slot-farm, block_other}
use Rattle.lent.proofs.BytesLaws.{Exact, whole_exact}
use Rattle.lent.proofs.GateLaws.{goes_on_lem}
use Rattle.lent.proofs.MoveLaws.{moved_long}
use Rattle.lent.proofs.ServedLaws.{served-did}
use Rattle.serve.specs.Ready.{Ready, AllReady}
use Rattle.serve.specs.Moved.{DidAt}
use Rattle.serve_tick.specs.Ticked.{farm_tick, ticks_to, Farms, TickedTo, TickedOut}
use Rattle.finish.proofs.AnswerLaws.{wrote-items}
use Rattle.serve.proofs.MovedLaws.{at_same}

-- ---- one farm after the other

module _ {s t : List ℕ} (all : AllReady s t) where
  -- a farm whose turn has not come is as ready as before the tick
  pub ready_still : {mid : List ℕ} {n : ℕ} → Farms s t n mid → n < farm_count s → Ready s mid n
  ready_still {n = n} x h =
      let same = sym (x.rest n (omega arith)) in
      record {
        sheet = all.sheet;
        has = h;
        long = x.long;
        whole = subst Whole same (all.each n h).whole;
        good = subst (λ (b : List ℕ). Good (farm_sheet s n) (farm_of b)) same (all.each n h).good;
      }

  pub ticked-none : {p : List Item} → p ≡ [] → TickedTo s t 0 p t
  unfolding ticks_to up_to
  ticked-none none =
      record {
        farms = record { each = λ f h. absurd (omega (arith, h)); rest = λ f h. refl; long = all.long };
        said = none ∙ sym (pushed_none []);
      }

ticks-more : (s t : List ℕ) (n : ℕ) → ticks_to s t n ++ (farm_tick s t n).items ≡ ticks_to s t (n + 1)
unfolding ticks_to up_to
ticks-more s t n = ap (ticks_to s t) (sym (add-one n))

module _ {s t : List ℕ} where
  farms-more : {mid after : List ℕ} (n : ℕ) → n < most_farms → Farms s t n mid → Only n mid after → Holds (block after n) (farm_tick s t n).farm
      → Farms s t (n + 1) after
  farms-more {mid} {after} n h x only holds =
      record {
        each = each;
        rest = λ g l. other g (λ e. omega (arith, e, l)) ∙ x.rest g (omega (arith, l));
        long = moved_long s mid [] after n (farm_tick s t n).farm x.long h only holds;
      }
    where
      other : (g : ℕ) → (g ≡ n → ⊥) → block after g ≡ block mid g
      other g k = ap (λ (y : List ℕ). block y g) only.put ∙ block_other mid (block after n) n x.long only.long h g k

      each : (f : ℕ) → f < n + 1 → Holds (block after f) (farm_tick s t f).farm
      each f l =
          ⊎_elim (λ (e : f ≡ n). subst (λ (g : ℕ). Holds (block after g) (farm_tick s t g).farm) (sym e) holds)
          (λ (k : f < n). subst (λ (b : List ℕ). Holds b (farm_tick s t f).farm) (sym (other f (λ e. omega (arith, e, k)))) (x.each f k))
          (eq-or-lt_of_le (let le : f ≤ n = omega (arith, l) in le))

  pub ticked-more : {p plan : List Item} {mid after : List ℕ} (n : ℕ) (site : Site) → n < most_farms → Sited s n site → TickedTo s t n p mid
      → DidAt n (ticked (site_sheet site) (farm_of (block mid n))) p mid plan after → TickedTo s t (n + 1) plan after
  ticked-more {mid = mid} n site h sited x d =
      let same : ticked (site_sheet site) (farm_of (block mid n)) ≡ farm_tick s t n =
      ticked_same (site_sheet site) (farm_sheet s n) (sited_same s n site sited) (farm_of (block mid n))
      ∙ ap (λ (b : List ℕ). ticked (farm_sheet s n) (farm_of b)) (x.farms.rest n (omega arith)) in
      let own = at_same same d in
      record {
        farms = farms-more n h x.farms own.only (record { is = own.did.is; whole = own.did.whole });
        said =
            own.did.said
            ∙ ap (λ (i : List Item). pushed_all i (farm_tick s t n).items) x.said
            ∙ pushed_append [] (ticks_to s t n) (farm_tick s t n).items
            ∙ ap (pushed_all []) (ticks-more s t n);
      }

  pub ticked-all : {plan : List Item} {after : List ℕ} {n k : ℕ} → TickedTo s t n plan after → n ≡ k → TickedTo s t k plan after
  ticked-all {plan} {after} x e = subst (λ (i : ℕ). TickedTo s t i plan after) e x

-- ---- slot by slot, as the model says it

module _ (s t m : List ℕ) where
  abbrev tick_of : ℕ → Bool → Move
  tick_of f b = pick b (tick_move (slot_sheet s f) (held_at s t m f)) (refused 5)

  items-none : (k n : ℕ) → farm_count s ≤ k → tick_items s k (slots_from (held_at s t m) k n) ≡ []
  items-none k zero h = refl
  items-none k (suc n) h =
      ap₂ (λ (b : Bool) (l : List Item). items_by (tick_of k b) ++ l) (le-ltb k (farm_count s) h) (items-none (suc k) n (omega arith))

  items-one : (f : ℕ) → f < farm_count s → items_by (slot_tick s f (held_at s t m f)) ≡ (farm_tick s t f).items
  unfolding tick_move held_at
  items-one f h =
      ap (λ (b : Bool). items_by (tick_of f b)) (lt-ltb f (farm_count s) h)
      ∙ ap (λ (own : FarmSheet). (ticked own (farm_of (block t f))).items) (slot-farm s f h)

  items-from : (k n : ℕ) → k ≤ farm_count s → farm_count s ≤ k + n
      → ticks_to s t k ++ tick_items s k (slots_from (held_at s t m) k n) ≡ ticks_to s t (farm_count s)
  unfolding ticks_to up_to
  items-from k zero a b = append-nil (ticks_to s t k) ∙ ap (ticks_to s t) (let e : k ≡ farm_count s = omega (arith, a, b) in e)
  items-from k (suc n) a b =
      ⊎_elim
      (λ (l : farm_count s ≤ k).
      ap (λ (x : List Item). ticks_to s t k ++ x) (items-none k (suc n) l)
      ∙ append-nil (ticks_to s t k)
      ∙ ap (ticks_to s t) (let e : k ≡ farm_count s = omega (arith, a, l) in e))
      (λ (l : k < farm_count s).
      sym (append_assoc (ticks_to s t k) (items_by (slot_tick s k (held_at s t m k))) (tick_items s (suc k) (slots_from (held_at s t m) (suc k) n)))
      ∙ ap (λ (x : List Item). (ticks_to s t k ++ x) ++ tick_items s (suc k) (slots_from (held_at s t m) (suc k) n)) (items-one k l)
      ∙ items-from (suc k) n l (omega (arith, b)))
      (le_or_lt (farm_count s) k)

  -- "A tick serves the farms in order"; a slot beyond them has no entry
  pub items_are : (n : ℕ) → farm_count s ≤ n → tick_items s 0 (slots_from (held_at s t m) 0 n) ≡ ticks_to s t (farm_count s)
  unfolding ticks_to up_to
  items_are n h = items-from 0 n (omega arith) (omega (arith, h))

module _ (s t after m : List ℕ) (x : Farms s t (farm_count s) after) where
  held-is : (f : ℕ) → held_by (held_at s t m f) (slot_tick s f (held_at s t m f)) ≡ held_at s after m f
  unfolding tick_move held_at
  held-is f =
      ⊎_elim
      (λ (l : farm_count s ≤ f).
      ap (λ (b : Bool). held_by (held_at s t m f) (tick_of s t m f b)) (le-ltb f (farm_count s) l)
      ∙ ap (λ (b : List ℕ). record { farm = farm_of b; rooms = rooms_of (slot_sheet s f) m }) (sym (x.rest f l)))
      (λ (l : f < farm_count s).
      ap (λ (b : Bool). held_by (held_at s t m f) (tick_of s t m f b)) (lt-ltb f (farm_count s) l)
      ∙ ap (λ (own : FarmSheet). record { farm = (ticked own (farm_of (block t f))).farm; rooms = rooms_of (slot_sheet s f) m }) (slot-farm s f l)
      ∙ ap (λ (y : Farm). record { farm = y; rooms = rooms_of (slot_sheet s f) m }) (sym (x.each f l).is))
      (le_or_lt (farm_count s) f)

  slots_are : (k n : ℕ) → tick_table s k (slots_from (held_at s t m) k n) ≡ slots_from (held_at s after m) k n
  slots_are k zero = refl
  slots_are k (suc n) = ap₂ (λ (h : Held) (l : Table). h ∷ l) (held-is k) (slots_are (suc k) n)

  -- each farm has its tick, and a slot beyond them stays
  pub table_is_lem : tick_table s 0 (lent_table s t m) ≡ lent_table s after m
  unfolding lent_table
  table_is_lem = slots_are 0 most_farms

  pub whole_still : whole_table t ≡ true → whole_table after ≡ true
  whole_still w = (whole_exact after).all each
    where
      each : Exact after
      each f h =
          ⊎_elim
          (λ (l : farm_count s ≤ f). ap (λ (b : List ℕ). image (farm_of b)) (x.rest f l) ∙ (whole_exact t).right w f h ∙ sym (x.rest f l))
          (λ (l : f < farm_count s). exact (block after f) (x.each f l).whole)
          (le_or_lt (farm_count s) f)

-- ---- the entries have room

module _ {s t : List ℕ} (all : AllReady s t) where
  goods : (k n : ℕ) → k + n ≤ farm_count s → GoodAll s k (slots_from (held_at s t []) k n)
  unfolding held_at
  goods k zero h = tt
  goods k (suc n) h =
      let l : k < farm_count s = omega (arith, h) in
      (subst (λ (own : FarmSheet). Good own (farm_of (block t k))) (sym (slot-farm s k l)) (all.each k l).good, goods (suc k) n (omega (arith, h)))

  pub ticks-small : Small (ticks_to s t (farm_count s)) []
  unfolding whose
  ticks-small =
      subst (λ (i : List Item). Small i []) (items_are s t [] (farm_count s) (omega arith))
      (called-small s (slots_from (held_at s t []) 0 (farm_count s)) all.sheet (goods 0 (farm_count s) (omega arith)) tick)

  -- so the plan says them all
  pub ticked-items : {plan : List Item} {after : List ℕ} → TickedTo s t (farm_count s) plan after → plan ≡ ticks_to s t (farm_count s)
  ticked-items x = x.said ∙ pushed_first (ticks_to s t (farm_count s)) ticks-small.few

-- ---- the call

module _ (s t out m : List ℕ) (p : Passed s t out m) where
  abbrev tick_did : Did
  tick_did = record { row = no_row; took = 0; items = tick_items s 0 (lent_table s t m); long = []; table = tick_table s 0 (lent_table s t m) }

  tick_goes : lent_step s t out m tick ≡ did tick_did
  unfolding whose
  tick_goes = goes_on_lem s t out m p tick

  tick-items : tick_items s 0 (lent_table s t m) ≡ ticks_to s t (farm_count s)
  unfolding lent_table
  tick-items = items_are s t m most_farms p.lendable.sheet.head.farms_at_most

  pub tick-served : (after output : List ℕ) (a : Answer) → TickedOut s t out after output a
      → Served s (lent_step s t out m tick) a (memory t out m) (memory after output m)
  tick-served after output a x =
      subst (λ (y : Answer). Served s (lent_step s t out m tick) y (memory t out m) (memory after output m)) (sym x.answer)
      (served-did s (lent_step s t out m tick) tick_did t out m after output m a.length p.lendable.sheet tick_goes
      (record {
        means = sym (table_is_lem s t after m x.farms);
        whole = whole_still s t after m x.farms p.whole;
        long = x.farms.long;
        wide = p.lendable.assembling;
        past = refl;
      })
      (wrote-items [] (sym tick-items) x.wrote))
