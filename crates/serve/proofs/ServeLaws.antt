-- From refusals 1 to 4 on: whose call it is, what it knows of its farm, and how what the code has done is the call's outcome.
-- Assumes nothing.
use Rattle.std.proofs.Common.{Option, Some, None}
use Rattle.kinds.specs.declared.FarmNo.{FarmNo}
use Prim.Native.Nat.{ℕ, ◌*◌, ◌≤◌, ◌<◌}
use mathlib.Core.Path.{◌≡◌, refl, sym, ap, ◌∙◌, subst}
use mathlib.Core.Bool.{true}
use mathlib.Core.List.{List, []}
use native.Mathlib.Omega.{arith}
use lib.ListN.{length, set}
use borrow.Author.Tests.{lt-ltb, le-ltb}
use Rattle.octets.specs.Choice.{pick}
use Rattle.octets.proofs.PartsLaws.{length_part}
use Rattle.sheet.specs.Sheet.{most_farms, farm_count, farm_no}
use Rattle.sheet.specs.Rows.{owner_of}
use Rattle.model.specs.FarmSheet.{FarmSheet, farm_sheet}
use Rattle.model.specs.Farm.{Farm, Done}
use Rattle.model.specs.Move.{Own, Held, moves, move, no_row}
use Rattle.model.specs.RuleTest.{good_farm}
use Rattle.model.specs.Table.{Table, slot, Call, Did, refuses, nobodys, farms, of_farm, of_owner, Whose, whose, moved_to, called}
use Rattle.model.proofs.RuleTestLaws.{farm-says}
use Rattle.table.specs.Layout.{block_size, table_size}
use Rattle.table.specs.Block.{farm_of, Holds}
use Rattle.table_whole.proofs.WholeTest.{whole_says}
use Rattle.lent.specs.declared.Answer.{Answer}
use Rattle.lent.specs.Lent.{block, Only, held_at, lent_table, lent_step}
use Rattle.lent.specs.Gate.{Passed}
use Rattle.lent.specs.Served.{memory, Served}
use Rattle.lent.proofs.LentLaws.{slot-farm, slot_is}
use Rattle.lent.proofs.BytesLaws.{block-says, whole_exact}
use Rattle.lent.proofs.GateLaws.{goes_on_lem}
use Rattle.lent.proofs.KeepsLaws.{slot_keeps_lem}
use Rattle.lent.proofs.MoveLaws.{moved_long, moved_means, moved_whole}
use Rattle.lent.proofs.ServedLaws.{Left, served-did}
use Rattle.serve.specs.Ready.{Ready, AllReady}
use Rattle.serve.specs.Moved.{Moved}

-- whose row it is, as the code has asked
pub owned : (s : List ℕ) (row : ℕ) {o : Option (FarmNo × ℕ)} {f : FarmNo} {k seat : ℕ} → o ≡ owner_of s row → o ≡ Some (f, k) → seat ≡ k → owner_of s row ≡ Some (f, seat)
owned s row {f = f} is told e = sym is ∙ told ∙ ap (λ (j : ℕ). Some (f, j)) (sym e)

module _ (s t out m : List ℕ) (p : Passed s t out m) (long : length t ≡ table_size) where
  -- ---- what a call knows of its farm

  below : (f : ℕ) → f < farm_count s → f < most_farms
  below f h = omega (arith, h, p.lendable.sheet.head.farms_at_most)

  pub ready_of : (f : ℕ) → f < farm_count s → Ready s t f
  ready_of f h =
      record {
        sheet = p.lendable.sheet;
        has = h;
        long = long;
        whole =
            (whole_says (block t f) (length_part t (f * block_size) block_size (omega (arith, long, below f h)))).right
            ((block-says (block t f)).all ((whole_exact t).right p.whole f (below f h)));
        good =
            (farm-says (farm_sheet s f) (farm_of (block t f))).right
            (subst (λ (own : FarmSheet). good_farm own (farm_of (block t f)) ≡ true) (slot-farm s f h) (slot_keeps_lem s t m p.good f (below f h)));
      }

  pub all_ready : AllReady s t
  all_ready = record { sheet = p.lendable.sheet; long = long; each = ready_of }

  -- ---- whose call it is

  abbrev table : Table
  table = lent_table s t m

  by-whose : (c : Call) (w : Whose) → whose s c ≡ w → lent_step s t out m c ≡ called s (lent_table s t m) w
  by-whose c w e = goes_on_lem s t out m p c ∙ ap (called s (lent_table s t m)) e

  -- "5 | farm number not in the sheet"
  pub farm_unknown_lem : (c : Call) (f : ℕ) (own : Own) → whose s c ≡ of_farm s f own → farm_count s ≤ f → lent_step s t out m c ≡ refuses 5
  farm_unknown_lem c f own e h = by-whose c (nobodys 5) (e ∙ ap (λ b. pick b (farms f own) (nobodys 5)) (le-ltb f (farm_count s) h))

  farm-moves : (f : ℕ) (own : Own) → f < farm_count s
      → called s (lent_table s t m) (farms f own) ≡ moved_to (lent_table s t m) f (move (farm_sheet s f) (held_at s t m f) own)
  farm-moves f own h =
      ap (λ (x : FarmSheet). moved_to (lent_table s t m) f (move x (slot (lent_table s t m) f) own)) (slot-farm s f h)
      ∙ ap (λ (x : Held). moved_to (lent_table s t m) f (move (farm_sheet s f) x own)) (slot_is s t m f (below f h))

  -- the farm is known: its own call decides
  pub farm_goes : (c : Call) (f : ℕ) (own : Own) → whose s c ≡ of_farm s f own → f < farm_count s
      → lent_step s t out m c ≡ moved_to (lent_table s t m) f (move (farm_sheet s f) (held_at s t m f) own)
  farm_goes c f own e h =
      by-whose c (farms f own) (e ∙ ap (λ b. pick b (farms f own) (nobodys 5)) (lt-ltb f (farm_count s) h)) ∙ farm-moves f own h

  -- "6 | row not open": a row that is nobody's
  pub row_unknown : (c : Call) (r : ℕ) (own : ℕ → Own) → whose s c ≡ of_owner (owner_of s r) own → owner_of s r ≡ None → lent_step s t out m c ≡ refuses 6
  row_unknown c r own e n = by-whose c (nobodys 6) (e ∙ ap (λ (o : Option (FarmNo × ℕ)). of_owner o own) n)

  -- the row is a farm's: the farm's own call decides
  pub row_goes : (c : Call) (r f seat : ℕ) (own : ℕ → Own) → whose s c ≡ of_owner (owner_of s r) own → owner_of s r ≡ Some (farm_no f, seat) → f < farm_count s
      → lent_step s t out m c ≡ moved_to (lent_table s t m) f (move (farm_sheet s f) (held_at s t m f) (own seat))
  row_goes c r f seat own e n h =
      by-whose c (farms f (own seat)) (e ∙ ap (λ (o : Option (FarmNo × ℕ)). of_owner o own) n) ∙ farm-moves f (own seat) h

  -- ---- the farm moved

  -- the memory after a change of one block
  pub left_moved : (d : Did) (f : ℕ) (x : Farm) (after : List ℕ) → f < most_farms → Only f t after → Holds (block after f) x
      → d.table ≡ set (lent_table s t m) f (record { farm = x; rooms = (held_at s t m f).rooms }) → Left s d m after m
  left_moved d f x after h only holds e =
      record {
        means =
            moved_means s t m after f x long h only holds
            ∙ ap (λ (y : Held). set (lent_table s t m) f (record { farm = x; rooms = y.rooms })) (slot_is s t m f h)
            ∙ sym e;
        whole = moved_whole s t m after f x long h only holds p.whole;
        long = moved_long s t m after f x long h only holds;
        wide = p.lendable.assembling;
        past = refl;
      }

  abbrev moved_did : ℕ → Done → Did
  moved_did f d =
      record {
        row = no_row;
        took = 0;
        items = d.items;
        long = [];
        table = set (lent_table s t m) f (record { farm = d.farm; rooms = (held_at s t m f).rooms });
      }

  -- a call that only moves a farm is served
  pub moved_served : (c : Call) (f : ℕ) (d : Done) (after output : List ℕ) (a : Answer) → f < farm_count s
      → lent_step s t out m c ≡ moved_to (lent_table s t m) f (moves (held_at s t m f) d) → Moved f d t out after output a
      → Served s (lent_step s t out m c) a (memory t out m) (memory after output m)
  moved_served c f d after output a h e x =
      subst (λ (y : Answer). Served s (lent_step s t out m c) y (memory t out m) (memory after output m)) (sym x.answer)
      (served-did s (lent_step s t out m c) (moved_did f d) t out m after output m a.length p.lendable.sheet e
      (left_moved (moved_did f d) f d.farm after (below f h) x.only x.holds refl)
      x.wrote)
