-- Demand 3, the neighbour clause: no farm can dry out its neighbour.
-- Assumes nothing.
use Prim.Native.Nat.{ℕ, zero, suc, ◌<◌}
use mathlib.Core.Path.{◌≡◌, refl, sym, ap, ◌∙◌}
use mathlib.Core.List.{List, [], ◌∷◌}
use native.Mathlib.Omega.{arith}
use lib.ListN.{length, get_or}
use Rattle.sheet.specs.Sheet.{farm_count}
use Rattle.sheet.specs.Rules.{GoodSheet}
use Rattle.sheet.proofs.TestLaws.{good-says}
use Rattle.model.specs.Farm.{seat_count, new_farm}
use Rattle.model.specs.Move.{Held}
use Rattle.model.specs.Table.{slot}
use Rattle.model.specs.History.{Made, fresh, run, calls_of, has_of}
use Rattle.model.proofs.Rows.{row_free}
use Rattle.model.proofs.TableTest.{fresh_test}
use Rattle.model.proofs.WindowAlone.{alone, held_after}
use Rattle.model.proofs.Window.{window, held_window, mine_of, calls_same}
use Rattle.model.proofs.WindowStream.{agree_none}
use Rattle.model.proofs.WindowRooms.{HeldAlike, alone_same}

-- a new farm over its rooms
abbrev pub new_held : List (List ℕ) → Held
new_held rooms = record { farm = new_farm; rooms = rooms }

pub fresh-length : (rooms : List (List (List ℕ))) → length (fresh rooms) ≡ length rooms
fresh-length [] = refl
fresh-length (r ∷ rs) = ap suc (fresh-length rs)

pub fresh-slot : (rooms : List (List (List ℕ))) (g : ℕ) → slot (fresh rooms) g ≡ new_held (get_or rooms g [])
fresh-slot [] g = refl
fresh-slot (r ∷ rs) zero = refl
fresh-slot (r ∷ rs) (suc g) = fresh-slot rs g

module _ (s : List ℕ) (good : GoodSheet s) (g : ℕ) (inSheet : g < farm_count s) (rooms : List (List (List ℕ))) (inRooms : g < length rooms) where
  in_fresh : g < length (fresh rooms)
  in_fresh = omega (arith, fresh-length rooms)

  -- what farm g has of a history from a fresh table, and what it holds after it, is what it would have and hold alone
  pub has_alone : (ms : List Made) → has_of s g (fresh rooms) ms ≡ alone s g (new_held (get_or rooms g [])) (calls_of s g (fresh rooms) ms)
  has_alone ms =
      window s ((good-says s).all good) g inSheet (fresh rooms) in_fresh (fresh_test s rooms) ms
      ∙ ap (λ (h : Held). alone s g h (calls_of s g (fresh rooms) ms)) (fresh-slot rooms g)

  pub held_alone : (ms : List Made) → slot (run s (fresh rooms) ms) g ≡ held_after s g (new_held (get_or rooms g [])) (calls_of s g (fresh rooms) ms)
  held_alone ms =
      held_window s ((good-says s).all good) g inSheet (fresh rooms) in_fresh (fresh_test s rooms) ms
      ∙ ap (λ (h : Held). held_after s g h (calls_of s g (fresh rooms) ms)) (fresh-slot rooms g)

  -- THE NEIGHBOUR CLAUSE. "two such histories under the same sheet that agree on one farm's calls and on the accepted ticks, in their order,
  -- give that farm the same answers, replies and meters, whatever the other farms do": from a fresh table, under a good sheet, for each farm of
  -- the sheet.
  pub neighbour : (ms ns : List Made) → calls_of s g (fresh rooms) ms ≡ calls_of s g (fresh rooms) ns
      → has_of s g (fresh rooms) ms ≡ has_of s g (fresh rooms) ns
  neighbour ms ns e = has_alone ms ∙ ap (alone s g (new_held (get_or rooms g []))) e ∙ sym (has_alone ns)

  -- and leave it with the same rows, line, clock, marks, meters and rooms
  pub neighbour_holds : (ms ns : List Made) → calls_of s g (fresh rooms) ms ≡ calls_of s g (fresh rooms) ns
      → slot (run s (fresh rooms) ms) g ≡ slot (run s (fresh rooms) ns) g
  neighbour_holds ms ns e = held_alone ms ∙ ap (held_after s g (new_held (get_or rooms g []))) e ∙ sym (held_alone ns)

  -- so the farm has what it would have if no other farm ever called
  pub silent_neighbours : (ms : List Made) → has_of s g (fresh rooms) ms ≡ has_of s g (fresh rooms) (mine_of s g (fresh rooms) ms)
  silent_neighbours ms =
      neighbour ms (mine_of s g (fresh rooms) ms)
      (sym (calls_same s ((good-says s).all good) g (fresh rooms) (fresh rooms) (fresh_test s rooms) (fresh_test s rooms) ms))

-- ---- the same over two assembling buffers

-- buffers of one shape: as many rooms, and each as long as the other's
pub record SameShape (a b : List (List ℕ)) : Type 0 where
  pub count : length a ≡ length b
  pub each : (i : ℕ) → length (get_or a i []) ≡ length (get_or b i [])

-- a new farm has no message in hand
new_alike : (a b : List (List ℕ)) → SameShape a b → HeldAlike (new_held a) (new_held b)
unfolding new_farm
new_alike a b h = record { farm = refl; rooms = record { count = h.count; each = λ i. rw (row_free seat_count i) (agree_none (h.each i)) } }

module _ (s : List ℕ) (good : GoodSheet s) (g : ℕ) (inSheet : g < farm_count s) where
  -- THE NEIGHBOUR CLAUSE, whatever stood in the assembling buffers: what stands in a room before a message is read never matters, because every byte of a
  -- stored payload is written before it is looked at.
  pub neighbour_any : (a b : List (List (List ℕ))) → g < length a → g < length b → SameShape (get_or a g []) (get_or b g [])
      → (ms ns : List Made) → calls_of s g (fresh a) ms ≡ calls_of s g (fresh b) ns → has_of s g (fresh a) ms ≡ has_of s g (fresh b) ns
  neighbour_any a b ia ib shape ms ns e =
      has_alone s good g inSheet a ia ms
      ∙ alone_same s g (calls_of s g (fresh a) ms) (new_held (get_or a g [])) (new_held (get_or b g [])) (new_alike (get_or a g []) (get_or b g []) shape)
      ∙ ap (alone s g (new_held (get_or b g []))) e
      ∙ sym (has_alone s good g inSheet b ib ns)
