-- The meters of one farm: every call and every tick keeps the difference of the two sides of the meter equation.
-- Assumes nothing.
use Prim.Native.Nat.{ℕ, ◌+◌}
use mathlib.Core.Path.{◌≡◌, sym, ap, ◌∙◌}
use mathlib.Core.List.{List, []}
use native.Mathlib.Omega.{arith}
use lib.ListN.{get_or, set}
use Rattle.kinds.specs.declared.Row.{Row}
use Rattle.model.specs.FarmSheet.{FarmSheet}
use Rattle.model.specs.Row.{row_of, free_row, row_at, in_hand_at, in_hand}
use Rattle.model.specs.Stream.{Taken, ended_by}
use Rattle.model.specs.Farm.{Farm, wrap, closed}
use Rattle.model.specs.Bytes.{heard_row, heard, taken_by}
use Rattle.model.specs.Move.{Own, connect, bytes, peer_closed, link_lost, datagram, controller, Held, Move, refused, gave, ticked, move}
use Rattle.model.specs.Rule.{Good}
use Rattle.model.specs.Table.{held_by}
use Rattle.model.specs.Meter.{hands, Differs}
use Rattle.model.proofs.Rows.{open_in}
use Rattle.model.proofs.MeterBalance.{wrap_left, wrap-more, wrap-right, fits_of, takes_balance, hands_same, hands-set, hands_free, hand_open, hand_boundary, hands-older}
use Rattle.model.proofs.MeterDoings.{Laws}
use Rattle.model.proofs.MeterMove.{Talks, heard_hand, Got, Hears, bytes_got, connect_got, peer_got, link_got, datagram_got, message_got, tick_keeps}

-- the sum of the bytes in hand stands where it stood
hands_alike : (d : ℕ) (f : Farm) (n : ℕ) → n ≡ hands f.rows → Differs d f
    → wrap (f.meters.taken + d) ≡ wrap (f.meters.finished + (f.meters.lost + n))
hands_alike d f n e h = h ∙ ap (λ (k : ℕ). wrap (f.meters.finished + (f.meters.lost + k))) (sym e)

closed_differs : (d : ℕ) (own : FarmSheet) (seat : ℕ) (f : Farm) → Differs d f → Differs d (closed own seat f).farm
unfolding closed
closed_differs d own seat f e =
    e ∙ ap (λ (x : ℕ). wrap (f.meters.finished + x)) (lost-here f.meters.lost _ _ _ (hands_free f.rows seat)) ∙
    sym (wrap-right f.meters.finished (f.meters.lost + in_hand (row_at f.rows seat)) (hands (set f.rows seat free_row)))
  where
    lost-here : (a x y z : ℕ) → x + y ≡ z → a + z ≡ a + y + x
    lost-here a x y z e = omega arith

differs_laws : (d : ℕ) (own : FarmSheet) → Laws own (λ is f. Differs d f)
differs_laws d own =
    record {
      closes = λ is seat f b e. closed_differs d own seat f e;
      puts = λ is seat s f b o h e. hands_alike d f (hands (set f.rows seat (row_of s))) (hands_same f.rows seat (row_of s) (hand_boundary s ∙ sym h)) e;
      speaks = λ is it f c e. e;
      lines = λ is f line clock marks e. e;
      ages = λ is f e. hands_alike d f _ (hands-older f.rows) e;
    }

module _ {own : FarmSheet} {f : Farm} (good : Good own f) (seat : ℕ) (talks : Talks (row_at f.rows seat).state) where
  heard_differs : (d : ℕ) (t : Taken)
      → in_hand_at (row_at f.rows seat).place + t.count ≡ ended_by t.event t.stream + in_hand_at t.stream.place → Differs d f
      → Differs d (heard seat t f)
  unfolding heard
  heard_differs d t b e =
      wrap_left (f.meters.taken + t.count) d ∙ ap wrap (turn f.meters.taken t.count d) ∙
      wrap-more _ _ t.count e ∙
      ap wrap (join f.meters.finished f.meters.lost) ∙
      sym (wrap_left (f.meters.finished + ended_by t.event t.stream) (f.meters.lost + hands (set f.rows seat x)))
    where
      x : Row
      x = heard_row t.count t.stream (row_at f.rows seat)

      turn : (a b c : ℕ) → a + b + c ≡ a + c + b
      turn a b c = omega arith

      join : (a l : ℕ) → a + (l + hands f.rows) + t.count ≡ a + ended_by t.event t.stream + (l + hands (set f.rows seat x))
      join a l =
          omega (
            arith,
            b,
            heard_hand good seat talks t,
            hand_open (row_at f.rows seat).state (row_at f.rows seat).place talks.0,
            hands-set f.rows seat x (open_in f.rows seat talks.0),
          )

  hears_differs : (d : ℕ) (room input : List ℕ) → Differs d f → Hears own (λ is x. Differs d x) seat (taken_by seat room input f) f
  hears_differs d room input e =
      let h : Differs d (heard seat (taken_by seat room input f) f) =
      heard_differs d (taken_by seat room input f)
      (takes_balance _ input (fits_of (row_at f.rows seat).place (row_at f.rows seat).head (good.possible seat))) e in
      record { goes = λ _. h; shuts = λ _ it _. closed_differs d own seat (heard seat (taken_by seat room input f) f) h }

got_differs : (d : ℕ) (h : Held) (m : Move) → Differs d h.farm → Got (λ is f. Differs d f) m → Differs d (held_by h m).farm
got_differs d h (refused n) e k = e
got_differs d h (gave g) e k = k

-- EVERY TICK keeps the difference.
pub tick_differs : (d : ℕ) (own : FarmSheet) (f : Farm) → Good own f → Differs d f → Differs d (ticked own f).farm
tick_differs d own f good e = tick_keeps (differs_laws d own) f good e

move_got : (d : ℕ) (own : FarmSheet) (h : Held) (c : Own) → Good own h.farm → Differs d h.farm → Got (λ is f. Differs d f) (move own h c)
move_got d own h connect good e = connect_got (differs_laws d own) h e
move_got d own h (bytes seat input) good e =
    bytes_got (differs_laws d own) h good seat input (λ w. hears_differs good seat w d (get_or h.rooms seat []) input e)
move_got d own h (peer_closed seat) good e = peer_got (differs_laws d own) h good seat e
move_got d own h link_lost good e = link_got (differs_laws d own) h good e
move_got d own h (datagram input) good e = datagram_got (differs_laws d own) h input e
move_got d own h (controller from to user) good e = message_got (differs_laws d own) h from to user e

-- EVERY CALL of a farm keeps the difference, on every farm that keeps rule 4, whatever its meters are.
pub move_differs : (d : ℕ) (own : FarmSheet) (h : Held) (c : Own) → Good own h.farm → Differs d h.farm
    → Differs d (held_by h (move own h c)).farm
move_differs d own h c good e = got_differs d h (move own h c) e (move_got d own h c good e)
