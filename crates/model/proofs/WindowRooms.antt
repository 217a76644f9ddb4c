-- A farm alone, over two assembling buffers of one shape: it has the same, whatever stood in them.
-- Assumes nothing.
use Rattle.std.proofs.Common.{Option, Some, None}
use Prim.Native.Nat.{ℕ, ◌≤◌, ◌<◌}
use mathlib.Core.Path.{◌≡◌, refl, sym, ap, ap₂, subst, ◌∙◌}
use mathlib.Core.Bool.{Bool, true, false}
use mathlib.Core.List.{List, [], ◌∷◌}
use mathlib.Core.Option.{Option as Maybe, none, some}
use native.Mathlib.Omega.{arith}
use lib.Dec.{eqb, leb, ltb}
use lib.ListN.{length, get_or, set, take, length-set, get_or-eq_default}
use lib.Seq.{get_or-set_same, get_or-set_other}
use borrow.Author.Tests.{ltb-true, ltb-false}
use Rattle.octets.specs.Choice.{pick, unless}
use Rattle.octets.specs.Search.{first_at}
use Rattle.kinds.specs.declared.Place.{Place}
use Rattle.kinds.specs.declared.RowState.{RowState}
use Rattle.kinds.specs.declared.RowState.TheVariants.{Free, Fresh, Waiting, Active}
use Rattle.kinds.specs.declared.Row.{Row}
use Rattle.model.specs.FarmSheet.{FarmSheet, slot_sheet}
use Rattle.kinds.specs.Clock.{clock_of}
use Rattle.model.specs.Row.{row_of, row_at, is_open, is_open_state, active_as, older, is_free}
use Rattle.model.specs.Stream.{Event, input_ended, wrong, finished, skipped, stream_of, Taken, taken, ended_by}
use Rattle.model.specs.Farm.{Farm, Done, and_then, with_row}
use Rattle.model.specs.Line.{settle}
use Rattle.model.specs.Bytes.{event_done, heard, taken_by, payload_by, bytes_done}
use Rattle.model.specs.Move.{Own, connect, bytes, peer_closed, link_lost, datagram, controller, Held, Given, Move, refused, gave, moves, connected_at, connects, took_bytes, bytes_by, peer_gone, link_gone, clock_run, aged, ticked, datagram_move, most_user, is_target, to_tester, controller_move, move, tick_move}
use Rattle.model.specs.Table.{Lent, least_output, assembling_size, Whose, nobodys, farms, everyones, whose, held_by}
use Rattle.model.specs.History.{Made, Has}
use Rattle.model.proofs.Cases.{split}
use Rattle.model.proofs.Rows.{row_put, row-set, row-map, open_in}
use Rattle.model.proofs.Seats.{then_keeps}
use Rattle.model.proofs.WindowAlone.{alone_by, alone_move, has_by, alone}
use Rattle.model.proofs.WindowRows.{settle_keeps, event_keeps, peer_keeps, link_keeps, tick_keeps}
use Rattle.model.proofs.WindowStream.{Agree, stored_at, agree_none, takes_alike, event_same}

-- ---- buffers that agree, for a farm

abbrev stored_in-row : Row → ℕ
stored_in-row r = stored_at r.place r.head

-- each row's two rooms are as long as each other and agree in what is stored of the message in hand
abbrev pub AgreeFor : List (List ℕ) → List (List ℕ) → Farm → Type 0
AgreeFor a b f = (i : ℕ) → Agree (stored_in-row (row_at f.rows i)) (get_or a i []) (get_or b i [])

pub record RoomsAgree (f : Farm) (a b : List (List ℕ)) : Type 0 where
  pub count : length a ≡ length b
  pub each : AgreeFor a b f

agree_same : (a b : List (List ℕ)) (f g : Farm) → f.rows ≡ g.rows → AgreeFor a b f → AgreeFor a b g
agree_same a b f g e p i = subst (λ (rows : List Row). Agree (stored_in-row (row_at rows i)) (get_or a i []) (get_or b i [])) e (p i)

-- a row between two messages has nothing stored
agree_put : (a b : List (List ℕ)) (f : Farm) (seat : ℕ) (st : RowState) → AgreeFor a b f → AgreeFor a b (with_row f seat (row_of st))
agree_put a b f seat st p i =
    row-set f.rows seat i (row_of st) (λ r. Agree (stored_in-row r) (get_or a i []) (get_or b i [])) (λ _ _. agree_none (p i).size) (p i)

agree_aged : (a b : List (List ℕ)) (f : Farm) → AgreeFor a b f → AgreeFor a b (aged (clock_run f.line f))
agree_aged a b f p = go f.line
  where
    older-rows : AgreeFor a b (aged f)
    older-rows i = rw (row-map older refl f.rows i) (p i)

    go : (line : List ℕ) → AgreeFor a b (aged (clock_run line f))
    go [] = older-rows
    go (head ∷ rest) = older-rows

-- ---- moves that are alike

pub record GivenAlike (x y : Given) : Type 0 where
  pub row : x.row ≡ y.row
  pub took : x.took ≡ y.took
  pub items : x.items ≡ y.items
  pub long : x.long ≡ y.long
  pub farm : x.held.farm ≡ y.held.farm
  pub rooms : RoomsAgree x.held.farm x.held.rooms y.held.rooms

abbrev pub Alike : Move → Move → Type 0
Alike (refused n) (refused m) = n ≡ m
Alike (refused n) (gave y) = ⊥
Alike (gave x) (refused m) = ⊥
Alike (gave x) (gave y) = GivenAlike x y

abbrev over : Farm → List (List ℕ) → Held
over f rooms = record { farm = f; rooms = rooms }

-- ---- what a bytes call brings about

ended_same : (e : Event) (p : Place) (head x y : List ℕ) → ended_by e (stream_of p head x) ≡ ended_by e (stream_of p head y)
ended_same input_ended p head x y = refl
ended_same (wrong fault) p head x y = refl
ended_same (finished kind size) p head x y = refl
ended_same (skipped size) p head x y = refl

heard_same : (seat : ℕ) (f : Farm) (n : ℕ) (e : Event) (p : Place) (head x y : List ℕ)
    → heard seat (taken n e (stream_of p head x)) f ≡ heard seat (taken n e (stream_of p head y)) f
unfolding heard
heard_same seat f n e p head x y = rw (ended_same e p head x y)

bytes_same : (own : FarmSheet) (seat : ℕ) (f : Farm) (n : ℕ) (e : Event) (p : Place) (head x y : List ℕ) → payload_by e x ≡ payload_by e y
    → bytes_done own seat (taken n e (stream_of p head x)) f ≡ bytes_done own seat (taken n e (stream_of p head y)) f
unfolding bytes_done
bytes_same own seat f n e p head x y h =
    ap (λ (d : Done). and_then d (settle own))
    (event_same own seat e x y (heard seat (taken n e (stream_of p head x)) f) h ∙ ap (event_done own seat e y) (heard_same seat f n e p head x y))

bytes_keeps : (a b : List (List ℕ)) (own : FarmSheet) (seat : ℕ) (f : Farm) (t : Taken) → AgreeFor a b (heard seat t f)
    → AgreeFor a b (bytes_done own seat t f).farm
unfolding bytes_done
bytes_keeps a b own seat f t p =
    then_keeps (AgreeFor a b) (event_done own seat t.event t.stream.room (heard seat t f)) (settle own)
    (event_keeps own (AgreeFor a b) (agree_same a b) (agree_put a b) seat t.event t.stream.room (heard seat t f) p)
    (settle_keeps own (AgreeFor a b) (agree_same a b) (agree_put a b))

module _ (own : FarmSheet) (f : Farm) (a b : List (List ℕ)) (k : RoomsAgree f a b) where
  -- what the farm does without its rooms
  moves_alike : (d : Done) → AgreeFor a b d.farm → Alike (moves (over f a) d) (moves (over f b) d)
  moves_alike d p =
      record { row = refl; took = refl; items = refl; long = refl; farm = refl; rooms = record { count = k.count; each = p } }

  stays : AgreeFor a b f
  stays = k.each

  connect_alike : (x : Option ℕ) → Alike (connected_at own (over f a) x) (connected_at own (over f b) x)
  connect_alike None = refl
  connect_alike (Some seat) =
      record {
        row = refl;
        took = refl;
        items = refl;
        long = refl;
        farm = refl;
        rooms = record { count = k.count; each = agree_put a b f seat (Fresh (clock_of 0)) stays };
      }

  tester_alike : (from to : ℕ) (user : List ℕ) (x : Option ℕ)
      → Alike (to_tester own (over f a) from to user x) (to_tester own (over f b) from to user x)
  tester_alike from to user None = refl
  tester_alike from to user (Some seat) = record { row = refl; took = refl; items = refl; long = refl; farm = refl; rooms = k }

  -- the same test refuses on both sides
  unless_alike : (t : Bool) (n : ℕ) (x y : Move) → Alike x y → Alike (unless t (refused n) x) (unless t (refused n) y)
  unless_alike true n x y e = e
  unless_alike false n x y e = refl

  pick_alike : (t : Bool) (n : ℕ) (x y : Move) → Alike x y → Alike (pick t x (refused n)) (pick t y (refused n))
  pick_alike true n x y e = e
  pick_alike false n x y e = refl

  -- ---- bytes

  module _ (seat : ℕ) (inside : seat < length f.rows) where
    -- the row with its new place, over the rooms with what was stored
    heard_agree : (n : ℕ) (e : Event) (p : Place) (head x y : List ℕ) → Agree (stored_at p head) x y
        → AgreeFor (set a seat x) (set b seat y) (heard seat (taken n e (stream_of p head x)) f)
    unfolding heard
    heard_agree n e p head x y g i =
        row_put f.rows seat i _ inside (λ r. Agree (stored_in-row r) (get_or (set a seat x) i []) (get_or (set b seat y) i [])) here there
      where
        here : i ≡ seat → Agree (stored_at p head) (get_or (set a seat x) i []) (get_or (set b seat y) i [])
        here z =
            split (ltb seat (length a))
            (λ l.
            let h : seat < length a = ltb-true seat (length a) l in
            rw (z, get_or-set_same a seat x [] h, get_or-set_same b seat y [] (omega (arith, k.count))) g)
            (λ l.
            let h : length a ≤ seat = ltb-false seat (length a) l in
            let u = get_or-eq_default (set a seat x) [] {n = seat} (omega (arith, length-set a seat x)) in
            let v = get_or-eq_default (set b seat y) [] {n = seat} (omega (arith, length-set b seat y, k.count)) in
            rw (z, u, v)
            (record { size = refl; first = refl }))

        there : (i ≡ seat → ⊥) → Agree (stored_in-row (row_at f.rows i)) (get_or (set a seat x) i []) (get_or (set b seat y) i [])
        there z = rw (get_or-set_other a seat i x [] z, get_or-set_other b seat i y [] z) (stays i)

    took_alike : (n : ℕ) (e : Event) (p : Place) (head x y : List ℕ) → Agree (stored_at p head) x y → payload_by e x ≡ payload_by e y
        → Alike (took_bytes own (over f a) seat (taken n e (stream_of p head x))) (took_bytes own (over f b) seat (taken n e (stream_of p head y)))
    took_alike n e p head x y g h =
        let same = bytes_same own seat f n e p head x y h in
        record {
          row = refl;
          took = refl;
          items = ap (λ (d : Done). d.items) same;
          long = h;
          farm = ap (λ (d : Done). d.farm) same;
          rooms =
              record {
                count = length-set a seat x ∙ k.count ∙ sym (length-set b seat y);
                each = bytes_keeps (set a seat x) (set b seat y) own seat f (taken n e (stream_of p head x)) (heard_agree n e p head x y g);
              };
        }

  bytes_alike : (seat : ℕ) (input : List ℕ) → is_open (row_at f.rows seat) ≡ true
      → Alike (took_bytes own (over f a) seat (taken_by seat (get_or a seat []) input f))
      (took_bytes own (over f b) seat (taken_by seat (get_or b seat []) input f))
  bytes_alike seat input o =
      takes_alike input (λ t u. Alike (took_bytes own (over f a) seat t) (took_bytes own (over f b) seat u)) (took_alike seat (open_in f.rows seat o))
      (row_at f.rows seat).place (row_at f.rows seat).head (get_or a seat []) (get_or b seat []) (stays seat)

  by_state_lem : (seat : ℕ) (input : List ℕ) (st : RowState) → (row_at f.rows seat).state ≡ st
      → Alike (bytes_by own (over f a) seat input st) (bytes_by own (over f b) seat input st)
  by_state_lem seat input Free e = refl
  by_state_lem seat input (Fresh age) e = bytes_alike seat input (ap is_open_state e)
  by_state_lem seat input (Waiting q) e = refl
  by_state_lem seat input (Active address idle) e = bytes_alike seat input (ap is_open_state e)

  -- ---- all calls

  pub move_alike : (c : Own) → Alike (move own (over f a) c) (move own (over f b) c)
  unfolding move connects datagram_move controller_move
  move_alike connect = connect_alike (first_at is_free 0 (take own.rows f.rows))
  move_alike (bytes seat input) = by_state_lem seat input (row_at f.rows seat).state refl
  move_alike (peer_closed seat) =
      pick_alike (is_open (row_at f.rows seat)) 6 _ _
      (moves_alike (peer_gone own seat f) (peer_keeps own (AgreeFor a b) (agree_same a b) (agree_put a b) seat f stays))
  move_alike link_lost = moves_alike (link_gone own f) (link_keeps own (AgreeFor a b) (agree_same a b) (agree_put a b) f stays)
  move_alike (datagram input) = record { row = refl; took = refl; items = refl; long = refl; farm = refl; rooms = k }
  move_alike (controller from to user) =
      unless_alike (leb 1 (length user)) 9 _ _
      (unless_alike (leb (length user) most_user) 9 _ _
      (unless_alike (is_target (own.target from)) 10 _ _ (tester_alike from to user (first_at (active_as to) 0 f.rows))))

  pub tick_alike : Alike (tick_move own (over f a)) (tick_move own (over f b))
  unfolding tick_move
  tick_alike = moves_alike (ticked own f) (tick_keeps own (AgreeFor a b) (agree_same a b) (agree_put a b) f (agree_aged a b f stays))

  alone_by_lem : (l : Lent) (w : Whose) → Alike (alone_by own (over f a) l w) (alone_by own (over f b) l w)
  alone_by_lem l (nobodys n) = refl
  alone_by_lem l (farms g c) =
      unless_alike (leb least_output l.output) 2 _ _ (unless_alike (eqb l.assembling assembling_size) 3 _ _ (move_alike c))
  alone_by_lem l everyones = tick_alike

-- ---- a history of a farm alone

pub record HeldAlike (h k : Held) : Type 0 where
  pub farm : h.farm ≡ k.farm
  pub rooms : RoomsAgree h.farm h.rooms k.rooms

-- what the farm has of alike moves is the same, and what it holds then is alike
has_same : (h k : Held) (x y : Move) → HeldAlike h k → Alike x y → has_by h x ≡ has_by k y
has_same h k (refused n) (refused m) a e = rw (e, a.farm)
has_same h k (refused n) (gave y) a e = absurd e
has_same h k (gave x) (refused m) a e = absurd e
has_same h k (gave x) (gave y) a e = rw (e.row, e.took, e.items, e.long, e.farm)

held_alike : (h k : Held) (x y : Move) → HeldAlike h k → Alike x y → HeldAlike (held_by h x) (held_by k y)
held_alike h k (refused n) (refused m) a e = a
held_alike h k (refused n) (gave y) a e = absurd e
held_alike h k (gave x) (refused m) a e = absurd e
held_alike h k (gave x) (gave y) a e = record { farm = e.farm; rooms = e.rooms }

module _ (s : List ℕ) (g : ℕ) where
  seen_alike : (h k : Held) → HeldAlike h k → (c : Maybe Made) → Alike (alone_move s g h c) (alone_move s g k c)
  seen_alike h k a c =
      subst (λ (f : Farm). Alike (alone_move s g h c) (alone_move s g (over f k.rooms) c)) a.farm (go c)
    where
      go : (c : Maybe Made) → Alike (alone_move s g h c) (alone_move s g (over h.farm k.rooms) c)
      go (some m) = alone_by_lem (slot_sheet s g) h.farm h.rooms k.rooms a.rooms m.lent (whose s m.call)
      go none = tick_alike (slot_sheet s g) h.farm h.rooms k.rooms a.rooms

  -- WHAT STOOD IN THE BUFFER NEVER MATTERS: a farm alone has the same of the same calls.
  pub alone_same : (cs : List (Maybe Made)) (h k : Held) → HeldAlike h k → alone s g h cs ≡ alone s g k cs
  unfolding alone
  alone_same [] h k a = refl
  alone_same (c ∷ cs) h k a =
      let m = seen_alike h k a c in
      ap₂ {A = Has} {B = List Has} {C = List Has} (λ x xs. x ∷ xs) (has_same h k (alone_move s g h c) (alone_move s g k c) a m)
      (alone_same cs (held_by h (alone_move s g h c)) (held_by k (alone_move s g k c)) (held_alike h k (alone_move s g h c) (alone_move s g k c) a m))
