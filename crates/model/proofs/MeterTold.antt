-- The logs and meters of a farm after each of its own calls, and that no call of a farm closes a row of another.
-- Assumes nothing.
use Rattle.std.proofs.Common.{Option, Some, None}
use Prim.{Unit, tt}
use Prim.Native.Nat.{ℕ, ◌+◌, ◌<◌}
use mathlib.Core.Path.{◌≡◌, refl, sym, ap, subst, ◌∙◌}
use mathlib.Core.Bool.{true, false, false≢true}
use mathlib.Core.List.{List, [], ◌∷◌, ◌++◌, append-nil}
use native.Mathlib.Nat.{add-zero}
use native.Mathlib.Omega.{arith}
use lib.Dec.{eqb}
use lib.ListN.{get_or, take}
use borrow.Author.Tests.{eqb-true, eq-eqb, ne_eqb, le-leb, lt-ltb}
use Rattle.octets.specs.Choice.{pick, both}
use Rattle.octets.specs.Search.{first_at}
use Rattle.kinds.specs.declared.RowState.{RowState}
use Rattle.kinds.specs.declared.RowState.TheVariants.{Free, Fresh, Waiting, Active}
use Rattle.kinds.specs.declared.Place.{Place}
use Rattle.kinds.specs.declared.Item.{Item}
use Rattle.kinds.specs.declared.Reply.TheVariants.{Close}
use Rattle.model.specs.FarmSheet.{FarmSheet}
use Rattle.model.specs.Row.{row_at, fresh_row, is_free_state, is_free}
use Rattle.model.specs.Farm.{Farm, with_row, says, closed}
use Rattle.model.specs.Bytes.{heard, taken_by}
use Rattle.model.specs.Move.{Own, connect, bytes, peer_closed, link_lost, datagram, controller, Held, Move, refused, gave, connected_at, connects, bytes_by, ticked, move}
use Rattle.model.specs.Rule.{Good}
use Rattle.model.specs.Table.{Call, connect_to, bytes_from, peer_closed_on, link_lost_of, datagram_to, message_from}
use Rattle.model.specs.Meter.{Log, took, begun, filed_by, is_close, bytes_on, is_connect, owns_row, took_on}
use Rattle.model.proofs.Cases.{pick_case}
use Rattle.model.proofs.MeterDoings.{Laws, open_below}
use Rattle.model.proofs.MeterMove.{Got, bytes_got, opens_at, connect_got, peer_got, link_got, datagram_got, message_got, tick_keeps}
use Rattle.model.proofs.MeterLog.{TiedBy, Logged, logged_same, after, filed_append, filed_quiet}
use Rattle.model.proofs.MeterNote.{logged_laws, Notes, hears_logged}

-- ---- no closing on a row that is not the farm's

-- the row r is none of the farm's
abbrev pub Foreign : FarmSheet → ℕ → Type 0
Foreign own r = (k : ℕ) → k < own.rows → own.first + k ≡ r → ⊥

-- the entries end no connection on such a row
abbrev pub Quiet : FarmSheet → List Item → Type 0
Quiet own is = (r : ℕ) → Foreign own r → (l : Log) → filed_by r is l ≡ l

quiet_none : (own : FarmSheet) → Quiet own []
unfolding filed_by
quiet_none own r a l = refl

quiet_speaks : (own : FarmSheet) (is : List Item) (it : Item) → is_close it.reply ≡ false → Quiet own is → Quiet own (is ++ (it ∷ []))
quiet_speaks own is it e q r a l = filed_quiet r is it l e ∙ q r a l

quiet_closes : (own : FarmSheet) (is : List Item) (seat : ℕ) (f : Farm) → seat < own.rows → Quiet own is → Quiet own (is ++ (closed own seat f).items)
unfolding closed filed_by
quiet_closes own is seat f b q r a l =
    filed_append r is (says own seat Close ∷ []) l ∙ rw (ne_eqb (own.first + seat) r (a seat b)) (q r a l)

quiet_laws : (own : FarmSheet) → Laws own (λ is f. Quiet own is)
quiet_laws own =
    record {
      closes = λ is seat f b q. quiet_closes own is seat f b q;
      puts = λ is seat s f b o e q. q;
      speaks = λ is it f e q. quiet_speaks own is it e q;
      lines = λ is f line clock marks q. q;
      ages = λ is f q. q;
    }

pub move_quiet : (own : FarmSheet) (h : Held) (c : Own) → Good own h.farm → Got (λ is f. Quiet own is) (move own h c)
move_quiet own h connect good = connect_got (quiet_laws own) h (quiet_none own)
move_quiet own h (bytes seat input) good =
    bytes_got (quiet_laws own) h good seat input
    (λ w. record {
      goes = λ _. quiet_none own;
      shuts = λ _ it e. quiet_closes own (it ∷ []) seat (heard seat (taken_by seat (get_or h.rooms seat []) input h.farm) h.farm)
          (open_below own h.farm good.within seat w.0) (quiet_speaks own [] it e (quiet_none own));
    })
move_quiet own h (peer_closed seat) good = peer_got (quiet_laws own) h good seat (quiet_none own)
move_quiet own h link_lost good = link_got (quiet_laws own) h good (quiet_none own)
move_quiet own h (datagram input) good = datagram_got (quiet_laws own) h input (quiet_none own)
move_quiet own h (controller from to user) good = message_got (quiet_laws own) h from to user (quiet_none own)

pub tick_quiet : (own : FarmSheet) (f : Farm) → Good own f → Quiet own (ticked own f).items
tick_quiet own f good = tick_keeps (quiet_laws own) f good (quiet_none own)

-- ---- a farm's own call

same_now : (a b : List ℕ) (e : List (List ℕ)) → a ≡ b → ◌≡◌ {A = Log} (record { now = a; ended = e }) (record { now = b; ended = e })
same_now a b e p = ap {B = Log} (λ (x : List ℕ). record { now = x; ended = e }) p

pub took-none : (l : Log) → took [] l ≡ l
took-none l = same_now (l.now ++ []) l.now l.ended (append-nil l.now)

module _ (own : FarmSheet) (T : ℕ) (L : ℕ → Log) where
  -- the logs before the closings: a connect that opens the row begins a log, then come the bytes taken
  abbrev pub based : Call → ℕ → ℕ → ℕ → Log
  based call row n i = took (bytes_on (own.first + i) call n) (pick (both (is_connect call) (eqb row (own.first + i))) (begun (L i)) (L i))

  -- what the answer to the call comes to
  abbrev pub Told : Call → Move → Type 0
  Told call (refused n) = Unit {0}
  Told call (gave x) = Logged own (T + took_on own call x.took) (after own x.items (based call x.row x.took)) x.held.farm

  -- logs that no bytes and no connect change
  told_of : (call : Call) (m : Move) → ((n : ℕ) → took_on own call n ≡ 0) → ((row n i : ℕ) → based call row n i ≡ L i)
      → Got (λ is f. Logged own T (after own is L) f) m → Told call m
  told_of call (refused n) z e q = tt
  told_of call (gave x) z e q =
      subst (λ (k : ℕ). Logged own k (after own x.items (based call x.row x.took)) x.held.farm) (sym (ap (λ (k : ℕ). T + k) (z x.took) ∙ add-zero T))
      (logged_same own T (after own x.items L) (after own x.items (based call x.row x.took)) x.held.farm
      (λ i _. ap (filed_by (own.first + i) x.items) (e x.row x.took i)) q)

  start_logged : (f : Farm) → Logged own T L f → Logged own T (after own [] L) f
  unfolding filed_by
  start_logged f h = h

  module _ (h : Held) (good : Good own h.farm) (logged : Logged own T L h.farm) where
    pub told_peer : (row seat : ℕ) → Told (peer_closed_on row) (move own h (peer_closed seat))
    told_peer row seat =
        told_of (peer_closed_on row) (move own h (peer_closed seat)) (λ _. refl) (λ _ _ i. took-none (L i))
        (peer_got (logged_laws own T L) h good seat (start_logged h.farm logged))

    pub told_link : (f : ℕ) → Told (link_lost_of f) (move own h link_lost)
    told_link f =
        told_of (link_lost_of f) (move own h link_lost) (λ _. refl) (λ _ _ i. took-none (L i))
        (link_got (logged_laws own T L) h good (start_logged h.farm logged))

    pub told_datagram : (f : ℕ) (input : List ℕ) → Told (datagram_to f input) (move own h (datagram input))
    told_datagram f input =
        told_of (datagram_to f input) (move own h (datagram input)) (λ _. refl) (λ _ _ i. took-none (L i))
        (datagram_got (logged_laws own T L) h input (start_logged h.farm logged))

    pub told_message : (f from to : ℕ) (user : List ℕ) → Told (message_from f from to user) (move own h (controller from to user))
    told_message f from to user =
        told_of (message_from f from to user) (move own h (controller from to user)) (λ _. refl) (λ _ _ i. took-none (L i))
        (message_got (logged_laws own T L) h from to user (start_logged h.farm logged))

    -- a row that is free has no bytes: a new log is the log that it has
    free_begun : (s : RowState) (p : Place) (head : List ℕ) (l : Log) → is_free_state s ≡ true → TiedBy s p head l.now → begun l ≡ l
    free_begun Free p head l e z = same_now [] l.now l.ended (sym z)
    free_begun (Fresh c) p head l e z = absurd (false≢true e)
    free_begun (Waiting q) p head l e z = absurd (false≢true e)
    free_begun (Active a c) p head l e z = absurd (false≢true e)

    connected_told : (f : ℕ) (x : Option ℕ) → first_at is_free 0 (take own.rows h.farm.rows) ≡ x
        → Got (λ is f. Logged own T (after own is L) f) (connected_at own h x) → Told (connect_to f) (connected_at own h x)
    connected_told f None e q = tt
    connected_told f (Some seat) e q =
        subst (λ (k : ℕ). Logged own k (after own [] (based (connect_to f) (own.first + seat) 0)) (with_row h.farm seat fresh_row)) (sym (add-zero T))
        (logged_same own T (after own [] L) (after own [] (based (connect_to f) (own.first + seat) 0)) (with_row h.farm seat fresh_row)
        (λ i _. ap (filed_by (own.first + i) []) (took-none _ ∙ opened i)) q)
      where
        opened : (i : ℕ) → pick (eqb (own.first + seat) (own.first + i)) (begun (L i)) (L i) ≡ L i
        opened i =
            pick_case (λ (l : Log). l ≡ L i) (eqb (own.first + seat) (own.first + i)) (begun (L i)) (L i)
            (λ t. let z : seat ≡ i = omega (arith, eqb-true (own.first + seat) (own.first + i) t) in
            subst (λ (k : ℕ). begun (L k) ≡ L k) z
            (let o = opens_at own h.farm seat e in
            free_begun (row_at h.farm.rows seat).state (row_at h.farm.rows seat).place (row_at h.farm.rows seat).head (L seat) o.is_freed
            (logged.tied seat o.below)))
            (λ _. refl)

    pub told_connect : (f : ℕ) → Told (connect_to f) (move own h connect)
    unfolding move connects
    told_connect f =
        connected_told f (first_at is_free 0 (take own.rows h.farm.rows)) refl
        (connect_got (logged_laws own T L) h (start_logged h.farm logged))

    -- bytes from a row of the farm
    module _ (row seat : ℕ) (is_row : own.first + seat ≡ row) (b : seat < own.rows) (input : List ℕ) where
      count : ℕ
      count = (taken_by seat (get_or h.rooms seat []) input h.farm).count

      heard_logs : ℕ → Log
      heard_logs i = took (pick (eqb row (own.first + i)) (take count input) []) (L i)

      owns : owns_row own row ≡ true
      owns = rw (le-leb own.first row (omega arith)) (lt-ltb row (own.first + own.rows) (omega arith))

      notes : Notes seat (take count input) L heard_logs
      unfolding heard_logs
      notes =
          record {
            this = rw (eq-eqb row (own.first + seat) (sym is_row)) refl;
            others = λ i n. rw (ne_eqb row (own.first + i) (λ e. n (omega arith))) (took-none (L i));
          }

      bytes_told : (s : RowState) → Got (λ is f. Logged own (T + count) (after own is heard_logs) f) (bytes_by own h seat input s)
          → Told (bytes_from row input) (bytes_by own h seat input s)
      unfolding heard_logs count
      bytes_told Free q = tt
      bytes_told (Fresh age) q = rw owns q
      bytes_told (Waiting r) q = tt
      bytes_told (Active a idle) q = rw owns q

      pub told_bytes : Told (bytes_from row input) (move own h (bytes seat input))
      unfolding move heard_logs count
      told_bytes =
          bytes_told (row_at h.farm.rows seat).state
          (bytes_got (logged_laws own (T + count) heard_logs) h good seat input
          (λ w. hears_logged good seat b w (get_or h.rooms seat []) input T L heard_logs notes logged))

  pub told_tick : (f : Farm) → Good own f → Logged own T L f → Logged own T (after own (ticked own f).items L) (ticked own f).farm
  told_tick f good logged = tick_keeps (logged_laws own T L) f good (start_logged f logged)
